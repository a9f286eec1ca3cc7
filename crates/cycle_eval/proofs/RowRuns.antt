-- Runs over a part of a record, and the true states of a record.
use Rattle.std.proofs.Common.{◌≡◌, ◌∙◌, ℕ, zero, suc, ◌-◌, ◌≤◌, List, [], ◌∷◌, ◌++◌, Result, Ok, Err, length, take, drop, refl, sym, ap, subst, zero-add, arith}
use Rattle.std.specs.Prelude.{IfOk}
use Rattle.std.proofs.lemmas.List.{length-append, length-drop, length-take, take-append-drop, take-append-le, length-take-le}
use Rattle.machine.specs.Rows.{between, slice, Covers}
use Rattle.typed_ir.specs.RunLaws.{seg_more}
use Rattle.typed_ir.specs.Cycles.{Flat, initial_at, input, reset, seg, step, truth, width_at}
use Rattle.cycle_eval.specs.DesignLaws.{driven_first, paired_values, run_fits, run_values, seg_first, seg_later}
use Rattle.cycle_eval.specs.Inputs.{row_values, values_at}
use Rattle.cycle_eval.specs.Kits.{Fits, driven, reset_of, run_of}
use Rattle.reg_transform.specs.States.{state_values}

-- ---- parts of a record

-- without rows a run is the same from each cycle on
no_rows_from : (design : Flat) (a n : ℕ) (values : List ℕ) → seg design (values_at design []) a n values ≡ seg design (values_at design []) 0 n values
no_rows_from design a zero values = refl
no_rows_from design a (suc n) values = ap (λ s. step design s (input design [])) (no_rows_from design a n values)

-- the rows from a cycle on
seg_from : (design : Flat) (rows : List (List (ℕ × ℕ))) (a n : ℕ) (values : List ℕ)
    → seg design (values_at design rows) a n values ≡ seg design (values_at design (drop a rows)) 0 n values
seg_from design rows zero n values = refl
seg_from design [] (suc a) n values = no_rows_from design (suc a) n values
seg_from design (row ∷ rows) (suc a) n values = seg_later design row rows a n values ∙ seg_from design rows a n values

-- only the rows of its cycles matter
seg_taken : (design : Flat) (rows : List (List (ℕ × ℕ))) (n : ℕ) (values : List ℕ) → n ≤ length rows
    → seg design (values_at design rows) 0 n values ≡ driven design (take n rows) values
seg_taken design rows zero values le = refl
seg_taken design [] (suc n) values le = absurd (omega (arith, le))
seg_taken design (row ∷ rows) (suc n) values le =
    let next = step design values (input design (row_values design row)) in
    seg_first design row rows n values ∙ seg_taken design rows n next (omega (arith, le)) ∙ sym (driven_first design row (take n rows) values)

taken_twice : {R : Type 0} (n : ℕ) (xs : List R) → take n (take n xs) ≡ take n xs
taken_twice zero xs = refl
taken_twice (suc n) [] = refl
taken_twice (suc n) (x ∷ xs) = ap (λ l. x ∷ l) (taken_twice n xs)

-- all rows of a shared part of a record
pub whole_slice : {R : Type 0} (rows : List R) (a b : ℕ) → between (a, slice rows a b) a b ≡ slice rows a b
whole_slice rows a b =
    let from : a - a ≡ 0 = omega arith in
    let many : (b - a) - (a - a) ≡ b - a = omega arith in
    ap (λ n. take ((b - a) - (a - a)) (drop n (slice rows a b))) from
    ∙ ap (λ n. take n (slice rows a b)) many
    ∙ taken_twice (b - a) (drop a rows)

pub slice_covers : {R : Type 0} (rows : List R) (a b : ℕ) → a ≤ b → b ≤ length rows → Covers (a, slice rows a b) a b
slice_covers rows a b rises within = record {
  begins = omega arith;
  rises = rises;
  ends = omega (arith, length-take (b - a) (drop a rows), length-drop a rows);
}

-- a run over a part of a record goes through those cycles of it
pub run_of_slice : (design : Flat) (rows : List (List (ℕ × ℕ))) (a b : ℕ) (from : List (ℕ × ℕ)) → a ≤ b → b ≤ length rows
    → state_values (run_of design (slice rows a b) from) ≡ seg design (values_at design rows) a (b - a) (state_values from)
run_of_slice design rows a b from rises within =
    run_values design (slice rows a b) from
    ∙ sym (seg_taken design (drop a rows) (b - a) (state_values from) (omega (arith, rises, within, length-drop a rows)))
    ∙ sym (seg_from design rows a (b - a) (state_values from))

-- ---- true states

pub reset_values : (design : Flat) (rows : List (List (ℕ × ℕ))) → state_values (reset_of design) ≡ truth design (values_at design rows) 0
reset_values design rows = paired_values (width_at design) (initial_at design) design.registers

-- a run from a true state ends in a true one
pub true_on : (design : Flat) (rows : List (List (ℕ × ℕ))) (a b : ℕ) (from : List (ℕ × ℕ)) → a ≤ b → b ≤ length rows
    → state_values from ≡ truth design (values_at design rows) a
    → state_values (run_of design (slice rows a b) from) ≡ truth design (values_at design rows) b
true_on design rows a b from rises within true_state =
    let values = values_at design rows in
    run_of_slice design rows a b from rises within
    ∙ ap (seg design values a (b - a)) true_state
    ∙ ap (λ n. seg design values n (b - a) (truth design values a)) (sym (zero-add a))
    ∙ seg_more design values 0 a (b - a) (reset design)
    ∙ ap (truth design values) (omega (arith, rises))

-- rows that come later change nothing
pub true_before : (design : Flat) (rows more : List (List (ℕ × ℕ))) (a : ℕ) → a ≤ length rows
    → truth design (values_at design (rows ++ more)) a ≡ truth design (values_at design rows) a
true_before design rows more a within =
    let longer : a ≤ length (rows ++ more) = omega (arith, within, length-append rows more) in
    seg_taken design (rows ++ more) a (reset design) longer
    ∙ ap (λ xs. driven design xs (reset design)) (take-append-le a rows more within)
    ∙ sym (seg_taken design rows a (reset design) within)

-- nor do rows that are cut off
pub true_cut : (design : Flat) (rows : List (List (ℕ × ℕ))) (a len : ℕ) → a ≤ len → len ≤ length rows
    → truth design (values_at design (take len rows)) a ≡ truth design (values_at design rows) a
true_cut design rows a len within there =
    let count : length (take len rows) ≡ len = length-take-le len rows there in
    sym (true_before design (take len rows) (drop len rows) a (omega (arith, within, count)))
    ∙ ap (λ xs. truth design (values_at design xs) a) (take-append-drop len rows)

-- ---- the answer of a run over a part of a record

pub fits_on : {E : Type 0} (design : Flat) (rows : List (List (ℕ × ℕ))) (from : List (ℕ × ℕ)) (r : Result (List (ℕ × ℕ)) E) → Fits design from
    → IfOk r (λ s. s ≡ run_of design rows from) → IfOk r (λ s. Fits design s)
fits_on design rows from (Ok s) fits is = subst (Fits design) (sym is) (run_fits design rows from fits)
fits_on design rows from (Err e) fits is = tt

pub true_answer : {E : Type 0} (design : Flat) (rows : List (List (ℕ × ℕ))) (a b : ℕ) (from : List (ℕ × ℕ)) (r : Result (List (ℕ × ℕ)) E)
    → a ≤ b → b ≤ length rows → state_values from ≡ truth design (values_at design rows) a
    → IfOk r (λ s. s ≡ run_of design (between (a, slice rows a b) a b) from)
    → IfOk r (λ s. state_values s ≡ truth design (values_at design rows) b)
true_answer design rows a b from (Ok s) rises within true_state is =
    ap state_values (is ∙ ap (λ xs. run_of design xs from) (whole_slice rows a b)) ∙ true_on design rows a b from rises within true_state
true_answer design rows a b from (Err e) rises within true_state is = tt
