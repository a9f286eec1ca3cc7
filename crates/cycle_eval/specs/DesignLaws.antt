-- The laws of a design as a machine.
use Rattle.std.proofs.Common.{◌≡◌, ℕ, zero, suc, ◌+◌, List, [], ◌∷◌, ◌++◌, length, map, refl, sym, ◌∙◌, ap, ap₂}
use Rattle.std.proofs.Math.Nat.{suc-add}
use Rattle.std.proofs.Math.Numerals.{one-add}
use Rattle.std.proofs.lemmas.List.{append-nil}
use Rattle.std.specs.Prelude.{slice_index, Option}
use Rattle.reg_ops.specs.declared.reg_op.RegOp.{RegOp}
use Rattle.typed_ir.specs.Orders.{at_or}
use Rattle.reg_transform.specs.Carrying.{carried_each, value_of}
use Rattle.reg_transform.specs.Registers.{RegisterName}
use Rattle.typed_ir.specs.RunLaws.{seg_more}
use Rattle.typed_ir.specs.Stmts.{all_applied}
use Rattle.typed_ir.specs.Cycles.{Signal, Flat, width_at, initial_at, wires, all_pending, input, step, seg}
use Rattle.cycle_eval.specs.Inputs.{row_values, values_at}
use Rattle.cycle_eval.specs.Kits.{run_of, driven, Fits, reset_of, carried_of, register_of, register_at, regs_of}
use Rattle.state_layout.specs.Words.{register_widths}
use Rattle.reg_transform.specs.States.{paired, state_values}
use Rattle.state_layout.specs.Slots.{state_widths}

-- each register's width with its value
pub paired_widths : (g f : ℕ → ℕ) (rs : List ℕ) → state_widths (paired (map g rs) (map f rs)) ≡ map g rs
paired_widths g f [] = refl
paired_widths g f (r ∷ rs) = ap (λ zs. g r ∷ zs) (paired_widths g f rs)

pub paired_values : (g f : ℕ → ℕ) (rs : List ℕ) → state_values (paired (map g rs) (map f rs)) ≡ map f rs
paired_values g f [] = refl
paired_values g f (r ∷ rs) = ap (λ zs. f r ∷ zs) (paired_values g f rs)

-- a register after a cycle
abbrev next_value : Flat → List ℕ → List ℕ → ℕ → ℕ
next_value design state inputs = let v = wires design state inputs in all_applied (all_pending design.clocked v) v

step_widths : (design : Flat) (state inputs : List ℕ) → state_widths (paired (register_widths design) (step design state inputs)) ≡ register_widths design
unfolding step
step_widths design state inputs = paired_widths (width_at design) (next_value design state inputs) design.registers

step_values : (design : Flat) (state inputs : List ℕ) → state_values (paired (register_widths design) (step design state inputs)) ≡ step design state inputs
unfolding step
step_values design state inputs = paired_values (width_at design) (next_value design state inputs) design.registers

-- the rows of the later cycles
pub seg_later : (design : Flat) (row : List (ℕ × ℕ)) (rows : List (List (ℕ × ℕ))) (a n : ℕ) (values : List ℕ)
    → seg design (values_at design (row ∷ rows)) (suc a) n values ≡ seg design (values_at design rows) a n values
seg_later design row rows a zero values = refl
seg_later design row rows a (suc n) values =
    ap₂ (λ s k. step design s (input design (values_at design (row ∷ rows) k))) (seg_later design row rows a n values) (suc-add a n)

-- a cycle under the first row, and then those under the others
pub seg_first : (design : Flat) (row : List (ℕ × ℕ)) (rows : List (List (ℕ × ℕ))) (n : ℕ) (values : List ℕ)
    → seg design (values_at design (row ∷ rows)) 0 (suc n) values
    ≡ seg design (values_at design rows) 0 n (step design values (input design (row_values design row)))
seg_first design row rows n values =
    ap (λ k. seg design (values_at design (row ∷ rows)) 0 k values) (sym (one-add n))
    ∙ sym (seg_more design (values_at design (row ∷ rows)) 0 1 n values)
    ∙ seg_later design row rows 0 n (step design values (input design (row_values design row)))

pub driven_first : (design : Flat) (row : List (ℕ × ℕ)) (rows : List (List (ℕ × ℕ))) (values : List ℕ)
    → driven design (row ∷ rows) values ≡ driven design rows (step design values (input design (row_values design row)))
driven_first design row rows values = seg_first design row rows (length rows) values

-- runs follow each other
pub driven_more : (design : Flat) (xs ys : List (List (ℕ × ℕ))) (values : List ℕ) → driven design (xs ++ ys) values ≡ driven design ys (driven design xs values)
driven_more design [] ys values = refl
driven_more design (x ∷ xs) ys values =
    driven_first design x (xs ++ ys) values
    ∙ driven_more design xs ys (step design values (input design (row_values design x)))
    ∙ ap (driven design ys) (sym (driven_first design x xs values))

-- the values of a state after a run are those that were driven
pub run_values : (design : Flat) (rows : List (List (ℕ × ℕ))) (s : List (ℕ × ℕ)) → state_values (run_of design rows s) ≡ driven design rows (state_values s)
run_values design [] s = refl
run_values design (row ∷ rows) s =
    step_values design (seg design (values_at design (row ∷ rows)) 0 (length rows) (state_values s))
    (input design (values_at design (row ∷ rows) (0 + length rows)))

pub run_more : (design : Flat) (xs ys : List (List (ℕ × ℕ))) (s : List (ℕ × ℕ)) → run_of design (xs ++ ys) s ≡ run_of design ys (run_of design xs s)
run_more design [] ys s = refl
run_more design (x ∷ xs) [] s = ap (λ rows. paired (register_widths design) (driven design (x ∷ rows) (state_values s))) (append-nil xs)
run_more design (x ∷ xs) (y ∷ ys) s =
    ap (paired (register_widths design))
    (driven_more design (x ∷ xs) (y ∷ ys) (state_values s)
    ∙ ap (driven design (y ∷ ys)) (sym (run_values design (x ∷ xs) s)))

pub run_fits : (design : Flat) (rows : List (List (ℕ × ℕ))) (s : List (ℕ × ℕ)) → Fits design s → Fits design (run_of design rows s)
run_fits design [] s h = h
run_fits design (row ∷ rows) s h =
    step_widths design (seg design (values_at design (row ∷ rows)) 0 (length rows) (state_values s))
    (input design (values_at design (row ∷ rows) (0 + length rows)))

pub reset_fits : (design : Flat) → Fits design (reset_of design)
reset_fits design = paired_widths (width_at design) (initial_at design) design.registers

-- as many values as the beginning has, of the registers' widths
each_width : (ops : List RegOp) (old : List ℕ → RegisterName → Option ℕ) (design : Flat) (rs : List ℕ)
    → state_widths (carried_each ops old (map (register_at design) rs) (state_values (paired (map (width_at design) rs) (map (initial_at design) rs))))
    ≡ map (width_at design) rs
each_width ops old design [] = refl
each_width ops old design (r ∷ rs) = ap₂ (λ (w : ℕ) (ws : List ℕ). w ∷ ws) (width_of design.signals r) (each_width ops old design rs)
  where
    width_of : (xs : List Signal) (s : ℕ) → (at_or register_of (record { path = []; in_module = 0; name = 0; width = 0 }) xs s).width ≡ slice_index (map (λ (x : Signal). x.width) xs) s
    width_of [] s = refl
    width_of (x ∷ xs) zero = refl
    width_of (x ∷ xs) (suc s) = width_of xs s

pub carried_fits : (ops : List RegOp) (old new : Flat) (s : List (ℕ × ℕ)) → Fits new (carried_of ops old new s)
carried_fits ops old new s = each_width ops (value_of (regs_of old) (state_values s)) new new.registers
