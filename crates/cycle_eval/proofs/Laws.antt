-- What a run of a design begins with and gives.
use Rattle.std.proofs.Common.{◌≡◌, ℕ, ◌-◌, ◌<◌, Bool, true, false, true≢false, ◌==◌, List, [], ◌∷◌, length, map, drop, refl, sym, ◌∙◌, ap₂, arith, subst, min, length-drop}
use Rattle.std.proofs.lemmas.Bool.{eq-eqb, cond-true, cond-false, ne_eqb}
use Rattle.std.proofs.lemmas.List.{length-take}
use Rattle.machine.specs.Rows.{between, Covers}
use Rattle.typed_ir.specs.Valuations.{Valuation}
use Rattle.typed_ir.specs.Orders.{Member, Distinct}
use Rattle.typed_ir.specs.Cycles.{Flat, fill}
use Rattle.typed_ir.proofs.Cases.{by_cases}
use Rattle.typed_ir.proofs.Members.{map_same}
use Rattle.cycle_eval.specs.Kits.{driven, run_of}
use Rattle.state_layout.specs.Words.{register_widths}
use Rattle.reg_transform.specs.States.{paired, state_values}
use Rattle.stimulus.specs.Rows.{are_same as are_alike}
use Rattle.stimulus.specs.SameRows.{same_is as alike_is}

-- a run of at least one row
pub run_is : (design : Flat) (rows : List (List (ℕ × ℕ))) (s : List (ℕ × ℕ)) → 0 < length rows
    → paired (register_widths design) (driven design rows (state_values s)) ≡ run_of design rows s
run_is design [] s h = absurd (omega (arith, h))
run_is design (row ∷ rows) s h = refl

pub fill_back : (rs xs : List ℕ) (env : Valuation) → Distinct rs → length xs ≡ length rs → map (fill rs xs env) rs ≡ xs
fill_back [] [] env d h = refl
fill_back [] (x ∷ xs) env d h = absurd (omega (arith, h))
fill_back (r ∷ rs) [] env d h = absurd (omega (arith, h))
fill_back (r ∷ rs) (x ∷ xs) env d h =
    ap₂ (λ (z : ℕ) (zs : List ℕ). z ∷ zs) (cond-true (r == r) x (fill rs xs env r) (eq-eqb r r refl))
    (map_same (fill (r ∷ rs) (x ∷ xs) env) (fill rs xs env) rs
    (λ t m. cond-false (t == r) x (fill rs xs env t) (ne_eqb t r (λ e. d.0 (subst (λ z. Member z rs) e m))))
    ∙ fill_back rs xs env d.1 (omega (arith, h)))

-- so many rows between two cycles
pub between_length : {R : Type 0} (rows : ℕ × List R) (a b : ℕ) → Covers rows a b → length (between rows a b) ≡ b - a
between_length rows a b h =
    let t : length (between rows a b) ≡ min (b - rows.0 - (a - rows.0)) (length (drop (a - rows.0) rows.1)) =
    length-take (b - rows.0 - (a - rows.0)) (drop (a - rows.0) rows.1) in
    let d : length (drop (a - rows.0) rows.1) ≡ length rows.1 - (a - rows.0) = length-drop (a - rows.0) rows.1 in
    omega (arith, t, d, h.begins, h.rises, h.ends)

-- a test of equal states answers what the definition does
pub same_is : (b : Bool) (x y : List (ℕ × ℕ)) → (b ≡ true → x ≡ y) → (x ≡ y → b ≡ true) → b ≡ are_alike x y
same_is true x y f g = sym ((alike_is x y).1 (f refl))
same_is false x y f g = by_cases (are_alike x y) (λ yes. absurd (true≢false (sym (g ((alike_is x y).0 yes))))) (λ no. sym no)
