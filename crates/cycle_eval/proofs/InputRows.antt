-- Data inputs that are set by a row.
use Rattle.std.proofs.Common.{◌≡◌, ℕ, zero, suc, ◌<◌, ◌%◌, ◌^◌, ◌==◌, cond, List, [], ◌∷◌, length, map, get_or, refl, sym, ◌∙◌, ap, ap₂, subst, arith, inl, inr}
use Rattle.std.proofs.lemmas.Bool.{eqb-false, cond-true}
use Rattle.std.proofs.lemmas.Nat.{pow_pos}
use Rattle.std.proofs.lemmas.List.{length-map, get_or-map}
use Rattle.bits.proofs.Modulo.{small}
use Rattle.typed_ir.specs.Valuations.{Valuation, look}
use Rattle.typed_ir.specs.Orders.{Member}
use Rattle.typed_ir.specs.Cycles.{Flat, fill, cut_to, input, width_at, IsReady}
use Rattle.typed_ir.proofs.Cases.{by_cases}
use Rattle.typed_ir.proofs.Members.{member_later, map_same}
use Rattle.typed_ir.proofs.Ready.{member_or, fill-other}
use Rattle.stimulus.specs.Rows.{value_in}
use Rattle.cycle_eval.specs.Inputs.{name_at, row_values}

pub cut_length : (ws xs : List ℕ) → length (cut_to ws xs) ≡ length ws
cut_length [] xs = refl
cut_length (w ∷ ws) [] = ap suc (cut_length ws [])
cut_length (w ∷ ws) (x ∷ xs) = ap suc (cut_length ws xs)

-- a number of the row, cut
pub cut_read : (ws xs : List ℕ) (i : ℕ) → i < length ws → get_or xs i 0 % 2 ^ get_or ws i 0 ≡ get_or (cut_to ws xs) i 0
cut_read [] xs i h = absurd (omega (arith, h))
cut_read (w ∷ ws) [] zero h = small 0 w (pow_pos w)
cut_read (w ∷ ws) [] (suc i) h = cut_read ws [] i (omega (arith, h))
cut_read (w ∷ ws) (x ∷ xs) zero h = refl
cut_read (w ∷ ws) (x ∷ xs) (suc i) h = cut_read ws xs i (omega (arith, h))

-- a signal that is filled has the same, whatever was there
fill_full : (ss xs : List ℕ) (v w : Valuation) (s : ℕ) → length xs ≡ length ss → Member s ss → fill ss xs v s ≡ fill ss xs w s
fill_full [] xs v w s e m = absurd m
fill_full (t ∷ ts) [] v w s e m = absurd (omega (arith, e))
fill_full (t ∷ ts) (x ∷ xs) v w s e m = by_cases (s == t)
    (λ yes. cond-true (s == t) x (fill ts xs v s) yes ∙ sym (cond-true (s == t) x (fill ts xs w s) yes))
    (λ no. ap (λ n. cond (s == t) x n) (fill_full ts xs v w s (omega (arith, e)) (member_later s t ts (eqb-false s t no) m)))

-- signals are filled in the same way where the same was there
fill_at : (ss xs : List ℕ) (v w : Valuation) (s : ℕ) → v s ≡ w s → fill ss xs v s ≡ fill ss xs w s
fill_at [] xs v w s e = e
fill_at (t ∷ ts) [] v w s e = e
fill_at (t ∷ ts) (x ∷ xs) v w s e = ap (λ n. cond (s == t) x n) (fill_at ts xs v w s e)

-- registers stay
pub registers_stay : (rs ss xs : List ℕ) (env : Valuation) → ((s : ℕ) → Member s rs → Member s ss → ⊥) → map (fill ss xs env) rs ≡ map env rs
registers_stay rs ss xs env apart = map_same (fill ss xs env) env rs (λ s m. fill-other ss xs env s (apart s m))

-- what was ready under some inputs is ready under those of the row
pub inputs_ready : (design : Flat) (state inputs row : List ℕ) (env : Valuation) → ((s : ℕ) → Member s design.registers → Member s design.inputs → ⊥)
    → IsReady design state inputs env → IsReady design state (input design row) (fill design.inputs (input design row) env)
inputs_ready design state inputs row env apart ready s i free =
    let rs = design.registers in
    let ss = design.inputs in
    let xs = input design row in
    let zeros : Valuation = λ t. 0 in
    let all : length xs ≡ length ss = cut_length (map (width_at design) ss) row ∙ length-map ss (width_at design) in
    elim (member_or s ss) as (λ _. look (fill ss xs env) s i ≡ look (fill rs state (fill ss xs zeros)) s i) [
      | inl m ↦ ap (λ n. look (λ t. n) s i)
          (fill_full ss xs env zeros s all m ∙ sym (fill-other rs state (fill ss xs zeros) s (λ r. apart s r m)))
      | inr n ↦ ap (λ x. look (λ t. x) s i) (fill-other ss xs env s n) ∙ ready s i free
          ∙ ap (λ x. look (λ t. x) s i) (fill_at rs state (fill ss inputs zeros) (fill ss xs zeros) s (fill-other ss inputs zeros s n ∙ sym (fill-other ss xs zeros s n)))
    ]

-- what a row gives one data input
pub given_at : (design : Flat) (row : List (ℕ × ℕ)) (i s : ℕ) → i < length design.inputs → s ≡ get_or design.inputs i 0
    → value_in row (name_at design s) % 2 ^ width_at design s ≡ get_or (input design (row_values design row)) i 0
given_at design row i s h is =
    let ss = design.inputs in
    let ws = map (width_at design) ss in
    let vs = row_values design row in
    let named : i < length (map (name_at design) ss) = subst (λ n. i < n) (sym (length-map ss (name_at design))) h in
    let few : i < length ws = subst (λ n. i < n) (sym (length-map ss (width_at design))) h in
    let value : value_in row (name_at design s) ≡ get_or vs i 0 =
    ap (λ t. value_in row (name_at design t)) is
    ∙ sym (get_or-map (value_in row) (map (name_at design) ss) i 0 0 named ∙ ap (value_in row) (get_or-map (name_at design) ss i 0 0 h)) in
    let width : width_at design s ≡ get_or ws i 0 = ap (width_at design) is ∙ sym (get_or-map (width_at design) ss i 0 0 h) in
    ap₂ (λ n w. n % 2 ^ w) value width ∙ cut_read ws vs i few

-- it gives each one
pub given_all : (design : Flat) (row : List ℕ) (i : ℕ) → i < length design.inputs → i < length (input design row)
given_all design row i h =
    let ss = design.inputs in
    subst (λ n. i < n) (sym (cut_length (map (width_at design) ss) row ∙ length-map ss (width_at design))) h
