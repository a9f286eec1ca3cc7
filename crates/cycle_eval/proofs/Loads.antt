-- States that are put among words, and read out of them.
use Rattle.std.proofs.Common.{◌≡◌, ℕ, zero, suc, ◌+◌, ◌<◌, ◌≤◌, ◌==◌, List, [], ◌∷◌, ◌++◌, length, map, get_or, set, take, drop, refl, sym, ◌∙◌, ap, ap₂, subst, arith}
use Rattle.std.specs.Prelude.{slice_get, Some}
use Rattle.std.proofs.lemmas.Bool.{cond-true, cond-false}
use Rattle.std.proofs.lemmas.List.{length-map, take_more_set, map_more}
use Rattle.typed_ir.specs.Valuations.{Valuation, put, look}
use Rattle.typed_ir.specs.Cycles.{fill}
use Rattle.typed_ir.proofs.Cases.{by_cases}
use Rattle.typed_ir.proofs.Lists.{drop_split}
use Rattle.reg_transform.specs.States.{paired, state_values}
use Rattle.reg_transform.proofs.Values.{pair}
use Rattle.state_layout.specs.Slots.{state_widths}

-- one more register filled, from the end
pub fill_step : (rs xs : List ℕ) (i : ℕ) (start env : Valuation) (r x : ℕ) → i < length rs → i < length xs → r ≡ get_or rs i 0 → x ≡ get_or xs i 0
    → env ≡ fill (drop (i + 1) rs) (drop (i + 1) xs) start → put env r x ≡ fill (drop i rs) (drop i xs) start
fill_step rs xs i start env r x h k er ex e =
    ap₂ (λ (n m : ℕ). put env n m) er ex ∙ ap (λ v. put v (get_or rs i 0) (get_or xs i 0)) e
    ∙ sym (ap₂ (λ ks zs. fill ks zs start) (drop_split rs i 0 h) (drop_split xs i 0 k))

pub pairs_of : (f g : ℕ → ℕ) (rs : List ℕ) → map (λ (r : ℕ). (f r, g r)) rs ≡ paired (map f rs) (map g rs)
pairs_of f g [] = refl
pairs_of f g (r ∷ rs) = ap (λ zs. (f r, g r) ∷ zs) (pairs_of f g rs)

-- an element of a state
pub got_width : (xs : List (ℕ × ℕ)) (i : ℕ) (p : ℕ × ℕ) → slice_get xs i ≡ Some p → get_or (state_widths xs) i 0 ≡ p.0
got_width [] i p e = cc
got_width (x ∷ xs) zero p e = let same : x ≡ p = cc in ap (λ (q : ℕ × ℕ). q.0) same
got_width (x ∷ xs) (suc i) p e = got_width xs i p e

pub got_value : (xs : List (ℕ × ℕ)) (i : ℕ) (p : ℕ × ℕ) → slice_get xs i ≡ Some p → get_or (state_values xs) i 0 ≡ p.1
got_value [] i p e = cc
got_value (x ∷ xs) zero p e = let same : x ≡ p = cc in ap (λ (q : ℕ × ℕ). q.1) same
got_value (x ∷ xs) (suc i) p e = got_value xs i p e

pub got_within : (xs : List (ℕ × ℕ)) (i : ℕ) (p : ℕ × ℕ) → slice_get xs i ≡ Some p → i < length (state_values xs)
got_within [] i p e = cc
got_within (x ∷ xs) zero p e = omega arith
got_within (x ∷ xs) (suc i) p e = let rest : i < length (state_values xs) = got_within xs i p e in omega (arith, rest)

-- a state has as many registers as it has widths
state_long : (s : List (ℕ × ℕ)) (ws : List ℕ) → state_widths s ≡ ws → length s ≡ length ws
state_long s ws e = sym (length-map s (λ (p : ℕ × ℕ). p.0)) ∙ ap length e

pub state_there : (s : List (ℕ × ℕ)) (ws : List ℕ) (p : ℕ) → state_widths s ≡ ws → p < length ws → p < length s
state_there s ws p e h = subst (λ n. p < n) (sym (state_long s ws e)) h

pub state_few : (s : List (ℕ × ℕ)) (ws : List ℕ) (p : ℕ) → state_widths s ≡ ws → length ws ≤ p → length s ≤ p
state_few s ws p e h = subst (λ n. n ≤ p) (sym (state_long s ws e)) h

pub rs_there : (f : ℕ → ℕ) (rs : List ℕ) (p : ℕ) → p < length rs → p < length (map f rs)
rs_there f rs p h = subst (λ n. p < n) (sym (length-map rs f)) h

pub rs_few : (f : ℕ → ℕ) (rs : List ℕ) (p : ℕ) → length rs ≤ p → length (map f rs) ≤ p
rs_few f rs p h = subst (λ n. n ≤ p) (sym (length-map rs f)) h

-- one more register written
pub written_step : (f g : ℕ → ℕ) (rs : List ℕ) (p : ℕ) (s new : List (ℕ × ℕ)) (w x : ℕ) → p < length rs → p < length s
    → w ≡ f (get_or rs p 0) → x ≡ g (get_or rs p 0) → new ≡ set s p (w, x)
    → take p s ≡ map (λ (r : ℕ). (f r, g r)) (take p rs) → take (p + 1) new ≡ map (λ (r : ℕ). (f r, g r)) (take (p + 1) rs)
written_step f g rs p s new w x listed there width value put before =
    let h : ℕ → ℕ × ℕ = λ r. (f r, g r) in
    ap (take (p + 1)) put ∙ take_more_set s p (w, x) there ∙ ap (λ zs. zs ++ (w, x) ∷ []) before
    ∙ ap (λ q. map h (take p rs) ++ q ∷ []) (ap₂ pair width value) ∙ sym (map_more h rs p 0 listed)

-- all registers that were left are filled
pub all_filled : (left : ℕ) (ss xs : List ℕ) (start env : Valuation) → left ≡ 0 → env ≡ fill (drop left ss) (drop left xs) start → env ≡ fill ss xs start
all_filled left ss xs start env none is = subst (λ k. env ≡ fill (drop k ss) (drop k xs) start) none is

-- a bit that is the same is so after the same was filled
pub fill_look : (ss xs : List ℕ) (v w : Valuation) (s i : ℕ) → look v s i ≡ look w s i → look (fill ss xs v) s i ≡ look (fill ss xs w) s i
fill_look [] xs v w s i e = e
fill_look (t ∷ ts) [] v w s i e = e
fill_look (t ∷ ts) (x ∷ xs) v w s i e = by_cases (s == t)
    (λ yes. ap (λ n. look (λ k. n) s i) (cond-true (s == t) x (fill ts xs v s) yes ∙ sym (cond-true (s == t) x (fill ts xs w s) yes)))
    (λ no. ap (λ n. look (λ k. n) s i) (cond-false (s == t) x (fill ts xs v s) no) ∙ fill_look ts xs v w s i e
    ∙ ap (λ n. look (λ k. n) s i) (sym (cond-false (s == t) x (fill ts xs w s) no)))
