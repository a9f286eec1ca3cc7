-- A signal of a copy has as its number the number of the signals that stand before the copy, and its own.
use Rattle.std.proofs.Common.{◌≡◌, ℕ, zero, suc, ◌+◌, ◌<◌, ◌≤◌, ◌==◌, ◌&&◌, true, false, cond, List, [], ◌∷◌, ◌++◌, length, append_assoc, refl, sym, ◌∙◌, ap, ap₂, subst, arith, eq-eqb}
use Rattle.std.proofs.lemmas.Bool.{ne_eqb}
use Rattle.std.proofs.lemmas.List.{length-append}
use Rattle.typed_ir.specs.Orders.{Each}
use Rattle.typed_ir.proofs.Lists.{each_append}
use Rattle.typed_ir.proofs.Paths.{path_itself}
use Rattle.gen_unroll.specs.Signals.{NamedSignal}
use Rattle.typed_ir.specs.Paths.{same_path}
use Rattle.version_swap.specs.Copies.{ModuleCopy, Copies, Nothing, One, Where, inside, from_each, SignalPlace, places_from, own_places, place_in}

-- ---- paths

-- behind the same beginning, other steps make other paths
steps_apart : (at : List ℕ) (j k : ℕ) (xs ys : List ℕ) → (j ≡ k → ⊥) → same_path (at ++ j ∷ xs) (at ++ k ∷ ys) ≡ false
steps_apart [] j k xs ys h = ap (λ b. b && same_path xs ys) (ne_eqb j k h)
steps_apart (x ∷ at) j k xs ys h = ap (λ b. b && same_path (at ++ j ∷ xs) (at ++ k ∷ ys)) (eq-eqb x x refl) ∙ steps_apart at j k xs ys h

longer_apart : (at : List ℕ) (j : ℕ) (xs : List ℕ) → same_path (at ++ j ∷ xs) at ≡ false
longer_apart [] j xs = refl
longer_apart (x ∷ at) j xs = ap (λ b. b && same_path (at ++ j ∷ xs) at) (eq-eqb x x refl) ∙ longer_apart at j xs

-- ---- places that are of other copies

abbrev IsElsewhere : List ℕ → SignalPlace → Type 0
IsElsewhere at p = same_path at p.at ≡ false

abbrev AreElsewhere : List ℕ → List SignalPlace → Type 0
AreElsewhere at ps = Each (IsElsewhere at) ps

own_elsewhere : (at there : List ℕ) (k : ℕ) (xs : List NamedSignal) → same_path at there ≡ false → AreElsewhere at (places_from there k xs)
own_elsewhere at there k [] h = tt
own_elsewhere at there k (x ∷ xs) h = (h, own_elsewhere at there (suc k) xs h)

-- all that stand within a copy have its path before their own
within_elsewhere : (at : List ℕ) (w : Where) (k : ℕ) (copies : Copies) → ((ys : List ℕ) → same_path at (w.at ++ ys) ≡ false)
    → AreElsewhere at (from_each own_places w k copies)
within_elsewhere at w k Nothing h = tt
within_elsewhere at w k (One c within after) h =
    each_append (IsElsewhere at) (own_places (inside w k c) c) (from_each own_places (inside w k c) 0 within ++ from_each own_places w (suc k) after)
    (own_elsewhere at (w.at ++ k ∷ []) 0 c.table.signals (h (k ∷ [])))
    (each_append (IsElsewhere at) (from_each own_places (inside w k c) 0 within) (from_each own_places w (suc k) after)
    (within_elsewhere at (inside w k c) 0 within (λ ys. ap (same_path at) (append_assoc w.at (k ∷ []) ys) ∙ h (k ∷ ys)))
    (within_elsewhere at w (suc k) after h))

-- ---- the number of a place

place_behind : (before ps : List SignalPlace) (at : List ℕ) (s : ℕ) → AreElsewhere at before
    → place_in (before ++ ps) at s ≡ length before + place_in ps at s
place_behind [] ps at s h = omega arith
place_behind (p ∷ before) ps at s h =
    let rest = place_behind before ps at s h.1 in
    let here = ap (λ b. cond (b && (s == p.signal)) 0 (suc (place_in (before ++ ps) at s))) h.0 in
    omega (arith, here, rest)

place_own : (at : List ℕ) (k i : ℕ) (xs : List NamedSignal) (ps : List SignalPlace) → i < length xs
    → place_in (places_from at k xs ++ ps) at (k + i) ≡ i
place_own at k i [] ps h = absurd (omega (arith, h))
place_own at k zero (x ∷ xs) ps h =
    let first : (k + 0 == k) ≡ true = ap (λ n. n == k) (omega arith) ∙ eq-eqb k k refl in
    ap (λ b. cond (b && (k + 0 == k)) 0 (suc (place_in (places_from at (suc k) xs ++ ps) at (k + 0)))) (path_itself at)
    ∙ ap (λ b. cond b 0 (suc (place_in (places_from at (suc k) xs ++ ps) at (k + 0)))) first
place_own at k (suc i) (x ∷ xs) ps h =
    let next : k + suc i ≡ suc k + i = omega arith in
    let other : (k + suc i == k) ≡ false = ne_eqb (k + suc i) k (λ e. omega (arith, e)) in
    ap (λ b. cond (b && (k + suc i == k)) 0 (suc (place_in (places_from at (suc k) xs ++ ps) at (k + suc i)))) (path_itself at)
    ∙ ap (λ b. cond b 0 (suc (place_in (places_from at (suc k) xs ++ ps) at (k + suc i)))) other
    ∙ ap (λ n. suc (place_in (places_from at (suc k) xs ++ ps) at n)) next
    ∙ ap suc (place_own at (suc k) i xs ps (omega (arith, h)))

-- ---- where copies stand among all places

-- copies side by side, of which the first is the k-th: so many places stand before theirs, and none of these is theirs
pub record IsStanding (all : List SignalPlace) (w : Where) (k first : ℕ) (copies : Copies) : Type 0 where
  pub before : List SignalPlace
  pub behind : List SignalPlace
  pub all_are : all ≡ before ++ (from_each own_places w k copies ++ behind)
  pub many : length before ≡ first
  pub free : (j : ℕ) (ys : List ℕ) → k ≤ j → AreElsewhere (w.at ++ j ∷ ys) before

pub own_many : (at : List ℕ) (k : ℕ) (xs : List NamedSignal) → length (places_from at k xs) ≡ length xs
own_many at k [] = refl
own_many at k (x ∷ xs) = ap suc (own_many at (suc k) xs)

split : (before own those later behind : List SignalPlace)
    → before ++ ((own ++ (those ++ later)) ++ behind) ≡ (before ++ own) ++ (those ++ (later ++ behind))
split before own those later behind =
    ap (λ ps. before ++ ps) (append_assoc own (those ++ later) behind ∙ ap (λ ps. own ++ ps) (append_assoc those later behind))
    ∙ sym (append_assoc before own (those ++ (later ++ behind)))

pub stands_at : (all : List SignalPlace) (w : Where) (k first : ℕ) (c : ModuleCopy) (within after : Copies)
    → IsStanding all w k first (One c within after)
    → (s : ℕ) → s < length c.table.signals → place_in all (w.at ++ k ∷ []) s ≡ first + s
stands_at all w k first c within after is s h =
    let at = w.at ++ k ∷ [] in
    let own = own_places (inside w k c) c in
    let rest = from_each own_places (inside w k c) 0 within ++ from_each own_places w (suc k) after in
    let parts : all ≡ is.before ++ (own ++ (rest ++ is.behind)) = is.all_are ∙ ap (λ ps. is.before ++ ps) (append_assoc own rest is.behind) in
    let passed = place_behind is.before (own ++ (rest ++ is.behind)) at s (is.free k [] (omega arith)) in
    let zeroth : s ≡ 0 + s = omega arith in
    let here : place_in (own ++ (rest ++ is.behind)) at s ≡ s =
    ap (place_in (own ++ (rest ++ is.behind)) at) zeroth ∙ place_own at 0 s c.table.signals (rest ++ is.behind) h in
    ap (λ ps. place_in ps at s) parts ∙ passed ∙ ap (λ n. n + place_in (own ++ (rest ++ is.behind)) at s) is.many ∙ ap (λ n. first + n) here

-- those within it
pub stands_inside : (all : List SignalPlace) (w : Where) (k first : ℕ) (c : ModuleCopy) (within after : Copies)
    → IsStanding all w k first (One c within after)
    → IsStanding all (inside w k c) 0 (first + length c.table.signals) within
stands_inside all w k first c within after is = record {
  before = is.before ++ own_places (inside w k c) c;
  behind = from_each own_places w (suc k) after ++ is.behind;
  all_are = is.all_are
      ∙ split is.before (own_places (inside w k c) c) (from_each own_places (inside w k c) 0 within) (from_each own_places w (suc k) after) is.behind;
  many = length-append is.before (own_places (inside w k c) c) ∙ ap₂ (λ m n. m + n) is.many (own_many (w.at ++ k ∷ []) 0 c.table.signals);
  free = λ j ys h. each_append (IsElsewhere ((w.at ++ k ∷ []) ++ j ∷ ys)) is.before (own_places (inside w k c) c)
      (subst (λ (at : List ℕ). AreElsewhere at is.before) (sym (append_assoc w.at (k ∷ []) (j ∷ ys))) (is.free k (j ∷ ys) (omega arith)))
      (own_elsewhere ((w.at ++ k ∷ []) ++ j ∷ ys) (w.at ++ k ∷ []) 0 c.table.signals (longer_apart (w.at ++ k ∷ []) j ys));
}

-- and those behind it, where so many places are those of the copies within
pub stands_behind : (all : List SignalPlace) (w : Where) (k first inner : ℕ) (c : ModuleCopy) (within after : Copies)
    → IsStanding all w k first (One c within after)
    → length (from_each own_places (inside w k c) 0 within) ≡ inner
    → IsStanding all w (suc k) (first + length c.table.signals + inner) after
stands_behind all w k first inner c within after is many =
    let own = own_places (inside w k c) c in
    let those = from_each own_places (inside w k c) 0 within in
    let later = from_each own_places w (suc k) after in
    record {
      before = (is.before ++ own) ++ those;
      behind = is.behind;
      all_are = is.all_are ∙ split is.before own those later is.behind ∙ sym (append_assoc (is.before ++ own) those (later ++ is.behind));
      many = length-append (is.before ++ own) those
          ∙ ap₂ (λ m n. m + n) (length-append is.before own ∙ ap₂ (λ m n. m + n) is.many (own_many (w.at ++ k ∷ []) 0 c.table.signals)) many;
      free = λ j ys h. each_append (IsElsewhere (w.at ++ j ∷ ys)) (is.before ++ own) those
          (each_append (IsElsewhere (w.at ++ j ∷ ys)) is.before own (is.free j ys (omega (arith, h)))
          (own_elsewhere (w.at ++ j ∷ ys) (w.at ++ k ∷ []) 0 c.table.signals (steps_apart w.at j k ys [] (λ e. omega (arith, e, h)))))
          (within_elsewhere (w.at ++ j ∷ ys) (inside w k c) 0 within
          (λ zs. ap (same_path (w.at ++ j ∷ ys)) (append_assoc w.at (k ∷ []) zs) ∙ steps_apart w.at j k ys zs (λ e. omega (arith, e, h))));
    }
