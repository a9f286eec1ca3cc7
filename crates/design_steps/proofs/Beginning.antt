-- The words that a design begins with: constants stand at their places, and all else is 0.
use Rattle.std.proofs.Common.{Bool, true, false, not, cond, ◌≡◌, ℕ, zero, suc, ◌+◌, ◌^◌, ◌<◌, ◌≤◌, ◌==◌, nat_lt, inl, inr, Some, None, List, [], ◌∷◌, ◌++◌, length, replicate, append_assoc, refl, sym, ap, ◌∙◌, subst, arith}
use Rattle.std.specs.Prelude.{slice_index}
use Rattle.std.specs.List.{position_or_len}
use Rattle.std.proofs.lemmas.Bool.{eqb-true, eqb-false, lt-ltb, ltb-true, ltb-false}
use Rattle.std.proofs.lemmas.List.{length-append}
use Rattle.std.proofs.lemmas.Nat.{pow_pos}
use Rattle.typed_ir.specs.declared.flat.Flat.{Flat}
use Rattle.typed_ir.specs.declared.linked.Linked.{Linked}
use Rattle.typed_ir.specs.Valuations.{Valuation, look}
use Rattle.typed_ir.specs.Orders.{Member}
use Rattle.typed_ir.specs.Cycles.{fill, IsReady as IsBased}
use Rattle.typed_ir.specs.Linkeds.{flat}
use Rattle.typed_ir.proofs.Cases.{by_cases}
use Rattle.word_steps.specs.Walks.{env_of}
use Rattle.design_steps.specs.declared.layout.Layout.{Layout}
use Rattle.design_steps.specs.Plans.{IsReady, signals, width_at}
use Rattle.design_steps.specs.Pools.{or_end, spot}
use Rattle.design_steps.specs.Views.{plan_of}
use Rattle.design_steps.specs.Layings.{LaysOut, own_plan, clocking_plan, signals_of}
use Rattle.design_steps.specs.Programs.{AreNext}
use Rattle.design_steps.specs.Moves.{moved, env_by}
use Rattle.design_steps.proofs.Gathered.{IsTable, rest_moved}
use Rattle.design_steps.proofs.Counting.{below_all}
use Rattle.design_steps.proofs.Apart.{stand}
use Rattle.design_steps.proofs.Copied.{below_member}

zero_at : (n : ℕ) (ys : List ℕ) (k : ℕ) → k < n → slice_index (replicate n 0 ++ ys) k ≡ 0
zero_at zero ys k h = absurd (omega (arith, h))
zero_at (suc n) ys zero h = refl
zero_at (suc n) ys (suc k) h = zero_at n ys k (omega (arith, h))

behind : (n : ℕ) (ys : List ℕ) (i : ℕ) → slice_index (replicate n 0 ++ ys) (n + i) ≡ slice_index ys i
behind zero ys i = let e : 0 + i ≡ i = omega arith in ap (slice_index ys) e
behind (suc n) ys i =
    let e : suc n + i ≡ suc (n + i) = omega arith in
    ap (slice_index (replicate (suc n) 0 ++ ys)) e ∙ behind n ys i

inside : (xs ys : List ℕ) (i : ℕ) → i < length xs → slice_index (xs ++ ys) i ≡ slice_index xs i
inside [] ys i h = absurd (omega (arith, h))
inside (x ∷ xs) ys zero h = refl
inside (x ∷ xs) ys (suc i) h = inside xs ys i (omega (arith, h))

-- where a constant of the pool stands
record Found (xs : List ℕ) (v i : ℕ) : Type 0 where
  pub within : i < length xs
  pub is : slice_index xs i ≡ v

first_at : (v : ℕ) (xs : List ℕ) → Member v xs → Found xs v (position_or_len (λ x. v == x) xs)
first_at v [] m = absurd m
first_at v (x ∷ xs) m = by_test (λ k. first_at v xs k) (v == x) refl
  where
    later : (v ≡ x → ⊥) → Member v (x ∷ xs) → Member v xs
    later other (inl e) = absurd (other e)
    later other (inr k) = k

    by_test : (Member v xs → Found xs v (position_or_len (λ y. v == y) xs)) → (b : Bool) → (v == x) ≡ b → Found (x ∷ xs) v (cond (not b) (1 + position_or_len (λ y. v == y) xs) 0)
    by_test rest true e = record { within = omega arith; is = sym (eqb-true v x e) }
    by_test rest false e =
        let f = rest (later (eqb-false v x e) m) in
        let more : 1 + position_or_len (λ y. v == y) xs ≡ suc (position_or_len (λ y. v == y) xs) = omega arith in
        record {
          within = omega (arith, f.within);
          is = ap (slice_index (x ∷ xs)) more ∙ f.is;
        }

spot_at : (v : ℕ) (xs : List ℕ) → Member v xs → Found xs v (spot xs v)
spot_at v xs m =
    let f = first_at v xs m in
    let p = position_or_len (λ x. v == x) xs in
    subst (Found xs v) (sym (ap (λ b. or_end (cond b (Some p) None) (length xs)) (lt-ltb p (length xs) f.within))) f

pub fill_none : (rs : List ℕ) (env : Valuation) → fill rs [] env ≡ env
fill_none [] env = refl
fill_none (r ∷ rs) env = refl

module _ (l : Layout) (design : Flat) (lays : LaysOut l design) (rest : ℕ) (t : List ℕ) (is : IsTable t l.constants.first) where
  none_at : (k : ℕ) → k < l.constants.first → env_of ((replicate l.constants.first 0 ++ l.constants.values.keys) ++ replicate rest 0) k ≡ 0
  none_at k h =
      let keys = l.constants.values.keys in
      ap (λ xs. slice_index xs k) (append_assoc (replicate l.constants.first 0) keys (replicate rest 0)) ∙ zero_at l.constants.first (keys ++ replicate rest 0) k h

  pub none_yet : (k : ℕ) → k < l.constants.first → env_by t ((replicate l.constants.first 0 ++ l.constants.values.keys) ++ replicate rest 0) k ≡ 0
  none_yet k h = none_at (moved t k) (is.few k h)

  constant_at : (v : ℕ) → Member v l.constants.values.keys
      → env_by t ((replicate l.constants.first 0 ++ l.constants.values.keys) ++ replicate rest 0) ((plan_of l).place v) ≡ v
  constant_at v m =
      let keys = l.constants.values.keys in
      let f = spot_at v keys m in
      let low : l.constants.first ≤ (plan_of l).place v = (let p : (plan_of l).place v ≡ l.constants.first + spot keys v = refl in omega (arith, p)) in
      ap (env_of ((replicate l.constants.first 0 ++ keys) ++ replicate rest 0)) (rest_moved t l.constants.first ((plan_of l).place v) is low)
      ∙ ap (λ xs. slice_index xs ((plan_of l).place v)) (append_assoc (replicate l.constants.first 0) keys (replicate rest 0))
      ∙ behind l.constants.first (keys ++ replicate rest 0) (spot keys v)
      ∙ inside keys (replicate rest 0) (spot keys v) f.within ∙ f.is

  slot_zero : (s : ℕ) → env_by t ((replicate l.constants.first 0 ++ l.constants.values.keys) ++ replicate rest 0) ((own_plan l).slot s) ≡ 0
  slot_zero s =
      let n = length design.signals.items in
      let st = stand l design lays in
      let f = lays.first in
      none_yet ((own_plan l).slot s)
      (by_cases (nat_lt s n)
      (λ yes. let less : s < n = ltb-true s n yes in let e = st.here s less in omega (arith, f, e, less))
      (λ no. let e = st.none s (ltb-false s n no) in omega (arith, f, e)))

  pub begins : IsReady (own_plan l) (signals_of design) (env_by t ((replicate l.constants.first 0 ++ l.constants.values.keys) ++ replicate rest 0))
  begins =
      let n = length design.signals.items in
      let st = stand l design lays in
      let f = lays.first in
      record {
        fits = λ s h. subst (λ x. x < 2 ^ width_at (own_plan l) s) (sym (slot_zero s)) (pow_pos (width_at (own_plan l) s));
        next_fits = λ s m. let less = below_all n s m in let e = st.next s less in
            subst (λ x. x < 2 ^ width_at (own_plan l) s) (sym (none_yet ((plan_of l).next s) (omega (arith, f, e, less)))) (pow_pos (width_at (own_plan l) s));
        holds = constant_at;
      }

  -- a next value that clocked blocks put
  next_zero : (s : ℕ) → s < length design.signals.items → env_by t ((replicate l.constants.first 0 ++ l.constants.values.keys) ++ replicate rest 0) ((clocking_plan l).next s) ≡ 0
  next_zero s less =
      let e = (stand l design lays).later s less in
      let f = lays.first in
      none_yet ((clocking_plan l).next s) (omega (arith, f, e, less))

  pub begins_next : AreNext l design (env_by t ((replicate l.constants.first 0 ++ l.constants.values.keys) ++ replicate rest 0))
  begins_next =
      let n = length design.signals.items in
      record {
        fits = λ s m. subst (λ x. x < 2 ^ width_at (own_plan l) s) (sym (next_zero s (below_all n s m))) (pow_pos (width_at (own_plan l) s));
        same = λ s m. next_zero s (below_member design.registers.items n s design.registers_there m) ∙ sym (slot_zero s);
      }

  pub begins_based : (linked : Linked) → linked.design ≡ design
      → IsBased (flat linked.design) [] [] (signals (own_plan l) (env_by t ((replicate l.constants.first 0 ++ l.constants.values.keys) ++ replicate rest 0)))
  begins_based linked same = λ s i free.
      ap (λ x. look (λ t. x) s i) (slot_zero s)
      ∙ sym (ap (λ e. look e s i) (fill_none (flat linked.design).registers (fill (flat linked.design).inputs [] (λ t. 0)) ∙ fill_none (flat linked.design).inputs (λ t. 0)))

zeros_long : (n : ℕ) → length {A = ℕ} (replicate n 0) ≡ n
zeros_long zero = refl
zeros_long (suc n) = let e = zeros_long n in omega (arith, e)

-- so many words
pub all_long : (first rest : ℕ) (keys : List ℕ) → length ((replicate first 0 ++ keys) ++ replicate rest 0) ≡ first + length keys + rest
all_long first rest keys =
    let a = length-append (replicate first 0 ++ keys) (replicate rest 0) in
    let b = length-append (replicate first 0) keys in
    let c = zeros_long first in
    let d = zeros_long rest in
    omega (arith, a, b, c, d)
