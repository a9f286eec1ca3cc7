-- Where a layout's things stand, and that they stand apart.
use Rattle.std.proofs.Common.{Bool, true, false, true≢false, ◌≡◌, ◌⊎◌, ℕ, zero, suc, ◌+◌, ◌-◌, ◌*◌, ◌<◌, ◌≤◌, ◌^◌, nat_lt, Some, None, List, [], ◌∷◌, length, refl, sym, ap, ◌∙◌, subst, arith, inl, inr}
use Rattle.std.specs.Prelude.{slice_index, position, ◌==◌, cond}
use Rattle.std.specs.List.{position_or_len}
use Rattle.std.proofs.lemmas.Bool.{ltb-true, ltb-false, cond-true, cond-false, cond_both}
use Rattle.std.proofs.lemmas.List.{length-map}
use Rattle.typed_ir.specs.declared.flat.Flat.{Flat}
use Rattle.typed_ir.specs.declared.signal.Signal.{Signal}
use Rattle.typed_ir.specs.Orders.{Member}
use Rattle.typed_ir.specs.Valuations.{Valuation}
use Rattle.typed_ir.specs.Nodes.{FlatNode}
use Rattle.typed_ir.proofs.Cases.{by_cases}
use Rattle.typed_ir.proofs.Widths.{at_most_a_word}
use Rattle.design_steps.specs.declared.layout.Layout.{Layout}
use Rattle.design_steps.specs.Plans.{IsApart, IsReady, IsAlone, width_at}
use Rattle.design_steps.specs.Pools.{or_end, spot}
use Rattle.design_steps.specs.Views.{plan_of}
use Rattle.design_steps.specs.Namings.{IsAlias}
use Rattle.design_steps.specs.Layings.{own, next_of, with_places, with_slots, clocking_plan, own_plan, view_of, writes, signals_of, mark_of, LaysOut}
use Rattle.design_steps.proofs.Counting.{run_in, run_out, below_all}

-- ---- the plan

within_end : (p : ℕ → Bool) (xs : List ℕ) → or_end (position p xs) (length xs) ≤ length xs
within_end p xs = by_test (nat_lt (position_or_len p xs) (length xs)) refl
  where
    by_test : (b : Bool) → nat_lt (position_or_len p xs) (length xs) ≡ b → or_end (cond b (Some (position_or_len p xs)) None) (length xs) ≤ length xs
    by_test true e = let h = ltb-true (position_or_len p xs) (length xs) e in omega (arith, h)
    by_test false e = omega arith

pub widths_many : (l : Layout) (design : Flat) → LaysOut l design → length l.widths.items ≡ length design.signals.items
widths_many l design h = ap length h.widths ∙ length-map design.signals.items (λ (x : Signal). x.width)

-- where each thing of a layout stands
pub record Stand (l : Layout) (design : Flat) : Type 0 where
  pub here : (s : ℕ) → s < length design.signals.items → (own_plan l).slot s ≡ 1 + s
  pub none : (s : ℕ) → length design.signals.items ≤ s → (own_plan l).slot s ≡ 0
  pub shared : (s : ℕ) → length design.signals.items ≤ s → (plan_of l).slot s ≡ 0
  pub next : (s : ℕ) → s < length design.signals.items → (plan_of l).next s ≡ 2 * length design.signals.items + 1 + s
  pub later : (s : ℕ) → s < length design.signals.items → (clocking_plan l).next s ≡ length design.signals.items + 1 + s
  pub low : (v : ℕ) → 3 * length design.signals.items + 2 * length design.registers.items + 1 ≤ (plan_of l).place v
  pub high : (v : ℕ) → (plan_of l).place v < mark_of l
  pub mark : 3 * length design.signals.items + 1 < mark_of l

beyond : (xs : List ℕ) (s : ℕ) → length xs ≤ s → slice_index xs s ≡ 0
beyond [] s h = refl
beyond (x ∷ xs) zero h = absurd (omega (arith, h))
beyond (x ∷ xs) (suc s) h = beyond xs s (omega (arith, h))

pub stand : (l : Layout) (design : Flat) → LaysOut l design → Stand l design
stand l design h =
    let n = length design.signals.items in
    let many = widths_many l design h in
    record {
      here = λ s less. ap (λ m. own m s) many ∙ run_in 1 n s less;
      none = λ s more. ap (λ m. own m s) many ∙ run_out 1 n s more;
      shared = λ s more. beyond l.slots.items s (let e = h.slots.long in omega (arith, e, more));
      next = λ s less. ap (λ xs. slice_index xs s) h.nexts ∙ run_in (2 * n + 1) n s less;
      later = λ s less. ap (λ m. next_of m s) many ∙ run_in (n + 1) n s less;
      low = λ v. let f = h.first in let p : (plan_of l).place v ≡ l.constants.first + spot l.constants.values.keys v = refl in omega (arith, f, p);
      high = λ v. let e : spot l.constants.values.keys v ≤ length l.constants.values.keys = within_end (λ x. v == x) l.constants.values.keys in
          let p : (plan_of l).place v ≡ l.constants.first + spot l.constants.values.keys v = refl in
          let m : mark_of l ≡ l.constants.first + length l.constants.values.keys + 1 = refl in
          omega (arith, e, p, m);
      mark = let f = h.first in let m : mark_of l ≡ l.constants.first + length l.constants.values.keys + 1 = refl in omega (arith, f, m);
    }

-- where a signal stands, another one has its own place, of the same width
pub record Stands (l : Layout) (design : Flat) (s : ℕ) : Type 0 where
  pub root : ℕ
  pub there : root < length design.signals.items
  pub at : (plan_of l).slot s ≡ 1 + root
  pub own : (plan_of l).slot root ≡ 1 + root
  pub wide : slice_index l.widths.items s ≡ slice_index l.widths.items root

pub stands : (l : Layout) (design : Flat) → LaysOut l design → (s : ℕ) → s < length design.signals.items → Stands l design s
stands l design h s less = of (h.slots.each s less)
  where
    turn : (r : ℕ) {x : ℕ} → x ≡ r + 1 → x ≡ 1 + r
    turn r e = omega (arith, e)

    of : (slice_index l.slots.items s ≡ s + 1) ⊎ IsAlias design l.slots.items s → Stands l design s
    of (inl e) = record { root = s; there = less; at = turn s e; own = turn s e; wide = refl }
    of (inr a) = record {
      root = a.root;
      there = a.there;
      at = turn a.root a.stands;
      own = turn a.root a.own;
      wide = ap (λ ws. slice_index ws s) h.widths ∙ a.wide ∙ sym (ap (λ ws. slice_index ws a.root) h.widths);
    }

pub slot_few : (l : Layout) (design : Flat) → LaysOut l design → (s : ℕ) → (plan_of l).slot s ≤ length design.signals.items
slot_few l design h s =
    let n = length design.signals.items in
    let t = stand l design h in
    by_cases (nat_lt s n)
    (λ yes. let r = stands l design h s (ltb-true s n yes) in let e = r.at in let less = r.there in omega (arith, e, less))
    (λ no. let e = t.shared s (ltb-false s n no) in omega (arith, e))

-- signals may stand wherever no next value and no constant does, and next values behind them, one after another
apart_at : (l : Layout) (design : Flat) → LaysOut l design → (slot next : ℕ → ℕ) (first : ℕ) → ((s : ℕ) → slot s ≤ length design.signals.items)
    → ((s : ℕ) → s < length design.signals.items → next s ≡ first + s) → length design.signals.items < first → first ≤ 2 * length design.signals.items + 1
    → IsApart (with_places l slot next) (signals_of design) (mark_of l)
apart_at l design h slot next first high is above below =
    let n = length design.signals.items in
    let t = stand l design h in
    let within : (s : ℕ) → Member s (signals_of design) → s < n = λ s m. below_all n s m in
    record {
      few = λ s. subst (λ ws. slice_index ws s ≤ 128) (sym h.widths) (at_most_a_word design.signals.items s);
      slots = λ s. let a = high s in let b = t.mark in omega (arith, a, b);
      nexts = λ s m. let a = is s (within s m) in let b = t.mark in let c = within s m in omega (arith, a, b, c, below);
      places = t.high;
      slot_next = λ s u m e. let a = is u (within u m) in let b = high s in omega (arith, a, b, e, above);
      slot_place = λ s v e. let a = high s in let b = t.low v in omega (arith, a, b, e);
      next_place = λ s v m e. let a = is s (within s m) in let b = t.low v in let c = within s m in omega (arith, a, b, c, e, below);
      next_next = λ s u m k e. let a = is s (within s m) in let b = is u (within u k) in omega (arith, a, b, e);
    }

slots_apart : (l : Layout) (design : Flat) → LaysOut l design → (slot : ℕ → ℕ) → ((s : ℕ) → slot s ≤ length design.signals.items)
    → IsApart (with_slots l slot) (signals_of design) (mark_of l)
slots_apart l design h slot high =
    let n = length design.signals.items in
    apart_at l design h slot (plan_of l).next (2 * n + 1) high (stand l design h).next (omega arith) (omega arith)

pub apart : (l : Layout) (design : Flat) → LaysOut l design → IsApart (plan_of l) (signals_of design) (mark_of l)
apart l design h = slots_apart l design h (plan_of l).slot (slot_few l design h)

pub clocking_apart : (l : Layout) (design : Flat) → LaysOut l design → IsApart (clocking_plan l) (signals_of design) (mark_of l)
clocking_apart l design h =
    let n = length design.signals.items in
    apart_at l design h (plan_of l).slot (clocking_plan l).next (n + 1) (slot_few l design h) (stand l design h).later (omega arith) (omega arith)

-- ---- a node's own plan

pub own_few : (l : Layout) (design : Flat) → LaysOut l design → (s : ℕ) → (own_plan l).slot s ≤ length design.signals.items
own_few l design h s =
    let n = length design.signals.items in
    let t = stand l design h in
    by_cases (nat_lt s n)
    (λ yes. let less : s < n = ltb-true s n yes in let e = t.here s less in omega (arith, e, less))
    (λ no. let e = t.none s (ltb-false s n no) in omega (arith, e))

pub view_few : (l : Layout) (design : Flat) → LaysOut l design → (k : FlatNode) (s : ℕ) → (view_of l k).slot s ≤ length design.signals.items
view_few l design h k s =
    cond_both (writes k ((plan_of l).slot s - 1)) ((own_plan l).slot s) ((plan_of l).slot s) (λ x. x ≤ length design.signals.items)
    (λ _. own_few l design h s) (λ _. slot_few l design h s)

pub view_apart : (l : Layout) (design : Flat) → LaysOut l design → (k : FlatNode) → IsApart (view_of l k) (signals_of design) (mark_of l)
view_apart l design h k = slots_apart l design h (view_of l k).slot (view_few l design h k)

-- in which a signal that has its own place stands there
pub view_own : (l : Layout) (k : FlatNode) (s : ℕ) → (plan_of l).slot s ≡ (own_plan l).slot s → (view_of l k).slot s ≡ (own_plan l).slot s
view_own l k s e = cond_both (writes k ((plan_of l).slot s - 1)) ((own_plan l).slot s) ((plan_of l).slot s) (λ x. x ≡ (own_plan l).slot s) (λ _. refl) (λ _. e)

-- and what the node writes stands alone
pub view_alone : (l : Layout) (design : Flat) → LaysOut l design → (k : FlatNode) (s : ℕ) → s < length design.signals.items → slice_index l.slots.items s ≡ s + 1
    → writes k s ≡ true → IsAlone (view_of l k) s
view_alone l design h k s less at written u e =
    let n = length design.signals.items in
    let t = stand l design h in
    let here = t.here s less in
    let shared : (plan_of l).slot s ≡ (own_plan l).slot s = omega (arith, here, at) in
    let there : (view_of l k).slot u ≡ 1 + s = e ∙ view_own l k s shared ∙ here in
    by_cases (writes k ((plan_of l).slot u - 1))
    (λ yes.
    let own : (own_plan l).slot u ≡ 1 + s = sym (cond-true (writes k ((plan_of l).slot u - 1)) ((own_plan l).slot u) ((plan_of l).slot u) yes) ∙ there in
    by_cases (nat_lt u n)
    (λ in_. let o = t.here u (ltb-true u n in_) in omega (arith, o, own))
    (λ out. absurd (let o = t.none u (ltb-false u n out) in omega (arith, o, own))))
    (λ no.
    let own : (plan_of l).slot u ≡ 1 + s = sym (cond-false (writes k ((plan_of l).slot u - 1)) ((own_plan l).slot u) ((plan_of l).slot u) no) ∙ there in
    let is : (plan_of l).slot u - 1 ≡ s = omega (arith, own) in
    absurd (true≢false (sym written ∙ ap (writes k) (sym is) ∙ no)))

-- ---- own places

module _ (l : Layout) (design : Flat) (h : LaysOut l design) where
  -- a signal's own place is nobody's where the signal stands at another one
  pub own_place : (s t : ℕ) → ((plan_of l).slot s ≡ (own_plan l).slot s → ⊥) → (own_plan l).slot s ≡ (plan_of l).slot t → ⊥
  own_place s t other e =
      let n = length design.signals.items in
      let st = stand l design h in
      by_cases (nat_lt s n)
      (λ yes. let less : s < n = ltb-true s n yes in
      let here = st.here s less in
      by_cases (nat_lt t n)
      (λ there. let r = stands l design h t (ltb-true t n there) in
      let same : r.root ≡ s = (let a = r.at in omega (arith, a, here, e)) in
      other (subst (λ u. (plan_of l).slot u ≡ 1 + u) same r.own ∙ sym here))
      (λ no. let none = st.shared t (ltb-false t n no) in omega (arith, here, none, e)))
      (λ no. let more : n ≤ s = ltb-false s n no in other (st.shared s more ∙ sym (st.none s more)))

  -- it is no next value's, and lies below the mark
  pub own_next : (s t : ℕ) → Member t (signals_of design) → (own_plan l).slot s ≡ (plan_of l).next t → ⊥
  own_next s t m e =
      let less = below_all (length design.signals.items) t m in
      let a = own_few l design h s in
      let b = (stand l design h).next t less in
      omega (arith, a, b, e)

  -- nor one of those that the clocked blocks put
  pub own_later : (s t : ℕ) → Member t (signals_of design) → (own_plan l).slot s ≡ (clocking_plan l).next t → ⊥
  own_later s t m e =
      let less = below_all (length design.signals.items) t m in
      let a = own_few l design h s in
      let b = (stand l design h).later t less in
      omega (arith, a, b, e)

  pub own_mark : (s : ℕ) → (own_plan l).slot s < mark_of l
  own_mark s = let a = own_few l design h s in let b = (stand l design h).mark in omega (arith, a, b)

  pub alias_at : (s : ℕ) → ((plan_of l).slot s ≡ (own_plan l).slot s → ⊥) → IsAlias design l.slots.items s
  alias_at s other =
      let n = length design.signals.items in
      let st = stand l design h in
      by_cases (nat_lt s n)
      (λ yes. let less = ltb-true s n yes in of (st.here s less) (h.slots.each s less))
      (λ no. let more = ltb-false s n no in absurd (other (st.shared s more ∙ sym (st.none s more))))
    where
      of : (own_plan l).slot s ≡ 1 + s → (slice_index l.slots.items s ≡ s + 1) ⊎ IsAlias design l.slots.items s → IsAlias design l.slots.items s
      of here (inl e) = absurd (other (e ∙ (let f : s + 1 ≡ 1 + s = omega arith in f) ∙ sym here))
      of here (inr a) = a

  -- what signals have where they stand, from what they have at their own places
  pub shared_ready : (w : Valuation) → IsReady (own_plan l) (signals_of design) w → IsReady (plan_of l) (signals_of design) w
  shared_ready w ready = record {
    fits = λ s less. let r = stands l design h s (few s less) in
        subst (λ k. w k < 2 ^ slice_index l.widths.items s) ((stand l design h).here r.root r.there ∙ sym r.at)
        (subst (λ n. w ((own_plan l).slot r.root) < 2 ^ n) (sym r.wide) (ready.fits r.root (wide r.root r.there)));
    next_fits = ready.next_fits;
    holds = ready.holds;
  }
    where
      few : (s : ℕ) → s < length l.widths.items → s < length design.signals.items
      few s less = let e = widths_many l design h in omega (arith, e, less)

      wide : (s : ℕ) → s < length design.signals.items → s < length l.widths.items
      wide s less = let e = widths_many l design h in omega (arith, e, less)

  -- the same for the clocked blocks
  pub clocking_ready : (w : Valuation) → IsReady (own_plan l) (signals_of design) w
      → ((s : ℕ) → Member s (signals_of design) → w ((clocking_plan l).next s) < 2 ^ width_at (own_plan l) s) → IsReady (clocking_plan l) (signals_of design) w
  clocking_ready w ready fits = record { fits = (shared_ready w ready).fits; next_fits = fits; holds = ready.holds }

  pub view_ready : (k : FlatNode) (w : Valuation) → IsReady (own_plan l) (signals_of design) w → IsReady (view_of l k) (signals_of design) w
  view_ready k w ready = record {
    fits = λ s less. cond_both (writes k ((plan_of l).slot s - 1)) ((own_plan l).slot s) ((plan_of l).slot s) (λ x. w x < 2 ^ slice_index l.widths.items s)
        (λ _. ready.fits s less) (λ _. (shared_ready w ready).fits s less);
    next_fits = ready.next_fits;
    holds = ready.holds;
  }
