-- The words of a program: those that it begins with, and a signal's word, read and written.
use Rattle.std.proofs.Common.{◌≡◌, ℕ, ◌+◌, ◌*◌, ◌<◌, ◌≤◌, ◌^◌, ◌==◌, nat_lt, [], length, refl, sym, ap, ◌∙◌, subst, arith}
use Rattle.std.specs.Prelude.{slice_index}
use Rattle.std.proofs.Math.Logic.{∥∥₁_elim}
use Rattle.std.proofs.Props.{props}
use Rattle.std.proofs.lemmas.Bool.{ltb-true, ltb-false, eqb-true, eqb-false}
use Rattle.typed_ir.specs.declared.linked.Linked.{Linked}
use Rattle.typed_ir.specs.Valuations.{Valuation, put}
use Rattle.typed_ir.specs.Flats.{signal_widths}
use Rattle.typed_ir.proofs.Cases.{by_cases}
use Rattle.word_steps.proofs.Words.{put-same, put-other}
use Rattle.design_steps.specs.Plans.{IsReady, signals, width_at}
use Rattle.design_steps.specs.declared.program.Program.{Program}
use Rattle.design_steps.specs.Layings.{own_plan, clocking_plan, mark_of, signals_of}
use Rattle.design_steps.specs.Programs.{IsAt, IsProgramOf, AreNext}
use Rattle.design_steps.proofs.Counting.{in_all, below_all}
use Rattle.design_steps.proofs.Apart.{widths_many, stand, own_later}
use Rattle.design_steps.proofs.Copied.{below_member}
use Rattle.design_steps.specs.Moves.{moved}
use Rattle.design_steps.proofs.Moved.{put_back}
use Rattle.design_steps.proofs.Turning.{table, own_low, place_high, wide}

-- the words that it begins with
pub begun : (p : Program) (l : Linked) → ∥ IsProgramOf p l ∥₁ → IsAt p l [] [] p.beginning.items
begun p l known = record {
  ready = record {
    ready = record {
      fits = λ t h. ∥∥₁_elim known (hlevel props) (λ is. is.begins.ready.ready.fits t h);
      next_fits = λ t m. ∥∥₁_elim known (hlevel props) (λ is. is.begins.ready.ready.next_fits t m);
      holds = λ v m. ∥∥₁_elim known (hlevel props) (λ is. is.begins.ready.ready.holds v m);
    };
    nexts = record {
      fits = λ s m. ∥∥₁_elim known (hlevel props) (λ is. is.begins.ready.nexts.fits s m);
      same = λ s m. ∥∥₁_elim known (hlevel props) (λ is. is.begins.ready.nexts.same s m);
    };
  };
  based = λ s i free. ∥∥₁_elim known (hlevel props) (λ is. is.begins.based s i free);
}

module _ (p : Program) (l : Linked) (is : IsProgramOf p l) where
  -- where signals and next values are moved to, there are words
  place_within : (k : ℕ) → k ≤ 2 * length l.design.signals.items → moved p.places.items k < length p.beginning.items
  place_within k low =
      let few = (table p l is).few k (omega (arith, low)) in
      let first = is.lays.first in
      let m : mark_of p.layout ≡ p.layout.constants.first + length p.layout.constants.values.keys + 1 = refl in
      omega (arith, few, first, m, is.room)

  pub slot_within : (s : ℕ) → moved p.places.items ((own_plan p.layout).slot s) < length p.beginning.items
  slot_within s = let low = own_low p l is s in place_within ((own_plan p.layout).slot s) (omega (arith, low))

  -- so that registers and their next values have room
  pub registers_within : 3 * length l.design.signals.items + 2 * length l.design.registers.items + 1 < length p.beginning.items
  registers_within =
      let first = is.lays.first in
      let m : mark_of p.layout ≡ p.layout.constants.first + length p.layout.constants.values.keys + 1 = refl in
      omega (arith, first, m, is.room)

  -- no other signal has its own place
  other_slot : (s t : ℕ) → s < length l.design.signals.items → (t ≡ s → ⊥) → (own_plan p.layout).slot t ≡ (own_plan p.layout).slot s → ⊥
  other_slot s t less other same =
      let n = length l.design.signals.items in
      let st = stand p.layout l.design is.lays in
      let here = st.here s less in
      by_cases (nat_lt t n)
      (λ yes. let there = st.here t (ltb-true t n yes) in other (omega (arith, here, there, same)))
      (λ no. let none = st.none t (ltb-false t n no) in omega (arith, here, none, same))

  -- a value fits its signal's width
  pub value_fits : (w : Valuation) (s : ℕ) → IsReady (own_plan p.layout) (signals_of l.design) w → s < length l.design.signals.items
      → w ((own_plan p.layout).slot s) < 2 ^ slice_index (signal_widths l.design.signals.items) s
  value_fits w s ready less =
      let pl = own_plan p.layout in
      subst (λ ws. w (pl.slot s) < 2 ^ slice_index ws s) is.lays.widths (ready.fits s (wide p l is s less))

  -- a signal's own place is where its next value stands, less the number of signals
  pub next_above : (s : ℕ) → s < length l.design.signals.items → (own_plan p.layout).slot s + length p.layout.widths.items ≡ (clocking_plan p.layout).next s
  next_above s less =
      let many = widths_many p.layout l.design is.lays in
      let st = stand p.layout l.design is.lays in
      let here = st.here s less in
      let next = st.later s less in
      omega (arith, many, here, next)

  pub next_within : (s : ℕ) → s < length l.design.signals.items → moved p.places.items ((clocking_plan p.layout).next s) < length p.beginning.items
  next_within s less =
      let next = (stand p.layout l.design is.lays).later s less in
      place_within ((clocking_plan p.layout).next s) (omega (arith, next, less))

  pub next_low : (s : ℕ) → s < length l.design.signals.items → (clocking_plan p.layout).next s < length p.beginning.items
  next_low s less =
      let next = (stand p.layout l.design is.lays).later s less in
      omega (arith, next, less, registers_within)

  -- a value that is put at both places
  abbrev pub both : Valuation → ℕ → ℕ → Valuation
  both w s x = put (put w ((own_plan p.layout).slot s) x) ((clocking_plan p.layout).next s) x

  -- which leaves all other places
  both_other : (w : Valuation) (s x k : ℕ) → (k ≡ (own_plan p.layout).slot s → ⊥) → (k ≡ (clocking_plan p.layout).next s → ⊥) → both w s x k ≡ w k
  both_other w s x k own next =
      put-other (put w ((own_plan p.layout).slot s) x) ((clocking_plan p.layout).next s) x k next ∙ put-other w ((own_plan p.layout).slot s) x k own

  -- an own place is no next value's
  own_apart : (s t : ℕ) → s < length l.design.signals.items → (own_plan p.layout).slot t ≡ (clocking_plan p.layout).next s → ⊥
  own_apart s t less e = own_later p.layout l.design is.lays t s (in_all (length l.design.signals.items) s less) e

  -- so a signal's own word is the value, and those of others are as before
  both_own : (w : Valuation) (s x t : ℕ) → s < length l.design.signals.items → both w s x ((own_plan p.layout).slot t) ≡ put w ((own_plan p.layout).slot s) x ((own_plan p.layout).slot t)
  both_own w s x t less =
      put-other (put w ((own_plan p.layout).slot s) x) ((clocking_plan p.layout).next s) x ((own_plan p.layout).slot t) (own_apart s t less)

  pub put_value : (w : Valuation) (s x : ℕ) → s < length l.design.signals.items
      → signals (own_plan p.layout) (both w s x) ≡ put (signals (own_plan p.layout) w) s x
  put_value w s x less = λ j t. (both_own w s x t less ∙ at t) j
    where
      at : (t : ℕ) → put w ((own_plan p.layout).slot s) x ((own_plan p.layout).slot t) ≡ put (signals (own_plan p.layout) w) s x t
      at t =
          let pl = own_plan p.layout in
          by_cases (t == s)
          (λ yes. let e = eqb-true t s yes in
          ap (λ k. put w (pl.slot s) x (pl.slot k)) e ∙ put-same w (pl.slot s) x ∙ sym (put-same (signals pl w) s x) ∙ ap (put (signals pl w) s x) (sym e))
          (λ no. let other = eqb-false t s no in
          put-other w (pl.slot s) x (pl.slot t) (other_slot s t less other) ∙ sym (put-other (signals pl w) s x t other))

  pub put_held : (w : Valuation) (s x : ℕ) → s < length l.design.signals.items → x < 2 ^ slice_index (signal_widths l.design.signals.items) s
      → IsReady (own_plan p.layout) (signals_of l.design) w → IsReady (own_plan p.layout) (signals_of l.design) (both w s x)
  put_held w s x less small ready =
      let pl = own_plan p.layout in
      let n = length l.design.signals.items in
      let st = stand p.layout l.design is.lays in
      let here = st.here s less in
      let there = st.later s less in
      let own : x < 2 ^ width_at pl s = subst (λ ws. x < 2 ^ slice_index ws s) (sym is.lays.widths) small in
      record {
        fits = λ t h. subst (λ v. v < 2 ^ width_at pl t) (sym (both_own w s x t less)) (by_cases (t == s)
            (λ yes. let e = eqb-true t s yes in
            subst (λ k. put w (pl.slot s) x (pl.slot k) < 2 ^ width_at pl k) (sym e) (subst (λ v. v < 2 ^ width_at pl s) (sym (put-same w (pl.slot s) x)) own))
            (λ no. subst (λ v. v < 2 ^ width_at pl t) (sym (put-other w (pl.slot s) x (pl.slot t) (other_slot s t less (eqb-false t s no)))) (ready.fits t h)));
        next_fits = λ t m. let next = st.next t (below_all n t m) in
            subst (λ v. v < 2 ^ width_at pl t)
            (sym (both_other w s x (pl.next t) (λ e. omega (arith, here, next, less, e)) (λ e. omega (arith, there, next, less, e)))) (ready.next_fits t m);
        holds = λ v m. let high = place_high p l is v in
            both_other w s x (pl.place v) (λ e. omega (arith, here, high, less, e)) (λ e. omega (arith, there, high, less, e)) ∙ ready.holds v m;
      }

  -- the next value of a signal
  both_next : (w : Valuation) (s x t : ℕ) → s < length l.design.signals.items → t < length l.design.signals.items
      → both w s x ((clocking_plan p.layout).next t) ≡ put (λ u. w ((clocking_plan p.layout).next u)) s x t
  both_next w s x t less near =
      let next = (clocking_plan p.layout).next in
      let st = stand p.layout l.design is.lays in
      let here = st.here s less in
      let there = st.later s less in
      let far = st.later t near in
      let first = put w ((own_plan p.layout).slot s) x in
      by_cases (t == s)
      (λ yes. let e = eqb-true t s yes in
      ap (λ k. both w s x (next k)) e ∙ put-same first (next s) x ∙ sym (put-same (λ u. w (next u)) s x) ∙ ap (put (λ u. w (next u)) s x) (sym e))
      (λ no. let other = eqb-false t s no in
      both_other w s x (next t) (λ e. omega (arith, here, far, less, e)) (λ e. other (omega (arith, there, far, e))) ∙ sym (put-other (λ u. w (next u)) s x t other))

  pub put_next : (w : Valuation) (s x : ℕ) → s < length l.design.signals.items → x < 2 ^ slice_index (signal_widths l.design.signals.items) s
      → AreNext p.layout l.design w → AreNext p.layout l.design (both w s x)
  put_next w s x less small nexts =
      let pl = own_plan p.layout in
      let n = length l.design.signals.items in
      let next = (clocking_plan p.layout).next in
      let own : x < 2 ^ width_at pl s = subst (λ ws. x < 2 ^ slice_index ws s) (sym is.lays.widths) small in
      record {
        fits = λ t m. subst (λ v. v < 2 ^ width_at pl t) (sym (both_next w s x t less (below_all n t m))) (by_cases (t == s)
            (λ yes. let e = eqb-true t s yes in
            subst (λ k. put (λ u. w (next u)) s x k < 2 ^ width_at pl k) (sym e) (subst (λ v. v < 2 ^ width_at pl s) (sym (put-same (λ u. w (next u)) s x)) own))
            (λ no. subst (λ v. v < 2 ^ width_at pl t) (sym (put-other (λ u. w (next u)) s x t (eqb-false t s no))) (nexts.fits t m)));
        same = λ t m. let near = below_member l.design.registers.items n t l.design.registers_there m in
            both_next w s x t less near ∙ by_cases (t == s)
            (λ yes. let e = eqb-true t s yes in
            ap (put (λ u. w (next u)) s x) e ∙ put-same (λ u. w (next u)) s x ∙ sym (put-same w (pl.slot s) x) ∙ sym (both_own w s x s less) ∙ ap (λ k. both w s x (pl.slot k)) (sym e))
            (λ no. let other = eqb-false t s no in
            put-other (λ u. w (next u)) s x t other ∙ nexts.same t m ∙ sym (put-other w (pl.slot s) x (pl.slot t) (other_slot s t less other)) ∙ sym (both_own w s x t less));
      }

  -- words that are written where the two places are moved to
  pub both_back : (w w1 w2 : Valuation) (s x a b : ℕ) → a ≡ moved p.places.items ((own_plan p.layout).slot s) → b ≡ moved p.places.items ((clocking_plan p.layout).next s)
      → w1 ≡ put w a x → w2 ≡ put w1 b x → (λ k. w2 (moved p.places.items k)) ≡ both (λ k. w (moved p.places.items k)) s x
  both_back w w1 w2 s x a b ea eb e1 e2 =
      let t = p.places.items in
      let own = (own_plan p.layout).slot s in
      let next = (clocking_plan p.layout).next s in
      let once = (table p l is).once in
      ap (λ v. (λ k. v (moved t k))) (e2 ∙ ap (λ c. put w1 c x) eb)
      ∙ put_back t once w1 next x
      ∙ ap (λ v. put (λ k. v (moved t k)) next x) (e1 ∙ ap (λ c. put w c x) ea)
      ∙ ap (λ v. put v next x) (put_back t once w own x)
