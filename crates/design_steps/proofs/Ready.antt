-- What stays where words below a place stay.
use Rattle.std.proofs.Common.{◌≡◌, ℕ, ◌^◌, ◌<◌, List, sym, ◌∙◌, subst}
use Rattle.typed_ir.specs.Valuations.{Valuation}
use Rattle.design_steps.specs.Plans.{Plan, IsApart, IsReady, signals, width_at}

module _ (l : Plan) (rs : List ℕ) (n : ℕ) (apart : IsApart l rs n) where
  pub same_signals : (v w : Valuation) → ((k : ℕ) → k < n → v k ≡ w k) → signals l v ≡ signals l w
  same_signals v w same = λ j s. same (l.slot s) (apart.slots s) j

  pub still_ready : (v w : Valuation) → ((k : ℕ) → k < n → v k ≡ w k) → IsReady l rs w → IsReady l rs v
  still_ready v w same r = record {
    fits = λ s h. subst (λ x. x < 2 ^ width_at l s) (sym (same (l.slot s) (apart.slots s))) (r.fits s h);
    next_fits = λ s h. subst (λ x. x < 2 ^ width_at l s) (sym (same (l.next s) (apart.nexts s h))) (r.next_fits s h);
    holds = λ v h. same (l.place v) (apart.places v) ∙ r.holds v h;
  }
