use Rattle.std.proofs.Common.{◌≡◌, ◌∙◌, ℕ, List, map, ap₂, subst, sym}
use Rattle.std.specs.Prelude.{IfOk}
use Rattle.std.proofs.lemmas.Result.{IfOk-weaker}
use Rattle.typed_ir.specs.declared.signal.Signal.{Signal}
use Rattle.typed_ir.specs.declared.flat.Flat.{Flat}
use Rattle.typed_ir.specs.Linkeds.{flat}
use Rattle.cycle_eval.specs.Designs.{design_flat}
use Rattle.cycle_eval.specs.Kits.{Fits, reset_of}
use Rattle.cycle_eval.specs.DesignLaws.{reset_fits}
use Rattle.state_layout.specs.Words.{width_in}
use Rattle.reg_transform.specs.Beginnings.{initial_in}
use Rattle.reg_transform.specs.States.{paired}
use Rattle.cycle_eval.proofs.Keys.{begun, register_widths_are}
use Rattle.cycle_eval.proofs.design.Design.reset_state.Goals as goal

abbrev values : List Signal → List ℕ → List (ℕ × ℕ)
values signals rs = paired (map (width_in signals) rs) (map (initial_in signals) rs)

are_reset : (f : Flat) (xs : List Signal) (rs : List ℕ) → xs ≡ f.signals.items → rs ≡ f.registers.items → values xs rs ≡ reset_of (flat f)
are_reset f xs rs e r = ap₂ values e r ∙ begun f

pub beginnings-requires-clause-laid : goal.beginnings-requires-clause-laid
beginnings-requires-clause-laid c =
    let self = c.args.self.now in
    self.laid ∙ register_widths_are self.linked.design
    ∙ sym (ap₂ (λ (xs : List Signal) (rs : List ℕ). map (width_in xs) rs) c.deref.ensures.value c.deref-2.ensures.value)

pub returns-clause-value : goal.returns-clause-value
returns-clause-value c = subst (λ z. IfOk c.beginnings.result (λ s. s ≡ z)) (are_reset c.args.self.now.linked.design c.deref.result.now c.deref-2.result.now c.deref.ensures.value c.deref-2.ensures.value) c.beginnings.ensures

pub returns-clause-fits : goal.returns-clause-fits
returns-clause-fits c =
    let design = design_flat c.args.self.now in
    IfOk-weaker c.beginnings.result (λ s. s ≡ values c.deref.result.now c.deref-2.result.now) (Fits design)
    (λ s e. subst (Fits design) (sym (e ∙ are_reset c.args.self.now.linked.design c.deref.result.now c.deref-2.result.now c.deref.ensures.value c.deref-2.ensures.value)) (reset_fits design)) c.beginnings.ensures
