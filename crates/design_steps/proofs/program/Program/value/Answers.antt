use Rattle.std.proofs.Common.{◌<◌, ◌^◌, ◌∙◌, length, sym, ap, subst}
use Rattle.std.proofs.Math.Logic.{∥∥₁_elim}
use Rattle.std.proofs.Props.{props}
use Rattle.std.specs.Prelude.{slice_index}
use Rattle.typed_ir.specs.Flats.{signal_widths}
use Rattle.word_steps.specs.Walks.{env_of}
use Rattle.design_steps.specs.Moves.{moved, env_by}
use Rattle.design_steps.proofs.Signals.{slot_within, value_fits}
use Rattle.design_steps.proofs.program.Program.value.Goals as goal

pub word_at-requires : goal.word_at-requires
word_at-requires c =
    let p = c.args.self.now in
    let s = c.args.signal in
    subst (λ n. c.placed.result < n) (sym c.requires.long)
    (subst (λ k. k < length p.beginning.items) (sym (c.placed.ensures ∙ ap (λ q. moved q c.own_place-place.result) c.deref.ensures.value ∙ ap (moved p.places.items) c.own_place-place.ensures))
    (∥∥₁_elim c.requires.program (hlevel props) (λ is. slot_within p c.args.linked.now is s)))

pub returns-clause-value : goal.returns-clause-value
returns-clause-value c = c.word_at.ensures ∙ ap (env_of c.args.words.now) (c.placed.ensures ∙ ap (λ q. moved q c.own_place-place.result) c.deref.ensures.value ∙ ap (moved c.args.self.now.places.items) c.own_place-place.ensures)

pub returns-clause-fits : goal.returns-clause-fits
returns-clause-fits c = λ ready less.
    let p = c.args.self.now in
    let l = c.args.linked.now in
    let s = c.args.signal in
    subst (λ x. x < 2 ^ slice_index (signal_widths l.design.signals.items) s)
    (sym (c.word_at.ensures ∙ ap (env_of c.args.words.now) (c.placed.ensures ∙ ap (λ q. moved q c.own_place-place.result) c.deref.ensures.value ∙ ap (moved p.places.items) c.own_place-place.ensures)))
    (∥∥₁_elim c.requires.program (hlevel props) (λ is. value_fits p l is (env_by p.places.items c.args.words.now) s ready.ready less))
