use Rattle.std.proofs.Common.{ap, ◌∙◌}
use Rattle.typed_ir.specs.Sized.{agrees, fits_signals}
use Rattle.typed_ir.proofs.Cases.{and_left, and_right}
use Rattle.word_steps.specs.Walks.{At}
use Rattle.design_steps.proofs.Layouts.{Fine, gives}
use Rattle.design_steps.proofs.step_laws.expressions_are_right.Goals as goal

pub returns : goal.returns
returns c = λ l rs n to mark e w apart ready sized known few.
    let f : Fine l rs n apart e = record {
      agree = and_left (agrees e) (fits_signals e l.widths) sized;
      fit = and_right (agrees e) (fits_signals e l.widths) sized;
      known = known;
    } in
    let g = gives l rs n apart e to mark w few f ready in
    record {
      value = ap (λ (p : At). p.words to) g.ends ∙ g.value;
      kept = λ k h other. ap (λ (p : At). p.words k) g.ends ∙ g.kept k h other;
    }
