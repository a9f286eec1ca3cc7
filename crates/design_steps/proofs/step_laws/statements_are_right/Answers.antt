use Rattle.std.proofs.Common.{arith, ap, ◌∙◌, subst, sym}
use Rattle.word_steps.specs.Walks.{At}
use Rattle.design_steps.specs.Plans.{IsReady}
use Rattle.design_steps.proofs.Doing.{does}
use Rattle.design_steps.proofs.step_laws.statements_are_right.Goals as goal

pub returns : goal.returns
returns c = λ l rs n mark st w apart ready laid few.
    let d = does l rs n apart st mark w few laid ready in
    record {
      now = λ s. ap (λ (p : At). p.words (l.slot s)) d.ends ∙ d.now s;
      later = λ s h. ap (λ (p : At). p.words (l.next s)) d.ends ∙ d.later s h;
      kept = λ k h p q. ap (λ (a : At). a.words k) d.ends ∙ d.kept k (omega (arith, h, few)) p q;
      ready = subst (λ (a : At). IsReady l rs a.words) (sym d.ends) d.ready;
    }
