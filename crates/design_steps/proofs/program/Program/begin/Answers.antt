use Rattle.std.proofs.Common.{◌≡◌, ◌∙◌, [], length, ap, subst, sym}
use Rattle.std.proofs.lemmas.Result.{IfOk-weaker}
use Rattle.design_steps.specs.Programs.{IsAt}
use Rattle.design_steps.proofs.Signals.{begun}
use Rattle.design_steps.proofs.program.Program.begin.Goals as goal

pub returns-clause-long : goal.returns-clause-long
returns-clause-long c =
    let p = c.args.self.now in
    IfOk-weaker c.copied.result (λ words. words.items ≡ c.deref.result.now) (λ words. length words.items ≡ length p.beginning.items)
    (λ words e. ap length (e ∙ c.deref.ensures.value)) c.copied.ensures

pub returns-clause-ready : goal.returns-clause-ready
returns-clause-ready c =
    let p = c.args.self.now in
    let l = c.args.linked.now in
    IfOk-weaker c.copied.result (λ words. words.items ≡ c.deref.result.now) (λ words. IsAt p l [] [] words.items)
    (λ words e. subst (IsAt p l [] []) (sym (e ∙ c.deref.ensures.value)) (begun p l c.requires)) c.copied.ensures
