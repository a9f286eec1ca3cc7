use Rattle.std.proofs.Common.{◌≡◌, map, ◌∙◌, rules}
use Rattle.verilog_ast.specs.Views.{declaration_of as plain_module}
use Rattle.module_names.specs.Views.{modules_of}
use Rattle.elaborate.specs.Jobs.{standing_of}
use Rattle.elaborate.proofs.Stood.{goes_into, leads_on}
use Rattle.elaborate.proofs.elaborating.+visit.Goals as goal

pub of_module-returns-in_err-within-clause-answer : goal.of_module-returns-in_err-within-clause-answer
of_module-returns-in_err-within-clause-answer t c =
    let same : c.in_ok-clone.field-0.value ≡ c.in_ok-job.job.value = search rules in
    let seen : c.deref-2.result.now ≡ c.in_ok-job.job.value = search rules in
    leads_on c.from_residual-in_err-within.result c.in_err-within.field-0.0 (map standing_of c.within.new.t.all.items) _ _ c.from_residual-in_err-within.ensures.1
    (goes_into c.args.t.now.limits (modules_of c.args.modules.now) (plain_module c.args.of.now.body.now) c.args.left c.args.above c.args.here c.args.t.now.path.items c.push-2.new.self.items
    c.args.child.now c.args.clock c.deref.result.now c.in_ok-job.job c.in_ok-clone.field-0 c.deref-2.result.now c.args.t.now.all.items c.push.new.self.items
    c.deref.ensures.value c.in_ok-job.ensures.of c.in_ok-job.ensures.answer same seen c.requires.here c.in_ok-push-2.ensures.items c.in_ok-push.ensures.items)
    c.in_err-within.ensures.answer

pub of_module-returns-clause-answer : goal.of_module-returns-clause-answer
of_module-returns-clause-answer t c =
    let same : c.in_ok-clone.field-0.value ≡ c.in_ok-job.job.value = search rules in
    let seen : c.deref-2.result.now ≡ c.in_ok-job.job.value = search rules in
    goes_into c.args.t.now.limits (modules_of c.args.modules.now) (plain_module c.args.of.now.body.now) c.args.left c.args.above c.args.here c.args.t.now.path.items c.push-2.new.self.items
    c.args.child.now c.args.clock c.deref.result.now c.in_ok-job.job c.in_ok-clone.field-0 c.deref-2.result.now c.args.t.now.all.items c.push.new.self.items
    c.deref.ensures.value c.in_ok-job.ensures.of c.in_ok-job.ensures.answer same seen c.requires.here c.in_ok-push-2.ensures.items c.in_ok-push.ensures.items
    ∙ c.in_ok-within.ensures.answer
