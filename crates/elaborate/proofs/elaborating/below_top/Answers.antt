use Rattle.std.proofs.Common.{◌≡◌, List, map, Result, refl, sym, subst, rules}
use Rattle.ls_text.specs.declared.fault.Fault.{Fault}
use Rattle.verilog_ast.specs.Views.{declaration_of as plain_module}
use Rattle.module_names.specs.Views.{modules_of}
use Rattle.ls_text.specs.Answers.{Leads}
use Rattle.elaborate.specs.Elaborated.{Standing}
use Rattle.elaborate.specs.Jobs.{standing_of}
use Rattle.elaborate.proofs.Stood.{top_into}
use Rattle.elaborate.proofs.elaborating.below_top.Goals as goal

pub returns : goal.returns
returns c =
    let copy : c.in_ok-clone.field-0.value ≡ c.args.job.now.value = search rules in
    let seen : c.deref.result.now ≡ c.args.job.now.value = search rules in
    subst (λ (d : Result (List Standing) Fault). Leads c.within.result (map standing_of c.within.new.t.all.items) d)
    (sym (top_into c.args.t.now.limits (modules_of c.args.modules.now) (plain_module c.args.of.now.body.now) c.args.of.now.body.now.name c.args.clock
    c.args.job.now c.in_ok-clone.field-0 c.deref.result.now c.args.t.now.path.items c.push-2.new.self.items c.args.t.now.all.items c.push.new.self.items
    c.requires.found c.requires.of refl copy seen c.requires.path c.requires.all c.in_ok-push-2.ensures.items c.in_ok-push.ensures.items))
    c.within.ensures.answer
