use Rattle.std.proofs.Common.{◌∙◌, List, Option, map, sym, ap, subst}
use Rattle.std.specs.Option.{option_map}
use Rattle.typed_ir.specs.declared.constant.Const.{Const}
use Rattle.verilog_ast.specs.Views.{connections_of, declaration_of, instance_of}
use Rattle.gen_unroll.specs.ReachViews.{reach_of}
use Rattle.gen_unroll.specs.Views.{override_view}
use Rattle.elaborate.specs.Checks.{each, one_instance}
use Rattle.ls_text.specs.Answers.{Leads}
use Rattle.elaborate.specs.Views.{checked_of}
use Rattle.module_names.specs.Views.{module_of, modules_of}
use Rattle.elaborate.proofs.Instantiated.{overrides_refused, overrides_known}
use Rattle.elaborate.proofs.body.instances.Goals as goal

pub returns-in_err-values-in-Some : goal.returns-in_err-values-in-Some
returns-in_err-values-in-Some c =
    overrides_refused (modules_of c.args.modules.now) (reach_of c.args.here.now) c.args.instantiated (option_map connections_of c.args.overrides.now)
    (map instance_of c.args.instances.now) (checked_of c.args.check.now) (declaration_of c.in-Some.of.now.body.now)
    c.in-Some.of.now.parameters (ap (λ o. option_map module_of o) (sym c.in-Some.is) ∙ c.find.ensures) c.in-Some.of.now.overridden
    c.from_residual.result c.in_err-values-in-Some.field-0.0 (checked_of c.args.check.now) c.from_residual.ensures.1 c.in_err-values-in-Some.ensures

pub returns-in_ok-values-in-Some : goal.returns-in_ok-values-in-Some
returns-in_ok-values-in-Some c =
    let here = reach_of c.args.here.now in
    let m = declaration_of c.in-Some.of.now.body.now in
    let xs = map instance_of c.args.instances.now in
    let old = checked_of c.args.check.now in
    overrides_known (modules_of c.args.modules.now) here c.args.instantiated (option_map connections_of c.args.overrides.now) xs old m
    c.in-Some.of.now.parameters (ap (λ o. option_map module_of o) (sym c.in-Some.is) ∙ c.find.ensures) c.in-Some.of.now.overridden
    c.each_instance.result (map override_view c.in_ok-values-in-Some.values.items) (checked_of c.each_instance.new.check) c.in_ok-values-in-Some.ensures
    (subst (λ (vs : List (Option Const)). Leads c.each_instance.result (checked_of c.each_instance.new.check) (each (one_instance here m c.args.instantiated (map override_view vs)) xs old))
    c.deref.ensures.value c.each_instance.ensures)
