use Rattle.std.proofs.Common.{◌≡◌, ap, sym, refl, ◌∙◌}
use Rattle.std.specs.Prelude.{None}
use Rattle.verilog_ast.specs.declared.module.Module.{Module}
use Rattle.unit_jobs.specs.Jobs.{module_called}
use Rattle.unit_jobs.specs.TableViews.{modules_of}
use Rattle.unit_jobs.proofs.Keys.{not_found, one_more, still_named}
use Rattle.unit_jobs.proofs.module_table.ModuleTable.add.Goals as goal

pub invariant_of-self : goal.invariant_of-self
invariant_of-self c =
    let none : module_called c.args.added.body.name.name.0 (modules_of c.args.self.now) ≡ None =
    not_found c.find.result _ (sym c.is_some.ensures ∙ c.if-is_some.false) c.find.ensures in
    record {
      named = still_named _ (λ x y. refl) c.insert.result c.args.self.now.modules.entries c.insert.new.self.entries c.args.added.body.name.name
          c.in_ok-shared.shared
          c.insert.ensures.entries c.insert.ensures.err c.args.self.now.named none
          (ap (λ (m : Module). m.body.name.name.0) (sym c.in_ok-shared.ensures.ok));
    }

pub returns : goal.returns
returns c =
    let none : module_called c.args.added.body.name.name.0 (modules_of c.args.self.now) ≡ None =
    not_found c.find.result _ (sym c.is_some.ensures ∙ c.if-is_some.false) c.find.ensures in
    one_more _ (λ x y. refl) c.args.self.now.modules.entries c.insert.new.self.entries c.args.added.body.name.name c.in_ok-shared.shared c.args.added
    c.in_ok-insert.ensures.entries c.args.self.now.named none c.in_ok-shared.ensures.ok refl
