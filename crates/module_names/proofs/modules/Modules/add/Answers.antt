use Rattle.std.proofs.Common.{ap, sym, refl}
use Rattle.verilog_ast.specs.declared.module_body.ModuleBody.{ModuleBody}
use Rattle.verilog_ast.specs.Views.{declaration_of}
use Rattle.module_names.proofs.Keys.{one_more, still_named}
use Rattle.module_names.proofs.modules.Modules.add.Goals as goal

pub invariant_of-self : goal.invariant_of-self
invariant_of-self c = record {
  named = still_named _ (λ x y. refl) c.insert.result c.args.self.now.names.entries c.insert.new.self.entries c.args.added.now.body.name.name c.in_ok-names.names
      c.insert.ensures.entries c.insert.ensures.err c.args.self.now.named c.requires (ap (λ (b : ModuleBody). b.name.name.0) (sym c.in_ok-names.ensures));
}

pub returns-clause-more : goal.returns-clause-more
returns-clause-more c =
    one_more _ (λ x y. refl) c.args.self.now.names.entries c.insert.new.self.entries c.args.added.now.body.name.name c.in_ok-names.names (declaration_of c.args.added.now.body)
    c.in_ok-insert.ensures.entries c.args.self.now.named c.requires (ap declaration_of c.in_ok-names.ensures)
