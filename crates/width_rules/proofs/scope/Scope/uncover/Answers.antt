use Rattle.std.proofs.Common.{◌∙◌, sym, ap, refl, true≢false}
use Rattle.typed_ir.proofs.Cases.{turned}
use Rattle.width_rules.specs.Found.{found}
use Rattle.width_rules.proofs.Finding.{declared, held_after, not_held}
use Rattle.width_rules.proofs.scope.Scope.uncover.Goals as goal

pub invariant_of-self : goal.invariant_of-self
invariant_of-self c = record {
  held = held_after _ c.insert.result c.args.self.now.names.entries c.insert.new.self.entries c.args.name c.args.entry c.args.self.now.covered.items
      c.insert.ensures.entries c.insert.ensures.err c.args.self.now.held;
}

pub returns-in-Ok-clause-names : goal.returns-in-Ok-clause-names
returns-in-Ok-clause-names c =
    ap found c.in-Ok.ensures.entries ∙ declared _ (λ x y. refl) c.args.self.now.names.entries c.args.name c.args.entry

pub returns-in-Err-clause-names : goal.returns-in-Err-clause-names
returns-in-Err-clause-names c =
    absurd (true≢false (sym c.requires ∙ not_held c.args.name.0 _ (λ k. turned c.args.name.0 k.0) c.args.self.now.names.entries c.in-Err.ensures.absent))
