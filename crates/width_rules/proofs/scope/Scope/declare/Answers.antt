use Rattle.std.proofs.Common.{◌≡◌, ◌∙◌, ◌∷◌, ap, refl}
use Rattle.width_rules.specs.declared.covered.Covered.TheVariants as covered
use Rattle.width_rules.specs.Scopes.{Scope, with_name}
use Rattle.width_rules.specs.Found.{meaning_of, found, uncovered, are_held}
use Rattle.width_rules.proofs.Finding.{declared, taken_back, held_in_block}
use Rattle.width_rules.proofs.scope.Scope.declare.Goals as goal

pub returns-then-is_empty-clause-names : goal.returns-then-is_empty-clause-names
returns-then-is_empty-clause-names c =
    ap found c.in_ok-insert.ensures.entries ∙ declared _ (λ x y. refl) c.args.self.now.names.entries c.args.name c.args.entry

pub invariant_of-self-in-Ok : goal.invariant_of-self-in-Ok
invariant_of-self-in-Ok c =
    let es = c.args.self.now.names.entries in
    let cs = c.args.self.now.covered.items in
    record {
      held = ap (λ ys. are_held c.insert-2.new.self.entries ys) c.in_ok-push_front.ensures.items
          ∙ ap (λ xs. are_held xs (covered.Name c.args.name c.find-before.result ∷ cs)) c.in-Ok.ensures.entries
          ∙ held_in_block _ (λ x y. refl) es c.args.name c.args.entry c.find-before.result cs c.args.self.now.held;
    }

pub returns-in-Ok-clause-names : goal.returns-in-Ok-clause-names
returns-in-Ok-clause-names c =
    ap found c.in-Ok.ensures.entries ∙ declared _ (λ x y. refl) c.args.self.now.names.entries c.args.name c.args.entry

pub returns-in-Ok-clause-around : goal.returns-in-Ok-clause-around
returns-in-Ok-clause-around c =
    let before = meaning_of c.find-before.result in
    let scope = found c.args.self.now.names.entries in
    let cs = c.args.self.now.covered.items in
    let name = c.args.name.0 in
    let same : found c.insert-2.new.self.entries ≡ with_name name (meaning_of c.args.entry) scope =
    ap found c.in-Ok.ensures.entries ∙ declared _ (λ x y. refl) c.args.self.now.names.entries c.args.name c.args.entry in
    ap (λ xs. uncovered xs (found c.insert-2.new.self.entries)) c.in_ok-push_front.ensures.items
    ∙ ap (λ (s : Scope). uncovered cs (with_name name before s)) same
    ∙ ap (uncovered cs) (taken_back name before (meaning_of c.args.entry) scope c.find-before.ensures)
