use Rattle.std.proofs.Common.{◌≡◌, [], ◌∷◌, ◌++◌, subst, sym, rules, arith}
use Rattle.verilog_expr.proofs.Lists.{grows_more, grows_end}
use Rattle.verilog_expr.proofs.Runs.{then, expand_at}
use Rattle.verilog_parse.specs.Items as spells
use Rattle.verilog_parse.specs.Items.{Spells, assignments_behind, another_assignment, no_assignment}
use Rattle.verilog_parse.proofs.items.more_assignments.Goals as goal

pub items-init : goal.items-init
items-init c = let first : c.push.new.self ≡ c.args.first ∷ [] = search rules in record {
  machine = record { go = λ k out r. r };
  tree = λ xs r h. subst (λ all. Spells (spells.AssignmentsBehind c.args.first (all ++ xs)) c.args.p.now r) (sym first) (assignments_behind h);
  shorter = omega arith;
}

pub items-preserved : goal.items-preserved
items-preserved c = record {
  machine = record { go = λ k out r. c.items.invariant.machine.go k out (expand_at c.items-test.ensures (then c.in_ok-expect.ensures.machine (then c.in_ok-continuous.ensures.machine r))) };
  tree = grows_more (λ xs s r. Spells (spells.OtherAssignments xs) s r) (λ xs r. Spells (spells.AssignmentsBehind c.args.first xs) c.args.p.now r) _ _ _ _ _ c.items.invariant.tree c.in_ok-push-2.ensures.ok (λ xs r. another_assignment c.in_ok-expect.ensures.takes c.in_ok-continuous.ensures.tree);
  shorter = omega (arith, c.in_ok-continuous.ensures.shorter, c.in_ok-expect.ensures.shorter);
}

pub returns-clause-tree : goal.returns-clause-tree
returns-clause-tree c = grows_end (λ xs s r. Spells (spells.OtherAssignments xs) s r) (λ xs r. Spells (spells.AssignmentsBehind c.args.first xs) c.args.p.now r) _ _ c.items.invariant.tree (no_assignment c.items-test.ensures)
