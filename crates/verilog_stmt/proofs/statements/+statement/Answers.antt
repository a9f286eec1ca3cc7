use Rattle.std.proofs.Common.{◌≡◌, [], ◌∷◌, ◌++◌, subst, sym, rules, arith}
use Rattle.verilog_expr.proofs.Lists.{grows_more, grows_end}
use Rattle.verilog_expr.specs.Tokens.{next}
use Rattle.verilog_expr.proofs.Runs.{then, other_at, runs}
use Rattle.verilog_expr.proofs.Entries.{statements_go, more_arms_go, statement_entries}
use Rattle.verilog_stmt.specs.Statements as spells
use Rattle.verilog_stmt.specs.Statements.{Spells, targets_behind, another_target, no_target, another_statement, no_statement, arms_behind, another_arm, no_arm, labels_behind, another_label, no_other_label}
use Rattle.verilog_stmt.proofs.statements.+statement.Goals as goal

pub more_arms-items-init : goal.more_arms-items-init
more_arms-items-init t c = let first : c.push.new.self ≡ c.args.first ∷ [] = search rules in record {
  machine = record { go = λ k out r. r };
  tree = λ xs r h. subst (λ all. Spells (spells.ArmsBehind c.args.sign c.args.which c.args.first (all ++ xs)) c.args.p.now r) (sym first) (arms_behind h);
  shorter = omega arith;
}

pub more_arms-items-preserved : goal.more_arms-items-preserved
more_arms-items-preserved t c = let go = more_arms_go c.args.sign c.args.which c.args.weight (next c.items.p) c.items-test.ensures in record {
  machine = record { go = λ k out r. c.items.invariant.machine.go k out (other_at go (then c.in_ok-arm.ensures.machine r)) };
  tree = grows_more (λ xs s r. Spells (spells.OtherArms c.args.sign c.args.which xs) s r) (λ xs r. Spells (spells.ArmsBehind c.args.sign c.args.which c.args.first xs) c.args.p.now r) _ _ _ _ _ c.items.invariant.tree c.in_ok-push-2.ensures.ok (λ xs r. another_arm c.items-test.ensures c.in_ok-arm.ensures.tree);
  shorter = omega (arith, c.in_ok-arm.ensures.shorter);
}

pub more_arms-returns-clause-tree : goal.more_arms-returns-clause-tree
more_arms-returns-clause-tree t c = grows_end (λ xs s r. Spells (spells.OtherArms c.args.sign c.args.which xs) s r) (λ xs r. Spells (spells.ArmsBehind c.args.sign c.args.which c.args.first xs) c.args.p.now r) _ _ c.items.invariant.tree (no_arm c.items-test.ensures)

pub statements-items-preserved : goal.statements-items-preserved
statements-items-preserved t c = let go = statements_go c.args.sign c.args.weight (next c.items.p) c.items-test.ensures in record {
  machine = record { go = λ k out r. c.items.invariant.machine.go k out (other_at go (then c.in_ok-statement.ensures.machine r)) };
  tree = grows_more (λ xs s r. Spells (spells.Statements c.args.sign xs) s r) (λ xs r. Spells (spells.Statements c.args.sign xs) c.args.p.now r) _ _ _ _ _ c.items.invariant.tree c.in_ok-push.ensures.ok (λ xs r. another_statement c.items-test.ensures c.in_ok-statement.ensures.tree);
  shorter = omega (arith, c.in_ok-statement.ensures.shorter);
}

pub statements-returns-clause-tree : goal.statements-returns-clause-tree
statements-returns-clause-tree t c = grows_end (λ xs s r. Spells (spells.Statements c.args.sign xs) s r) (λ xs r. Spells (spells.Statements c.args.sign xs) c.args.p.now r) _ _ c.items.invariant.tree (no_statement c.items-test.ensures)

pub case_statement-returns-in_err-arms-clause-machine : goal.case_statement-returns-in_err-arms-clause-machine
case_statement-returns-in_err-arms-clause-machine t c = search (rules, runs, statement_entries) depth 16

pub case_statement-returns-in_err-expect-3-clause-machine : goal.case_statement-returns-in_err-expect-3-clause-machine
case_statement-returns-in_err-expect-3-clause-machine t c = search (rules, runs, statement_entries) depth 16
