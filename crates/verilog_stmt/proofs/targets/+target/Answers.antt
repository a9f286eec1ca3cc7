use Rattle.std.proofs.Common.{◌≡◌, [], ◌∷◌, ◌++◌, subst, sym, rules, arith}
use Rattle.verilog_expr.proofs.Lists.{grows_more, grows_end}
use Rattle.verilog_expr.proofs.Runs.{then, expand_at}
use Rattle.verilog_stmt.specs.Statements as spells
use Rattle.verilog_stmt.specs.Statements.{Spells, targets_behind, another_target, no_target, another_statement, no_statement, arms_behind, another_arm, no_arm, labels_behind, another_label, no_other_label}
use Rattle.verilog_stmt.proofs.targets.+target.Goals as goal

pub more_targets-items-init : goal.more_targets-items-init
more_targets-items-init t c = let first : c.push.new.self ≡ c.args.first ∷ [] = search rules in record {
  machine = record { go = λ k out r. r };
  tree = λ xs r h. subst (λ all. Spells (spells.TargetsBehind c.args.first (all ++ xs)) c.args.p.now r) (sym first) (targets_behind h);
  shorter = omega arith;
}

pub more_targets-items-preserved : goal.more_targets-items-preserved
more_targets-items-preserved t c = record {
  machine = record { go = λ k out r. c.items.invariant.machine.go k out (expand_at c.items-test.ensures (then c.in_ok-expect.ensures.machine (then c.in_ok-target.ensures.machine r))) };
  tree = grows_more (λ xs s r. Spells (spells.OtherTargets xs) s r) (λ xs r. Spells (spells.TargetsBehind c.args.first xs) c.args.p.now r) _ _ _ _ _ c.items.invariant.tree c.in_ok-push-2.ensures.ok (λ xs r. another_target c.in_ok-expect.ensures.takes c.in_ok-target.ensures.tree);
  shorter = omega (arith, c.in_ok-target.ensures.shorter, c.in_ok-expect.ensures.shorter);
}

pub more_targets-returns-clause-tree : goal.more_targets-returns-clause-tree
more_targets-returns-clause-tree t c = grows_end (λ xs s r. Spells (spells.OtherTargets xs) s r) (λ xs r. Spells (spells.TargetsBehind c.args.first xs) c.args.p.now r) _ _ c.items.invariant.tree (no_target c.items-test.ensures)
