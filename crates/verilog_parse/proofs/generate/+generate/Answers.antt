use Rattle.std.proofs.Common.{◌≡◌, [], ◌∷◌, ◌++◌, subst, sym, rules, arith}
use Rattle.verilog_expr.proofs.Lists.{grows_more, grows_end}
use Rattle.verilog_expr.specs.Tokens.{next}
use Rattle.verilog_lex.specs.declared.kind.Kind.TheVariants as k
use Rattle.verilog_expr.proofs.Runs.{then, expand_at, other_at}
use Rattle.verilog_expr.proofs.Entries.{generate_items_go}
use Rattle.verilog_parse.specs.Generates as spells
use Rattle.verilog_parse.specs.Generates.{Spells, another_item, no_item, branches_behind, another_branch, last_branch, no_branch}
use Rattle.verilog_parse.proofs.generate.+generate.Goals as goal

pub generate_items-items-preserved : goal.generate_items-items-preserved
generate_items-items-preserved t c = let go = generate_items_go c.args.weight (next c.items.p) c.items-test.ensures in record {
  machine = record { go = λ k out r. c.items.invariant.machine.go k out (other_at go (then c.in_ok-generate_item.ensures.machine r)) };
  tree = grows_more (λ xs s r. Spells (spells.GenerateItems xs) s r) (λ xs r. Spells (spells.GenerateItems xs) c.args.p.now r) _ _ _ _ _ c.items.invariant.tree c.in_ok-push.ensures.ok (λ xs r. another_item c.items-test.ensures c.in_ok-generate_item.ensures.tree);
  shorter = omega (arith, c.in_ok-generate_item.ensures.shorter);
}

pub generate_items-returns-clause-tree : goal.generate_items-returns-clause-tree
generate_items-returns-clause-tree t c = grows_end (λ xs s r. Spells (spells.GenerateItems xs) s r) (λ xs r. Spells (spells.GenerateItems xs) c.args.p.now r) _ _ c.items.invariant.tree (no_item c.items-test.ensures)

pub other_branches-items-init : goal.other_branches-items-init
other_branches-items-init t c = let first : c.push.new.self ≡ c.args.first ∷ [] = search rules in record {
  machine = record { go = λ k out r. r };
  tree = λ xs r h. subst (λ all. Spells (spells.BranchesBehind c.args.first (all ++ xs)) c.args.p.now r) (sym first) (branches_behind h);
  shorter = omega arith;
}

pub other_branches-items-preserved : goal.other_branches-items-preserved
other_branches-items-preserved t c = let is : k.If ≡ next c.expect.new.self = search rules in record {
  machine = record { go = λ k out r. c.items.invariant.machine.go k out (expand_at c.items-test.ensures (then c.in_ok-expect.ensures.machine (expand_at is (then c.in_ok-branch.ensures.machine r)))) };
  tree = grows_more (λ xs s r. Spells (spells.OtherBranches xs) s r) (λ xs r. Spells (spells.BranchesBehind c.args.first xs) c.args.p.now r) _ _ _ _ _ c.items.invariant.tree c.in_ok-push-3.ensures.ok (λ xs r. another_branch c.in_ok-expect.ensures.takes is c.in_ok-branch.ensures.tree);
  shorter = omega (arith, c.in_ok-branch.ensures.shorter, c.in_ok-expect.ensures.shorter);
}

pub other_branches-returns-clause-tree : goal.other_branches-returns-clause-tree
other_branches-returns-clause-tree t c = grows_end (λ xs s r. Spells (spells.OtherBranches xs) s r) (λ xs r. Spells (spells.BranchesBehind c.args.first xs) c.args.p.now r) _ _ c.items.invariant.tree (no_branch c.items-test.ensures)
