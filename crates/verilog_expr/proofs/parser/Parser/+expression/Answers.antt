use Rattle.std.proofs.Common.{◌≤◌, ℕ, ap, sym, ◌∙◌, rules, arith}
use Rattle.verilog_expr.proofs.Trees.{looser_is, longer, others_begin, others_more, others_end}
use Rattle.verilog_expr.proofs.Runs.{then, expand_at, chain_more}
use Rattle.verilog_expr.specs.Spells.{Spells, AChain, one}
use Rattle.verilog_expr.specs.Tokens.{binary_operator, level}
use Rattle.verilog_ast.specs.declared.expression.Expr.TheVariants as e
use Rattle.verilog_expr.proofs.parser.Parser.+expression.Goals as goal

pub chain-loop-op-init : goal.chain-loop-op-init
chain-loop-op-init t c = record {
  machine = record { go = λ k out r. then c.in_ok-left.ensures.machine r };
  tree = one c.in_ok-left.ensures.tree;
  goes_on = λ op is le. one c.in_ok-left.ensures.tree;
  shorter = c.in_ok-left.ensures.shorter;
  light = c.requires;
}

pub chain-loop-op-preserved : goal.chain-loop-op-preserved
chain-loop-op-preserved t c =
    let has = c.in-Some.ensures in
    let least_below : c.args.least ≤ level c.in-Some.op = omega (arith, c.level.ensures.value) in
    let tree : (p : ℕ) → p ≤ level c.in-Some.op → Spells (AChain p (e.Binary c.in-Some.op c.in_ok-new.field-0 c.in_ok-new-2.field-0)) c.args.self.now c.chain.new.self = λ p le.
    longer p c.level-in-Some.result c.in-Some.op c.loop-op.left c.in_ok-right.right _ _ c.args.self.now c.loop-op.self c.expect.new.self c.chain.new.self c.peek-kind.result c.in_ok-expect.field-0
    c.in_ok-new.ensures c.in_ok-new-2.ensures c.level-in-Some.ensures.value le (c.loop-op.invariant.goes_on c.in-Some.op (sym has) least_below) (ap binary_operator c.peek-kind.ensures ∙ sym has) c.in_ok-expect.ensures.takes c.in_ok-right.ensures.tree in
    record {
      machine = chain_more c.args.weight c.loop-op.inner c.in_ok-right.after _ _ _ _ c.peek-kind.result c.in-Some.op c.loop-op.invariant.machine c.peek-kind.ensures has c.in_ok-expect.ensures.machine c.in_ok-right.ensures.machine;
      tree = tree c.args.least least_below;
      goes_on = λ op is le. tree (level op) (omega (arith, looser_is _ _ op c.in_ok-right.ensures.ends is, c.level-in-Some.ensures.value));
      shorter = omega (arith, c.in_ok-right.ensures.shorter, c.in_ok-expect.ensures.shorter);
      light = c.in_ok-right.ensures.light;
    }

pub more-items-init : goal.more-items-init
more-items-init t c = record {
  machine = record { go = λ k out r. r };
  tree = others_begin c.args.first c.push.new.self c.args.self.now (search rules);
  shorter = omega arith;
}

pub more-items-preserved : goal.more-items-preserved
more-items-preserved t c = record {
  machine = record { go = λ k out r. c.items.invariant.machine.go k out (expand_at c.items-test.ensures (then c.in_ok-expect.ensures.machine (then c.in_ok-read_expression.ensures.machine r))) };
  tree = others_more c.args.first c.items.all _ _ c.args.self.now c.items.self _ _ _ c.items.invariant.tree c.in_ok-push-2.ensures.ok c.in_ok-expect.ensures.takes c.in_ok-read_expression.ensures.tree;
  shorter = omega (arith, c.in_ok-read_expression.ensures.shorter, c.in_ok-expect.ensures.shorter);
}

pub more-returns-clause-tree : goal.more-returns-clause-tree
more-returns-clause-tree t c = others_end c.args.first c.items.all c.args.self.now c.items.self c.items.invariant.tree c.items-test.ensures
