use Rattle.std.proofs.Common.{◌≤◌, ◌*◌, ◌+◌, length, [], ◌∷◌}
use Rattle.verilog_expr.specs.Grammar as grammar
use Rattle.verilog_expr.specs.Grammar.{N}
use Rattle.verilog_expr.specs.Reads.{Leads}
use Rattle.verilog_expr.proofs.Lists.{Grows}
use Rattle.verilog_parse.specs.Generates as spells
use Rattle.verilog_parse.specs.Generates.{Spells}
use Rattle.verilog_parse.proofs.generate.+generate.Given as goal

abbrev pub decreases-generate_items : goal.decreases-generate_items
decreases-generate_items l = 8 * length l.p.now + 3

abbrev pub decreases-generate_item : goal.decreases-generate_item
decreases-generate_item l = 8 * length l.p.now + 2

abbrev pub decreases-generate_loop : goal.decreases-generate_loop
decreases-generate_loop l = 8 * length l.p.now + 1

abbrev pub decreases-block : goal.decreases-block
decreases-block l = 8 * length l.p.now

abbrev pub decreases-branch : goal.decreases-branch
decreases-branch l = 8 * length l.p.now

abbrev pub decreases-otherwise : goal.decreases-otherwise
decreases-otherwise l = 8 * length l.p.now + 1

abbrev pub decreases-other_branches : goal.decreases-other_branches
decreases-other_branches l = 8 * length l.p.now

abbrev pub invariant-generate_items-items : goal.invariant-generate_items-items
invariant-generate_items-items l = record {
  machine : Leads (N grammar.GenerateItems l.weight ∷ []) l.fn.p (N grammar.GenerateItems l.weight ∷ []) l.p;
  tree : Grows (λ xs s r. Spells (spells.GenerateItems xs) s r) (λ xs r. Spells (spells.GenerateItems xs) l.fn.p r) l.all l.p;
  shorter : length l.p ≤ length l.fn.p;
}

abbrev pub decreases-generate_items-items : goal.decreases-generate_items-items
decreases-generate_items-items l = length l.p

abbrev pub invariant-other_branches-items : goal.invariant-other_branches-items
invariant-other_branches-items l = record {
  machine : Leads (N grammar.OtherBranches l.weight ∷ []) l.fn.p (N grammar.OtherBranches l.weight ∷ []) l.p;
  tree : Grows (λ xs s r. Spells (spells.OtherBranches xs) s r) (λ xs r. Spells (spells.BranchesBehind l.fn.first xs) l.fn.p r) l.all l.p;
  shorter : length l.p ≤ length l.fn.p;
}

abbrev pub decreases-other_branches-items : goal.decreases-other_branches-items
decreases-other_branches-items l = length l.p
