-- The scope differs from that before the loop at the genvar alone.
use Rattle.std.proofs.Common.{◌≡◌, ◌+◌, map, length}
use Rattle.verilog_ast.specs.Views.{head_of}
use Rattle.width_rules.specs.Entries.{scope_of, around}
use Rattle.gen_unroll.specs.Unrolled.{turns_from}
use Rattle.gen_unroll.specs.Values.{constant_of}
use Rattle.gen_unroll.proofs.Counting.{before}
use Rattle.gen_unroll.proofs.Scoping.{DiffersAt}
use Rattle.gen_unroll.proofs.looping.turns_from.Given as goal

abbrev pub invariant-turns : goal.invariant-turns
invariant-turns l = record {
  names : DiffersAt l.head.start.name (scope_of l.fn.scope) (scope_of l.scope);
  kept : around l.scope ≡ around l.fn.scope;
  count : length l.values.items + l.left ≡ l.limit;
  answer : turns_from l.at (head_of l.head) (scope_of l.fn.scope) l.limit (constant_of l.fn.first)
      ≡ before (map constant_of l.values.items) (turns_from l.at (head_of l.head) (scope_of l.fn.scope) l.left (constant_of l.value));
}

abbrev pub decreases-turns : goal.decreases-turns
decreases-turns l = l.left
