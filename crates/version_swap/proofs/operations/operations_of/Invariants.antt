use Rattle.std.proofs.Common.{◌≡◌, ◌++◌, drop}
use Rattle.version_swap.specs.Operations.{ops_of}
use Rattle.version_swap.proofs.operations.operations_of.Given as goal

abbrev pub invariant-loop-line : goal.invariant-loop-line
invariant-loop-line l = l.ops.items ++ ops_of (drop l.line-index l.lines) ≡ ops_of l.lines
