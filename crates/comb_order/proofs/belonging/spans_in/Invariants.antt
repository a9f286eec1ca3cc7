use Rattle.std.proofs.Common.{◌≡◌, drop}
use Rattle.comb_order.specs.Parts.{spans_in}
use Rattle.comb_order.proofs.belonging.spans_in.Given as goal

abbrev pub invariant-loop-span : goal.invariant-loop-span
invariant-loop-span l = spans_in l.registers.listed.now (drop l.span-index l.spans) ≡ spans_in l.registers.listed.now l.spans
