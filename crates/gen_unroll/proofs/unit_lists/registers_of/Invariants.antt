use Rattle.std.proofs.Common.{◌≡◌, ◌++◌, filter, map, drop}
use Rattle.gen_unroll.specs.SignalViews.{signal_of}
use Rattle.gen_unroll.specs.UnitLists.{is_register}
use Rattle.gen_unroll.specs.UnitReaches.{is_settled}
use Rattle.gen_unroll.proofs.unit_lists.registers_of.Given as goal

abbrev pub invariant-loop-number : goal.invariant-loop-number
invariant-loop-number l =
    l.registers.items ++ filter (is_register (is_settled l.settled) (map signal_of l.signals)) (drop l.number-index l.numbers)
    ≡ filter (is_register (is_settled l.settled) (map signal_of l.signals)) l.numbers
