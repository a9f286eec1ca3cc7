use Rattle.std.proofs.Common.{◌≡◌, ◌-◌, ◌≤◌, ◌++◌, ◌⊎◌, take, drop, map}
use Rattle.verilog_pre.specs.declared.item.Item.TheVariants as item
use Rattle.verilog_pre.proofs.expand.push_body.Given as goal

-- the parts from the next on stand before the work
abbrev pub invariant-loop-next : goal.invariant-loop-next
invariant-loop-next l = record {
  work : l.nest.work.items ≡ map item.Part (take (l.body.last - l.next) (drop l.next l.macros.parts.items)) ++ l.fn.nest.work.items;
  open_ : l.nest.open ≡ l.fn.nest.open;
  within : l.next ≤ l.body.last;
  lower : (l.body.first ≤ l.next) ⊎ (l.next ≡ l.body.last);
}

abbrev pub decreases-loop-next : goal.decreases-loop-next
decreases-loop-next l = l.next
