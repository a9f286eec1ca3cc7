use Rattle.std.proofs.Common.{◌≡◌, ◌+◌, ◌*◌, length}
use Rattle.std.specs.List.{All}
use Rattle.ls_text.specs.Texts.{Grows}
use Rattle.verilog_pre.specs.Tables.{Sound}
use Rattle.verilog_pre.specs.Views.{work_of, IsListedItem}
use Rattle.verilog_pre.specs.Expansions.{output, work_on, context, Keeps, Placed}
use Rattle.verilog_pre.proofs.expand.work_off.Given as goal

-- the work that is left gives what all of it gives
abbrev pub invariant-loop-next : goal.invariant-loop-next
invariant-loop-next l = record {
  same : work_on (context l.macros l.at) l.nest.open.items (output l.out) (work_of l.macros.words l.nest) ≡ work_on (context l.fn.macros l.at) l.fn.nest.open.items (output l.fn.out) (work_of l.fn.macros.words l.fn.nest);
  keeps : Keeps l.fn.macros l.macros;
  sound : Sound l.macros;
  placed : Placed l.macros.places.items l.nest.open.items;
  listed : All (IsListedItem (length l.macros.words)) l.nest.work.items;
  grows : Grows l.fn.names l.names;
}

abbrev pub decreases-loop-next : goal.decreases-loop-next
decreases-loop-next l = l.out.uses * (length l.macros.parts.items + 2) + length l.nest.work.items
