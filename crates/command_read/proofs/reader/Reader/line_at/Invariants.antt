use Rattle.std.proofs.Common.{◌≡◌, ◌⊎◌, ℕ, ◌-◌, ◌≤◌, ◌++◌, false, List, [], length, drop, Some, None}
use Rattle.command_read.specs.declared.stop.Stop.TheVariants.{End}
use Rattle.command_read.specs.Lines.{script_lines}
use Rattle.command_read.specs.LineEnds.{line_length}
use Rattle.command_read.specs.Readers.{left, next_number, has_ended, count_taken, stopped, IsSoonAt, Takes}
use Rattle.command_read.proofs.Waiting.{waits}
use Rattle.command_read.proofs.reader.Reader.line_at.Given as goal

-- up to `seen` no newline ends the line; and where something was read, none did before
abbrev pub invariant-loop-self : goal.invariant-loop-self
invariant-loop-self g l = record {
  takes : (came : List ℕ) × (kept : List ℕ) × Takes (g.S.Source.left l.initial.source) (g.S.Source.left l.source) (g.S.Source.faults l.initial.source) (g.S.Source.faults l.source) l.initial.self l.self came kept
      × (left l.self ≡ left l.initial.self ++ kept) × IsSoonAt l.from l.initial.self came;
  number : next_number l.self ≡ next_number l.initial.self;
  low : l.from ≤ l.seen;
  high : l.seen ≤ length (left l.self);
  none : l.seen - l.from ≤ line_length (drop l.from (left l.self));
  halted : (stopped l.self ≡ None) ⊎ ((script_lines false (drop l.from (left l.self)) ≡ []) × (has_ended l.self ≡ false));
  unread : ((l.source ≡ l.initial.source) × (left l.self ≡ left l.initial.self) × (has_ended l.self ≡ has_ended l.initial.self))
      ⊎ ((has_ended l.initial.self ≡ false) × (script_lines false (drop l.from (left l.initial.self)) ≡ []));
  not_end : stopped l.self ≡ Some End → ⊥;
}

abbrev pub decreases-loop-self : goal.decreases-loop-self
decreases-loop-self g l = waits (count_taken l.self) (has_ended l.self) (stopped l.self)
