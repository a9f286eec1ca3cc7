use Rattle.std.proofs.Common.{◌≡◌, ◌⊎◌, ◌+◌, ◌-◌, ◌≤◌, ◌++◌, List, ℕ, [], length, take, drop, true, false, None}
use Rattle.command_read.specs.Lines.{script_lines}
use Rattle.command_read.specs.Scripts.{Within}
use Rattle.command_read.specs.Scanned.{Scanned}
use Rattle.command_read.specs.Readers.{left, next_number, has_ended, stopped, asked_of, IsSoon, Takes}
use Rattle.command_read.proofs.FirstLines.{IsCut}
use Rattle.command_read.proofs.reader.Reader.block.Given as goal

-- the lines of the block so far are those up to a place behind a newline
abbrev pub invariant-loop-found : goal.invariant-loop-found
invariant-loop-found g l = record {
  takes : (came : List ℕ) × (kept : List ℕ) × Takes (g.S.Source.left l.initial.source) (g.S.Source.left l.source) (g.S.Source.faults l.initial.source) (g.S.Source.faults l.source) l.initial.self l.self came kept
      × (left l.self ≡ left l.initial.self ++ kept) × IsSoon l.initial.self came;
  number : next_number l.self ≡ next_number l.initial.self;
  going : stopped l.self ≡ None;
  low : l.body ≤ l.from;
  high : l.from ≤ length (left l.self);
  few : l.lines ≤ l.from;
  scanned : Scanned (has_ended l.self) (next_number l.self) (left l.self)
      (Within (next_number l.self) (script_lines true (take (l.from - l.body) (drop l.body (left l.self)))) l.in_text) (next_number l.self + l.lines) l.from;
  whole : IsCut (take (l.from - l.body) (drop l.body (left l.self)));
  unread : ((l.source ≡ l.initial.source) × (left l.self ≡ left l.initial.self) × (has_ended l.self ≡ has_ended l.initial.self))
      ⊎ ((has_ended l.initial.self ≡ false) × (asked_of l.initial.self [] false ≡ []));
}

abbrev pub decreases-loop-found : goal.decreases-loop-found
decreases-loop-found g l = 67108866 - l.from
