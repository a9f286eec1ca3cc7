use Rattle.std.proofs.Common.{◌≡◌, ◌⊎◌, ◌-◌, ◌≤◌, List, ℕ, [], false, None}
use Rattle.command_read.specs.Readers.{still_of, next_number, has_ended, stopped, asked_of, IsSoon, Takes, HandsOut}
use Rattle.command_read.proofs.reader.Reader.first_line.Given as goal

-- nothing is asked for by the lines that were skipped
abbrev pub invariant-loop-found : goal.invariant-loop-found
invariant-loop-found g l = record {
  goes : (came : List ℕ) × (kept : List ℕ) × Takes (g.S.Source.left l.initial.source) (g.S.Source.left l.source) (g.S.Source.faults l.initial.source) (g.S.Source.faults l.source) l.initial.self l.self came kept
      × HandsOut l.initial.self l.self [] kept × IsSoon l.initial.self came;
  still : still_of l.self ≤ still_of l.initial.self;
  going : stopped l.self ≡ None;
  unread : ((l.source ≡ l.initial.source) × (has_ended l.self ≡ has_ended l.initial.self) × (has_ended l.initial.self ≡ false → asked_of l.self [] false ≡ asked_of l.initial.self [] false))
      ⊎ ((has_ended l.initial.self ≡ false) × (asked_of l.initial.self [] false ≡ []));
}

abbrev pub decreases-loop-found : goal.decreases-loop-found
decreases-loop-found g l = 67108867 - next_number l.self
