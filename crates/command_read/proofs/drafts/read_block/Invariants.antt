use Rattle.std.proofs.Common.{◌≡◌, ◌+◌, ◌≤◌, true, length}
use Rattle.ls_text.specs.Texts.{Grows}
use Rattle.command_read.specs.Lines.{script_lines}
use Rattle.command_read.specs.Blocks.{reading_of, begun_at}
use Rattle.command_read.specs.Spoken.{reading, IsDraftWithin}
use Rattle.command_read.proofs.drafts.read_block.Given as goal

-- the block so far, and the lines that are left
abbrev pub invariant-loop-line : goal.invariant-loop-line
invariant-loop-line l = record {
  same : reading_of (reading l.names l.draft) l.number (script_lines true l.rest) ≡ reading_of (begun_at l.first) (l.first + 1) (script_lines true l.body);
  within : IsDraftWithin (length l.names) l.draft;
  grows : Grows l.initial.names l.names;
  few : l.number + length l.rest ≤ l.first + 1 + length l.body;
}

abbrev pub decreases-loop-line : goal.decreases-loop-line
decreases-loop-line l = length l.rest
