use Rattle.std.proofs.Common.{◌≡◌, drop}
use Rattle.ls_text.specs.Places.{place_after}
use Rattle.ls_text.proofs.place.place_after.Given as goal

-- the rest leads from the place so far to the last
abbrev pub invariant-loop-byte : goal.invariant-loop-byte
invariant-loop-byte l =
    place_after (record { file = l.at.file; line = l.line; col = l.col }) (drop l.byte-index l.bytes) ≡ place_after l.at l.bytes
