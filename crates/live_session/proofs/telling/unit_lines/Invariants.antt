use Rattle.std.proofs.Common.{◌≡◌, ◌++◌, drop, map}
use Rattle.live_session.specs.Statuses.{key_line}
use Rattle.live_session.proofs.telling.unit_lines.Given as goal

abbrev pub invariant-loop-key : goal.invariant-loop-key
invariant-loop-key l = l.lines.items ++ map key_line (drop l.key-index l.keys) ≡ map key_line l.keys
