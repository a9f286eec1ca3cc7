use Rattle.std.proofs.Common.{◌≡◌, ◌<◌, map, length}
use Rattle.std.specs.List.{All}
use Rattle.ls_text.specs.Texts.{Grows}
use Rattle.command_read.specs.declared.port_value.PortValue.{PortValue}
use Rattle.command_read.specs.Lines.{words}
use Rattle.command_read.specs.LineCommands.{settings}
use Rattle.command_read.specs.Spoken.{setting}
use Rattle.command_read.proofs.Settings.{onto}
use Rattle.command_read.proofs.line_commands.read_settings.Given as goal

-- the pairs so far, and those of the words that are left
abbrev pub invariant-loop-word : goal.invariant-loop-word
invariant-loop-word l = record {
  same : onto (map (setting l.names) l.values.items) (settings l.line (words l.rest)) ≡ settings l.line (words l.pairs);
  within : All (λ (v : PortValue). v.port.0 < length l.names) l.values.items;
  grows : Grows l.initial.names l.names;
}

abbrev pub decreases-loop-word : goal.decreases-loop-word
decreases-loop-word l = length l.rest
