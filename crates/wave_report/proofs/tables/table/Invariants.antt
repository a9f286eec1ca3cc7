use Rattle.std.proofs.Common.{◌≡◌, ◌++◌, map, drop}
use Rattle.typed_ir.specs.Flats.{signal_of}
use Rattle.reg_transform.specs.States.{state_values}
use Rattle.wave_report.specs.Tables.{signal_lines}
use Rattle.wave_report.proofs.tables.table.Given as goal

-- the lines so far, and those of the registers that are left
abbrev pub invariant-loop-number : goal.invariant-loop-number
invariant-loop-number l =
    l.text.items
    ++ signal_lines l.names l.prefix (map (signal_of l.rows) l.signals) (drop l.number l.registers) (drop l.number (state_values l.state))
    ≡ signal_lines l.names l.prefix (map (signal_of l.rows) l.signals) l.registers (state_values l.state)
