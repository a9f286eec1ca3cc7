-- What has been read of the files so far (IEEE 1364-2005, clause 19): directives hold from where they stand, across files.
use Rattle.std.specs.Prelude.{ℕ, List, length}
use Rattle.verilog_pre.specs.declared.conditional.Conditional.{Conditional}
use Rattle.verilog_pre.specs.declared.reader.Reader.{Reader}
use Rattle.verilog_pre.specs.Expansions.{Output, output}
use Rattle.verilog_pre.specs.Parts.{Part}
use Rattle.verilog_pre.specs.Tables.{Table, table_of}
use Rattle.verilog_pre.specs.Views.{parts_of}

-- the macros that are known, the parts of all bodies, how many macros were defined, the pieces, the open conditionals
pub record State : Type 0 where
  pub table : Table
  pub parts : List Part
  pub count : ℕ
  pub out : Output
  pub nest : List Conditional

abbrev pub state : Reader → State
state r = record { table = table_of r.macros; parts = parts_of r.macros; count = length r.macros.places.items; out = output r.out; nest = r.nest.items }
