-- What the modules of the code mean.
use Rattle.std.specs.Prelude.{List, map}
use Rattle.std.proofs.Common.{Bor}
use Rattle.std.specs.Global.{Global}
use Rattle.std.specs.declared.sync.Arc.{Arc}
use Rattle.verilog_ast.specs.declared.module.Module.{Module}
use Rattle.unit_jobs.specs.declared.module_table.ModuleTable.{ModuleTable}
use Rattle.unit_jobs.specs.Tables.{entry_of}

abbrev pub shared_module : Arc Module Global → Module
shared_module m = m.value

-- a module that is lent
abbrev pub lent_module : Bor (Arc Module Global) → Module
lent_module b = b.now.value

-- the modules of a table, in their order
abbrev pub modules_of : ModuleTable → List Module
modules_of t = map entry_of t.modules.entries
