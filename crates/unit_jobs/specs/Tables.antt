-- Modules that stand under their names.
use Rattle.std.specs.Prelude.{ℕ}
use Rattle.std.specs.Global.{Global}
use Rattle.std.specs.declared.sync.Arc.{Arc}
use Rattle.ls_text.specs.declared.name_id.NameId.{NameId}
use Rattle.verilog_ast.specs.declared.module.Module.{Module}

-- the name under which a module stands, the module, and its own name
abbrev pub key_of : NameId × Arc Module Global → ℕ
key_of e = e.0.0

abbrev pub entry_of : NameId × Arc Module Global → Module
entry_of e = e.1.value

abbrev pub name_of : NameId × Arc Module Global → ℕ
name_of e = e.1.value.body.name.name.0
