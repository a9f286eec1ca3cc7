-- The modules that stand under names.
use Rattle.std.specs.Prelude.{ℕ}
use Rattle.ls_text.specs.declared.name_id.NameId.{NameId}
use Rattle.verilog_ast.specs.Items.{ModuleDeclaration}
use Rattle.verilog_ast.specs.Views.{declaration_of}
use Rattle.module_names.specs.declared.module_names.ModuleNames.{ModuleNames}

-- the name under which a module stands, the module, and its own name
abbrev pub key_of : NameId × ModuleNames → ℕ
key_of e = e.0.0

abbrev pub entry_of : NameId × ModuleNames → ModuleDeclaration
entry_of e = declaration_of e.1.body.now

abbrev pub name_of : NameId × ModuleNames → ℕ
name_of e = e.1.body.now.name.name.0
