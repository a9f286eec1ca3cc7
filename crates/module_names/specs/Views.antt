-- What the types of the code mean.
use Rattle.std.proofs.Common.{Bor}
use Rattle.std.specs.Prelude.{List, map}
use Rattle.verilog_ast.specs.Items.{ModuleDeclaration}
use Rattle.verilog_ast.specs.Views.{declaration_of}
use Rattle.module_names.specs.declared.module_names.ModuleNames.{ModuleNames}
use Rattle.module_names.specs.declared.modules.Modules.{Modules}
use Rattle.module_names.specs.Entries.{entry_of}

-- a module whose names are lent
abbrev pub module_of : Bor ModuleNames → ModuleDeclaration
module_of b = declaration_of b.now.body.now

-- the modules of a design, in the order of the text
abbrev pub modules_of : Modules → List ModuleDeclaration
modules_of ms = map entry_of ms.names.entries
