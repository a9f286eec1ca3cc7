-- The texts behind an edit, and the design of a version as it is compared.
use Rattle.std.specs.Prelude.{List, map}
use Rattle.std.specs.Option.{option_or, unwrap_or}
use Rattle.ls_text.specs.declared.source_file.SourceFile.{SourceFile}
use Rattle.module_registry.specs.Keys.{KeyData}
use Rattle.cycle_eval.specs.declared.design.Design.{Design}
use Rattle.cycle_eval.specs.Designs.{design_flat}
use Rattle.command_read.specs.declared.edit.Edit.{Edit}
use Rattle.version_swap.specs.declared.texts.Texts.{Texts}
use Rattle.version_swap.specs.Files.{files_behind}
use Rattle.version_swap.specs.Plans.{DesignOfTexts}

-- its top and its clock are those that the edit names, else those before it
abbrev pub texts_behind : Texts → Edit → (loaded : List SourceFile) → Texts
texts_behind texts edit loaded = record {
  files = files_behind texts.files edit.files edit.loads loaded;
  top = option_or edit.top texts.top;
  clock = unwrap_or edit.clock texts.clock;
}

-- a design, and the texts of its keys
abbrev pub design_of : Design → List KeyData → DesignOfTexts
design_of design keys = record { design = design_flat design; keys = map (λ (k : KeyData). k.text) keys }
