-- The items of a module step by step, each sized where the signals in reach have other numbers (IEEE Std 1364-2005, 12.1.2, 12.4).
use Rattle.std.specs.Prelude.{ℕ, List, [], ◌∷◌, ◌++◌}
use Rattle.ls_text.specs.declared.fault.Fault.{Fault}
use Rattle.typed_ir.specs.Items.{PlacedItem}
use Rattle.width_rules.specs.declared.writer.Writer.{Writer}
use Rattle.gen_unroll.specs.Steps.{ModuleStep}
use Rattle.gen_unroll.specs.Signals.{NamedSignal}
use Rattle.statement_rules.specs.Renumbering.{renumbered}
use Rattle.statement_rules.specs.DeclaredValues.{InitialValue}
use Rattle.unit_build.specs.Walks.{Walk, behind, step_faults, step_items, step_initials}

abbrev pub copied_faults : (ℕ → ℕ) → (w : ℕ → Writer) → List NamedSignal → Walk → List ModuleStep → List Fault
copied_faults g w xs k [] = []
copied_faults g w xs k (s ∷ ss) = step_faults (renumbered g k.here.scope) k.left s ++ copied_faults g w xs (behind w xs s k) ss

abbrev pub copied_items : (ℕ → ℕ) → (w : ℕ → Writer) → List NamedSignal → Walk → List ModuleStep → List PlacedItem
copied_items g w xs k [] = []
copied_items g w xs k (s ∷ ss) = step_items (renumbered g k.here.scope) k.child k.left s ++ copied_items g w xs (behind w xs s k) ss

abbrev pub copied_initials : (ℕ → ℕ) → (w : ℕ → Writer) → List NamedSignal → Walk → List ModuleStep → List InitialValue
copied_initials g w xs k [] = []
copied_initials g w xs k (s ∷ ss) = step_initials (renumbered g k.here.scope) s ++ copied_initials g w xs (behind w xs s k) ss
