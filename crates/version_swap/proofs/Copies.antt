-- All steps of a module, each where the signals in reach have other numbers: the same faults, and the module's items under these numbers.
use Rattle.std.proofs.Common.{◌≡◌, ℕ, List, ◌++◌, [], ◌∷◌, map, refl, sym, ◌∙◌, ap₂}
use Rattle.std.proofs.lemmas.List.{map-append}
use Rattle.ls_text.proofs.Lists.{joined_so}
use Rattle.typed_ir.specs.Orders.{Each}
use Rattle.typed_ir.specs.Items.{PlacedItem}
use Rattle.width_rules.specs.declared.writer.Writer.{Writer}
use Rattle.width_rules.proofs.Reading.{left_none, right_none}
use Rattle.gen_unroll.specs.declared.step.Step.{Step}
use Rattle.gen_unroll.specs.Steps.{ModuleStep}
use Rattle.gen_unroll.specs.Views.{step_of}
use Rattle.gen_unroll.specs.Signals.{NamedSignal}
use Rattle.statement_rules.specs.DeclaredValues.{InitialValue}
use Rattle.unit_build.specs.Walks.{Walk, behind, step_faults, step_items, step_initials, walk_faults, walk_items, walk_initials}
use Rattle.unit_build.proofs.ConnectedTexts.{HasWrittenInstances, steps_written as instances_are_written}
use Rattle.unit_build.proofs.ItemLaws.{IsStepWritten, step_written}
use Rattle.version_swap.specs.CopiedWalks.{copied_faults, copied_items, copied_initials}
use Rattle.version_swap.specs.RenumberedItems.{placed_as, initial_as}
use Rattle.version_swap.proofs.UnitSteps.{step_faults_as, step_items_as, step_initials_as}

pub copied_faults_are : (g : ℕ → ℕ) (w : ℕ → Writer) (xs : List NamedSignal) (k : Walk) (steps : List ModuleStep)
    → copied_faults g w xs k steps ≡ walk_faults w xs k steps
copied_faults_are g w xs k [] = refl
copied_faults_are g w xs k (s ∷ ss) = joined_so (step_faults_as g k.here.scope k.left s) (copied_faults_are g w xs (behind w xs s k) ss)

pub copied_items_are : (g : ℕ → ℕ) (w : ℕ → Writer) (xs : List NamedSignal) (k : Walk) (steps : List ModuleStep) → Each IsStepWritten steps
    → Each HasWrittenInstances steps → walk_faults w xs k steps ≡ [] → copied_items g w xs k steps ≡ map (placed_as g) (walk_items w xs k steps)
copied_items_are g w xs k [] written connected h = refl
copied_items_are g w xs k (s ∷ ss) written connected h =
    let first = step_faults k.here.scope k.left s in
    let rest = walk_faults w xs (behind w xs s k) ss in
    ap₂ (λ (ps qs : List PlacedItem). ps ++ qs)
    (step_items_as g k.here.scope k.child k.left s written.0 connected.0 (left_none first rest h))
    (copied_items_are g w xs (behind w xs s k) ss written.1 connected.1 (right_none first rest h))
    ∙ sym (map-append (placed_as g) (step_items k.here.scope k.child k.left s) (walk_items w xs (behind w xs s k) ss))

pub copied_initials_are : (g : ℕ → ℕ) (w : ℕ → Writer) (xs : List NamedSignal) (k : Walk) (steps : List ModuleStep) → walk_faults w xs k steps ≡ []
    → copied_initials g w xs k steps ≡ map (initial_as g) (walk_initials w xs k steps)
copied_initials_are g w xs k [] h = refl
copied_initials_are g w xs k (s ∷ ss) h =
    let first = step_faults k.here.scope k.left s in
    let rest = walk_faults w xs (behind w xs s k) ss in
    ap₂ (λ (vs ws : List InitialValue). vs ++ ws)
    (step_initials_as g k.here.scope k.left s (left_none first rest h))
    (copied_initials_are g w xs (behind w xs s k) ss (right_none first rest h))
    ∙ sym (map-append (initial_as g) (step_initials k.here.scope s) (walk_initials w xs (behind w xs s k) ss))

-- ---- those of the code are written as a parser writes them

steps_are_written : (steps : List Step) → Each IsStepWritten (map step_of steps)
steps_are_written [] = tt
steps_are_written (s ∷ ss) = (step_written s, steps_are_written ss)

pub code_items_are : (g : ℕ → ℕ) (w : ℕ → Writer) (xs : List NamedSignal) (k : Walk) (steps : List Step) → walk_faults w xs k (map step_of steps) ≡ []
    → copied_items g w xs k (map step_of steps) ≡ map (placed_as g) (walk_items w xs k (map step_of steps))
code_items_are g w xs k steps h = copied_items_are g w xs k (map step_of steps) (steps_are_written steps) (instances_are_written steps) h
