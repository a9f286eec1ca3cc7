-- The items of a copy under other names, where its signals have numbers of their own (IEEE 1364-2005, 12.1.2 and 12.4).
use Rattle.std.proofs.Common.{◌≡◌, ℕ, Bool, List, [], ◌∷◌, map, refl, ◌∙◌, ap}
use Rattle.ls_text.specs.declared.name_id.NameId.{NameId}
use Rattle.typed_ir.specs.Items.{PlacedItem}
use Rattle.verilog_ast.specs.Renaming.{declaration_as}
use Rattle.width_rules.specs.declared.writer.Writer.{Writer}
use Rattle.width_rules.specs.Renaming.{MeansSame}
use Rattle.width_rules.specs.Scopes.{Scope}
use Rattle.gen_unroll.specs.Reaches.{Reach}
use Rattle.gen_unroll.specs.Steps.{ModuleStep}
use Rattle.gen_unroll.specs.Signals.{NamedSignal}
use Rattle.gen_unroll.specs.UnitReaches.{unit_reach_in, unit_in_reach, writer_of, is_settled}
use Rattle.statement_rules.specs.Renumbering.{meaning_as, renumbered}
use Rattle.statement_rules.specs.DeclaredValues.{InitialValue}
use Rattle.unit_build.specs.Walks.{Walk, behind, walk_items, walk_initials}
use Rattle.elaborate.specs.Renaming.{KeepsApart, SameReach, step_as}
use Rattle.gen_unroll.proofs.MovedLists.{append_so}
use Rattle.version_swap.specs.RenamedFindings.{signal_as, shape_as, placed_as}
use Rattle.version_swap.proofs.RenamedBuilt.{same_settled}
use Rattle.version_swap.proofs.RenamedUnitReaches.{same_unit_beginning, same_unit_reach, same_writer}
use Rattle.version_swap.proofs.RenamedWalks.{walk_as, step_items_so, behind_so, same_walk_items, same_walk_initials}
use Rattle.version_swap.specs.CopiedWalks.{copied_items}
use Rattle.version_swap.specs.Copies.{ModuleCopy, Where, SignalPlace, place_in}
use Rattle.version_swap.specs.Flat.{settled_in, writers_in, beginning_of, own_items, items_at}
use Rattle.version_swap.specs.FlatRenaming.{copy_as}

-- ---- where a copy stands

abbrev pub where_as : (ℕ → ℕ) → Where → Where
where_as number w = record { at = w.at; path = map number w.path }

-- ---- a walk over a copy

-- where its text begins
abbrev there_in : (NameId → NameId) → ModuleCopy → Reach
there_in f c = unit_reach_in (writers_in c) (map (signal_as f) c.table.signals) (declaration_as f c.declaration)

begins_so : (f : NameId → NameId) (c : ModuleCopy) → KeepsApart f → SameReach f (beginning_of c).here (there_in f c)
begins_so f c apart = same_unit_beginning f (writers_in c) c.table.signals c.declaration apart

writers_so : (f : NameId → NameId) (c : ModuleCopy) → KeepsApart f → writers_in (copy_as f c) ≡ writers_in c
writers_so f c apart =
    ap (λ (settled : List Bool). writer_of (is_settled settled) (map (signal_as f) c.table.signals))
    (same_settled f c.declaration c.table c.steps apart)
    ∙ same_writer f (is_settled (settled_in c)) c.table.signals

abbrev walk_with : (NameId → NameId) → ModuleCopy → (ℕ → Writer) → Walk
walk_with f c w = record {
  here = unit_reach_in w (map (signal_as f) c.table.signals) (declaration_as f c.declaration);
  child = 0;
  left = map (shape_as f) c.children;
}

-- what follows from a walk over it
walk_so : {A : Type 0} (f : NameId → NameId) (walk : (ℕ → Writer) → Walk → A) (c : ModuleCopy) → KeepsApart f
    → walk (writers_in (copy_as f c)) (beginning_of (copy_as f c)) ≡ walk (writers_in c) (walk_as f (there_in f c) (beginning_of c))
walk_so f walk c apart = ap (λ (w : ℕ → Writer). walk w (walk_with f c w)) (writers_so f c apart)

pub same_own_items : (f : NameId → NameId) (c : ModuleCopy) → KeepsApart f → own_items (copy_as f c) ≡ map (placed_as f) (own_items c)
same_own_items f c apart =
    walk_so f (λ (w : ℕ → Writer) (k : Walk). walk_items w (map (signal_as f) c.table.signals) k (map (step_as f) c.steps)) c apart
    ∙ same_walk_items f (writers_in c) c.table.signals (there_in f c) (beginning_of c) c.steps apart (begins_so f c apart)

-- what its signals have at the beginning
abbrev pub initials_in : ModuleCopy → List InitialValue
initials_in c = walk_initials (writers_in c) c.table.signals (beginning_of c) c.steps

pub same_initials_in : (f : NameId → NameId) (c : ModuleCopy) → KeepsApart f → initials_in (copy_as f c) ≡ initials_in c
same_initials_in f c apart =
    walk_so f (λ (w : ℕ → Writer) (k : Walk). walk_initials w (map (signal_as f) c.table.signals) k (map (step_as f) c.steps)) c apart
    ∙ same_walk_initials f (writers_in c) c.table.signals (there_in f c) (beginning_of c) c.steps apart (begins_so f c apart)

-- ---- its items by the numbers of the design

renumbered_so : (f : NameId → NameId) (g : ℕ → ℕ) (scope other : Scope) → MeansSame f scope other
    → MeansSame f (renumbered g scope) (renumbered g other)
renumbered_so f g scope other same n = ap (meaning_as g) (same n)

copied_so : (f : NameId → NameId) (g : ℕ → ℕ) (w : ℕ → Writer) (xs : List NamedSignal) (there : Reach) (k : Walk) (steps : List ModuleStep)
    → KeepsApart f → SameReach f k.here there
    → copied_items g w (map (signal_as f) xs) (walk_as f there k) (map (step_as f) steps) ≡ map (placed_as f) (copied_items g w xs k steps)
copied_so f g w xs there k [] apart same = refl
copied_so f g w xs there k (s ∷ ss) apart same =
    append_so (placed_as f) _ _ _ _
    (step_items_so f (renumbered g k.here.scope) (renumbered g there.scope) k.child k.left s apart
    (renumbered_so f g k.here.scope there.scope same.names))
    (ap (λ (j : Walk). copied_items g w (map (signal_as f) xs) j (map (step_as f) ss)) (behind_so f w xs s there k)
    ∙ copied_so f g w xs (unit_in_reach w (map (signal_as f) xs) (step_as f s) there) (behind w xs s k) ss apart
    (same_unit_reach f w xs s k.here there apart same))

pub same_items_at : (f : NameId → NameId) (all : List SignalPlace) (number : ℕ → ℕ) (w : Where) (c : ModuleCopy) → KeepsApart f
    → items_at all (where_as number w) (copy_as f c) ≡ map (placed_as f) (items_at all w c)
same_items_at f all number w c apart =
    walk_so f
    (λ (v : ℕ → Writer) (k : Walk). copied_items (place_in all w.at) v (map (signal_as f) c.table.signals) k (map (step_as f) c.steps)) c apart
    ∙ copied_so f (place_in all w.at) (writers_in c) c.table.signals (there_in f c) (beginning_of c) c.steps apart (begins_so f c apart)
