-- The copies of a design under other names that have the same texts are its copies under these names (IEEE 1364-2005, 12.1.2, 12.2 and 12.4).
use Rattle.std.proofs.Common.{◌≡◌, ℕ, suc, ◌+◌, List, [], ◌∷◌, ◌++◌, map, filter, Option, Some, None, refl, sym, ◌∙◌, ap, ap₂, subst}
use Rattle.std.proofs.lemmas.List.{map-append}
use Rattle.std.specs.Option.{option_map}
use Rattle.ls_text.specs.declared.name_id.NameId.{NameId}
use Rattle.verilog_ast.specs.Items.{ModuleDeclaration}
use Rattle.verilog_ast.specs.Renaming.{declaration_as}
use Rattle.typed_ir.specs.declared.child_shape.ChildShape.{ChildShape}
use Rattle.typed_ir.specs.declared.instance.Instance.{Instance}
use Rattle.typed_ir.specs.Shapes.{children_of, shape_of}
use Rattle.gen_unroll.specs.Steps.{GenerateBlock, ModuleStep, blocks_in}
use Rattle.clock_rules.specs.Views.{clock_view}
use Rattle.elaborate.specs.Elaborated.{Standing}
use Rattle.gen_unroll.specs.Signals.{NamedSignal}
use Rattle.gen_unroll.specs.Numbers.{module_table}
use Rattle.ls_text.specs.TextViews.{text_of}
use Rattle.version_swap.specs.BlockSignals.{is_within_block, called as signal_called}
use Rattle.elaborate.specs.Findings.{clock_as, standing_as}
use Rattle.elaborate.specs.Renaming.{KeepsApart, SpellsSame, found_as, block_as, step_as}
use Rattle.elaborate.proofs.RenamedModules.{same_named}
use Rattle.elaborate.proofs.RenamedTexts.{same_spoken}
use Rattle.elaborate.proofs.RenamedTold.{same_blocks}
use Rattle.elaborate.proofs.RenamedTrees.{called_so}
use Rattle.elaborate.proofs.RenamedUnrolled.{same_steps}
use Rattle.gen_unroll.proofs.MovedLists.{if_moved}
use Rattle.version_swap.specs.RenamedFindings.{signal_as, table_as, shape_as}
use Rattle.version_swap.specs.Jobs.{instance_as}
use Rattle.version_swap.proofs.RenamedJobs.{children_so, shapes_so}
use Rattle.version_swap.proofs.RenamedTables.{same_table}
use Rattle.version_swap.specs.Copies.{Copies, Nothing, One}
use Rattle.version_swap.specs.DesignCopies.{NameTables, IsCopyIn, AreEntriesIn, AreCopiesIn}
use Rattle.version_swap.specs.TableCopies.{CopyEntry, copies_in, copies_listed}
use Rattle.version_swap.specs.FlatRenaming.{copy_as, copies_as, SpellAllSame}

-- ---- copies as a table

abbrev entry_as : (NameId → NameId) → CopyEntry → CopyEntry
entry_as f e = record { parent = e.parent; copy = copy_as f e.copy }

many_so : (f : NameId → NameId) (copies : Copies) → copies_in (copies_as f copies) ≡ copies_in copies
many_so f Nothing = refl
many_so f (One c within after) = ap₂ (λ (m n : ℕ). suc (m + n)) (many_so f within) (many_so f after)

listed_so : (f : NameId → NameId) (parent : Option ℕ) (index : ℕ) (copies : Copies)
    → copies_listed parent index (copies_as f copies) ≡ map (entry_as f) (copies_listed parent index copies)
listed_so f parent index Nothing = refl
listed_so f parent index (One c within after) =
    ap (λ (es : List CopyEntry). record { parent = parent; copy = copy_as f c } ∷ es)
    (ap₂ (λ (es ds : List CopyEntry). es ++ ds) (listed_so f (Some index) (suc index) within)
    (ap (λ (n : ℕ). copies_listed parent (suc index + n) (copies_as f after)) (many_so f within)
    ∙ listed_so f parent (suc index + copies_in within) after)
    ∙ sym (map-append (entry_as f) (copies_listed (Some index) (suc index) within) (copies_listed parent (suc index + copies_in within) after)))

-- ---- one copy

clock_so : (f : NameId → NameId) (clock : Option NameId) → clock_view (option_map f clock) ≡ clock_as f (clock_view clock)
clock_so f None = refl
clock_so f (Some n) = refl

words_so : (f : NameId → NameId) (words others : List (List ℕ)) (ns : List NameId) → SpellsSame f words others
    → map (text_of others) (map f ns) ≡ map (text_of words) ns
words_so f words others [] same = refl
words_so f words others (n ∷ ns) same = ap₂ (λ (t : List ℕ) (ts : List (List ℕ)). t ∷ ts) (same n) (words_so f words others ns same)

within_so : (f : NameId → NameId) (xs : List NamedSignal)
    → filter is_within_block (map (signal_as f) xs) ≡ map (signal_as f) (filter is_within_block xs)
within_so f [] = refl
within_so f (x ∷ xs) =
    if_moved (map (signal_as f)) (is_within_block x) (x ∷ filter is_within_block xs) (filter is_within_block xs) _ _
    (ap (λ (ys : List NamedSignal). signal_as f x ∷ ys) (within_so f xs)) (within_so f xs)

all_called_so : (f : NameId → NameId) (texts others : List (List ℕ)) (blocks : List GenerateBlock) (xs : List NamedSignal) → SpellsSame f texts others
    → map (signal_called others (map (block_as f) blocks)) (map (signal_as f) xs) ≡ map (signal_called texts blocks) xs
all_called_so f texts others blocks [] same = refl
all_called_so f texts others blocks (x ∷ xs) same =
    ap₂ (λ (t : List ℕ) (ts : List (List ℕ)). t ∷ ts) (same_spoken f texts others blocks x.block x.name.name same)
    (all_called_so f texts others blocks xs same)

names_so : (f : NameId → NameId) (texts others : List (List ℕ)) (steps : List ModuleStep) (xs : List NamedSignal) → SpellsSame f texts others
    → map (signal_called others (blocks_in (map (step_as f) steps))) (filter is_within_block (map (signal_as f) xs))
    ≡ map (signal_called texts (blocks_in steps)) (filter is_within_block xs)
names_so f texts others steps xs same =
    ap₂ (λ (blocks : List GenerateBlock) (ys : List NamedSignal). map (signal_called others blocks) ys) (same_blocks f steps) (within_so f xs)
    ∙ all_called_so f texts others (blocks_in steps) (filter is_within_block xs) same

copy_so : (f : NameId → NameId) (turns : ℕ) (ms : List ModuleDeclaration) (t u : NameTables) (instances : List Instance) (all : List Standing) (k : ℕ)
    (e : CopyEntry) (s : Standing) → KeepsApart f → SpellAllSame f t u → IsCopyIn turns ms t instances all k e s
    → IsCopyIn turns (map (declaration_as f) ms) u (map (instance_as f) instances) (map (standing_as f) all) k (entry_as f e) (standing_as f s)
copy_so f turns ms t u instances all k e s apart same is = record {
  parent = is.parent;
  name = same.known (record { 0 = e.copy.name }) ∙ is.name ∙ sym (called_so f t.texts u.texts all s same.texts);
  declared = same_named f s.instantiated ms apart ∙ ap (option_map (declaration_as f)) is.declared;
  unrolled = ap (map (step_as f)) is.unrolled ∙ sym (same_steps f turns s.overrides e.copy.declaration apart);
  signals = same_table f e.copy.declaration e.copy.steps apart ∙ ap (found_as f (table_as f)) is.signals;
  clock = clock_so f e.copy.clock ∙ ap (clock_as f) is.clock;
  children = ap (map (shape_as f)) is.children ∙ sym (shapes_so f (children_of k instances))
      ∙ ap (map shape_of) (sym (children_so f k instances));
  names = words_so f t.words u.words e.copy.names same.words ∙ is.names
      ∙ sym (names_so f t.others u.others e.copy.steps e.copy.table.signals same.others);
}

-- ---- all of them

entries_so : (f : NameId → NameId) (turns : ℕ) (ms : List ModuleDeclaration) (t u : NameTables) (instances : List Instance) (all : List Standing)
    (k : ℕ) (es : List CopyEntry) (ss : List Standing) → KeepsApart f → SpellAllSame f t u → AreEntriesIn turns ms t instances all k es ss
    → AreEntriesIn turns (map (declaration_as f) ms) u (map (instance_as f) instances) (map (standing_as f) all) k (map (entry_as f) es)
    (map (standing_as f) ss)
entries_so f turns ms t u instances all k [] [] apart same are = are
entries_so f turns ms t u instances all k (e ∷ es) [] apart same are = absurd are
entries_so f turns ms t u instances all k [] (s ∷ ss) apart same are = absurd are
entries_so f turns ms t u instances all k (e ∷ es) (s ∷ ss) apart same are =
    (copy_so f turns ms t u instances all k e s apart same are.0, entries_so f turns ms t u instances all (suc k) es ss apart same are.1)

pub same_copies : (f : NameId → NameId) (turns : ℕ) (ms : List ModuleDeclaration) (t u : NameTables) (instances : List Instance)
    (all : List Standing) (copies : Copies) → KeepsApart f → SpellAllSame f t u → AreCopiesIn turns ms t instances all copies
    → AreCopiesIn turns (map (declaration_as f) ms) u (map (instance_as f) instances) (map (standing_as f) all) (copies_as f copies)
same_copies f turns ms t u instances all copies apart same are =
    subst (λ (es : List CopyEntry). AreEntriesIn turns (map (declaration_as f) ms) u (map (instance_as f) instances) (map (standing_as f) all) 0 es
    (map (standing_as f) all))
    (sym (listed_so f None 0 copies))
    (entries_so f turns ms t u instances all 0 (copies_listed None 0 copies) all apart same are)
