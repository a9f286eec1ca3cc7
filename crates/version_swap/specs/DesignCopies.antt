-- The copies of a design, from its parsed modules on: each instance that elaboration finds is a copy of the module that it names, unrolled under the
-- overrides of this instance (IEEE Std 1364-2005, 12.1.2, 12.2 and 12.4).
use Rattle.std.specs.Prelude.{◌≡◌, ℕ, suc, List, [], ◌∷◌, filter, map, Some, None, Ok}
use Rattle.ls_text.specs.Texts.{text_at}
use Rattle.verilog_ast.specs.Items.{ModuleDeclaration}
use Rattle.typed_ir.specs.declared.instance.Instance.{Instance}
use Rattle.typed_ir.specs.Shapes.{children_of, shape_of}
use Rattle.gen_unroll.specs.Steps.{blocks_in}
use Rattle.gen_unroll.specs.Unrolled.{unrolled_module}
use Rattle.clock_rules.specs.Views.{clock_view}
use Rattle.module_names.specs.Modules.{module_named}
use Rattle.elaborate.specs.Elaborated.{Standing}
use Rattle.elaborate.specs.Trees.{called as instance_called}
use Rattle.gen_unroll.specs.Numbers.{module_table}
use Rattle.ls_text.specs.TextViews.{text_of}
use Rattle.version_swap.specs.BlockSignals.{is_within_block, called as signal_called}
use Rattle.version_swap.specs.Copies.{Copies}
use Rattle.version_swap.specs.TableCopies.{CopyEntry, copies_listed}

-- ---- the tables in which names are read

pub record NameTables : Type 0 where
  -- the names in the modules, where instances are called
  pub texts : List (List ℕ)
  -- the names of instances
  pub known : List (List ℕ)
  -- the names in the modules, where signals within generate blocks are called
  pub others : List (List ℕ)
  -- the names of signals within generate blocks
  pub words : List (List ℕ)

-- ---- a copy and the instance that it is of: `all` are those that elaboration finds, `instances` the tree as it answers them

pub record IsCopyIn (turns : ℕ) (ms : List ModuleDeclaration) (tables : NameTables) (instances : List Instance) (all : List Standing) (k : ℕ)
    (e : CopyEntry) (s : Standing) : Type 0 where
  -- it stands in the same one
  pub parent : e.parent ≡ s.parent
  -- it is called as the instance is there (12.4)
  pub name : text_at tables.known e.copy.name ≡ instance_called tables.texts all s
  -- it is of the module that is instantiated, the first of that name (12.1.2)
  pub declared : module_named s.instantiated ms ≡ Some e.copy.declaration
  -- its steps are those under the overrides of the instance itself (12.2)
  pub unrolled : e.copy.steps ≡ (unrolled_module turns s.overrides e.copy.declaration).said
  -- its signals are those that the steps declare
  pub signals : module_table e.copy.declaration e.copy.steps ≡ Ok e.copy.table
  -- its clock is that of the instance
  pub clock : clock_view e.copy.clock ≡ s.clock
  -- the instances in it are those that stand in the k-th
  pub children : e.copy.children ≡ map shape_of (children_of k instances)
  -- its signals within blocks are called with the blocks around them (12.4 and 12.5)
  pub names : map (text_of tables.words) e.copy.names
      ≡ map (signal_called tables.others (blocks_in e.copy.steps)) (filter is_within_block e.copy.table.signals)

-- side by side, from the k-th on
abbrev pub AreEntriesIn : (turns : ℕ) → List ModuleDeclaration → NameTables → List Instance → (all : List Standing) → ℕ → List CopyEntry
    → List Standing → Type 0
AreEntriesIn turns ms tables instances all k [] [] = Unit {0}
AreEntriesIn turns ms tables instances all k (e ∷ es) (s ∷ ss) =
    IsCopyIn turns ms tables instances all k e s × AreEntriesIn turns ms tables instances all (suc k) es ss
AreEntriesIn turns ms tables instances all k es ss = ⊥

-- the copies of a design, depth first, are those of its instances
abbrev pub AreCopiesIn : (turns : ℕ) → List ModuleDeclaration → NameTables → List Instance → (all : List Standing) → Copies → Type 0
AreCopiesIn turns ms tables instances all copies =
    AreEntriesIn turns ms tables instances all 0 (copies_listed None 0 copies) all
