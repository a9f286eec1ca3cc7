-- No name within a block is empty.
use Rattle.std.proofs.Common.{◌≡◌, ℕ, List, [], ◌∷◌, All, map}
use Rattle.std.specs.Prelude.{Option, Some, None}
use Rattle.std.proofs.lemmas.List.Elements.{All-nil, All-cons, All-head, All-tail, All-append}
use Rattle.ls_text.specs.declared.name_id.NameId.{NameId}
use Rattle.ls_text.specs.TextViews.{text_of}
use Rattle.verilog_ast.specs.declared.identifier.Identifier.{Identifier}
use Rattle.verilog_ast.specs.Items.{ModuleItem}
use Rattle.gen_unroll.specs.Reaches.{innermost, blocks_around as blocks_left}
use Rattle.gen_unroll.specs.Steps.{GenerateBlock, ModuleStep, Listed, Port, Parameter, Item, Labelled, Opened, Closed}
use Rattle.unit_jobs.specs.BlockNames.{called_in, declared_by, item_texts, texts_within}
use Rattle.version_swap.specs.JobsUnder.{IsIn}
use Rattle.version_swap.proofs.InstanceTexts.{IsNameWord, spoken_some}
use Rattle.version_swap.proofs.StepNames.{IsStepNamed, declared_named}
use Rattle.version_swap.proofs.ToldInstances.{within_table}

abbrev pub IsSome : List ℕ → Type 0
IsSome text = text ≡ [] → ⊥

module _ (names : List (List ℕ)) where
  pub ids_in : (ns : List NameId) → All IsSome (map (text_of names) ns) → All (IsIn names) ns
  ids_in [] all = All-nil (IsIn names)
  ids_in (n ∷ ns) all =
      All-cons (IsIn names) n ns (within_table names n.0 (All-head IsSome (text_of names n) (map (text_of names) ns) all))
      (ids_in ns (All-tail IsSome (text_of names n) (map (text_of names) ns) all))

  called_some : (bs : List GenerateBlock) (block : ℕ) (ns : List Identifier) → All (IsNameWord names) ns
      → All IsSome (map (called_in names bs block) ns)
  called_some bs block [] words = All-nil IsSome
  called_some bs block (n ∷ ns) words =
      All-cons IsSome (called_in names bs block n) (map (called_in names bs block) ns)
      (spoken_some names bs (Some block) n (All-head (IsNameWord names) n ns words))
      (called_some bs block ns (All-tail (IsNameWord names) n ns words))

  item_some : (bs : List GenerateBlock) (block : Option ℕ) (x : ModuleItem) → All (IsNameWord names) (declared_by x)
      → All IsSome (item_texts names bs block x)
  item_some bs None x words = All-nil IsSome
  item_some bs (Some block) x words = called_some bs block (declared_by x) words

  abbrev AreWords : List ModuleStep → Type 0
  AreWords steps = All (IsStepNamed (IsNameWord names)) steps

  rest : (step : ModuleStep) (steps : List ModuleStep) → AreWords (step ∷ steps) → AreWords steps
  rest step steps all = All-tail (IsStepNamed (IsNameWord names)) step steps all

  pub texts_some : (bs : List GenerateBlock) (around : List ℕ) (steps : List ModuleStep) → AreWords steps
      → All IsSome (texts_within names bs around steps)
  texts_some bs around [] all = All-nil IsSome
  texts_some bs around (Listed n ∷ steps) all = texts_some bs around steps (rest (Listed n) steps all)
  texts_some bs around (Port p ∷ steps) all = texts_some bs around steps (rest (Port p) steps all)
  texts_some bs around (Parameter s n v ∷ steps) all = texts_some bs around steps (rest (Parameter s n v) steps all)
  texts_some bs around (Item x ∷ steps) all =
      All-append IsSome (item_texts names bs (innermost around) x) (texts_within names bs around steps)
      (item_some bs (innermost around) x
      (declared_named (IsNameWord names) x (All-head (IsStepNamed (IsNameWord names)) (Item x) steps all)))
      (texts_some bs around steps (rest (Item x) steps all))
  texts_some bs around (Labelled n ∷ steps) all = texts_some bs around steps (rest (Labelled n) steps all)
  texts_some bs around (Opened b items ∷ steps) all = texts_some bs (b.number ∷ around) steps (rest (Opened b items) steps all)
  texts_some bs around (Closed ∷ steps) all = texts_some bs (blocks_left around) steps (rest Closed steps all)
