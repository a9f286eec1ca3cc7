-- A block behind texts: what its files and its operations are by their texts, whatever numbers the names have.
use Rattle.std.proofs.Common.{◌≡◌, ◌∙◌, ℕ, ◌<◌, List, [], ◌∷◌, map, length, refl, sym, ap, subst}
use Rattle.std.specs.Prelude.{IfSome, Option, Some, None, Result}
use Rattle.std.specs.Option.{option_or, unwrap_or, option_map}
use Rattle.std.proofs.lemmas.List.Elements.{All-map}
use Rattle.ls_text.specs.declared.name_id.NameId.{NameId}
use Rattle.ls_text.specs.declared.source_file.SourceFile.{SourceFile}
use Rattle.ls_text.specs.Readings.{TextFault}
use Rattle.ls_text.specs.Texts.{Grows, HasEachOnce, text_at}
use Rattle.ls_text.specs.TextViews.{text_of}
use Rattle.ls_text.proofs.Growth.{grown_id, grown_text}
use Rattle.command_read.proofs.Grown.{all_so, grown_names, grown_operation, same_map}
use Rattle.command_read.specs.Asking.{Block, LineOperation}
use Rattle.command_read.specs.Spoken.{AreOpsWithin, IsEditWithin, IsWithin, edited, line_operation}
use Rattle.command_read.specs.declared.edit.Edit.{Edit}
use Rattle.command_read.specs.declared.op_line.OpLine.{OpLine}
use Rattle.reg_ops.specs.Operations.{HasNames, Operation, operation}
use Rattle.version_swap.specs.Files as numbered
use Rattle.version_swap.specs.Operations.{ops_of}
use Rattle.version_swap.specs.Plans.{DesignOfTexts, Plans}
use Rattle.version_swap.specs.declared.texts.Texts.{Texts}
use Rattle.live_session.specs.Files.{TextFile, files_behind, text_file}
use Rattle.live_session.specs.Readings.{FilesRead, HasMaybe, HasText}
use Rattle.live_session.specs.Scripts.{AreOperations}
use Rattle.live_session.specs.Spelled.{spelled_answer}
use Rattle.live_session.specs.Verdicts.{clock_after, files_after, top_after}
use Rattle.live_session.specs.Worlds.{World}
use Rattle.live_session.proofs.Growing.{files_grown}
use Rattle.live_session.proofs.TextFiles.{AreSourcesWithin, behind_within, files_spoken}

-- the texts of a world, by a table of names
pub record AreTexts (names : List (List ℕ)) (t : Texts) (w : World) : Type 0 where
  pub files_in : AreSourcesWithin (length names) t.files
  pub top_in : IsWithin (length names) t.top
  pub clock_in : t.clock.0 < length names
  pub files : w.files ≡ map (text_file names) t.files
  pub top : w.top ≡ option_map (λ (id : NameId). text_at names id.0) t.top
  pub clock : w.clock ≡ text_at names t.clock.0

module _ (old new : List (List ℕ)) (grows : Grows old new) where
  maybe_named : (given top : Option NameId) → IsWithin (length old) given → IsWithin (length old) top
      → HasMaybe new (option_or given top) (option_or (option_map (text_of old) given) (option_map (λ (id : NameId). text_at old id.0) top))
  maybe_named (Some id) top within also = (grown_id old new id.0 grows within, grown_text old new id.0 grows within)
  maybe_named None None within also = tt
  maybe_named None (Some id) within also = (grown_id old new id.0 grows also, grown_text old new id.0 grows also)

  top_spoken : (given top : Option NameId) → IsWithin (length old) given → IsWithin (length old) top
      → option_map (λ (id : NameId). text_at new id.0) (option_or given top)
      ≡ option_or (option_map (text_of old) given) (option_map (λ (id : NameId). text_at old id.0) top)
  top_spoken (Some id) top within also = ap Some (grown_text old new id.0 grows within)
  top_spoken None None within also = refl
  top_spoken None (Some id) within also = ap Some (grown_text old new id.0 grows also)

  top_within : (given top : Option NameId) → IsWithin (length old) given → IsWithin (length old) top
      → IfSome (option_or given top) (λ (id : NameId). id.0 < length new)
  top_within (Some id) top within also = grown_id old new id.0 grows within
  top_within None None within also = tt
  top_within None (Some id) within also = grown_id old new id.0 grows also

  clock_named : (given : Option NameId) (clock : NameId) → IsWithin (length old) given → clock.0 < length old
      → HasText new (unwrap_or given clock) (unwrap_or (option_map (text_of old) given) (text_at old clock.0))
  clock_named None clock within lt = (grown_id old new clock.0 grows lt, grown_text old new clock.0 grows lt)
  clock_named (Some id) clock within lt = (grown_id old new id.0 grows within, grown_text old new id.0 grows within)

-- the names that a block asks for are within its table
pub asks_top : (count : ℕ) (given top : Option NameId) → IsWithin count given → IsWithin count top
    → IfSome (option_or given top) (λ (id : NameId). id.0 < count)
asks_top count (Some id) top within also = within
asks_top count None None within also = tt
asks_top count None (Some id) within also = also

pub asks_clock : (count : ℕ) (given : Option NameId) (clock : NameId) → IsWithin count given → clock.0 < count → (unwrap_or given clock).0 < count
asks_clock count None clock within lt = lt
asks_clock count (Some id) clock within lt = within

-- a block of a table that has grown since, behind the texts of a world
pub record IsBlockBehind (old new : List (List ℕ)) (e : Edit) (loaded : List SourceFile) (t : Texts) (w : World) : Type 0 where
  pub grows : Grows old new
  pub once : HasEachOnce old
  pub also : HasEachOnce new
  pub within : IsEditWithin (length old) e
  pub named : AreSourcesWithin (length old) loaded
  pub are : AreTexts old t w

module _ (old new : List (List ℕ)) (e : Edit) (loaded : List SourceFile) (t : Texts) (w : World) (h : IsBlockBehind old new e loaded t w) where
  abbrev block : Block
  block = edited old e

  abbrev texts : List TextFile
  texts = map (text_file old) loaded

  abbrev sources : List SourceFile
  sources = numbered.files_behind t.files e.files e.loads loaded

  sources_in : AreSourcesWithin (length old) sources
  sources_in = behind_within (length old) t.files e.files e.loads loaded h.are.files_in h.within.given h.named

  -- the names of its files are within the table that has grown
  pub sources_within : AreSourcesWithin (length new) sources
  sources_within =
      all_so (λ (f : SourceFile). f.name.0 < length old) (λ (f : SourceFile). f.name.0 < length new) sources
      (λ f lt. grown_id old new f.name.0 h.grows lt) sources_in

  -- the files behind the block are those of the code
  pub files_are : map (text_file new) sources ≡ files_after w block texts
  files_are =
      files_grown old new h.grows sources sources_in
      ∙ files_spoken old h.once t.files e.files e.loads loaded h.are.files_in h.within.given h.named
      ∙ ap (λ (fs : List TextFile). files_behind fs block.files block.loads texts) (sym h.are.files)

  pub top_is : option_map (λ (id : NameId). text_at new id.0) (option_or e.top t.top) ≡ top_after w block
  top_is = top_spoken old new h.grows e.top t.top h.within.tops h.are.top_in ∙ ap (option_or block.top) (sym h.are.top)

  pub top_in : IfSome (option_or e.top t.top) (λ (id : NameId). id.0 < length new)
  top_in = top_within old new h.grows e.top t.top h.within.tops h.are.top_in

  pub clock_is : HasText new (unwrap_or e.clock t.clock) (clock_after w block)
  clock_is =
      subst (λ (c : List ℕ). HasText new (unwrap_or e.clock t.clock) (unwrap_or block.clock c)) (sym h.are.clock)
      (clock_named old new h.grows e.clock t.clock h.within.clocks h.are.clock_in)

  -- so what these come to is what the block's texts do
  pub reads_block : (read : Result DesignOfTexts TextFault) → Plans new sources (option_or e.top t.top) (unwrap_or e.clock t.clock) read
      → FilesRead (files_after w block texts) (top_after w block) (clock_after w block) (spelled_answer new read)
  reads_block read plans = record {
    names = new;
    once = h.also;
    sources = sources;
    are = files_are;
    top_id = option_or e.top t.top;
    top_is = subst (λ (o : Option (List ℕ)). HasMaybe new (option_or e.top t.top) (option_or block.top o)) (sym h.are.top)
        (maybe_named old new h.grows e.top t.top h.within.tops h.are.top_in);
    clock_id = unwrap_or e.clock t.clock;
    clock_is = clock_is;
    read = read;
    plans = plans;
    same = refl;
  }

  -- ---- its operations

  -- by the table that has grown they are those of the block
  pub ops_are : map (line_operation new) e.ops ≡ block.ops
  ops_are =
      same_map (λ (o : OpLine). HasNames (length old) o.op) (line_operation old) (line_operation new) e.ops
      (λ (o : OpLine) (is : HasNames (length old) o.op).
      ap (λ (op : Operation). record { line = o.line; op = op }) (grown_operation old new h.grows o.op is))
      h.within.operations

  pub ops_within : AreOpsWithin (length new) e.ops
  ops_within =
      all_so (λ (o : OpLine). HasNames (length old) o.op) (λ (o : OpLine). HasNames (length new) o.op) e.ops
      (λ (o : OpLine) (is : HasNames (length old) o.op). grown_names old new h.grows o.op is) h.within.operations

  pub operations_are : AreOperations new block.ops (ops_of e.ops)
  operations_are = record {
    are = without_lines e.ops ∙ ap (map (λ (o : LineOperation). o.op)) ops_are;
    within = All-map (HasNames (length new)) (λ (o : OpLine). o.op) e.ops ops_within;
  }
    where
      without_lines : (os : List OpLine) → map (operation new) (ops_of os) ≡ map (λ (o : LineOperation). o.op) (map (line_operation new) os)
      without_lines [] = refl
      without_lines (o ∷ os) = ap (λ (ops : List Operation). operation new o.op ∷ ops) (without_lines os)
