-- A block that was accepted: the world behind it, its line, and its entry.
use Rattle.std.proofs.Common.{◌≡◌, ◌∙◌, ℕ, ◌+◌, ◌-◌, ◌<◌, List, [], ◌∷◌, ◌++◌, map, length, refl, sym, ap, ap₂, subst, arith, All}
use Rattle.std.specs.Prelude.{◌==◌, if◌then◌else◌, IfSome, Option, Some, Result, Ok, Err, true, false}
use Rattle.std.specs.Option.{option_map, option_or, unwrap_or}
use Rattle.std.proofs.lemmas.List.{length-map}
use Rattle.book_history.specs.Book.{Opens, Reloads}
use Rattle.book_history.specs.Owned.{AllOwned, owned}
use Rattle.command_read.specs.Asking.{Block, Edits}
use Rattle.command_read.specs.Spoken.{edited}
use Rattle.command_read.specs.declared.edit.Edit.{Edit}
use Rattle.cycle_eval.specs.Designs.{design_flat}
use Rattle.cycle_eval.specs.declared.design.Design.{Design}
use Rattle.ls_text.specs.Readings.{TextFault}
use Rattle.ls_text.specs.Texts.{text_at}
use Rattle.ls_text.specs.declared.name_id.NameId.{NameId}
use Rattle.ls_text.specs.declared.source_file.SourceFile.{SourceFile}
use Rattle.module_registry.specs.Entries.{Entry}
use Rattle.module_registry.specs.Keys.{KeyData}
use Rattle.stimulus.specs.Records.{rows_of}
use Rattle.version_swap.specs.Behind.{design_of, texts_behind}
use Rattle.version_swap.specs.Files as numbered
use Rattle.version_swap.specs.Operations.{AreValidBetween, IsEditFault, at_operation, in_files, operation_fault, ops_of}
use Rattle.version_swap.specs.Plans.{Plans}
use Rattle.version_swap.specs.declared.texts.Texts.{Texts}
use Rattle.wave_report.specs.Replies.{edit_text}
use Rattle.live_session.specs.Files.{TextFile, text_file}
use Rattle.live_session.specs.Logs.{Log, LogEvent, LogMoment, book_in, marks_of, moments_after, outline_of}
use Rattle.live_session.specs.Operations.{operations_fault, registers_of}
use Rattle.live_session.specs.Readings.{FilesRead}
use Rattle.live_session.specs.Replies.{accepted_text}
use Rattle.live_session.specs.Rows.{Row, row_of}
use Rattle.live_session.specs.Scripts.{Agrees, IsCurrent, IsNamedIn}
use Rattle.live_session.specs.Sessions.{held_texts, world_of}
use Rattle.live_session.specs.Settings.{Settings}
use Rattle.live_session.specs.Spelled.{Answer, Spelled, spelled}
use Rattle.live_session.specs.Taken.{TakesBlock}
use Rattle.live_session.specs.Turns.{Refuses}
use Rattle.live_session.specs.Verdicts.{chosen, clock_after, edited as edited_world, files_after, top_after}
use Rattle.live_session.specs.Verdicts.{loaded_verdict, missing_keys, planned_verdict, unless}
use Rattle.live_session.specs.Worlds.{World, Refused, refused_text}
use Rattle.live_session.specs.declared.reply.Reply.{Reply}
use Rattle.live_session.specs.declared.running.Running.{Running}
use Rattle.live_session.proofs.BlockTexts.{IsBlockBehind, clock_is, files_are, reads_block, sources_within, top_in, top_is}
use Rattle.live_session.proofs.BlockTexts.{operations_are, ops_are, ops_within}
use Rattle.live_session.proofs.DesignNames.{plan_named}
use Rattle.live_session.proofs.Judged.{entry_done, refused_done}
use Rattle.live_session.proofs.OperationTexts.{operations_refused, operations_valid}
use Rattle.live_session.proofs.Standing.{Adds}
use Rattle.live_session.proofs.TextFiles.{AreSourcesWithin}

-- ---- the answer to files is looked at where all loads gave a text

abbrev files_or : Result (List TextFile) Refused → List TextFile
files_or (Ok files) = files
files_or (Err refused) = []

pub read_again : (w : World) (block : Block) (loaded : List TextFile) (answer : Answer)
    → FilesRead (files_after w block loaded) (top_after w block) (clock_after w block) answer
    → (files : List TextFile) → ◌≡◌ {A = Result (List TextFile) Refused} (Ok loaded) (Ok files)
    → FilesRead (files_after w block files) (top_after w block) (clock_after w block) answer
read_again w block loaded answer h files is =
    subst (λ (fs : List TextFile). FilesRead (files_after w block fs) (top_after w block) (clock_after w block) answer) (ap files_or is) h

-- ---- lines

-- the line tells how many units were built, and how many were there
accepts_line : (st : Settings) (w : World) (block : Block) (loaded : List TextFile) (design : Spelled) (line : List ℕ) (built kept from : ℕ)
    → built ≡ length (missing_keys w.held design.keys) → kept + built ≡ length design.keys → from ≡ chosen st w
    → line ≡ edit_text (w.version + 1) built kept from → line ≡ accepted_text st w (edited_world w block loaded design) (Some design)
accepts_line st w block loaded design line built kept from made rest since is =
    let left : kept ≡ length design.keys - built = omega (arith, rest) in
    is ∙ ap (λ (k : ℕ). edit_text (w.version + 1) built k from) left
    ∙ ap₂ (λ (b c : ℕ). edit_text (w.version + 1) b (length design.keys - b) c) made since

-- ---- worlds

-- a world by its parts
abbrev made_of : List TextFile → Option (List ℕ) → (clock : List ℕ) → (version : ℕ) → Spelled → Row → List Row → (grid : List ℕ)
    → (held : List (List ℕ)) → (charge : ℕ) → World
made_of files top clock version design row rows grid held charge = record {
  files = files;
  top = top;
  clock = clock;
  version = version;
  design = Some design;
  row = row;
  record_ = rows;
  grid = grid;
  held = held;
  charge = charge;
}

-- the version behind a block in a world
pub record IsNext (new : List (List ℕ)) (e : Edit) (loaded : List SourceFile) (t : Texts) (w : World) (entries : List Entry) (r : Running)
    : Type 0 where
  pub texts : r.texts ≡ texts_behind t e loaded
  pub version : r.version.value.number ≡ w.version + 1
  pub row : row_of new r.row.value ≡ w.row
  pub rows : map (row_of new) (rows_of r.record_) ≡ w.record_
  pub held : held_texts entries ≡ w.held ++ missing_keys w.held (map (λ (k : KeyData). k.text) r.keys)
  pub charge : r.charge ≡ w.charge + 1
  pub plans : Plans new r.texts.files r.texts.top r.texts.clock (Ok (design_of r.version.value.machine.value r.keys))

module _ (old new : List (List ℕ)) (e : Edit) (loaded : List SourceFile) (t : Texts) (w : World) (h : IsBlockBehind old new e loaded t w)
    (entries : List Entry) (r : Running) (next : IsNext new e loaded t w entries r) where
  abbrev block : Block
  block = edited old e

  abbrev files : List TextFile
  files = map (text_file old) loaded

  abbrev design : Spelled
  design = spelled new (design_of r.version.value.machine.value r.keys)

  abbrev behind : World
  behind = edited_world w block files design

  its_files : r.texts.files ≡ numbered.files_behind t.files e.files e.loads loaded
  its_files = ap (λ (x : Texts). x.files) next.texts

  its_top : r.texts.top ≡ option_or e.top t.top
  its_top = ap (λ (x : Texts). x.top) next.texts

  its_clock : r.texts.clock ≡ unwrap_or e.clock t.clock
  its_clock = ap (λ (x : Texts). x.clock) next.texts

  pub its_world : world_of new entries w.grid r ≡ behind
  its_world =
      ap₂ (λ (fs : List TextFile) (o : Option (List ℕ)). made_of fs o (text_at new r.texts.clock.0) r.version.value.number design
      (row_of new r.row.value) (map (row_of new) (rows_of r.record_)) w.grid (held_texts entries) r.charge)
      (ap (map (text_file new)) its_files ∙ files_are old new e loaded t w h)
      (ap (option_map (λ (id : NameId). text_at new id.0)) its_top ∙ top_is old new e loaded t w h)
      ∙ ap₂ (λ (c : List ℕ) (v : ℕ). made_of (files_after w block files) (top_after w block) c v design (row_of new r.row.value)
      (map (row_of new) (rows_of r.record_)) w.grid (held_texts entries) r.charge)
      (ap (λ (id : NameId). text_at new id.0) its_clock ∙ (clock_is old new e loaded t w h).1) next.version
      ∙ ap₂ (λ (x : Row) (xs : List Row). made_of (files_after w block files) (top_after w block) (clock_after w block) (w.version + 1) design x xs
      w.grid (held_texts entries) r.charge) next.row next.rows
      ∙ ap₂ (λ (ts : List (List ℕ)) (c : ℕ). made_of (files_after w block files) (top_after w block) (clock_after w block) (w.version + 1) design
      w.row w.record_ w.grid ts c) next.held next.charge

  its_read : FilesRead (files_after w block files) (top_after w block) (clock_after w block) (Ok design)
  its_read =
      reads_block old new e loaded t w h (Ok (design_of r.version.value.machine.value r.keys))
      (subst (λ (x : Texts). Plans new x.files x.top x.clock (Ok (design_of r.version.value.machine.value r.keys))) next.texts next.plans)

  pub files_in : AreSourcesWithin (length new) r.texts.files
  files_in = subst (AreSourcesWithin (length new)) (sym its_files) (sources_within old new e loaded t w h)

  pub its_top_in : IfSome r.texts.top (λ (id : NameId). id.0 < length new)
  its_top_in = subst (λ (o : Option NameId). IfSome o (λ (id : NameId). id.0 < length new)) (sym its_top) (top_in old new e loaded t w h)

  pub its_clock_in : r.texts.clock.0 < length new
  its_clock_in = subst (λ (id : NameId). id.0 < length new) (sym its_clock) (clock_is old new e loaded t w h).0

  -- ---- what the block did

  its_named : All (IsNamedIn (length new)) (design_flat r.version.value.machine.value).signals
  its_named =
      plan_named new h.also r.texts.files r.texts.top r.texts.clock (design_of r.version.value.machine.value r.keys) next.plans

  module _ (st : Settings) (was is : Log) (own : LogEvent) (adds : Adds was is (own ∷ [])) (alone : AllOwned true (own ∷ []))
      (mine : owned (own ∷ []) ≡ own ∷ []) (one : moments_after was (own ∷ []) ≡ record { entry = own; book = book_in was } ∷ [])
      (grid : marks_of is ≡ w.grid) (agrees : Agrees new w (outline_of was))
      (entry : own ≡ (if w.version == 0 then Opens 1 r.version.value.machine.value
      else Reloads (w.version + 1) r.version.value.machine.value (ops_of e.ops) (chosen st w)))
      (valid : AreValidBetween (outline_of was).machine r.version.value.machine.value e.ops) (line : List ℕ) (built kept from : ℕ)
      (made : built ≡ length (missing_keys w.held (map (λ (k : KeyData). k.text) r.keys)))
      (rest : kept + built ≡ length r.keys) (since : from ≡ chosen st w) (says : line ≡ edit_text (w.version + 1) built kept from) where
    no_fault : planned_verdict w block files (Ok design) ≡ Ok behind
    no_fault =
        ap (λ (o : Option Refused). unless o behind)
        (ap (operations_fault (registers_of w.design) (registers_of (Some design)) []) (sym (ops_are old new e loaded t w h))
        ∙ operations_valid new h.also w.design (outline_of was).machine agrees.machine r.version.value.machine.value r.keys its_named e.ops
        (ops_within old new e loaded t w h) valid)

    its_line : line ≡ accepted_text st w behind (Some design)
    its_line =
        accepts_line st w block files design line built kept from made (rest ∙ sym (length-map r.keys (λ (k : KeyData). k.text))) since says

    pub takes_next : TakesBlock st block (Ok files) w (world_of new entries (marks_of is) r) was is line false
    takes_next = record {
      answer = Ok design;
      read = read_again w block files (Ok design) its_read;
      done =
          entry_done st (Edits block) new h.also w (world_of new entries (marks_of is) r) (loaded_verdict w block (Ok design) (Ok files))
          (record { lines = line; refused = false; quit = false }) true was is (own ∷ []) (own ∷ []) adds (λ only. alone) mine
          (record { entry = own; book = book_in was }) one behind no_fault (ap (λ (g : List ℕ). world_of new entries g r) grid ∙ its_world) (
            r.version.value.machine.value,
            record { keys = r.keys; is = refl; within = its_named },
            ops_of e.ops,
            operations_are old new e loaded t w h,
            ap (λ (x : LogEvent). x ∷ []) entry,
          )
          refl agrees (λ (ms : List LogMoment). ap (λ (text : List ℕ). Some (text, ms)) (sym its_line)) refl;
    }

-- ---- a fault of the files, or of an operation

pub takes_fault : (old new : List (List ℕ)) (e : Edit) (loaded : List SourceFile) (t : Texts) (w : World) → IsBlockBehind old new e loaded t w
    → (st : Settings) (after : World) (j : Log) (machine : Option Design) → IsCurrent new w.design machine → (fault : TextFault) (reply : Reply)
    → after ≡ w
    → IsEditFault new (numbered.files_behind t.files e.files e.loads loaded) (option_or e.top t.top) (unwrap_or e.clock t.clock) machine e.ops fault
    → Refuses (refused_text (map (text_file new) (numbered.files_behind t.files e.files e.loads loaded)) e.line fault) reply
    → TakesBlock st (edited old e) (Ok (map (text_file old) loaded)) w after j j reply.lines reply.refused
takes_fault old new e loaded t w h st after j machine current fault reply same (in_files plans) refuses =
    let block = edited old e in
    let files = map (text_file old) loaded in
    record {
      answer = Err fault;
      read = read_again w block files (Err fault) (reads_block old new e loaded t w h (Err fault) plans);
      done =
          refused_done st (Edits block) new h.also w after (loaded_verdict w block (Err fault) (Ok files)) reply j
          (refused_text (files_after w block files) block.line fault) refl
          (subst (λ (fs : List TextFile). Refuses (refused_text fs e.line fault) reply) (files_are old new e loaded t w h) refuses) same;
    }
takes_fault old new e loaded t w h st after j machine current fault reply same (at_operation design keys {refused} plans is) refuses =
    let block = edited old e in
    let files = map (text_file old) loaded in
    let read = design_of design keys in
    let found = operation_fault new e.ops refused in
    let named =
    plan_named new h.also (numbered.files_behind t.files e.files e.loads loaded) (option_or e.top t.top) (unwrap_or e.clock t.clock) read plans in
    record {
      answer = Ok (spelled new read);
      read = read_again w block files (Ok (spelled new read)) (reads_block old new e loaded t w h (Ok read) plans);
      done =
          refused_done st (Edits block) new h.also w after (loaded_verdict w block (Ok (spelled new read)) (Ok files)) reply j
          (refused_text (files_after w block files) block.line found)
          (ap (λ (o : Option Refused). unless o (edited_world w block files (spelled new read)))
          (ap (operations_fault (registers_of w.design) (registers_of (Some (spelled new read))) []) (sym (ops_are old new e loaded t w h))
          ∙ operations_refused new h.also w.design machine current design keys named e.ops (ops_within old new e loaded t w h)
          (files_after w block files) block.line refused is))
          (subst (λ (fs : List TextFile). Refuses (refused_text fs e.line found) reply) (files_are old new e loaded t w h) refuses) same;
    }
