-- The first block: the version at its beginning, and its book.
use Rattle.std.proofs.Common.{◌≡◌, ◌∙◌, ℕ, ◌+◌, ◌≤◌, ◌<◌, List, [], ◌∷◌, ◌++◌, map, length, All, refl, sym, ap, ap₂, subst, true≢false, arith}
use Rattle.std.specs.Prelude.{codes, IfOk, Option, Some, None, Result, Ok, Err, is_some}
use Rattle.std.specs.Option.{option_map}
use Rattle.std.proofs.lemmas.List.Elements.{All-nil}
use Rattle.book_history.specs.Book.{Book, Settings as BookSettings, Opens}
use Rattle.book_history.specs.Outline.{Outline, blank, outline_in}
use Rattle.book_history.specs.Rooms.{Counts, count_all, no_entry}
use Rattle.book_history.proofs.Prefixes.{count-append}
use Rattle.checkpoint_book.specs.Views.{HasSessionRoom}
use Rattle.command_read.specs.Spoken.{IsEditWithin, IsWithin, edited}
use Rattle.command_read.specs.declared.edit.Edit.{Edit}
use Rattle.cycle_eval.specs.declared.design.Design.{Design}
use Rattle.ls_text.specs.Texts.{Grows, HasEachOnce, text_at}
use Rattle.ls_text.specs.declared.fault.Fault.{Fault}
use Rattle.ls_text.specs.declared.name_id.NameId.{NameId}
use Rattle.ls_text.specs.declared.source_file.SourceFile.{SourceFile}
use Rattle.module_registry.specs.Building.{Built}
use Rattle.module_registry.specs.Entries.{Entry, ensured, keys_of, missing}
use Rattle.module_registry.specs.Keys.{KeyData}
use Rattle.module_registry.specs.declared.build_job.BuildJob.{BuildJob}
use Rattle.stimulus.specs.Records.{rows_of}
use Rattle.version_swap.proofs.HeldUnits.{none_held}
use Rattle.version_swap.specs.Held.{IsKeyUnder}
use Rattle.version_swap.specs.Behind.{design_of, texts_behind}
use Rattle.version_swap.specs.Operations.{AreValidBetween}
use Rattle.version_swap.specs.Plans.{DesignOfTexts, Plans}
use Rattle.version_swap.specs.declared.texts.Texts.{Texts}
use Rattle.live_session.specs.Begins.{Begins, IsBegun, Starts, StartsIn}
use Rattle.live_session.specs.Beside.{Stands, settings_by}
use Rattle.live_session.specs.Files.{TextFile, text_file}
use Rattle.live_session.specs.Logs.{InputRow, IsLegal, Log, LogEvent, State, book_in, marks_of, outline_of}
use Rattle.live_session.specs.Rows.{row_of}
use Rattle.live_session.specs.Scripts.{Agrees}
use Rattle.live_session.specs.Sessions.{held_texts}
use Rattle.live_session.specs.Verdicts.{missing_keys}
use Rattle.live_session.specs.Worlds.{fresh}
use Rattle.live_session.specs.declared.begun.Begun.{Begun}
use Rattle.live_session.specs.declared.begun.Begun.TheVariants as begun
use Rattle.live_session.specs.declared.limits.Limits.{Limits}
use Rattle.live_session.specs.declared.running.Running.{Running}
use Rattle.live_session.proofs.AscendingRows.{AreWithin}
use Rattle.live_session.proofs.BlockTexts.{IsBlockBehind}
use Rattle.live_session.proofs.HeldTexts.{IsDigested, built_behind, held_behind, made_digested}
use Rattle.live_session.proofs.NextWorlds.{IsNext, files_in, its_clock_in, its_top_in, takes_next}
use Rattle.live_session.proofs.Standing.{outline_behind}
use Rattle.live_session.proofs.TextFiles.{AreSourcesWithin}

-- ---- a book without a version

abbrev LogBook : Type 0
LogBook = Option (Book Design State InputRow)

-- a blank outline is that of no book
never_by : (b : LogBook) → outline_in b ≡ blank → b ≡ None
never_by None is = refl
never_by (Some c) is = absurd (true≢false (ap (λ (o : Outline Design InputRow). is_some o.machine) is))

pub never_opened : (limits : Limits) (j : Log) → Stands limits None j → book_in j ≡ None
never_opened limits j stands = never_by (book_in j) stands.outline

pub first_room : (limits : Limits) (j : Log) → Stands limits None j → 1 ≤ limits.rooms.session → HasSessionRoom j 1
first_room limits j stands room = omega (arith, stands.charged, room, ap (λ rooms. rooms.session) stands.rooms)

pub agrees_fresh : (names : List (List ℕ)) (limits : Limits) (j : Log) → Stands limits None j → Agrees names fresh (outline_of j)
agrees_fresh names limits j stands =
    subst (Agrees names fresh) (sym stands.outline)
    (record { version = refl; machine = tt; rows = record { are = refl; within = All-nil (AreWithin (length names)) }; marks = refl })

-- ---- the book behind the entry

pub opens_so : (was is : Log) (version : ℕ) (machine design : Design) → version ≡ 1 → machine ≡ design
    → is.events ≡ was.events ++ Opens version machine ∷ [] → is.events ≡ was.events ++ Opens 1 design ∷ []
opens_so was is version machine design first same events =
    events ∙ ap₂ (λ (v : ℕ) (m : Design). was.events ++ Opens v m ∷ []) first same

module _ (was is : Log) (design : Design) (settings : is.settings ≡ was.settings) (events : is.events ≡ was.events ++ Opens 1 design ∷ [])
    (legal : IsLegal is) where
  abbrev opening : List LogEvent
  opening = Opens 1 design ∷ []

  outline_so : outline_of is ≡ record { version = 1; machine = Some design; rows = []; marks = [] }
  outline_so = outline_behind was is opening (record { settings = settings; events = events }) legal

  pub marks_none : marks_of is ≡ []
  marks_none = ap (λ (o : Outline Design InputRow). o.marks) outline_so

  pub stands_first : (limits : Limits) (running : Running) → Stands limits None was → running.version.value.number ≡ 1
      → running.version.value.machine.value ≡ design → rows_of running.record_ ≡ [] → running.charge ≡ 1 → Stands limits (Some running) is
  stands_first limits running stands number runs rows charge =
      let counts : count_all no_entry is.events ≡ count_all (count_all no_entry was.events) opening =
      ap (count_all no_entry) events ∙ count-append no_entry was.events opening in
      record {
        outline = record {
          version = ap (λ (o : Outline Design InputRow). o.version) outline_so ∙ sym number;
          machine = ap (λ (o : Outline Design InputRow). o.machine) outline_so ∙ ap Some (sym runs);
          rows = ap (λ (o : Outline Design InputRow). o.rows) outline_so ∙ sym rows;
        };
        still_open = ap (λ (n : Counts). n.closed) counts ∙ stands.still_open;
        charged = omega (arith, ap (λ (n : Counts). n.session) counts, stands.charged, charge);
        rooms = ap (λ (st : BookSettings). st.rooms) settings ∙ stands.rooms;
      }

-- ---- the block behind no texts

module _ (old new : List (List ℕ)) (grows : Grows old new) (once : HasEachOnce old) (also : HasEachOnce new) (e : Edit) (loaded : List SourceFile)
    (within : IsEditWithin (length old) e) (named : AreSourcesWithin (length old) loaded) (t : Texts) (no_files : t.files ≡ [])
    (no_top : t.top ≡ None) (clock_in : t.clock.0 < length old) (clock_is : text_at old t.clock.0 ≡ codes "clk") where
  pub behind_none : IsBlockBehind old new e loaded t fresh
  behind_none = record {
    grows = grows;
    once = once;
    also = also;
    within = within;
    named = named;
    are = record {
      files_in = subst (AreSourcesWithin (length old)) (sym no_files) (All-nil (λ (f : SourceFile). f.name.0 < length old));
      top_in = subst (IsWithin (length old)) (sym no_top) tt;
      clock_in = clock_in;
      files = ap (map (text_file old)) (sym no_files);
      top = ap (option_map (λ (id : NameId). text_at old id.0)) (sym no_top);
      clock = sym clock_is;
    };
  }

module _ (old new : List (List ℕ)) (e : Edit) (loaded : List SourceFile) (t : Texts) (h : IsBlockBehind old new e loaded t fresh) (limits : Limits)
    (room : 1 ≤ limits.rooms.session) (texts : Texts) (design : Design) (keys : List KeyData) (built kept : ℕ) (was is : Log) (running : Running)
    (line : List ℕ) (starts : Starts limits texts design keys built kept was is running line) (stands : Stands limits None was)
    (behind : texts ≡ texts_behind t e loaded) (plans : Plans new texts.files texts.top texts.clock (Ok (design_of design keys)))
    (made : All (IsKeyUnder new) keys) (builds : BuildJob → Result Built Fault) (es entries : List Entry) (none : es ≡ [])
    (held : ensured builds es keys ≡ Ok entries) (count : built ≡ length (missing (keys_of es) keys)) (rest : kept + built ≡ length keys)
    (valid : AreValidBetween None design e.ops) (short : All (λ (f : SourceFile). length f.text ≤ 4194304) texts.files) where
  abbrev its_keys : List (List ℕ)
  its_keys = map (λ (k : KeyData). k.text) keys

  no_texts : held_texts es ≡ []
  no_texts = ap held_texts none

  its_held : held_texts entries ≡ missing_keys [] (map (λ (k : KeyData). k.text) running.keys)
  its_held =
      held_behind new es keys (none_held new es none) (made_digested new keys made) builds entries held
      ∙ ap (λ (ts : List (List ℕ)). ts ++ missing_keys ts its_keys) no_texts
      ∙ ap (λ (ks : List KeyData). missing_keys [] (map (λ (k : KeyData). k.text) ks)) (sym starts.has_keys)

  its_count : built ≡ length (missing_keys [] (map (λ (k : KeyData). k.text) running.keys))
  its_count =
      built_behind new es keys (none_held new es none) (made_digested new keys made) built count
      ∙ ap (λ (ts : List (List ℕ)). length (missing_keys ts its_keys)) no_texts
      ∙ ap (λ (ks : List KeyData). length (missing_keys [] (map (λ (k : KeyData). k.text) ks))) (sym starts.has_keys)

  its_design : design_of running.version.value.machine.value running.keys ≡ design_of design keys
  its_design = ap₂ (λ (d : Design) (ks : List KeyData). design_of d ks) starts.has_design starts.has_keys

  its_plans : Plans new running.texts.files running.texts.top running.texts.clock (Ok (design_of running.version.value.machine.value running.keys))
  its_plans =
      subst (λ (x : Texts). Plans new x.files x.top x.clock (Ok (design_of running.version.value.machine.value running.keys))) (sym starts.has_texts)
      (subst (λ (d : DesignOfTexts). Plans new texts.files texts.top texts.clock (Ok d)) (sym its_design) plans)

  next : IsNext new e loaded t fresh entries running
  next = record {
    texts = starts.has_texts ∙ behind;
    version = starts.first;
    row = ap (row_of new) starts.no_row;
    rows = ap (map (row_of new)) starts.no_rows;
    held = its_held;
    charge = starts.charge;
    plans = its_plans;
  }

  -- its operations are valid behind a book without a version
  its_valid : AreValidBetween (outline_of was).machine running.version.value.machine.value e.ops
  its_valid =
      subst (λ (m : Option Design). AreValidBetween m running.version.value.machine.value e.ops)
      (sym (ap (λ (o : Outline Design InputRow). o.machine) stands.outline))
      (subst (λ (d : Design). AreValidBetween None d e.ops) (sym starts.has_design) valid)

  pub begins : IsBegun new limits (edited old e) (map (text_file old) loaded) entries was is running line
  begins = record {
    takes =
        takes_next old new e loaded t fresh h entries running next (settings_by limits was) was is (Opens 1 design)
        (record { settings = starts.settings; events = starts.opens }) (refl, tt) refl refl starts.marks (agrees_fresh new limits was stands)
        (ap (λ (m : Design). Opens 1 m) (sym starts.has_design)) its_valid line built kept 0 its_count (rest ∙ ap length (sym starts.has_keys)) refl
        starts.text;
    kept = record {
      named = record {
        files = files_in old new e loaded t fresh h entries running next;
        top = its_top_in old new e loaded t fresh h entries running next;
        clock = its_clock_in old new e loaded t fresh h entries running next;
        row = subst (AreWithin (length new)) (sym starts.no_row) (All-nil (λ (p : ℕ × ℕ). p.0 < length new));
        rows = subst (All (AreWithin (length new))) (sym starts.no_rows) (All-nil (AreWithin (length new)));
      };
      plans = ∣ its_plans ∣₁;
      digests = subst (All IsDigested) (sym starts.has_keys) (made_digested new keys made);
      short = subst (λ (x : Texts). All (λ (f : SourceFile). length f.text ≤ 4194304) x.files) (sym starts.has_texts) short;
      charge = omega (arith, starts.charge, room);
      stimulus = starts.stimulus;
    };
    stands = starts.stands;
  }

-- and so of an answer
pub begun_begins : {E : Type 0} (names : List (List ℕ)) (limits : Limits) (old : List (List ℕ)) (e : Edit) (loaded : List TextFile)
    (entries before : List Entry) (texts : Texts) (design : Design) (keys : List KeyData) (built kept : ℕ) (was is : Log) (r : Result Begun E)
    → ((running : Running) (line : List ℕ) → Starts limits texts design keys built kept was is running line
    → IsBegun names limits (edited old e) loaded before was is running line)
    → IfOk r (λ b. entries ≡ before) → IfOk r (StartsIn limits texts design keys built kept was is)
    → IfOk r (Begins names limits (edited old e) loaded entries was is)
begun_begins names limits old e loaded entries before texts design keys built kept was is (Ok (begun.Accepted running line)) so same starts =
    subst (λ (es : List Entry). IsBegun names limits (edited old e) loaded es was is running line.items) (sym same) (so running line.items starts)
begun_begins names limits old e loaded entries before texts design keys built kept was is (Ok (begun.Refused reply)) so same starts = absurd starts
begun_begins names limits old e loaded entries before texts design keys built kept was is (Err error) so same starts = tt
