-- A block behind a design that runs: the next version, and its book.
use Rattle.std.proofs.Common.{◌≡◌, ◌∙◌, ℕ, ◌+◌, ◌-◌, ◌^◌, ◌≤◌, ◌<◌, List, [], ◌∷◌, ◌++◌, map, length, All}
use Rattle.std.proofs.Common.{refl, sym, ap, ap₂, subst, true≢false, arith}
use Rattle.std.specs.Prelude.{◌==◌, false, if◌then◌else◌, IfOk, OnErr, Option, Some, None, Result, Ok, Err, is_some}
use Rattle.std.specs.Option.{option_or, unwrap_or}
use Rattle.std.proofs.Props.{props}
use Rattle.std.proofs.lemmas.Bool.{cond-false, ne_eqb}
use Rattle.std.proofs.lemmas.List.{length-map}
use Rattle.std.proofs.lemmas.Option.{same_Some}
use Rattle.book_history.proofs.Outlines.{chosen_is, legal_version}
use Rattle.book_history.specs.Book.{Book, Settings as BookSettings, Opens, Reloads}
use Rattle.book_history.specs.Outline.{Outline, VersionIs, last_until, outline_in}
use Rattle.book_history.specs.Rooms.{count_all, no_entry}
use Rattle.checkpoint_book.specs.Views.{HasSessionRoom, IsOpened, LeadTo, chosen_in, version_in}
use Rattle.command_read.specs.Spoken.{IsEditWithin, edited}
use Rattle.command_read.specs.declared.edit.Edit.{Edit}
use Rattle.cycle_eval.specs.declared.design.Design.{Design}
use Rattle.ls_text.specs.Readings.{TextFault}
use Rattle.ls_text.specs.Texts.{Grows, HasEachOnce}
use Rattle.ls_text.specs.declared.fault.Fault.{Fault}
use Rattle.ls_text.specs.declared.source_file.SourceFile.{SourceFile}
use Rattle.module_registry.specs.Building.{Built}
use Rattle.module_registry.specs.Entries.{Entry, ensured, keys_of, missing}
use Rattle.module_registry.specs.Keys.{KeyData}
use Rattle.module_registry.specs.declared.build_job.BuildJob.{BuildJob}
use Rattle.stimulus.specs.Records.{rows_of}
use Rattle.stimulus.specs.Rows.{AreAscending}
use Rattle.version_swap.proofs.HeldUnits.{cut_held, same_held}
use Rattle.version_swap.specs.Held.{AreHeldUnder, IsKeyUnder}
use Rattle.version_swap.specs.Behind.{design_of, texts_behind}
use Rattle.version_swap.specs.Files as numbered
use Rattle.version_swap.specs.Operations.{AreValidBetween, IsEditFault, ops_of}
use Rattle.version_swap.specs.Plans.{DesignOfTexts, Plans}
use Rattle.version_swap.specs.declared.texts.Texts.{Texts}
use Rattle.wave_report.specs.Replies.{edit_text}
use Rattle.live_session.specs.Begins.{GoesOn, LosesLine, SaysSo, line_lost, nothing_new}
use Rattle.live_session.specs.Beside.{RunsIn, Stands, settings_by}
use Rattle.live_session.specs.Files.{text_file}
use Rattle.live_session.specs.Kept.{IsKept}
use Rattle.live_session.specs.Logs.{InputRow, IsLegal, Log, LogEvent, Ops, State, book_in, marks_of, outline_of, valid}
use Rattle.live_session.specs.Rows.{row_of}
use Rattle.live_session.specs.Scripts.{Agrees, IsCurrent}
use Rattle.live_session.specs.Sessions.{held_texts, world_of}
use Rattle.live_session.specs.Settings.{Settings}
use Rattle.live_session.specs.Spelled.{Spelled}
use Rattle.live_session.specs.Taken.{LosesBlock, TakesBlock, lost_lines, none_taken}
use Rattle.live_session.specs.Turns.{Accepts, Refuses}
use Rattle.live_session.specs.Verdicts.{chosen, missing_keys}
use Rattle.live_session.specs.Worlds.{World, refused_text}
use Rattle.live_session.specs.declared.limits.Limits.{Limits}
use Rattle.live_session.specs.declared.reply.Reply.{Reply}
use Rattle.live_session.specs.declared.running.Running.{Running}
use Rattle.live_session.proofs.AscendingRows.{AreWithin}
use Rattle.live_session.proofs.BlockTexts.{IsBlockBehind}
use Rattle.live_session.proofs.DesignNames.{runs_within}
use Rattle.live_session.proofs.Growing.{kept_grown, row_grown, rows_grown, spelled_grown, world_grown}
use Rattle.live_session.proofs.HeldTexts.{IsDigested, built_behind, cut_to, held_behind, made_digested}
use Rattle.live_session.proofs.NextWorlds.{IsNext, files_in, its_clock_in, its_top_in, takes_fault, takes_next}
use Rattle.live_session.proofs.Standing.{Adds, outline_behind, stands_on}

-- ---- what runs

-- what the type keeps of it has one proof, so parts put together again are the whole
abbrev put_together : (r : Running) → length (rows_of r.record_) ≤ 2 ^ 40 → 1 ≤ r.version.value.number → AreAscending r.row.value
    → All AreAscending (rows_of r.record_) → Running
put_together r range some row rows = record {
  texts = r.texts;
  version = r.version;
  keys = r.keys;
  row = r.row;
  record_ = r.record_;
  charge = r.charge;
  in_range = range;
  some_version = some;
  row_ascends = row;
  rows_ascend = rows;
}

pub one_running : (r : Running) (range : length (rows_of r.record_) ≤ 2 ^ 40) (some : 1 ≤ r.version.value.number) (row : AreAscending r.row.value)
    (rows : All AreAscending (rows_of r.record_)) → put_together r range some row rows ≡ r
one_running r range some row rows =
    let one_range : IsProp (length (rows_of r.record_) ≤ 2 ^ 40) = hlevel props in
    let one_some : IsProp (1 ≤ r.version.value.number) = hlevel props in
    let one_row : IsProp (AreAscending r.row.value) = hlevel props in
    let one_rows : IsProp (All AreAscending (rows_of r.record_)) = hlevel props in
    ap₂ (λ (a : length (rows_of r.record_) ≤ 2 ^ 40) (b : 1 ≤ r.version.value.number). put_together r a b row rows) (one_range range r.in_range)
    (one_some some r.some_version)
    ∙ ap₂ (λ (a : AreAscending r.row.value) (b : All AreAscending (rows_of r.record_)). put_together r r.in_range r.some_version a b)
    (one_row row r.row_ascends) (one_rows rows r.rows_ascend)

-- ---- a book with a version

abbrev LogBook : Type 0
LogBook = Option (Book Design State InputRow)

opened_by : (b : LogBook) (r : Running) → RunsIn r (outline_in b) → IsOpened b
opened_by None r runs = absurd (true≢false (sym (ap is_some runs.machine)))
opened_by (Some c) r runs = tt

version_by : (b : LogBook) → version_in b ≡ (outline_in b).version
version_by None = refl
version_by (Some c) = refl

version_most : (b : LogBook) (most : ℕ) → VersionIs b most → (outline_in b).version ≤ most
version_most None most is = omega arith
version_most (Some c) most is = is.1

leads_by : (b : LogBook) (r : Running) → RunsIn r (outline_in b) → (m : Design) (ops : Ops) → valid r.version.value.machine.value m ops
    → LeadTo valid b m ops
leads_by None r runs m ops is = absurd (true≢false (sym (ap is_some runs.machine)))
leads_by (Some c) r runs m ops is =
    subst (λ (d : Design). valid d m ops) (sym (same_Some c.machine r.version.value.machine.value runs.machine)) is

chosen_by : (st : BookSettings) (b : LogBook) → chosen_in st b ≡ last_until (length (outline_in b).rows - st.lookback) 0 (outline_in b).marks
chosen_by st None = refl
chosen_by st (Some c) = chosen_is (length c.rows - st.lookback) 0 c.segs

module _ (limits : Limits) (r : Running) (j : Log) (stands : Stands limits (Some r) j) where
  pub is_opened : IsOpened (book_in j)
  is_opened = opened_by (book_in j) r stands.outline

  -- operations that are valid behind what runs are so behind the book
  pub leads_to : (m : Design) (ops : Ops) → valid r.version.value.machine.value m ops → LeadTo valid (book_in j) m ops
  leads_to m ops is = leads_by (book_in j) r stands.outline m ops is

  pub next_number : (n : ℕ) → n ≡ r.version.value.number + 1 → n ≡ version_in (book_in j) + 1
  next_number n is = is ∙ ap (λ (v : ℕ). v + 1) (sym (version_by (book_in j) ∙ stands.outline.version))

  pub has_session_room : r.charge < limits.rooms.session → HasSessionRoom j 1
  has_session_room room = omega (arith, stands.charged, room, ap (λ rooms. rooms.session) stands.rooms)

  -- a version is at most the entries of the session, and these the charge
  pub number_charged : IsLegal j → r.version.value.number ≤ r.charge
  number_charged legal =
      omega (
        arith,
        version_most (book_in j) (count_all no_entry j.events).session (legal_version _ j.settings valid j.events legal),
        stands.outline.version,
        stands.charged,
      )

  -- the chosen mark of the book is that of the world
  pub chosen_so : (names : List (List ℕ)) (entries : List Entry)
      → chosen_in j.settings (book_in j) ≡ chosen (settings_by limits j) (world_of names entries (marks_of j) r)
  chosen_so names entries =
      chosen_by j.settings (book_in j)
      ∙ ap (λ (n : ℕ). last_until (n - j.settings.lookback) 0 (marks_of j))
      (ap length stands.outline.rows ∙ sym (length-map (rows_of r.record_) (row_of names)))

pub marks_same : (was is : Log) → is.settings ≡ was.settings → is.events ≡ was.events → marks_of is ≡ marks_of was
marks_same was is settings events =
    ap₂ (λ (st : BookSettings) (h : List LogEvent). marks_of (record { settings = st; events = h })) settings events

-- ---- the book behind the entry

-- it has the number and the machine that the code gave
pub reloads_so : (was is : Log) (version number : ℕ) (machine design : Design) (given ops : Ops) (from : ℕ) → version ≡ number → machine ≡ design
    → given ≡ ops → is.events ≡ was.events ++ Reloads version machine given from ∷ []
    → is.events ≡ was.events ++ Reloads number design ops from ∷ []
reloads_so was is version number machine design given ops from first same equal events =
    events
    ∙ ap₂ (λ (v : ℕ) (m : Design). was.events ++ Reloads v m given from ∷ []) first same
    ∙ ap (λ (os : Ops). was.events ++ Reloads number design os from ∷ []) equal

module _ (was is : Log) (number : ℕ) (design : Design) (ops : Ops) (from : ℕ) (settings : is.settings ≡ was.settings)
    (events : is.events ≡ was.events ++ Reloads number design ops from ∷ []) (legal : IsLegal is) where
  abbrev reloading : List LogEvent
  reloading = Reloads number design ops from ∷ []

  adds_reload : Adds was is reloading
  adds_reload = record { settings = settings; events = events }

  outline_so : outline_of is
      ≡ record { version = (outline_of was).version + 1; machine = Some design; rows = (outline_of was).rows; marks = (outline_of was).marks }
  outline_so = outline_behind was is reloading adds_reload legal

  pub marks_stay : marks_of is ≡ marks_of was
  marks_stay = ap (λ (o : Outline Design InputRow). o.marks) outline_so

  pub stands_next : (limits : Limits) (old new : Running) → Stands limits (Some old) was
      → new.version.value.number ≡ old.version.value.number + 1 → new.version.value.machine.value ≡ design → rows_of new.record_ ≡ rows_of old.record_
      → new.charge ≡ old.charge + 1 → Stands limits (Some new) is
  stands_next limits old new stands next runs rows charge =
      stands_on was is reloading adds_reload limits old new legal stands
      (record {
        version = ap (λ (v : ℕ). v + 1) stands.outline.version ∙ sym next;
        machine = ap Some (sym runs);
        rows = stands.outline.rows ∙ sym rows;
      })
      stands.still_open (omega (arith, stands.charged, charge))

-- ---- the block behind the texts of a design that runs

module _ (old new : List (List ℕ)) (grows : Grows old new) (once : HasEachOnce old) (also : HasEachOnce new) (e : Edit) (loaded : List SourceFile)
    (within : IsEditWithin (length old) e) (named : All (λ (f : SourceFile). f.name.0 < length old) loaded) (limits : Limits) (r : Running)
    (kept : IsKept old limits r) (es : List Entry) (was : Log) (stands : Stands limits (Some r) was) where
  abbrev before : World
  before = world_of old es (marks_of was) r

  abbrev its_ops : Ops
  its_ops = ops_of e.ops

  pub behind_running : IsBlockBehind old new e loaded r.texts before
  behind_running = record {
    grows = grows;
    once = once;
    also = also;
    within = within;
    named = named;
    are = record {
      files_in = kept.named.files;
      top_in = kept.named.top;
      clock_in = kept.named.clock;
      files = refl;
      top = refl;
      clock = refl;
    };
  }

  abbrev behind : IsBlockBehind old new e loaded r.texts before
  behind = behind_running

  -- a table that has grown leaves its world
  pub stays_grown : (after : List Entry) (x : Running) (is : Log) → after ≡ es → x ≡ r → marks_of is ≡ marks_of was
      → world_of new after (marks_of is) x ≡ before
  stays_grown after x is same still marks =
      ap₂ (λ (en : List Entry) (g : List ℕ). world_of new en g x) same marks
      ∙ ap (world_of new es (marks_of was)) still
      ∙ world_grown old new grows once also es (marks_of was) r kept.named.files kept.named.top kept.named.clock kept.named.row kept.named.rows
      kept.plans

  -- what is kept of it by the table that has grown
  abbrev grown : IsKept new limits r
  grown = kept_grown old new grows limits r kept

  -- its design by that table
  current : IsCurrent new before.design (Some r.version.value.machine.value)
  current = record {
    keys = r.keys;
    is = ap (λ (d : Spelled). Some d)
        (sym (spelled_grown old new grows once also r.texts.files r.texts.top r.texts.clock kept.named.top kept.named.clock
        (design_of r.version.value.machine.value r.keys) kept.plans));
    within = runs_within new also r grown.plans;
  }

  agrees : Agrees new before (outline_of was)
  agrees = record {
    version = stands.outline.version;
    machine = subst (IsCurrent new before.design) (sym stands.outline.machine) current;
    rows = record {
      are = ap (map (row_of new)) stands.outline.rows ∙ rows_grown old new grows (rows_of r.record_) kept.named.rows;
      within = subst (All (AreWithin (length new))) (sym stands.outline.rows) grown.named.rows;
    };
    marks = refl;
  }

  -- a fault of the files, or of an operation
  pub refused_so : (st : Settings) (fault : TextFault) (reply : Reply)
      → IsEditFault new (numbered.files_behind r.texts.files e.files e.loads loaded) (option_or e.top r.texts.top) (unwrap_or e.clock r.texts.clock)
      (Some r.version.value.machine.value) e.ops fault
      → Refuses (refused_text (map (text_file new) (numbered.files_behind r.texts.files e.files e.loads loaded)) e.line fault) reply
      → (after : List Entry) → after ≡ es
      → TakesBlock st (edited old e) (Ok (map (text_file old) loaded)) before (world_of new after (marks_of was) r) was was reply.lines reply.refused
  refused_so st fault reply is refuses after same =
      takes_fault old new e loaded r.texts before behind st (world_of new after (marks_of was) r) was (Some r.version.value.machine.value) current
      fault reply (stays_grown after r was same refl refl) is refuses

  pub refused_by : {E : Type 0} (st : Settings) (fault : TextFault) (after : List Entry) → after ≡ es
      → IsEditFault new (numbered.files_behind r.texts.files e.files e.loads loaded) (option_or e.top r.texts.top) (unwrap_or e.clock r.texts.clock)
      (Some r.version.value.machine.value) e.ops fault
      → (result : Result Reply E)
      → IfOk result (Refuses (refused_text (map (text_file new) (numbered.files_behind r.texts.files e.files e.loads loaded)) e.line fault))
      → IfOk result (λ reply. TakesBlock st (edited old e) (Ok (map (text_file old) loaded)) before (world_of new after (marks_of was) r) was was
      reply.lines reply.refused)
  refused_by st fault after same is (Ok reply) refuses = refused_so st fault reply is refuses after same
  refused_by st fault after same is (Err error) refuses = tt

  -- memory ran out, and nothing is new
  pub nothing_taken : (st : Settings) (after : List Entry) → after ≡ es
      → LosesBlock st (edited old e) (Ok (map (text_file old) loaded)) before (world_of new after (marks_of was) r) was was
  nothing_taken st after same = none_taken refl refl (stays_grown after r was same refl refl)

  pub nothing_by : {E : Type 0} (st : Settings) (after : List Entry) → after ≡ es → (result : Result Reply E)
      → OnErr result (LosesBlock st (edited old e) (Ok (map (text_file old) loaded)) before (world_of new after (marks_of was) r) was was)
  nothing_by st after same (Ok reply) = tt
  nothing_by st after same (Err error) = nothing_taken st after same

  module _ (texts : Texts) (design : Design) (keys : List KeyData) (built kept_units : ℕ)
      (is_behind : texts ≡ texts_behind r.texts e loaded) (plans : Plans new texts.files texts.top texts.clock (Ok (design_of design keys)))
      (made : All (IsKeyUnder new) keys) (builds : BuildJob → Result Built Fault) (middle : List Entry) (holds : AreHeldUnder new es)
      (ensures_so : ensured builds es keys ≡ Ok middle) (count : built ≡ length (missing (keys_of es) keys)) (rest : kept_units + built ≡ length keys)
      (valid_ops : AreValidBetween (Some r.version.value.machine.value) design e.ops)
      (short : All (λ (f : SourceFile). length f.text ≤ 4194304) texts.files) (room : r.charge < limits.rooms.session) where
    module _ (after : List Entry) (same : after ≡ middle) (x : Running) (is : Log) (from : ℕ)
        (goes : GoesOn its_ops texts design keys from r x was is) where
      abbrev its_keys : List (List ℕ)
      its_keys = map (λ (k : KeyData). k.text) keys

      its_held : held_texts after ≡ held_texts es ++ missing_keys (held_texts es) (map (λ (k : KeyData). k.text) x.keys)
      its_held =
          ap held_texts same
          ∙ held_behind new es keys holds (made_digested new keys made) builds middle ensures_so
          ∙ ap (λ (ks : List KeyData). held_texts es ++ missing_keys (held_texts es) (map (λ (k : KeyData). k.text) ks)) (sym goes.has_keys)

      its_count : built ≡ length (missing_keys (held_texts es) (map (λ (k : KeyData). k.text) x.keys))
      its_count =
          built_behind new es keys holds (made_digested new keys made) built count
          ∙ ap (λ (ks : List KeyData). length (missing_keys (held_texts es) (map (λ (k : KeyData). k.text) ks))) (sym goes.has_keys)

      its_design : design_of x.version.value.machine.value x.keys ≡ design_of design keys
      its_design = ap₂ (λ (d : Design) (ks : List KeyData). design_of d ks) goes.has_design goes.has_keys

      its_plans : Plans new x.texts.files x.texts.top x.texts.clock (Ok (design_of x.version.value.machine.value x.keys))
      its_plans =
          subst (λ (t : Texts). Plans new t.files t.top t.clock (Ok (design_of x.version.value.machine.value x.keys))) (sym goes.has_texts)
          (subst (λ (d : DesignOfTexts). Plans new texts.files texts.top texts.clock (Ok d)) (sym its_design) plans)

      next : IsNext new e loaded r.texts before after x
      next = record {
        texts = goes.has_texts ∙ is_behind;
        version = goes.next;
        row = ap (row_of new) goes.row ∙ row_grown old new grows r.row.value kept.named.row;
        rows = ap (map (row_of new)) goes.rows ∙ rows_grown old new grows (rows_of r.record_) kept.named.rows;
        held = its_held;
        charge = goes.charge;
        plans = its_plans;
      }

      -- version 0 is none
      later : (r.version.value.number == 0) ≡ false
      later = ne_eqb r.version.value.number 0 (λ none. absurd (omega (arith, none, r.some_version)))

      since : from ≡ chosen (settings_by limits was) before
      since = goes.chosen ∙ chosen_so limits r was stands old es

      entry_is : ◌≡◌ {A = LogEvent} (Reloads (r.version.value.number + 1) design its_ops from)
          (if r.version.value.number == 0 then Opens 1 x.version.value.machine.value
          else Reloads (r.version.value.number + 1) x.version.value.machine.value its_ops (chosen (settings_by limits was) before))
      entry_is =
          ap₂ (λ (m : Design) (c : ℕ). Reloads (r.version.value.number + 1) m its_ops c) (sym goes.has_design) since
          ∙ sym (cond-false (r.version.value.number == 0) (Opens 1 x.version.value.machine.value)
          (Reloads (r.version.value.number + 1) x.version.value.machine.value its_ops (chosen (settings_by limits was) before)) later)

      its_valid : AreValidBetween (outline_of was).machine x.version.value.machine.value e.ops
      its_valid =
          subst (λ (m : Option Design). AreValidBetween m x.version.value.machine.value e.ops) (sym stands.outline.machine)
          (subst (λ (d : Design). AreValidBetween (Some r.version.value.machine.value) d e.ops) (sym goes.has_design) valid_ops)

      pub takes_renewed : (line : List ℕ) → line ≡ edit_text (r.version.value.number + 1) built kept_units from
          → TakesBlock (settings_by limits was) (edited old e) (Ok (map (text_file old) loaded)) before (world_of new after (marks_of is) x) was is
          line false
      takes_renewed line says =
          takes_next old new e loaded r.texts before behind after x next (settings_by limits was) was is
          (Reloads (r.version.value.number + 1) design its_ops from) (record { settings = goes.settings; events = goes.reloads }) (refl, tt) refl
          refl goes.marks agrees entry_is its_valid line built kept_units from its_count (rest ∙ ap length (sym goes.has_keys)) since says

      -- what is kept of the next version
      pub kept_next : IsKept new limits x
      kept_next = record {
        named = record {
          files = files_in old new e loaded r.texts before behind after x next;
          top = its_top_in old new e loaded r.texts before behind after x next;
          clock = its_clock_in old new e loaded r.texts before behind after x next;
          row = subst (AreWithin (length new)) (sym goes.row) (kept_grown old new grows limits r kept).named.row;
          rows = subst (All (AreWithin (length new))) (sym goes.rows) (kept_grown old new grows limits r kept).named.rows;
        };
        plans = ∣ its_plans ∣₁;
        digests = subst (All IsDigested) (sym goes.has_keys) (made_digested new keys made);
        short = subst (λ (t : Texts). All (λ (f : SourceFile). length f.text ≤ 4194304) t.files) (sym goes.has_texts) short;
        charge = omega (arith, goes.charge, room);
        stimulus = goes.stimulus ∙ kept.stimulus;
      }

    -- the line is there
    pub takes_said : (after : List Entry) (x : Running) (is : Log) (reply : Reply) → after ≡ middle
        → SaysSo its_ops texts design keys built kept_units r x was is reply
        → TakesBlock (settings_by limits was) (edited old e) (Ok (map (text_file old) loaded)) before (world_of new after (marks_of is) x) was is
        reply.lines reply.refused
    takes_said after x is reply same so =
        subst (TakesBlock (settings_by limits was) (edited old e) (Ok (map (text_file old) loaded)) before (world_of new after (marks_of is) x) was is
        reply.lines)
        (sym so.accepts.refusal) (takes_renewed after same x is so.from so.goes reply.lines so.accepts.text)

    -- or it is lost, or nothing is new
    pub loses_so : (after : List Entry) (x : Running) (is : Log) → LosesLine its_ops texts design keys (length es) middle after r x was is
        → LosesBlock (settings_by limits was) (edited old e) (Ok (map (text_file old) loaded)) before (world_of new after (marks_of is) x) was is
    loses_so after x is (nothing_new cut still settings events) =
        none_taken settings events (stays_grown after x is (cut ∙ cut_to builds es middle keys ensures_so) still (marks_same was is settings events))
    loses_so after x is (line_lost from same goes) =
        lost_lines (edit_text (r.version.value.number + 1) built kept_units from) false
        (takes_renewed after same x is from goes (edit_text (r.version.value.number + 1) built kept_units from) refl)

    pub kept_said : (x : Running) (is : Log) (reply : Reply) → SaysSo its_ops texts design keys built kept_units r x was is reply
        → IsKept new limits x
    kept_said x is reply so = kept_next middle refl x is so.from so.goes

    pub kept_lost : (after : List Entry) (x : Running) (is : Log) → LosesLine its_ops texts design keys (length es) middle after r x was is
        → IsKept new limits x
    kept_lost after x is (nothing_new cut still settings events) = subst (IsKept new limits) (sym still) (kept_grown old new grows limits r kept)
    kept_lost after x is (line_lost from same goes) = kept_next after same x is from goes

    -- and so of an answer
    pub takes_by : {E : Type 0} (after : List Entry) (x : Running) (is : Log) (result : Result Reply E) → IfOk result (λ _. after ≡ middle)
        → IfOk result (SaysSo its_ops texts design keys built kept_units r x was is)
        → IfOk result (λ reply. TakesBlock (settings_by limits was) (edited old e) (Ok (map (text_file old) loaded)) before
        (world_of new after (marks_of is) x) was is reply.lines reply.refused)
    takes_by after x is (Ok reply) same so = takes_said after x is reply same so
    takes_by after x is (Err error) same so = tt

    pub loses_by : {E : Type 0} (after : List Entry) (x : Running) (is : Log) (result : Result Reply E)
        → OnErr result (LosesLine its_ops texts design keys (length es) middle after r x was is)
        → OnErr result (LosesBlock (settings_by limits was) (edited old e) (Ok (map (text_file old) loaded)) before
        (world_of new after (marks_of is) x) was is)
    loses_by after x is (Ok reply) lost = tt
    loses_by after x is (Err error) lost = loses_so after x is lost

    pub kept_by : {E : Type 0} (after : List Entry) (x : Running) (is : Log) (result : Result Reply E)
        → IfOk result (SaysSo its_ops texts design keys built kept_units r x was is)
        → OnErr result (LosesLine its_ops texts design keys (length es) middle after r x was is) → IsKept new limits x
    kept_by after x is (Ok reply) so lost = kept_said x is reply so
    kept_by after x is (Err error) so lost = kept_lost after x is lost

-- the units behind want of memory are held
pub held_lost : (ops : Ops) (names : List (List ℕ)) (count : ℕ) (before after : List Entry) (texts : Texts) (design : Design) (keys : List KeyData)
    (old new : Running) (was is : Log) → AreHeldUnder names before → LosesLine ops texts design keys count before after old new was is
    → AreHeldUnder names after
held_lost ops names count before after texts design keys old new was is h (nothing_new cut still settings events) =
    cut_held names count before after h cut
held_lost ops names count before after texts design keys old new was is h (line_lost from same goes) = same_held names before after h same

pub held_by : {E : Type 0} (ops : Ops) (names : List (List ℕ)) (count : ℕ) (before after : List Entry) (texts : Texts) (design : Design)
    (keys : List KeyData) (old new : Running) (was is : Log) (result : Result Reply E) → AreHeldUnder names before → IfOk result (λ _. after ≡ before)
    → OnErr result (LosesLine ops texts design keys count before after old new was is) → AreHeldUnder names after
held_by ops names count before after texts design keys old new was is (Ok reply) h same lost = same_held names before after h same
held_by ops names count before after texts design keys old new was is (Err error) h same lost =
    held_lost ops names count before after texts design keys old new was is h lost

-- the same of the same operations and of what runs put together again
pub says_alike : {E : Type 0} (os ops : Ops) (texts : Texts) (design : Design) (keys : List KeyData) (built kept : ℕ) (x r new : Running)
    (was is : Log) (result : Result Reply E) → os ≡ ops → x ≡ r → IfOk result (SaysSo os texts design keys built kept x new was is)
    → IfOk result (SaysSo ops texts design keys built kept r new was is)
says_alike os ops texts design keys built kept x r new was is result one same says =
    subst (λ (a : Ops). IfOk result (SaysSo a texts design keys built kept r new was is)) one
    (subst (λ (y : Running). IfOk result (SaysSo os texts design keys built kept y new was is)) same says)

pub loses_alike : {E : Type 0} (os ops : Ops) (texts : Texts) (design : Design) (keys : List KeyData) (n count : ℕ) (before after : List Entry)
    (x r new : Running) (was is : Log) (result : Result Reply E) → os ≡ ops → n ≡ count → x ≡ r
    → OnErr result (LosesLine os texts design keys n before after x new was is)
    → OnErr result (LosesLine ops texts design keys count before after r new was is)
loses_alike os ops texts design keys n count before after x r new was is result one many same lost =
    subst (λ (a : Ops). OnErr result (LosesLine a texts design keys count before after r new was is)) one
    (subst (λ (m : ℕ). OnErr result (LosesLine os texts design keys m before after r new was is)) many
    (subst (λ (y : Running). OnErr result (LosesLine os texts design keys n before after y new was is)) same lost))

-- ---- its line

pub says_so : {E : Type 0} (ops : Ops) (texts : Texts) (design : Design) (keys : List KeyData) (built kept from : ℕ) (old new : Running)
    (was is : Log) (result : Result Reply E) → GoesOn ops texts design keys from old new was is
    → IfOk result (Accepts (edit_text new.version.value.number built kept from))
    → IfOk result (SaysSo ops texts design keys built kept old new was is)
says_so ops texts design keys built kept from old new was is (Ok reply) goes accepts = record {
  from = from;
  goes = goes;
  accepts = subst (λ (v : ℕ). Accepts (edit_text v built kept from) reply) goes.next accepts;
}
says_so ops texts design keys built kept from old new was is (Err error) goes accepts = tt

pub loses_its_line : {E : Type 0} (ops : Ops) (texts : Texts) (design : Design) (keys : List KeyData) (held : ℕ) (earlier after : List Entry)
    (from : ℕ) (old new : Running) (was is : Log) (result : Result Reply E) → after ≡ earlier → GoesOn ops texts design keys from old new was is
    → OnErr result (LosesLine ops texts design keys held earlier after old new was is)
loses_its_line ops texts design keys held earlier after from old new was is (Ok reply) same goes = tt
loses_its_line ops texts design keys held earlier after from old new was is (Err error) same goes = line_lost from same goes
