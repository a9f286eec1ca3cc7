-- A run of a design that a session keeps, by the code of its refusal.
use Rattle.std.proofs.Common.{◌≡◌, ◌∙◌, ℕ, ◌+◌, ◌-◌, ◌<◌, ◌≤◌, Bool, true, false, cond, ltb, List, [], ◌∷◌, ◌++◌, map, length, replicate, Option, Some, None, Result, refl, sym, ap, ap₂, subst, arith}
use Rattle.std.specs.Prelude.{IfOk}
use Rattle.std.specs.List.{All}
use Rattle.std.proofs.lemmas.Bool.{ltb-true}
use Rattle.std.proofs.lemmas.List.{length-map, length-replicate}
use Rattle.std.proofs.lemmas.List.Elements.{All-replicate}
use Rattle.ls_text.specs.Texts.{HasEachOnce}
use Rattle.machine.specs.Rows.{slice}
use Rattle.book_history.specs.Book.{Runs as RunsEvent, grid as mark_cycles}
use Rattle.book_history.specs.Outline.{Outline, add_marks}
use Rattle.command_read.specs.Asking.{Runs}
use Rattle.module_registry.specs.Entries.{Entry}
use Rattle.stimulus.specs.Records.{limit_of, rows_of}
use Rattle.stimulus.specs.Rows.{names_set, are_same as same_numbers}
use Rattle.cycle_eval.specs.declared.design.Design.{Design}
use Rattle.live_session.specs.Beside.{Stands, settings_by}
use Rattle.live_session.specs.Kept.{IsKept}
use Rattle.live_session.specs.Logs.{InputRow, IsLegal, Log, LogMoment, book_in, marks_of, outline_of}
use Rattle.live_session.specs.Rows.{Row, are_same, row_of}
use Rattle.live_session.specs.Runs.{run_code}
use Rattle.live_session.specs.Sessions.{settings_of, world_of}
use Rattle.live_session.specs.Turns.{Accepts, AnswersIn, Refuses}
use Rattle.live_session.specs.Verdicts.{counted_verdict, ran}
use Rattle.live_session.specs.Worlds.{cycle, refused_at}
use Rattle.wave_report.specs.Replies.{run_text}
use Rattle.live_session.specs.declared.limits.Limits.{Limits}
use Rattle.live_session.specs.declared.reply.Reply.{Reply}
use Rattle.live_session.specs.declared.running.Running.{Running}
use Rattle.live_session.proofs.AscendingRows.{AreWithin}
use Rattle.live_session.proofs.Judged.{entry_done, refuses_in}
use Rattle.live_session.proofs.RunRows.{cycles_behind, judged_by_code, length_run, map_replicate, names_counted, rows_added, rows_named, verdict_by}
use Rattle.live_session.proofs.Standing.{Adds, agrees_in, outline_behind, stands_on}

-- what runs behind a run: these rows are recorded, and one entry is charged
pub record RunsOn (r new : Running) (rows : List InputRow) : Type 0 where
  pub version : new.version.value.number ≡ r.version.value.number
  pub machine : new.version.value.machine.value ≡ r.version.value.machine.value
  pub record_ : rows_of new.record_ ≡ rows_of r.record_ ++ rows
  pub charge : new.charge ≡ r.charge + 1
  pub world : (names : List (List ℕ)) (entries : List Entry) (grid : List ℕ) → world_of names entries grid new
      ≡ (let w = world_of names entries grid r in record w { record_ = map (row_of names) (rows_of new.record_); charge = w.charge + 1 })

module _ (names : List (List ℕ)) (once : HasEachOnce names) (limits : Limits) (r : Running) (kept : IsKept names limits r) (line n : ℕ)
    (some : 1 ≤ n) (few : n ≤ 1000000000) (below : length (rows_of r.record_) + n ≤ limits.cycles)
    (has_room : Bool) (is_room : has_room ≡ ltb r.charge limits.rooms.session) (code : Option ℕ)
    (is : code ≡ run_code (limit_of r.record_) (names_set same_numbers length (rows_of r.record_ ++ replicate n r.row.value)) has_room) where
  pub judged : (interval lookback : ℕ) (entries : List Entry) (grid : List ℕ)
      → counted_verdict (settings_of interval lookback limits) (world_of names entries grid r) line n
      ≡ verdict_by (settings_of interval lookback limits) (world_of names entries grid r) line n code
  judged interval lookback entries grid =
      let st = settings_of interval lookback limits in
      let w = world_of names entries grid r in
      let count : length (map (row_of names) (rows_of r.record_)) ≡ length (rows_of r.record_) = length-map (rows_of r.record_) (row_of names) in
      judged_by_code st w line n some few (omega (arith, below, count)) has_room is_room
      ∙ ap (λ (k : ℕ). verdict_by st w line n (run_code k (names_set are_same length (w.record_ ++ replicate n w.row)) has_room)) (sym kept.stimulus)
      ∙ ap (λ (k : ℕ). verdict_by st w line n (run_code (limit_of r.record_) k has_room))
      (names_counted names once (rows_of r.record_) r.row.value n kept.named.rows kept.named.row r.rows_ascend r.row_ascends)
      ∙ ap (verdict_by st w line n) (sym is)

  pub run_refused : {E : Type 0} (new : Running) (number : ℕ) (answer : Result Reply E) (j : Log) → code ≡ Some number
      → ((entries : List Entry) (grid : List ℕ) → world_of names entries grid new ≡ world_of names entries grid r)
      → IfOk answer (Refuses (refused_at number line [])) → IfOk answer (AnswersIn names limits (Runs line n) r new j j)
  run_refused new number answer j which same says =
      refuses_in names once limits (Runs line n) r new j answer (refused_at number line [])
      (λ (entries : List Entry). judged j.settings.interval j.settings.lookback entries (marks_of j)
      ∙ ap (verdict_by (settings_by limits j) (world_of names entries (marks_of j) r) line n) which)
      same says

  module _ (new : Running) (was is_now : Log) (rows : List InputRow) (none : code ≡ None) (on : RunsOn r new rows)
      (same : rows ≡ replicate n r.row.value)
      (adds : Adds was is_now (RunsEvent n rows ∷ [])) (legal : IsLegal is_now) (stands : Stands limits (Some r) was) where
    many : length rows ≡ n
    many = ap length same ∙ length-replicate n r.row.value

    marked : (entries : List Entry) → marks_of is_now
        ≡ add_marks (marks_of was) (mark_cycles was.settings.interval (cycle (world_of names entries (marks_of was) r)) n)
    marked entries =
        let count : length (outline_of was).rows ≡ cycle (world_of names entries (marks_of was) r) =
        ap length stands.outline.rows ∙ sym (length-map (rows_of r.record_) (row_of names)) in
        ap (λ (o : Outline Design InputRow). o.marks) (outline_behind was is_now (RunsEvent n rows ∷ []) adds legal)
        ∙ ap₂ (λ (a b : ℕ). add_marks (marks_of was) (mark_cycles was.settings.interval a b)) count many

    recorded : map (row_of names) (rows_of new.record_) ≡ map (row_of names) (rows_of r.record_) ++ replicate n (row_of names r.row.value)
    recorded =
        ap (map (row_of names)) (on.record_ ∙ ap (λ (more : List InputRow). rows_of r.record_ ++ more) same)
        ∙ rows_named names (rows_of r.record_) r.row.value n

    goes : (entries : List Entry) → world_of names entries (marks_of is_now) new
        ≡ ran (settings_by limits was) (world_of names entries (marks_of was) r) n
    goes entries =
        let w = world_of names entries (marks_of was) r in
        on.world names entries (marks_of is_now)
        ∙ ap₂ (λ (rs : List Row) (grid : List ℕ). record w { record_ = rs; grid = grid; charge = w.charge + 1 }) recorded (marked entries)

    pub run_accepted : (reply : Reply) → Accepts (run_text (length (rows_of r.record_) + n)) reply
        → AnswersIn names limits (Runs line n) r new was is_now reply
    run_accepted reply says = λ (entries : List Entry).
        let st = settings_by limits was in
        let w = world_of names entries (marks_of was) r in
        let m : LogMoment = record { entry = RunsEvent n rows; book = book_in was } in
        entry_done st (Runs line n) names once w (world_of names entries (marks_of is_now) new) (counted_verdict st w line n) reply true was is_now
        (RunsEvent n rows ∷ []) (RunsEvent n rows ∷ []) adds (λ only. (refl, tt)) refl m refl (ran st w n)
        (judged was.settings.interval was.settings.lookback entries (marks_of was) ∙ ap (verdict_by st w line n) none)
        (goes entries) (
          rows,
          record {
            are = ap (map (row_of names)) same ∙ map_replicate (row_of names) n r.row.value;
            within = subst (All (AreWithin (length names))) (sym same) (All-replicate (AreWithin (length names)) n r.row.value kept.named.row);
          },
          refl,
        ) refl
        (agrees_in names once limits r kept was entries stands)
        (λ (rest : List LogMoment). ap (λ (text : List ℕ). Some (text, rest))
        (ap run_text (cycles_behind names (rows_of r.record_) r.row.value n) ∙ sym says.text))
        says.refusal

    pub run_stands : Stands limits (Some new) is_now
    run_stands =
        stands_on was is_now (RunsEvent n rows ∷ []) adds limits r new legal stands
        (record {
          version = stands.outline.version ∙ sym on.version;
          machine = stands.outline.machine ∙ ap (λ (d : Design). Some d) (sym on.machine);
          rows = ap (λ (rs : List InputRow). rs ++ rows) stands.outline.rows ∙ sym on.record_;
        })
        stands.still_open (omega (arith, stands.charged, on.charge))

-- no code
pub no_code : (o : Option ℕ) → ((x : ℕ) → o ≡ Some x → ⊥) → o ≡ None
no_code None not = refl
no_code (Some x) not = absurd (not x refl)

-- then there is room for one entry more
pub room_there : (limit names charge room : ℕ) (code : Option ℕ) → code ≡ run_code limit names (ltb charge room) → code ≡ None → charge + 1 ≤ room
room_there limit names charge room code is none =
    let there : ltb charge room ≡ true = by (ltb limit names) (ltb charge room) (sym is ∙ none) in
    let below : charge < room = ltb-true charge room there in
    omega (arith, below)
  where
    by : (over there : Bool) → cond {A = Option ℕ} over (Some 69) (cond {A = Option ℕ} there None (Some 68)) ≡ None → there ≡ true
    by true there e = cc
    by false true e = refl
    by false false e = cc

-- the entry of a run over the rows that were added to a record
pub ran_on : (was is : Log) (rows : List InputRow) (row : InputRow) (n from : ℕ) (recorded : List InputRow) → from ≡ length rows
    → recorded ≡ rows ++ replicate n row → is.settings ≡ was.settings
    → is.events ≡ was.events ++ RunsEvent (length recorded - from) (slice recorded from (length recorded)) ∷ []
    → Adds was is (RunsEvent n (replicate n row) ∷ [])
ran_on was is rows row n from recorded begins all settings events =
    let many : length recorded - from ≡ n = omega (arith, begins, ap length all, length_run rows row n) in
    let these : slice recorded from (length recorded) ≡ replicate n row =
    ap₂ (λ (xs : List InputRow) (a : ℕ). slice xs a (length xs)) all begins ∙ rows_added rows row n in
    record {
      settings = settings;
      events = events ∙ ap₂ (λ (k : ℕ) (xs : List InputRow). was.events ++ RunsEvent k xs ∷ []) many these;
    }
