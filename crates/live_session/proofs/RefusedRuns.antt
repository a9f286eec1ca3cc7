-- A run that is refused, since it has no cycle, too many, or goes beyond the most cycles.
use Rattle.std.proofs.Common.{◌≡◌, ◌∙◌, ℕ, ◌+◌, ◌<◌, ◌≤◌, ◌||◌, Bool, true, false, cond, ltb, eqb, List, [], ◌++◌, map, length, replicate, Result, Ok, Err, refl, ap, ap₂, arith}
use Rattle.std.specs.Prelude.{IfOk}
use Rattle.std.proofs.lemmas.Bool.{eq-eqb, le-ltb, lt-ltb, ne_eqb}
use Rattle.std.proofs.lemmas.List.{length-map}
use Rattle.ls_text.specs.Texts.{HasEachOnce}
use Rattle.command_read.specs.Asking.{Runs}
use Rattle.module_registry.specs.Entries.{Entry}
use Rattle.stimulus.specs.Records.{rows_of}
use Rattle.stimulus.specs.Rows.{names_set}
use Rattle.live_session.specs.Beside.{settings_by}
use Rattle.live_session.specs.Logs.{Log, marks_of}
use Rattle.live_session.specs.Rows.{are_same, row_of}
use Rattle.live_session.specs.Sessions.{world_of}
use Rattle.live_session.specs.Settings.{Settings}
use Rattle.live_session.specs.Turns.{AnswersIn, Refuses}
use Rattle.live_session.specs.Verdicts.{counted_verdict, ran}
use Rattle.live_session.specs.Worlds.{World, Refused, cycle, refused_at}
use Rattle.live_session.specs.declared.limits.Limits.{Limits}
use Rattle.live_session.specs.declared.reply.Reply.{Reply}
use Rattle.live_session.specs.declared.running.Running.{Running}
use Rattle.live_session.proofs.Judged.{refuses_in}

module _ (st : Settings) (w : World) (line n : ℕ) where
  -- the verdict behind the bound on the cycles of one run, and that behind the bound on all cycles
  abbrev in_names : Result World Refused
  in_names = cond (ltb st.stimulus (names_set are_same length (w.record_ ++ replicate n w.row))) (Err (refused_at 69 line []))
      (cond (ltb st.room (w.charge + 1)) (Err (refused_at 68 line [])) (Ok (ran st w n)))

  abbrev in_cycles : Result World Refused
  in_cycles = cond (ltb st.cycles (cycle w + n)) (Err (refused_at 65 line [])) in_names

  no_cycle : n ≡ 0 → counted_verdict st w line n ≡ Err (refused_at 64 line [])
  no_cycle none = ap (λ (t : Bool). cond (t || ltb 1000000000 n) (Err (refused_at 64 line [])) in_cycles) (eq-eqb n 0 none)

  too_long : 1000000000 < n → counted_verdict st w line n ≡ Err (refused_at 64 line [])
  too_long over =
      ap (λ (t : Bool). cond (eqb n 0 || t) (Err (refused_at 64 line [])) in_cycles) (lt-ltb 1000000000 n over) ∙ by (eqb n 0)
    where
      by : (t : Bool) → cond (t || true) (Err (refused_at 64 line [])) in_cycles ≡ Err (refused_at 64 line [])
      by true = refl
      by false = refl

  too_late : 1 ≤ n → n ≤ 1000000000 → st.cycles < cycle w + n → counted_verdict st w line n ≡ Err (refused_at 65 line [])
  too_late some few over =
      ap₂ (λ (a b : Bool). cond (a || b) (Err (refused_at 64 line [])) in_cycles)
      (ne_eqb n 0 (λ none. absurd (omega (arith, some, none)))) (le-ltb 1000000000 n few)
      ∙ ap (λ (t : Bool). cond t (Err (refused_at 65 line [])) in_names) (lt-ltb st.cycles (cycle w + n) over)

module _ {E : Type 0} (names : List (List ℕ)) (once : HasEachOnce names) (limits : Limits) (r : Running) (j : Log) (line n : ℕ)
    (answer : Result Reply E) where
  refused_with : (code : ℕ) → ((entries : List Entry) → counted_verdict (settings_by limits j) (world_of names entries (marks_of j) r) line n
      ≡ Err (refused_at code line []))
      → IfOk answer (Refuses (refused_at code line [])) → IfOk answer (AnswersIn names limits (Runs line n) r r j j)
  refused_with code is says =
      refuses_in {E = E} names once limits (Runs line n) r r j answer (refused_at code line []) is (λ (entries : List Entry) (grid : List ℕ). refl)
      says

  pub refused_none : n ≡ 0 → IfOk answer (Refuses (refused_at 64 line [])) → IfOk answer (AnswersIn names limits (Runs line n) r r j j)
  refused_none none = refused_with 64 (λ entries. no_cycle (settings_by limits j) (world_of names entries (marks_of j) r) line n none)

  pub refused_long : 1000000000 < n → IfOk answer (Refuses (refused_at 64 line [])) → IfOk answer (AnswersIn names limits (Runs line n) r r j j)
  refused_long over = refused_with 64 (λ entries. too_long (settings_by limits j) (world_of names entries (marks_of j) r) line n over)

  pub refused_late : 1 ≤ n → n ≤ 1000000000 → limits.cycles < length (rows_of r.record_) + n → IfOk answer (Refuses (refused_at 65 line []))
      → IfOk answer (AnswersIn names limits (Runs line n) r r j j)
  refused_late some few over = refused_with 65 (λ entries.
      let count : length (map (row_of names) (rows_of r.record_)) ≡ length (rows_of r.record_) = length-map (rows_of r.record_) (row_of names) in
      too_late (settings_by limits j) (world_of names entries (marks_of j) r) line n some few (omega (arith, over, count)))
