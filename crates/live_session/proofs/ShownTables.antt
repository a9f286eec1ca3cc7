-- A display of a design beside its book: where it is settled its registers are the true ones, else those of the last mark.
use Rattle.std.proofs.Common.{◌≡◌, ◌∙◌, ℕ, Bool, true, false, cond, List, ◌++◌, length, Option, Some, None, refl, sym, ap, ap₂, subst}
use Rattle.std.proofs.lemmas.List.{length-map}
use Rattle.std.proofs.lemmas.Option.{none-some, same_Some}
use Rattle.ls_text.specs.Texts.{HasEachOnce}
use Rattle.book_history.specs.Book.{Book, all_joined, last_state, settled_to, shown}
use Rattle.book_history.specs.declared.segment.Segment.{Segment}
use Rattle.book_history.specs.Outline.{outline_in}
use Rattle.book_history.specs.Truth.{SettledIsTruth}
use Rattle.checkpoint_book.specs.Views.{FitsMachine, IsLast, IsOpened, cycle_in, shown_in, work_in}
use Rattle.module_registry.specs.Entries.{Entry}
use Rattle.stimulus.specs.Records.{rows_of}
use Rattle.typed_ir.specs.Cycles.{Flat, truth}
use Rattle.cycle_eval.specs.declared.design.Design.{Design}
use Rattle.cycle_eval.specs.DesignLaws.{run_values}
use Rattle.cycle_eval.specs.Designs.{design_flat, work_of}
use Rattle.cycle_eval.specs.Inputs.{values_at}
use Rattle.cycle_eval.specs.Kits.{Fits, driven, reset_of, run_of}
use Rattle.reg_transform.specs.States.{state_values}
use Rattle.cycle_eval.proofs.RowRuns.{reset_values}
use Rattle.version_swap.specs.Behind.{design_of}
use Rattle.version_swap.specs.Plans.{DesignOfTexts}
use Rattle.wave_report.specs.Tables.{table_text}
use Rattle.live_session.specs.Beside.{RunsIn}
use Rattle.live_session.specs.Kept.{AreNamed, HasPlans}
use Rattle.live_session.specs.Logs.{InputRow, State, kit}
use Rattle.live_session.specs.Rows.{row_of}
use Rattle.live_session.specs.Sessions.{world_of}
use Rattle.live_session.specs.Shown.{display_lines, last_values, show_line, shown_registers}
use Rattle.live_session.specs.Spelled.{spelled}
use Rattle.live_session.specs.Tables.{table_lines, true_registers}
use Rattle.live_session.specs.Worlds.{World, cycle}
use Rattle.live_session.specs.declared.running.Running.{Running}
use Rattle.live_session.proofs.TextTables.{table_spelled, true_spelled}

-- ---- the book of what runs

abbrev pub LogBook : Type 0
LogBook = Book Design State InputRow

module _ (r : Running) where
  pub opened_there : (b : Option LogBook) → RunsIn r (outline_in b) → IsOpened b
  opened_there None runs = absurd (none-some r.version.value.machine.value runs.machine)
  opened_there (Some c) runs = tt

  pub cycle_there : (b : Option LogBook) → RunsIn r (outline_in b) → cycle_in b ≡ length (rows_of r.record_)
  cycle_there None runs = absurd (none-some r.version.value.machine.value runs.machine)
  cycle_there (Some c) runs = ap length runs.rows

  pub work_there : (b : Option LogBook) → RunsIn r (outline_in b) → work_in work_of b ≡ work_of r.version.value.machine.value
  work_there None runs = absurd (none-some r.version.value.machine.value runs.machine)
  work_there (Some c) runs = ap work_of (same_Some c.machine r.version.value.machine.value runs.machine)

  pub fits_there : (b : Option LogBook) (s : State) → RunsIn r (outline_in b) → FitsMachine (λ (m : Design) (x : State). Fits (design_flat m) x) b s
      → Fits (design_flat r.version.value.machine.value) s
  fits_there None s runs fits = absurd fits
  fits_there (Some c) s runs fits =
      subst (λ (m : Design). Fits (design_flat m) s) (same_Some c.machine r.version.value.machine.value runs.machine) fits

-- ---- what it shows

settled_values : (flat : Flat) (rows : List InputRow) → state_values (run_of flat rows (reset_of flat)) ≡ truth flat (values_at flat rows) (length rows)
settled_values flat rows = run_values flat rows (reset_of flat) ∙ ap (driven flat rows) (reset_values flat rows)

joined_where : (segs : List (Segment State)) → None ≡ shown segs → all_joined segs ≡ true
joined_where segs is = by (all_joined segs) is
  where
    by : (b : Bool) → None ≡ cond b None (Some (settled_to 0 segs)) → b ≡ true
    by true e = refl
    by false e = absurd (none-some (settled_to 0 segs) e)

module _ (names : List (List ℕ)) (once : HasEachOnce names) (r : Running) (named : AreNamed (length names) r) (plans : ∥ HasPlans names r ∥₁) where
  abbrev d : DesignOfTexts
  d = design_of r.version.value.machine.value r.keys

  module _ (entries : List Entry) (grid : List ℕ) where
    abbrev w : World
    w = world_of names entries grid r

    counted : length (rows_of r.record_) ≡ cycle w
    counted = sym (length-map (rows_of r.record_) (row_of names))

    true_there : (c : LogBook) → RunsIn r (outline_in (Some c)) → SettledIsTruth kit (Some c) → all_joined c.segs ≡ true
        → state_values (last_state c.first c.segs) ≡ true_registers (spelled names d) w.record_ (cycle w)
    true_there c runs settled joined =
        let rows = rows_of r.record_ in
        let flat = design_flat r.version.value.machine.value in
        let machine = same_Some c.machine r.version.value.machine.value runs.machine in
        ap state_values (settled joined)
        ∙ ap₂ (λ (m : Design) (rs : List InputRow). state_values (run_of (design_flat m) rs (reset_of (design_flat m)))) machine runs.rows
        ∙ settled_values flat rows
        ∙ sym (true_spelled names once r.texts.files r.texts.top r.texts.clock d plans rows (length rows) named.rows)
        ∙ ap (true_registers (spelled names d) w.record_) counted

    current_shown : (b : Option LogBook) (s : State) (answer : Option ℕ) → RunsIn r (outline_in b) → SettledIsTruth kit b → answer ≡ shown_in b
        → IsLast b s → state_values s ≡ shown_registers w (spelled names d) answer (last_values b)
    current_shown None s answer runs settled is last = absurd last
    current_shown (Some c) s None runs settled is last = ap state_values last ∙ true_there c runs settled (joined_where c.segs is)
    current_shown (Some c) s (Some n) runs settled is last = ap state_values last

    -- a display of the state of the last mark
    pub display_shown : (b : Option LogBook) (s : State) (answer : Option ℕ) (prefix head table text : List ℕ) → RunsIn r (outline_in b)
        → SettledIsTruth kit b → answer ≡ shown_in b → IsLast b s → head ≡ show_line w answer
        → table ≡ table_text names d.design (state_values s) prefix → text ≡ head ++ table
        → text ≡ display_lines w prefix (spelled names d) answer (last_values b)
    display_shown b s answer prefix head table text runs settled is last says lines all =
        all
        ∙ ap₂ (λ (x y : List ℕ). x ++ y) says
        (lines ∙ table_spelled names d (state_values s) prefix
        ∙ ap (table_lines (spelled names d) prefix d.design.registers) (current_shown b s answer runs settled is last))
