-- What a history's fields are to one who reads them.
use Rattle.std.proofs.Common.{◌≡◌, ℕ, List, length, map, sym, ◌∙◌, ap, subst, arith}
use Rattle.machine.specs.Kit.{Kit}
use Rattle.machine.specs.declared.row_run.RowRun.{RowRun}
use Rattle.machine.specs.Rows.{expanded, IsGapless}
use Rattle.machine.proofs.Runs.{end_is}
use Rattle.book_history.specs.declared.entry.Entry.{Entry}
use Rattle.book_history.specs.declared.load.Load.{Load}
use Rattle.book_history.specs.declared.written.Written.{Written}
use Rattle.book_history.specs.Entries.{entry_of}
use Rattle.book_history.specs.Journal.{Journal}
use Rattle.book_history.specs.Law.{record_of}
use Rattle.book_history.specs.Weave.{weave, AreHeld}
use Rattle.book_history.specs.Written.{journal_of, IsWritten}
use Rattle.book_history.proofs.Weaves.{entries-weave}
use Rattle.book_history.proofs.Writings.{record_kept}

module _ {D S R O : Type 0} (k : Kit D S R O) (valid : D → D → O → Type 0) where
  pub entries_kept : (w : Written D R O) (j : Journal D R O) → journal_of w ≡ j → IsWritten k valid w → map entry_of j.events ≡ w.entries.items
  entries_kept w j shown kept =
      ap (λ (x : Journal D R O). map entry_of x.events) (sym shown) ∙ entries-weave w.entries.items w.loads.items (expanded w.runs.items) kept.held

  -- the loads are just those of the entries
  pub held_kept : (w : Written D R O) (j : Journal D R O) (loads : List (Load D O)) → journal_of w ≡ j → IsWritten k valid w → loads ≡ w.loads.items
      → AreHeld (map entry_of j.events) loads (record_of j.events)
  held_kept w j loads shown kept same =
      let here : AreHeld w.entries.items loads (expanded w.runs.items) =
      subst (λ (ls : List (Load D O)). AreHeld w.entries.items ls (expanded w.runs.items)) (sym same) kept.held in
      let with_rows : AreHeld w.entries.items loads (record_of j.events) =
      subst (λ (rs : List R). AreHeld w.entries.items loads rs) (record_kept k valid w j shown kept) here in
      subst (λ (es : List Entry). AreHeld es loads (record_of j.events)) (sym (entries_kept w j shown kept)) with_rows

  -- entries, loads and rows make the history
  pub woven_kept : (w : Written D R O) (j : Journal D R O) (loads : List (Load D O)) → journal_of w ≡ j → IsWritten k valid w → loads ≡ w.loads.items
      → j.events ≡ weave (map entry_of j.events) loads (record_of j.events)
  woven_kept w j loads shown kept same =
      ap (λ (x : Journal D R O). x.events) (sym shown)
      ∙ ap (λ (rs : List R). weave w.entries.items w.loads.items rs) (record_kept k valid w j shown kept)
      ∙ ap (λ (ls : List (Load D O)). weave w.entries.items ls (record_of j.events)) (sym same)
      ∙ ap (λ (es : List Entry). weave es loads (record_of j.events)) (sym (entries_kept w j shown kept))

  pub cycle_kept : (w : Written D R O) (j : Journal D R O) → journal_of w ≡ j → IsWritten k valid w → w.cycle ≡ length (record_of j.events)
  cycle_kept w j shown kept =
      omega (arith, end_is 0 w.runs.items w.cycle kept.gapless, ap (λ (l : List R). length l) (record_kept k valid w j shown kept))

  -- the runs lead from cycle 0 to the end of the record
  pub gapless_kept : (w : Written D R O) (j : Journal D R O) (runs : List (RowRun R)) → journal_of w ≡ j → IsWritten k valid w → runs ≡ w.runs.items
      → IsGapless 0 runs (length (record_of j.events))
  gapless_kept w j runs shown kept same =
      let here : IsGapless 0 runs w.cycle = subst (λ (rs : List (RowRun R)). IsGapless 0 rs w.cycle) (sym same) kept.gapless in
      subst (λ (n : ℕ). IsGapless 0 runs n) (cycle_kept w j shown kept) here
