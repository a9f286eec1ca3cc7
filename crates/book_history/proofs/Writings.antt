-- A history that is kept with one entry more.
use Rattle.std.proofs.Common.{◌≡◌, ℕ, ◌+◌, ◌<◌, ◌≤◌, List, [], ◌∷◌, ◌++◌, length, drop, refl, sym, ◌∙◌, ap, subst, arith, length-append, append-nil, false}
use Rattle.std.specs.Prelude.{Bool, true, take, Result, Ok, Err, OnOk, is_err}
use Rattle.std.proofs.Math.Seq.{drop-nil, drop-length, take-length}
use Rattle.machine.specs.Kit.{Kit}
use Rattle.machine.specs.declared.row_run.RowRun.{RowRun}
use Rattle.book_history.specs.declared.entry.Entry.TheVariants.{Open, Run, Reload, Claim, Install, Release, Show, Close}
use Rattle.machine.specs.Rows.{expanded, IsGapless}
use Rattle.book_history.specs.declared.entry.Entry.{Entry}
use Rattle.book_history.specs.declared.load.Load.{Load}
use Rattle.book_history.specs.declared.written.Written.{Written}
use Rattle.book_history.specs.Book.{Event, Settings, Runs}
use Rattle.ls_text.specs.declared.no_memory.NoMemory.{NoMemory}
use Rattle.machine.proofs.Runs.{end_is}
use Rattle.book_history.specs.Entries.{IsBare}
use Rattle.book_history.specs.Journal.{Journal}
use Rattle.book_history.specs.Law.{record_of}
use Rattle.book_history.specs.Legal.{Legal}
use Rattle.book_history.specs.Weave.{event_of, needs, cycles_of, rest_after, weave, IsLoadOf, AreHeld}
use Rattle.book_history.specs.Written.{journal_of, IsWritten}
use Rattle.book_history.proofs.Prefixes.{legal_length}
use Rattle.book_history.proofs.Weaves.{weave-snoc, held-snoc, length-weave, record-weave}

pub no_load : (D O : Type 0) (e : Entry) → needs e ≡ false → IsLoadOf {D = D} {O = O} e []
no_load D O (Open v) h = absurd cc
no_load D O (Run n) h = tt
no_load D O (Reload v f) h = absurd cc
no_load D O (Claim n a b by) h = tt
no_load D O (Install n j by) h = tt
no_load D O (Release n by) h = tt
no_load D O (Show s) h = tt
no_load D O Close h = tt

pub nothing : {A : Type 0} (b : Bool) → rest_after {A = A} b [] ≡ []
nothing true = refl
nothing false = refl

module _ {D S R O : Type 0} (k : Kit D S R O) (valid : D → D → O → Type 0) where
  -- the fields after one entry more
  pub record IsMore (w w' : Written D R O) (e : Entry) (more : List (Load D O)) (rows : List R) : Type 0 where
    pub settings : (journal_of w').settings ≡ (journal_of w).settings
    pub entries : w'.entries.items ≡ w.entries.items ++ e ∷ []
    pub loads : w'.loads.items ≡ w.loads.items ++ more
    pub rows_are : expanded w'.runs.items ≡ expanded w.runs.items ++ rows
    pub gapless : IsGapless 0 w'.runs.items w'.cycle
    pub load : IsLoadOf e more
    pub no_other : rest_after (needs e) more ≡ []
    pub cycles : cycles_of e ≤ length rows
    pub whole : drop (cycles_of e) rows ≡ []

  pub more_written : (w w' : Written D R O) (e : Entry) (more : List (Load D O)) (rows : List R) (j : Journal D R O) → journal_of w ≡ j → IsWritten k valid w
      → IsMore w w' e more rows → Legal k valid j.settings (j.events ++ event_of e more rows ∷ [])
      → IsWritten k valid w' × ((journal_of w').events ≡ j.events ++ event_of e more rows ∷ [])
  more_written w w' e more rows j shown old m legal =
      let all : List Entry → List (Load D O) → List R → List (Event D R O) = λ es ls rs. weave es ls rs in
      let woven : (journal_of w').events ≡ (journal_of w).events ++ event_of e more rows ∷ [] =
      ap (λ (es : List Entry). all es w'.loads.items (expanded w'.runs.items)) m.entries
      ∙ ap (λ (ls : List (Load D O)). all (w.entries.items ++ e ∷ []) ls (expanded w'.runs.items)) m.loads
      ∙ ap (λ (rs : List R). all (w.entries.items ++ e ∷ []) (w.loads.items ++ more) rs) m.rows_are
      ∙ weave-snoc w.entries.items w.loads.items more (expanded w.runs.items) rows e old.held in
      let events : (journal_of w').events ≡ j.events ++ event_of e more rows ∷ [] =
      woven ∙ ap (λ (x : Journal D R O). x.events ++ event_of e more rows ∷ []) shown in
      let settings : (journal_of w').settings ≡ j.settings = m.settings ∙ ap (λ (x : Journal D R O). x.settings) shown in
      let snoc = held-snoc w.entries.items w.loads.items more (expanded w.runs.items) rows e old.held m.load m.no_other m.cycles m.whole in
      let held1 : AreHeld w'.entries.items (w.loads.items ++ more) (expanded w.runs.items ++ rows) =
      subst (λ (es : List Entry). AreHeld es (w.loads.items ++ more) (expanded w.runs.items ++ rows)) (sym m.entries) snoc in
      let held2 : AreHeld w'.entries.items w'.loads.items (expanded w.runs.items ++ rows) =
      subst (λ (ls : List (Load D O)). AreHeld w'.entries.items ls (expanded w.runs.items ++ rows)) (sym m.loads) held1 in
      let held3 : AreHeld w'.entries.items w'.loads.items (expanded w'.runs.items) =
      subst (λ (rs : List R). AreHeld w'.entries.items w'.loads.items rs) (sym m.rows_are) held2 in
      let legal1 : Legal k valid (journal_of w').settings (j.events ++ event_of e more rows ∷ []) =
      subst (λ (s : Settings). Legal k valid s (j.events ++ event_of e more rows ∷ [])) (sym settings) legal in
      let legal2 : Legal k valid (journal_of w').settings (journal_of w').events =
      subst (λ (h : List (Event D R O)). Legal k valid (journal_of w').settings h) (sym events) legal1 in
      (record { held = held3; gapless = m.gapless; legal = legal2 }, events)

  pub has_place : (w : Written D R O) (j : Journal D R O) (x : Event D R O) → journal_of w ≡ j → Legal k valid j.settings (j.events ++ x ∷ [])
      → length w.entries.items < w.rooms.session + w.rooms.workers + 1
  has_place w j x shown legal =
      let P : Journal D R O → Type 0 = λ y. Legal k valid y.settings (y.events ++ x ∷ []) in
      let here : P (journal_of w) = subst P (sym shown) legal in
      omega (
        arith,
        legal_length k valid (journal_of w).settings ((journal_of w).events ++ x ∷ []) here,
        length-append (journal_of w).events (x ∷ []),
        length-weave w.entries.items w.loads.items (expanded w.runs.items),
      )

  -- the rows kept are the record
  pub record_kept : (w : Written D R O) (j : Journal D R O) → journal_of w ≡ j → IsWritten k valid w → expanded w.runs.items ≡ record_of j.events
  record_kept w j shown old =
      sym (record-weave w.entries.items w.loads.items (expanded w.runs.items) old.held) ∙ ap (λ (x : Journal D R O). record_of x.events) shown

  pub bare_more : (w w' : Written D R O) (e : Entry) → IsWritten k valid w → IsBare e → (journal_of w').settings ≡ (journal_of w).settings
      → w'.entries.items ≡ w.entries.items ++ e ∷ [] → w'.loads.items ≡ w.loads.items → w'.runs.items ≡ w.runs.items → w'.cycle ≡ w.cycle
      → IsMore w w' e [] []
  bare_more w w' e old bare settings entries loads runs cycle =
      let here : IsGapless 0 w.runs.items w'.cycle = subst (λ (x : ℕ). IsGapless 0 w.runs.items x) (sym cycle) old.gapless in
      record {
        settings = settings;
        entries = entries;
        loads = loads ∙ sym (append-nil w.loads.items);
        rows_are = ap (λ (l : List (RowRun R)). expanded l) runs ∙ sym (append-nil (expanded w.runs.items));
        gapless = subst (λ (l : List (RowRun R)). IsGapless 0 l w'.cycle) (sym runs) here;
        load = no_load D O e bare.no_load;
        no_other = nothing (needs e);
        cycles = omega (arith, bare.no_cycle);
        whole = drop-nil (cycles_of e);
      }

  -- the runs behind the others, and then the two that meet there as one
  pub run_written : (w w' : Written D R O) (mid : List (RowRun R)) (rows : ℕ × List R) (n : ℕ) (r : Result (Unit {0}) NoMemory) (j : Journal D R O) → journal_of w ≡ j → IsWritten k valid w
      → (journal_of w').settings ≡ (journal_of w).settings → w'.entries.items ≡ w.entries.items ++ Run n ∷ [] → w'.loads.items ≡ w.loads.items
      → is_err r ≡ false → OnOk r (expanded mid ≡ expanded w.runs.items ++ rows.1)
      → OnOk r ((a : ℕ) → IsGapless a w.runs.items rows.0 → IsGapless a mid (rows.0 + length rows.1))
      → ((a b : ℕ) → IsGapless a mid b → expanded w'.runs.items ≡ expanded mid) → ((a b : ℕ) → IsGapless a mid b → IsGapless a w'.runs.items b)
      → rows.0 ≡ length (record_of j.events) → w'.cycle ≡ rows.0 + length rows.1 → n ≡ length rows.1
      → Legal k valid j.settings (j.events ++ Runs (length rows.1) rows.1 ∷ [])
      → IsWritten k valid w' × ((journal_of w').events ≡ j.events ++ Runs (length rows.1) rows.1 ∷ [])
  run_written w w' mid rows n (Ok x) j shown old settings entries loads ok grown gapless same kept_gapless next cycle count legal =
      let kept = record_kept w j shown old in
      let start : w.cycle ≡ rows.0 = omega (arith, end_is 0 w.runs.items w.cycle old.gapless, ap (λ (l : List R). length l) kept, next) in
      let begun : IsGapless 0 w.runs.items rows.0 = subst (λ (i : ℕ). IsGapless 0 w.runs.items i) start old.gapless in
      let behind : IsGapless 0 mid (rows.0 + length rows.1) = gapless 0 begun in
      let ends : IsGapless 0 w'.runs.items w'.cycle = subst (λ (i : ℕ). IsGapless 0 w'.runs.items i) (sym cycle) (kept_gapless 0 (rows.0 + length rows.1) behind) in
      let all : take n rows.1 ≡ rows.1 = ap (λ (i : ℕ). take i rows.1) count ∙ take-length rows.1 in
      let event : event_of (Run n) [] rows.1 ≡ Runs (length rows.1) rows.1 = ap (λ (l : List R). Runs n l) all ∙ ap (λ (i : ℕ). Runs i rows.1) count in
      let P : Event D R O → Type 0 = λ e. IsWritten k valid w' × ((journal_of w').events ≡ j.events ++ e ∷ []) in
      let here : Legal k valid j.settings (j.events ++ event_of (Run n) [] rows.1 ∷ []) =
      subst (λ (e : Event D R O). Legal k valid j.settings (j.events ++ e ∷ [])) (sym event) legal in
      let more : IsMore w w' (Run n) [] rows.1 =
      record {
        settings = settings;
        entries = entries;
        loads = loads ∙ sym (append-nil w.loads.items);
        rows_are = same 0 (rows.0 + length rows.1) behind ∙ grown;
        gapless = ends;
        load = tt;
        no_other = refl;
        cycles = omega (arith, count);
        whole = ap (λ (i : ℕ). drop i rows.1) count ∙ drop-length rows.1;
      } in
      subst P event (more_written w w' (Run n) [] rows.1 j shown old more here)
  run_written w w' mid rows n (Err x) j shown old settings entries loads ok grown gapless same kept_gapless next cycle count legal = absurd cc

  -- no rows are added
  pub loaded_written : (w w' : Written D R O) (e : Entry) (load : Load D O) (x : Event D R O) (j : Journal D R O) → journal_of w ≡ j → IsWritten k valid w
      → (journal_of w').settings ≡ (journal_of w).settings → w'.entries.items ≡ w.entries.items ++ e ∷ [] → w'.loads.items ≡ w.loads.items ++ load ∷ []
      → w'.runs.items ≡ w.runs.items → w'.cycle ≡ w.cycle
      → IsLoadOf e (load ∷ []) → needs e ≡ true → cycles_of e ≡ 0 → event_of e (load ∷ []) [] ≡ x
      → Legal k valid j.settings (j.events ++ x ∷ [])
      → IsWritten k valid w' × ((journal_of w').events ≡ j.events ++ x ∷ [])
  loaded_written w w' e load x j shown old settings entries loads runs cycle fits need none event legal =
      let start : IsGapless 0 w.runs.items w'.cycle = subst (λ (i : ℕ). IsGapless 0 w.runs.items i) (sym cycle) old.gapless in
      let P : Event D R O → Type 0 = λ y. IsWritten k valid w' × ((journal_of w').events ≡ j.events ++ y ∷ []) in
      let here : Legal k valid j.settings (j.events ++ event_of e (load ∷ []) [] ∷ []) =
      subst (λ (y : Event D R O). Legal k valid j.settings (j.events ++ y ∷ [])) (sym event) legal in
      let more : IsMore w w' e (load ∷ []) [] =
      record {
        settings = settings;
        entries = entries;
        loads = loads;
        rows_are = ap (λ (l : List (RowRun R)). expanded l) runs ∙ sym (append-nil (expanded w.runs.items));
        gapless = subst (λ (l : List (RowRun R)). IsGapless 0 l w'.cycle) (sym runs) start;
        load = fits;
        no_other = ap (λ (b : Bool). rest_after b (load ∷ [])) need;
        cycles = omega (arith, none);
        whole = drop-nil (cycles_of e);
      } in
      subst P event (more_written w w' e (load ∷ []) [] j shown old more here)
