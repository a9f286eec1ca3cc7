-- A session beside its book where entries come: what stands behind them.
use Rattle.std.proofs.Common.{◌≡◌, ◌∙◌, ℕ, ◌+◌, ◌≤◌, Bool, true, false, cond, List, [], ◌∷◌, ◌++◌, map, drop, length, refl, sym, ap, ap₂, subst, arith, append-nil}
use Rattle.std.specs.Prelude.{Some}
use Rattle.std.specs.List.{All}
use Rattle.ls_text.specs.Texts.{HasEachOnce}
use Rattle.book_history.specs.Book.{Settings as BookSettings, replay}
use Rattle.book_history.specs.Legal.{Legal}
use Rattle.book_history.specs.Outline.{Outline, outline_from, outline_in}
use Rattle.book_history.specs.Owned.{AllOwned, is_owned, owned}
use Rattle.book_history.specs.Rooms.{Counts, count_all, no_entry}
use Rattle.book_history.proofs.Outlines.{outline_more}
use Rattle.segment_verify.specs.Counted.{with_more}
use Rattle.book_history.proofs.Prefixes.{count-append}
use Rattle.cycle_eval.specs.declared.design.Design.{Design}
use Rattle.module_registry.specs.Entries.{Entry}
use Rattle.stimulus.specs.Records.{rows_of}
use Rattle.version_swap.specs.Behind.{design_of}
use Rattle.live_session.specs.Beside.{RunsIn, Stands}
use Rattle.live_session.specs.Kept.{IsKept}
use Rattle.live_session.specs.Logs.{InputRow, IsLegal, Log, LogEvent, kit, marks_of, outline_of, valid}
use Rattle.live_session.specs.Rows.{row_of}
use Rattle.live_session.specs.Scripts.{Agrees, IsCurrent}
use Rattle.live_session.specs.Sessions.{world_of}
use Rattle.live_session.specs.Spelled.{spelled}
use Rattle.live_session.specs.declared.limits.Limits.{Limits}
use Rattle.live_session.specs.declared.running.Running.{Running}
use Rattle.live_session.proofs.AscendingRows.{AreWithin}
use Rattle.live_session.proofs.DesignNames.{runs_within}

-- ---- entries of the session alone

owned_short : (es : List LogEvent) → length (owned es) ≤ length es
owned_short [] = omega arith
owned_short (e ∷ es) =
    by (is_owned e) (owned_short es)
  where
    by : (own : Bool) → length (owned es) ≤ length es → length (cond own (e ∷ owned es) (owned es)) ≤ length (e ∷ es)
    by true short = omega (arith, short)
    by false short = omega (arith, short)

pub are_owned : (es : List LogEvent) → owned es ≡ es → AllOwned true es
are_owned [] same = tt
are_owned (e ∷ es) same =
    by (is_owned e) refl same (owned_short es) (are_owned es)
  where
    by : (own : Bool) → is_owned e ≡ own → cond own (e ∷ owned es) (owned es) ≡ e ∷ es → length (owned es) ≤ length es
        → (owned es ≡ es → AllOwned true es) → (is_owned e ≡ true) × AllOwned true es
    by true is same short more = (is, more (ap (drop 1) same))
    by false is same short more = absurd (omega (arith, ap length same, short))

-- ---- what stands behind entries

-- a history that goes on with these entries
pub record Adds (was is : Log) (es : List LogEvent) : Type 0 where
  pub settings : is.settings ≡ was.settings
  pub events : is.events ≡ was.events ++ es

module _ (was is : Log) (es : List LogEvent) (adds : Adds was is es) where
  pub legal_behind : IsLegal is → Legal kit valid was.settings (was.events ++ es)
  legal_behind legal =
      subst (λ (h : List LogEvent). Legal kit valid was.settings h) adds.events
      (subst (λ (st : BookSettings). Legal kit valid st is.events) adds.settings legal)

  pub outline_behind : IsLegal is → outline_of is ≡ outline_from was.settings (outline_of was) es
  outline_behind legal =
      ap₂ (λ (st : BookSettings) (h : List LogEvent). outline_in (replay kit st h)) adds.settings adds.events
      ∙ outline_more kit valid was.settings was.events es (legal_behind legal)

  counts_behind : count_all no_entry is.events ≡ count_all (count_all no_entry was.events) es
  counts_behind = ap (count_all no_entry) adds.events ∙ count-append no_entry was.events es

  -- what runs stands beside the book behind them
  pub stands_on : (limits : Limits) (old new : Running) → IsLegal is → Stands limits (Some old) was
      → RunsIn new (outline_from was.settings (outline_of was) es)
      → (count_all (count_all no_entry was.events) es).closed ≡ false
      → (count_all (count_all no_entry was.events) es).session ≤ new.charge → Stands limits (Some new) is
  stands_on limits old new legal stands runs closed charged = record {
    outline = subst (RunsIn new) (sym (outline_behind legal)) runs;
    still_open = ap (λ (n : Counts). n.closed) counts_behind ∙ closed;
    charged = subst (λ (n : Counts). n.session ≤ new.charge) (sym counts_behind) charged;
    rooms = ap (λ (st : BookSettings). st.rooms) adds.settings ∙ stands.rooms;
  }

-- no entry leaves it where version, record and charge stay
pub adds_nothing : (j : Log) → Adds j j []
adds_nothing j = record { settings = refl; events = sym (append-nil j.events) }

pub stands_still : (limits : Limits) (old new : Running) (j : Log) → RunsIn new (outline_of j) → old.charge ≤ new.charge → Stands limits (Some old) j
    → Stands limits (Some new) j
stands_still limits old new j runs charge stands = record {
  outline = runs;
  still_open = stands.still_open;
  charged = omega (arith, stands.charged, charge);
  rooms = stands.rooms;
}

-- the book is as the world of what runs
pub agrees_in : (names : List (List ℕ)) → HasEachOnce names → (limits : Limits) (r : Running) → IsKept names limits r
    → (j : Log) (entries : List Entry)
    → Stands limits (Some r) j → Agrees names (world_of names entries (marks_of j) r) (outline_of j)
agrees_in names once limits r kept j entries stands = record {
  version = stands.outline.version;
  machine =
      subst (IsCurrent names (Some (spelled names (design_of r.version.value.machine.value r.keys)))) (sym stands.outline.machine)
      (record { keys = r.keys; is = refl; within = runs_within names once r kept.plans });
  rows = record {
    are = ap (map (row_of names)) stands.outline.rows;
    within = subst (All (AreWithin (length names))) (sym stands.outline.rows) kept.named.rows;
  };
  marks = refl;
}

pub adds_none : (was is : Log) → is.settings ≡ was.settings → is.events ≡ was.events → Adds was is []
adds_none was is settings events = record { settings = settings; events = events ∙ sym (append-nil was.events) }

-- what runs is the same
pub record StaysRun (old new : Running) : Type 0 where
  pub version : new.version.value.number ≡ old.version.value.number
  pub machine : new.version.value.machine.value ≡ old.version.value.machine.value
  pub rows : rows_of new.record_ ≡ rows_of old.record_

pub runs_still : (old new : Running) (o : Outline Design InputRow) → StaysRun old new → RunsIn old o → RunsIn new o
runs_still old new o stays runs = record {
  version = runs.version ∙ sym stays.version;
  machine = runs.machine ∙ ap (λ (d : Design). Some d) (sym stays.machine);
  rows = runs.rows ∙ sym stays.rows;
}

-- it stands beside the book behind entries that leave the outline, where these are no more than what was charged
pub stands_left : (limits : Limits) (old new : Running) (was is : Log) (es : List LogEvent) (n : ℕ) → Adds was is es → IsLegal is
    → Stands limits (Some old) was → StaysRun old new → outline_from was.settings (outline_of was) es ≡ outline_of was
    → count_all (count_all no_entry was.events) es ≡ with_more (count_all no_entry was.events) n → old.charge + n ≤ new.charge
    → Stands limits (Some new) is
stands_left limits old new was is es n adds legal stands stays left counts charged =
    let so_many = ap (λ (c : Counts). c.session) counts in
    stands_on was is es adds limits old new legal stands
    (subst (RunsIn new) (sym left) (runs_still old new (outline_of was) stays stands.outline))
    (ap (λ (c : Counts). c.closed) counts ∙ stands.still_open) (omega (arith, so_many, stands.charged, charged))

-- or beside a book with the same entries
pub stands_back : (limits : Limits) (old new : Running) (was is : Log) → is.settings ≡ was.settings → is.events ≡ was.events → StaysRun old new
    → old.charge ≤ new.charge → Stands limits (Some old) was → Stands limits (Some new) is
stands_back limits old new was is settings events stays charge stands =
    let same : outline_of is ≡ outline_of was =
    ap₂ (λ (st : BookSettings) (h : List LogEvent). outline_in (replay kit st h)) settings events in
    let so_many = ap (λ (h : List LogEvent). (count_all no_entry h).session) events in
    record {
      outline = subst (RunsIn new) (sym same) (runs_still old new (outline_of was) stays stands.outline);
      still_open = ap (λ (h : List LogEvent). (count_all no_entry h).closed) events ∙ stands.still_open;
      charged = omega (arith, so_many, stands.charged, charge);
      rooms = ap (λ (st : BookSettings). st.rooms) settings ∙ stands.rooms;
    }
