-- The book: its state, and what each entry makes of it. `replay` folds `apply` over a history.
use Rattle.std.specs.Prelude.{◌+◌, ◌-◌, List, [], ◌∷◌, ◌++◌, length, Option, Some, None}
use Rattle.machine.specs.Kit.{Kit}
pub use Rattle.machine.specs.Rows.{slice}
pub use Rattle.book_history.specs.declared.segment.Segment.{Segment}
pub use Rattle.book_history.specs.Ticket.{DrawnTicket, drawn}
pub use Rattle.book_history.specs.State.{Book}
pub use Rattle.book_history.specs.Event.{Settings, Event, Opens, Runs, Reloads, Claims, Installs, Releases, Shows, Closes}
pub use Rattle.book_history.specs.Links.{is_open, is_joined, takes, both, free_link}
pub use Rattle.book_history.specs.Marks.{last_cycle, last_state, cycles, lead_past, lead, settled_past, settled_to, all_joined, shown}
pub use Rattle.book_history.specs.Run.{grid, thin, add_mark, extend}
pub use Rattle.book_history.specs.Reload.{simulated, reloaded, chosen}
pub use Rattle.book_history.specs.Claim.{first_link, mark_out, claim_found}
pub use Rattle.book_history.specs.Install.{matches, has_link, is_current, reopen, joined, freed, with_segs, with_used, result_of, install_found}

abbrev pub opened : {D S R O : Type 0} → Kit D S R O → D → Book D S R
opened k m = record { version = 1; machine = m; rows = []; first = k.start m; segs = []; tickets = []; used = [] }

abbrev pub run_by : {D S R O : Type 0} → Kit D S R O → Settings → Book D S R → List R → Book D S R
run_by k st c rows =
    record {
      version = c.version;
      machine = c.machine;
      rows = c.rows ++ rows;
      first = c.first;
      segs = extend k c.machine (c.rows ++ rows) c.segs (length c.rows) (last_state c.first c.segs) (grid st.interval (length c.rows) (length rows));
      tickets = c.tickets;
      used = c.used;
    }

abbrev pub reload_to : {D S R O : Type 0} → Kit D S R O → Settings → Book D S R → D → O → Book D S R
reload_to k st c m ops =
    record {
      version = c.version + 1;
      machine = m;
      rows = c.rows;
      first = k.start m;
      segs = reloaded k c.machine m ops c.rows (length c.rows - st.lookback) 0 (k.start m) c.segs;
      tickets = c.tickets;
      used = c.used;
    }

abbrev pub step : {D S R O : Type 0} → Kit D S R O → Settings → Book D S R → Event D R O → Book D S R
step k st c (Opens v m) = c
step k st c (Runs n rows) = run_by k st c rows
step k st c (Reloads v m ops from) = reload_to k st c m ops
step k st c (Claims n a b by) = claim_found c by (first_link (takes by) 0 c.first c.segs)
step k st c (Installs n j by) = install_found k c n (drawn n c.tickets)
step k st c (Releases n by) = with_used (with_segs c (freed n c.segs)) n
step k st c (Shows s) = c
step k st c Closes = c

-- a book without a version is None
abbrev pub apply : {D S R O : Type 0} → Kit D S R O → Settings → Option (Book D S R) → Event D R O → Option (Book D S R)
apply k st None (Opens v m) = Some (opened k m)
apply k st None (Runs n rows) = None
apply k st None (Reloads v m ops from) = None
apply k st None (Claims n a b by) = None
apply k st None (Installs n j by) = None
apply k st None (Releases n by) = None
apply k st None (Shows s) = None
apply k st None Closes = None
apply k st (Some c) e = Some (step k st c e)

abbrev pub replay_from : {D S R O : Type 0} → Kit D S R O → Settings → Option (Book D S R) → List (Event D R O) → Option (Book D S R)
replay_from k st b [] = b
replay_from k st b (e ∷ es) = replay_from k st (apply k st b e) es

abbrev pub replay : {D S R O : Type 0} → Kit D S R O → Settings → List (Event D R O) → Option (Book D S R)
replay k st h = replay_from k st None h
