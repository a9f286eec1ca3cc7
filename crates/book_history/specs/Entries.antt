-- Entries without what belongs to them.
use Rattle.std.specs.Prelude.{◌≡◌, false}
use Rattle.book_history.specs.declared.entry.Entry.{Entry}
use Rattle.book_history.specs.declared.entry.Entry.TheVariants.{Open, Run, Reload, Claim, Install, Release, Show, Close}
use Rattle.book_history.specs.Book.{Event, Opens, Runs, Reloads, Claims, Installs, Releases, Shows, Closes}
use Rattle.book_history.specs.Weave.{needs, cycles_of}

abbrev pub entry_of : {D R O : Type 0} → Event D R O → Entry
entry_of (Opens v m) = Open v
entry_of (Runs n rows) = Run n
entry_of (Reloads v m ops from) = Reload v from
entry_of (Claims n a b by) = Claim n a b by
entry_of (Installs n j by) = Install n j by
entry_of (Releases n by) = Release n by
entry_of (Shows s) = Show s
entry_of Closes = Close

-- neither a version nor rows belong to the entry
pub record IsBare (e : Entry) : Type 0 where
  pub no_load : needs e ≡ false
  pub no_cycle : cycles_of e ≡ 0
