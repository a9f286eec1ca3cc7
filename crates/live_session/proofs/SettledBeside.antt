-- A session beside its pass behind a settle that was charged before.
use Rattle.std.proofs.Common.{◌≡◌, ◌∙◌, ℕ, ◌+◌, ◌*◌, ◌≤◌, ◌<◌, min, true, List, length, Option, Some, None, refl, sym, ap, subst, true≢false, arith}
use Rattle.std.specs.Prelude.{is_some}
use Rattle.book_history.specs.Outline.{Outline, outline_from}
use Rattle.book_history.specs.Owned.{owned}
use Rattle.book_history.specs.Readers.{links_in}
use Rattle.book_history.specs.Rooms.{Counts, count_all}
use Rattle.book_history.proofs.Outlines.{owned_counts, owned_outline}
use Rattle.segment_verify.proofs.Counting.{settle_counts, settle_outline, unfinished_counts, unfinished_long, unfinished_outline}
use Rattle.segment_verify.specs.Passes.{IsSettle, IsUnfinished}
use Rattle.checkpoint_book.specs.Views.{IsOpened, counts_of}
use Rattle.cycle_eval.specs.declared.design.Design.{Design}
use Rattle.module_registry.specs.Entries.{Entry}
use Rattle.live_session.specs.Beside.{RunsIn, Stands, charge_of}
use Rattle.live_session.specs.Logs.{InputRow, IsLegal, Log, LogEvent, book_in, outline_of}
use Rattle.live_session.specs.Sessions.{running_world}
use Rattle.live_session.specs.declared.limits.Limits.{Limits}
use Rattle.live_session.specs.declared.running.Running.{Running}
use Rattle.live_session.proofs.ShownTables.{opened_there}
use Rattle.live_session.proofs.Standing.{Adds, stands_on}

-- the book of what runs has a version
pub opened_by : (limits : Limits) (o : Option Running) (j : Log) → is_some o ≡ true → Stands limits o j → IsOpened (book_in j)
opened_by limits None j some stands = absurd (true≢false (sym some))
opened_by limits (Some r) j some stands = opened_there r (book_in j) stands.outline

both_least : (n a b : ℕ) → n ≤ a → n ≤ b → n ≤ min a b
both_least n a b one other = omega (arith, one, other)

-- these entries came, and the session's own among them
module _ (limits : Limits) (was is : Log) (legal : IsLegal is) (zs own : List LogEvent) (adds : Adds was is zs) (own_are : owned zs ≡ own) where
  module _ (n : ℕ) (counts : (c : Counts) → count_all c own ≡ record c { session = c.session + n })
      (leaves : (o : Outline Design InputRow) → outline_from was.settings o own ≡ o) where
    same_outline : outline_from was.settings (outline_of was) zs ≡ outline_of was
    same_outline = owned_outline was.settings (outline_of was) zs ∙ ap (outline_from was.settings (outline_of was)) own_are ∙ leaves (outline_of was)

    own_counts : (c : Counts) → ((count_all c zs).session ≡ c.session + n) × ((count_all c zs).closed ≡ c.closed)
    own_counts c =
        let both = owned_counts c c zs refl refl in
        let here : count_all c (owned zs) ≡ record c { session = c.session + n } = ap (count_all c) own_are ∙ counts c in
        (both.0 ∙ ap (λ (k : Counts). k.session) here, both.1 ∙ ap (λ (k : Counts). k.closed) here)

    stands_running : (r : Running) → Stands limits (Some r) was → (counts_of was).session + n ≤ r.charge → Stands limits (Some r) is
    stands_running r stands charged =
        let c = own_counts (counts_of was) in
        stands_on was is zs adds limits r r legal stands (subst (RunsIn r) (sym same_outline) stands.outline)
        (c.1 ∙ stands.still_open) (omega (arith, c.0, charged))

    stands_after : (o : Option Running) → is_some o ≡ true → Stands limits o was → (counts_of was).session + n ≤ charge_of o → Stands limits o is
    stands_after None some stands charged = absurd (true≢false (sym some))
    stands_after (Some r) some stands charged = stands_running r stands charged

  module _ (n links : ℕ) (links_are : links ≡ links_in (book_in was)) (o : Option Running) (some : is_some o ≡ true) (stands : Stands limits o was)
      (charged : (counts_of was).session + (2 * min n links + 1) ≤ charge_of o) where
    -- all were made, or memory ran out
    pub settled_stands : (s : IsSettle n links own) → s.count ≤ links → Stands limits o is
    settled_stands s within =
        let least : s.count ≤ min n links = both_least s.count n links s.few within in
        stands_after (2 * s.count + 1) (λ (c : Counts). settle_counts c n links own s) (λ (x : Outline Design InputRow). settle_outline was.settings x n links own s)
        o some stands (omega (arith, charged, least))

    pub tried_stands : (u : IsUnfinished own) → u.count < min n links → Stands limits o is
    tried_stands u few =
        stands_after (length own) (λ (c : Counts). unfinished_counts c own u) (λ (x : Outline Design InputRow). unfinished_outline was.settings x own u)
        o some stands (omega (arith, charged, few, unfinished_long own u))

-- what the world of a session says of what runs
module _ (names : List (List ℕ)) (entries : List Entry) (grid : List ℕ) where
  pub runs_by : (o : Option Running) → is_some (running_world names entries grid o).design ≡ true → is_some o ≡ true
  runs_by None opened = opened
  runs_by (Some r) opened = refl

  pub charged_by : (o : Option Running) → (running_world names entries grid o).charge ≡ charge_of o
  charged_by None = refl
  charged_by (Some r) = refl
