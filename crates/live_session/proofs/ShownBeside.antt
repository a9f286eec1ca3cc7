-- A display and a settle beside a book, by the entries that they add.
use Rattle.std.proofs.Common.{◌≡◌, ◌∙◌, ℕ, ◌+◌, ◌*◌, ◌≤◌, ◌<◌, min, false, List, [], ◌∷◌, length, Option, Some, None, Ok, refl, sym, ap, ap₂, subst, arith, true, Bool}
use Rattle.ls_text.specs.Texts.{HasEachOnce}
use Rattle.book_history.specs.Book.{Book, Settings as BookSettings, Shows as ShowsEvent, apply, replay}
use Rattle.book_history.specs.Outline.{Outline, outline_from, outline_in}
use Rattle.book_history.specs.Readers.{links_in}
use Rattle.book_history.proofs.Places.{replay-append}
use Rattle.book_history.proofs.Outlines.{owned_outline, links_marked}
use Rattle.book_history.specs.Owned.{AllOwned, owned}
use Rattle.segment_verify.specs.Passes.{IsSettle, IsUnfinished}
use Rattle.segment_verify.proofs.Counting.{settle_outline, unfinished_outline}
use Rattle.command_read.specs.Asking.{Settles, Shows}
use Rattle.cycle_eval.specs.declared.design.Design.{Design}
use Rattle.module_registry.specs.Entries.{Entry}
use Rattle.version_swap.specs.Behind.{design_of}
use Rattle.live_session.specs.Beside.{RunsIn, Stands, settings_by}
use Rattle.live_session.specs.CutShort.{IsCutShort}
use Rattle.live_session.specs.Done.{IsDone}
use Rattle.live_session.specs.Kept.{IsKept}
use Rattle.live_session.specs.Logs.{InputRow, IsLegal, Log, LogEvent, LogMoment, State, book_in, kit, marks_of, moments_after, outline_of}
use Rattle.live_session.specs.Scripts.{Agrees}
use Rattle.live_session.specs.Sessions.{world_of}
use Rattle.live_session.specs.Shown.{display_lines, last_values, settle_text}
use Rattle.live_session.specs.Spelled.{Spelled, spelled}
use Rattle.live_session.specs.Turns.{AnswersIn}
use Rattle.live_session.specs.Verdicts.{charged, passes_of, settle_verdict}
use Rattle.live_session.specs.Worlds.{World}
use Rattle.live_session.specs.declared.limits.Limits.{Limits}
use Rattle.live_session.specs.declared.reply.Reply.{Reply}
use Rattle.live_session.specs.declared.running.Running.{Running}
use Rattle.live_session.proofs.ChargedShows.{has_room}
use Rattle.live_session.proofs.Judged.{entry_done}
use Rattle.live_session.proofs.Standing.{Adds, StaysRun, agrees_in, outline_behind, stands_left}

-- the number of passes goes with the entries
pub few_moved : (es fs : List LogEvent) (same : es ≡ fs) (u : IsUnfinished es) (n : ℕ) → u.count < n → (subst IsUnfinished same u).count < n
few_moved es fs same u n few = few

-- a show leaves the book
shows_leave : (st : BookSettings) (answer : Option ℕ) (b : Option (Book Design State InputRow)) → apply kit st b (ShowsEvent answer) ≡ b
shows_leave st answer None = refl
shows_leave st answer (Some c) = refl

pub book_shown : (was is : Log) (answer : Option ℕ) → Adds was is (ShowsEvent answer ∷ []) → book_in is ≡ book_in was
book_shown was is answer adds =
    ap₂ (λ (st : BookSettings) (h : List LogEvent). replay kit st h) adds.settings adds.events
    ∙ replay-append kit was.settings None was.events (ShowsEvent answer ∷ [])
    ∙ shows_leave was.settings answer (book_in was)

-- what runs is charged so much more, and nothing else of it is new
pub record IsCharged (names : List (List ℕ)) (r new : Running) (more : ℕ) : Type 0 where
  pub run : StaysRun r new
  pub charge : new.charge ≡ r.charge + more
  pub world : (entries : List Entry) (grid : List ℕ) → world_of names entries grid new
      ≡ (let w = world_of names entries grid r in record w { charge = w.charge + more })

module _ (names : List (List ℕ)) (once : HasEachOnce names) (limits : Limits) (r new : Running) (kept : IsKept names limits r) (line : ℕ)
    (was is_now : Log) (legal : IsLegal is_now) (stands : Stands limits (Some r) was) where
  abbrev design : Spelled
  design = spelled names (design_of r.version.value.machine.value r.keys)

  -- the world behind entries that leave the outline
  charged_world : (es : List LogEvent) (more : ℕ) → Adds was is_now es → ((o : Outline Design InputRow) → outline_from was.settings o es ≡ o)
      → IsCharged names r new more
      → (entries : List Entry) → world_of names entries (marks_of is_now) new
      ≡ (let w = world_of names entries (marks_of was) r in record w { charge = w.charge + more })
  charged_world es more adds leaves charge entries =
      charge.world entries (marks_of is_now)
      ∙ ap (λ (grid : List ℕ). let w = world_of names entries grid r in record w { charge = w.charge + more })
      (ap (λ (o : Outline Design InputRow). o.marks) (outline_behind was is_now es adds legal ∙ leaves (outline_of was)))

  -- ---- a display

  module _ (prefix : List ℕ) (answer : Option ℕ) (adds : Adds was is_now (ShowsEvent answer ∷ [])) (charge : IsCharged names r new 1)
      (room : r.charge + 1 ≤ limits.rooms.session) where
    pub show_done : (reply : Reply)
        → ((entries : List Entry) (grid : List ℕ)
        → reply.lines ≡ display_lines (world_of names entries grid new) prefix design answer (last_values (book_in is_now)))
        → reply.refused ≡ false → AnswersIn names limits (Shows line prefix) r new was is_now reply
    show_done reply says accepts = λ (entries : List Entry).
        let st = settings_by limits was in
        let w = world_of names entries (marks_of was) r in
        let next : World = record w { charge = w.charge + 1 } in
        let m : LogMoment = record { entry = ShowsEvent answer; book = book_in was } in
        let lines : reply.lines ≡ display_lines next prefix design answer (last_values (book_in was)) =
        says entries (marks_of was)
        ∙ ap₂ (λ (x : World) (b : Option (Book Design State InputRow)). display_lines x prefix design answer (last_values b))
        (charge.world entries (marks_of was)) (book_shown was is_now answer adds) in
        entry_done st (Shows line prefix) names once w (world_of names entries (marks_of is_now) new) (charged st w line 1) reply true was is_now
        (ShowsEvent answer ∷ []) (ShowsEvent answer ∷ []) adds (λ only. (refl, tt)) refl m refl next (has_room st w line 1 room)
        (charged_world (ShowsEvent answer ∷ []) 1 adds (λ (o : Outline Design InputRow). refl) charge entries)
        (answer, refl) refl (agrees_in names once limits r kept was entries stands)
        (λ (rest : List LogMoment). ap (λ (text : List ℕ). Some (text, rest)) (sym lines)) accepts

    pub show_stands : Stands limits (Some new) is_now
    show_stands =
        stands_left limits r new was is_now (ShowsEvent answer ∷ []) 1 adds legal stands charge.run refl refl (omega (arith, charge.charge))

    pub show_runs : RunsIn new (outline_of is_now)
    show_runs = show_stands.outline

  -- ---- a settle

  module _ (passes : Option ℕ) (most : ℕ) (all : (entries : List Entry) → passes_of (world_of names entries (marks_of was) r) passes ≡ most)
      (charge : IsCharged names r new (2 * min most (length (marks_of was)) + 1)) where
    abbrev more : ℕ
    more = 2 * min most (length (marks_of was)) + 1

    accepted_with : r.charge + more ≤ limits.rooms.session → (entries : List Entry)
        → (let w = world_of names entries (marks_of was) r in settle_verdict (settings_by limits was) w line passes w.design)
        ≡ Ok (let w = world_of names entries (marks_of was) r in record w { charge = w.charge + more })
    accepted_with room entries =
        let st = settings_by limits was in
        let w = world_of names entries (marks_of was) r in
        ap (λ (n : ℕ). charged st w line (2 * min n (length w.grid) + 1)) (all entries) ∙ has_room st w line more room

    -- its entries, which stand among those of others
    module _ (alone : Bool) (zs own : List LogEvent) (adds : Adds was is_now zs) (own_are : owned zs ≡ own) (only : alone ≡ true → AllOwned true zs)
        (room : r.charge + more ≤ limits.rooms.session) where
      abbrev links : ℕ
      links = links_in (book_in was)

      many : links ≡ length (marks_of was)
      many = links_marked (book_in was)

      module _ (settle : IsSettle most links own) (book : Option (Book Design State InputRow))
          (moment : moments_after was zs ≡ record { entry = ShowsEvent settle.answer; book = book } ∷ [])
          (same : outline_in book ≡ outline_of was) where
        leaves : (o : Outline Design InputRow) → outline_from was.settings o zs ≡ o
        leaves o =
            owned_outline was.settings o zs ∙ ap (outline_from was.settings o) own_are ∙ settle_outline was.settings o most links own settle

        settles : (entries : List Entry) → IsSettle (passes_of (world_of names entries (marks_of was) r) passes) (length (marks_of was)) own
        settles entries =
            subst (λ (n : ℕ). IsSettle n (length (marks_of was)) own) (sym (all entries))
            (subst (λ (n : ℕ). IsSettle most n own) many settle)

        pub settle_done : (reply : Reply)
            → ((entries : List Entry) (grid : List ℕ) → reply.lines ≡ settle_text (world_of names entries grid new) settle.answer)
            → reply.refused ≡ false → (entries : List Entry)
            → (let w = world_of names entries (marks_of was) r in
            IsDone alone (settings_by limits was) (Ok (Settles line passes)) w (world_of names entries (marks_of is_now) new)
            (settle_verdict (settings_by limits was) w line passes w.design) was is_now reply.lines reply.refused)
        settle_done reply says accepts entries =
            let st = settings_by limits was in
            let w = world_of names entries (marks_of was) r in
            let next : World = record w { charge = w.charge + more } in
            let m : LogMoment = record { entry = ShowsEvent settle.answer; book = book } in
            let lines : reply.lines ≡ settle_text next settle.answer =
            says entries (marks_of was) ∙ ap (λ (x : World). settle_text x settle.answer) (charge.world entries (marks_of was)) in
            entry_done st (Settles line passes) names once w (world_of names entries (marks_of is_now) new)
            (settle_verdict st w line passes w.design) reply alone was is_now
            zs own adds only own_are m moment next (accepted_with room entries)
            (charged_world zs more adds leaves charge entries) (settles entries) refl
            (subst (Agrees names w) (sym same) (agrees_in names once limits r kept was entries stands))
            (λ (rest : List LogMoment). ap (λ (text : List ℕ). Some (text, rest)) (sym lines)) accepts

      -- and of one that memory ran out for
      module _ (unfinished : IsUnfinished own) (few : unfinished.count < min most links) where
        pub settle_short : (entries : List Entry)
            → IsCutShort alone (settings_by limits was) (Settles line passes) (world_of names entries (marks_of was) r)
            (world_of names entries (marks_of is_now) new) was is_now
        settle_short entries =
            let leaves : (o : Outline Design InputRow) → outline_from was.settings o zs ≡ o =
            λ (o : Outline Design InputRow).
            owned_outline was.settings o zs ∙ ap (outline_from was.settings o) own_are ∙ unfinished_outline was.settings o own unfinished in
            record {
              line = line;
              passes = passes;
              added = zs;
              settles = refl;
              settings = adds.settings;
              events = adds.events;
              unfinished = subst IsUnfinished (sym own_are) unfinished;
              all_own = only;
              few = few_moved own (owned zs) (sym own_are) unfinished (min (passes_of (world_of names entries (marks_of was) r) passes)
                  (length (marks_of was))) (subst (λ (n : ℕ). unfinished.count < n) (ap₂ min (sym (all entries)) many) few);
              accepted = accepted_with room entries ∙ ap Ok (sym (charged_world zs more adds leaves charge entries));
            }
