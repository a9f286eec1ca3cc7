-- A settle by what became of its charge.
use Rattle.std.proofs.Common.{◌≡◌, ◌∙◌, ℕ, ◌+◌, ◌*◌, ◌≤◌, ◌<◌, min, Bool, true, false, List, [], ◌∷◌, length, Option, Some, None, Result, Ok, refl, sym, ap, ap₂, subst, arith}
use Rattle.std.specs.Prelude.{IfOk}
use Rattle.std.specs.Option.{unwrap_or}
use Rattle.ls_text.specs.Texts.{HasEachOnce}
use Rattle.book_history.specs.Book.{Book, Shows as ShowsEvent}
use Rattle.book_history.specs.Outline.{outline_in}
use Rattle.book_history.specs.Owned.{AllOwned, owned}
use Rattle.book_history.specs.Readers.{links_in}
use Rattle.book_history.proofs.Outlines.{links_marked}
use Rattle.segment_verify.specs.Passes.{IsSettle, IsUnfinished}
use Rattle.checkpoint_book.specs.Views.{counts_of}
use Rattle.command_read.specs.Asking.{Settles}
use Rattle.cycle_eval.specs.declared.design.Design.{Design}
use Rattle.module_registry.specs.Entries.{Entry}
use Rattle.stimulus.specs.Records.{rows_of}
use Rattle.wave_report.specs.Replies.{settled_text}
use Rattle.live_session.specs.Beside.{Stands, settings_by}
use Rattle.live_session.specs.Charging.{IsChargedFor, charge_for}
use Rattle.live_session.specs.CutShort.{IsCutShort}
use Rattle.live_session.specs.Done.{IsDone}
use Rattle.live_session.specs.Kept.{IsKept}
use Rattle.live_session.specs.Logs.{InputRow, IsLegal, Log, LogEvent, State, book_in, marks_of, moments_after, outline_of}
use Rattle.live_session.specs.Sessions.{world_of}
use Rattle.live_session.specs.Shown.{settle_text}
use Rattle.live_session.specs.Turns.{Accepts, AnswersIn, Refuses}
use Rattle.live_session.specs.Verdicts.{settle_verdict}
use Rattle.live_session.specs.Worlds.{World, cycle, refused_at}
use Rattle.live_session.specs.declared.limits.Limits.{Limits}
use Rattle.live_session.specs.declared.reply.Reply.{Reply}
use Rattle.live_session.specs.declared.running.Running.{Running}
use Rattle.live_session.proofs.ChargedShows.{no_room}
use Rattle.live_session.proofs.Judged.{refuses_in}
use Rattle.live_session.proofs.ShownBeside.{IsCharged, settle_done, settle_short}
use Rattle.live_session.proofs.Standing.{Adds, StaysRun, runs_still, stands_still}

-- the lines of a settle tell the cycle and the version
settle_lines : (w v : World) (answer : Option ℕ) → cycle w ≡ cycle v → w.version ≡ v.version → settle_text w answer ≡ settle_text v answer
settle_lines w v None cycles versions = ap₂ settled_text cycles versions
settle_lines w v (Some settled_to) cycles versions = refl

module _ (names : List (List ℕ)) (once : HasEachOnce names) (limits : Limits) (r new : Running) (kept : IsKept names limits r) (line : ℕ)
    (passes : Option ℕ) (j : Log) (stands : Stands limits (Some r) j) (links : ℕ) (marked : links ≡ length (marks_of j)) where
  -- the room is too small
  pub settle_refused : {E : Type 0} → new ≡ r → (answer : Result Reply E)
      → limits.rooms.session < r.charge + charge_for links (unwrap_or passes links) → IfOk answer (Refuses (refused_at 68 line []))
      → IfOk answer (AnswersIn names limits (Settles line passes) r new j j)
  settle_refused {E = E} same answer full says =
      let full_there : limits.rooms.session < r.charge + charge_for (length (marks_of j)) (unwrap_or passes (length (marks_of j))) =
      subst (λ (n : ℕ). limits.rooms.session < r.charge + charge_for n (unwrap_or passes n)) marked full in
      subst (λ (x : Running). IfOk answer (AnswersIn names limits (Settles line passes) r x j j)) (sym same)
      (refuses_in {E = E} names once limits (Settles line passes) r r j answer (refused_at 68 line [])
      (λ (entries : List Entry).
      no_room (settings_by limits j) (world_of names entries (marks_of j) r) line
      (charge_for (length (marks_of j)) (unwrap_or passes (length (marks_of j)))) full_there)
      (λ (entries : List Entry) (grid : List ℕ). refl) says)

  -- it was charged
  module _ (most : ℕ) (passes_are : most ≡ unwrap_or passes links) (c : IsChargedFor limits links most r new) where
    abbrev more : ℕ
    more = charge_for (length (marks_of j)) most

    stays : StaysRun r new
    stays = record {
      version = ap (λ (x : Running). x.version.value.number) c.is;
      machine = ap (λ (x : Running). x.version.value.machine.value) c.is;
      rows = ap (λ (x : Running). rows_of x.record_) c.is;
    }

    charged_so : new ≡ record r { charge = r.charge + more }
    charged_so = c.is ∙ ap (λ (n : ℕ). record r { charge = r.charge + charge_for n most }) marked

    charge_is : new.charge ≡ r.charge + more
    charge_is = ap (λ (x : Running). x.charge) charged_so

    charge : IsCharged names r new more
    charge = record {
      run = stays;
      charge = charge_is;
      world = λ (entries : List Entry) (grid : List ℕ). ap (world_of names entries grid) charged_so;
    }

    room : r.charge + more ≤ limits.rooms.session
    room = subst (λ (n : ℕ). n ≤ limits.rooms.session) charge_is c.room

    all : (entries : List Entry) → unwrap_or passes (length (marks_of j)) ≡ most
    all entries = ap (unwrap_or passes) (sym marked) ∙ sym passes_are

    pub charged_stands : Stands limits (Some new) j
    charged_stands = stands_still limits r new j (runs_still r new (outline_of j) stays stands.outline) (omega (arith, charge_is)) stands

    pub charge_covers : (counts_of j).session + (2 * min most (links_in (book_in j)) + 1) ≤ new.charge
    charge_covers =
        subst (λ (n : ℕ). (counts_of j).session + (2 * min most n + 1) ≤ new.charge) (sym (links_marked (book_in j)))
        (omega (arith, stands.charged, charge_is))

    module _ (is_now : Log) (legal : IsLegal is_now) (alone : Bool) (zs own : List LogEvent) (adds : Adds j is_now zs) (own_are : owned zs ≡ own)
        (only : alone ≡ true → AllOwned true zs) where
      abbrev pub IsSettled : List Entry → List ℕ → Bool → Type 0
      IsSettled entries text refused =
          let w = world_of names entries (marks_of j) r in
          IsDone alone (settings_by limits j) (Ok (Settles line passes)) w (world_of names entries (marks_of is_now) new)
          (settle_verdict (settings_by limits j) w line passes w.design) j is_now text refused

      module _ (settle : IsSettle most (links_in (book_in j)) own) (book : Option (Book Design State InputRow))
          (moment : moments_after j zs ≡ record { entry = ShowsEvent settle.answer; book = book } ∷ []) (same : outline_in book ≡ outline_of j) where
        pub settle_answers : (entries es : List Entry) (grid : List ℕ) (reply : Reply)
            → Accepts (settle_text (world_of names es grid new) settle.answer) reply → IsSettled entries reply.lines reply.refused
        settle_answers entries es grid reply says =
            settle_done names once limits r new kept line j is_now legal stands passes most all charge alone zs own adds own_are only room
            settle book moment same reply
            (λ (fs : List Entry) (g : List ℕ).
            says.text ∙ settle_lines (world_of names es grid new) (world_of names fs g new) settle.answer refl refl)
            says.refusal entries

        -- its lines are lost
        pub settle_loses : (entries : List Entry) → IsSettled entries (settle_text (world_of names entries [] new) settle.answer) false
        settle_loses entries =
            settle_answers entries entries []
            (record { lines = settle_text (world_of names entries [] new) settle.answer; refused = false; quit = false })
            (record { text = refl; refusal = refl; goes_on = refl })

      pub settle_cut_short : (u : IsUnfinished own) → u.count < min most (links_in (book_in j)) → (entries : List Entry)
          → IsCutShort alone (settings_by limits j) (Settles line passes) (world_of names entries (marks_of j) r)
          (world_of names entries (marks_of is_now) new) j is_now
      settle_cut_short u few entries =
          settle_short names once limits r new kept line j is_now legal stands passes most all charge alone zs own adds own_are only room u few entries
