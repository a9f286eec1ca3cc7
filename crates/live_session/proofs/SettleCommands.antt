-- The command `settle` in turns of the book: what it answers, told of what the pass had seen before it.
use Rattle.std.proofs.Common.{◌≡◌, ◌∙◌, ℕ, ◌≤◌, min, Bool, true, false, List, [], length, Option, Some, Result, Ok, Err, refl, sym, ap, subst}
use Rattle.std.specs.Prelude.{IfOk, OnErr}
use Rattle.std.specs.Option.{unwrap_or}
use Rattle.ls_port.specs.declared.shelf_answer.ShelfAnswer.{ShelfAnswer}
use Rattle.ls_text.specs.Texts.{HasEachOnce}
use Rattle.book_history.specs.Book.{Book}
use Rattle.book_history.specs.Owned.{AllOwned, owned}
use Rattle.book_history.specs.Readers.{links_in}
use Rattle.segment_verify.proofs.Counting.{settle_owned, unfinished_owned}
use Rattle.segment_verify.specs.Passes.{IsSettle}
use Rattle.book_turn.specs.Turns.{HasAdded}
use Rattle.command_read.specs.Asking.{Asked, Settles}
use Rattle.cycle_eval.specs.declared.design.Design.{Design}
use Rattle.module_registry.specs.Views.{entries_of}
use Rattle.turn_settle.specs.Settled.{HasSettledBeside, HasTriedBeside}
use Rattle.live_session.specs.AtTurn.{Sight, StandsAt, log_of}
use Rattle.live_session.specs.Beside.{Stands, settings_by, settings_in, world_in}
use Rattle.live_session.specs.Charging.{IsChargedFor}
use Rattle.live_session.specs.CutShort.{IsCutShort}
use Rattle.live_session.specs.Done.{IsDone, told}
use Rattle.live_session.specs.Judging.{verdict_on}
use Rattle.live_session.specs.Kept.{IsKept}
use Rattle.live_session.specs.Logs.{InputRow, LogEvent, State, book_in, kit, marks_of}
use Rattle.live_session.specs.Sessions.{limits_of, running_world, world, world_of}
use Rattle.live_session.specs.Shown.{settle_text}
use Rattle.live_session.specs.Settings.{Settings}
use Rattle.live_session.specs.Steps.{StepsTo, Stops, cut_short, lost}
use Rattle.live_session.specs.Turns.{Accepts, no_answer}
use Rattle.live_session.specs.Verdicts.{settle_verdict}
use Rattle.live_session.specs.Worlds.{World}
use Rattle.live_session.specs.declared.reply.Reply.{Reply}
use Rattle.live_session.specs.declared.running.Running.{Running}
use Rattle.live_session.specs.declared.session.Session.{Session}
use Rattle.live_session.proofs.Among.{Meets}
use Rattle.live_session.proofs.InTurn.{step_among, stops_among}
use Rattle.live_session.proofs.SessionSteps.{step_by}
use Rattle.live_session.proofs.SettleRoom.{settle_answers, settle_cut_short, settle_loses}
use Rattle.live_session.proofs.SettledAtTurn.{book_is}
use Rattle.live_session.proofs.SharedSettles.{alone_are, events_are, one_moment, owned_of, same_there, settings_same, shown_at}
use Rattle.live_session.proofs.Standing.{Adds, are_owned}

-- a pass that has looked at the book meets what it had seen
pub looked : (s t : Session) (v w : Sight) → HasAdded [] v w → StandsAt s v → StandsAt t w → Meets v (log_of w)
looked s t v w adds before after =
    let own = owned_of s v w [] adds before after.sees in
    record {
      others = adds.begins.0;
      settings = settings_same s t v w [] adds;
      events = events_are s t v w [] adds;
      unowned = own;
      none = λ alone. alone_are s t v w [] adds before after alone;
      legal = after.legal;
      seen_legal = before.legal;
    }

-- v is what the pass had seen before the command, u when it had looked, and w behind the settle; r runs before its charge and x behind it, as in the
-- session behind the command
module _ (old new : Session) (r x : Running) (runs : old.running ≡ Some r)
    (is_new : (grid : List ℕ) → world new grid ≡ world_of old.names (entries_of old.registry) grid x) (limits : limits_of new ≡ limits_of old)
    (once : HasEachOnce old.names) (kept : IsKept old.names old.limits r) (v u w : Sight) (looks : HasAdded [] v u) (at : StandsAt old v)
    (at_u : StandsAt old u) (at_w : StandsAt new w) (line : ℕ) (passes : Option ℕ) (links : ℕ) (marked : links ≡ length (marks_of (log_of u)))
    (stands : Stands old.limits (Some r) (log_of u)) (most : ℕ) (passes_are : most ≡ unwrap_or passes links)
    (c : IsChargedFor old.limits links most r x) where
  abbrev asked : Asked
  asked = Settles line passes

  world_old : world_in old (log_of u) ≡ world_of old.names (entries_of old.registry) (marks_of (log_of u)) r
  world_old = ap (running_world old.names (entries_of old.registry) (marks_of (log_of u))) runs

  meets_u : Meets v (log_of u)
  meets_u = looked old old v u looks at at_u

  only_u : v.alone ≡ true → u.alone ≡ true
  only_u alone = looks.alone ∙ alone

  module _ (es : List LogEvent) (adds : HasAdded es u w) where
    zs_own : owned adds.begins.0 ≡ es
    zs_own = owned_of old u w es adds at_u at_w.sees

    zs_added : Adds (log_of u) (log_of w) adds.begins.0
    zs_added = record { settings = settings_same old new u w es adds; events = events_are old new u w es adds }

    zs_alone : owned es ≡ es → u.alone ≡ true → AllOwned true adds.begins.0
    zs_alone all alone = subst (AllOwned true) (sym (alone_are old new u w es adds at_u at_w alone)) (are_owned es all)

    -- what was done is told of what the pass had seen before
    told_before : (answers : Option (List ShelfAnswer)) (faults : ℕ) (text : List ℕ) (refused : Bool)
        → (let w_old = world_of old.names (entries_of old.registry) (marks_of (log_of u)) r in
        IsDone u.alone (settings_by old.limits (log_of u)) (Ok asked) w_old (world_of old.names (entries_of old.registry) (marks_of (log_of w)) x)
        (settle_verdict (settings_by old.limits (log_of u)) w_old line passes w_old.design) (log_of u) (log_of w) text refused)
        → StepsTo v.alone (Ok asked) answers answers faults faults old new (log_of v) (log_of w) text refused
    told_before answers faults text refused d =
        step_among v (log_of u) (log_of w) meets_u u.alone only_u (Ok asked) answers answers faults faults old new text refused
        (step_by u.alone asked answers faults old new (log_of u) (log_of w) text refused limits refl (λ (st : Settings) (y : World). refl) at_w.stands
        (subst (λ (y : World). IsDone u.alone (settings_in old (log_of u)) (Ok asked) y (world_in new (log_of w))
        (verdict_on (settings_in old (log_of u)) (told (Ok asked) [] no_answer) y) (log_of u) (log_of w) text refused) (sym world_old)
        (subst (λ (z : World). (let y = world_of old.names (entries_of old.registry) (marks_of (log_of u)) r in
        IsDone u.alone (settings_in old (log_of u)) (Ok asked) y z (verdict_on (settings_in old (log_of u)) (told (Ok asked) [] no_answer) y)
        (log_of u) (log_of w) text refused)) (sym (is_new (marks_of (log_of w)))) d)))

  -- the settle ended
  module _ (answer : Option ℕ) (h : HasSettledBeside kit u w most answer) where
    abbrev settle : IsSettle most (links_in (book_in (log_of u))) h.own
    settle = record {
      passes = h.is_settle.passes;
      count = h.is_settle.count;
      answer = h.is_settle.answer;
      split = h.is_settle.split;
      are = h.is_settle.are;
      few = h.is_settle.few;
      stops = h.is_settle.stops;
      all = λ enough.
          h.is_settle.all (subst (λ (b : Option (Book Design State InputRow)). links_in b ≤ most) (sym (book_is old u at_u)) enough);
    }

    answers_so : settle.answer ≡ answer
    answers_so = h.answers

    alone_so : u.alone ≡ true → AllOwned true h.added.begins.0
    alone_so = zs_alone h.own h.added (settle_owned most (links_in (book_in (log_of u))) h.own settle)

    pub settled_steps : {E : Type 0} (result : Result Reply E)
        → IfOk result (λ (reply : Reply). (grid : List ℕ) → Accepts (settle_text (world new grid) answer) reply)
        → IfOk result (λ (reply : Reply). (answers : Option (List ShelfAnswer)) (faults : ℕ)
        → StepsTo v.alone (Ok asked) answers answers faults faults old new (log_of v) (log_of w) reply.lines reply.refused)
    settled_steps (Err e) says = tt
    settled_steps (Ok reply) says = λ (answers : Option (List ShelfAnswer)) (faults : ℕ).
        told_before h.own h.added answers faults reply.lines reply.refused
        (settle_answers old.names once old.limits r x kept line passes (log_of u) stands links marked most passes_are c (log_of w) at_w.legal
        u.alone h.added.begins.0 h.own (zs_added h.own h.added) (zs_own h.own h.added) alone_so settle
        (shown_at old new u w h.own h.added at_u at_w most (links_in (book_in (log_of u))) settle).book
        (one_moment old new u w h.own h.added at_u at_w most (links_in (book_in (log_of u))) settle)
        (same_there old new u w h.own h.added at_u at_w most (links_in (book_in (log_of u))) settle)
        (entries_of old.registry) (entries_of old.registry) [] reply
        (subst (λ (a : Option ℕ). Accepts (settle_text (world_of old.names (entries_of old.registry) [] x) a) reply) (sym answers_so)
        (subst (λ (y : World). Accepts (settle_text y answer) reply) (is_new []) (says []))))

    -- its lines are lost
    pub settled_stops : {E : Type 0} (result : Result Reply E)
        → OnErr result ((answers : Option (List ShelfAnswer)) (faults : ℕ)
        → Stops v.alone (Ok asked) answers answers faults faults old new (log_of v) (log_of w))
    settled_stops (Ok reply) = tt
    settled_stops (Err e) = λ (answers : Option (List ShelfAnswer)) (faults : ℕ).
        lost (settle_text (world_of old.names (entries_of old.registry) [] x) settle.answer) false
        (told_before h.own h.added answers faults (settle_text (world_of old.names (entries_of old.registry) [] x) settle.answer) false
        (settle_loses old.names once old.limits r x kept line passes (log_of u) stands links marked most passes_are c (log_of w) at_w.legal
        u.alone h.added.begins.0 h.own (zs_added h.own h.added) (zs_own h.own h.added) alone_so settle
        (shown_at old new u w h.own h.added at_u at_w most (links_in (book_in (log_of u))) settle).book
        (one_moment old new u w h.own h.added at_u at_w most (links_in (book_in (log_of u))) settle)
        (same_there old new u w h.own h.added at_u at_w most (links_in (book_in (log_of u))) settle)
        (entries_of old.registry)))

  -- memory ran out in it
  pub cut_stops : HasTriedBeside u w (min most (links_in (book_in (log_of u))))
      → (answers : Option (List ShelfAnswer)) (faults : ℕ) → Stops v.alone (Ok asked) answers answers faults faults old new (log_of v) (log_of w)
  cut_stops h answers faults =
      let alone : u.alone ≡ true → AllOwned true h.added.begins.0 = zs_alone h.own h.added (unfinished_owned h.own h.unfinished) in
      let short = settle_cut_short old.names once old.limits r x kept line passes (log_of u) stands links marked most passes_are c (log_of w) at_w.legal
      u.alone h.added.begins.0 h.own (zs_added h.own h.added) (zs_own h.own h.added) alone h.unfinished h.few (entries_of old.registry) in
      stops_among v (log_of u) (log_of w) meets_u u.alone only_u (Ok asked) answers answers faults faults old new
      (cut_short asked refl
      (subst (λ (y : World). IsCutShort u.alone (settings_in old (log_of u)) asked y (world_in new (log_of w)) (log_of u) (log_of w)) (sym world_old)
      (subst (λ (z : World). IsCutShort u.alone (settings_in old (log_of u)) asked
      (world_of old.names (entries_of old.registry) (marks_of (log_of u)) r) z (log_of u) (log_of w)) (sym (is_new (marks_of (log_of w)))) short)))
