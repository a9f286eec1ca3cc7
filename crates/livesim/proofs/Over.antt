-- How a run ends, and what is right then.
use Rattle.std.proofs.Common.{◌≡◌, ◌≢◌, ◌⊎◌, ⊎_elim, inl, inr, ℕ, ◌<◌, ◌≤◌, Bool, true, false, ◌||◌, List, [], ◌∷◌, ◌++◌, length, take, Option, Some, None, Result, Ok, if◌then◌else◌, min, refl, sym, ap, ◌∙◌, subst, append-nil, append_assoc, length-append, true≢false, arith}
use Rattle.std.proofs.Math.Seq.{take-append_seam}
use Rattle.std.proofs.lemmas.List.{length-map}
use Rattle.std.proofs.KnownBytes.{Appends-nil, Appends-trans, Consumes-nil}
use Rattle.std.specs.Io.KnownBytes.{Appends}
use Rattle.std.proofs.lemmas.Bool.{false_from_ne_true}
use Rattle.book_history.specs.Book.{Settings as BookSettings}
use Rattle.command_read.specs.Readers.{has_ended, count_taken, stopped, asked_of as still_asked, AreKept}
use Rattle.ls_text.specs.Readings.{TextFault}
use Rattle.command_read.specs.Asking.{Asked}
use Rattle.command_read.specs.Scripts.{commands, is_quit, up_to_quit}
use Rattle.command_read.specs.Sound.{is_too_much}
use Rattle.command_read.specs.declared.reader.Reader.{Reader}
use Rattle.command_read.specs.declared.stop.Stop.{Stop}
use Rattle.command_read.specs.declared.stop.Stop.TheVariants as stop
use Rattle.live_options.specs.Words.{OptionsOf}
use Rattle.live_session.specs.Beside.{settings_in, world_in}
use Rattle.live_session.specs.Judging.{world_after}
use Rattle.live_session.specs.Logs.{IsLegal, Log, LogMoment, marks_of, moments_after, moments_of}
use Rattle.live_session.specs.Replies.{lines, asked_of}
use Rattle.live_session.specs.CutShort.{IsCutShort}
use Rattle.live_session.specs.Steps.{Stops, cut_short, lost as lost_lines, undone}
use Rattle.live_session.specs.Sessions.{limits_of, world}
use Rattle.live_session.specs.Settings.{Settings}
use Rattle.live_session.specs.Verdicts.{Told, passes_of, settle_verdict}
use Rattle.live_session.specs.Worlds.{World, fresh}
use Rattle.live_session.specs.declared.session.Session.{Session}
use Rattle.live_session.proofs.GivenLoads.{none_added}
use Rattle.livesim.specs.Endings.{status_of}
use Rattle.livesim.specs.Histories.{EndsFrom}
use Rattle.livesim.specs.Runs.{HasSettings, IsCut, Lived, AreSoon, RisesBy, WritesAtLeast, count_broken, end_with_quit}
use Rattle.livesim.specs.Settings.{settings}
use Rattle.livesim.specs.Turns.{Sources, Shelves, Reads, Carries, RunsOut, in_nothing, in_command, Ends, HasLimits, HasStopped}
use Rattle.livesim.specs.Writing.{Writes}
use Rattle.livesim.specs.declared.ending.Ending.{Ending}
use Rattle.livesim.specs.declared.ending.Ending.TheVariants.{Whole, Failed, TooMuch, NoMemory}
use Rattle.livesim.proofs.Counts.{rises_perhaps}
use Rattle.livesim.proofs.Endings.{Finished, IsStatus, AreCut, lived, lived_all, few_taken, many_taken, most_taken, finished_now, finished_then, taken_then}
use Rattle.livesim.proofs.Histories.{IsHistory, IsRecorded, ended_history, lines_with, moments_behind, moments_ended, nothing_history, stayed_recorded, unfinished_history}
use Rattle.livesim.proofs.Quits.{ends_with, few_front, most_front, never_quits}
use Rattle.livesim.proofs.Soon.{soon_of}
use Rattle.livesim.proofs.Turns.{Done, turn_told, run_with, step, more_done}
use Rattle.livesim.proofs.Written.{writes_front}

-- a run that took so many bytes
abbrev pub IsLived : Settings → (from to : Sources) → (shelf shelved : Shelves) → (old new : Option (List ℕ)) → (taken status : ℕ) → Log → Type 0
IsLived st from to shelf shelved old new taken status history =
    (bytes : List ℕ) × (ended : Bool) × (length bytes ≡ taken)
    × Lived st from.left to.left old new shelf.answers shelved.answers shelf.faults shelved.faults bytes ended status history

-- a status that is one number isn't another
other : (n m status : ℕ) → status ≡ n → (n ≡ m → ⊥) → status ≡ m → ⊥
other n m status is differ same = differ (sym is ∙ same)

neither : (n a b status : ℕ) → status ≡ n → (n ≡ a → ⊥) → (n ≡ b → ⊥) → (status ≡ a) ⊎ (status ≡ b) → ⊥
neither n a b status is first second which = ⊎_elim (other n a status is first) (other n b status is second) which

small : (b : Bool) (status : ℕ) → status ≡ status_of Whole b → status < 2
small true status is = omega (arith, is)
small false status is = omega (arith, is)

none_behind : (came kept lost : List ℕ) → came ≡ kept ++ lost → came ≡ kept → lost ≡ []
none_behind came kept [] is same = refl
none_behind came kept (x ∷ lost) is same = absurd (omega (arith, ap length is, ap length same, length-append kept (x ∷ lost)))

same_front : (xs ys : List Told) (x y : Told) → xs ++ x ∷ [] ≡ ys ++ y ∷ [] → xs ≡ ys
same_front xs ys x y is =
    let count : length xs ≡ length ys = omega (arith, ap length is, length-append xs (x ∷ []), length-append ys (y ∷ [])) in
    sym (take-append_seam xs (x ∷ [])) ∙ ap (take (length xs)) is ∙ ap (λ n. take n (ys ++ y ∷ [])) count ∙ take-append_seam ys (y ∷ [])

-- a settle that was cut short is the command that comes next
settle_cut : (st other : Settings) (w old new : World) (alone : Bool) (command : Asked) (was is : Log) (short : IsCutShort alone other command old new was is)
    (asked later : List (Result Asked TextFault)) → other ≡ st → old ≡ w → asked ≡ Ok command ∷ later → IsCut st w short.unfinished.count asked
settle_cut st other w old new alone command was is short asked later same goes next = record {
  line = short.line;
  passes = short.passes;
  later = later;
  settles = next ∙ ap (λ (c : Asked). Ok c ∷ later) short.settles;
  behind = new;
  accepted = subst (λ (x : World). settle_verdict st x short.line short.passes x.design ≡ Ok new) goes
      (subst (λ (s : Settings). settle_verdict s old short.line short.passes old.design ≡ Ok new) same short.accepted);
  few = subst (λ (x : World). short.unfinished.count < min (passes_of x short.passes) (length x.grid)) goes short.few;
}

comes_next : (told still : List (Result Asked TextFault)) (command : Asked) → told ≡ Ok command ∷ [] → is_quit (Ok command) ≡ false
    → up_to_quit (told ++ still) ≡ Ok command ∷ up_to_quit still
comes_next told still command is goes =
    ap (λ (ts : List (Result Asked TextFault)). up_to_quit (ts ++ still)) is
    ∙ ap (λ (q : Bool). Ok command ∷ (if q then [] else up_to_quit still)) goes

-- a front of a command's lines was written
module _ (o : OptionsOf) (from mid to : Sources) (shelf mid_shelf shelved : Shelves) (session behind : Session) (old new : Reader) (was now h : Log) (ends : EndsFrom now h) (refused : Bool)
    (told : List Told) (text more : List ℕ) (also : Bool) (limits : HasLimits session) (d : Done (settings o) from mid shelf mid_shelf session old was refused false told text)
    (a : Carries mid to mid_shelf shelved old new session behind was now more also) (written_old written_mid written_new : Option (List ℕ))
    (written : Appends written_old written_mid text) (w : Writes written_mid written_new more) where
  abbrev said : Told
  said = turn_told o from mid to shelf mid_shelf shelved session behind old new was now refused told text more also limits d a

  -- the lines of those before it at their places
  lines_before : lines (settings o) told fresh (moments_of h) ≡ text
  lines_before =
      let done = step o from mid to shelf mid_shelf shelved session behind old new was now refused told text more also limits d a in
      ap (λ (ms : List LogMoment). lines (settings o) told fresh ms) (moments_ended now h ends ∙ moments_behind was now done.done.added done.done.settings done.done.events)
      ∙ lines_with (settings o) was told text (moments_after was done.done.added) d.recorded

  at_least : (before : List Told) (last : Told) → before ++ last ∷ [] ≡ told ++ said ∷ []
      → WritesAtLeast written_old written_new (lines (settings o) before fresh (moments_of h))
  at_least before last same =
      let front : told ≡ before = sym (same_front before told last said same) in (
        w.front,
        subst (λ (t : List ℕ). Appends written_old written_new (t ++ w.front))
            (sym lines_before ∙ ap (λ (ts : List Told). lines (settings o) ts fresh (moments_of h)) front)
            (Appends-trans written_old written_mid written_new text w.front written w.appended),
      )

  pub front_lived : IsLegal h → (status : ℕ) → (status ≡ 4) ⊎ (status ≡ 5)
      → IsLived (settings o) from to shelf shelved written_old written_new (count_taken new) status h
  front_lived legal status which_is =
      let done = more_done o from mid to shelf mid_shelf shelved session behind old new was now refused told text more also limits d a in
      let few = few_taken new (ap is_too_much a.going) in
      let all = told ++ said ∷ [] in
      let f = finished_now (settings o) from to shelf shelved behind new now (refused || also) (is_quit a.asked) _ (text ++ more) done few in
      let least : 4 ≤ status = ⊎_elim (λ z. omega (arith, z)) (λ z. omega (arith, z)) which_is in
      let most : status ≤ 5 = ⊎_elim (λ z. omega (arith, z)) (λ z. omega (arith, z)) which_is in
      let never : status ≢ 4 → status ≢ 5 → ⊥ = λ four five. ⊎_elim four five which_is in
      let s : IsStatus done.bytes (has_ended new) (refused || also) _ [] status = record {
        none_left = λ four five. absurd (never four five);
        none_lost = λ five. refl;
        whole = λ which. absurd (⊎_elim (λ z. omega (arith, z, least)) (λ z. omega (arith, z, least)) which);
        judged = λ which. absurd (⊎_elim (λ z. omega (arith, z, least)) (λ z. omega (arith, z, least)) which);
        cut = λ which. absurd (⊎_elim (λ z. omega (arith, z, least)) (λ z. omega (arith, z, most)) which);
        too_much = λ six. absurd (omega (arith, six, most));
        not_too_much = λ much. absurd (omega (arith, much, few, done.count));
      } in (
        done.bytes,
        has_ended new,
        sym done.count,
        lived (settings o) from to shelf shelved written_old written_new done.bytes (has_ended new) (refused || also) all _ [] status (text ++ more) h f s
            (ended_history (settings o) now h ends all _ (text ++ more) status done.recorded legal) (inl done.failed)
            (λ four five. absurd (never four five))
            (writes_front written_old written_mid written_new text more written w)
            at_least
            (λ which. soon_of all done.bytes done.soon (omega (arith, length-append told (said ∷ [])))),
      )

module _ (o : OptionsOf) (from mid to : Sources) (shelf mid_shelf shelved : Shelves) (written_old written_new : Option (List ℕ)) (session behind : Session) (old new : Reader)
    (was now h : Log) (ends : EndsFrom now h) (refused : Bool) (told : List Told) (text : List ℕ) (limits : HasLimits session) (written : Appends written_old written_new text)
    (d : Done (settings o) from mid shelf mid_shelf session old was refused false told text) (legal : IsLegal h) where
  -- a book that is as it was
  as_before : (rest : List (Result Asked TextFault)) (status : ℕ) → now ≡ was → IsHistory (settings o) told rest status text h
  as_before rest status same =
      ended_history (settings o) now h ends told rest text status (subst (λ (j : Log). IsRecorded (settings o) j told text) (sym same) d.recorded) legal

  -- no load is reached where the session's room is full
  none_reached : (ending : Ending) (e : Ends mid to mid_shelf shelved old new session behind was now ending)
      → (settings o).room ≤ (world_after (settings o) told fresh).charge → e.lost ≡ []
  none_reached ending e room =
      e.full (marks_of was) (omega (arith, room, ap (λ (s : Settings). s.room) (limits o), ap (λ (w : World). w.charge) d.goes))

  -- all that came is kept, and no byte is above the limit
  all_kept : (came kept : List ℕ) → came ≡ kept → length (d.bytes ++ came) ≡ count_taken new → is_too_much (stopped new) ≡ false
      → AreCut new (d.bytes ++ came) (d.bytes ++ kept) []
  all_kept came kept same taken going = record {
    front = few_front 67108864 (d.bytes ++ came) (omega (arith, taken, few_taken new going)) ∙ ap (λ k. d.bytes ++ k) same ∙ sym (append-nil (d.bytes ++ kept));
    whole = λ ended. refl;
  }

  -- the script didn't quit, nor did the sink fail
  not_soon : (bytes : List ℕ) (status : ℕ) → (status ≡ 4 → ⊥) → (status ≡ 4) ⊎ (end_with_quit (asked_of told) ≡ true) → AreSoon (length told) bytes
  not_soon bytes status four which = absurd (⊎_elim four (never_quits (asked_of told) d.ends) which)

  none_left : (stopped_for : Stop) (asked : List _) (lost : List _) (faults count : ℕ) → HasStopped stopped_for new asked lost faults count was now
      → up_to_quit (asked ++ still_asked new [] (has_ended new)) ≡ []
  none_left stopped_for asked lost faults count h = ap (λ t. up_to_quit (t ++ still_asked new [] (has_ended new))) h.none ∙ ap up_to_quit h.nothing

  over_whole : (e : Ends mid to mid_shelf shelved old new session behind was now Whole) (status : ℕ) → status ≡ status_of Whole refused
      → IsLived (settings o) from to shelf shelved written_old written_new (count_taken new) status h
  over_whole e status is =
      let halt = e.over.0 in
      let ended = e.over.1 in
      let going : is_too_much (stopped new) ≡ false = ap is_too_much halt.reason_is in
      let taken = taken_then (settings o) from mid to shelf mid_shelf shelved session behind old new was now refused told text Whole d e in
      let bytes = d.bytes ++ e.reads.came in
      let rest = up_to_quit (e.told ++ still_asked new [] (has_ended new)) in
      let below = small refused status is in
      let few = few_taken new going in
      let s : IsStatus bytes (has_ended new) refused rest e.lost status = record {
        none_left = λ four five. none_left stop.End e.told e.lost _ _ halt;
        none_lost = λ five. halt.none_lost;
        whole = λ which. inl ended;
        judged = λ which. is;
        cut = λ which. absurd (⊎_elim (λ z. omega (arith, z, below)) (λ z. omega (arith, z, below)) which);
        too_much = λ six. absurd (omega (arith, six, below));
        not_too_much = λ much. absurd (omega (arith, much, taken, few));
      } in (
        bytes,
        has_ended new,
        taken,
        lived_all (settings o) from to shelf shelved written_old written_new bytes (has_ended new) refused told rest e.lost status text h
            (finished_then (settings o) from mid to shelf mid_shelf shelved session behind old new was now refused told text Whole d e (none_reached Whole e) []
            (all_kept e.reads.came e.reads.kept (e.reads.takes.whole ended) taken going)) s (as_before rest status halt.same)
            (inl (subst (RisesBy (count_broken told) shelf.faults) (sym halt.unfailed) d.failed)) written
            (not_soon bytes status (λ z. omega (arith, z, below))),
      )

  over_failed : (e : Ends mid to mid_shelf shelved old new session behind was now Failed) (status : ℕ) → status ≡ 3
      → IsLived (settings o) from to shelf shelved written_old written_new (count_taken new) status h
  over_failed e status is =
      let halt = e.over in
      let going : is_too_much (stopped new) ≡ false = ap is_too_much halt.reason_is in
      let taken = taken_then (settings o) from mid to shelf mid_shelf shelved session behind old new was now refused told text Failed d e in
      let bytes = d.bytes ++ e.reads.came in
      let rest = up_to_quit (e.told ++ still_asked new [] (has_ended new)) in
      let few = few_taken new going in
      let unended : has_ended new ≡ false = false_from_ne_true (has_ended new) (λ ended. e.reads.takes.faultless ended halt.reason_is) in
      let same : e.reads.came ≡ e.reads.kept = subst (λ s. AreKept s e.reads.came e.reads.kept) halt.reason_is e.reads.takes.holds in
      let s : IsStatus bytes (has_ended new) refused rest e.lost status = record {
        none_left = λ four five. none_left stop.Fault e.told e.lost _ _ halt;
        none_lost = λ five. halt.none_lost;
        whole = λ which. absurd (neither 3 0 1 status is (λ z. omega (arith, z)) (λ z. omega (arith, z)) which);
        judged = λ which. absurd (neither 3 0 1 status is (λ z. omega (arith, z)) (λ z. omega (arith, z)) which);
        cut = λ which. unended;
        too_much = λ six. absurd (omega (arith, six, is));
        not_too_much = λ much. absurd (omega (arith, much, taken, few));
      } in (
        bytes,
        has_ended new,
        taken,
        lived_all (settings o) from to shelf shelved written_old written_new bytes (has_ended new) refused told rest e.lost status text h
            (finished_then (settings o) from mid to shelf mid_shelf shelved session behind old new was now refused told text Failed d e (none_reached Failed e) [] (all_kept e.reads.came e.reads.kept same taken going)) s
            (as_before rest status halt.same)
            (inl (subst (RisesBy (count_broken told) shelf.faults) (sym halt.unfailed) d.failed)) written
            (not_soon bytes status (λ z. omega (arith, z, is))),
      )

  over_much : (e : Ends mid to mid_shelf shelved old new session behind was now TooMuch) (status : ℕ) → status ≡ 6
      → IsLived (settings o) from to shelf shelved written_old written_new (count_taken new) status h
  over_much e status is =
      let halt = e.over in
      let taken = taken_then (settings o) from mid to shelf mid_shelf shelved session behind old new was now refused told text TooMuch d e in
      let bytes = d.bytes ++ e.reads.came in
      let rest = up_to_quit (e.told ++ still_asked new [] (has_ended new)) in
      let many = many_taken new (ap is_too_much halt.reason_is) in
      let most = most_taken new in
      let unended : has_ended new ≡ false = false_from_ne_true (has_ended new) (λ ended. e.reads.takes.few ended halt.reason_is) in
      let last = subst (λ s. AreKept s e.reads.came e.reads.kept) halt.reason_is e.reads.takes.holds in
      let one_more : bytes ≡ (d.bytes ++ e.reads.kept) ++ last.0 ∷ [] = ap (λ c. d.bytes ++ c) last.1 ∙ sym (append_assoc d.bytes e.reads.kept (last.0 ∷ [])) in
      let cut : AreCut new bytes (d.bytes ++ e.reads.kept) [] = record {
        front = most_front 67108864 last.0 bytes (d.bytes ++ e.reads.kept) one_more
            (omega (arith, ap length one_more, length-append (d.bytes ++ e.reads.kept) (last.0 ∷ []), taken, many, most)) ∙ sym (append-nil (d.bytes ++ e.reads.kept));
        whole = λ ended. refl;
      } in
      let s : IsStatus bytes (has_ended new) refused rest e.lost status = record {
        none_left = λ four five. none_left stop.TooMuch e.told e.lost _ _ halt;
        none_lost = λ five. halt.none_lost;
        whole = λ which. absurd (neither 6 0 1 status is (λ z. omega (arith, z)) (λ z. omega (arith, z)) which);
        judged = λ which. absurd (neither 6 0 1 status is (λ z. omega (arith, z)) (λ z. omega (arith, z)) which);
        cut = λ which. unended;
        too_much = λ six. omega (arith, taken, many);
        not_too_much = λ much. is;
      } in (
        bytes,
        has_ended new,
        taken,
        lived_all (settings o) from to shelf shelved written_old written_new bytes (has_ended new) refused told rest e.lost status text h
            (finished_then (settings o) from mid to shelf mid_shelf shelved session behind old new was now refused told text TooMuch d e (none_reached TooMuch e) [] cut) s (as_before rest status halt.same)
            (inl (subst (RisesBy (count_broken told) shelf.faults) (sym halt.unfailed) d.failed)) written
            (not_soon bytes status (λ z. omega (arith, z, is))),
      )

  -- memory ran out, with these bytes behind those that are kept, and this history
  over_want : (e : Ends mid to mid_shelf shelved old new session behind was now NoMemory) (status : ℕ) → status ≡ 5 → is_too_much (stopped new) ≡ false → (lost : List ℕ)
      → e.reads.came ≡ e.reads.kept ++ lost
      → IsHistory (settings o) told (up_to_quit (e.told ++ still_asked new lost (has_ended new))) status text h
      → IsLived (settings o) from to shelf shelved written_old written_new (count_taken new) status h
  over_want e status is going lost came so =
      let taken = taken_then (settings o) from mid to shelf mid_shelf shelved session behind old new was now refused told text NoMemory d e in
      let bytes = d.bytes ++ e.reads.came in
      let rest = up_to_quit (e.told ++ still_asked new lost (has_ended new)) in
      let few = few_taken new going in
      let cut : AreCut new bytes (d.bytes ++ e.reads.kept) lost = record {
        front = few_front 67108864 bytes (omega (arith, taken, few)) ∙ ap (λ c. d.bytes ++ c) came ∙ sym (append_assoc d.bytes e.reads.kept lost);
        whole = λ ended. none_behind e.reads.came e.reads.kept lost came (e.reads.takes.whole ended);
      } in
      let s : IsStatus bytes (has_ended new) refused rest e.lost status = record {
        none_left = λ four five. absurd (five is);
        none_lost = λ five. absurd (five is);
        whole = λ which. absurd (neither 5 0 1 status is (λ z. omega (arith, z)) (λ z. omega (arith, z)) which);
        judged = λ which. absurd (neither 5 0 1 status is (λ z. omega (arith, z)) (λ z. omega (arith, z)) which);
        cut = λ which. absurd (neither 5 3 6 status is (λ z. omega (arith, z)) (λ z. omega (arith, z)) which);
        too_much = λ six. absurd (omega (arith, six, is));
        not_too_much = λ much. absurd (omega (arith, much, taken, few));
      } in (
        bytes,
        has_ended new,
        taken,
        lived_all (settings o) from to shelf shelved written_old written_new bytes (has_ended new) refused told rest e.lost status text h
            (finished_then (settings o) from mid to shelf mid_shelf shelved session behind old new was now refused told text NoMemory d e (none_reached NoMemory e) lost cut) s so
            (rises_perhaps (count_broken told) shelf.faults mid_shelf.faults shelved.faults status is d.failed e.cause) written
            (not_soon bytes status (λ z. omega (arith, z, is))),
      )

  -- however the reading ended
  pub over_lived : (ending : Ending) (e : Ends mid to mid_shelf shelved old new session behind was now ending) (status : ℕ) → status ≡ status_of ending refused
      → IsLived (settings o) from to shelf shelved written_old written_new (count_taken new) status h
  over_lived Whole e status is = over_whole e status is
  over_lived Failed e status is = over_failed e status is
  over_lived TooMuch e status is = over_much e status is
  over_lived NoMemory e status is = by e.over
    where
      holds_by : (s : Option Stop) → stopped new ≡ s → AreKept s e.reads.came e.reads.kept
      holds_by s at = subst (λ s. AreKept s e.reads.came e.reads.kept) at e.reads.takes.holds

      -- in a command: nothing is new, a settle was cut short, or it was done with its lines lost
      in_a_command : (alone : Bool) (asked : Result Asked TextFault) → e.told ≡ asked ∷ [] → stopped new ≡ None → (read_in : Session)
          → ((grid : List ℕ) → world read_in grid ≡ world session grid) → limits_of read_in ≡ limits_of session
          → Stops alone asked mid_shelf.answers shelved.answers mid_shelf.faults shelved.faults read_in behind was now
          → IsLived (settings o) from to shelf shelved written_old written_new (count_taken new) status h
      in_a_command alone asked at going read_in same limited (undone stayed world_is) =
          over_want e status is (ap is_too_much going) [] (holds_by None going ∙ sym (append-nil e.reads.kept))
          (ended_history (settings o) now h ends told _ text status
          (stayed_recorded (settings o) was now told text stayed.added stayed.settings stayed.events stayed.none_own d.recorded) legal)
      in_a_command alone asked at going read_in same limited (cut_short command is_command short) =
          over_want e status is (ap is_too_much going) [] (holds_by None going ∙ sym (append-nil e.reads.kept))
          (unfinished_history (settings o) was now h ends told _ text status short.added is d.recorded short.settings short.events short.unfinished
          (settle_cut (settings o) (settings_in read_in was) (world_after (settings o) told fresh) (world_in read_in was) (world_in behind now) alone command
          was now short _ (up_to_quit (still_asked new [] (has_ended new))) (run_with o session read_in was limits limited d.recorded.has)
          (same (marks_of was) ∙ d.goes) (comes_next e.told (still_asked new [] (has_ended new)) command (at ∙ ap (λ (x : Result Asked TextFault). x ∷ []) is_command)
          (ap (λ (c : Asked). is_quit (Ok c)) short.settles)))
          legal)
      in_a_command alone asked at going read_in same limited (lost_lines more also steps) =
          let reads : Reads mid to old new (asked ∷ []) = subst (λ (ts : List (Result Asked TextFault)). Reads mid to old new ts) at e.reads in
          let a : Carries mid to mid_shelf shelved old new session behind was now more also
          = record { alone = alone; asked = asked; reads = reads; going = going; read_in = read_in; same = same; limits = limited; steps = steps } in
          front_lived o from mid to shelf mid_shelf shelved session behind old new was now h ends refused told text more also limits d a written_old written_new written_new written
          (record { front = []; rest = more; split = refl; appended = Appends-nil written_new }) legal status (inr is)

      by : RunsOut mid_shelf shelved new session behind was now e.told → IsLived (settings o) from to shelf shelved written_old written_new (count_taken new) status h
      by (in_nothing (inl going) same) =
          over_want e status is (ap is_too_much going) [] (holds_by None going ∙ sym (append-nil e.reads.kept)) (as_before _ status same)
      by (in_nothing (inr stops) same) =
          let kept = holds_by (Some stop.NoMemory) stops in
          over_want e status is (ap is_too_much stops) kept.0 kept.1 (as_before _ status same)
      by (in_command alone asked at going read_in same limited stops) = in_a_command alone asked at going read_in same limited stops

-- the script quit
pub quit_lived : (st : Settings) (from to : Sources) (shelf shelved : Shelves) (old new : Option (List ℕ)) (session : Session) (r : Reader) (j : Log) (refused quit : Bool)
    (told : List Told) (text : List ℕ) → Appends old new text → Done st from to shelf shelved session r j refused quit told text → quit ≡ true → stopped r ≡ None
    → (h : Log) → EndsFrom j h → IsLegal h → (status : ℕ) → status ≡ status_of Whole refused → IsLived st from to shelf shelved old new (count_taken r) status h
quit_lived st from to shelf shelved old new session r j refused false told text written d quits going h ends legal status is = absurd (true≢false (sym quits))
quit_lived st from to shelf shelved old new session r j refused true told text written d quits going h ends legal status is =
    let below = small refused status is in
    let few = few_taken r (ap is_too_much going) in
    let f = finished_now st from to shelf shelved session r j refused true told text d few in
    let s : IsStatus d.bytes (has_ended r) refused [] [] status = record {
      none_left = λ four five. refl;
      none_lost = λ five. refl;
      whole = λ which. inr (ap end_with_quit (f.begins ∙ append-nil (asked_of told)) ∙ ends_with (asked_of told) d.ends);
      judged = λ which. is;
      cut = λ which. absurd (⊎_elim (λ z. omega (arith, z, below)) (λ z. omega (arith, z, below)) which);
      too_much = λ six. absurd (omega (arith, six, below));
      not_too_much = λ much. absurd (omega (arith, much, few, d.count));
    } in (
      d.bytes,
      has_ended r,
      sym d.count,
      lived_all st from to shelf shelved old new d.bytes (has_ended r) refused told [] [] status text h f s
          (ended_history st j h ends told [] text status d.recorded legal) (inl d.failed) written
          (λ which. soon_of told d.bytes d.soon (omega (arith, sym (length-map told (λ (t : Told). t.asked)), ap length d.ends.2, length-append d.ends.0 (d.ends.1 ∷ [])))),
    )

-- memory ran out before anything was touched
pub nothing_lived : (st : Settings) (from : Sources) (shelf : Shelves) (old : Option (List ℕ)) (h : Log) → h.events ≡ []
    → IsLived st from from shelf shelf old old 0 5 h
nothing_lived st from shelf old h blank =
    let f : Finished st from from shelf shelf [] false false [] (commands [] false) [] = record {
      consumed = Consumes-nil from.left;
      at_end = λ ended. absurd (true≢false (sym ended));
      right = tt;
      begins = refl;
      begins_all = (commands [] true, refl);
      answered = none_added shelf.answers;
      first = tt;
      judged = refl;
      full = λ room. refl;
    } in
    let s : IsStatus [] false false (commands [] false) [] 5 = record {
      none_left = λ four five. absurd (five refl);
      none_lost = λ five. refl;
      whole = λ which. absurd (neither 5 0 1 5 refl (λ z. omega (arith, z)) (λ z. omega (arith, z)) which);
      judged = λ which. absurd (neither 5 0 1 5 refl (λ z. omega (arith, z)) (λ z. omega (arith, z)) which);
      cut = λ which. refl;
      too_much = λ six. absurd (omega (arith, six));
      not_too_much = λ much. absurd (omega (arith, much));
    } in (
      [],
      false,
      refl,
      lived_all st from from shelf shelf old old [] false false [] (commands [] false) [] 5 [] h f s (nothing_history st _ h blank) (inl refl) (Appends-nil old)
          (λ which. absurd (⊎_elim (λ z. omega (arith, z)) (λ z. true≢false (sym z)) which)),
    )

-- the same, with what is answered
pub stopped_lived : (st : Settings) (from : Sources) (shelf : Shelves) (old : Option (List ℕ)) (taken status : ℕ) (h : Log) → taken ≡ 0 → status ≡ 5 → h.events ≡ []
    → IsLived st from from shelf shelf old old taken status h
stopped_lived st from shelf old taken status h none five blank =
    subst (λ (n : ℕ). IsLived st from from shelf shelf old old n status h) (sym none)
    (subst (λ (n : ℕ). IsLived st from from shelf shelf old old 0 n h) (sym five) (nothing_lived st from shelf old h blank))

-- a book with the interval and lookback of the options and the program's rooms
pub made_with : (o : OptionsOf) (j : Log) → j.settings ≡ record { interval = o.interval; lookback = o.lookback; rooms = record { session = 1048576; workers = 3145728 } }
    → HasSettings (settings o) j
made_with o j is = (
  ap (λ (s : BookSettings). s.interval) is,
  ap (λ (s : BookSettings). s.lookback) is,
  ap (λ (s : BookSettings). s.rooms.session) is,
  ap (λ (s : BookSettings). s.rooms.workers) is,
)
