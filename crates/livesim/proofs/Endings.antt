-- What a run took and wrote, by how it ended.
use Rattle.std.proofs.Common.{◌≡◌, ◌≢◌, ◌⊎◌, inl, inr, ℕ, ◌+◌, ◌<◌, ◌≤◌, nat_lt, Bool, true, false, cond, if◌then◌else◌, List, [], ◌∷◌, ◌++◌, length, take, Option, Result, Ok, Err, refl, sym, ap, ◌∙◌, subst, append-nil, length-append, arith}
use Rattle.std.proofs.lemmas.Bool.Decides.{nat_tests}
use Rattle.std.proofs.KnownBytes.{Consumes-trans}
use Rattle.std.specs.Io.KnownBytes.{Appends, Consumes, IsAtEnd}
use Rattle.ls_text.specs.Readings.{TextFault}
use Rattle.ls_port.specs.declared.shelf_answer.ShelfAnswer.{ShelfAnswer}
use Rattle.command_read.specs.Asking.{Asked}
use Rattle.command_read.specs.Leading.{MayFollow}
use Rattle.command_read.specs.Readers.{has_ended, count_taken, stopped, asked_of as still_asked}
use Rattle.command_read.specs.Runs.{Continues, HasTold}
use Rattle.command_read.specs.Scripts.{commands, up_to_quit}
use Rattle.command_read.specs.Sound.{is_too_much}
use Rattle.command_read.specs.declared.reader.Reader.{Reader}
use Rattle.command_read.proofs.Cutting.{told_on}
use Rattle.live_session.specs.Judging.{any_refused, world_after}
use Rattle.live_session.specs.Loads.{AddsAnswers, AreToFirst}
use Rattle.live_session.specs.Readings.{AreRight}
use Rattle.live_session.specs.Logs.{Log, moments_of}
use Rattle.live_session.specs.Replies.{lines, asked_of, answers_of}
use Rattle.live_session.specs.Settings.{Settings}
use Rattle.live_session.specs.Verdicts.{Told}
use Rattle.live_session.specs.Worlds.{fresh}
use Rattle.live_session.specs.declared.session.Session.{Session}
use Rattle.livesim.specs.Runs.{Lived, AreSoon, RisesBy, WritesAtLeast, count_broken, end_with_quit, loads_first}
use Rattle.livesim.specs.Turns.{Sources, Shelves, Ends}
use Rattle.livesim.specs.declared.ending.Ending.{Ending}
use Rattle.livesim.specs.Writing.{Writes}
use Rattle.livesim.proofs.Displays.{shown_truth}
use Rattle.livesim.proofs.Histories.{IsHistory}
use Rattle.command_read.proofs.HandedOut.{may_end}
use Rattle.livesim.proofs.Quits.{counted, commands_are, commands_then, few_front}
use Rattle.livesim.proofs.Steps.{lines_front}
use Rattle.livesim.proofs.Turns.{Done, adds_more}
use Rattle.livesim.proofs.Written.{front_all}

-- These bytes were taken, and of their commands these were carried out, with that rest; the shelf answered those, and that to the next one.
pub record Finished (st : Settings) (from to : Sources) (shelf shelved : Shelves) (bytes : List ℕ) (ended refused : Bool) (told : List Told)
    (rest : List (Result Asked TextFault)) (lost : List ShelfAnswer) : Type 0 where
  pub consumed : Consumes from.left to.left bytes
  pub at_end : ended ≡ true → IsAtEnd to.left
  pub right : AreRight st fresh told
  pub begins : commands bytes ended ≡ asked_of told ++ rest
  pub begins_all : Continues (asked_of told) (commands bytes true)
  pub answered : AddsAnswers shelf.answers shelved.answers (answers_of told ++ lost)
  pub first : AreToFirst (loads_first rest) lost
  pub judged : refused ≡ any_refused st told fresh
  pub full : st.room ≤ (world_after st told fresh).charge → lost ≡ []

-- what the status says of them
pub record IsStatus (bytes : List ℕ) (ended refused : Bool) (rest : List (Result Asked TextFault)) (lost : List ShelfAnswer) (status : ℕ) : Type 0 where
  pub none_left : status ≢ 4 → status ≢ 5 → rest ≡ []
  pub none_lost : status ≢ 5 → lost ≡ []
  pub whole : (status ≡ 0) ⊎ (status ≡ 1) → (ended ≡ true) ⊎ (end_with_quit (commands bytes ended) ≡ true)
  pub judged : (status ≡ 0) ⊎ (status ≡ 1) → status ≡ (if refused then 1 else 0)
  pub cut : (status ≡ 3) ⊎ (status ≡ 6) → ended ≡ false
  pub too_much : status ≡ 6 → 67108864 < length bytes
  pub not_too_much : 67108864 < length bytes → status ≡ 6

module _ (st : Settings) (from to : Sources) (shelf shelved : Shelves) (old new : Option (List ℕ)) (bytes : List ℕ) (ended refused : Bool) (told : List Told)
    (rest : List (Result Asked TextFault)) (lost : List ShelfAnswer) (status : ℕ) (text : List ℕ) (history : Log) where
  pub lived : Finished st from to shelf shelved bytes ended refused told rest lost → IsStatus bytes ended refused rest lost status
      → IsHistory st told rest status text history
      → RisesBy (count_broken told) shelf.faults shelved.faults ⊎ ((status ≡ 5) × RisesBy (count_broken told + 1) shelf.faults shelved.faults)
      → (status ≢ 4 → status ≢ 5 → Appends old new text) → Writes old new text
      → ((before : List Told) (last : Told) → before ++ last ∷ [] ≡ told → WritesAtLeast old new (lines st before fresh (moments_of history)))
      → ((status ≡ 4) ⊎ (end_with_quit (asked_of told) ≡ true) → AreSoon (length told) bytes)
      → Lived st from.left to.left old new shelf.answers shelved.answers shelf.faults shelved.faults bytes ended status history
  lived f s h failed written front most soon = record {
    consumed = f.consumed;
    at_end = f.at_end;
    ran = record {
      told = told;
      right = f.right;
      all = λ four five. sym (append-nil (asked_of told)) ∙ ap (λ r. asked_of told ++ r) (sym (s.none_left four five)) ∙ sym f.begins;
      begins = (rest, f.begins);
      begins_all = f.begins_all;
      whole = s.whole;
      judged = λ which. s.judged which ∙ ap (λ b. cond b 1 0) f.judged;
      cut = s.cut;
      lost = lost;
      answered = f.answered;
      none_lost = s.none_lost;
      lost_first = f.first;
      none_reached = f.full;
      failed = failed;
      written = λ four five. subst (Appends old new) (sym h.tells) (written four five);
      front = subst (Writes old new) (sym h.tells) front;
      most = most;
      settings = h.has;
      legal = h.legal;
      entries = h.entries;
      settled = shown_truth st told (moments_of history);
      too_much = s.too_much;
      not_too_much = s.not_too_much;
    };
    soon = soon;
  }

  -- where all lines were written
  pub lived_all : Finished st from to shelf shelved bytes ended refused told rest lost → IsStatus bytes ended refused rest lost status
      → IsHistory st told rest status text history
      → RisesBy (count_broken told) shelf.faults shelved.faults ⊎ ((status ≡ 5) × RisesBy (count_broken told + 1) shelf.faults shelved.faults)
      → Appends old new text
      → ((status ≡ 4) ⊎ (end_with_quit (asked_of told) ≡ true) → AreSoon (length told) bytes)
      → Lived st from.left to.left old new shelf.answers shelved.answers shelf.faults shelved.faults bytes ended status history
  lived_all f s h failed written soon = lived f s h failed (λ four five. written) (front_all old new text written) at_least soon
    where
      at_least : (before : List Told) (last : Told) → before ++ last ∷ [] ≡ told → WritesAtLeast old new (lines st before fresh (moments_of history))
      at_least before last is =
          let behind = lines_front st before (last ∷ []) fresh (moments_of history) in
          (behind.0, subst (Appends old new) (sym h.tells ∙ ap (λ (ts : List Told). lines st ts fresh (moments_of history)) (sym is) ∙ behind.1) written)

-- ---- where it ends behind a command

may_here : (ended : Bool) → MayFollow ended [] ended
may_here true = (refl, refl)
may_here false = tt

adds_no_more : (before behind : Option (List ShelfAnswer)) (more : List ShelfAnswer) → AddsAnswers before behind more → AddsAnswers before behind (more ++ [])
adds_no_more before behind more adds = subst (AddsAnswers before behind) (sym (append-nil more)) adds

-- a reader that goes on has taken no byte too many
pub few_taken : (r : Reader) → is_too_much (stopped r) ≡ false → count_taken r ≤ 67108864
few_taken r going = small (count_taken r) (sym r.sound.much ∙ going)
  where
    small : (n : ℕ) → nat_lt 67108864 n ≡ false → n ≤ 67108864
    small n is = grind (arith, nat_tests)

pub many_taken : (r : Reader) → is_too_much (stopped r) ≡ true → 67108864 < count_taken r
many_taken r stopped = large (count_taken r) (sym r.sound.much ∙ stopped)
  where
    large : (n : ℕ) → nat_lt 67108864 n ≡ true → 67108864 < n
    large n is = grind (arith, nat_tests)

pub most_taken : (r : Reader) → count_taken r ≤ 67108865
most_taken r = r.sound.most

pub finished_now : (st : Settings) (from to : Sources) (shelf shelved : Shelves) (session : Session) (r : Reader) (j : Log) (refused quit : Bool) (told : List Told)
    (text : List ℕ) → (d : Done st from to shelf shelved session r j refused quit told text) → count_taken r ≤ 67108864
    → Finished st from to shelf shelved d.bytes (has_ended r) refused told (counted quit (still_asked r [] (has_ended r))) []
finished_now st from to shelf shelved session r j refused quit told text d few =
    let front : take 67108864 d.bytes ≡ d.bytes ++ [] = few_front 67108864 d.bytes (omega (arith, few, d.count)) ∙ sym (append-nil d.bytes) in
    record {
      consumed = d.consumed;
      at_end = d.at_end;
      right = d.right;
      begins = commands_are r d.bytes d.bytes [] (asked_of told) quit (has_ended r) d.has (may_here (has_ended r)) front d.ends;
      begins_all = (_, commands_are r d.bytes d.bytes [] (asked_of told) quit true d.has (may_end (has_ended r)) front d.ends);
      answered = adds_no_more shelf.answers shelved.answers (answers_of told) d.answered;
      first = tt;
      judged = d.judged;
      full = λ room. refl;
    }

-- ---- where no command is read any more

-- of the bytes that came those are kept of which the first 67,108,864 are told, and then that
pub record AreCut (r : Reader) (came kept lost : List ℕ) : Type 0 where
  pub front : take 67108864 came ≡ kept ++ lost
  pub whole : has_ended r ≡ true → lost ≡ []

follows : (b end : Bool) (lost : List ℕ) → (b ≡ true → (lost ≡ []) × (end ≡ true)) → MayFollow b lost end
follows false end lost so = tt
follows true end lost so = so refl

lost_first : (told more : List (Result Asked TextFault)) (lost : List ShelfAnswer) → AreToFirst (loads_first told) lost
    → AreToFirst (loads_first (up_to_quit (told ++ more))) lost
lost_first told more [] first = tt
lost_first [] more (a ∷ lost) first = absurd first
lost_first (Ok asked ∷ told) more (a ∷ lost) first = first
lost_first (Err fault ∷ told) more (a ∷ lost) first = absurd first

module _ (st : Settings) (from mid to : Sources) (shelf mid_shelf shelved : Shelves) (session behind : Session) (old new : Reader) (was is : Log) (refused : Bool) (told : List Told) (text : List ℕ)
    (ending : Ending) (d : Done st from mid shelf mid_shelf session old was refused false told text) (e : Ends mid to mid_shelf shelved old new session behind was is ending) where
  at_end_then : has_ended new ≡ true → IsAtEnd to.left
  at_end_then ended = by (e.reads.takes.ended ended)
    where
      by : (has_ended old ≡ true) ⊎ IsAtEnd to.left → IsAtEnd to.left
      by (inl before) = subst IsAtEnd (sym (e.reads.takes.quiet before).3) (d.at_end before)
      by (inr now) = now

  has_then : HasTold new (d.bytes ++ e.reads.kept) (asked_of told ++ e.told)
  has_then =
      told_on old new d.bytes e.reads.kept (asked_of told) e.told d.has (λ ended. let still = e.reads.takes.quiet ended in (still.1, still.2)) e.reads.hands

  pub taken_then : length (d.bytes ++ e.reads.came) ≡ count_taken new
  taken_then = omega (arith, e.reads.takes.counted, d.count, length-append d.bytes e.reads.came)

  pub finished_then : (st.room ≤ (world_after st told fresh).charge → e.lost ≡ []) → (lost : List ℕ)
      → AreCut new (d.bytes ++ e.reads.came) (d.bytes ++ e.reads.kept) lost
      → Finished st from to shelf shelved (d.bytes ++ e.reads.came) (has_ended new) refused told
      (up_to_quit (e.told ++ still_asked new lost (has_ended new))) e.lost
  finished_then full lost cut = record {
    consumed = Consumes-trans from.left mid.left to.left d.bytes e.reads.came d.consumed e.reads.takes.consumed;
    at_end = at_end_then;
    right = d.right;
    begins = commands_then new _ _ lost (asked_of told) e.told (has_ended new) has_then
        (follows (has_ended new) (has_ended new) lost (λ ended. (cut.whole ended, ended))) cut.front d.ends;
    begins_all = (_, commands_then new _ _ lost (asked_of told) e.told true has_then (follows (has_ended new) true lost (λ ended. (cut.whole ended, refl))) cut.front d.ends);
    answered = adds_more shelf.answers mid_shelf.answers shelved.answers _ _ d.answered e.adds;
    first = lost_first e.told (still_asked new lost (has_ended new)) e.lost e.first;
    judged = d.judged;
    full = full;
  }
