-- What a run has done, and one turn more.
use Rattle.std.proofs.Common.{◌≡◌, ◌⊎◌, inl, inr, ℕ, Bool, true, false, ◌||◌, List, [], ◌∷◌, ◌++◌, length, Option, Some, None, refl, sym, ap, ◌∙◌, subst, length-append, append_assoc, true≢false, arith}
use Rattle.std.specs.Prelude.{is_err}
use Rattle.std.specs.List.{list_any}
use Rattle.std.proofs.Math.Bool.{or-false}
use Rattle.std.proofs.KnownBytes.{Consumes-nil, Consumes-trans, Appends-trans}
use Rattle.std.specs.Io.KnownBytes.{Appends, Consumes, IsAtEnd}
use Rattle.ls_port.specs.declared.shelf_answer.ShelfAnswer.{ShelfAnswer}
use Rattle.command_read.specs.Readers.{left, next_number, has_ended, count_taken, AreKept}
use Rattle.command_read.specs.Runs.{HasTold}
use Rattle.command_read.specs.Scripts.{is_quit}
use Rattle.command_read.specs.declared.reader.Reader.{Reader}
use Rattle.command_read.proofs.Cutting.{told_begins, told_on}
use Rattle.live_options.specs.Words.{OptionsOf}
use Rattle.live_session.specs.Beside.{settings_in, world_in}
use Rattle.live_session.specs.Judging.{verdict_on, world_after, any_refused}
use Rattle.live_session.specs.Loads.{AddsAnswers, is_broken}
use Rattle.live_session.specs.Logs.{Log, marks_of}
use Rattle.live_session.specs.Readings.{AreRight}
use Rattle.live_session.specs.Replies.{asked_of, answers_of}
use Rattle.live_session.specs.Sessions.{world, limits_of, settings_of}
use Rattle.live_session.specs.Settings.{Settings}
use Rattle.live_session.specs.Verdicts.{Told}
use Rattle.live_session.specs.Worlds.{World, fresh}
use Rattle.live_session.specs.declared.reply.Reply.{Reply}
use Rattle.live_session.specs.declared.session.Session.{Session}
use Rattle.live_session.proofs.GivenLoads.{none_added}
use Rattle.livesim.specs.Runs.{HasSettings, RisesBy, count_broken}
use Rattle.livesim.specs.Settings.{settings}
use Rattle.livesim.specs.Turns.{Sources, Shelves, Carries, Answers, HasLimits}
use Rattle.livesim.proofs.Counts.{rises_more, broken_more}
use Rattle.livesim.proofs.Histories.{IsRecorded, none_recorded, more_recorded}
use Rattle.livesim.proofs.Quits.{EndsAt, more_ends}
use Rattle.livesim.proofs.Soon.{IsSoonDone, soon_more}
use Rattle.livesim.proofs.Steps.{IsStep, step_told, step_in, after-append, right-append, refused-append, asked-more, answers-more}

-- These commands are carried out, and the reader has taken those bytes: the world that they lead to, what the history has of them, what the shelf
-- answered, whether one was refused, and whether the last one is `quit`. These are their lines.
pub record Done (st : Settings) (from to : Sources) (shelf shelved : Shelves) (session : Session) (reader : Reader) (j : Log) (refused quit : Bool) (told : List Told)
    (text : List ℕ) : Type 0 where
  pub bytes : List ℕ
  pub right : AreRight st fresh told
  pub goes : world_in session j ≡ world_after st told fresh
  pub recorded : IsRecorded st j told text
  pub has : HasTold reader bytes (asked_of told)
  pub count : count_taken reader ≡ length bytes
  pub consumed : Consumes from.left to.left bytes
  pub at_end : has_ended reader ≡ true → IsAtEnd to.left
  pub ends : EndsAt quit (asked_of told)
  pub answered : AddsAnswers shelf.answers shelved.answers (answers_of told)
  pub failed : RisesBy (count_broken told) shelf.faults shelved.faults
  pub judged : refused ≡ any_refused st told fresh
  pub soon : IsSoonDone told bytes

-- before the first
pub none_done : (st : Settings) (from : Sources) (shelf : Shelves) (session : Session) (reader : Reader) (j : Log) → HasSettings st j → j.events ≡ []
    → ((grid : List ℕ) → world session grid ≡ fresh)
    → left reader ≡ [] → next_number reader ≡ 1 → count_taken reader ≡ 0 → has_ended reader ≡ false → Done st from from shelf shelf session reader j false false [] []
none_done st from shelf session reader j has blank begins nothing first none more = record {
  bytes = [];
  right = tt;
  goes = begins (marks_of j);
  recorded = none_recorded st j has blank;
  has = told_begins reader nothing first;
  count = none;
  consumed = Consumes-nil from.left;
  at_end = λ ended. absurd (true≢false (sym ended ∙ more));
  ends = refl;
  answered = none_added shelf.answers;
  failed = refl;
  judged = refl;
  soon = inl (refl, refl);
}

pub adds_more : (a b c : Option (List ShelfAnswer)) (front more : List ShelfAnswer) → AddsAnswers a b front → AddsAnswers b c more → AddsAnswers a c (front ++ more)
adds_more None b c front more first second = tt
adds_more (Some xs) None c front more first second = absurd first
adds_more (Some xs) (Some ys) None front more first second = absurd second
adds_more (Some xs) (Some ys) (Some zs) front more first second = second ∙ ap (λ y. y ++ more) first ∙ append_assoc xs front more

-- what a session is run with beside a book of these options
pub run_with : (o : OptionsOf) (session read_in : Session) (j : Log) → HasLimits session → limits_of read_in ≡ limits_of session → HasSettings (settings o) j
    → settings_in read_in j ≡ settings o
run_with o session read_in j limits same has =
    ap (λ (n : ℕ). settings_of n j.settings.lookback (limits_of read_in)) has.0 ∙ ap (λ (n : ℕ). settings_of o.interval n (limits_of read_in)) has.1
    ∙ ap (settings_of o.interval o.lookback) same ∙ limits o

module _ (o : OptionsOf) (from mid to : Sources) (shelf mid_shelf shelved : Shelves) (session behind : Session) (old new : Reader) (was is : Log) (refused : Bool)
    (told : List Told) (text more : List ℕ) (also : Bool) (limits : HasLimits session) (d : Done (settings o) from mid shelf mid_shelf session old was refused false told text)
    (a : Carries mid to mid_shelf shelved old new session behind was is more also) where
  -- what is told of it
  abbrev pub turn_told : Told
  turn_told = step_told a.alone a.asked _ _ _ _ _ _ _ _ _ _ a.steps

  abbrev here : World
  here = world_after (settings o) told fresh

  pub step : IsStep a.alone (settings o) here turn_told behind was is more also
  step =
      step_in a.alone a.asked _ _ _ _ _ _ _ _ _ _ a.steps (settings o) here (run_with o session a.read_in was limits a.limits d.recorded.has)
      (a.same (marks_of was) ∙ d.goes)

  same_kept : a.reads.came ≡ a.reads.kept
  same_kept = subst (λ s. AreKept s a.reads.came a.reads.kept) a.going a.reads.takes.holds

  at_end_more : has_ended new ≡ true → IsAtEnd to.left
  at_end_more ended = by (a.reads.takes.ended ended)
    where
      by : (has_ended old ≡ true) ⊎ IsAtEnd to.left → IsAtEnd to.left
      by (inl before) = subst IsAtEnd (sym (a.reads.takes.quiet before).3) (d.at_end before)
      by (inr now) = now

  -- one command more
  pub more_done : Done (settings o) from to shelf shelved behind new is (refused || also) (is_quit a.asked) (told ++ turn_told ∷ []) (text ++ more)
  more_done = record {
    bytes = d.bytes ++ a.reads.came;
    right = right-append (settings o) told (turn_told ∷ []) fresh d.right (step.right, tt);
    goes = step.done.goes ∙ sym (after-append (settings o) told (turn_told ∷ []) fresh);
    recorded = more_recorded a.alone (settings o) was is told turn_told text more (world_in behind is) also d.recorded step.done;
    has = subst (λ k. HasTold new (d.bytes ++ k) (asked_of (told ++ turn_told ∷ []))) (sym same_kept)
        (subst (HasTold new (d.bytes ++ a.reads.kept)) (sym (asked-more told turn_told))
        (told_on old new d.bytes a.reads.kept (asked_of told) (a.asked ∷ []) d.has (λ ended. let still = a.reads.takes.quiet ended in (still.1, still.2)) a.reads.hands));
    count = omega (arith, a.reads.takes.counted, d.count, length-append d.bytes a.reads.came);
    consumed = Consumes-trans from.left mid.left to.left d.bytes a.reads.came d.consumed a.reads.takes.consumed;
    at_end = at_end_more;
    ends = subst (EndsAt (is_quit a.asked)) (sym (asked-more told turn_told)) (more_ends (asked_of told) a.asked d.ends);
    answered = subst (AddsAnswers shelf.answers shelved.answers) (sym (answers-more told turn_told))
        (adds_more shelf.answers mid_shelf.answers shelved.answers _ _ d.answered a.steps.adds);
    failed = subst (λ n. RisesBy n shelf.faults shelved.faults) (sym (broken_more told turn_told))
        (rises_more (count_broken told) shelf.faults mid_shelf.faults shelved.faults (list_any is_broken a.steps.loads) d.failed a.steps.cause);
    judged = ap (λ (b : Bool). b || also) d.judged
        ∙ ap (λ (b : Bool). any_refused (settings o) told fresh || b) (step.done.refusal ∙ sym (or-false (is_err (verdict_on (settings o) turn_told here))))
        ∙ sym (refused-append (settings o) told (turn_told ∷ []) fresh);
    soon = inr (soon_more old d.bytes a.reads.came told turn_told d.has d.soon a.reads.soon);
  }

-- one turn more, whose lines were written
pub turn_done : (o : OptionsOf) (from mid to : Sources) (shelf mid_shelf shelved : Shelves) (session behind : Session) (old new : Reader) (was is : Log) (refused : Bool)
    (told : List Told) (text : List ℕ) (r : Reply) → HasLimits session → Done (settings o) from mid shelf mid_shelf session old was refused false told text
    → Answers mid to mid_shelf shelved old new session behind was is r
    → (old_text mid_text new_text : Option (List ℕ)) (also quits : Bool) → (refused || r.refused) ≡ also → r.quit ≡ quits
    → Appends old_text mid_text text → Appends mid_text new_text r.lines
    → (all : List Told) × (now : List ℕ) × Done (settings o) from to shelf shelved behind new is also quits all now × Appends old_text new_text now
turn_done o from mid to shelf mid_shelf shelved session behind old new was is refused told text r limits d a old_text mid_text new_text also quits refuses ends before now =
    let one = a.carries in
    let all = told ++ turn_told o from mid to shelf mid_shelf shelved session behind old new was is refused told text r.lines r.refused limits d one ∷ [] in
    let done = more_done o from mid to shelf mid_shelf shelved session behind old new was is refused told text r.lines r.refused limits d one in (
      all,
      text ++ r.lines,
      subst (λ (b : Bool). Done (settings o) from to shelf shelved behind new is b quits all (text ++ r.lines)) refuses
          (subst (λ (q : Bool). Done (settings o) from to shelf shelved behind new is (refused || r.refused) q all (text ++ r.lines)) (sym a.quits ∙ ends) done),
      Appends-trans old_text mid_text new_text text r.lines before now,
    )
