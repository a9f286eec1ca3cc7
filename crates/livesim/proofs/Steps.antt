-- Commands one after another: the world behind them, their entries, and what is right.
use Rattle.std.proofs.Common.{◌≡◌, ℕ, Bool, ◌||◌, List, [], ◌∷◌, ◌++◌, Option, Some, None, Result, refl, sym, ap, ◌∙◌, subst, append-nil, append_assoc}
use Rattle.std.specs.Prelude.{is_err}
use Rattle.std.proofs.Math.Bool.{or_assoc}
use Rattle.std.proofs.lemmas.Grind.{flat_map-append}
use Rattle.std.proofs.lemmas.List.{map-append}
use Rattle.ls_text.specs.Readings.{TextFault}
use Rattle.ls_port.specs.declared.shelf_answer.ShelfAnswer.{ShelfAnswer}
use Rattle.command_read.specs.Asking.{Asked}
use Rattle.live_session.specs.Beside.{settings_in, world_in}
use Rattle.live_session.specs.Done.{IsDone, told}
use Rattle.live_session.specs.Judging.{verdict_on, after, world_after, any_refused}
use Rattle.live_session.specs.Logs.{Log, LogEvent, LogMoment}
use Rattle.live_session.specs.Readings.{IsRight, AreRight}
use Rattle.live_session.specs.Replies.{reply, lines, text_then, asked_of, answers_to, answers_of}
use Rattle.live_session.specs.Scripts.{IsPart, IsScript}
use Rattle.live_session.specs.Settings.{Settings}
use Rattle.live_session.specs.Steps.{StepsTo}
use Rattle.live_session.specs.Verdicts.{Told}
use Rattle.live_session.specs.Worlds.{World}
use Rattle.live_session.specs.declared.session.Session.{Session}

pub after-append : (st : Settings) (xs ys : List Told) (w : World) → world_after st (xs ++ ys) w ≡ world_after st ys (world_after st xs w)
after-append st [] ys w = refl
after-append st (x ∷ xs) ys w = after-append st xs ys (after st x w)

pub right-append : (st : Settings) (xs ys : List Told) (w : World) → AreRight st w xs → AreRight st (world_after st xs w) ys → AreRight st w (xs ++ ys)
right-append st [] ys w front back = back
right-append st (x ∷ xs) ys w front back = (front.0, right-append st xs ys (after st x w) front.1 back)

pub refused-append : (st : Settings) (xs ys : List Told) (w : World) → any_refused st (xs ++ ys) w ≡ (any_refused st xs w || any_refused st ys (world_after st xs w))
refused-append st [] ys w = refl
refused-append st (x ∷ xs) ys w =
    ap (λ more. is_err (verdict_on st x w) || more) (refused-append st xs ys (after st x w))
    ∙ sym (or_assoc (is_err (verdict_on st x w)) (any_refused st xs (after st x w)) (any_refused st ys (world_after st xs (after st x w))))

pub asked-more : (ts : List Told) (t : Told) → asked_of (ts ++ t ∷ []) ≡ asked_of ts ++ t.asked ∷ []
asked-more ts t = map-append (λ (x : Told). x.asked) ts (t ∷ [])

pub answers-more : (ts : List Told) (t : Told) → answers_of (ts ++ t ∷ []) ≡ answers_of ts ++ answers_to t.asked t.loads
answers-more ts t =
    flat_map-append (λ (x : Told). answers_to x.asked x.loads) ts (t ∷ [])
    ∙ ap (λ more. answers_of ts ++ more) (append-nil (answers_to t.asked t.loads))

-- ---- lines and entries

-- the lines of the first commands are a front of those of all
pub lines_front : (st : Settings) (xs ys : List Told) (w : World) (ms : List LogMoment) → (more : List ℕ) × (lines st (xs ++ ys) w ms ≡ lines st xs w ms ++ more)
lines_front st [] ys w ms = (lines st ys w ms, refl)
lines_front st (x ∷ xs) ys w ms = by (reply st x w ms) (lines_front st xs ys (after st x w))
  where
    by : (r : Option (List ℕ × List LogMoment))
        → ((ns : List LogMoment) → (more : List ℕ) × (lines st (xs ++ ys) (after st x w) ns ≡ lines st xs (after st x w) ns ++ more))
        → (more : List ℕ) × (text_then r (λ (ns : List LogMoment). lines st (xs ++ ys) (after st x w) ns)
        ≡ text_then r (λ (ns : List LogMoment). lines st xs (after st x w) ns) ++ more)
    by None more = ([], refl)
    by (Some r) more =
        let next = more r.1 in
        (next.0, ap (λ text. r.0 ++ text) next.1 ∙ sym (append_assoc r.0 (lines st xs (after st x w) r.1) next.0))

-- the entries of one command more, with the moments among them
pub script-append : (st : Settings) (xs : List Told) (es own : List LogEvent) (ms more : List LogMoment) (t : Told) (w : World) → IsScript st xs w es ms
    → IsPart st t.asked (world_after st xs w) own more (verdict_on st t (world_after st xs w)) → IsScript st (xs ++ t ∷ []) w (es ++ own) (ms ++ more)
script-append st [] es own ms more t w script part = (
  own,
  [],
  more,
  [],
  ap (λ (front : List LogEvent). front ++ own) script.0 ∙ sym (append-nil own),
  ap (λ (front : List LogMoment). front ++ more) script.1 ∙ sym (append-nil more),
  part,
  (refl, refl),
)
script-append st (x ∷ xs) es own ms more t w (mine, rest, here, there, split, apart, first, others) part = (
  mine,
  rest ++ own,
  here,
  there ++ more,
  ap (λ (front : List LogEvent). front ++ own) split ∙ append_assoc mine rest own,
  ap (λ (front : List LogMoment). front ++ more) apart ∙ append_assoc here there more,
  first,
  script-append st xs rest own there more t (after st x w) others part,
)

-- ---- a step

-- what a command does in a world, with what was told of it
pub record IsStep (alone : Bool) (st : Settings) (w : World) (t : Told) (behind : Session) (was is : Log) (text : List ℕ) (refused : Bool) : Type 0 where
  pub right : IsRight st w t
  pub done : IsDone alone st t.asked w (world_in behind is) (verdict_on st t w) was is text refused

-- a step of a session that has that world, under the settings of its limits and its book
module _ (alone : Bool) (asked : Result Asked TextFault) (before behind : Option (List ShelfAnswer)) (faults count : ℕ) (old new : Session) (was is : Log) (text : List ℕ) (refused : Bool)
    (steps : StepsTo alone asked before behind faults count old new was is text refused) where
  -- what is told of it
  abbrev pub step_told : Told
  step_told = told asked steps.loads steps.answer

  pub step_in : (st : Settings) (w : World) → settings_in old was ≡ st → world_in old was ≡ w → IsStep alone st w step_told new was is text refused
  step_in st w so here =
      subst (λ (x : Settings). IsStep alone x w step_told new was is text refused) so
      (subst (λ (x : World). IsStep alone (settings_in old was) x step_told new was is text refused) here (record { right = steps.right; done = steps.done }))
