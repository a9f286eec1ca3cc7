-- What a turn does, by what is read.
use Rattle.std.proofs.Common.{◌≡◌, ◌⊎◌, inl, inr, ℕ, ◌<◌, Bool, true, false, List, [], ◌∷◌, Option, Some, None, Result, Ok, Err, refl, sym, ap, subst, arith}
use Rattle.std.specs.Prelude.{IfOk, OnErr}
use Rattle.ls_text.specs.Readings.{TextFault}
use Rattle.ls_port.specs.Causes.{Rose}
use Rattle.ls_port.specs.declared.shelf_answer.ShelfAnswer.{ShelfAnswer}
use Rattle.command_read.specs.Asking.{Asked}
use Rattle.command_read.specs.Readers.{stopped, still_of}
use Rattle.command_read.specs.Scripts.{is_quit}
use Rattle.command_read.specs.declared.reader.Reader.{Reader}
use Rattle.command_read.specs.declared.stop.Stop.TheVariants as stop
use Rattle.live_session.specs.Beside.{StandsBeside}
use Rattle.live_session.specs.Loads.{LosesAnswers}
use Rattle.live_session.specs.Logs.{Log}
use Rattle.live_session.specs.Sessions.{world, limits_of}
use Rattle.live_session.specs.Steps.{StepsTo, Stops, cut_short, lost, undone}
use Rattle.live_session.specs.Worlds.{World}
use Rattle.live_session.specs.declared.limits.Limits.{Limits}
use Rattle.live_session.specs.declared.reply.Reply.{Reply}
use Rattle.live_session.specs.declared.session.Session.{Session}
use Rattle.live_session.proofs.GivenLoads.{none_added}
use Rattle.livesim.specs.Turns.{Sources, Shelves, Reads, RunsOut, in_nothing, in_command, Ends, IsTurn, turn_of}
use Rattle.livesim.specs.declared.ending.Ending.{Ending}
use Rattle.livesim.specs.declared.ending.Ending.TheVariants.{Whole, Failed, TooMuch, NoMemory}
use Rattle.livesim.specs.declared.turn.Turn.{Turn}

module _ (from to : Sources) (shelf shelved : Shelves) (old new : Reader) (session read_in behind : Session) (was is : Log) (alone : Bool) where
  -- a command, by what the session answers to it
  pub command_turn : {E : Type 0} (asked : Asked) (r : Result Reply E) (t : Turn) → t ≡ turn_of r → Reads from to old new (Ok asked ∷ []) → stopped new ≡ None
      → still_of new < still_of old → ((grid : List ℕ) → world read_in grid ≡ world session grid) → limits_of read_in ≡ limits_of session
      → IfOk r (λ x. StepsTo alone (Ok asked) shelf.answers shelved.answers shelf.faults shelved.faults read_in behind was is x.lines x.refused)
      → IfOk r (λ x. x.quit ≡ is_quit (Ok asked))
      → OnErr r (Stops alone (Ok asked) shelf.answers shelved.answers shelf.faults shelved.faults read_in behind was is)
      → OnErr r (LosesAnswers read_in asked shelf.answers shelved.answers)
      → OnErr r ((shelved.faults ≡ shelf.faults) ⊎ Rose shelf.faults shelved.faults)
      → IsTurn from to shelf shelved old new session behind was is t
  command_turn asked (Ok x) t same_turn reads going falls same limits steps quits stops losing cause =
      subst (IsTurn from to shelf shelved old new session behind was is) (sym same_turn) (record {
        carries = record { alone = alone; asked = Ok asked; reads = reads; going = going; read_in = read_in; same = same; limits = limits; steps = steps };
        falls = falls;
        quits = quits;
      })
  command_turn asked (Err e) t same_turn reads going falls same limits steps quits stops losing cause =
      subst (IsTurn from to shelf shelved old new session behind was is) (sym same_turn) (record {
        told = Ok asked ∷ [];
        reads = reads;
        lost = losing.more;
        adds = losing.adds;
        first = losing.first;
        cause = cause;
        over = in_command alone (Ok asked) refl going read_in same limits stops;
        full = λ grid room. losing.reached grid
            (omega (arith, room, ap (λ (l : Limits). l.rooms.session) limits, ap (λ (w : World). w.charge) (same grid)));
      })

-- a line that is refused, which looks at nothing outside
pub refused_turn : {E : Type 0} (from to : Sources) (shelf : Shelves) (old new : Reader) (session read_in : Session) (j : Log) (fault : TextFault) (r : Result Reply E)
    (t : Turn) → t ≡ turn_of r → Reads from to old new (Err fault ∷ []) → stopped new ≡ None
    → still_of new < still_of old → ((grid : List ℕ) → world read_in grid ≡ world session grid) → limits_of read_in ≡ limits_of session
    → StandsBeside read_in j
    → IfOk r (λ x. (answers : Option (List ShelfAnswer)) (faults : ℕ) (j : Log) → StandsBeside read_in j
    → StepsTo true (Err fault) answers answers faults faults read_in read_in j j x.lines x.refused)
    → IfOk r (λ x. x.quit ≡ false)
    → IsTurn from to shelf shelf old new session read_in j j t
refused_turn from to shelf old new session read_in j fault (Ok x) t is reads going falls same limits beside steps quits =
    subst (IsTurn from to shelf shelf old new session read_in j j) (sym is) (record {
      carries = record {
        alone = true;
        asked = Err fault;
        reads = reads;
        going = going;
        read_in = read_in;
        same = same;
        limits = limits;
        steps = steps shelf.answers shelf.faults j beside;
      };
      falls = falls;
      quits = quits;
    })
refused_turn from to shelf old new session read_in j fault (Err e) t is reads going falls same limits beside steps quits =
    subst (IsTurn from to shelf shelf old new session read_in j j) (sym is) (record {
      told = Err fault ∷ [];
      reads = reads;
      lost = [];
      adds = none_added shelf.answers;
      first = tt;
      cause = inl refl;
      over = in_nothing (inl going) refl;
      full = λ grid room. refl;
    })

-- memory ran out in the reader
pub stopped_turn : (from to : Sources) (shelf : Shelves) (old new : Reader) (session behind : Session) (j : Log) → Reads from to old new [] → stopped new ≡ Some stop.NoMemory
    → Ends from to shelf shelf old new session behind j j NoMemory
stopped_turn from to shelf old new session behind j reads stops = record {
  told = [];
  reads = reads;
  lost = [];
  adds = none_added shelf.answers;
  first = tt;
  cause = inl refl;
  over = in_nothing (inr stops) refl;
  full = λ grid room. refl;
}

-- a turn keeps the settings of the book
stops_kept : (alone : Bool) (asked : Result Asked TextFault) (before behind : Option (List ShelfAnswer)) (faults count : ℕ) (old new : Session) (was is : Log)
    → Stops alone asked before behind faults count old new was is → is.settings ≡ was.settings
stops_kept alone asked before behind faults count old new was is (undone stayed world) = stayed.settings
stops_kept alone asked before behind faults count old new was is (cut_short command is_command short) = short.settings
stops_kept alone asked before behind faults count old new was is (lost text refused steps) = steps.done.settings

pub over_kept : (from to : Sources) (shelf shelved : Shelves) (old new : Reader) (session behind : Session) (was is : Log) (ending : Ending)
    → Ends from to shelf shelved old new session behind was is ending → is.settings ≡ was.settings
over_kept from to shelf shelved old new session behind was is Whole e = ap (λ (j : Log). j.settings) e.over.0.same
over_kept from to shelf shelved old new session behind was is Failed e = ap (λ (j : Log). j.settings) e.over.same
over_kept from to shelf shelved old new session behind was is TooMuch e = ap (λ (j : Log). j.settings) e.over.same
over_kept from to shelf shelved old new session behind was is NoMemory e = by e.over
  where
    by : RunsOut shelf shelved new session behind was is e.told → is.settings ≡ was.settings
    by (in_nothing stops same) = ap (λ (j : Log). j.settings) same
    by (in_command alone asked told going read_in same limits stops) =
        stops_kept alone asked shelf.answers shelved.answers shelf.faults shelved.faults read_in behind was is stops
