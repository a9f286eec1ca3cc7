-- A display that is refused, since the room of its session is too small.
use Rattle.std.proofs.Common.{ℕ, ◌+◌, ◌<◌, List, [], Result, Ok, Err, refl}
use Rattle.std.specs.Prelude.{IfOk, OnErr}
use Rattle.ls_text.specs.Texts.{HasEachOnce}
use Rattle.command_read.specs.Asking.{Asked, Shows}
use Rattle.module_registry.specs.Entries.{Entry}
use Rattle.live_session.specs.Beside.{settings_by}
use Rattle.live_session.specs.Logs.{Log, marks_of}
use Rattle.live_session.specs.Sessions.{world_of}
use Rattle.live_session.specs.Turns.{AnswersIn, Refuses, StopsIn}
use Rattle.live_session.specs.Worlds.{refused_at}
use Rattle.live_session.specs.declared.limits.Limits.{Limits}
use Rattle.live_session.specs.declared.reply.Reply.{Reply}
use Rattle.live_session.specs.declared.running.Running.{Running}
use Rattle.live_session.proofs.ChargedShows.{no_room}
use Rattle.live_session.proofs.Judged.{refuses_in, stops_still}
use Rattle.live_session.proofs.Standing.{adds_nothing}

module _ {E : Type 0} (names : List (List ℕ)) (once : HasEachOnce names) (limits : Limits) (r : Running) (j : Log) (line : ℕ)
    (answer : Result Reply E) (says : IfOk answer (Refuses (refused_at 68 line []))) where
  pub show_refused : (prefix : List ℕ) → limits.rooms.session < r.charge + 1 → IfOk answer (AnswersIn names limits (Shows line prefix) r r j j)
  show_refused prefix full =
      refuses_in {E = E} names once limits (Shows line prefix) r r j answer (refused_at 68 line [])
      (λ (entries : List Entry). no_room (settings_by limits j) (world_of names entries (marks_of j) r) line 1 full)
      (λ (entries : List Entry) (grid : List ℕ). refl) says

-- memory ran out where nothing was done yet
pub refused_stops : {E : Type 0} (names : List (List ℕ)) (limits : Limits) (asked : Asked) (r : Running) (j : Log) (answer : Result Reply E)
    → OnErr answer (StopsIn names limits asked r r j j)
refused_stops names limits asked r j (Ok reply) = tt
refused_stops names limits asked r j (Err e) =
    stops_still names limits asked r r j j (adds_nothing j) (λ (entries : List Entry) (grid : List ℕ). refl)
