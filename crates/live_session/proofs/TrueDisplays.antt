-- A display of a design for which there is room, and whose entry says that all is settled, shows the true registers, whatever came before it.
use Rattle.std.proofs.Common.{◌≡◌, ◌∙◌, ℕ, ◌+◌, ◌<◌, cond, List, [], ◌∷◌, ◌++◌, ap, arith}
use Rattle.std.specs.Prelude.{None, Some, Ok, Err}
use Rattle.std.proofs.lemmas.Bool.{le-ltb}
use Rattle.wave_report.specs.Replies.{show_text}
use Rattle.command_read.specs.Asking.{Shows}
use Rattle.live_session.specs.Logs.{LogMoment}
use Rattle.live_session.specs.Replies.{answer_text, reply}
use Rattle.live_session.specs.Settings.{Settings}
use Rattle.live_session.specs.Shown.{answer_of, display_lines, display_text, last_values}
use Rattle.live_session.specs.Spelled.{Spelled}
use Rattle.live_session.specs.Tables.{table_lines, true_registers}
use Rattle.live_session.specs.Verdicts.{Told, charged, show_verdict}
use Rattle.live_session.specs.Worlds.{World, refused_at, cycle}

-- where there is room
has_room : (st : Settings) (w : World) (line : ℕ) → w.charge < st.room → charged st w line 1 ≡ Ok (record w { charge = w.charge + 1 })
has_room st w line room =
    ap (λ b. cond b (Err (refused_at 68 line [])) (Ok (record w { charge = w.charge + 1 }))) (le-ltb st.room (w.charge + 1) (omega (arith, room)))

pub true_display : (st : Settings) (w : World) (t : Told) (line : ℕ) (prefix : List ℕ) (design : Spelled) (m : LogMoment) (ms : List LogMoment)
    → t.asked ≡ Ok (Shows line prefix) → w.design ≡ Some design → w.charge < st.room → answer_of m.entry ≡ None
    → reply st t w (m ∷ ms)
    ≡ Some (show_text (cycle w) w.version ++ table_lines design prefix design.flat.registers (true_registers design w.record_ (cycle w)), ms)
true_display st w t line prefix design m ms asked is room settled =
    let shown : World = record w { charge = w.charge + 1 } in
    ap (λ c. reply st (record { asked = c; loads = t.loads; answer = t.answer }) w (m ∷ ms)) asked
    ∙ ap (λ d. answer_text st (Ok (Shows line prefix)) w (show_verdict st w line d) (m ∷ ms)) is
    ∙ ap (λ v. answer_text st (Ok (Shows line prefix)) w v (m ∷ ms)) (has_room st w line room)
    ∙ ap (λ d. Some (display_text shown prefix d (answer_of m.entry) (last_values m.book), ms)) is
    ∙ ap (λ a. Some (display_lines shown prefix design a (last_values m.book), ms)) settled
