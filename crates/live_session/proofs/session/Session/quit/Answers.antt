use Rattle.std.proofs.Common.{◌∙◌, refl}
use Rattle.std.specs.Prelude.{false, true}
use Rattle.live_session.proofs.SessionSteps.{quits_so}
use Rattle.live_session.proofs.session.Session.quit.Goals as goal

pub returns-clause-answers : goal.returns-clause-answers
returns-clause-answers c = λ line s j.
    quits_so line s j (record { lines = c.new.result; refused = false; quit = true }) (c.new.ensures ∙ c.in_ok-reply_line.ensures) refl
