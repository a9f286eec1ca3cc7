use Rattle.std.proofs.Common.{[], subst, sym}
use Rattle.std.specs.Prelude.{IfOk}
use Rattle.ls_text.specs.Readings.{fault_view}
use Rattle.command_read.specs.Spoken.{edited}
use Rattle.live_session.specs.Beside.{settings_in, world_in}
use Rattle.live_session.specs.Loaded.{result_of}
use Rattle.live_session.specs.Taken.{TakesBlock}
use Rattle.live_session.specs.Worlds.{refused_text}
use Rattle.live_session.specs.declared.loads.Loads.{Loads}
use Rattle.live_session.proofs.SessionSteps.{none_is_new, refused_loads}
use Rattle.live_session.proofs.session.Session.take.Goals as goal

pub returns-in-Refused-clause-takes : goal.returns-in-Refused-clause-takes
returns-in-Refused-clause-takes g c =
    let s = c.args.self.now in
    let j = c.args.book.now in
    let block = edited s.names c.args.edit.now in
    subst (λ (l : Loads). IfOk c.refused_text.result
    (λ r. TakesBlock (settings_in s j) block (result_of s.names l) (world_in s j) (world_in s j) j j r.lines
    r.refused)) (sym c.in-Refused.is)
    (refused_loads block s j (refused_text [] 0 (fault_view s.names c.in-Refused.fault)) c.refused_text.result c.refused_text.ensures)

pub returns-in-Refused-clause-loses : goal.returns-in-Refused-clause-loses
returns-in-Refused-clause-loses g c =
    let s = c.args.self.now in
    let j = c.args.book.now in
    none_is_new (settings_in s j) (edited s.names c.args.edit.now) (result_of s.names c.args.loads.now) (world_in s j) j c.refused_text.result
