use Rattle.std.proofs.Common.{map, sym, subst, arith}
use Rattle.std.specs.Prelude.{Ok, Option}
use Rattle.ls_text.proofs.Options.{no_value}
use Rattle.command_read.specs.Spoken.{edited}
use Rattle.module_registry.specs.Views.{entries_of}
use Rattle.checkpoint_book.proofs.Draws.{when_err}
use Rattle.live_session.specs.Begins.{Begins}
use Rattle.live_session.specs.Beside.{Stands, settings_in, world_in}
use Rattle.live_session.specs.Files.{text_file}
use Rattle.live_session.specs.Logs.{marks_of}
use Rattle.live_session.specs.declared.running.Running.{Running}
use Rattle.live_session.proofs.SessionCalls.{fresh_accepted, fresh_behind, fresh_refused, is_refused, stands_none}
use Rattle.live_session.proofs.SessionSteps.{fresh_world}
use Rattle.live_session.proofs.session.Session.begin.Goals as goal

pub begin-requires-clause-room : goal.begin-requires-clause-room
begin-requires-clause-room g c κs within = omega (arith, c.requires.room)

pub begin-requires-clause-stands : goal.begin-requires-clause-stands
begin-requires-clause-stands g c κs within =
    let s = c.args.self.now in
    subst (λ (r : Option Running). Stands s.limits r c.args.book.now) (no_value s.running c.requires.none) c.requires.beside.stands

pub returns-in_err-begun-clause-loses : goal.returns-in_err-begun-clause-loses
returns-in_err-begun-clause-loses g c =
    let s = c.args.self.now in
    let was = c.args.book.now in
    let is = c.begin.new.book in
    when_err _ (fresh_behind (settings_in s was) (edited s.names c.args.edit.now) (Ok (map (text_file s.names) c.args.loaded.now)) _ _ was is
    (fresh_world s.names (entries_of s.registry) (marks_of was) s.running c.requires.none)
    (fresh_world c.begin.new.names (entries_of c.begin.new.registry) (marks_of is) s.running c.requires.none)
    c.in_err-begun.ensures.settings c.in_err-begun.ensures.before)

pub returns-in_err-begun-clause-beside : goal.returns-in_err-begun-clause-beside
returns-in_err-begun-clause-beside g c =
    let s = c.args.self.now in
    record {
      stands = stands_none s.limits s.running c.args.book.now c.begin.new.book c.in_err-begun.ensures.settings c.in_err-begun.ensures.before
          c.requires.beside.stands;
      held = c.begin.ensures.held;
    }

pub returns-in-Refused-clause-takes : goal.returns-in-Refused-clause-takes
returns-in-Refused-clause-takes g c =
    let s = c.args.self.now in
    let was = c.args.book.now in
    let is = c.begin.new.book in
    fresh_refused c.begin.new.names s.limits (edited s.names c.args.edit.now) (map (text_file s.names) c.args.loaded.now)
    (entries_of c.begin.new.registry) was is c.in_ok-begun.begun c.in-Refused.reply (world_in s was) _
    (fresh_world s.names (entries_of s.registry) (marks_of was) s.running c.requires.none)
    (fresh_world c.begin.new.names (entries_of c.begin.new.registry) (marks_of is) s.running c.requires.none)
    c.in-Refused.is c.in_ok-begun.ensures.begins

pub returns-in-Refused-clause-goes_on : goal.returns-in-Refused-clause-goes_on
returns-in-Refused-clause-goes_on g c =
    let s = c.args.self.now in
    (is_refused c.begin.new.names s.limits (edited s.names c.args.edit.now) (map (text_file s.names) c.args.loaded.now)
    (entries_of c.begin.new.registry) c.args.book.now c.begin.new.book c.in_ok-begun.begun c.in-Refused.reply c.in-Refused.is
    c.in_ok-begun.ensures.begins).goes_on

pub returns-in-Refused-clause-beside : goal.returns-in-Refused-clause-beside
returns-in-Refused-clause-beside g c =
    let s = c.args.self.now in
    let so = is_refused c.begin.new.names s.limits (edited s.names c.args.edit.now) (map (text_file s.names) c.args.loaded.now)
    (entries_of c.begin.new.registry) c.args.book.now c.begin.new.book c.in_ok-begun.begun c.in-Refused.reply c.in-Refused.is
    c.in_ok-begun.ensures.begins in
    record {
      stands = subst (λ (r : Option Running). Stands s.limits r c.begin.new.book) (sym (no_value s.running c.requires.none)) so.stands;
      held = c.begin.ensures.held;
    }

pub returns-in-Accepted-clause-takes : goal.returns-in-Accepted-clause-takes
returns-in-Accepted-clause-takes g c =
    let s = c.args.self.now in
    let was = c.args.book.now in
    let is = c.begin.new.book in
    let so = subst (Begins c.begin.new.names s.limits (edited s.names c.args.edit.now) (map (text_file s.names) c.args.loaded.now)
    (entries_of c.begin.new.registry) was is) c.in-Accepted.is c.in_ok-begun.ensures.begins in
    fresh_accepted c.begin.new.names s.limits (edited s.names c.args.edit.now) (map (text_file s.names) c.args.loaded.now)
    (entries_of c.begin.new.registry) was is c.in-Accepted.running c.in-Accepted.line.items c.accepted.result (world_in s was)
    (fresh_world s.names (entries_of s.registry) (marks_of was) s.running c.requires.none) so c.accepted.ensures

pub returns-in-Accepted-clause-beside : goal.returns-in-Accepted-clause-beside
returns-in-Accepted-clause-beside g c =
    let s = c.args.self.now in
    let so = subst (Begins c.begin.new.names s.limits (edited s.names c.args.edit.now) (map (text_file s.names) c.args.loaded.now)
    (entries_of c.begin.new.registry) c.args.book.now c.begin.new.book) c.in-Accepted.is c.in_ok-begun.ensures.begins in
    record { stands = so.stands; held = c.begin.ensures.held }
