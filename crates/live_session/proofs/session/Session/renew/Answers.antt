use Rattle.std.proofs.Common.{◌∙◌, map, refl, ap}
use Rattle.std.specs.Prelude.{Ok}
use Rattle.ls_text.proofs.Growth.{grown_text}
use Rattle.command_read.specs.Spoken.{edited}
use Rattle.module_registry.specs.Views.{entries_of}
use Rattle.live_session.specs.Beside.{settings_in, world_in}
use Rattle.live_session.specs.Files.{text_file}
use Rattle.live_session.specs.Logs.{marks_of}
use Rattle.live_session.specs.Sessions.{running_world, world_of}
use Rattle.live_session.proofs.SessionCalls.{charge_there, kept_there, stands_there}
use Rattle.live_session.proofs.SessionSteps.{loses_err, takes_ok}
use Rattle.live_session.proofs.session.Session.renew.Goals as goal

pub renew-requires-clause-kept : goal.renew-requires-clause-kept
renew-requires-clause-kept g c κs within =
    let s = c.args.self.now in
    kept_there s.names s.limits s.running c.in-Some.running c.in-Some.is s.kept

pub renew-requires-clause-stands : goal.renew-requires-clause-stands
renew-requires-clause-stands g c κs within =
    let s = c.args.self.now in
    stands_there s.limits s.running c.in-Some.running c.args.book.now c.in-Some.is c.requires.beside.stands

pub renew-requires-clause-room : goal.renew-requires-clause-room
renew-requires-clause-room g c κs within =
    let s = c.args.self.now in
    charge_there s.names (entries_of s.registry) (marks_of c.args.book.now) s.running c.in-Some.running s.limits.rooms.session c.in-Some.is
    c.requires.room

pub invariant_of-self-clause-clock_is : goal.invariant_of-self-clause-clock_is
invariant_of-self-clause-clock_is g c =
    let s = c.args.self.now in
    grown_text s.names c.renew.new.names s.clock.0 c.renew.ensures.grows s.clock_in ∙ s.clock_is

pub returns-clause-takes : goal.returns-clause-takes
returns-clause-takes g c =
    let s = c.args.self.now in
    let j = c.args.book.now in
    let behind = world_of c.renew.new.names (entries_of c.renew.new.registry) (marks_of c.renew.new.book) c.renew.new.running in
    takes_ok (settings_in s j) (edited s.names c.args.edit.now) (Ok (map (text_file s.names) c.args.loaded.now))
    (world_of s.names (entries_of s.registry) (marks_of j) c.in-Some.running) behind (world_in s j) behind j c.renew.new.book c.renew.result
    (ap (running_world s.names (entries_of s.registry) (marks_of j)) c.in-Some.is) refl c.renew.ensures.takes

pub returns-clause-loses : goal.returns-clause-loses
returns-clause-loses g c =
    let s = c.args.self.now in
    let j = c.args.book.now in
    let behind = world_of c.renew.new.names (entries_of c.renew.new.registry) (marks_of c.renew.new.book) c.renew.new.running in
    loses_err (settings_in s j) (edited s.names c.args.edit.now) (Ok (map (text_file s.names) c.args.loaded.now))
    (world_of s.names (entries_of s.registry) (marks_of j) c.in-Some.running) behind (world_in s j) behind j c.renew.new.book c.renew.result
    (ap (running_world s.names (entries_of s.registry) (marks_of j)) c.in-Some.is) refl c.renew.ensures.loses

pub returns-clause-beside : goal.returns-clause-beside
returns-clause-beside g c = record { stands = c.renew.ensures.stands; held = c.renew.ensures.held }
