use Rattle.std.proofs.Common.{◌≤◌, length, ap, ◌∙◌, arith}
use Rattle.std.proofs.lemmas.List.{drop_all}
use Rattle.command_read.specs.Readers.{left}
use Rattle.command_read.proofs.Handing.{hands_open}
use Rattle.command_read.proofs.Still.{still_open}
use Rattle.command_read.proofs.reader.Reader.hand_out.Goals as goal

pub returns-in-Open-clause-hands : goal.returns-in-Open-clause-hands
returns-in-Open-clause-hands c =
    let all : length (left c.args.self.now) ≤ length c.left-rest.result.now = omega (arith, ap length c.left-rest.ensures) in
    hands_open c.args.self.now c.pass-in-Open.new.self c.args.item c.in-Open.is c.requires
    (c.pass-in-Open.ensures.held ∙ drop_all (length c.left-rest.result.now) (left c.args.self.now) all) c.pass-in-Open.ensures.ended

pub returns-in-Open-clause-still : goal.returns-in-Open-clause-still
returns-in-Open-clause-still c =
    let all : length (left c.args.self.now) ≤ length c.left-rest.result.now = omega (arith, ap length c.left-rest.ensures) in
    still_open c.args.self.now c.pass-in-Open.new.self c.args.item c.in-Open.is c.requires
    (c.pass-in-Open.ensures.held ∙ drop_all (length c.left-rest.result.now) (left c.args.self.now) all) c.pass-in-Open.ensures.taken
