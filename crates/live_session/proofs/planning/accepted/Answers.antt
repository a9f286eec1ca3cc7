use Rattle.module_registry.specs.Views.{entries_of}
use Rattle.std.proofs.Common.{refl}
use Rattle.version_swap.specs.Operations.{ops_of}
use Rattle.live_session.proofs.Renewing.{loses_its_line, says_so}
use Rattle.live_session.proofs.planning.accepted.Goals as goal

pub returns-in-Ok-clause-says : goal.returns-in-Ok-clause-says
returns-in-Ok-clause-says g c =
    let p = c.args.planned in
    says_so (ops_of c.args.lines.now) p.texts p.design p.keys p.built p.kept c.in-Ok.from c.args.running.now c.reloaded.new.running c.args.book.now
    c.reloaded.new.book c.accepting.result c.in-Ok.ensures.goes_on c.accepting.ensures

pub returns-in-Ok-clause-loses : goal.returns-in-Ok-clause-loses
returns-in-Ok-clause-loses g c =
    let p = c.args.planned in
    let es = entries_of c.args.registry.now in
    loses_its_line (ops_of c.args.lines.now) p.texts p.design p.keys c.args.held es es c.in-Ok.from c.args.running.now c.reloaded.new.running
    c.args.book.now c.reloaded.new.book c.accepting.result refl c.in-Ok.ensures.goes_on
