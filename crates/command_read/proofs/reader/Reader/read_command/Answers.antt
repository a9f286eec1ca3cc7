use Rattle.std.proofs.Common.{[]}
use Rattle.command_read.proofs.Handing.{tells_nothing, takes_halted, hands_halted}
use Rattle.command_read.proofs.reader.Reader.read_command.Goals as goal

pub returns-in-None-clause-goes : goal.returns-in-None-clause-goes
returns-in-None-clause-goes g c = λ going.
    let gone = c.item.ensures.goes in
    let halt = c.halt.ensures in (
      gone.0,
      gone.1,
      takes_halted _ _ _ _ c.args.self.now c.item.new.self c.halt.new.self gone.0 gone.1 gone.2 halt.stop halt.taken halt.ended,
      hands_halted c.args.self.now c.item.new.self c.halt.new.self gone.1 _ (tells_nothing [] c.args.names.now c.halt.result halt.told) gone.3 halt.left halt.number halt.ended,
      gone.4,
    )
