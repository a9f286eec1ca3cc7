use Rattle.std.proofs.Common.{drop}
use Rattle.module_registry.proofs.Lines.{ended}
use Rattle.module_registry.proofs.key_texts.push_parameters.Goals as goal

pub returns-in_default : goal.returns-in_default
returns-in_default c =
    ended c.args.names.now c.loop-id.text.items _ (drop c.loop-id.id-index c.args.ids.now) c.loop-id.rest.now c.in_default.ensures.cases c.loop-id.invariant
