use Rattle.std.proofs.Common.{sym, ◌∙◌}
use Rattle.driver_rules.specs.Mentioned.{of_mention, unnamed}
use Rattle.driver_rules.proofs.Lists.{at_or_get, at_or_past}
use Rattle.driver_rules.proofs.showing.shown_at.Goals as goal

pub returns-then-number-mentions : goal.returns-then-number-mentions
returns-then-number-mentions c =
    c.of_mention.ensures ∙ sym (at_or_get of_mention (unnamed c.args.at) c.args.mentions.now c.args.number _ c.if-number-mentions.true)

pub returns-else-number-mentions : goal.returns-else-number-mentions
returns-else-number-mentions c = sym (at_or_past of_mention (unnamed c.args.at) c.args.mentions.now c.args.number c.if-number-mentions.false)
