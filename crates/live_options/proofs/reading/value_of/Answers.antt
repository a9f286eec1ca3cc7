use Rattle.std.proofs.Common.{ap, ◌∙◌}
use Rattle.clap.specs.Words.{found_of}
use Rattle.clap.proofs.WalkLemmas.{first_value-rows}
use Rattle.live_options.specs.Words.{value_within}
use Rattle.live_options.proofs.reading.value_of.Goals as goal

pub returns : goal.returns
returns c =
    c.value_within.ensures
    ∙ ap (value_within c.args.default c.args.least c.args.most) (c.get_str.ensures ∙ first_value-rows (found_of c.args.matches.now) c.args.name.now)
