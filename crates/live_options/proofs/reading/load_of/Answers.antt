use Rattle.std.proofs.Common.{ap, codes, ◌∙◌}
use Rattle.clap.specs.Words.{found_of}
use Rattle.clap.proofs.WalkLemmas.{first_value-rows}
use Rattle.live_options.specs.Words.{choice_within}
use Rattle.live_options.proofs.reading.load_of.Goals as goal

pub returns : goal.returns
returns c =
    c.choice_within.ensures ∙ ap (choice_within 1 4096) (c.get_str.ensures ∙ first_value-rows (found_of c.args.matches.now) (codes "load"))
