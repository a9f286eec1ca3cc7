use Rattle.std.proofs.Common.{◌≡◌, ◌-◌, subst, arith}
use Rattle.word_steps.specs.Walks.{env_of}
use Rattle.design_steps.specs.Moves.{block}
use Rattle.design_steps.proofs.Copied.{block_made}
use Rattle.design_steps.proofs.carrying.carry.Goals as goal

pub returns : goal.returns
returns c =
    let by = c.copy_within.ensures.by_index in
    let many : c.place_above-end.result - c.args.from ≡ c.args.count = omega (arith, c.place_above-end.ensures) in
    subst (λ n. env_of c.copy_within.new.self ≡ block c.args.from c.args.to n (env_of c.args.words.now)) many
    (block_made c.args.from c.args.to (c.place_above-end.result - c.args.from) c.args.words.now c.copy_within.new.self by.0 by.1 by.2)
