use Rattle.std.proofs.Common.{◌≡◌, rules}
use Rattle.version_swap.proofs.Firsts.{taken_in}
use Rattle.version_swap.proofs.keys.add.Goals as goal

pub returns : goal.returns
returns c =
    let same : c.in_ok-clone.field-0 ≡ c.args.key.now = search rules in
    taken_in c.args.key.now c.in_ok-clone.field-0 c.args.keys.now.keys c.insert.new.self.keys same c.in_ok-insert.ensures.keys
