use Rattle.std.proofs.Common.{◌∷◌, ◌++◌, [], ap, ◌∙◌}
use Rattle.gen_unroll.proofs.Rowing.{Row, row_pushed}
use Rattle.gen_unroll.proofs.adding.push_row.Goals as goal

pub returns : goal.returns
returns c =
    row_pushed c.args.blocks.now.items c.args.index c.args.signal c.index_mut.result.now c.push.new.self c.requires
    (c.in_ok-push.ensures.items ∙ ap (λ (v : Row). v.items ++ c.args.signal ∷ []) c.index_mut.ensures.value)
