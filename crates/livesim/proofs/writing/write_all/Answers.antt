use Rattle.std.proofs.Common.{◌∙◌}
use Rattle.livesim.proofs.Written.{wrote_more}
use Rattle.livesim.proofs.writing.write_all.Goals as goal

pub loop-rest-preserved : goal.loop-rest-preserved
loop-rest-preserved g c =
    let so_far = c.loop-rest.invariant.split in
    record {
      split = wrote_more _ _ _ so_far.0 _ _ _ so_far.1 so_far.2 c.in_ok-n.ensures.appended;
      kept = c.in_ok-n.ensures.cause.kept ∙ c.loop-rest.invariant.kept;
    }
