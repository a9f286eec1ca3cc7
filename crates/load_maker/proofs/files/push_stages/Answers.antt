use Rattle.std.proofs.Common.{arith}
use Rattle.ls_text.proofs.Pieces.{one_more}
use Rattle.load_maker.proofs.Lines.{one_stage}
use Rattle.load_maker.proofs.files.push_stages.Goals as goal

pub loop-stage-preserved : goal.loop-stage-preserved
loop-stage-preserved c = record {
  some = omega arith;
  within = omega arith;
  so_far = one_more _ _ _ _ _ _ c.in_ok-push_stage.ensures (one_stage c.loop-stage.stage c.args.last c.loop-stage-test.true) c.loop-stage.invariant.so_far;
}
