use Rattle.std.proofs.Common.{◌≡◌, ◌+◌, length, sym, ◌∙◌, arith}
use Rattle.verilog_pre.proofs.Passed.{stays_on, none_stays, behind_size}
use Rattle.verilog_pre.proofs.left_open.stays_open.Goals as goal

pub returns-then-depth-eq0 : goal.returns-then-depth-eq0
returns-then-depth-eq0 c = sym (none_stays c.loop-rest.depth c.loop-rest.rest.now (grind arith)) ∙ c.loop-rest.invariant.same

pub loop-rest-preserved : goal.loop-rest-preserved
loop-rest-preserved c =
    let size : length c.behind-rest.result.now + c.passed-next.result.1 ≡ length c.loop-rest.rest.now =
    behind_size c.passed-next.result.1 c.loop-rest.rest.now c.behind-rest.result.now c.behind-rest.ensures c.passed-next.ensures.within in
    record {
      same =
          sym (stays_on c.loop-rest.depth c.passed-next.result.0 c.loop-rest.rest.now c.behind-rest.result.now c.passed-next.result.1 (grind arith) (grind arith) c.passed-next.ensures.some
          (grind arith) c.behind-rest.ensures)
          ∙ c.loop-rest.invariant.same;
      size = omega (arith, size, c.loop-rest.invariant.size);
      room = omega (arith, size, c.passed-next.ensures.some, c.passed-next.ensures.depth, c.loop-rest.invariant.room);
    }
