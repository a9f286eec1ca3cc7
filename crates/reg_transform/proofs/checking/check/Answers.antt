use Rattle.std.proofs.Common.{◌∙◌, take, sym, ap}
use Rattle.std.specs.Prelude.{Some}
use Rattle.reg_ops.specs.declared.reg_op.RegOp.{RegOp}
use Rattle.reg_transform.specs.Found.{greatest_in, is_among}
use Rattle.reg_transform.specs.Greatest.{fault_of, faults}
use Rattle.reg_transform.specs.OperationFaults.{are_one, new_of, old_of}
use Rattle.reg_transform.specs.Regs.{registers_in}
use Rattle.reg_transform.proofs.Checks.{fault_is, goes_on_at, noted_by, stops_at}
use Rattle.reg_transform.proofs.checking.check.Goals as goal

pub returns-in-Some-clause-refused : goal.returns-in-Some-clause-refused
returns-in-Some-clause-refused c =
    let old = registers_in c.args.old.now in
    let new = registers_in c.args.new.now in
    let ops = c.args.ops.now in
    let i = c.loop-index.index in
    let named = c.loop-index.named in
    sym c.loop-index.invariant.so_far
    ∙ stops_at old new ops i _ (fault_of c.in-Some.breach) c.loop-index-test.true
    (sym (fault_is old new (take i ops) (is_among named.olds.keys) (is_among named.news.keys) (greatest_in c.in_ok-before.before) (greatest_in c.in_ok-after.after) _
    c.loop-index.invariant.olds c.loop-index.invariant.news c.in_ok-before.ensures c.in_ok-after.ensures)
    ∙ sym c.in_ok-breach.ensures.fault ∙ ap faults c.in-Some.is)

pub loop-index-preserved : goal.loop-index-preserved
loop-index-preserved c =
    let old = registers_in c.args.old.now in
    let new = registers_in c.args.new.now in
    let ops = c.args.ops.now in
    let i = c.loop-index.index in
    let named = c.loop-index.named in
    record {
      so_far = goes_on_at old new ops i _ c.loop-index-test.true
          (sym (fault_is old new (take i ops) (is_among named.olds.keys) (is_among named.news.keys) (greatest_in c.in_ok-before.before) (greatest_in c.in_ok-after.after) _
          c.loop-index.invariant.olds c.loop-index.invariant.news c.in_ok-before.ensures c.in_ok-after.ensures)
          ∙ sym c.in_ok-breach.ensures.fault ∙ ap faults c.in-None.is)
          ∙ c.loop-index.invariant.so_far;
      olds = λ name.
          noted_by (λ (e : RegOp). are_one (old_of e) (Some name)) ops i _ _ _ c.loop-index-test.true (c.in_ok-breach.ensures.old name) (c.loop-index.invariant.olds name);
      news = λ name.
          noted_by (λ (e : RegOp). are_one (new_of e) (Some name)) ops i _ _ _ c.loop-index-test.true (c.in_ok-breach.ensures.new name) (c.loop-index.invariant.news name);
    }
