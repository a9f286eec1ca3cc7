use Rattle.std.proofs.Common.{arith}
use Rattle.typed_ir.proofs.Lists.{drop_read}
use Rattle.version_swap.specs.FileViews.{files_of}
use Rattle.version_swap.specs.Files.{with_files, in_line_order}
use Rattle.version_swap.proofs.Ordered.{one_given}
use Rattle.version_swap.proofs.files.add_edited.Goals as goal

pub loop-one-preserved : goal.loop-one-preserved
loop-one-preserved c = record {
  paired = omega (arith, c.loop-one.invariant.paired, c.split_at.ensures.back_len, c.split_at-in-loop-one.ensures.back_len);
  rest = one_given (files_of c.loop-one.files.entries) (files_of c.add_all.new.files.entries) (files_of c.add.new.files.entries)
      (with_files (files_of c.args.files.now.entries) (in_line_order c.args.given.now c.args.loads.now c.args.loaded.now)) c.one-item.result
      _ _ c.loop-one.lines.now c.split_at-in-loop-one.result.1.now c.loop-one.texts.now c.split_at.result.0.now c.split_at.result.1.now
      c.before-first.result (drop_read c.args.given.now c.loop-one.one-index c.one-item.result c.loop-one-test.true c.one-item.is)
      c.before-first.ensures.count c.split_at.ensures.front c.split_at.ensures.back c.split_at-in-loop-one.ensures.back c.in_ok-add_all.ensures
      c.in_ok-add.ensures c.loop-one.invariant.rest;
}
