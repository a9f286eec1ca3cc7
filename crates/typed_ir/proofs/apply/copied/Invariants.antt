use Rattle.std.proofs.Common.{◌≡◌}
use Rattle.typed_ir.specs.Sized.{copies}
use Rattle.typed_ir.proofs.apply.copied.Given as goal

abbrev pub invariant-loop-done : goal.invariant-loop-done
invariant-loop-done l = record {
  value : l.all ≡ copies l._done l.x.width l.x.value;
}
