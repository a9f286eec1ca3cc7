use Rattle.std.proofs.Common.{◌≡◌, take, drop}
use Rattle.std.specs.List.{list_any}
use Rattle.std.specs.Prelude.{[], Some}
use Rattle.reg_ops.specs.declared.reg_op.RegOp.{RegOp}
use Rattle.reg_transform.specs.Found.{is_among}
use Rattle.reg_transform.specs.OperationFaults.{are_one, new_of, old_of, operations_fault}
use Rattle.reg_transform.specs.Registers.{RegisterName}
use Rattle.reg_transform.specs.Regs.{registers_in}
use Rattle.reg_transform.proofs.checking.check.Given as goal

abbrev pub invariant-loop-index : goal.invariant-loop-index
invariant-loop-index l = record {
  so_far : operations_fault (registers_in l.old) (registers_in l.new) (take l.index l.ops) (drop l.index l.ops)
      ≡ operations_fault (registers_in l.old) (registers_in l.new) [] l.ops;
  olds : (name : RegisterName) → is_among l.named.olds.keys name ≡ list_any (λ (e : RegOp). are_one (old_of e) (Some name)) (take l.index l.ops);
  news : (name : RegisterName) → is_among l.named.news.keys name ≡ list_any (λ (e : RegOp). are_one (new_of e) (Some name)) (take l.index l.ops);
}
