use Rattle.std.proofs.Common.{◌≡◌, ◌≤◌, length, drop}
use Rattle.reg_transform.specs.Carrying.{created, renamed}
use Rattle.reg_transform.specs.Found.{created_in, renamed_in}
use Rattle.reg_transform.specs.Registers.{RegisterName}
use Rattle.reg_transform.proofs.changes.changes_of.Given as goal

abbrev pub invariant-loop-left : goal.invariant-loop-left
invariant-loop-left l = record {
  within : l.left ≤ length l.ops;
  creates : (name : RegisterName) → created_in l.changes name ≡ created (drop l.left l.ops) name;
  renames : (name : RegisterName) → renamed_in l.changes name ≡ renamed (drop l.left l.ops) name;
}

abbrev pub decreases-loop-left : goal.decreases-loop-left
decreases-loop-left l = l.left
