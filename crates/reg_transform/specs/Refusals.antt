-- What a refusal of operations says.
use Rattle.std.specs.Prelude.{◌≡◌, Option, Some}
use Rattle.reg_transform.specs.declared.op_fault.OpFault.{OpFault}
use Rattle.reg_transform.specs.declared.op_refusal.OpRefusal.{OpRefusal}
use Rattle.reg_transform.specs.declared.op_refusal.OpRefusal.TheVariants.{Breaks, NoMemory}
use Rattle.reg_transform.specs.OperationFaults.{RefusedOperation}

abbrev pub refused_of : OpFault → RefusedOperation
refused_of f = record {
  index = f.index;
  fault = record { code = f.code; shown = record { in_module = f.in_module.0; name = f.register.0 } };
}

-- this fault; want of memory says nothing
abbrev pub Refuses : OpRefusal → Option RefusedOperation → Type 0
Refuses (Breaks f) fault = fault ≡ Some (refused_of f)
Refuses NoMemory fault = Unit {0}
