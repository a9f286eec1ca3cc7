-- Modules, instances and their jobs under other names (IEEE 1364-2005, 12.1 to 12.4).
use Rattle.std.specs.Prelude.{◌≡◌, List, map, Result, Ok, Err}
use Rattle.std.specs.List.{AllZip}
use Rattle.std.specs.Option.{option_map}
use Rattle.ls_text.specs.declared.fault.Fault.{Fault}
use Rattle.ls_text.specs.declared.name_id.NameId.{NameId}
use Rattle.typed_ir.specs.declared.instance.Instance.{Instance}
use Rattle.verilog_ast.specs.declared.module.Module.{Module}
use Rattle.verilog_ast.specs.Renaming.{declaration_as}
use Rattle.verilog_ast.specs.Views.{declaration_of}
use Rattle.width_rules.specs.Renaming.{fault_as}
use Rattle.unit_jobs.specs.Jobs.{InstanceJob}
use Rattle.version_swap.specs.RenamedFindings.{port_shape_as, shape_as}

-- the tree of one module is that of the other under other names
abbrev pub IsModuleAs : (NameId → NameId) → Module → Module → Type 0
IsModuleAs f m n = declaration_of n.body ≡ declaration_as f (declaration_of m.body)

abbrev pub instance_as : (NameId → NameId) → Instance → Instance
instance_as f x = record {
  place = record { parent = x.place.parent; name = f x.place.name };
  of_module = f x.of_module;
  parameters = x.parameters;
  clock = option_map f x.clock;
  ports = map (port_shape_as f) x.ports;
}

-- one job is the other under other names; the names within blocks are told by their texts, which stay
pub record IsJobAs (f : NameId → NameId) (j k : InstanceJob) : Type 0 where
  pub of_module : IsModuleAs f j.«module» k.«module»
  pub parameters : k.parameters ≡ j.parameters
  pub clock : k.clock ≡ option_map f j.clock
  pub children : k.children ≡ map (shape_as f) j.children
  pub names : k.names ≡ j.names

-- jobs, or a fault, each under other names
abbrev pub AreJobsAs : (NameId → NameId) → Result (List InstanceJob) Fault → Result (List InstanceJob) Fault → Type 0
AreJobsAs f (Ok js) (Ok ks) = AllZip (IsJobAs f) js ks
AreJobsAs f (Err e) (Err d) = d ≡ fault_as f e
AreJobsAs f found other = ⊥
