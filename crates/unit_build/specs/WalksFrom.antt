-- Where a walk over the steps of a module begins, and how far a step goes.
use Rattle.std.specs.Prelude.{ℕ, Bool, List, length}
use Rattle.typed_ir.specs.declared.child_shape.ChildShape.{ChildShape}
use Rattle.verilog_ast.specs.Items.{ModuleDeclaration}
use Rattle.gen_unroll.specs.Steps.{ModuleStep, Item}
use Rattle.gen_unroll.specs.Signals.{NamedSignal}
use Rattle.gen_unroll.specs.UnitReaches.{unit_reach_in, writer_of}
use Rattle.unit_build.specs.Walks.{Walk, instances_in}

-- how many instances a step has
abbrev pub instance_count : ModuleStep → ℕ
instance_count (Item x) = length (instances_in x)
instance_count other = 0

-- at the beginning of a module with these shapes of its instances
abbrev pub walk_from : (settled : ℕ → Bool) → List NamedSignal → ModuleDeclaration → List ChildShape → Walk
walk_from settled xs m shapes = record { here = unit_reach_in (writer_of settled xs) xs m; child = 0; left = shapes }
