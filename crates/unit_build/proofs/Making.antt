-- The unit that is made of the parts.
use Rattle.std.proofs.Common.{◌≡◌, List, [], Bool, map, Result, Ok, sym, ◌∙◌, ap, ap₂, subst}
use Rattle.width_rules.proofs.Reading.{left_none}
use Rattle.driver_rules.specs.Driven.{AreNarrowItems, HasRoles, IsDriven}
use Rattle.driver_rules.specs.DriverFaults.{driver_faults}
use Rattle.gen_unroll.specs.declared.step.Step.{Step}
use Rattle.gen_unroll.specs.Values.{unless}
use Rattle.gen_unroll.specs.Views.{step_of}
use Rattle.gen_unroll.proofs.Values.{no_fault}
use Rattle.module_registry.specs.declared.build_job.BuildJob.{BuildJob}
use Rattle.module_registry.specs.Building.{Built}
use Rattle.typed_ir.specs.declared.child_shape.ChildShape.{ChildShape}
use Rattle.typed_ir.specs.declared.unit_parts.UnitParts.{UnitParts}
use Rattle.typed_ir.specs.Items.{PlacedItems, unit_of}
use Rattle.typed_ir.specs.OwnWidths.{IsSized}
use Rattle.typed_ir.specs.Trees.{SizedUnit, IsUnit}
use Rattle.typed_ir.specs.Units.{sized_unit}
use Rattle.gen_unroll.specs.declared.signal_table.ModuleSignals.{ModuleSignals}
use Rattle.gen_unroll.specs.ModuleViews.{table_in}
use Rattle.gen_unroll.specs.Numbers.{module_table}
use Rattle.unit_build.specs.Building.{module_of, job_faults, placed_items, unit_faults, unit_with}
use Rattle.unit_build.proofs.Sound.{narrow, roles, unit, sized}

pub is_built : (job : BuildJob) (m : ModuleSignals) (settled : List Bool) (steps : List Step) (parts : UnitParts) (p : PlacedItems)
    → unit_faults job (table_in m) settled (map step_of steps) ≡ [] → p ≡ placed_items job (table_in m) settled (map step_of steps)
    → sized_unit parts ≡ unit_of p → parts.shapes ≡ job.children
    → unit_with job (table_in m) settled (map step_of steps) ≡ Ok (record { unit = sized_unit parts; shapes = parts.shapes })
is_built job m settled steps parts p none placed made shapes =
    no_fault (unit_faults job (table_in m) settled (map step_of steps)) (record { unit = unit_of (placed_items job (table_in m) settled (map step_of steps)); shapes = job.children }) none
    ∙ ap₂ (λ (u : SizedUnit) (ss : List ChildShape). Ok (record { unit = u; shapes = ss })) (sym (made ∙ ap unit_of placed)) (sym shapes)

pub is_sound : (job : BuildJob) (m : ModuleSignals) (settled : List Bool) (steps : List Step) (parts : UnitParts) (p : PlacedItems)
    → module_table (module_of job) (map step_of steps) ≡ Ok (table_in m) → unit_faults job (table_in m) settled (map step_of steps) ≡ []
    → p ≡ placed_items job (table_in m) settled (map step_of steps) → (AreNarrowItems p → HasRoles p → IsDriven (unit_of p)) → sized_unit parts ≡ unit_of p
    → IsUnit (sized_unit parts)
is_sound job m settled steps parts p table none placed driven made =
    let ss = map step_of steps in
    let there = placed_items job (table_in m) settled ss in
    let item = left_none (job_faults job (table_in m) settled ss) (driver_faults there) none in
    let goes : AreNarrowItems there → HasRoles there → IsDriven (unit_of there) =
    subst (λ (q : PlacedItems). AreNarrowItems q → HasRoles q → IsDriven (unit_of q)) placed driven in
    subst IsUnit (sym (made ∙ ap unit_of placed)) (unit job m settled steps table (goes (narrow job m settled steps item) (roles job m settled steps table)))

pub is_sized : (job : BuildJob) (m : ModuleSignals) (settled : List Bool) (steps : List Step) (parts : UnitParts) (p : PlacedItems)
    → unit_faults job (table_in m) settled (map step_of steps) ≡ [] → p ≡ placed_items job (table_in m) settled (map step_of steps)
    → sized_unit parts ≡ unit_of p → parts.shapes ≡ job.children → IsSized parts
is_sized job m settled steps parts p none placed made shapes =
    let ss = map step_of steps in
    sized job m settled steps parts (made ∙ ap unit_of placed) shapes
    (left_none (job_faults job (table_in m) settled ss) (driver_faults (placed_items job (table_in m) settled ss)) none)
