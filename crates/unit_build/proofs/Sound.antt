-- What the unit of a job keeps.
use Rattle.std.proofs.Common.{◌≡◌, List, [], Bool, map, Ok}
use Rattle.driver_rules.specs.Driven.{AreNarrowItems, HasRoles, IsDriven}
use Rattle.gen_unroll.specs.declared.step.Step.{Step}
use Rattle.gen_unroll.specs.Views.{step_of}
use Rattle.module_registry.specs.declared.build_job.BuildJob.{BuildJob}
use Rattle.typed_ir.specs.declared.unit_parts.UnitParts.{UnitParts}
use Rattle.typed_ir.specs.Items.{unit_of}
use Rattle.typed_ir.specs.OwnWidths.{child_widths, IsSized}
use Rattle.typed_ir.specs.Trees.{IsUnit}
use Rattle.typed_ir.specs.Units.{sized_unit}
use Rattle.gen_unroll.specs.declared.signal_table.ModuleSignals.{ModuleSignals}
use Rattle.gen_unroll.specs.ModuleViews.{signals_in, table_in}
use Rattle.gen_unroll.specs.Numbers.{module_table}
use Rattle.gen_unroll.specs.Sound.{widths_of}
use Rattle.gen_unroll.specs.UnitReaches.{unit_reach_in, writer_of, is_settled}
use Rattle.gen_unroll.proofs.Numbered.{ordered}
use Rattle.unit_build.specs.Building.{module_of, beginning, job_faults, job_items, job_initials, placed_items}
use Rattle.unit_build.proofs.ConnectedNumbers.{begins_over}
use Rattle.unit_build.proofs.ConnectionLaws.{walk_children, walk_into, walk_ports}
use Rattle.unit_build.proofs.Fits.{begun}
use Rattle.unit_build.proofs.ItemLaws.{AreLegalItems}
use Rattle.unit_build.proofs.Narrow.{signals_few, items_narrow}
use Rattle.unit_build.proofs.Roles.{has_roles}
use Rattle.unit_build.proofs.Standing.{placed_unit, parts_sized}
use Rattle.unit_build.proofs.WalkedItems.{walk_legal}

-- the widths of its items agree
items_legal : (job : BuildJob) (m : ModuleSignals) (settled : List Bool) (steps : List Step) → job_faults job (table_in m) settled (map step_of steps) ≡ []
    → AreLegalItems (widths_of (signals_in m)) (child_widths job.children) (job_items job (table_in m) settled (map step_of steps))
items_legal job m settled steps none =
    let w = writer_of (is_settled settled) (signals_in m) in
    walk_legal m w job.children steps (beginning job (table_in m) settled) (begins_over job.children (unit_reach_in w (signals_in m) (module_of job)))
    (begun m w (module_of job)) none

pub narrow : (job : BuildJob) (m : ModuleSignals) (settled : List Bool) (steps : List Step) → job_faults job (table_in m) settled (map step_of steps) ≡ []
    → AreNarrowItems (placed_items job (table_in m) settled (map step_of steps))
narrow job m settled steps none =
    items_narrow (job_items job (table_in m) settled (map step_of steps)) (widths_of (signals_in m)) (child_widths job.children) (signals_few m)
    (items_legal job m settled steps none)

pub roles : (job : BuildJob) (m : ModuleSignals) (settled : List Bool) (steps : List Step) → module_table (module_of job) (map step_of steps) ≡ Ok (table_in m)
    → HasRoles (placed_items job (table_in m) settled (map step_of steps))
roles job m settled steps table =
    has_roles job (table_in m) (job_items job (table_in m) settled (map step_of steps)) (job_initials job (table_in m) settled (map step_of steps))
    (ordered (module_of job) (map step_of steps) (table_in m) table).all

pub unit : (job : BuildJob) (m : ModuleSignals) (settled : List Bool) (steps : List Step) → module_table (module_of job) (map step_of steps) ≡ Ok (table_in m)
    → IsDriven (unit_of (placed_items job (table_in m) settled (map step_of steps))) → IsUnit (unit_of (placed_items job (table_in m) settled (map step_of steps)))
unit job m settled steps table driven =
    placed_unit job (table_in m) (job_items job (table_in m) settled (map step_of steps)) (job_initials job (table_in m) settled (map step_of steps))
    (ordered (module_of job) (map step_of steps) (table_in m) table)
    (walk_ports (writer_of (is_settled settled) (signals_in m)) (signals_in m) (beginning job (table_in m) settled) (map step_of steps)) driven

pub sized : (job : BuildJob) (m : ModuleSignals) (settled : List Bool) (steps : List Step) (parts : UnitParts)
    → sized_unit parts ≡ unit_of (placed_items job (table_in m) settled (map step_of steps)) → parts.shapes ≡ job.children
    → job_faults job (table_in m) settled (map step_of steps) ≡ [] → IsSized parts
sized job m settled steps parts made shapes none =
    let w = writer_of (is_settled settled) (signals_in m) in
    let over = begins_over job.children (unit_reach_in w (signals_in m) (module_of job)) in
    parts_sized job (table_in m) (job_items job (table_in m) settled (map step_of steps)) (job_initials job (table_in m) settled (map step_of steps)) parts made shapes
    (items_legal job m settled steps none)
    (walk_children job.children w (signals_in m) (beginning job (table_in m) settled) (map step_of steps) over)
    (walk_into job.children w (signals_in m) (beginning job (table_in m) settled) (map step_of steps) over)
