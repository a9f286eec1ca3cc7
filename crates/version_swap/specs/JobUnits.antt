-- The units of jobs.
use Rattle.std.specs.Prelude.{◌≡◌, Ok}
use Rattle.typed_ir.specs.declared.unit_parts.UnitParts.{UnitParts}
use Rattle.typed_ir.specs.Units.{sized_unit}
use Rattle.module_registry.specs.declared.build_job.BuildJob.{BuildJob}
use Rattle.unit_build.specs.Building.{built}

-- building gives the unit for the job, without a fault
abbrev pub IsUnitOf : BuildJob → UnitParts → Type 0
IsUnitOf j u = built j ≡ Ok (record { unit = sized_unit u; shapes = u.shapes })
