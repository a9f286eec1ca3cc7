use Rattle.unit_build.specs.Building.{built}
use Rattle.unit_forge.proofs.Together.{refused_on, units_so}
use Rattle.unit_forge.proofs.forging.RayonForgeForge.make.Goals as goal

pub returns-in_err-units-clause-refused : goal.returns-in_err-units-clause-refused
returns-in_err-units-clause-refused g c =
    refused_on built c.args.keys.now c.in_ok-results.results.items c.from_residual-in_err-units.result c.in_err-units.field-0.0
    c.from_residual-in_err-units.ensures.1 c.in_ok-results.ensures c.in_err-units.ensures.refused

pub returns-clause-units : goal.returns-clause-units
returns-clause-units g c =
    units_so built c.args.keys.now c.in_ok-results.results.items c.in_ok-units.units.items c.in_ok-results.ensures c.in_ok-units.ensures.units
