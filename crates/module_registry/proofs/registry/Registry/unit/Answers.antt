use Rattle.module_registry.proofs.Held.{found, not_found, found_held, not_held}
use Rattle.module_registry.proofs.registry.Registry.unit.Goals as goal

pub returns-in_ok-clone-in-Some-clause-unit : goal.returns-in_ok-clone-in-Some-clause-unit
returns-in_ok-clone-in-Some-clause-unit c =
    found c.args.key.now c.args.self.now.units.entries c.get.result c.in-Some.unit c.in_ok-clone-in-Some.field-0 c.in-Some.is c.get.ensures.value c.in_ok-clone-in-Some.ensures.cases

pub returns-in_ok-clone-in-Some-clause-found : goal.returns-in_ok-clone-in-Some-clause-found
returns-in_ok-clone-in-Some-clause-found c = found_held c.args.key.now c.args.self.now.units.entries c.get.result c.in-Some.unit c.in-Some.is c.get.ensures.value

pub returns-in-None-clause-unit : goal.returns-in-None-clause-unit
returns-in-None-clause-unit c = not_found c.args.key.now c.args.self.now.units.entries c.get.result c.in-None.is c.get.ensures.value

pub returns-in-None-clause-found : goal.returns-in-None-clause-found
returns-in-None-clause-found c = not_held c.args.key.now c.args.self.now.units.entries c.get.result c.in-None.is c.get.ensures.value
