use Rattle.width_rules.specs.Entries.{scope_of}
use Rattle.statement_rules.specs.Views.{declared_value_of}
use Rattle.statement_rules.proofs.Constants.{begins}
use Rattle.statement_rules.proofs.initials.initial.Goals as goal

pub returns-clause-initial : goal.returns-clause-initial
returns-clause-initial c =
    begins (scope_of c.args.scope.now) (declared_value_of c.args.x.now) c.in_ok-declared.declared.signal c.in_ok-value.value c.in_ok-declared.declared.width
    c.in_ok-declared.ensures.signal c.in_ok-declared.ensures.width c.in_ok-value.ensures.value
