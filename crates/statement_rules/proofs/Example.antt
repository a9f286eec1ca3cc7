-- That the texts of the example are without a fault in its scope.
use Rattle.std.proofs.Common.{◌≡◌, zero, suc, ◌^◌, [], refl, ltb-true}
use Rattle.width_rules.specs.declared.due.Due.TheVariants.{AnyValue}
use Rattle.width_rules.specs.declared.writer.Writer.TheVariants.{Combinational}
use Rattle.width_rules.specs.Faults.{faults}
use Rattle.width_rules.specs.Sizes.{length, push, joined, beside}
use Rattle.statement_rules.specs.Drives.{assign_faults}
use Rattle.statement_rules.specs.Statements.{statement_faults}
use Rattle.statement_rules.specs.Fitting.{FitsScope}
use Rattle.statement_rules.specs.Written.{IsWritten, IsStatementWritten, AreAssignsWritten}
use Rattle.statement_rules.specs.Examples.{widths, scope, expression, statement, assignments}

pub scope_fits : FitsScope scope widths
scope_fits zero = (refl, refl)
scope_fits (suc zero) = (refl, refl)
scope_fits (suc (suc zero)) = (refl, refl)
scope_fits (suc (suc (suc zero))) = (refl, refl)
scope_fits (suc (suc (suc (suc zero)))) = (refl, ltb-true 3 (2 ^ 32) refl)
scope_fits (suc (suc (suc (suc (suc n))))) = tt

pub expression_written : IsWritten expression
expression_written = ((tt, tt), tt)

pub statement_written : IsStatementWritten statement
statement_written = (tt, (((tt, tt), (tt, expression_written)), (tt, tt)))

pub assignments_written : AreAssignsWritten assignments
assignments_written = (((tt, tt), (tt, (tt, tt))), tt)

pub expression_right : faults scope AnyValue expression ≡ []
unfolding length push joined beside
expression_right = refl

pub statement_right : statement_faults scope Combinational statement ≡ []
unfolding length push joined beside
statement_right = refl

pub assignments_right : assign_faults scope assignments ≡ []
unfolding length push joined beside
assignments_right = refl
