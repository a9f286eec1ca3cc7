use Rattle.gen_unroll.proofs.Fitting.{one_of, unit_widths}
use Rattle.gen_unroll.proofs.Placeholders.{opened, began}
use Rattle.gen_unroll.proofs.name_laws.names_fit.Goals as goal

pub returns-clause-scopes : goal.returns-clause-scopes
returns-clause-scopes c = one_of

pub returns-clause-opened : goal.returns-clause-opened
returns-clause-opened c = opened

pub returns-clause-began : goal.returns-clause-began
returns-clause-began c = began

pub returns-clause-widths : goal.returns-clause-widths
returns-clause-widths c = unit_widths
