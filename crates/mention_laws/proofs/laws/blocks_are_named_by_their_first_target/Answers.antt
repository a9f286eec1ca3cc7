use Rattle.verilog_ast.specs.Views.{statement_of}
use Rattle.statement_rules.proofs.Trees.{statement_is_written}
use Rattle.mention_laws.proofs.ShownTargets.{is_shown, is_writing, is_own}
use Rattle.mention_laws.proofs.Trees.{statement_is_placed}
use Rattle.mention_laws.proofs.laws.blocks_are_named_by_their_first_target.Goals as goal

pub returns-clause-named : goal.returns-clause-named
returns-clause-named c = λ scope x r h is. is_shown scope (statement_of x) r (statement_is_placed x) (statement_is_written x) h is

pub returns-clause-some : goal.returns-clause-some
returns-clause-some c = λ scope x h some. is_writing scope (statement_of x) (statement_is_placed x) (statement_is_written x) h some

pub returns-clause-own : goal.returns-clause-own
returns-clause-own c = λ scope x h some. is_own scope (statement_of x) (statement_is_placed x) (statement_is_written x) h some
