use Rattle.verilog_lex.proofs.Groups.{has_groups, only_groups, group_lexemes}
use Rattle.verilog_lex.proofs.laws.groups_of_lexemes.Goals as goal

pub returns-clause-grouped : goal.returns-clause-grouped
returns-clause-grouped c = has_groups

pub returns-clause-only : goal.returns-clause-only
returns-clause-only c = only_groups

pub returns-clause-tokens : goal.returns-clause-tokens
returns-clause-tokens c = group_lexemes
