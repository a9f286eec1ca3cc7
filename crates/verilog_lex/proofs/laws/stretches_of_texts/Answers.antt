use Rattle.verilog_lex.proofs.Stretches.{has_stretches, only_stretches, stretch_lexemes}
use Rattle.verilog_lex.proofs.laws.stretches_of_texts.Goals as goal

pub returns-clause-cut : goal.returns-clause-cut
returns-clause-cut c = has_stretches

pub returns-clause-only : goal.returns-clause-only
returns-clause-only c = only_stretches

pub returns-clause-lexemes : goal.returns-clause-lexemes
returns-clause-lexemes c = stretch_lexemes
