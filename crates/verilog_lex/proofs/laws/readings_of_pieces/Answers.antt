use Rattle.verilog_lex.proofs.Readings.{has_reading, only_reading}
use Rattle.verilog_lex.proofs.laws.readings_of_pieces.Goals as goal

pub returns-clause-reads : goal.returns-clause-reads
returns-clause-reads c = has_reading

pub returns-clause-only : goal.returns-clause-only
returns-clause-only c = only_reading
