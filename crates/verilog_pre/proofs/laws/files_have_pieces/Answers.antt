use Rattle.verilog_pre.proofs.FileReadings.{whole_pieces, only_pieces}
use Rattle.verilog_pre.proofs.laws.files_have_pieces.Goals as goal

pub returns-clause-whole : goal.returns-clause-whole
returns-clause-whole c = whole_pieces

pub returns-clause-only : goal.returns-clause-only
returns-clause-only c = only_pieces
