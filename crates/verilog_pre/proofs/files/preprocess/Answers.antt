use Rattle.verilog_pre.specs.Reading.{pieces}
use Rattle.verilog_pre.proofs.FileReadings.{whole_pieces}
use Rattle.verilog_pre.proofs.files.preprocess.Goals as goal

pub returns-clause-pieces : goal.returns-clause-pieces
returns-clause-pieces c = (pieces c.args.files.now, whole_pieces c.args.files.now, c.pieces_of.ensures.pieces)
