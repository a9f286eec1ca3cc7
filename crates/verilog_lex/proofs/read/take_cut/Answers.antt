use Rattle.verilog_lex.proofs.Lexemes.{cut_off}
use Rattle.verilog_lex.proofs.read.take_cut.Goals as goal

pub returns-clause-cut : goal.returns-clause-cut
returns-clause-cut c =
    cut_off c.args.cursor.fixed c.args.cursor.at c.args.cursor.text.now _ c.cut-n.result.1 _ _ _ _ c.requires c.cut-n.ensures.value c.cut-n.ensures.some c.moved-at.ensures c.split_at.ensures.front c.split_at.ensures.back
