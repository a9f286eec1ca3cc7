use Rattle.std.proofs.Common.{◌++◌, ◌∙◌, ap}
use Rattle.ls_text.proofs.Pieces.{two_pieces}
use Rattle.load_maker.proofs.Lines.{closing_pieces}
use Rattle.load_maker.proofs.script.push_closing.Goals as goal

pub returns : goal.returns
returns c =
    two_pieces _ _ _ _ _ c.in_ok-push_numbered.ensures c.in_ok-extend_from_slice.ensures.items
    ∙ ap (λ t. c.args.text.now.items ++ t) (closing_pieces c.args.stages)
