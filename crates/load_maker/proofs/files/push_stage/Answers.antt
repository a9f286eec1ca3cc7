use Rattle.std.proofs.Common.{◌++◌, ◌∙◌, ap}
use Rattle.ls_text.proofs.Pieces.{five_pieces}
use Rattle.load_maker.proofs.Lines.{stage_pieces}
use Rattle.load_maker.proofs.files.push_stage.Goals as goal

pub returns : goal.returns
returns c =
    five_pieces _ _ _ _ _ _ _ _ _ _ _ c.in_ok-push_numbered.ensures c.in_ok-push_numbered-2.ensures c.in_ok-push_numbered-3.ensures c.in_ok-push_numbered-4.ensures
    c.in_ok-extend_from_slice.ensures.items
    ∙ ap (λ t. c.args.text.now.items ++ t) (stage_pieces c.args.stage)
