use Rattle.std.proofs.Common.{◌++◌, ◌∙◌, ap}
use Rattle.ls_text.proofs.Pieces.{three_pieces}
use Rattle.load_maker.proofs.Lines.{stage_file_pieces}
use Rattle.load_maker.proofs.files.push_stage_file.Goals as goal

pub returns : goal.returns
returns c =
    three_pieces _ _ _ _ _ _ _ c.in_ok-extend_from_slice.ensures.items c.in_ok-extend_from_slice-2.ensures.items c.in_ok-extend_from_slice-3.ensures.items
    ∙ ap (λ t. c.args.text.now.items ++ t) (stage_file_pieces c.args.sum.now)
