use Rattle.std.proofs.Common.{◌++◌, ◌∙◌, ap}
use Rattle.ls_text.proofs.Pieces.{four_pieces}
use Rattle.load_maker.proofs.Lines.{top_file_pieces}
use Rattle.load_maker.proofs.files.push_top_file.Goals as goal

pub returns : goal.returns
returns c =
    four_pieces _ _ _ _ _ _ _ _ _ c.in_ok-extend_from_slice.ensures.items c.in_ok-push_stages.ensures c.in_ok-push_numbered.ensures c.in_ok-extend_from_slice-2.ensures.items
    ∙ ap (λ t. c.args.text.now.items ++ t) (top_file_pieces c.args.last)
