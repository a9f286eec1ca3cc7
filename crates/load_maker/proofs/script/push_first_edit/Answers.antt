use Rattle.std.proofs.Common.{[], ◌∷◌, ◌++◌, ◌∙◌, ap, sym, codes}
use Rattle.ls_text.proofs.Pieces.{four_pieces}
use Rattle.load_maker.specs.Scripts.{stage_file, top_file}
use Rattle.load_maker.proofs.Lines.{four_parts}
use Rattle.load_maker.proofs.script.push_first_edit.Goals as goal

pub returns : goal.returns
returns c =
    four_pieces _ _ _ _ _ _ _ _ _ c.in_ok-extend_from_slice.ensures.items c.in_ok-push_stage_file.ensures c.in_ok-push_top_file.ensures c.in_ok-extend_from_slice-2.ensures.items
    ∙ ap (λ t. c.args.text.now.items ++ t)
    (sym (four_parts (codes "edit" ∷ codes "top top" ∷ codes "clock clk" ∷ []) (stage_file (codes "r + d")) (top_file c.args.stages) (codes "end" ∷ [])))
