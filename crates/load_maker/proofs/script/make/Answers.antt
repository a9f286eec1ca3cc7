use Rattle.std.proofs.Common.{[], ◌∷◌, ◌++◌, ◌∙◌, ap, sym, codes}
use Rattle.ls_text.proofs.Pieces.{four_pieces}
use Rattle.load_maker.specs.Scripts.{closing, first_edit, lines, script_of, second_edit}
use Rattle.load_maker.proofs.Lines.{four_parts}
use Rattle.load_maker.proofs.script.make.Goals as goal

pub returns : goal.returns
unfolding script_of
returns c =
    let n = c.args.n in
    four_pieces [] (lines (first_edit n)) (codes "set d=1\nrun 1000\n") (lines second_edit) (lines (closing n)) _ _ _ _
    (c.in_ok-push_first_edit.ensures ∙ ap (λ t. t ++ lines (first_edit n)) c.new-text.ensures.items)
    c.in_ok-extend_from_slice.ensures.items c.in_ok-push_second_edit.ensures c.in_ok-push_closing.ensures
    ∙ sym (four_parts (first_edit n) (codes "set d=1" ∷ codes "run 1000" ∷ []) second_edit (closing n))
