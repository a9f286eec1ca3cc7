use Rattle.std.proofs.Common.{◌++◌, [], sym, ◌∙◌, ap}
use Rattle.std.specs.Prelude.{slice_index_or}
use Rattle.ls_text.specs.Texts.{text_at}
use Rattle.ls_text.proofs.Pieces.{two_pieces}
use Rattle.typed_ir.specs.Paths.{paths_of, dotted}
use Rattle.typed_ir.proofs.Paths.{joined_push}
use Rattle.wave_report.proofs.naming.push_path.Goals as goal

pub returns : goal.returns
returns c =
    let texts = c.args.names.now in
    let x = c.args.signal.now in
    let out = c.args.out.now.items in
    let above = slice_index_or (paths_of c.args.rows.now) x.instance [] in
    two_pieces out (dotted texts above) (text_at texts x.name.0) c.push_instance.new.out.items c.extend_from_slice.new.self.items
    c.in_ok-push_instance.ensures
    (c.in_ok-extend_from_slice.ensures.items ∙ ap (λ zs. c.push_instance.new.out.items ++ zs) c.text.ensures.text)
    ∙ ap (λ zs. out ++ zs) (sym (joined_push texts above x.name.0))
