use Rattle.std.proofs.Common.{◌≡◌, ◌++◌, ◌<◌, ◌≤◌, ℕ, List, Option, [], ◌∷◌, length, take, append-nil, sym, ◌∙◌, ap, rules}
use Rattle.std.specs.Prelude.{codes, slice_index_or}
use Rattle.ls_text.specs.Texts.{text_at}
use Rattle.ls_text.proofs.Pieces.{three_pieces}
use Rattle.typed_ir.specs.declared.instance_name.InstanceName.{InstanceName}
use Rattle.typed_ir.specs.Paths.{path_above, paths_of, dotted}
use Rattle.typed_ir.proofs.Paths.{path_beyond, path_of, dotted_push}
use Rattle.wave_report.proofs.naming.+push_instance.Goals as goal

pub returns-then-at-rows : goal.returns-then-at-rows
returns-then-at-rows t c =
    let rows = c.args.rows.now in
    let out = c.args.out.now.items in
    let far : length rows ≤ c.index-at.result = search rules in
    let none : path_above (paths_of rows) c.args.instance ≡ [] =
    ap (λ (o : Option ℕ). path_above (paths_of rows) o) c.in-Some.is
    ∙ ap (λ k. slice_index_or (paths_of rows) k []) (sym c.index-at.ensures) ∙ path_beyond rows c.index-at.result far in
    sym (append-nil out) ∙ ap (λ zs. out ++ dotted c.args.names.now zs) (sym none)

pub returns : goal.returns
returns t c =
    let rows = c.args.rows.now in
    let texts = c.args.names.now in
    let out = c.args.out.now.items in
    let at = c.index-at.result in
    let x = c.index-rows-at.result in
    let near : at < length rows = search rules in
    let above = path_above (paths_of (take at rows)) x.parent in
    let name = text_at texts x.name.0 in
    let whole : path_above (paths_of rows) c.args.instance ≡ above ++ x.name.0 ∷ [] =
    ap (λ (o : Option ℕ). path_above (paths_of rows) o) c.in-Some.is
    ∙ ap (λ k. slice_index_or (paths_of rows) k []) (sym c.index-at.ensures) ∙ path_of rows at x near c.index-rows-at.is in
    let new : c.push.new.self.items ≡ out ++ (dotted texts above ++ (name ++ codes ".")) =
    three_pieces out (dotted texts above) name (codes ".") c.push_instance.new.out.items c.extend_from_slice.new.self.items c.push.new.self.items
    (c.in_ok-push_instance.ensures
    ∙ ap (λ (zs : List InstanceName). out ++ dotted texts (path_above (paths_of zs) x.parent)) c.split_at.ensures.front)
    (c.in_ok-extend_from_slice.ensures.items ∙ ap (λ zs. c.push_instance.new.out.items ++ zs) c.text.ensures.text)
    c.in_ok-push.ensures.items in
    let path : dotted texts above ++ (name ++ codes ".") ≡ dotted texts (path_above (paths_of rows) c.args.instance) =
    sym (dotted_push texts above x.name.0) ∙ ap (dotted texts) (sym whole) in
    new ∙ ap (λ zs. out ++ zs) path
