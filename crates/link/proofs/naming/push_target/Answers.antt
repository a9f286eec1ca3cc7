use Rattle.std.proofs.Common.{◌≡◌, ◌++◌, ◌<◌, ◌≤◌, [], ◌∷◌, map, length, append-nil, sym, ◌∙◌, ap, rules}
use Rattle.ls_text.specs.Texts.{text_at}
use Rattle.typed_ir.specs.Cycles.{Signal}
use Rattle.typed_ir.specs.Flats.{signal_of}
use Rattle.typed_ir.specs.Orders.{at_or}
use Rattle.typed_ir.proofs.Lists.{at_map, at_beyond}
use Rattle.link.specs.Copies.{path_at}
use Rattle.typed_ir.specs.Paths.{dotted, joined}
use Rattle.link.specs.Names.{select_text, target_text}
use Rattle.typed_ir.proofs.Paths.{joined_push}
use Rattle.link.proofs.Spelled.{two_then_one}
use Rattle.link.proofs.naming.push_target.Goals as goal

pub returns-then-at-signals : goal.returns-then-at-signals
returns-then-at-signals c =
    let rows = c.args.rows.now in
    let texts = c.args.names.now in
    let out = c.args.out.now.items in
    let far : length c.args.signals.now ≤ c.index-at.result = search rules in
    let F = λ (x : Signal). joined texts x.path ++ select_text c.args.form x.lsb c.in-Some.span in
    let none : target_text texts (map (signal_of rows) c.args.signals.now) c.args.form c.args.target ≡ [] =
    ap (target_text texts (map (signal_of rows) c.args.signals.now) c.args.form) c.in-Some.is
    ∙ ap (at_or F [] (map (signal_of rows) c.args.signals.now)) (sym c.index-at.ensures)
    ∙ at_beyond F [] (signal_of rows) c.args.signals.now c.index-at.result far in
    sym (append-nil out) ∙ ap (λ zs. out ++ zs) (sym none)

pub returns : goal.returns
returns c =
    let rows = c.args.rows.now in
    let texts = c.args.names.now in
    let out = c.args.out.now.items in
    let at = c.index-at.result in
    let x = c.index-signals-at.result in
    let near : at < length c.args.signals.now = search rules in
    let F = λ (y : Signal). joined texts y.path ++ select_text c.args.form y.lsb c.in-Some.span in
    let whole : target_text texts (map (signal_of rows) c.args.signals.now) c.args.form c.args.target ≡ joined texts (path_at rows x.instance ++ x.name.0 ∷ []) ++ select_text c.args.form x.lsb c.in-Some.span =
    ap (target_text texts (map (signal_of rows) c.args.signals.now) c.args.form) c.in-Some.is
    ∙ ap (at_or F [] (map (signal_of rows) c.args.signals.now)) (sym c.index-at.ensures)
    ∙ at_map F [] (signal_of rows) c.args.signals.now at x near c.index-signals-at.is in
    two_then_one out (dotted texts (path_at rows x.instance)) (text_at texts x.name.0) (select_text c.args.form x.lsb c.in-Some.span)
    c.push_path.new.out.items c.extend_from_slice.new.self.items c.push_select.new.out.items
    c.in_ok-push_path.ensures
    (c.in_ok-extend_from_slice.ensures.items ∙ ap (λ zs. c.push_path.new.out.items ++ zs) c.text.ensures.text)
    c.in_ok-push_select.ensures
    ∙ ap (λ zs. out ++ zs)
    (ap (λ zs. zs ++ select_text c.args.form x.lsb c.in-Some.span) (sym (joined_push texts (path_at rows x.instance) x.name.0)) ∙ sym whole)
