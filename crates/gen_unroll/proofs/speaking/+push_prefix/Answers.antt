use Rattle.std.proofs.Common.{◌≤◌, ◌++◌, length, map, append-nil, Some, Option, ℕ, sym, ◌∙◌, ap, arith, rules}
use Rattle.std.specs.Prelude.{reverse, codes}
use Rattle.std.specs.Option.{option_map}
use Rattle.ls_text.specs.Texts.{text_at}
use Rattle.ls_text.proofs.Pieces.{four_pieces}
use Rattle.gen_unroll.specs.declared.block_id.BlockId.{BlockId}
use Rattle.gen_unroll.specs.Spoken.{index_text, prefix_in}
use Rattle.gen_unroll.specs.Views.{block_of, here_of, turn_of}
use Rattle.gen_unroll.proofs.Prefixes.{prefix_at, prefix_beyond}
use Rattle.gen_unroll.proofs.speaking.+push_prefix.Goals as goal

pub returns-then-at-blocks : goal.returns-then-at-blocks
returns-then-at-blocks t c =
    let far : length c.args.blocks.now ≤ c.index-at.result = search rules in
    sym (append-nil c.args.out.now.items)
    ∙ ap (λ zs. c.args.out.now.items ++ zs) (sym
    (ap (λ (o : Option BlockId). prefix_in c.args.names.now (reverse (map block_of c.args.blocks.now)) (here_of o)) c.in-Some.is
    ∙ ap (λ (n : ℕ). prefix_in c.args.names.now (reverse (map block_of c.args.blocks.now)) (Some n)) (sym c.index-at.ensures)
    ∙ prefix_beyond c.args.names.now c.args.blocks.now c.index-at.result far))

pub returns : goal.returns
returns t c =
    four_pieces c.args.out.now.items _ (text_at c.args.names.now c.index-blocks-at.result.label.name.0) (index_text (option_map turn_of c.index-blocks-at.result.turn)) (codes ".") _ _ _ _
    (c.in_ok-push_prefix.ensures
    ∙ ap (λ zs. c.args.out.now.items ++ prefix_in c.args.names.now (reverse (map block_of zs)) (here_of c.index-blocks-at.result.parent)) c.split_at.ensures.front)
    (c.in_ok-extend_from_slice.ensures.items ∙ ap (λ zs. c.push_prefix.new.out.items ++ zs) c.text.ensures.text)
    c.in_ok-push_index.ensures c.in_ok-push.ensures.items
    ∙ ap (λ zs. c.args.out.now.items ++ zs) (sym
    (ap (λ (o : Option BlockId). prefix_in c.args.names.now (reverse (map block_of c.args.blocks.now)) (here_of o)) c.in-Some.is
    ∙ ap (λ (n : ℕ). prefix_in c.args.names.now (reverse (map block_of c.args.blocks.now)) (Some n)) (sym c.index-at.ensures)
    ∙ prefix_at c.args.names.now c.args.blocks.now c.index-at.result c.index-blocks-at.result (omega (arith, c.if-at-blocks.false)) c.index-blocks-at.is))
