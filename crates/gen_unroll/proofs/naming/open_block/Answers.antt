use Rattle.std.proofs.Common.{◌≡◌, map, OnOk, ◌∙◌, ap, subst}
use Rattle.std.specs.Option.{option_map}
use Rattle.verilog_ast.specs.Views.{generate_item_of, items_of}
use Rattle.width_rules.specs.Entries.{scope_of}
use Rattle.width_rules.specs.Scopes.{Scope}
use Rattle.gen_unroll.specs.Declarations.{item_names}
use Rattle.gen_unroll.specs.Unrolled.{with_turn}
use Rattle.gen_unroll.specs.Views.{turn_of}
use Rattle.gen_unroll.proofs.naming.open_block.Goals as goal

pub returns-clause-names : goal.returns-clause-names
returns-clause-names c =
    subst (λ (s : Scope). OnOk c.declare_items.result (scope_of c.declare_items.new.scope ≡ item_names (items_of (map generate_item_of c.args.items.now)) s))
    (c.in_ok-declare_turn.ensures.names ∙ ap (with_turn (option_map turn_of c.args.turn)) c.open_block.ensures.names)
    c.declare_items.ensures.names
