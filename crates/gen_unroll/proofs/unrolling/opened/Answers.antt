use Rattle.std.proofs.Common.{◌∷◌, List, map, ◌∙◌, ap, ap₂}
use Rattle.std.specs.Option.{option_map}
use Rattle.verilog_ast.specs.Views.{generate_item_of, items_of}
use Rattle.width_rules.specs.Scopes.{Scope}
use Rattle.gen_unroll.specs.Declarations.{item_names}
use Rattle.gen_unroll.specs.Unrolled.{State, with_turn}
use Rattle.gen_unroll.specs.Views.{state_of, turn_of}
use Rattle.gen_unroll.proofs.unrolling.opened.Goals as goal

pub returns-clause-state : goal.returns-clause-state
returns-clause-state c =
    ap (λ (s : Scope). record (state_of c.tell.new.w) { scope = s }) c.in_ok-open_block.ensures.names
    ∙ ap (λ (st : State). record st { scope = item_names (items_of (map generate_item_of c.args.items.now)) (with_turn (option_map turn_of c.args.turn) st.scope) })
    (c.in_ok-tell.ensures.state ∙ c.in_ok-number.ensures.state)

pub returns-clause-around : goal.returns-clause-around
returns-clause-around c =
    c.in_ok-open_block.ensures.around
    ∙ ap₂ (λ (s : Scope) (zs : List Scope). s ∷ zs) (ap (λ (st : State). st.scope) (c.in_ok-tell.ensures.state ∙ c.in_ok-number.ensures.state))
    (c.in_ok-tell.ensures.around ∙ c.next_number.ensures.around)
