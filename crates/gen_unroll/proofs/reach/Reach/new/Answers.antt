use Rattle.std.proofs.Common.{map, ◌∙◌, ap}
use Rattle.verilog_ast.specs.Views.{item_of, items_of, ports_of}
use Rattle.width_rules.specs.Entries.{scope_of}
use Rattle.gen_unroll.specs.Declarations.{item_names, port_names}
use Rattle.gen_unroll.specs.Views.{number_of}
use Rattle.gen_unroll.proofs.NamesInReach.{same_parts}
use Rattle.gen_unroll.proofs.Scoping.{is_nowhere}
use Rattle.gen_unroll.proofs.reach.Reach.new.Goals as goal

pub returns-clause-reach : goal.returns-clause-reach
returns-clause-reach c = same_parts _ _ _ _ _ _
    (c.in_ok-declare_module_items.ensures.names
    ∙ ap (λ xs. item_names (items_of (map item_of xs)) (scope_of c.declare_ports.new.scope)) c.as_slice.ensures
    ∙ ap (item_names (items_of (map item_of c.args.of.now.items)))
    (c.in_ok-declare_ports.ensures.names ∙ ap (port_names (ports_of c.args.of.now.ports)) (is_nowhere (scope_of c.new-scope.result) c.new-scope.ensures.names)))
    (c.in_ok-declare_module_items.ensures.around ∙ c.in_ok-declare_ports.ensures.around ∙ c.new-scope.ensures.around)
    (ap (map number_of) c.new.ensures.items)
