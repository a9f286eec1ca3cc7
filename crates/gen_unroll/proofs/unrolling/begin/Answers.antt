use Rattle.std.proofs.Common.{map, ◌∙◌, ap}
use Rattle.verilog_ast.specs.Views.{item_of, items_of, ports_of}
use Rattle.width_rules.specs.Entries.{scope_of}
use Rattle.width_rules.specs.Scopes.{Scope}
use Rattle.gen_unroll.specs.Declarations.{item_names, port_names}
use Rattle.gen_unroll.specs.Views.{override_view}
use Rattle.gen_unroll.proofs.Scoping.{is_nowhere}
use Rattle.gen_unroll.proofs.unrolling.begin.Goals as goal

pub returns-clause-state : goal.returns-clause-state
returns-clause-state c =
    ap (λ (s : Scope). record { scope = s; overrides = map override_view c.args.overrides.now; opened = 0; left = c.args.limit })
    (c.in_ok-declare_module_items.ensures.names
    ∙ ap (λ xs. item_names (items_of (map item_of xs)) (scope_of c.declare_ports.new.scope)) c.as_slice.ensures
    ∙ ap (item_names (items_of (map item_of c.args.of.now.items)))
    (c.in_ok-declare_ports.ensures.names ∙ ap (port_names (ports_of c.args.of.now.ports)) (is_nowhere (scope_of c.new-scope.result) c.new-scope.ensures.names)))
