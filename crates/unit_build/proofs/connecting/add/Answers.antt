use Rattle.std.proofs.Common.{◌≡◌, ◌++◌, ◌∙◌, List, map, OnOk, append-nil, sym, ap, subst, arith}
use Rattle.std.specs.Option.{option_map}
use Rattle.verilog_ast.specs.Views.{expression_of}
use Rattle.unit_build.specs.Connections.{Connected}
use Rattle.unit_build.specs.Views.{connected_of}
use Rattle.unit_build.proofs.Ports.{to_none, to_some}
use Rattle.unit_build.proofs.connecting.add.Goals as goal

pub returns-then-port-ports : goal.returns-then-port-ports
returns-then-port-ports c =
    let here = map connected_of c.args.found.now.items in
    sym (append-nil here)
    ∙ ap (λ (cs : List Connected). here ++ cs) (sym (to_none c.args.child.now c.as_slice-ports.result.now c.args.port (option_map expression_of c.args.value.now) c.as_slice-ports.ensures (omega arith)))

pub returns : goal.returns
returns c =
    let here = map connected_of c.args.found.now.items in
    subst (λ (cs : List Connected). OnOk c.add_if.result (map connected_of c.add_if.new.found.items ≡ here ++ cs))
    (sym (to_some c.args.child.now c.as_slice-ports.result.now c.args.port c.index-ports-port.result (option_map expression_of c.args.value.now) c.as_slice-ports.ensures (omega arith) c.index-ports-port.is))
    c.add_if.ensures
