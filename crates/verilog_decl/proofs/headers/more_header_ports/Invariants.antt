use Rattle.std.proofs.Common.{◌≤◌, length, [], ◌∷◌}
use Rattle.verilog_expr.specs.Grammar as grammar
use Rattle.verilog_expr.specs.Grammar.{N}
use Rattle.verilog_expr.specs.Reads.{Leads}
use Rattle.verilog_expr.proofs.Lists.{Grows}
use Rattle.verilog_decl.specs.Headers as spells
use Rattle.verilog_decl.specs.Headers.{Spells}
use Rattle.verilog_decl.proofs.headers.more_header_ports.Given as goal

abbrev pub invariant-items : goal.invariant-items
invariant-items l = record {
  machine : Leads (N grammar.MoreHeaderPorts l.weight ∷ []) l.fn.p (N grammar.MoreHeaderPorts l.weight ∷ []) l.p;
  tree : Grows (λ xs s r. Spells (spells.OtherHeaderPorts xs) s r) (λ xs r. Spells (spells.HeaderPortsBehind l.fn.first xs) l.fn.p r) l.all l.p;
  shorter : length l.p ≤ length l.fn.p;
}

abbrev pub decreases-items : goal.decreases-items
decreases-items l = length l.p
