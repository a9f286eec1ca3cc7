use Rattle.std.proofs.Common.{◌<◌, length, [], ◌∷◌, All}
use Rattle.verilog_expr.specs.Grammar as grammar
use Rattle.verilog_expr.specs.Grammar.{N}
use Rattle.verilog_expr.specs.Reads.{Leads}
use Rattle.verilog_expr.proofs.Lists.{Grows}
use Rattle.verilog_parse.specs.Files.{SpellsAll}
use Rattle.verilog_parse.proofs.file.modules.Given as goal

abbrev pub invariant-items : goal.invariant-items
invariant-items l = record {
  machine : Leads (N grammar.Modules 0 ∷ []) l.fn.p (N grammar.Modules 0 ∷ []) l.p;
  tree : Grows (λ xs s r. SpellsAll l.names xs s r) (λ xs r. SpellsAll l.names xs l.fn.p r) l.all.items l.p;
  named : All (λ t. t.text.0 < length l.names) l.p;
}

abbrev pub decreases-items : goal.decreases-items
decreases-items l = length l.p
