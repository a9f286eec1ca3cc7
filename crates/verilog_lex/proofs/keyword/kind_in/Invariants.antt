use Rattle.std.proofs.Common.{◌≡◌, map, drop}
use Rattle.verilog_lex.specs.Keywords.{kind_in}
use Rattle.verilog_lex.proofs.keyword.kind_in.Given as goal

-- what is left of the table gives the kind
abbrev pub invariant-loop-known : goal.invariant-loop-known
invariant-loop-known l =
    kind_in (map (λ e. (e.0.now, e.1)) (drop l.known-index l.table)) l.text
    ≡ kind_in (map (λ e. (e.0.now, e.1)) l.table) l.text
