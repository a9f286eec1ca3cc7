use Rattle.std.proofs.Common.{◌≡◌, map, drop}
use Rattle.verilog_pre.specs.Directives.{directive_in}
use Rattle.verilog_pre.proofs.directives.directive_in.Given as goal

-- what is left of the table gives the directive
abbrev pub invariant-loop-known : goal.invariant-loop-known
invariant-loop-known l =
    directive_in (map (λ e. (e.0.now, e.1)) (drop l.known-index l.table)) l.word
    ≡ directive_in (map (λ e. (e.0.now, e.1)) l.table) l.word
