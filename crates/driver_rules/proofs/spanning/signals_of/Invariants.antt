use Rattle.std.proofs.Common.{◌≡◌, ◌++◌, map, drop}
use Rattle.typed_ir.specs.declared.span.Span.{Span}
use Rattle.driver_rules.proofs.spanning.signals_of.Given as goal

abbrev pub invariant-loop-span : goal.invariant-loop-span
invariant-loop-span l = l.signals.items ++ map (λ (p : Span). p.signal) (drop l.span-index l.spans) ≡ map (λ (p : Span). p.signal) l.spans
