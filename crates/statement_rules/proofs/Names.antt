-- A name as a target.
use Rattle.std.proofs.Common.{◌≡◌, ◌∙◌, ap}
use Rattle.verilog_ast.specs.declared.expression.Reference.TheVariants as ref
use Rattle.verilog_ast.specs.declared.identifier.Identifier.{Identifier}
use Rattle.verilog_ast.specs.declared.target.Lhs.TheVariants as lhs
use Rattle.verilog_ast.specs.Expressions as e
use Rattle.verilog_ast.specs.Views.{target_of}
use Rattle.verilog_ast.proofs.Seen.{whole_seen, target_reference_seen}

pub named_seen : (n : Identifier) → target_of (lhs.Reference (ref.Whole n)) ≡ e.Reference (e.Whole n)
named_seen n = target_reference_seen (ref.Whole n) ∙ ap e.Reference (whole_seen n)
