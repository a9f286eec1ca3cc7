-- An expression before which too much is open: its first token is too heavy, or no rule goes on with it.
use Rattle.std.proofs.Common.{◌≡◌, ◌<◌, ◌+◌, ℕ, length, List, [], ◌∷◌, Option, Some, None, Err, true, false, refl, sym, subst, arith}
use Rattle.verilog_lex.specs.declared.kind.Kind.{Kind}
use Rattle.verilog_lex.specs.declared.kind.Kind.TheVariants as k
use Rattle.verilog_lex.specs.declared.token.Token.{Token}
use Rattle.verilog_ast.specs.declared.unary_operator.UnaryOperator.{UnaryOperator}
use Rattle.verilog_expr.specs.declared.fault.ParseFault.TheVariants.{Stuck, Heavy}
use Rattle.verilog_expr.specs.declared.error.ParseError.{ParseError}
use Rattle.verilog_expr.specs.declared.error.ParseError.TheVariants as errors
use Rattle.verilog_expr.specs.Tokens.{next, unary_operator, max_weight}
use Rattle.verilog_expr.specs.Grammar.{Symbol, T, N, AnExpression, Operand, ASelect, Braced, operand_at, begins_operand, begins_expression, is_outside}
use Rattle.verilog_expr.specs.Machine.{Run, heavy, expands, refuses, stop}
use Rattle.verilog_expr.specs.Reads.{Fails, at_fault}

-- what stands behind the first token of an operand without an operator
abbrev behind_first : ℕ → Kind → List Symbol
behind_first w k.Word = N ASelect w ∷ []
behind_first w k.LeftParen = N AnExpression (w + 1) ∷ T k.RightParen (w + 1) ∷ []
behind_first w k.LeftBrace = N AnExpression (w + 1) ∷ N Braced (w + 1) ∷ []
behind_first w _ = []

plain_begins : (w : ℕ) (kind : Kind) → begins_operand None kind ≡ true → operand_at w kind None ≡ Some (T kind w ∷ behind_first w kind)
plain_begins w kind h = grind arith

operand_begins : (w : ℕ) (u : Option UnaryOperator) (kind : Kind) → begins_operand u kind ≡ true → (more : List Symbol) × (operand_at w kind u ≡ Some (T kind w ∷ more))
operand_begins w (Some op) kind h = (N Operand (w + 1) ∷ [], refl)
operand_begins w None kind h = (behind_first w kind, plain_begins w kind h)

plain_stuck : (w : ℕ) (kind : Kind) → begins_operand None kind ≡ false → operand_at w kind None ≡ None
plain_stuck w kind h = grind arith

operand_stuck : (w : ℕ) (u : Option UnaryOperator) (kind : Kind) → begins_operand u kind ≡ false → operand_at w kind u ≡ None
operand_stuck w (Some op) kind h = absurd cc
operand_stuck w None kind h = plain_stuck w kind h

heavy_run : (w : ℕ) (s : List Token) → max_weight < w → begins_expression (next s) ≡ true → Run (N AnExpression w ∷ []) s (Err (Heavy (length s)))
heavy_run w [] over h = absurd cc
heavy_run w (t ∷ ts) over h = let o = operand_begins w (unary_operator t.kind) t.kind h in expands refl (expands o.1 (heavy refl refl over))

pub too_heavy : {w : ℕ} {s : List Token} {e : ParseError} → max_weight < w → begins_expression (next s) ≡ true → e ≡ errors.Fault (Heavy (length s)) → Fails (N AnExpression w ∷ []) s e
too_heavy {w} {s} over h is = subst (λ (e : ParseError). Fails (N AnExpression w ∷ []) s e) (sym is) (at_fault (heavy_run w s over h))

pub begins_none : {w : ℕ} {s : List Token} {e : ParseError} → begins_expression (next s) ≡ false → e ≡ errors.Fault (Stuck (stop (is_outside (next s))) (length s)) → Fails (N AnExpression w ∷ []) s e
begins_none {w} {s} h is =
    subst (λ (e : ParseError). Fails (N AnExpression w ∷ []) s e) (sym is) (at_fault (expands refl (refuses (operand_stuck w (unary_operator (next s)) (next s) h))))

pub ruleset weights = (too_heavy, begins_none)
