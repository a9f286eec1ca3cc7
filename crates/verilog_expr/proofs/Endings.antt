-- Behind an expression there still is the end of the tokens.
use Rattle.std.proofs.Common.{◌≡◌, ◌≢◌, ◌<◌, ◌∙◌, length, List, [], ◌∷◌, ◌++◌, Some, None, refl, sym, ap, subst, arith}
use Rattle.verilog_lex.specs.declared.token.Token.{Token}
use Rattle.verilog_lex.specs.declared.kind.Kind.{Kind}
use Rattle.verilog_lex.specs.declared.kind.Kind.TheVariants as k
use Rattle.verilog_lex.specs.Ends.{EndsOnce}
use Rattle.verilog_ast.specs.declared.unary_operator.UnaryOperator.{UnaryOperator}
use Rattle.verilog_ast.specs.declared.binary_operator.BinaryOperator.{BinaryOperator}
use Rattle.verilog_expr.specs.Tokens.{Takes, taken, unary_operator, binary_operator}
use Rattle.verilog_expr.specs.Spells.{Phrase, Spells, plain, conditional, one, binary, number, unary, read, bracketed, braced, concatenation, replication, behind, no_other, another, whole, select, bit, part, upward, downward, range}

ends_behind : (t : Token) (r : List Token) → t.kind ≢ k.End → EndsOnce (t ∷ r) → EndsOnce r
ends_behind t [] differs e = absurd (differs e)
ends_behind t (u ∷ r) differs e = e.1

goes_on : {kind : Kind} {s r : List Token} {t : Token} → kind ≢ k.End → Takes kind s r t → EndsOnce s → EndsOnce r
goes_on {r = r} differs (taken {token = u} cut is) e = ends_behind u r (λ end. differs (sym is ∙ end)) (subst EndsOnce cut e)

unary_goes_on : (kind : Kind) (op : UnaryOperator) → Some op ≡ unary_operator kind → kind ≢ k.End
unary_goes_on kind op has is = let none : Some op ≡ None = has ∙ ap unary_operator is in cc

binary_goes_on : (kind : Kind) (op : BinaryOperator) → binary_operator kind ≡ Some op → kind ≢ k.End
binary_goes_on kind op has is = let none : Some op ≡ None = sym has ∙ ap binary_operator is in cc

pub still_ends : {p : Phrase} {s r : List Token} → Spells p s r → EndsOnce s → EndsOnce r
still_ends (plain h free last) e = still_ends h e
still_ends (conditional h q x c y) e = still_ends y (goes_on (λ is. cc) c (still_ends x (goes_on (λ is. cc) q (still_ends h e))))
still_ends (one h) e = still_ends h e
still_ends (binary {op = op} {kind = kind} le l has t r) e = still_ends r (goes_on (binary_goes_on kind op has) t (still_ends l e))
still_ends (number t) e = goes_on (λ is. cc) t e
still_ends (unary {op = op} {kind = kind} has t h) e = still_ends h (goes_on (unary_goes_on kind op has) t e)
still_ends (read t h) e = still_ends h (goes_on (λ is. cc) t e)
still_ends (bracketed t h u) e = goes_on (λ is. cc) u (still_ends h (goes_on (λ is. cc) t e))
still_ends (braced t h b) e = still_ends b (still_ends h (goes_on (λ is. cc) t e))
still_ends (concatenation free h t) e = goes_on (λ is. cc) t (still_ends h e)
still_ends (replication t h b u v) e = goes_on (λ is. cc) v (goes_on (λ is. cc) u (still_ends b (still_ends h (goes_on (λ is. cc) t e))))
still_ends (behind h) e = still_ends h e
still_ends (no_other free) e = e
still_ends (another t h r) e = still_ends r (still_ends h (goes_on (λ is. cc) t e))
still_ends (whole free dot) e = e
still_ends (select t h p u dot) e = goes_on (λ is. cc) u (still_ends p (still_ends h (goes_on (λ is. cc) t e)))
still_ends (bit a b c) e = e
still_ends (part t h) e = still_ends h (goes_on (λ is. cc) t e)
still_ends (upward t h) e = still_ends h (goes_on (λ is. cc) t e)
still_ends (downward t h) e = still_ends h (goes_on (λ is. cc) t e)
still_ends (range t x c y u) e = goes_on (λ is. cc) u (still_ends y (goes_on (λ is. cc) c (still_ends x (goes_on (λ is. cc) t e))))

pub ends_from : (xs ys : List Token) → EndsOnce (xs ++ ys) → ys ≢ [] → EndsOnce ys
ends_from [] ys e some = e
ends_from (x ∷ []) [] e some = absurd (some refl)
ends_from (x ∷ []) (y ∷ ys) e some = e.1
ends_from (x ∷ z ∷ xs) ys e some = ends_from (z ∷ xs) ys e.1 some

pub not_empty : (s : List Token) → EndsOnce s → 0 < length s
not_empty [] e = absurd e
not_empty (t ∷ ts) e = omega (arith)
