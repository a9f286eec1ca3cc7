-- The rules by which an expression stands for tokens.
use Rattle.std.proofs.Common.{◌≡◌, ◌≢◌, ◌<◌, ◌≤◌, ◌+◌, ℕ, List, [], ◌∷◌, ◌++◌, Option, Some, None, subst, sym, ap, ◌∙◌, append_assoc}
use Rattle.std.proofs.lemmas.List.{append-nil}
use Rattle.std.proofs.lemmas.Option.{same_Some}
use Rattle.verilog_lex.specs.declared.token.Token.{Token}
use Rattle.verilog_lex.specs.declared.kind.Kind.{Kind}
use Rattle.verilog_lex.specs.declared.kind.Kind.TheVariants as k
use Rattle.verilog_ast.specs.declared.expression.Expr.{Expr}
use Rattle.verilog_ast.specs.declared.expression.Expr.TheVariants as e
use Rattle.verilog_ast.specs.declared.binary_operator.BinaryOperator.{BinaryOperator}
use Rattle.verilog_expr.specs.Tokens.{level, binary_operator, next, Takes}
use Rattle.verilog_expr.specs.Spells.{Spells, AnExpression, AChain, Others, Behind, plain, conditional, one, binary, number, unary, read, bracketed, braced, concatenation, replication, behind, no_other, another, whole, select, bit, part, upward, downward, range, IsLooser}

pub ruleset trees = (plain, conditional, one, binary, number, unary, read, bracketed, braced, concatenation, replication, behind, no_other, another, whole, select, bit, part, upward, downward, range)

pub looser_is : (n : ℕ) (o : Option BinaryOperator) (op : BinaryOperator) → IsLooser n o → o ≡ Some op → level op < n
looser_is n None op h h' = absurd cc
looser_is n (Some x) op h h' = subst (λ (y : BinaryOperator). level y < n) (same_Some x op h') h

pub longer : (p n : ℕ) (op : BinaryOperator) (x y bx by : Expr) (s a b r : List Token) (kind : Kind) (t : Token) → bx ≡ x → by ≡ y → n ≡ level op → p ≤ level op → Spells (AChain (level op) x) s a → binary_operator kind ≡ Some op → Takes kind a b t
    → Spells (AChain (n + 1) y) b r → Spells (AChain p (e.Binary op bx by)) s r
longer p n op x y bx by s a b r kind t is-x is-y is-n le left has took right =
    subst (λ (z : Expr). Spells (AChain p (e.Binary op z by)) s r) (sym is-x) (subst (λ (z : Expr). Spells (AChain p (e.Binary op x z)) s r) (sym is-y)
    (binary le left has took (subst (λ (m : ℕ). Spells (AChain (m + 1) y) b r) is-n right)))

-- ---- a list, item by item

pub others_begin : (first : Expr) (all : List Expr) (s : List Token) → all ≡ first ∷ [] → (xs : List Expr) (r : List Token) → Spells (Others xs) s r → Spells (Behind first (all ++ xs)) s r
others_begin first all s is xs r h = subst (λ (z : List Expr). Spells (Behind first (z ++ xs)) s r) (sym is) (behind h)

pub others_more : (first : Expr) (all new : List Expr) (x : Expr) (s0 s a t : List Token) (comma : Token) → ((xs : List Expr) (r : List Token) → Spells (Others xs) s r → Spells (Behind first (all ++ xs)) s0 r) → new ≡ all ++ x ∷ []
    → Takes k.Comma s a comma → Spells (AnExpression x) a t → (xs : List Expr) (r : List Token) → Spells (Others xs) t r → Spells (Behind first (new ++ xs)) s0 r
others_more first all new x s0 s a t comma before is took item xs r h =
    subst (λ (z : List Expr). Spells (Behind first z) s0 r) (sym (ap (λ (z : List Expr). z ++ xs) is ∙ append_assoc all (x ∷ []) xs)) (before (x ∷ xs) r (another took item h))

pub others_end : (first : Expr) (all : List Expr) (s0 s : List Token) → ((xs : List Expr) (r : List Token) → Spells (Others xs) s r → Spells (Behind first (all ++ xs)) s0 r) → next s ≢ k.Comma → Spells (Behind first all) s0 s
others_end first all s0 s before last = subst (λ (z : List Expr). Spells (Behind first z) s0 s) (append-nil all) (before [] s (no_other last))
