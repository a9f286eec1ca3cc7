-- From the same tokens there is one row of operands and operators up to where no operator follows, so one chain.
use Rattle.std.proofs.Common.{◌≡◌, ◌≤◌, ◌+◌, ℕ, List, [], ◌∷◌, ◌++◌, Some, None, refl, sym, ap, ◌∙◌}
use Rattle.verilog_lex.specs.declared.token.Token.{Token}
use Rattle.verilog_lex.specs.declared.kind.Kind.{Kind}
use Rattle.verilog_ast.specs.declared.binary_operator.BinaryOperator.{BinaryOperator}
use Rattle.verilog_ast.specs.declared.expression.Expr.{Expr}
use Rattle.verilog_ast.specs.declared.expression.Expr.TheVariants as e
use Rattle.verilog_expr.specs.Tokens.{next, Takes, binary_operator, level}
use Rattle.verilog_expr.specs.Spells.{Spells, AChain, AnOperand, one, binary}
use Rattle.verilog_expr.proofs.OneToken.{kind_of, one_rest}
use Rattle.verilog_expr.proofs.OneTree.{Further, TreeOf, leaf, node, one_tree}

-- ---- rows

-- the operand stands at the front of the first tokens, and no other does
abbrev pub IsOnlyOperand : Expr → List Token → List Token → Type 0
IsOnlyOperand x s r = (y : Expr) (s' t : List Token) → s ≡ s' → Spells (AnOperand y) s' t → (x ≡ y) × (r ≡ t)

abbrev pub SpellsOperand : Expr → List Token → List Token → Type 0
SpellsOperand x s r = Spells (AnOperand x) s r

-- A first operand and further ones, each behind an operator. What an operand is, is told by the relation.
pub data Row (Stands : Expr → List Token → List Token → Type 0) : Expr → List Further → List Token → List Token → Type 0 where
  last : {x : Expr} {s r : List Token} → Stands x s r → Row Stands x [] s r
  more : {x y : Expr} {op : BinaryOperator} {ms : List Further} {s a b r : List Token} {kind : Kind} {t : Token} → Stands x s a
      → binary_operator kind ≡ Some op → Takes kind a b t → Row Stands y ms b r
      → Row Stands x (record { op = op; operand = y } ∷ ms) s r

-- a row stands at the front of the tokens, and the expression is its tree
pub record Flat (Stands : Expr → List Token → List Token → Type 0) (p : ℕ) (x : Expr) (s r : List Token) : Type 0 where
  pub first : Expr
  pub further : List Further
  pub tree : TreeOf p x first further
  pub row : Row Stands first further s r

rows_join : {Stands : Expr → List Token → List Token → Type 0} {x y : Expr} {op : BinaryOperator} {ms ns : List Further}
    {s a b r : List Token} {kind : Kind} {t : Token} → Row Stands x ms s a → binary_operator kind ≡ Some op → Takes kind a b t
    → Row Stands y ns b r → Row Stands x (ms ++ record { op = op; operand = y } ∷ ns) s r
rows_join (last h) has t r = more h has t r
rows_join (more h is u l) has t r = more h is u (rows_join l has t r)

pub flat_one : {Stands : Expr → List Token → List Token → Type 0} {p : ℕ} {x : Expr} {s r : List Token} → Stands x s r
    → Flat Stands p x s r
flat_one {x = x} h = record { first = x; further = []; tree = leaf; row = last h }

pub flat_binary : {Stands : Expr → List Token → List Token → Type 0} {p : ℕ} {op : BinaryOperator} {x y : Expr}
    {s a b r : List Token} {kind : Kind} {t : Token} → p ≤ level op → Flat Stands (level op) x s a → binary_operator kind ≡ Some op
    → Takes kind a b t → Flat Stands (level op + 1) y b r → Flat Stands p (e.Binary op x y) s r
flat_binary {op = op} le l has t r =
    record {
      first = l.first;
      further = l.further ++ record { op = op; operand = r.first } ∷ r.further;
      tree = node le l.tree r.tree;
      row = rows_join l.row has t r.row;
    }

flat_chain : {p : ℕ} {x : Expr} {s r : List Token} → Spells (AChain p x) s r → Flat SpellsOperand p x s r
flat_chain (one h) = flat_one h
flat_chain (binary le l has t r) = flat_binary le (flat_chain l) has t (flat_chain r)

-- ---- one row

none_some : (kind other : Kind) (op : BinaryOperator) → binary_operator kind ≡ None → binary_operator other ≡ Some op → kind ≡ other → ⊥
none_some kind other op none some q = absurd (let h : None ≡ Some op = sym none ∙ ap binary_operator q ∙ some in cc)

same_operator : (kind other : Kind) (op o : BinaryOperator) → binary_operator kind ≡ Some op → binary_operator other ≡ Some o → kind ≡ other → op ≡ o
same_operator kind other op o has has' q = let h : Some op ≡ Some o = sym has ∙ ap binary_operator q ∙ has' in cc

same_rows : (op o : BinaryOperator) (x y : Expr) (ms ns : List Further) → op ≡ o → x ≡ y → ms ≡ ns
    → record { op = op; operand = x } ∷ ms ≡ record { op = o; operand = y } ∷ ns
same_rows op o x y ms ns i j k = cc

one_row : {x y : Expr} {ms ns : List Further} {s s' r t : List Token} → Row IsOnlyOperand x ms s r → Row SpellsOperand y ns s' t → s ≡ s'
    → binary_operator (next r) ≡ None → binary_operator (next t) ≡ None
    → (x ≡ y) × (ms ≡ ns) × (r ≡ t)
one_row (last h) (last h') q free free' = let o = h _ _ _ q h' in (o.0, refl, o.1)
one_row (last {r = r} h) (more {op = op} {kind = kind} h' has t l) q free free' =
    let o = h _ _ _ q h' in absurd (none_some (next r) kind op free has (ap next o.1 ∙ kind_of t))
one_row (more {op = op} {kind = kind} h has t l) (last {r = r} h') q free free' =
    let o = h _ _ _ q h' in absurd (none_some (next r) kind op free' has (sym (ap next o.1) ∙ kind_of t))
one_row (more {y = x} {op = op} {ms = ms} {kind = kind} h has t l) (more {y = y} {op = o} {ms = ns} {kind = other} h' has' t' l') q free free' =
    let f = h _ _ _ q h' in
    let i = one_row l l' (one_rest t f.1 t') free free' in
    (f.0, same_rows op o x y ms ns (same_operator kind other op o has has' (sym (kind_of t) ∙ ap next f.1 ∙ kind_of t')) i.0 i.1, i.2)

-- a chain with no operator behind it is one expression with one end
pub one_chain : {p q : ℕ} {x y : Expr} {s s' r t : List Token} → Flat IsOnlyOperand p x s r → s ≡ s' → Spells (AChain q y) s' t
    → binary_operator (next r) ≡ None → binary_operator (next t) ≡ None → (x ≡ y) × (r ≡ t)
one_chain f same h free free' =
    let g = flat_chain h in
    let i = one_row f.row g.row same free free' in
    (one_tree f.tree g.tree i.0 i.1, i.2)
