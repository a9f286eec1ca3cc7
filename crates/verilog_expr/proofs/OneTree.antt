-- A row of operands and operators has one tree.
use Rattle.std.proofs.Common.{◌≡◌, ◌≤◌, ◌+◌, ℕ, List, [], ◌∷◌, ◌++◌, refl, sym, ap, subst, arith}
use Rattle.ls_text.proofs.Lists.{same_first, same_others}
use Rattle.verilog_ast.specs.declared.binary_operator.BinaryOperator.{BinaryOperator}
use Rattle.verilog_ast.specs.declared.expression.Expr.{Expr}
use Rattle.verilog_ast.specs.declared.expression.Expr.TheVariants as e
use Rattle.verilog_expr.specs.Tokens.{level}

-- ---- two cuts of one list

-- Both cuts take out the same item, or the one takes it out before or behind the other.
pub data Cuts {A : Type 0} (us : List A) (u : A) (vs xs : List A) (y : A) (ys : List A) : Type 0 where
  together : us ≡ xs → u ≡ y → vs ≡ ys → Cuts us u vs xs y ys
  before : (mid : List A) → xs ≡ us ++ u ∷ mid → vs ≡ mid ++ y ∷ ys → Cuts us u vs xs y ys
  after : (mid : List A) → us ≡ xs ++ y ∷ mid → ys ≡ mid ++ u ∷ vs → Cuts us u vs xs y ys

longer_cuts : {A : Type 0} (a b : A) (us vs xs ys : List A) (u y : A) → a ≡ b → Cuts us u vs xs y ys → Cuts (a ∷ us) u vs (b ∷ xs) y ys
longer_cuts a b us vs xs ys u y q (together p r t) = together (cc) r t
longer_cuts a b us vs xs ys u y q (before mid p r) = before mid (cc) r
longer_cuts a b us vs xs ys u y q (after mid p r) = after mid (cc) r

pub cuts : {A : Type 0} (us vs xs ys : List A) (u y : A) → us ++ u ∷ vs ≡ xs ++ y ∷ ys → Cuts us u vs xs y ys
cuts [] vs [] ys u y q = together refl (same_first u y vs ys q) (same_others u y vs ys q)
cuts [] vs (x ∷ xs) ys u y q = before xs (ap (λ z. z ∷ xs) (sym (same_first u x vs (xs ++ y ∷ ys) q))) (same_others u x vs (xs ++ y ∷ ys) q)
cuts (a ∷ us) vs [] ys u y q = after us (ap (λ z. z ∷ us) (same_first a y (us ++ u ∷ vs) ys q)) (sym (same_others a y (us ++ u ∷ vs) ys q))
cuts (a ∷ us) vs (x ∷ xs) ys u y q =
    longer_cuts a x us vs xs ys u y (same_first a x (us ++ u ∷ vs) (xs ++ y ∷ ys) q) (cuts us vs xs ys u y (same_others a x (us ++ u ∷ vs) (xs ++ y ∷ ys) q))

-- ---- the tree of a row

-- an operator and the operand behind it
pub record Further : Type 0 where
  pub op : BinaryOperator
  pub operand : Expr

-- With operators of this level and above, the expression is a tree of the first operand and the further ones.
pub data TreeOf : ℕ → Expr → Expr → List Further → Type 0 where
  leaf : {p : ℕ} {x : Expr} → TreeOf p x x []
  node : {p : ℕ} {op : BinaryOperator} {x y a b : Expr} {ms ns : List Further} → p ≤ level op → TreeOf (level op) x a ms
      → TreeOf (level op + 1) y b ns
      → TreeOf p (e.Binary op x y) a (ms ++ record { op = op; operand = b } ∷ ns)

no_cut : {A : Type 0} (us vs : List A) (u : A) → us ++ u ∷ vs ≡ [] → ⊥
no_cut [] vs u q = absurd cc
no_cut (a ∷ us) vs u q = absurd cc

-- each operator of a row with a tree of a level has this level, or one above
pub level_within : {p : ℕ} {x a : Expr} {ms : List Further} → TreeOf p x a ms → (us vs : List Further) (u : Further) → ms ≡ us ++ u ∷ vs
    → p ≤ level u.op
level_within leaf us vs u q = absurd (no_cut us vs u (sym q))
level_within (node {p = p} {op = op} {b = b} {ms = ms} {ns = ns} le left right) us vs u q =
    elim (cuts ms ns us vs (record { op = op; operand = b }) u q) [
      | together i j k ↦ subst (λ (o : BinaryOperator). p ≤ level o) (ap (λ (f : Further). f.op) j) le
      | before mid i j ↦ let h = level_within right mid vs u j in omega (arith, h, le)
      | after mid i j ↦ let h = level_within left us mid u i in omega (arith, h, le)
    ]

same_node : (op o : BinaryOperator) (x y z w : Expr) → op ≡ o → x ≡ z → y ≡ w → e.Binary op x y ≡ e.Binary o z w
same_node op o x y z w i j k = cc

-- a row has one tree
pub one_tree : {p q : ℕ} {x y a b : Expr} {ms ns : List Further} → TreeOf p x a ms → TreeOf q y b ns → a ≡ b → ms ≡ ns → x ≡ y
one_tree leaf leaf i j = i
one_tree leaf (node {b = b} {ms = us} {ns = vs} le left right) i j = absurd (no_cut us vs _ (sym j))
one_tree (node {b = b} {ms = us} {ns = vs} le left right) leaf i j = absurd (no_cut us vs _ j)
one_tree (node {op = op} {b = b} {ms = us} {ns = vs} le left right) (node {op = o} {b = d} {ms = ms} {ns = ns} le' left' right') i j =
    elim (cuts us vs ms ns (record { op = op; operand = b }) (record { op = o; operand = d }) j) [
      | together k l m ↦
          let right_same = one_tree right right' (ap (λ (f : Further). f.operand) l) m in
          same_node op o _ _ _ _ (ap (λ (f : Further). f.op) l) (one_tree left left' i k) right_same
      | before mid k l ↦ let h = level_within left' us mid _ k in let g = level_within right mid ns _ l in absurd (omega (arith, h, g))
      | after mid k l ↦ let h = level_within left ms mid _ k in let g = level_within right' mid vs _ l in absurd (omega (arith, h, g))
    ]
