-- The names that an expression reads are those of the leaves of its sized form.
use Rattle.std.proofs.Common.{◌≡◌, ℕ, ◌+◌, ◌-◌, ◌*◌, ◌==◌, ◌&&◌, max, Bool, true, false, List, [], ◌∷◌, ◌++◌, map, ℤ, refl, sym, ◌∙◌, ap, ap₂, append-nil, append_assoc, if◌then◌else◌}
use Rattle.std.proofs.lemmas.Bool.{cond-true, cond-false}
use Rattle.std.proofs.lemmas.List.{map-append}
use Rattle.typed_ir.proofs.Cases.{by_cases}
use Rattle.typed_ir.specs.declared.span.Span.{Span}
use Rattle.typed_ir.specs.declared.unary_operator.UnaryOperator.TheVariants.{Inverse}
use Rattle.typed_ir.specs.declared.binary_operator.BinaryOperator.{BinaryOperator as Operator}
use Rattle.typed_ir.specs.declared.binary_operator.BinaryOperator.TheVariants.{Arithmetic, Compare, Logical, Shift}
use Rattle.typed_ir.specs.Sized as s
use Rattle.typed_ir.specs.Sized.{Sized, width_of}
use Rattle.verilog_ast.specs.declared.identifier.Identifier.{Identifier}
use Rattle.verilog_ast.specs.Expressions.{Expression, Literal, Whole, BitSelect, PartSelect, UpwardSelect, DownwardSelect, Unary, Binary, Conditional, Concatenation, Replication, Bracketed, NoPart, Parts}
use Rattle.width_rules.specs.declared.kinds.UnaryKind.{UnaryKind}
use Rattle.width_rules.specs.declared.kinds.UnaryKind.TheVariants.{Kept, Negated, Inverted, OneBit, Complement}
use Rattle.width_rules.specs.Constants.{integer}
use Rattle.width_rules.specs.Opened.{own}
use Rattle.width_rules.specs.Operators.{unary_kind, operator_of, comparison_with}
use Rattle.width_rules.specs.Scopes.{Meaning, Signal, Constant, Turn, Genvar, Unknown, Scope, is_signal}
use Rattle.width_rules.specs.Signs.{is_signed}
use Rattle.width_rules.specs.Sizes.{Operand, self_determined, unary_at, binary_at, length, push, joined, beside, extended, name_at, bits_at, bits_from, bits_between, count_of, is_constant}
use Rattle.width_rules.proofs.RenamedSizes.{seen}
use Rattle.block_rules.specs.Paths.{leaves}
use Rattle.statement_rules.specs.Written.{IsWritten, ArePartsWritten}
use Rattle.statement_rules.specs.DeclaredValues.{signal_in}
use Rattle.mention_laws.specs.Leaves.{signals_of}
use Rattle.width_rules.specs.Names.{expression_names, run_time}

-- the signal of a name
abbrev pub number : Scope → Identifier → ℕ
number scope n = signal_in (scope n.name.0)

pub both_named : (f : Identifier → ℕ) (xs ys : List Span) (ms ns : List Identifier) → signals_of xs ≡ map f ms → signals_of ys ≡ map f ns
    → signals_of (xs ++ ys) ≡ map f (ms ++ ns)
both_named f xs ys ms ns h k =
    map-append (λ (p : Span). p.signal) xs ys ∙ ap₂ (λ (a b : List ℕ). a ++ b) h k ∙ sym (map-append f ms ns)

extended_leaves : (x : Sized) (l : ℕ) (t : Bool) → leaves (extended x l t) ≡ leaves x
extended_leaves x l t = by_cases (width_of x == l)
    (λ y. ap leaves (cond-true (width_of x == l) x (s.Resized x l t) y))
    (λ y. ap leaves (cond-false (width_of x == l) x (s.Resized x l t) y))

-- ---- names and selects

name_leaves : (f : Identifier → ℕ) (m : Meaning) (n : Identifier) (l : ℕ) (t : Bool) → f n ≡ signal_in m
    → signals_of (leaves (name_at m l t)) ≡ map f (if is_signal m then n ∷ [] else [])
name_leaves f (Signal signal width lsb signed writer) n l t h = ap signals_of (extended_leaves (s.Name signal width) l t) ∙ ap (λ (k : ℕ). k ∷ []) (sym h)
name_leaves f (Constant width value signed) n l t h = refl
name_leaves f (Turn width value signed) n l t h = refl
name_leaves f Genvar n l t h = refl
name_leaves f Unknown n l t h = refl

bits_leaves : (f : Identifier → ℕ) (m : Meaning) (n : Identifier) (width down : ℕ) (constant : Bool) (at : ℤ) (signed : Bool) (index : Sized) (names : List Identifier)
    → f n ≡ signal_in m → signals_of (leaves index) ≡ map f names
    → signals_of (leaves (bits_at m width down constant at signed index)) ≡ map f ((if is_signal m then n ∷ [] else []) ++ run_time (is_signal m) constant names)
bits_leaves f (Signal signal total lsb sign writer) n width down true at signed index names h g = ap (λ (k : ℕ). k ∷ []) (sym h)
bits_leaves f (Signal signal total lsb sign writer) n width down false at signed index names h g = ap₂ (λ (k : ℕ) (ks : List ℕ). k ∷ ks) (sym h) g
bits_leaves f (Constant own value sign) n width down constant at signed index names h g = refl
bits_leaves f (Turn own value sign) n width down constant at signed index names h g = refl
bits_leaves f Genvar n width down constant at signed index names h g = refl
bits_leaves f Unknown n width down constant at signed index names h g = refl

range_leaves : (f : Identifier → ℕ) (m : Meaning) (n : Identifier) (low : ℤ) (width : ℕ) → f n ≡ signal_in m
    → signals_of (leaves (bits_from m low width)) ≡ map f (if is_signal m then n ∷ [] else [])
range_leaves f (Signal signal total lsb sign writer) n low width h = ap (λ (k : ℕ). k ∷ []) (sym h)
range_leaves f (Constant own value sign) n low width h = refl
range_leaves f (Turn own value sign) n low width h = refl
range_leaves f Genvar n low width h = refl
range_leaves f Unknown n low width h = refl

-- ---- operators

-- an operand has these signals at each length and sign
abbrev Has : Operand → List ℕ → Type 0
Has x ns = (l : ℕ) (t : Bool) → signals_of (leaves (x.at l t)) ≡ ns

unary_leaves : (k : UnaryKind) (x : Operand) (ns : List ℕ) → Has x ns → (l : ℕ) (t : Bool) → signals_of (leaves (unary_at k x l t)) ≡ ns
unary_leaves Kept x ns h l t = h l t
unary_leaves Negated x ns h l t = h l t
unary_leaves Inverted x ns h l t = h l t
unary_leaves (OneBit op) x ns h l t = ap signals_of (extended_leaves (s.Unary op (self_determined x)) l t) ∙ h x.own x.sign
unary_leaves (Complement op) x ns h l t = ap signals_of (extended_leaves (s.Unary Inverse (s.Unary op (self_determined x))) l t) ∙ h x.own x.sign

binary_leaves : (f : Identifier → ℕ) (op : Operator) (a b : Operand) (ms ns : List Identifier) → Has a (map f ms) → Has b (map f ns) → (l : ℕ) (t : Bool)
    → signals_of (leaves (binary_at op a b l t)) ≡ map f (ms ++ ns)
binary_leaves f (Arithmetic op) a b ms ns h k l t = both_named f (leaves (a.at l t)) (leaves (b.at l t)) ms ns (h l t) (k l t)
binary_leaves f (Shift op) a b ms ns h k l t = both_named f (leaves (a.at l t)) (leaves (self_determined b)) ms ns (h l t) (k b.own b.sign)
binary_leaves f (Compare op) a b ms ns h k l t =
    let most = max a.own b.own in
    let sign = a.sign && b.sign in
    ap signals_of (extended_leaves (s.Binary (Compare (comparison_with op sign)) (a.at most sign) (b.at most sign)) l t)
    ∙ both_named f (leaves (a.at most sign)) (leaves (b.at most sign)) ms ns (h most sign) (k most sign)
binary_leaves f (Logical op) a b ms ns h k l t =
    ap signals_of (extended_leaves (s.Binary (Logical op) (self_determined a) (self_determined b)) l t)
    ∙ both_named f (leaves (self_determined a)) (leaves (self_determined b)) ms ns (h a.own a.sign) (k b.own b.sign)

-- ---- expressions

mutual
  unfolding length push joined beside

  pub expression_leaves : (scope : Scope) (e : Expression) (l : ℕ) (t : Bool) → IsWritten e → signals_of (leaves (push scope e l t)) ≡ map (number scope) (expression_names scope e)
  expression_leaves scope (Literal at x) l t w = refl
  expression_leaves scope (Whole n) l t w = name_leaves (number scope) (scope n.name.0) n l t refl
  expression_leaves scope (BitSelect n x) l t w =
      ap signals_of (extended_leaves (bits_at (scope n.name.0) 1 0 (is_constant scope x) (integer scope x) (is_signed scope x) (own scope x)) l t)
      ∙ bits_leaves (number scope) (scope n.name.0) n 1 0 (is_constant scope x) (integer scope x) (is_signed scope x) (own scope x) (expression_names scope x)
      refl (expression_leaves scope x (length scope x) (is_signed scope x) w)
  expression_leaves scope (PartSelect n x y) l t w =
      ap signals_of (extended_leaves (bits_from (scope n.name.0) (integer scope y) (bits_between (integer scope x) (integer scope y))) l t)
      ∙ range_leaves (number scope) (scope n.name.0) n (integer scope y) (bits_between (integer scope x) (integer scope y)) refl
  expression_leaves scope (UpwardSelect n x y) l t w =
      let width : ℕ = count_of (integer scope y) in
      ap signals_of (extended_leaves (bits_at (scope n.name.0) width 0 (is_constant scope x) (integer scope x) (is_signed scope x) (own scope x)) l t)
      ∙ bits_leaves (number scope) (scope n.name.0) n width 0 (is_constant scope x) (integer scope x) (is_signed scope x) (own scope x) (expression_names scope x)
      refl (expression_leaves scope x (length scope x) (is_signed scope x) w.0)
  expression_leaves scope (DownwardSelect n x y) l t w =
      let width : ℕ = count_of (integer scope y) in
      ap signals_of (extended_leaves (bits_at (scope n.name.0) width (width - 1) (is_constant scope x) (integer scope x) (is_signed scope x) (own scope x)) l t)
      ∙ bits_leaves (number scope) (scope n.name.0) n width (width - 1) (is_constant scope x) (integer scope x) (is_signed scope x) (own scope x) (expression_names scope x)
      refl (expression_leaves scope x (length scope x) (is_signed scope x) w.0)
  expression_leaves scope (Unary at op x) l t w =
      unary_leaves (unary_kind op) (seen scope x) (map (number scope) (expression_names scope x)) (λ i u. expression_leaves scope x i u w) l t
  expression_leaves scope (Binary op x y) l t w =
      binary_leaves (number scope) (operator_of op) (seen scope x) (seen scope y) (expression_names scope x) (expression_names scope y)
      (λ i u. expression_leaves scope x i u w.0) (λ i u. expression_leaves scope y i u w.1) l t
  expression_leaves scope (Conditional c x y) l t w =
      both_named (number scope) (leaves (own scope c)) (leaves (push scope x l t) ++ leaves (push scope y l t)) (expression_names scope c) (expression_names scope x ++ expression_names scope y)
      (expression_leaves scope c (length scope c) (is_signed scope c) w.0)
      (both_named (number scope) (leaves (push scope x l t)) (leaves (push scope y l t)) (expression_names scope x) (expression_names scope y)
      (expression_leaves scope x l t w.1.0) (expression_leaves scope y l t w.1.1))
  expression_leaves scope (Concatenation at xs) l t w = ap signals_of (extended_leaves (joined scope xs) l t) ∙ joined_leaves scope xs w
  expression_leaves scope (Replication at c xs) l t w =
      let many : ℕ = count_of (integer scope c) in
      ap signals_of (extended_leaves (s.Repeat (many * length scope xs) many (joined scope xs)) l t) ∙ joined_leaves scope xs w.1
  expression_leaves scope (Bracketed at x) l t w = expression_leaves scope x l t w
  expression_leaves scope NoPart l t w = absurd w
  expression_leaves scope (Parts x xs) l t w = absurd w

  -- the parts of a concatenation
  joined_leaves : (scope : Scope) (xs : Expression) → ArePartsWritten xs → signals_of (leaves (joined scope xs)) ≡ map (number scope) (expression_names scope xs)
  joined_leaves scope NoPart w = refl
  joined_leaves scope (Parts x xs) w =
      beside_leaves scope (length scope x) (own scope x) xs w.1
      ∙ ap (λ (a : List ℕ). a ++ map (number scope) (expression_names scope xs)) (expression_leaves scope x (length scope x) (is_signed scope x) w.0)
      ∙ sym (map-append (number scope) (expression_names scope x) (expression_names scope xs))
  joined_leaves scope other w = absurd w

  -- what stands before them, and these
  beside_leaves : (scope : Scope) (width : ℕ) (before : Sized) (xs : Expression) → ArePartsWritten xs
      → signals_of (leaves (beside scope width before xs)) ≡ signals_of (leaves before) ++ map (number scope) (expression_names scope xs)
  beside_leaves scope width before NoPart w = sym (append-nil (signals_of (leaves before)))
  beside_leaves scope width before (Parts x xs) w =
      let wide : ℕ = width + length scope x in
      let rest : List ℕ = map (number scope) (expression_names scope xs) in
      beside_leaves scope wide (s.Concat wide before (own scope x)) xs w.1
      ∙ ap (λ (a : List ℕ). a ++ rest) (map-append (λ (p : Span). p.signal) (leaves before) (leaves (own scope x))
      ∙ ap (λ (b : List ℕ). signals_of (leaves before) ++ b) (expression_leaves scope x (length scope x) (is_signed scope x) w.0))
      ∙ append_assoc (signals_of (leaves before)) (map (number scope) (expression_names scope x)) rest
      ∙ ap (λ (b : List ℕ). signals_of (leaves before) ++ b) (sym (map-append (number scope) (expression_names scope x) (expression_names scope xs)))
  beside_leaves scope width before other w = absurd w
