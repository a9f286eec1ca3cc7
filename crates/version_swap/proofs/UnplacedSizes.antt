-- Signs, lengths and sized forms are the same without places.
use Rattle.std.proofs.Common.{◌≡◌, ℕ, ◌+◌, ◌*◌, max, Bool, ◌&&◌, refl, ◌∙◌, ap, ap₂}
use Rattle.std.proofs.Math.Path.{fun_ext}
use Rattle.typed_ir.specs.Sized as s
use Rattle.typed_ir.specs.Sized.{Sized, value_of}
use Rattle.verilog_ast.specs.Expressions.{Expression, BitSelect, PartSelect, UpwardSelect, DownwardSelect, Unary, Binary, Conditional, Concatenation, Replication, Bracketed, Parts}
use Rattle.width_rules.specs.Constants.{constant, integer}
use Rattle.width_rules.specs.Opened.{own}
use Rattle.width_rules.specs.Operators.{unary_kind, operator_of}
use Rattle.width_rules.specs.Scopes.{Scope}
use Rattle.width_rules.specs.Signs.{is_signed, unary_signed, binary_signed}
use Rattle.width_rules.specs.Sizes.{Operand, length, push, joined, beside, is_constant, count_of, bits_between, extended, unary_length, binary_length, unary_at, binary_at, no_signals}
use Rattle.width_rules.proofs.RenamedSizes.{and_so, seen, seen_so, worth, alone, fixed_part, upward_part, downward_part, one_bit, repeated}
use Rattle.version_swap.specs.Unplaced.{unplaced_expression}

pub same_sign : (scope : Scope) (e : Expression) → is_signed scope (unplaced_expression e) ≡ is_signed scope e
same_sign scope (Unary at op x) = ap (unary_signed (unary_kind op)) (same_sign scope x)
same_sign scope (Binary op x y) = ap₂ (binary_signed (operator_of op)) (same_sign scope x) (same_sign scope y)
same_sign scope (Conditional c x y) = ap₂ (λ (a b : Bool). a && b) (same_sign scope x) (same_sign scope y)
same_sign scope (Bracketed at x) = same_sign scope x
same_sign scope other = refl

pub same_fixed : (scope : Scope) (e : Expression) → is_constant scope (unplaced_expression e) ≡ is_constant scope e
same_fixed scope (BitSelect n x) = and_so _ _ _ _ refl (same_fixed scope x)
same_fixed scope (PartSelect n x y) =
    and_so _ _ _ _ refl (and_so _ _ _ _ (same_fixed scope x) (same_fixed scope y))
same_fixed scope (UpwardSelect n x y) =
    and_so _ _ _ _ refl (and_so _ _ _ _ (same_fixed scope x) (same_fixed scope y))
same_fixed scope (DownwardSelect n x y) =
    and_so _ _ _ _ refl (and_so _ _ _ _ (same_fixed scope x) (same_fixed scope y))
same_fixed scope (Unary at op x) = same_fixed scope x
same_fixed scope (Binary op x y) = and_so _ _ _ _ (same_fixed scope x) (same_fixed scope y)
same_fixed scope (Conditional c x y) =
    and_so _ _ _ _ (same_fixed scope c) (and_so _ _ _ _ (same_fixed scope x) (same_fixed scope y))
same_fixed scope (Concatenation at xs) = same_fixed scope xs
same_fixed scope (Replication at c xs) = and_so _ _ _ _ (same_fixed scope c) (same_fixed scope xs)
same_fixed scope (Bracketed at x) = same_fixed scope x
same_fixed scope (Parts x xs) = and_so _ _ _ _ (same_fixed scope x) (same_fixed scope xs)
same_fixed scope other = refl

-- ---- an expression by its sign, its length and what it is at both

-- where its length and what it is at each length and sign don't change
operand_so : (scope : Scope) (e : Expression) → length scope (unplaced_expression e) ≡ length scope e
    → ((l : ℕ) (t : Bool) → push scope (unplaced_expression e) l t ≡ push scope e l t) → seen scope (unplaced_expression e) ≡ seen scope e
operand_so scope e lengths forms =
    seen_so _ _ _ _ _ _ (same_sign scope e) lengths (fun_ext (λ l. fun_ext (λ t. forms l t)))

-- a function of whether an index is constant, and of two expressions
pub parts_so : {A : Type 0} (F : Bool → Operand → Operand → A) (b c : Bool) (x p y q : Operand) → b ≡ c → x ≡ p → y ≡ q → F b x y ≡ F c p q
parts_so {A} F b c x p y q bs xs ys = ap (λ (d : Bool). F d x y) bs ∙ ap₂ (F c) xs ys

mutual
  unfolding length push joined beside

  pub same_length : (scope : Scope) (e : Expression) → length scope (unplaced_expression e) ≡ length scope e
  same_length scope (PartSelect n x y) =
      ap₂ (λ (a b : Operand). bits_between (worth a) (worth b)) (operand_so scope x (same_length scope x) (λ i u. same_form scope x i u))
      (operand_so scope y (same_length scope y) (λ i u. same_form scope y i u))
  same_length scope (UpwardSelect n x y) =
      ap (λ (b : Operand). count_of (worth b)) (operand_so scope y (same_length scope y) (λ i u. same_form scope y i u))
  same_length scope (DownwardSelect n x y) =
      ap (λ (b : Operand). count_of (worth b)) (operand_so scope y (same_length scope y) (λ i u. same_form scope y i u))
  same_length scope (Unary at op x) = ap (unary_length (unary_kind op)) (same_length scope x)
  same_length scope (Binary op x y) = ap₂ (binary_length (operator_of op)) (same_length scope x) (same_length scope y)
  same_length scope (Conditional c x y) = ap₂ max (same_length scope x) (same_length scope y)
  same_length scope (Concatenation at xs) = same_length scope xs
  same_length scope (Replication at c xs) =
      ap₂ (λ (a : Operand) (n : ℕ). count_of (worth a) * n) (operand_so scope c (same_length scope c) (λ i u. same_form scope c i u))
      (same_length scope xs)
  same_length scope (Bracketed at x) = same_length scope x
  same_length scope (Parts x xs) = ap₂ (λ (m n : ℕ). m + n) (same_length scope x) (same_length scope xs)
  same_length scope other = refl

  pub same_form : (scope : Scope) (e : Expression) (l : ℕ) (t : Bool) → push scope (unplaced_expression e) l t ≡ push scope e l t
  same_form scope (BitSelect n x) l t =
      parts_so (one_bit l t (scope n.name.0)) _ _ _ _ _ _ (same_fixed scope x)
      (operand_so scope x (same_length scope x) (λ i u. same_form scope x i u))
      (operand_so scope x (same_length scope x) (λ i u. same_form scope x i u))
  same_form scope (PartSelect n x y) l t =
      parts_so (fixed_part l t (scope n.name.0)) _ _ _ _ _ _ (same_fixed scope x)
      (operand_so scope x (same_length scope x) (λ i u. same_form scope x i u))
      (operand_so scope y (same_length scope y) (λ i u. same_form scope y i u))
  same_form scope (UpwardSelect n x y) l t =
      parts_so (upward_part l t (scope n.name.0)) _ _ _ _ _ _ (same_fixed scope x)
      (operand_so scope x (same_length scope x) (λ i u. same_form scope x i u))
      (operand_so scope y (same_length scope y) (λ i u. same_form scope y i u))
  same_form scope (DownwardSelect n x y) l t =
      parts_so (downward_part l t (scope n.name.0)) _ _ _ _ _ _ (same_fixed scope x)
      (operand_so scope x (same_length scope x) (λ i u. same_form scope x i u))
      (operand_so scope y (same_length scope y) (λ i u. same_form scope y i u))
  same_form scope (Unary at op x) l t =
      ap (λ (a : Operand). unary_at (unary_kind op) a l t) (operand_so scope x (same_length scope x) (λ i u. same_form scope x i u))
  same_form scope (Binary op x y) l t =
      ap₂ (λ (a b : Operand). binary_at (operator_of op) a b l t) (operand_so scope x (same_length scope x) (λ i u. same_form scope x i u))
      (operand_so scope y (same_length scope y) (λ i u. same_form scope y i u))
  same_form scope (Conditional c x y) l t =
      ap (λ (a : Operand). s.Choice (alone a) (push scope (unplaced_expression x) l t) (push scope (unplaced_expression y) l t))
      (operand_so scope c (same_length scope c) (λ i u. same_form scope c i u))
      ∙ ap₂ (s.Choice (alone (seen scope c))) (same_form scope x l t) (same_form scope y l t)
  same_form scope (Concatenation at xs) l t = ap (λ (z : Sized). extended z l t) (same_joined scope xs)
  same_form scope (Replication at c xs) l t =
      ap (λ (a : Operand). repeated l t (count_of (worth a)) (length scope (unplaced_expression xs)) (joined scope (unplaced_expression xs)))
      (operand_so scope c (same_length scope c) (λ i u. same_form scope c i u))
      ∙ ap₂ (repeated l t (count_of (worth (seen scope c)))) (same_length scope xs) (same_joined scope xs)
  same_form scope (Bracketed at x) l t = same_form scope x l t
  same_form scope (Parts x xs) l t =
      ap (λ (a : Operand). extended (beside scope a.own (alone a) (unplaced_expression xs)) l t)
      (operand_so scope x (same_length scope x) (λ i u. same_form scope x i u))
      ∙ ap (λ (z : Sized). extended z l t) (same_beside scope (length scope x) (alone (seen scope x)) xs)
  same_form scope other l t = refl

  pub same_joined : (scope : Scope) (e : Expression) → joined scope (unplaced_expression e) ≡ joined scope e
  same_joined scope (Parts x xs) =
      ap (λ (a : Operand). beside scope a.own (alone a) (unplaced_expression xs))
      (operand_so scope x (same_length scope x) (λ i u. same_form scope x i u))
      ∙ same_beside scope (length scope x) (alone (seen scope x)) xs
  same_joined scope other = refl

  same_beside : (scope : Scope) (width : ℕ) (before : Sized) (e : Expression)
      → beside scope width before (unplaced_expression e) ≡ beside scope width before e
  same_beside scope width before (Parts x xs) =
      ap (λ (a : Operand). beside scope (width + a.own) (s.Concat (width + a.own) before (alone a)) (unplaced_expression xs))
      (operand_so scope x (same_length scope x) (λ i u. same_form scope x i u))
      ∙ same_beside scope (width + length scope x) (s.Concat (width + length scope x) before (alone (seen scope x))) xs
  same_beside scope width before other = refl

pub same_operand : (scope : Scope) (e : Expression) → seen scope (unplaced_expression e) ≡ seen scope e
same_operand scope e = operand_so scope e (same_length scope e) (λ l t. same_form scope e l t)

pub same_worth : (scope : Scope) (e : Expression) → integer scope (unplaced_expression e) ≡ integer scope e
same_worth scope e = ap worth (same_operand scope e)

pub same_own : (scope : Scope) (e : Expression) → own scope (unplaced_expression e) ≡ own scope e
same_own scope e = ap alone (same_operand scope e)

pub same_value : (scope : Scope) (e : Expression) → constant scope (unplaced_expression e) ≡ constant scope e
same_value scope e = ap (λ (x : Sized). value_of x no_signals) (same_own scope e)
