-- Signs, lengths and sized forms don't change under other names.
use Rattle.std.proofs.Common.{◌≡◌, ℕ, ◌+◌, ◌-◌, ◌*◌, max, Bool, ◌&&◌, not, ℤ, refl, ◌∙◌, ap, ap₂}
use Rattle.std.proofs.Math.Path.{fun_ext}
use Rattle.ls_text.specs.declared.name_id.NameId.{NameId}
use Rattle.typed_ir.specs.Sized as s
use Rattle.typed_ir.specs.Sized.{Sized, value_of}
use Rattle.verilog_ast.specs.Expressions.{Expression, Literal, Whole, BitSelect, PartSelect, UpwardSelect, DownwardSelect, Unary, Binary, Conditional, Concatenation, Replication, Bracketed, NoPart, Parts}
use Rattle.verilog_ast.specs.Renaming.{expression_as}
use Rattle.width_rules.specs.Constants.{constant, integer}
use Rattle.width_rules.specs.Opened.{own}
use Rattle.width_rules.specs.Operators.{unary_kind, operator_of}
use Rattle.width_rules.specs.Renaming.{MeansSame}
use Rattle.width_rules.specs.Scopes.{Meaning, Scope, is_signal}
use Rattle.width_rules.specs.Signs.{is_signed, name_signed, unary_signed, binary_signed}
use Rattle.width_rules.specs.Sizes.{Operand, length, push, joined, beside, is_constant, integer_of, count_of, bits_between, bits_at, bits_from, extended, name_length, name_at, unary_length, binary_length, unary_at, binary_at, no_signals}

pub same_sign : (f : NameId → NameId) (scope other : Scope) (e : Expression) → MeansSame f scope other → is_signed other (expression_as f e) ≡ is_signed scope e
same_sign f scope other (Literal at x) same = refl
same_sign f scope other (Whole n) same = ap name_signed (same n.name)
same_sign f scope other (BitSelect n x) same = refl
same_sign f scope other (PartSelect n x y) same = refl
same_sign f scope other (UpwardSelect n x y) same = refl
same_sign f scope other (DownwardSelect n x y) same = refl
same_sign f scope other (Unary at op x) same = ap (unary_signed (unary_kind op)) (same_sign f scope other x same)
same_sign f scope other (Binary op x y) same = ap₂ (binary_signed (operator_of op)) (same_sign f scope other x same) (same_sign f scope other y same)
same_sign f scope other (Conditional c x y) same = ap₂ (λ (a b : Bool). a && b) (same_sign f scope other x same) (same_sign f scope other y same)
same_sign f scope other (Concatenation at xs) same = refl
same_sign f scope other (Replication at c xs) same = refl
same_sign f scope other (Bracketed at x) same = same_sign f scope other x same
same_sign f scope other NoPart same = refl
same_sign f scope other (Parts x xs) same = refl

no_signal : (f : NameId → NameId) (scope other : Scope) (n : NameId) → MeansSame f scope other → not (is_signal (other (f n).0)) ≡ not (is_signal (scope n.0))
no_signal f scope other n same = ap (λ (m : Meaning). not (is_signal m)) (same n)

pub and_so : (a b c d : Bool) → a ≡ b → c ≡ d → (a && c) ≡ (b && d)
and_so a b c d = ap₂ (λ (x y : Bool). x && y)

pub sum_so : (a b c d : ℕ) → a ≡ b → c ≡ d → (a + c) ≡ (b + d)
sum_so a b c d = ap₂ (λ (x y : ℕ). x + y)

pub same_fixed : (f : NameId → NameId) (scope other : Scope) (e : Expression) → MeansSame f scope other → is_constant other (expression_as f e) ≡ is_constant scope e
same_fixed f scope other (Literal at x) same = refl
same_fixed f scope other (Whole n) same = no_signal f scope other n.name same
same_fixed f scope other (BitSelect n x) same = and_so _ _ _ _ (no_signal f scope other n.name same) (same_fixed f scope other x same)
same_fixed f scope other (PartSelect n x y) same =
    and_so _ _ _ _ (no_signal f scope other n.name same) (and_so _ _ _ _ (same_fixed f scope other x same) (same_fixed f scope other y same))
same_fixed f scope other (UpwardSelect n x y) same =
    and_so _ _ _ _ (no_signal f scope other n.name same) (and_so _ _ _ _ (same_fixed f scope other x same) (same_fixed f scope other y same))
same_fixed f scope other (DownwardSelect n x y) same =
    and_so _ _ _ _ (no_signal f scope other n.name same) (and_so _ _ _ _ (same_fixed f scope other x same) (same_fixed f scope other y same))
same_fixed f scope other (Unary at op x) same = same_fixed f scope other x same
same_fixed f scope other (Binary op x y) same = and_so _ _ _ _ (same_fixed f scope other x same) (same_fixed f scope other y same)
same_fixed f scope other (Conditional c x y) same =
    and_so _ _ _ _ (same_fixed f scope other c same) (and_so _ _ _ _ (same_fixed f scope other x same) (same_fixed f scope other y same))
same_fixed f scope other (Concatenation at xs) same = same_fixed f scope other xs same
same_fixed f scope other (Replication at c xs) same = and_so _ _ _ _ (same_fixed f scope other c same) (same_fixed f scope other xs same)
same_fixed f scope other (Bracketed at x) same = same_fixed f scope other x same
same_fixed f scope other NoPart same = refl
same_fixed f scope other (Parts x xs) same = and_so _ _ _ _ (same_fixed f scope other x same) (same_fixed f scope other xs same)

-- ---- an expression by its sign, its length and what it is at both

abbrev pub seen_as : Bool → ℕ → (ℕ → Bool → Sized) → Operand
seen_as sign own at = record { own = own; sign = sign; at = at }

abbrev pub seen : Scope → Expression → Operand
seen scope x = seen_as (is_signed scope x) (length scope x) (push scope x)

pub seen_so : (a b : Bool) (m n : ℕ) (p q : ℕ → Bool → Sized) → a ≡ b → m ≡ n → p ≡ q → seen_as a m p ≡ seen_as b n q
seen_so a b m n p q signs lengths forms =
    ap (λ (z : Bool). seen_as z m p) signs ∙ ap₂ (seen_as b) lengths forms

-- where its length and what it is at each length and sign don't change
operand_so : (f : NameId → NameId) (scope other : Scope) (e : Expression) → MeansSame f scope other → length other (expression_as f e) ≡ length scope e
    → ((l : ℕ) (t : Bool) → push other (expression_as f e) l t ≡ push scope e l t) → seen other (expression_as f e) ≡ seen scope e
operand_so f scope other e same lengths forms =
    seen_so _ _ _ _ _ _ (same_sign f scope other e same) lengths (fun_ext (λ l. fun_ext (λ t. forms l t)))

abbrev pub worth : Operand → ℤ
worth x = integer_of x.sign x.own x.at

abbrev pub alone : Operand → Sized
alone x = x.at x.own x.sign

-- a function of a name's meaning, of whether an index is constant, and of two expressions
pub parts_so : {A : Type 0} (F : Meaning → Bool → Operand → Operand → A) (m n : Meaning) (b c : Bool) (x p y q : Operand)
    → m ≡ n → b ≡ c → x ≡ p → y ≡ q → F m b x y ≡ F n c p q
parts_so {A} F m n b c x p y q ms bs xs ys = ap₂ (λ (i : Meaning) (d : Bool). F i d x y) ms bs ∙ ap₂ (F n c) xs ys

abbrev pub fixed_part : ℕ → Bool → Meaning → Bool → Operand → Operand → Sized
fixed_part l t m b x y = extended (bits_from m (worth y) (bits_between (worth x) (worth y))) l t

abbrev pub upward_part : ℕ → Bool → Meaning → Bool → Operand → Operand → Sized
upward_part l t m b x y = extended (bits_at m (count_of (worth y)) 0 b (worth x) x.sign (alone x)) l t

abbrev pub downward_part : ℕ → Bool → Meaning → Bool → Operand → Operand → Sized
downward_part l t m b x y = extended (bits_at m (count_of (worth y)) (count_of (worth y) - 1) b (worth x) x.sign (alone x)) l t

abbrev pub one_bit : ℕ → Bool → Meaning → Bool → Operand → Operand → Sized
one_bit l t m b x y = extended (bits_at m 1 0 b (worth x) x.sign (alone x)) l t

abbrev pub repeated : ℕ → Bool → ℕ → ℕ → Sized → Sized
repeated l t count width x = extended (s.Repeat (count * width) count x) l t

mutual
  unfolding length push joined beside

  pub same_length : (f : NameId → NameId) (scope other : Scope) (e : Expression) → MeansSame f scope other → length other (expression_as f e) ≡ length scope e
  same_length f scope other (Literal at x) same = refl
  same_length f scope other (Whole n) same = ap name_length (same n.name)
  same_length f scope other (BitSelect n x) same = refl
  same_length f scope other (PartSelect n x y) same =
      ap₂ (λ (a b : Operand). bits_between (worth a) (worth b)) (operand_so f scope other x same (same_length f scope other x same) (λ i u. same_form f scope other x i u same)) (operand_so f scope other y same (same_length f scope other y same) (λ i u. same_form f scope other y i u same))
  same_length f scope other (UpwardSelect n x y) same = ap (λ (b : Operand). count_of (worth b)) (operand_so f scope other y same (same_length f scope other y same) (λ i u. same_form f scope other y i u same))
  same_length f scope other (DownwardSelect n x y) same = ap (λ (b : Operand). count_of (worth b)) (operand_so f scope other y same (same_length f scope other y same) (λ i u. same_form f scope other y i u same))
  same_length f scope other (Unary at op x) same = ap (unary_length (unary_kind op)) (same_length f scope other x same)
  same_length f scope other (Binary op x y) same = ap₂ (binary_length (operator_of op)) (same_length f scope other x same) (same_length f scope other y same)
  same_length f scope other (Conditional c x y) same = ap₂ max (same_length f scope other x same) (same_length f scope other y same)
  same_length f scope other (Concatenation at xs) same = same_length f scope other xs same
  same_length f scope other (Replication at c xs) same =
      ap₂ (λ (a : Operand) (n : ℕ). count_of (worth a) * n) (operand_so f scope other c same (same_length f scope other c same) (λ i u. same_form f scope other c i u same)) (same_length f scope other xs same)
  same_length f scope other (Bracketed at x) same = same_length f scope other x same
  same_length f scope other NoPart same = refl
  same_length f scope other (Parts x xs) same = ap₂ (λ (m n : ℕ). m + n) (same_length f scope other x same) (same_length f scope other xs same)

  pub same_form : (f : NameId → NameId) (scope other : Scope) (e : Expression) (l : ℕ) (t : Bool) → MeansSame f scope other → push other (expression_as f e) l t ≡ push scope e l t
  same_form f scope other (Literal at x) l t same = refl
  same_form f scope other (Whole n) l t same = ap (λ (m : Meaning). name_at m l t) (same n.name)
  same_form f scope other (BitSelect n x) l t same =
      parts_so (one_bit l t) _ _ _ _ _ _ _ _ (same n.name) (same_fixed f scope other x same) (operand_so f scope other x same (same_length f scope other x same) (λ i u. same_form f scope other x i u same)) (operand_so f scope other x same (same_length f scope other x same) (λ i u. same_form f scope other x i u same))
  same_form f scope other (PartSelect n x y) l t same =
      parts_so (fixed_part l t) _ _ _ _ _ _ _ _ (same n.name) (same_fixed f scope other x same) (operand_so f scope other x same (same_length f scope other x same) (λ i u. same_form f scope other x i u same)) (operand_so f scope other y same (same_length f scope other y same) (λ i u. same_form f scope other y i u same))
  same_form f scope other (UpwardSelect n x y) l t same =
      parts_so (upward_part l t) _ _ _ _ _ _ _ _ (same n.name) (same_fixed f scope other x same) (operand_so f scope other x same (same_length f scope other x same) (λ i u. same_form f scope other x i u same)) (operand_so f scope other y same (same_length f scope other y same) (λ i u. same_form f scope other y i u same))
  same_form f scope other (DownwardSelect n x y) l t same =
      parts_so (downward_part l t) _ _ _ _ _ _ _ _ (same n.name) (same_fixed f scope other x same) (operand_so f scope other x same (same_length f scope other x same) (λ i u. same_form f scope other x i u same)) (operand_so f scope other y same (same_length f scope other y same) (λ i u. same_form f scope other y i u same))
  same_form f scope other (Unary at op x) l t same = ap (λ (a : Operand). unary_at (unary_kind op) a l t) (operand_so f scope other x same (same_length f scope other x same) (λ i u. same_form f scope other x i u same))
  same_form f scope other (Binary op x y) l t same =
      ap₂ (λ (a b : Operand). binary_at (operator_of op) a b l t) (operand_so f scope other x same (same_length f scope other x same) (λ i u. same_form f scope other x i u same)) (operand_so f scope other y same (same_length f scope other y same) (λ i u. same_form f scope other y i u same))
  same_form f scope other (Conditional c x y) l t same =
      ap (λ (a : Operand). s.Choice (alone a) (push other (expression_as f x) l t) (push other (expression_as f y) l t)) (operand_so f scope other c same (same_length f scope other c same) (λ i u. same_form f scope other c i u same))
      ∙ ap₂ (s.Choice (alone (seen scope c))) (same_form f scope other x l t same) (same_form f scope other y l t same)
  same_form f scope other (Concatenation at xs) l t same = ap (λ (z : Sized). extended z l t) (same_joined f scope other xs same)
  same_form f scope other (Replication at c xs) l t same =
      ap (λ (a : Operand). repeated l t (count_of (worth a)) (length other (expression_as f xs)) (joined other (expression_as f xs))) (operand_so f scope other c same (same_length f scope other c same) (λ i u. same_form f scope other c i u same))
      ∙ ap₂ (repeated l t (count_of (worth (seen scope c)))) (same_length f scope other xs same) (same_joined f scope other xs same)
  same_form f scope other (Bracketed at x) l t same = same_form f scope other x l t same
  same_form f scope other NoPart l t same = refl
  same_form f scope other (Parts x xs) l t same =
      ap (λ (a : Operand). extended (beside other a.own (alone a) (expression_as f xs)) l t) (operand_so f scope other x same (same_length f scope other x same) (λ i u. same_form f scope other x i u same))
      ∙ ap (λ (z : Sized). extended z l t) (same_beside f scope other (length scope x) (alone (seen scope x)) xs same)

  pub same_joined : (f : NameId → NameId) (scope other : Scope) (e : Expression) → MeansSame f scope other → joined other (expression_as f e) ≡ joined scope e
  same_joined f scope other (Parts x xs) same =
      ap (λ (a : Operand). beside other a.own (alone a) (expression_as f xs)) (operand_so f scope other x same (same_length f scope other x same) (λ i u. same_form f scope other x i u same))
      ∙ same_beside f scope other (length scope x) (alone (seen scope x)) xs same
  same_joined f scope other (Literal at x) same = refl
  same_joined f scope other (Whole n) same = refl
  same_joined f scope other (BitSelect n x) same = refl
  same_joined f scope other (PartSelect n x y) same = refl
  same_joined f scope other (UpwardSelect n x y) same = refl
  same_joined f scope other (DownwardSelect n x y) same = refl
  same_joined f scope other (Unary at op x) same = refl
  same_joined f scope other (Binary op x y) same = refl
  same_joined f scope other (Conditional c x y) same = refl
  same_joined f scope other (Concatenation at xs) same = refl
  same_joined f scope other (Replication at c xs) same = refl
  same_joined f scope other (Bracketed at x) same = refl
  same_joined f scope other NoPart same = refl

  same_beside : (f : NameId → NameId) (scope other : Scope) (width : ℕ) (before : Sized) (e : Expression) → MeansSame f scope other
      → beside other width before (expression_as f e) ≡ beside scope width before e
  same_beside f scope other width before (Parts x xs) same =
      ap (λ (a : Operand). beside other (width + a.own) (s.Concat (width + a.own) before (alone a)) (expression_as f xs)) (operand_so f scope other x same (same_length f scope other x same) (λ i u. same_form f scope other x i u same))
      ∙ same_beside f scope other (width + length scope x) (s.Concat (width + length scope x) before (alone (seen scope x))) xs same
  same_beside f scope other width before (Literal at x) same = refl
  same_beside f scope other width before (Whole n) same = refl
  same_beside f scope other width before (BitSelect n x) same = refl
  same_beside f scope other width before (PartSelect n x y) same = refl
  same_beside f scope other width before (UpwardSelect n x y) same = refl
  same_beside f scope other width before (DownwardSelect n x y) same = refl
  same_beside f scope other width before (Unary at op x) same = refl
  same_beside f scope other width before (Binary op x y) same = refl
  same_beside f scope other width before (Conditional c x y) same = refl
  same_beside f scope other width before (Concatenation at xs) same = refl
  same_beside f scope other width before (Replication at c xs) same = refl
  same_beside f scope other width before (Bracketed at x) same = refl
  same_beside f scope other width before NoPart same = refl

pub same_operand : (f : NameId → NameId) (scope other : Scope) (e : Expression) → MeansSame f scope other → seen other (expression_as f e) ≡ seen scope e
same_operand f scope other e same = operand_so f scope other e same (same_length f scope other e same) (λ l t. same_form f scope other e l t same)

pub same_worth : (f : NameId → NameId) (scope other : Scope) (e : Expression) → MeansSame f scope other → integer other (expression_as f e) ≡ integer scope e
same_worth f scope other e same = ap worth (same_operand f scope other e same)

pub same_own : (f : NameId → NameId) (scope other : Scope) (e : Expression) → MeansSame f scope other → own other (expression_as f e) ≡ own scope e
same_own f scope other e same = ap alone (same_operand f scope other e same)

pub same_value : (f : NameId → NameId) (scope other : Scope) (e : Expression) → MeansSame f scope other → constant other (expression_as f e) ≡ constant scope e
same_value f scope other e same = ap (λ (x : Sized). value_of x no_signals) (same_own f scope other e same)
