-- What is left open, at a length and a sign, is what the definition pushes.
use Rattle.std.proofs.Common.{◌≡◌, ℕ, Bool, ◌&&◌, max, refl, sym, ◌∙◌, ap, ap₂}
use Rattle.typed_ir.specs.Sized as s
use Rattle.typed_ir.specs.Sized.{Sized}
use Rattle.typed_ir.specs.declared.unary_operator.UnaryOperator.TheVariants as operator
use Rattle.typed_ir.specs.declared.binary_operator.BinaryOperator.{BinaryOperator as Operator}
use Rattle.typed_ir.specs.declared.binary_operator.BinaryOperator.TheVariants.{Arithmetic, Compare, Logical, Shift}
use Rattle.verilog_ast.specs.Expressions as e
use Rattle.verilog_ast.specs.Expressions.{Expression}
use Rattle.width_rules.specs.declared.kinds.UnaryKind.{UnaryKind}
use Rattle.width_rules.specs.declared.kinds.UnaryKind.TheVariants.{Kept, Negated, Inverted, OneBit, Complement}
use Rattle.width_rules.specs.Operators.{unary_kind, operator_of, arithmetic_with, comparison_with, shift_with}
use Rattle.width_rules.specs.Scopes.{Meaning, Signal, Constant, Turn, Genvar, Unknown, Scope}
use Rattle.width_rules.specs.Signs.{is_signed}
use Rattle.width_rules.specs.Sizes.{length, push, Operand, unary_at, binary_at, extended, name_at}
use Rattle.typed_ir.specs.declared.typed.Typed.{Typed}
use Rattle.typed_ir.specs.Forms.{sized}
use Rattle.width_rules.specs.declared.opened.Open.TheOpen.{Open-F}
use Rattle.width_rules.specs.declared.opened.Open.TheFolds.{fold-roll-Open}
use Rattle.width_rules.specs.declared.opened.Open.TheVariants as node
use Rattle.width_rules.specs.Opened.{Opened, Simple, Choice, opened, open_step, closed, open_name, open_unary, open_binary, open_of, own}

name_opens : (m : Meaning) (l : ℕ) (t : Bool) → closed (open_name m) l t ≡ name_at m l t
name_opens (Signal signal width lsb signed writer) l t = refl
name_opens (Constant width value signed) l t = refl
name_opens (Turn width value signed) l t = refl
name_opens Genvar l t = refl
name_opens Unknown l t = refl

unary_opens : (k : UnaryKind) (a : Opened) (x : Operand) → ((l : ℕ) (t : Bool) → closed a l t ≡ x.at l t)
    → (l : ℕ) (t : Bool) → closed (open_unary k a (x.at x.own x.sign)) l t ≡ unary_at k x l t
unary_opens Kept a x h l t = h l t
unary_opens Negated a x h l t = ap (s.Unary operator.Negative) (h l t)
unary_opens Inverted a x h l t = ap (s.Unary operator.Inverse) (h l t)
unary_opens (OneBit op) a x h l t = refl
unary_opens (Complement op) a x h l t = refl

binary_opens : (o : Operator) (a b : Opened) (x y : Operand) → ((l : ℕ) (t : Bool) → closed a l t ≡ x.at l t) → ((l : ℕ) (t : Bool) → closed b l t ≡ y.at l t)
    → (l : ℕ) (t : Bool) → closed (open_binary o a b (x.at x.own x.sign) (y.at y.own y.sign) (max x.own y.own) (x.sign && y.sign)) l t ≡ binary_at o x y l t
binary_opens (Arithmetic op) a b x y h k l t = ap₂ (s.Binary (Arithmetic (arithmetic_with op t))) (h l t) (k l t)
binary_opens (Shift op) a b x y h k l t = ap (λ (z : Sized). s.Binary (Shift (shift_with op t)) z (y.at y.own y.sign)) (h l t)
binary_opens (Compare op) a b x y h k l t =
    let both = max x.own y.own in
    let sign = x.sign && y.sign in
    ap₂ (λ (p q : Sized). extended (s.Binary (Compare (comparison_with op sign)) p q) l t) (h both sign) (k both sign)
binary_opens (Logical op) a b x y h k l t = refl

pub opens : (scope : Scope) (x : Expression) (l : ℕ) (t : Bool) → closed (open_of scope x) l t ≡ push scope x l t
unfolding push
opens scope (e.Literal at x) l t = refl
opens scope (e.Whole n) l t = name_opens (scope n.name.0) l t
opens scope (e.BitSelect n x) l t = refl
opens scope (e.PartSelect n x y) l t = refl
opens scope (e.UpwardSelect n x y) l t = refl
opens scope (e.DownwardSelect n x y) l t = refl
opens scope (e.Unary at op x) l t =
    unary_opens (unary_kind op) (open_of scope x) (record { own = length scope x; sign = is_signed scope x; at = push scope x }) (opens scope x) l t
opens scope (e.Binary op x y) l t =
    binary_opens (operator_of op) (open_of scope x) (open_of scope y)
    (record { own = length scope x; sign = is_signed scope x; at = push scope x })
    (record { own = length scope y; sign = is_signed scope y; at = push scope y })
    (opens scope x) (opens scope y) l t
opens scope (e.Conditional c x y) l t = ap₂ (s.Choice (own scope c)) (opens scope x l t) (opens scope y l t)
opens scope (e.Concatenation at xs) l t = refl
opens scope (e.Replication at c xs) l t = refl
opens scope (e.Bracketed at x) l t = opens scope x l t
opens scope e.NoPart l t = refl
opens scope (e.Parts x xs) l t = refl

-- an expression at its own length and sign
pub owned : (scope : Scope) (x : Expression) (o : Opened) (l : ℕ) (t : Bool) (z : Sized)
    → o ≡ open_of scope x → l ≡ length scope x → t ≡ is_signed scope x → z ≡ closed o l t → z ≡ own scope x
owned scope x o l t z form length_is sign_is is =
    is ∙ ap (λ (p : Opened). closed p l t) form ∙ opens scope x l t ∙ ap₂ (push scope x) length_is sign_is

-- an expression at a length and a sign
pub pushed : (scope : Scope) (x : Expression) (o : Opened) (l : ℕ) (t : Bool) (z : Sized)
    → o ≡ open_of scope x → z ≡ closed o l t → z ≡ push scope x l t
pushed scope x o l t z form is = is ∙ ap (λ (p : Opened). closed p l t) form ∙ opens scope x l t

-- what is sized already is left as it is
pub simple_is : (x : Typed) → opened (node.Simple x) ≡ Simple (sized x.form)
simple_is x = ap opened (sym (node.rolls-Simple x)) ∙ fold-roll-Open Opened open_step (Open-F.Simple x)

-- a condition at its own length and sign, before what it chooses from
pub chosen_is : (scope : Scope) (c x y : Expression) (f g h : Opened) (l : ℕ) (t : Bool) (o : Opened) → f ≡ open_of scope c → l ≡ length scope c → t ≡ is_signed scope c
    → g ≡ open_of scope x → h ≡ open_of scope y → o ≡ Choice (closed f l t) g h → o ≡ open_of scope (e.Conditional c x y)
chosen_is scope c x y f g h l t o f_is l_is t_is g_is h_is is =
    is ∙ ap (λ (z : Sized). Choice z g h) (owned scope c f l t (closed f l t) f_is l_is t_is refl) ∙ ap₂ (Choice (own scope c)) g_is h_is
