-- The table of lengths, one row after another.
use Rattle.std.proofs.Common.{◌≡◌, ℕ, Bool, ℤ, ◌*◌, max, refl, sym, ap, ap₂, ◌∙◌}
use Rattle.ls_text.specs.declared.place.Place.{Place}
use Rattle.verilog_ast.specs.declared.identifier.Identifier.{Identifier}
use Rattle.verilog_ast.specs.declared.number.Number.{Number}
use Rattle.verilog_ast.specs.declared.unary_operator.UnaryOperator.{UnaryOperator}
use Rattle.verilog_ast.specs.declared.binary_operator.BinaryOperator.{BinaryOperator}
use Rattle.verilog_ast.specs.Expressions as e
use Rattle.verilog_ast.specs.Expressions.{Expression}
use Rattle.width_rules.specs.Operators.{unary_kind, operator_of}
use Rattle.width_rules.specs.Scopes.{Scope}
use Rattle.width_rules.specs.Sizes.{length, literal_length, name_length, unary_length, binary_length, count_of, bits_between, read_as}
use Rattle.width_rules.specs.Signs.{is_signed}
use Rattle.width_rules.specs.Constants.{constant, integer}

pub literal_is : (scope : Scope) (at : Place) (x : Number) → length scope (e.Literal at x) ≡ literal_length x.size
unfolding length
literal_is scope at x = refl

pub whole_is : (scope : Scope) (n : Identifier) → length scope (e.Whole n) ≡ name_length (scope n.name.0)
unfolding length
whole_is scope n = refl

pub bit_is : (scope : Scope) (n : Identifier) (x : Expression) → length scope (e.BitSelect n x) ≡ 1
unfolding length
bit_is scope n x = refl

pub part_is : (scope : Scope) (n : Identifier) (x y : Expression) → length scope (e.PartSelect n x y) ≡ bits_between (integer scope x) (integer scope y)
unfolding length
part_is scope n x y = refl

pub upward_is : (scope : Scope) (n : Identifier) (x y : Expression) → length scope (e.UpwardSelect n x y) ≡ count_of (integer scope y)
unfolding length
upward_is scope n x y = refl

pub downward_is : (scope : Scope) (n : Identifier) (x y : Expression) → length scope (e.DownwardSelect n x y) ≡ count_of (integer scope y)
unfolding length
downward_is scope n x y = refl

pub unary_is : (scope : Scope) (at : Place) (op : UnaryOperator) (x : Expression) → length scope (e.Unary at op x) ≡ unary_length (unary_kind op) (length scope x)
unfolding length
unary_is scope at op x = refl

pub binary_is : (scope : Scope) (op : BinaryOperator) (x y : Expression) → length scope (e.Binary op x y) ≡ binary_length (operator_of op) (length scope x) (length scope y)
unfolding length
binary_is scope op x y = refl

pub conditional_is : (scope : Scope) (c x y : Expression) → length scope (e.Conditional c x y) ≡ max (length scope x) (length scope y)
unfolding length
conditional_is scope c x y = refl

pub bracketed_is : (scope : Scope) (at : Place) (x : Expression) → length scope (e.Bracketed at x) ≡ length scope x
unfolding length
bracketed_is scope at x = refl

pub concatenation_is : (scope : Scope) (at : Place) (xs : Expression) → length scope (e.Concatenation at xs) ≡ length scope xs
unfolding length
concatenation_is scope at xs = refl

pub replication_is : (scope : Scope) (at : Place) (c xs : Expression) → length scope (e.Replication at c xs) ≡ count_of (integer scope c) * length scope xs
unfolding length
replication_is scope at c xs = refl

-- ---- by the constants that the code found

pub read_same : (scope : Scope) (x : Expression) (sign : Bool) (width value : ℕ) → sign ≡ is_signed scope x → width ≡ length scope x → value ≡ constant scope x
    → read_as sign width value ≡ integer scope x
read_same scope x sign width value s w v =
    ap₂ (λ (a : Bool) (b : ℕ). read_as a b value) s w ∙ ap (read_as (is_signed scope x) (length scope x)) v

pub part_long : (scope : Scope) (n : Identifier) (x y : Expression) (bits : ℕ) (high low : ℤ) → bits ≡ bits_between high low
    → high ≡ integer scope x → low ≡ integer scope y → bits ≡ length scope (e.PartSelect n x y)
part_long scope n x y bits high low is h l = is ∙ ap₂ bits_between h l ∙ sym (part_is scope n x y)
