-- The parts of a target, each where those right of it stand below it, are those of the definition.
use Rattle.std.proofs.Common.{◌≡◌, ℕ, ◌+◌, Bool, true, false, ℤ, List, [], ◌∷◌, ◌++◌, refl, sym, ◌∙◌, ap, ap₂}
use Rattle.std.proofs.Math.Nat.{add_assoc, add_comm, add-zero, zero-add}
use Rattle.typed_ir.specs.Sized.{Sized}
use Rattle.typed_ir.specs.Stmts.{SizedTarget}
use Rattle.verilog_ast.specs.Expressions as e
use Rattle.verilog_ast.specs.Expressions.{Expression, Target, Reference, Joined, NoTarget, Targets}
use Rattle.width_rules.specs.Scopes.{Meaning, Signal, Constant, Turn, Genvar, Unknown, Scope}
use Rattle.width_rules.specs.Signs.{is_signed}
use Rattle.width_rules.specs.Sizes.{is_constant, count_of, bits_between}
use Rattle.width_rules.specs.Constants.{integer}
use Rattle.width_rules.specs.Opened.{own}
use Rattle.width_rules.specs.References.{whole_part, part_at, part_from, reference_part}
use Rattle.statement_rules.specs.Targets.{target_length, parts}
use Rattle.statement_rules.specs.Leaves.{Leaf, shifted, leaves, bits_of, laid}

whole_shifted : (m : Meaning) (s : ℕ) → whole_part m s ≡ shifted s (whole_part m 0)
whole_shifted (Signal signal width lsb signed writer) s = refl
whole_shifted (Constant width value signed) s = refl
whole_shifted (Turn width value signed) s = refl
whole_shifted Genvar s = refl
whole_shifted Unknown s = refl

at_shifted : (m : Meaning) (s width down : ℕ) (c : Bool) (at : ℤ) (signed : Bool) (x : Sized)
    → part_at m s width down c at signed x ≡ shifted s (part_at m 0 width down c at signed x)
at_shifted (Signal signal total lsb sign writer) s width down true at signed x = refl
at_shifted (Signal signal total lsb sign writer) s width down false at signed x = refl
at_shifted (Constant own value sign) s width down c at signed x = refl
at_shifted (Turn own value sign) s width down c at signed x = refl
at_shifted Genvar s width down c at signed x = refl
at_shifted Unknown s width down c at signed x = refl

from_shifted : (m : Meaning) (s : ℕ) (low : ℤ) (width : ℕ) → part_from m s low width ≡ shifted s (part_from m 0 low width)
from_shifted (Signal signal total lsb sign writer) s low width = refl
from_shifted (Constant own value sign) s low width = refl
from_shifted (Turn own value sign) s low width = refl
from_shifted Genvar s low width = refl
from_shifted Unknown s low width = refl

reference_shifted : (scope : Scope) (s : ℕ) (x : Expression) → reference_part scope s x ≡ shifted s (reference_part scope 0 x)
reference_shifted scope s (e.Literal at x) = refl
reference_shifted scope s (e.Whole n) = whole_shifted (scope n.name.0) s
reference_shifted scope s (e.BitSelect n x) = at_shifted (scope n.name.0) s 1 0 (is_constant scope x) (integer scope x) (is_signed scope x) (own scope x)
reference_shifted scope s (e.PartSelect n x y) = from_shifted (scope n.name.0) s (integer scope y) (bits_between (integer scope x) (integer scope y))
reference_shifted scope s (e.UpwardSelect n x y) =
    at_shifted (scope n.name.0) s (count_of (integer scope y)) 0 (is_constant scope x) (integer scope x) (is_signed scope x) (own scope x)
reference_shifted scope s (e.DownwardSelect n x y) =
    at_shifted (scope n.name.0) s (count_of (integer scope y)) _ (is_constant scope x) (integer scope x) (is_signed scope x) (own scope x)
reference_shifted scope s (e.Unary at op x) = refl
reference_shifted scope s (e.Binary op x y) = refl
reference_shifted scope s (e.Conditional c x y) = refl
reference_shifted scope s (e.Concatenation at xs) = refl
reference_shifted scope s (e.Replication at c xs) = refl
reference_shifted scope s (e.Bracketed at x) = refl
reference_shifted scope s e.NoPart = refl
reference_shifted scope s (e.Parts x xs) = refl

bits_append : (xs ys : List Leaf) → bits_of (xs ++ ys) ≡ bits_of xs + bits_of ys
bits_append [] ys = sym (zero-add (bits_of ys))
bits_append (x ∷ xs) ys = ap (λ n. x.width + n) (bits_append xs ys) ∙ sym (add_assoc x.width (bits_of xs) (bits_of ys))

pub leaves_bits : (scope : Scope) (t : Target) → bits_of (leaves scope t) ≡ target_length scope t
leaves_bits scope (Reference x) = add-zero _
leaves_bits scope (Joined at ts) = leaves_bits scope ts
leaves_bits scope NoTarget = refl
leaves_bits scope (Targets t ts) = bits_append (leaves scope t) (leaves scope ts) ∙ ap₂ (λ a b. a + b) (leaves_bits scope t) (leaves_bits scope ts)

laid_append : (s : ℕ) (xs ys : List Leaf) → laid s (xs ++ ys) ≡ laid (s + bits_of ys) xs ++ laid s ys
laid_append s [] ys = refl
laid_append s (x ∷ xs) ys =
    ap₂ (λ (n : ℕ) (ts : List SizedTarget). shifted n x.part ∷ ts)
    (ap (λ n. s + n) (bits_append xs ys ∙ add_comm (bits_of xs) (bits_of ys)) ∙ sym (add_assoc s (bits_of ys) (bits_of xs))) (laid_append s xs ys)

pub leaves_laid : (scope : Scope) (s : ℕ) (t : Target) → laid s (leaves scope t) ≡ parts scope s t
leaves_laid scope s (Reference x) =
    ap (λ n. shifted n (reference_part scope 0 x) ∷ []) (add-zero s) ∙ ap (λ (y : SizedTarget). y ∷ []) (sym (reference_shifted scope s x))
leaves_laid scope s (Joined at ts) = leaves_laid scope s ts
leaves_laid scope s NoTarget = refl
leaves_laid scope s (Targets t ts) =
    laid_append s (leaves scope t) (leaves scope ts)
    ∙ ap (λ n. laid (s + n) (leaves scope t) ++ laid s (leaves scope ts)) (leaves_bits scope ts)
    ∙ ap₂ (λ (a b : List SizedTarget). a ++ b) (leaves_laid scope (s + target_length scope ts) t) (leaves_laid scope s ts)
