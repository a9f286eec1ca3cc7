-- Left of `assign` the bits of all parts are known, since its indices are constant.
use Rattle.std.proofs.Common.{◌≡◌, ℕ, ◌+◌, Bool, true, false, ℤ, List, [], ◌∷◌, ◌++◌, refl, sym, true≢false}
use Rattle.ls_text.specs.declared.fault.Fault.{Fault}
use Rattle.typed_ir.specs.Sized.{Sized}
use Rattle.typed_ir.specs.Stmts.{SizedTarget, Fixed, Moving}
use Rattle.verilog_ast.specs.Expressions as e
use Rattle.verilog_ast.specs.Expressions.{Expression, Target, Reference, Joined, NoTarget, Targets}
use Rattle.width_rules.specs.declared.due.Due.TheVariants.{ConstantOnly}
use Rattle.width_rules.specs.Scopes.{Meaning, Signal, Constant, Turn, Genvar, Unknown, Scope}
use Rattle.width_rules.specs.Signs.{is_signed}
use Rattle.width_rules.specs.Sizes.{is_constant, count_of, bits_between}
use Rattle.width_rules.specs.Constants.{integer}
use Rattle.width_rules.specs.Opened.{own}
use Rattle.width_rules.specs.Faults.{faults, total_faults}
use Rattle.width_rules.specs.References.{whole_part, part_at, part_from, reference_part, target_name_faults, reference_faults}
use Rattle.statement_rules.specs.Targets.{target_length, parts, target_faults}
use Rattle.statement_rules.specs.Drives.{are_fixed}
use Rattle.width_rules.proofs.Reading.{due_constant, left_none, right_none}

whole_fixed : (m : Meaning) (s : ℕ) → are_fixed (whole_part m s ∷ []) ≡ true
whole_fixed (Signal signal width lsb signed writer) s = refl
whole_fixed (Constant width value signed) s = refl
whole_fixed (Turn width value signed) s = refl
whole_fixed Genvar s = refl
whole_fixed Unknown s = refl

at_fixed : (m : Meaning) (s width down : ℕ) (c : Bool) (at : ℤ) (signed : Bool) (x : Sized) → c ≡ true → are_fixed (part_at m s width down c at signed x ∷ []) ≡ true
at_fixed (Signal signal total lsb sign writer) s width down true at signed x h = refl
at_fixed (Signal signal total lsb sign writer) s width down false at signed x h = absurd (true≢false (sym h))
at_fixed (Constant own value sign) s width down c at signed x h = refl
at_fixed (Turn own value sign) s width down c at signed x h = refl
at_fixed Genvar s width down c at signed x h = refl
at_fixed Unknown s width down c at signed x h = refl

from_fixed : (m : Meaning) (s : ℕ) (low : ℤ) (width : ℕ) → are_fixed (part_from m s low width ∷ []) ≡ true
from_fixed (Signal signal total lsb sign writer) s low width = refl
from_fixed (Constant own value sign) s low width = refl
from_fixed (Turn own value sign) s low width = refl
from_fixed Genvar s low width = refl
from_fixed Unknown s low width = refl

-- the index comes behind the name
index_none : (name index rest : List Fault) → name ++ (index ++ rest) ≡ [] → index ≡ []
index_none name index rest h = left_none index rest (right_none name (index ++ rest) h)

reference_fixed : (scope : Scope) (s : ℕ) (x : Expression) → reference_faults scope ConstantOnly x ≡ [] → are_fixed (reference_part scope s x ∷ []) ≡ true
reference_fixed scope s (e.Literal at x) h = refl
reference_fixed scope s (e.Whole n) h = whole_fixed (scope n.name.0) s
reference_fixed scope s (e.BitSelect n x) h =
    at_fixed (scope n.name.0) s 1 0 (is_constant scope x) (integer scope x) (is_signed scope x) (own scope x)
    (due_constant scope x (index_none (target_name_faults (scope n.name.0) n) (faults scope ConstantOnly x) _ h))
reference_fixed scope s (e.PartSelect n x y) h = from_fixed (scope n.name.0) s (integer scope y) (bits_between (integer scope x) (integer scope y))
reference_fixed scope s (e.UpwardSelect n x y) h =
    at_fixed (scope n.name.0) s (count_of (integer scope y)) 0 (is_constant scope x) (integer scope x) (is_signed scope x) (own scope x)
    (due_constant scope x (index_none (target_name_faults (scope n.name.0) n) (faults scope ConstantOnly x) _ h))
reference_fixed scope s (e.DownwardSelect n x y) h =
    at_fixed (scope n.name.0) s (count_of (integer scope y)) _ (is_constant scope x) (integer scope x) (is_signed scope x) (own scope x)
    (due_constant scope x (index_none (target_name_faults (scope n.name.0) n) (faults scope ConstantOnly x) _ h))
reference_fixed scope s (e.Unary at op x) h = refl
reference_fixed scope s (e.Binary op x y) h = refl
reference_fixed scope s (e.Conditional c x y) h = refl
reference_fixed scope s (e.Concatenation at xs) h = refl
reference_fixed scope s (e.Replication at c xs) h = refl
reference_fixed scope s (e.Bracketed at x) h = refl
reference_fixed scope s e.NoPart h = refl
reference_fixed scope s (e.Parts x xs) h = refl

both_fixed : (xs ys : List SizedTarget) → are_fixed xs ≡ true → are_fixed ys ≡ true → are_fixed (xs ++ ys) ≡ true
both_fixed [] ys h k = k
both_fixed (Fixed lane ∷ xs) ys h k = both_fixed xs ys h k
both_fixed (Moving reach index ∷ xs) ys h k = h

pub fixed : (scope : Scope) (s : ℕ) (t : Target) → target_faults scope ConstantOnly t ≡ [] → are_fixed (parts scope s t) ≡ true
fixed scope s (Reference x) h = reference_fixed scope s x h
fixed scope s (Joined at ts) h = fixed scope s ts (left_none (target_faults scope ConstantOnly ts) (total_faults at (target_length scope ts)) h)
fixed scope s NoTarget h = refl
fixed scope s (Targets t ts) h =
    both_fixed (parts scope (s + target_length scope ts) t) (parts scope s ts)
    (fixed scope (s + target_length scope ts) t (left_none (target_faults scope ConstantOnly t) (target_faults scope ConstantOnly ts) h))
    (fixed scope s ts (right_none (target_faults scope ConstantOnly t) (target_faults scope ConstantOnly ts) h))
