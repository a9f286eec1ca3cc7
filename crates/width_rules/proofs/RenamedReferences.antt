-- Names and selects that are written, under other names: the same bits, and the same faults with their other names.
use Rattle.std.proofs.Common.{◌≡◌, ℕ, ◌-◌, Bool, map, refl, ◌∙◌, ap}
use Rattle.ls_text.specs.declared.name_id.NameId.{NameId}
use Rattle.typed_ir.specs.Stmts.{SizedTarget}
use Rattle.verilog_ast.specs.declared.identifier.Identifier.{Identifier}
use Rattle.verilog_ast.specs.Expressions as e
use Rattle.verilog_ast.specs.Expressions.{Expression}
use Rattle.verilog_ast.specs.Renamed.{renamed_identifier}
use Rattle.verilog_ast.specs.Renaming.{expression_as}
use Rattle.width_rules.specs.declared.due.Due.{Due}
use Rattle.width_rules.specs.declared.due.Due.TheVariants.{ConstantOnly}
use Rattle.width_rules.specs.References.{whole_part, part_at, part_from, reference_part, target_name_faults, reference_faults}
use Rattle.width_rules.specs.Renaming.{MeansSame, fault_as}
use Rattle.width_rules.specs.Scopes.{Meaning, Signal, Constant, Turn, Genvar, Unknown, Scope}
use Rattle.width_rules.specs.Sizes.{Operand, count_of, bits_between}
use Rattle.width_rules.proofs.RenamedSizes.{same_fixed, same_worth, same_operand, parts_so, worth, alone}
use Rattle.width_rules.proofs.RenamedFaults.{both_so, run_so, part_so, width_so, same_count, same_between, same_faults}

-- ---- the bits

abbrev pub bit_part : ℕ → Meaning → Bool → Operand → Operand → SizedTarget
bit_part shift m b x y = part_at m shift 1 0 b (worth x) x.sign (alone x)

abbrev pub fixed_part : ℕ → Meaning → Bool → Operand → Operand → SizedTarget
fixed_part shift m b x y = part_from m shift (worth y) (bits_between (worth x) (worth y))

abbrev pub upward_part : ℕ → Meaning → Bool → Operand → Operand → SizedTarget
upward_part shift m b x y = part_at m shift (count_of (worth y)) 0 b (worth x) x.sign (alone x)

abbrev pub downward_part : ℕ → Meaning → Bool → Operand → Operand → SizedTarget
downward_part shift m b x y = part_at m shift (count_of (worth y)) (count_of (worth y) - 1) b (worth x) x.sign (alone x)

pub same_reference : (f : NameId → NameId) (scope other : Scope) (shift : ℕ) (x : Expression) → MeansSame f scope other → reference_part other shift (expression_as f x) ≡ reference_part scope shift x
same_reference f scope other shift (e.Whole n) same = ap (λ (m : Meaning). whole_part m shift) (same n.name)
same_reference f scope other shift (e.BitSelect n x) same =
    parts_so (bit_part shift) _ _ _ _ _ _ _ _ (same n.name) (same_fixed f scope other x same) (same_operand f scope other x same) (same_operand f scope other x same)
same_reference f scope other shift (e.PartSelect n x y) same =
    parts_so (fixed_part shift) _ _ _ _ _ _ _ _ (same n.name) (same_fixed f scope other x same) (same_operand f scope other x same) (same_operand f scope other y same)
same_reference f scope other shift (e.UpwardSelect n x y) same =
    parts_so (upward_part shift) _ _ _ _ _ _ _ _ (same n.name) (same_fixed f scope other x same) (same_operand f scope other x same) (same_operand f scope other y same)
same_reference f scope other shift (e.DownwardSelect n x y) same =
    parts_so (downward_part shift) _ _ _ _ _ _ _ _ (same n.name) (same_fixed f scope other x same) (same_operand f scope other x same) (same_operand f scope other y same)
same_reference f scope other shift (e.Literal at x) same = refl
same_reference f scope other shift (e.Unary at op x) same = refl
same_reference f scope other shift (e.Binary op x y) same = refl
same_reference f scope other shift (e.Conditional c x y) same = refl
same_reference f scope other shift (e.Concatenation at xs) same = refl
same_reference f scope other shift (e.Replication at c xs) same = refl
same_reference f scope other shift (e.Bracketed at x) same = refl
same_reference f scope other shift e.NoPart same = refl
same_reference f scope other shift (e.Parts x xs) same = refl

-- ---- faults

name_moves : (f : NameId → NameId) (m : Meaning) (n : Identifier) → target_name_faults m (renamed_identifier f n) ≡ map (fault_as f) (target_name_faults m n)
name_moves f (Signal signal width lsb signed writer) n = refl
name_moves f (Constant width value signed) n = refl
name_moves f (Turn width value signed) n = refl
name_moves f Genvar n = refl
name_moves f Unknown n = refl

name_so : (f : NameId → NameId) (scope other : Scope) (n : Identifier) → MeansSame f scope other
    → target_name_faults (other (f n.name).0) (renamed_identifier f n) ≡ map (fault_as f) (target_name_faults (scope n.name.0) n)
name_so f scope other n same = ap (λ (m : Meaning). target_name_faults m (renamed_identifier f n)) (same n.name) ∙ name_moves f (scope n.name.0) n

pub same_reference_faults : (f : NameId → NameId) (scope other : Scope) (due : Due) (x : Expression) → MeansSame f scope other
    → reference_faults other due (expression_as f x) ≡ map (fault_as f) (reference_faults scope due x)
same_reference_faults f scope other due (e.Whole n) same = name_so f scope other n same
same_reference_faults f scope other due (e.BitSelect n x) same =
    both_so f _ _ _ _ (name_so f scope other n same) (both_so f _ _ _ _ (same_faults f scope other due x same)
    (run_so f _ _ _ _ _ _ 1 1 0 0 n (same n.name) (same_fixed f scope other x same) (same_worth f scope other x same) refl refl))
same_reference_faults f scope other due (e.PartSelect n x y) same =
    both_so f _ _ _ _ (name_so f scope other n same) (both_so f _ _ _ _ (same_faults f scope other ConstantOnly x same)
    (both_so f _ _ _ _ (same_faults f scope other ConstantOnly y same)
    (part_so f _ _ _ _ _ _ n (same n.name) (same_worth f scope other y same) (same_between f scope other x y same))))
same_reference_faults f scope other due (e.UpwardSelect n x y) same =
    both_so f _ _ _ _ (name_so f scope other n same) (both_so f _ _ _ _ (same_faults f scope other due x same)
    (both_so f _ _ _ _ (same_faults f scope other ConstantOnly y same) (both_so f _ _ _ _ (width_so f n y _ _ (same_count f scope other y same))
    (run_so f _ _ _ _ _ _ _ _ 0 0 n (same n.name) (same_fixed f scope other x same) (same_worth f scope other x same) (same_count f scope other y same) refl))))
same_reference_faults f scope other due (e.DownwardSelect n x y) same =
    both_so f _ _ _ _ (name_so f scope other n same) (both_so f _ _ _ _ (same_faults f scope other due x same)
    (both_so f _ _ _ _ (same_faults f scope other ConstantOnly y same) (both_so f _ _ _ _ (width_so f n y _ _ (same_count f scope other y same))
    (run_so f _ _ _ _ _ _ _ _ _ _ n (same n.name) (same_fixed f scope other x same) (same_worth f scope other x same) (same_count f scope other y same)
    (ap (λ (w : ℕ). w - 1) (same_count f scope other y same))))))
same_reference_faults f scope other due (e.Literal at x) same = refl
same_reference_faults f scope other due (e.Unary at op x) same = refl
same_reference_faults f scope other due (e.Binary op x y) same = refl
same_reference_faults f scope other due (e.Conditional c x y) same = refl
same_reference_faults f scope other due (e.Concatenation at xs) same = refl
same_reference_faults f scope other due (e.Replication at c xs) same = refl
same_reference_faults f scope other due (e.Bracketed at x) same = refl
same_reference_faults f scope other due e.NoPart same = refl
same_reference_faults f scope other due (e.Parts x xs) same = refl
