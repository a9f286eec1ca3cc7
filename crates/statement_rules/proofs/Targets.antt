-- The parts of a target without a fault lie in signals of its scope.
use Rattle.std.proofs.Common.{◌≡◌, ℕ, ◌+◌, ◌-◌, ◌≤◌, ◌&&◌, Bool, true, false, not, List, [], ◌∷◌, ◌++◌, nat_lt, ℤ, refl, lt-ltb, arith}
use Rattle.std.proofs.lemmas.Bool.{and_from}
use Rattle.typed_ir.proofs.Cases.{and_left, and_right}
use Rattle.ls_text.specs.declared.fault.Fault.{Fault}
use Rattle.ls_text.proofs.Lists.{some_is_none}
use Rattle.typed_ir.specs.Sized.{Sized, is_signal, is_span, is_width}
use Rattle.typed_ir.specs.Stmts.{SizedTarget, Moving, is_sized, is_target, are_targets}
use Rattle.verilog_ast.specs.declared.identifier.Identifier.{Identifier}
use Rattle.verilog_ast.specs.Expressions.{Expression, Whole, BitSelect, PartSelect, UpwardSelect, DownwardSelect, Target, Reference, Joined, NoTarget, Targets}
use Rattle.width_rules.specs.declared.due.Due.{Due}
use Rattle.width_rules.specs.declared.due.Due.TheVariants.{ConstantOnly}
use Rattle.width_rules.specs.declared.writer.Writer.{Writer}
use Rattle.width_rules.specs.Constants.{integer}
use Rattle.width_rules.specs.Faults.{faults, fault_at, fault_if, lies, run_faults, range_faults, part_faults, width_faults, total_faults}
use Rattle.width_rules.specs.Opened.{own}
use Rattle.width_rules.specs.References.{known_part, whole_part, part_at, part_from, reference_part, target_name_faults, reference_faults}
use Rattle.width_rules.specs.Scopes.{Meaning, Signal, Constant, Turn, Genvar, Unknown, Scope}
use Rattle.width_rules.specs.Signs.{is_signed}
use Rattle.width_rules.specs.Sizes.{length, name_length, is_constant, count_of, bits_between, low_of}
use Rattle.statement_rules.specs.Targets.{target_length, parts, target_faults, may_write, reference_kind, kind_faults}
use Rattle.width_rules.proofs.Reading.{left_none, right_none}
use Rattle.statement_rules.specs.Fitting.{FitsMeaning, FitsScope}
use Rattle.statement_rules.specs.Written.{IsReference, IsTargetWritten, AreTargetsWritten}
use Rattle.statement_rules.proofs.Bounds.{IsLong, long_from, width_from, holds_if, run_none, third_none}
use Rattle.statement_rules.proofs.Forms.{own_fits}
use Rattle.statement_rules.proofs.Lengths.{one_long, part_long, part_place, run_long, total_long}
use Rattle.statement_rules.proofs.Operands.{lies_below, span_in}

-- what some written bits need: they end at 128 or before, and begin before 128
shift_below : (shift width : ℕ) → IsLong width → shift + width ≤ 128 → nat_lt shift 128 ≡ true
shift_below shift width long most = lt-ltb shift 128 (omega (arith, long.least, most))

known_fits : (shift signal low width total : ℕ) (widths : List ℕ) → is_signal signal total widths ≡ true → IsLong width → low + width ≤ total → shift + width ≤ 128
    → is_target (known_part shift signal low width) widths ≡ true
known_fits shift signal low width total widths there long ends most =
    and_from (nat_lt shift 128) (is_span (record { signal = signal; low = low; width = width }) widths) (shift_below shift width long most)
    (span_in signal low width total widths there long.least ends)

moving_fits : (shift signal width total below : ℕ) (signed : Bool) (index : Sized) (widths : List ℕ) → is_width total ≡ true → is_signal signal total widths ≡ true
    → IsLong width → is_sized index widths ≡ true → shift + width ≤ 128
    → is_target (Moving (record { shift = shift; signal = signal; total = total; width = width; below = below; signed = signed }) index) widths ≡ true
moving_fits shift signal width total below signed index widths wide there long h most =
    and_from (nat_lt shift 128 && (is_width width && is_width total)) (is_signal signal total widths && is_sized index widths)
    (and_from (nat_lt shift 128) (is_width width && is_width total) (shift_below shift width long most)
    (and_from (is_width width) (is_width total) (width_from width long) wide))
    (and_from (is_signal signal total widths) (is_sized index widths) there h)

-- ---- names and selects; what may be written is a signal

-- where this assignment doesn't write what the name means
abbrev pub wrong_kind : Writer → Meaning → Identifier → List Fault
wrong_kind by m n = fault_if (not (may_write by m)) (fault_at 33 n)

written_long : (m : Meaning) (widths : List ℕ) (by : Writer) (n : Identifier) → FitsMeaning m widths → wrong_kind by m n ≡ [] → IsLong (name_length m)
written_long (Signal signal width lsb signed writer) widths by n fits h = long_from width fits.0
written_long (Constant width value signed) widths by n fits h = long_from width fits.0
written_long (Turn width value signed) widths by n fits h = long_from width fits.0
written_long Genvar widths by n fits h = one_long
written_long Unknown widths by n fits h = one_long

whole_fits : (m : Meaning) (widths : List ℕ) (by : Writer) (n : Identifier) (shift : ℕ) → FitsMeaning m widths → wrong_kind by m n ≡ [] → shift + name_length m ≤ 128
    → is_target (whole_part m shift) widths ≡ true
whole_fits (Signal signal width lsb signed writer) widths by n shift fits h most =
    known_fits shift signal 0 width width widths fits.1 (long_from width fits.0) (omega arith) most
whole_fits (Constant width value signed) widths by n shift fits h most = some_is_none (fault_at 33 n) [] h
whole_fits (Turn width value signed) widths by n shift fits h most = some_is_none (fault_at 33 n) [] h
whole_fits Genvar widths by n shift fits h most = some_is_none (fault_at 33 n) [] h
whole_fits Unknown widths by n shift fits h most = some_is_none (fault_at 33 n) [] h

run_fits : (m : Meaning) (widths : List ℕ) (shift width down : ℕ) (constant : Bool) (at : ℤ) (signed : Bool) (index : Sized) (n : Identifier) → FitsMeaning m widths
    → IsLong width → is_sized index widths ≡ true → run_faults m constant at width down n ≡ [] → shift + width ≤ 128
    → is_target (part_at m shift width down constant at signed index) widths ≡ true
run_fits (Signal signal total lsb sign writer) widths shift width down true at signed index n fits long h none most =
    known_fits shift signal (low_of at (lsb + down)) width total widths fits.1 long
    (lies_below at (lsb + down) width total (holds_if (lies at (lsb + down) width total) (fault_at 32 n) none)) most
run_fits (Signal signal total lsb sign writer) widths shift width down false at signed index n fits long h none most =
    moving_fits shift signal width total (lsb + down) signed index widths fits.0 fits.1 long h most
run_fits (Constant own value sign) widths shift width down constant at signed index n fits long h none most = some_is_none (fault_at 32 n) [] none
run_fits (Turn own value sign) widths shift width down constant at signed index n fits long h none most = some_is_none (fault_at 32 n) [] none
run_fits Genvar widths shift width down constant at signed index n fits long h none most = some_is_none (fault_at 32 n) [] none
run_fits Unknown widths shift width down constant at signed index n fits long h none most = some_is_none (fault_at 32 n) [] none

range_fits : (m : Meaning) (widths : List ℕ) (shift : ℕ) (low : ℤ) (width : ℕ) (n : Identifier) → FitsMeaning m widths → IsLong width → range_faults m low width n ≡ []
    → shift + width ≤ 128 → is_target (part_from m shift low width) widths ≡ true
range_fits (Signal signal total lsb sign writer) widths shift low width n fits long none most =
    known_fits shift signal (low_of low lsb) width total widths fits.1 long (lies_below low lsb width total (holds_if (lies low lsb width total) (fault_at 32 n) none)) most
range_fits (Constant own value sign) widths shift low width n fits long none most = some_is_none (fault_at 32 n) [] none
range_fits (Turn own value sign) widths shift low width n fits long none most = some_is_none (fault_at 32 n) [] none
range_fits Genvar widths shift low width n fits long none most = some_is_none (fault_at 32 n) [] none
range_fits Unknown widths shift low width n fits long none most = some_is_none (fault_at 32 n) [] none

reference_long : (scope : Scope) (widths : List ℕ) (due : Due) (by : Writer) (x : Expression) → FitsScope scope widths → IsReference x → reference_faults scope due x ≡ []
    → reference_kind scope by x ≡ [] → IsLong (length scope x)
unfolding length
reference_long scope widths due by (Whole n) ok w h k = written_long (scope n.name.0) widths by n (ok n.name.0) k
reference_long scope widths due by (BitSelect n x) ok w h k = one_long
reference_long scope widths due by (PartSelect n x y) ok w h k =
    part_long (scope n.name.0) (integer scope y) (bits_between (integer scope x) (integer scope y)) n
    (third_none (target_name_faults (scope n.name.0) n) (faults scope ConstantOnly x) (faults scope ConstantOnly y)
    (part_faults (scope n.name.0) (integer scope y) (bits_between (integer scope x) (integer scope y)) n) h)
reference_long scope widths due by (UpwardSelect n x y) ok w h k =
    run_long n y (count_of (integer scope y))
    (run_none (target_name_faults (scope n.name.0) n) (faults scope due x) (faults scope ConstantOnly y) (width_faults n y (count_of (integer scope y)))
    (run_faults (scope n.name.0) (is_constant scope x) (integer scope x) (count_of (integer scope y)) 0 n) h).width
reference_long scope widths due by (DownwardSelect n x y) ok w h k =
    run_long n y (count_of (integer scope y))
    (run_none (target_name_faults (scope n.name.0) n) (faults scope due x) (faults scope ConstantOnly y) (width_faults n y (count_of (integer scope y)))
    (run_faults (scope n.name.0) (is_constant scope x) (integer scope x) (count_of (integer scope y)) (count_of (integer scope y) - 1) n) h).width
reference_long scope widths due by other ok w h k = absurd w

reference_fits : (scope : Scope) (widths : List ℕ) (due : Due) (by : Writer) (shift : ℕ) (x : Expression) → FitsScope scope widths → IsReference x → reference_faults scope due x ≡ []
    → reference_kind scope by x ≡ [] → shift + length scope x ≤ 128 → is_target (reference_part scope shift x) widths ≡ true
unfolding length
reference_fits scope widths due by shift (Whole n) ok w h k most = whole_fits (scope n.name.0) widths by n shift (ok n.name.0) k most
reference_fits scope widths due by shift (BitSelect n x) ok w h k most =
    let names : List Fault = target_name_faults (scope n.name.0) n in
    let run : List Fault = run_faults (scope n.name.0) (is_constant scope x) (integer scope x) 1 0 n in
    let rest : faults scope due x ++ run ≡ [] = right_none names (faults scope due x ++ run) h in
    run_fits (scope n.name.0) widths shift 1 0 (is_constant scope x) (integer scope x) (is_signed scope x) (own scope x) n (ok n.name.0) one_long
    (own_fits scope widths due x ok w (left_none (faults scope due x) run rest)).sized (right_none (faults scope due x) run rest) most
reference_fits scope widths due by shift (PartSelect n x y) ok w h k most =
    let width : ℕ = bits_between (integer scope x) (integer scope y) in
    let none : part_faults (scope n.name.0) (integer scope y) width n ≡ [] =
    third_none (target_name_faults (scope n.name.0) n) (faults scope ConstantOnly x) (faults scope ConstantOnly y) (part_faults (scope n.name.0) (integer scope y) width n) h in
    range_fits (scope n.name.0) widths shift (integer scope y) width n (ok n.name.0) (part_long (scope n.name.0) (integer scope y) width n none)
    (part_place (scope n.name.0) (integer scope y) width n none) most
reference_fits scope widths due by shift (UpwardSelect n x y) ok w h k most =
    let width : ℕ = count_of (integer scope y) in
    let none = run_none (target_name_faults (scope n.name.0) n) (faults scope due x) (faults scope ConstantOnly y) (width_faults n y width)
    (run_faults (scope n.name.0) (is_constant scope x) (integer scope x) width 0 n) h in
    run_fits (scope n.name.0) widths shift width 0 (is_constant scope x) (integer scope x) (is_signed scope x) (own scope x) n (ok n.name.0) (run_long n y width none.width)
    (own_fits scope widths due x ok w.0 none.index).sized none.place most
reference_fits scope widths due by shift (DownwardSelect n x y) ok w h k most =
    let width : ℕ = count_of (integer scope y) in
    let none = run_none (target_name_faults (scope n.name.0) n) (faults scope due x) (faults scope ConstantOnly y) (width_faults n y width)
    (run_faults (scope n.name.0) (is_constant scope x) (integer scope x) width (width - 1) n) h in
    run_fits (scope n.name.0) widths shift width (width - 1) (is_constant scope x) (integer scope x) (is_signed scope x) (own scope x) n (ok n.name.0) (run_long n y width none.width)
    (own_fits scope widths due x ok w.0 none.index).sized none.place most
reference_fits scope widths due by shift other ok w h k most = absurd w

-- ---- targets

pub target_long : (scope : Scope) (widths : List ℕ) (due : Due) (by : Writer) (t : Target) → FitsScope scope widths → IsTargetWritten t → target_faults scope due t ≡ []
    → kind_faults scope by t ≡ [] → IsLong (target_length scope t)
target_long scope widths due by (Reference x) ok w h k = reference_long scope widths due by x ok w h k
target_long scope widths due by (Joined at ts) ok w h k = total_long at (target_length scope ts) (right_none (target_faults scope due ts) (total_faults at (target_length scope ts)) h)
target_long scope widths due by NoTarget ok w h k = absurd w
target_long scope widths due by (Targets t ts) ok w h k = absurd w

targets_more : (xs ys : List SizedTarget) (widths : List ℕ) → are_targets xs widths ≡ true → are_targets ys widths ≡ true → are_targets (xs ++ ys) widths ≡ true
targets_more [] ys widths h k = k
targets_more (x ∷ xs) ys widths h k =
    and_from (is_target x widths) (are_targets (xs ++ ys) widths) (and_left (is_target x widths) (are_targets xs widths) h)
    (targets_more xs ys widths (and_right (is_target x widths) (are_targets xs widths) h) k)

mutual
  pub parts_fit : (scope : Scope) (widths : List ℕ) (due : Due) (by : Writer) (shift : ℕ) (t : Target) → FitsScope scope widths → IsTargetWritten t → target_faults scope due t ≡ []
      → kind_faults scope by t ≡ [] → shift + target_length scope t ≤ 128 → are_targets (parts scope shift t) widths ≡ true
  parts_fit scope widths due by shift (Reference x) ok w h k most =
      and_from (is_target (reference_part scope shift x) widths) true (reference_fits scope widths due by shift x ok w h k most) refl
  parts_fit scope widths due by shift (Joined at ts) ok w h k most =
      all_fit scope widths due by shift ts ok w (left_none (target_faults scope due ts) (total_faults at (target_length scope ts)) h) k most
  parts_fit scope widths due by shift NoTarget ok w h k most = absurd w
  parts_fit scope widths due by shift (Targets t ts) ok w h k most = absurd w

  all_fit : (scope : Scope) (widths : List ℕ) (due : Due) (by : Writer) (shift : ℕ) (t : Target) → FitsScope scope widths → AreTargetsWritten t → target_faults scope due t ≡ []
      → kind_faults scope by t ≡ [] → shift + target_length scope t ≤ 128 → are_targets (parts scope shift t) widths ≡ true
  all_fit scope widths due by shift NoTarget ok w h k most = refl
  all_fit scope widths due by shift (Targets t ts) ok w h k most =
      targets_more (parts scope (shift + target_length scope ts) t) (parts scope shift ts) widths
      (parts_fit scope widths due by (shift + target_length scope ts) t ok w.0 (left_none (target_faults scope due t) (target_faults scope due ts) h)
      (left_none (kind_faults scope by t) (kind_faults scope by ts) k) (omega (arith, most)))
      (all_fit scope widths due by shift ts ok w.1 (right_none (target_faults scope due t) (target_faults scope due ts) h)
      (right_none (kind_faults scope by t) (kind_faults scope by ts) k) (omega (arith, most)))
  all_fit scope widths due by shift other ok w h k most = absurd w

pub target_parts : (scope : Scope) (widths : List ℕ) (due : Due) (by : Writer) (t : Target) → FitsScope scope widths → IsTargetWritten t → target_faults scope due t ≡ []
    → kind_faults scope by t ≡ [] → are_targets (parts scope 0 t) widths ≡ true
target_parts scope widths due by t ok w h k =
    let long : IsLong (target_length scope t) = target_long scope widths due by t ok w h k in
    parts_fit scope widths due by 0 t ok w h k (omega (arith, long.most))
