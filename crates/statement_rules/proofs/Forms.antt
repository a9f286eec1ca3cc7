-- An expression without a fault, sized, fits the signals of its scope.
use Rattle.std.proofs.Common.{◌≡◌, ℕ, zero, suc, ◌+◌, ◌-◌, ◌*◌, ◌%◌, ◌^◌, ◌≤◌, ◌==◌, Bool, true, List, [], ◌++◌, arith, le_refl}
use Rattle.std.proofs.Math.Nat.{le-max_left, le-max_right}
use Rattle.typed_ir.specs.Sized as s
use Rattle.typed_ir.specs.Sized.{Sized, width_of}
use Rattle.typed_ir.specs.Stmts.{is_sized}
use Rattle.verilog_ast.specs.Expressions.{Expression, Literal, Whole, BitSelect, PartSelect, UpwardSelect, DownwardSelect, Unary, Binary, Conditional, Concatenation, Replication, Bracketed, NoPart, Parts}
use Rattle.width_rules.specs.declared.due.Due.{Due}
use Rattle.width_rules.specs.declared.due.Due.TheVariants.{ConstantOnly}
use Rattle.width_rules.specs.Constants.{integer}
use Rattle.width_rules.specs.Faults.{faults, fault_if, fault_of, name_faults, run_faults, part_faults, width_faults, total_faults}
use Rattle.width_rules.specs.Opened.{own}
use Rattle.width_rules.specs.Operators.{unary_kind, operator_of}
use Rattle.width_rules.specs.Scopes.{Scope}
use Rattle.width_rules.specs.Signs.{is_signed}
use Rattle.width_rules.specs.Sizes.{length, push, joined, beside, literal_length, is_constant, count_of, bits_between, bits_at, bits_from}
use Rattle.width_rules.proofs.Reading.{left_none, right_none}
use Rattle.width_rules.proofs.RenamedSizes.{seen}
use Rattle.statement_rules.specs.Fitting.{FitsScope}
use Rattle.statement_rules.specs.Written.{IsWritten, ArePartsWritten}
use Rattle.statement_rules.proofs.Bounds.{IsLong, some_if, run_none, third_none}
use Rattle.statement_rules.proofs.Lengths.{one_long, is_long, part_long, part_place, run_long, total_long}
use Rattle.statement_rules.proofs.Operands.{Fits, constant_fits, extended_fits, name_fits, bits_sized, range_sized, alone_fits, unary_fits, binary_fits, choice_fits, above_fits, repeated_sized}

no_bit : 1 ≤ 0 → ⊥
no_bit h = omega (arith, h)

-- one of so many copies has some bits, and no more than all
one_least : (n w : ℕ) → 1 ≤ n * w → 1 ≤ w
one_least n zero h = omega (arith, h)
one_least n (suc w) h = omega arith

one_most : (n w : ℕ) → 1 ≤ n → n * w ≤ 128 → w ≤ 128
one_most zero w h k = omega (arith, h)
one_most (suc n) w h k = omega (arith, k)

at_least : (a l : ℕ) → IsLong a → a ≤ l → l ≤ 128 → IsLong l
at_least a l long h k = record { least = omega (arith, long.least, h); most = k }

mutual
  unfolding length push joined beside

  pub form_fits : (scope : Scope) (widths : List ℕ) (due : Due) (e : Expression) (l : ℕ) (t : Bool) → FitsScope scope widths → IsWritten e → faults scope due e ≡ []
      → length scope e ≤ l → l ≤ 128 → Fits (push scope e l t) l widths
  form_fits scope widths due (Literal at x) l t ok w h least most =
      constant_fits (literal_length x.size) (x.value % 2 ^ literal_length x.size) l t widths
      (at_least (literal_length x.size) l (is_long scope widths due (Literal at x) ok w h) least most)
  form_fits scope widths due (Whole n) l t ok w h least most =
      name_fits (scope n.name.0) widths due n l t (ok n.name.0) h (at_least (length scope (Whole n)) l (is_long scope widths due (Whole n) ok w h) least most)
  form_fits scope widths due (BitSelect n x) l t ok w h least most =
      let rest : faults scope due x ++ run_faults (scope n.name.0) (is_constant scope x) (integer scope x) 1 0 n ≡ [] = right_none (name_faults (scope n.name.0) due n) _ h in
      extended_fits (bits_at (scope n.name.0) 1 0 (is_constant scope x) (integer scope x) (is_signed scope x) (own scope x)) l t widths
      (bits_sized (scope n.name.0) widths 1 0 (is_constant scope x) (integer scope x) (is_signed scope x) (own scope x) n (ok n.name.0) one_long
      (alone_fits (seen scope x) widths (is_long scope widths due x ok w (left_none (faults scope due x) _ rest)) (λ i u. form_fits scope widths due x i u ok w (left_none (faults scope due x) _ rest))).sized (right_none (faults scope due x) _ rest))
      (record { least = least; most = most })
  form_fits scope widths due (PartSelect n x y) l t ok w h least most =
      let width : ℕ = bits_between (integer scope x) (integer scope y) in
      let none : part_faults (scope n.name.0) (integer scope y) width n ≡ [] =
      third_none (name_faults (scope n.name.0) due n) (faults scope ConstantOnly x) (faults scope ConstantOnly y) (part_faults (scope n.name.0) (integer scope y) width n) h in
      let long : IsLong width = part_long (scope n.name.0) (integer scope y) width n none in
      extended_fits (bits_from (scope n.name.0) (integer scope y) width) l t widths
      (range_sized (scope n.name.0) widths (integer scope y) width n (ok n.name.0) long (part_place (scope n.name.0) (integer scope y) width n none))
      (at_least width l long least most)
  form_fits scope widths due (UpwardSelect n x y) l t ok w h least most =
      let width : ℕ = count_of (integer scope y) in
      let none = run_none (name_faults (scope n.name.0) due n) (faults scope due x) (faults scope ConstantOnly y) (width_faults n y width)
      (run_faults (scope n.name.0) (is_constant scope x) (integer scope x) width 0 n) h in
      let long : IsLong width = run_long n y width none.width in
      extended_fits (bits_at (scope n.name.0) width 0 (is_constant scope x) (integer scope x) (is_signed scope x) (own scope x)) l t widths
      (bits_sized (scope n.name.0) widths width 0 (is_constant scope x) (integer scope x) (is_signed scope x) (own scope x) n (ok n.name.0) long
      (alone_fits (seen scope x) widths (is_long scope widths due x ok w.0 none.index) (λ i u. form_fits scope widths due x i u ok w.0 none.index)).sized none.place)
      (at_least width l long least most)
  form_fits scope widths due (DownwardSelect n x y) l t ok w h least most =
      let width : ℕ = count_of (integer scope y) in
      let none = run_none (name_faults (scope n.name.0) due n) (faults scope due x) (faults scope ConstantOnly y) (width_faults n y width)
      (run_faults (scope n.name.0) (is_constant scope x) (integer scope x) width (width - 1) n) h in
      let long : IsLong width = run_long n y width none.width in
      extended_fits (bits_at (scope n.name.0) width (width - 1) (is_constant scope x) (integer scope x) (is_signed scope x) (own scope x)) l t widths
      (bits_sized (scope n.name.0) widths width (width - 1) (is_constant scope x) (integer scope x) (is_signed scope x) (own scope x) n (ok n.name.0) long
      (alone_fits (seen scope x) widths (is_long scope widths due x ok w.0 none.index) (λ i u. form_fits scope widths due x i u ok w.0 none.index)).sized none.place)
      (at_least width l long least most)
  form_fits scope widths due (Unary at op x) l t ok w h least most =
      unary_fits (unary_kind op) (seen scope x) widths (is_long scope widths due x ok w h) (λ i u. form_fits scope widths due x i u ok w h) l t least most
  form_fits scope widths due (Binary op x y) l t ok w h least most =
      let first : faults scope due x ≡ [] = left_none (faults scope due x) (faults scope due y) h in
      let second : faults scope due y ≡ [] = right_none (faults scope due x) (faults scope due y) h in
      binary_fits (operator_of op) (seen scope x) (seen scope y) widths (is_long scope widths due x ok w.0 first) (is_long scope widths due y ok w.1 second)
      (λ i u. form_fits scope widths due x i u ok w.0 first) (λ i u. form_fits scope widths due y i u ok w.1 second) l t least most
  form_fits scope widths due (Conditional c x y) l t ok w h least most =
      let both : faults scope due x ++ faults scope due y ≡ [] = right_none (faults scope due c) (faults scope due x ++ faults scope due y) h in
      choice_fits (own scope c) (push scope x l t) (push scope y l t) l widths
      (alone_fits (seen scope c) widths (is_long scope widths due c ok w.0 (left_none (faults scope due c) (faults scope due x ++ faults scope due y) h)) (λ i u. form_fits scope widths due c i u ok w.0 (left_none (faults scope due c) (faults scope due x ++ faults scope due y) h))).sized
      (form_fits scope widths due x l t ok w.1.0 (left_none (faults scope due x) (faults scope due y) both) (omega (arith, least, le-max_left (length scope x) (length scope y))) most)
      (form_fits scope widths due y l t ok w.1.1 (right_none (faults scope due x) (faults scope due y) both) (omega (arith, least, le-max_right (length scope x) (length scope y))) most)
  form_fits scope widths due (Concatenation at xs) l t ok w h least most =
      let long : IsLong (length scope xs) = total_long at (length scope xs) (right_none (faults scope due xs) (total_faults at (length scope xs)) h) in
      extended_fits (joined scope xs) l t widths
      (joined_fits scope widths due xs ok w (left_none (faults scope due xs) (total_faults at (length scope xs)) h) long.least long.most).sized
      (at_least (length scope xs) l long least most)
  form_fits scope widths due (Replication at c xs) l t ok w h least most =
      let many : ℕ = count_of (integer scope c) in
      let width : ℕ = length scope xs in
      let rest : fault_if (many == 0) (fault_of 26 c) ++ (faults scope due xs ++ total_faults at (many * width)) ≡ [] = right_none (faults scope ConstantOnly c) _ h in
      let some : 1 ≤ many = some_if many (fault_of 26 c) (left_none (fault_if (many == 0) (fault_of 26 c)) _ rest) in
      let last : faults scope due xs ++ total_faults at (many * width) ≡ [] = right_none (fault_if (many == 0) (fault_of 26 c)) _ rest in
      let long : IsLong (many * width) = total_long at (many * width) (right_none (faults scope due xs) (total_faults at (many * width)) last) in
      extended_fits (s.Repeat (many * width) many (joined scope xs)) l t widths
      (repeated_sized many width (joined scope xs) widths some long.most
      (joined_fits scope widths due xs ok w.1 (left_none (faults scope due xs) (total_faults at (many * width)) last) (one_least many width long.least) (one_most many width some long.most)))
      (at_least (many * width) l long least most)
  form_fits scope widths due (Bracketed at x) l t ok w h least most = form_fits scope widths due x l t ok w h least most
  form_fits scope widths due NoPart l t ok w h least most = absurd w
  form_fits scope widths due (Parts x xs) l t ok w h least most = absurd w

  -- the parts of a concatenation
  joined_fits : (scope : Scope) (widths : List ℕ) (due : Due) (xs : Expression) → FitsScope scope widths → ArePartsWritten xs → faults scope due xs ≡ []
      → 1 ≤ length scope xs → length scope xs ≤ 128 → Fits (joined scope xs) (length scope xs) widths
  joined_fits scope widths due NoPart ok w h least most = absurd (no_bit least)
  joined_fits scope widths due (Parts x xs) ok w h least most =
      beside_fits scope widths due (length scope x) (own scope x) xs ok w.1 (right_none (faults scope due x) (faults scope due xs) h)
      (alone_fits (seen scope x) widths (is_long scope widths due x ok w.0 (left_none (faults scope due x) (faults scope due xs) h)) (λ i u. form_fits scope widths due x i u ok w.0 (left_none (faults scope due x) (faults scope due xs) h))) most
  joined_fits scope widths due other ok w h least most = absurd w

  -- what stands before them, and these
  beside_fits : (scope : Scope) (widths : List ℕ) (due : Due) (width : ℕ) (before : Sized) (xs : Expression) → FitsScope scope widths → ArePartsWritten xs
      → faults scope due xs ≡ [] → Fits before width widths → width + length scope xs ≤ 128 → Fits (beside scope width before xs) (width + length scope xs) widths
  beside_fits scope widths due width before NoPart ok w h p most = record { sized = p.sized; width = omega (arith, p.width) }
  beside_fits scope widths due width before (Parts x xs) ok w h p most =
      let wide : ℕ = width + length scope x in
      let some : wide ≤ 128 = omega (arith, most) in
      let q : Fits (own scope x) (length scope x) widths = alone_fits (seen scope x) widths (is_long scope widths due x ok w.0 (left_none (faults scope due x) (faults scope due xs) h)) (λ i u. form_fits scope widths due x i u ok w.0 (left_none (faults scope due x) (faults scope due xs) h)) in
      let r : Fits (beside scope wide (s.Concat wide before (own scope x)) xs) (wide + length scope xs) widths =
      beside_fits scope widths due wide (s.Concat wide before (own scope x)) xs ok w.1 (right_none (faults scope due x) (faults scope due xs) h)
      (above_fits before (own scope x) width (length scope x) widths p q some) (omega (arith, most)) in
      record { sized = r.sized; width = omega (arith, r.width) }
  beside_fits scope widths due width before other ok w h p most = absurd w

-- at its own length
pub own_fits : (scope : Scope) (widths : List ℕ) (due : Due) (e : Expression) → FitsScope scope widths → IsWritten e → faults scope due e ≡ []
    → Fits (own scope e) (length scope e) widths
own_fits scope widths due e ok w h =
    form_fits scope widths due e (length scope e) (is_signed scope e) ok w h (le_refl (length scope e)) (is_long scope widths due e ok w h).most

pub form_sized : (scope : Scope) (widths : List ℕ) (due : Due) (e : Expression) (l : ℕ) (t : Bool) → FitsScope scope widths → IsWritten e → faults scope due e ≡ []
    → length scope e ≤ l → l ≤ 128 → is_sized (push scope e l t) widths ≡ true
form_sized scope widths due e l t ok w h least most = (form_fits scope widths due e l t ok w h least most).sized

pub form_width : (scope : Scope) (widths : List ℕ) (due : Due) (e : Expression) (l : ℕ) (t : Bool) → FitsScope scope widths → IsWritten e → faults scope due e ≡ []
    → length scope e ≤ l → l ≤ 128 → width_of (push scope e l t) ≡ l
form_width scope widths due e l t ok w h least most = (form_fits scope widths due e l t ok w h least most).width

pub own_sized : (scope : Scope) (widths : List ℕ) (due : Due) (e : Expression) → FitsScope scope widths → IsWritten e → faults scope due e ≡ []
    → is_sized (own scope e) widths ≡ true
own_sized scope widths due e ok w h = (own_fits scope widths due e ok w h).sized

pub own_width : (scope : Scope) (widths : List ℕ) (due : Due) (e : Expression) → FitsScope scope widths → IsWritten e → faults scope due e ≡ []
    → width_of (own scope e) ≡ length scope e
own_width scope widths due e ok w h = (own_fits scope widths due e ok w h).width
