-- Names, selects and operators whose operands fit the signals fit them.
use Rattle.std.proofs.Common.{◌≡◌, ℕ, ◌+◌, ◌-◌, ◌*◌, ◌^◌, ◌≤◌, ◌==◌, ◌&&◌, max, Bool, true, false, List, [], slice_index, nat_le, nat_lt, ℤ, pos, negsuc, refl, sym, ◌∙◌, ap, subst, true≢false, leb-true, le-leb, lt-ltb, eqb-true, eq-eqb, arith, le_refl}
use Rattle.std.specs.Prelude.{length as count}
use Rattle.std.proofs.lemmas.Bool.{and_from, cond-true, cond-false}
use Rattle.std.proofs.Math.Nat.{le-max_left, le-max_right}
use Rattle.ls_text.proofs.Lists.{some_is_none}
use Rattle.bits.specs.Values.{resized}
use Rattle.bits.proofs.Runs.{wrapped_below}
use Rattle.typed_ir.proofs.Cases.{by_cases, and_left, and_right}
use Rattle.typed_ir.specs.declared.unary_operator.UnaryOperator.TheVariants.{Inverse}
use Rattle.typed_ir.specs.declared.binary_operator.BinaryOperator.{BinaryOperator as Operator}
use Rattle.typed_ir.specs.declared.binary_operator.BinaryOperator.TheVariants.{Arithmetic, Compare, Logical, Shift}
use Rattle.typed_ir.specs.Sized as s
use Rattle.typed_ir.specs.Sized.{Sized, agrees, fits_signals, is_signal, is_span, is_width, takes_widths, width_of}
use Rattle.typed_ir.specs.Stmts.{is_sized}
use Rattle.verilog_ast.specs.declared.identifier.Identifier.{Identifier}
use Rattle.width_rules.specs.declared.due.Due.{Due}
use Rattle.width_rules.specs.declared.kinds.UnaryKind.{UnaryKind}
use Rattle.width_rules.specs.declared.kinds.UnaryKind.TheVariants.{Kept, Negated, Inverted, OneBit, Complement}
use Rattle.width_rules.specs.Faults.{fault_at, lies, name_faults, run_faults, range_faults}
use Rattle.width_rules.specs.Operators.{arithmetic_with, comparison_with, shift_with}
use Rattle.width_rules.specs.Scopes.{Meaning, Signal, Constant, Turn, Genvar, Unknown}
use Rattle.width_rules.specs.Sizes.{Operand, self_determined, unary_at, binary_at, unary_length, binary_length, extended, constant_at, name_at, bits_at, bits_from, low_of}
use Rattle.statement_rules.specs.Fitting.{FitsMeaning}
use Rattle.statement_rules.proofs.Bounds.{IsLong, long_from, width_from, holds_if, max_most}

-- an expression of this width, whose widths agree, also with those of the signals
pub record Fits (x : Sized) (l : ℕ) (widths : List ℕ) : Type 0 where
  pub sized : is_sized x widths ≡ true
  pub width : width_of x ≡ l

pub agreeing : (x : Sized) (widths : List ℕ) → is_sized x widths ≡ true → agrees x ≡ true
agreeing x widths h = and_left (agrees x) (fits_signals x widths) h

pub signals_in : (x : Sized) (widths : List ℕ) → is_sized x widths ≡ true → fits_signals x widths ≡ true
signals_in x widths h = and_right (agrees x) (fits_signals x widths) h

-- ---- simple operands

pub constant_fits : (own value l : ℕ) (t : Bool) (widths : List ℕ) → IsLong l → Fits (constant_at own value l t) l widths
constant_fits own value l t widths long = record {
  sized = and_from (is_width l && nat_lt (resized own value l t) (2 ^ l)) true
      (and_from (is_width l) (nat_lt (resized own value l t) (2 ^ l)) (width_from l long) (lt-ltb (resized own value l t) (2 ^ l) (wrapped_below l _))) refl;
  width = refl;
}

pub extended_fits : (x : Sized) (l : ℕ) (t : Bool) (widths : List ℕ) → is_sized x widths ≡ true → IsLong l → Fits (extended x l t) l widths
extended_fits x l t widths h long = by_cases (width_of x == l)
    (λ y. subst (λ z. Fits z l widths) (sym (cond-true (width_of x == l) x (s.Resized x l t) y))
    (record { sized = h; width = eqb-true (width_of x) l y }))
    (λ n. subst (λ z. Fits z l widths) (sym (cond-false (width_of x == l) x (s.Resized x l t) n))
    (record {
      sized = and_from (is_width l && agrees x) (fits_signals x widths)
          (and_from (is_width l) (agrees x) (width_from l long) (agreeing x widths h)) (signals_in x widths h);
      width = refl;
    }))

pub whole_sized : (signal width : ℕ) (widths : List ℕ) → is_width width ≡ true → is_signal signal width widths ≡ true → is_sized (s.Name signal width) widths ≡ true
whole_sized signal width widths h k = and_from (is_width width) (is_signal signal width widths) h k

pub name_fits : (m : Meaning) (widths : List ℕ) (due : Due) (n : Identifier) (l : ℕ) (t : Bool) → FitsMeaning m widths → name_faults m due n ≡ []
    → IsLong l → Fits (name_at m l t) l widths
name_fits (Signal signal width lsb signed writer) widths due n l t fits h long =
    extended_fits (s.Name signal width) l t widths (whole_sized signal width widths fits.0 fits.1) long
name_fits (Constant width value signed) widths due n l t fits h long = constant_fits width value l t widths long
name_fits (Turn width value signed) widths due n l t fits h long = constant_fits width value l t widths long
name_fits Genvar widths due n l t fits h long = constant_fits 1 0 l t widths long
name_fits Unknown widths due n l t fits h long = constant_fits 1 0 l t widths long

-- ---- selects

pub lies_below : (at : ℤ) (below width total : ℕ) → lies at below width total ≡ true → low_of at below + width ≤ total
lies_below (pos at) below width total h = leb-true (at - below + width) total (and_right (nat_le below at) (nat_le (at - below + width) total) h)
lies_below (negsuc at) below width total h = absurd (true≢false (sym h))

pub signal_there : (signal total : ℕ) (widths : List ℕ) → is_signal signal total widths ≡ true → nat_lt signal (count widths) ≡ true
signal_there signal total widths h = and_left (nat_lt signal (count widths)) (slice_index widths signal == total) h

pub span_in : (signal low width total : ℕ) (widths : List ℕ) → is_signal signal total widths ≡ true → 1 ≤ width → low + width ≤ total
    → is_span (record { signal = signal; low = low; width = width }) widths ≡ true
span_in signal low width total widths there least most =
    let same : slice_index widths signal ≡ total =
    eqb-true (slice_index widths signal) total (and_right (nat_lt signal (count widths)) (slice_index widths signal == total) there) in
    and_from (nat_lt signal (count widths)) (nat_le 1 width && nat_le (low + width) (slice_index widths signal)) (signal_there signal total widths there)
    (and_from (nat_le 1 width) (nat_le (low + width) (slice_index widths signal)) (le-leb 1 width least)
    (subst (λ z. nat_le (low + width) z ≡ true) (sym same) (le-leb (low + width) total most)))

part_sized : (signal low width total : ℕ) (widths : List ℕ) → is_width total ≡ true → is_signal signal total widths ≡ true → 1 ≤ width → low + width ≤ total
    → is_sized (s.Part (record { signal = signal; low = low; width = width })) widths ≡ true
part_sized signal low width total widths wide there least most =
    and_from (nat_le 1 width && nat_le (low + width) 128) _
    (and_from (nat_le 1 width) (nat_le (low + width) 128) (le-leb 1 width least)
    (le-leb (low + width) 128 (omega (arith, most, (long_from total wide).most))))
    (span_in signal low width total widths there least most)

pick_sized : (signal width total below : ℕ) (signed : Bool) (index : Sized) (widths : List ℕ) → is_signal signal total widths ≡ true → IsLong width → is_sized index widths ≡ true
    → is_sized (s.Pick signal width below signed index) widths ≡ true
pick_sized signal width total below signed index widths there long h =
    and_from (is_width width && agrees index) (nat_lt signal (count widths) && fits_signals index widths)
    (and_from (is_width width) (agrees index) (width_from width long) (agreeing index widths h))
    (and_from (nat_lt signal (count widths)) (fits_signals index widths) (signal_there signal total widths there) (signals_in index widths h))

pub bits_sized : (m : Meaning) (widths : List ℕ) (width down : ℕ) (constant : Bool) (at : ℤ) (signed : Bool) (index : Sized) (n : Identifier) → FitsMeaning m widths
    → IsLong width → is_sized index widths ≡ true → run_faults m constant at width down n ≡ [] → is_sized (bits_at m width down constant at signed index) widths ≡ true
bits_sized (Signal signal total lsb sign writer) widths width down true at signed index n fits long h none =
    part_sized signal (low_of at (lsb + down)) width total widths fits.0 fits.1 long.least
    (lies_below at (lsb + down) width total (holds_if (lies at (lsb + down) width total) (fault_at 32 n) none))
bits_sized (Signal signal total lsb sign writer) widths width down false at signed index n fits long h none =
    pick_sized signal width total (lsb + down) signed index widths fits.1 long h
bits_sized (Constant own value sign) widths width down constant at signed index n fits long h none = some_is_none (fault_at 32 n) [] none
bits_sized (Turn own value sign) widths width down constant at signed index n fits long h none = some_is_none (fault_at 32 n) [] none
bits_sized Genvar widths width down constant at signed index n fits long h none = some_is_none (fault_at 32 n) [] none
bits_sized Unknown widths width down constant at signed index n fits long h none = some_is_none (fault_at 32 n) [] none

pub range_sized : (m : Meaning) (widths : List ℕ) (low : ℤ) (width : ℕ) (n : Identifier) → FitsMeaning m widths → IsLong width → range_faults m low width n ≡ []
    → is_sized (bits_from m low width) widths ≡ true
range_sized (Signal signal total lsb sign writer) widths low width n fits long none =
    part_sized signal (low_of low lsb) width total widths fits.0 fits.1 long.least
    (lies_below low lsb width total (holds_if (lies low lsb width total) (fault_at 32 n) none))
range_sized (Constant own value sign) widths low width n fits long none = some_is_none (fault_at 32 n) [] none
range_sized (Turn own value sign) widths low width n fits long none = some_is_none (fault_at 32 n) [] none
range_sized Genvar widths low width n fits long none = some_is_none (fault_at 32 n) [] none
range_sized Unknown widths low width n fits long none = some_is_none (fault_at 32 n) [] none

-- ---- operators

-- an operand fits at each length from its own to 128
abbrev pub FitsAt : Operand → List ℕ → Type 0
FitsAt x widths = (l : ℕ) (t : Bool) → x.own ≤ l → l ≤ 128 → Fits (x.at l t) l widths

pub alone_fits : (x : Operand) (widths : List ℕ) → IsLong x.own → FitsAt x widths → Fits (self_determined x) x.own widths
alone_fits x widths long h = h x.own x.sign (le_refl x.own) long.most

pub unary_fits : (k : UnaryKind) (x : Operand) (widths : List ℕ) → IsLong x.own → FitsAt x widths → (l : ℕ) (t : Bool) → unary_length k x.own ≤ l → l ≤ 128
    → Fits (unary_at k x l t) l widths
unary_fits Kept x widths long h l t least most = h l t least most
unary_fits Negated x widths long h l t least most = let a = h l t least most in record { sized = a.sized; width = a.width }
unary_fits Inverted x widths long h l t least most = let a = h l t least most in record { sized = a.sized; width = a.width }
unary_fits (OneBit op) x widths long h l t least most =
    extended_fits (s.Unary op (self_determined x)) l t widths (alone_fits x widths long h).sized (record { least = least; most = most })
unary_fits (Complement op) x widths long h l t least most =
    extended_fits (s.Unary Inverse (s.Unary op (self_determined x))) l t widths (alone_fits x widths long h).sized (record { least = least; most = most })

-- where the operator takes these widths
binary_sized : (op : Operator) (a b : Sized) (widths : List ℕ) → takes_widths op (width_of a) (width_of b) ≡ true → is_sized a widths ≡ true → is_sized b widths ≡ true
    → is_sized (s.Binary op a b) widths ≡ true
binary_sized op a b widths takes h k =
    and_from (takes_widths op (width_of a) (width_of b) && (agrees a && agrees b)) (fits_signals a widths && fits_signals b widths)
    (and_from (takes_widths op (width_of a) (width_of b)) (agrees a && agrees b) takes (and_from (agrees a) (agrees b) (agreeing a widths h) (agreeing b widths k)))
    (and_from (fits_signals a widths) (fits_signals b widths) (signals_in a widths h) (signals_in b widths k))

pub same_widths : (a b : Sized) (l : ℕ) → width_of a ≡ l → width_of b ≡ l → (width_of a == width_of b) ≡ true
same_widths a b l h k = eq-eqb (width_of a) (width_of b) (h ∙ sym k)

pub binary_fits : (o : Operator) (x y : Operand) (widths : List ℕ) → IsLong x.own → IsLong y.own → FitsAt x widths → FitsAt y widths
    → (l : ℕ) (t : Bool) → binary_length o x.own y.own ≤ l → l ≤ 128 → Fits (binary_at o x y l t) l widths
binary_fits (Arithmetic op) x y widths p q h k l t least most =
    let a : Fits (x.at l t) l widths = h l t (omega (arith, least, le-max_left x.own y.own)) most in
    let b : Fits (y.at l t) l widths = k l t (omega (arith, least, le-max_right x.own y.own)) most in
    record {
      sized = binary_sized (Arithmetic (arithmetic_with op t)) (x.at l t) (y.at l t) widths (same_widths (x.at l t) (y.at l t) l a.width b.width) a.sized b.sized;
      width = a.width;
    }
binary_fits (Shift op) x y widths p q h k l t least most =
    let a : Fits (x.at l t) l widths = h l t least most in
    record {
      sized = binary_sized (Shift (shift_with op t)) (x.at l t) (self_determined y) widths refl a.sized (alone_fits y widths q k).sized;
      width = a.width;
    }
binary_fits (Compare op) x y widths p q h k l t least most =
    let both : ℕ = max x.own y.own in
    let sign : Bool = x.sign && y.sign in
    let few : both ≤ 128 = max_most x.own y.own 128 p.most q.most in
    let a : Fits (x.at both sign) both widths = h both sign (le-max_left x.own y.own) few in
    let b : Fits (y.at both sign) both widths = k both sign (le-max_right x.own y.own) few in
    extended_fits (s.Binary (Compare (comparison_with op sign)) (x.at both sign) (y.at both sign)) l t widths
    (binary_sized (Compare (comparison_with op sign)) (x.at both sign) (y.at both sign) widths (same_widths (x.at both sign) (y.at both sign) both a.width b.width) a.sized b.sized)
    (record { least = least; most = most })
binary_fits (Logical op) x y widths p q h k l t least most =
    extended_fits (s.Binary (Logical op) (self_determined x) (self_determined y)) l t widths
    (binary_sized (Logical op) (self_determined x) (self_determined y) widths refl (alone_fits x widths p h).sized (alone_fits y widths q k).sized)
    (record { least = least; most = most })

pub choice_fits : (c a b : Sized) (l : ℕ) (widths : List ℕ) → is_sized c widths ≡ true → Fits a l widths → Fits b l widths → Fits (s.Choice c a b) l widths
choice_fits c a b l widths h p q = record {
  sized = and_from ((width_of a == width_of b) && (agrees c && (agrees a && agrees b))) (fits_signals c widths && (fits_signals a widths && fits_signals b widths))
      (and_from (width_of a == width_of b) (agrees c && (agrees a && agrees b)) (same_widths a b l p.width q.width)
      (and_from (agrees c) (agrees a && agrees b) (agreeing c widths h) (and_from (agrees a) (agrees b) (agreeing a widths p.sized) (agreeing b widths q.sized))))
      (and_from (fits_signals c widths) (fits_signals a widths && fits_signals b widths) (signals_in c widths h)
      (and_from (fits_signals a widths) (fits_signals b widths) (signals_in a widths p.sized) (signals_in b widths q.sized)));
  width = p.width;
}

-- ---- concatenations

pub above_fits : (a b : Sized) (v w : ℕ) (widths : List ℕ) → Fits a v widths → Fits b w widths → v + w ≤ 128 → Fits (s.Concat (v + w) a b) (v + w) widths
above_fits a b v w widths p q most = record {
  sized = and_from (((v + w) == width_of a + width_of b) && (nat_le (v + w) 128 && (agrees a && agrees b))) (fits_signals a widths && fits_signals b widths)
      (and_from ((v + w) == width_of a + width_of b) (nat_le (v + w) 128 && (agrees a && agrees b))
      (eq-eqb (v + w) (width_of a + width_of b) (omega (arith, p.width, q.width)))
      (and_from (nat_le (v + w) 128) (agrees a && agrees b) (le-leb (v + w) 128 most)
      (and_from (agrees a) (agrees b) (agreeing a widths p.sized) (agreeing b widths q.sized))))
      (and_from (fits_signals a widths) (fits_signals b widths) (signals_in a widths p.sized) (signals_in b widths q.sized));
  width = refl;
}

pub repeated_sized : (count w : ℕ) (a : Sized) (widths : List ℕ) → 1 ≤ count → count * w ≤ 128 → Fits a w widths → is_sized (s.Repeat (count * w) count a) widths ≡ true
repeated_sized count w a widths least most p =
    and_from (((count * w) == count * width_of a) && (nat_le 1 count && (nat_le (count * w) 128 && agrees a))) (fits_signals a widths)
    (and_from ((count * w) == count * width_of a) (nat_le 1 count && (nat_le (count * w) 128 && agrees a))
    (eq-eqb (count * w) (count * width_of a) (ap (λ (z : ℕ). count * z) (sym p.width)))
    (and_from (nat_le 1 count) (nat_le (count * w) 128 && agrees a) (le-leb 1 count least)
    (and_from (nat_le (count * w) 128) (agrees a) (le-leb (count * w) 128 most) (agreeing a widths p.sized))))
    (signals_in a widths p.sized)
