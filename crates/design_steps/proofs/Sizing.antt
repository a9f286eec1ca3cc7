-- Laid out steps fit the words that they take.
use Rattle.std.proofs.Common.{Bool, true, false, not, ◌≡◌, ℕ, ◌+◌, ◌-◌, ◌*◌, ◌<◌, ◌≤◌, ◌&&◌, ◌||◌, ◌==◌, nat_le, nat_lt, max, List, [], ◌∷◌, ◌++◌, length, refl, ap, arith}
use Rattle.std.specs.Prelude.{if◌then◌else◌, slice_index}
use Rattle.std.proofs.lemmas.Bool.{and_from, leb-true, le-leb, ltb-true, lt-ltb, ltb-false, eqb-true}
use Rattle.typed_ir.specs.declared.span.Span.{Span}
use Rattle.typed_ir.specs.declared.unary_operator.UnaryOperator.{UnaryOperator}
use Rattle.typed_ir.specs.declared.unary_operator.UnaryOperator.TheVariants.{Inverse, Negative, AllOnes, AnyOne, NoOne, OddOnes}
use Rattle.typed_ir.specs.declared.arithmetic_operator.ArithmeticOperator.TheVariants.{Sum, Difference, Product, Quotient, Remainder, And, Or as Or', Xor, Xnor}
use Rattle.typed_ir.specs.declared.comparison.Comparison.TheVariants.{Equal, Unequal, Less, AtMost, Greater, AtLeast}
use Rattle.typed_ir.specs.declared.logical_operator.LogicalOperator.TheVariants.{Both, Either}
use Rattle.typed_ir.specs.declared.shift_operator.ShiftOperator.TheVariants.{Left, Right, Arithmetic as ArithmeticRight}
use Rattle.typed_ir.specs.declared.signedness.Signedness.TheVariants.{Signed, Unsigned}
use Rattle.typed_ir.specs.declared.binary_operator.BinaryOperator.{BinaryOperator}
use Rattle.typed_ir.specs.declared.binary_operator.BinaryOperator.TheVariants.{Arithmetic, Compare, Logical, Shift}
use Rattle.typed_ir.specs.Sized.{Sized, Constant, Name, Part, Pick, Unary, Binary, Choice, Concat, Repeat, Resized, width_of, is_width, is_span, is_signal, takes_widths, copies, agrees, fits_signals}
use Rattle.typed_ir.specs.Stmts.{SizedTarget, Fixed, Moving, SizedItem, SizedStmt, SizedArms, Skip as Nothing, Assign, Later, Then, If, Case, Arm, Default, is_sized as is_typed, is_target, are_targets, are_items, is_legal, are_legal_arms}
use Rattle.typed_ir.specs.Nodes.{FlatNode}
use Rattle.typed_ir.specs.Orders.{Each}
use Rattle.typed_ir.proofs.Cases.{and_left, and_right}
use Rattle.word_steps.specs.Sound.{is_long, lies_in, has_room, is_sized}
use Rattle.word_steps.specs.declared.step.Step.{Step}
use Rattle.word_steps.specs.declared.op.Op.{Op}
use Rattle.word_steps.specs.declared.op.Op.TheVariants.{Copy, Select, Extend, Join, Product as Product', Choose, Place, PlaceAt, Or, SkipIfZero, SkipIfEqual, SkipUnlessEqual, Skip, Locate, SignedLocate, Pick as Pick'}
use Rattle.design_steps.specs.Plans.{Plan, width_at}
use Rattle.design_steps.specs.Expressions.{step, is_wide, unary_op, binary_op, locate_op, is_filled, resize_op, resize_low, is_plain, operand, before, code, swaps}
use Rattle.design_steps.specs.Statements.{signal_of, is_whole, shifted, shift_code, part_code, parts_code, is_direct, one_code, assign_code, pass_over, branch, Test, Truth, Pair, test_of, test_code, condition, subject_at, item_at, item_code, tests, stmt_code, arms_code}
use Rattle.design_steps.specs.Nodes.{as_statement, nodes_code}
use Rattle.design_steps.specs.Right.{IsLaidNode}
use Rattle.design_steps.specs.Sizes.{are_sized}
use Rattle.design_steps.proofs.Fits.{a_width, agree_both, agree_three, widths_right}
use Rattle.design_steps.proofs.Testing.{Asks, asks}
use Rattle.design_steps.proofs.Passing.{node_legal}

-- ---- one step

pub sized_append : (xs ys : List Step) → are_sized xs ≡ true → are_sized ys ≡ true → are_sized (xs ++ ys) ≡ true
sized_append [] ys h k = k
sized_append (s ∷ xs) ys h k =
    let own = is_sized s.wide s.op s.width s.low in
    and_from own (are_sized (xs ++ ys)) (and_left own (are_sized xs) h) (sized_append xs ys (and_right own (are_sized xs) h) k)

sized_one : (s : Step) → is_sized s.wide s.op s.width s.low ≡ true → are_sized (s ∷ []) ≡ true
sized_one s h = and_from (is_sized s.wide s.op s.width s.low) true h refl

roomy : (total : ℕ) (op : Op) (width low : ℕ) → 1 ≤ width → width ≤ total → lies_in total op width low ≡ true → has_room total op width low ≡ true
roomy total op width low some few lies =
    and_from (nat_le 1 width) (nat_le width total && lies_in total op width low) (le-leb 1 width some)
    (and_from (nat_le width total) (lies_in total op width low) (le-leb width total few) lies)

-- one that takes all bits wherever a value may have more than 64
fitted : (op : Op) (m width low : ℕ) → 1 ≤ width → width ≤ 128 → lies_in 128 op width low ≡ true → (m ≤ 64 → width ≤ 64) → (m ≤ 64 → lies_in 64 op width low ≡ true)
    → is_sized (is_wide op m) op width low ≡ true
fitted op m width low some few lies short low_lies = by_long (is_long op) refl
  where
    by_short : (b : Bool) → nat_lt 64 m ≡ b → is_long op ≡ false → is_sized (false || b) op width low ≡ true
    by_short true e l = roomy 128 op width low some few lies
    by_short false e l =
        and_from (not (is_long op)) (has_room 64 op width low) (ap not l) (roomy 64 op width low some (short (ltb-false 64 m e)) (low_lies (ltb-false 64 m e)))

    by_long : (b : Bool) → is_long op ≡ b → is_sized (b || nat_lt 64 m) op width low ≡ true
    by_long true e = roomy 128 op width low some few lies
    by_long false e = by_short (nat_lt 64 m) refl e

-- an operator that names no bit
plain : (op : Op) (m width : ℕ) → ((total : ℕ) → lies_in total op width 0 ≡ nat_lt 0 total) → 1 ≤ width → width ≤ 128 → width ≤ m
    → is_sized (is_wide op m) op width 0 ≡ true
plain op m width lies some few within = fitted op m width 0 some few (lies 128) (λ h. omega (arith, h, within)) (λ h. lies 64)

unary_lies : (op : UnaryOperator) (width total : ℕ) → lies_in total (unary_op op) width 0 ≡ nat_lt 0 total
unary_lies Inverse width total = refl
unary_lies Negative width total = refl
unary_lies AllOnes width total = refl
unary_lies AnyOne width total = refl
unary_lies NoOne width total = refl
unary_lies OddOnes width total = refl

binary_lies : (op : BinaryOperator) (width total : ℕ) → lies_in total (binary_op op) width 0 ≡ nat_lt 0 total
binary_lies (Arithmetic Sum) width total = refl
binary_lies (Arithmetic Difference) width total = refl
binary_lies (Arithmetic Product) width total = refl
binary_lies (Arithmetic (Quotient Signed)) width total = refl
binary_lies (Arithmetic (Quotient Unsigned)) width total = refl
binary_lies (Arithmetic (Remainder Signed)) width total = refl
binary_lies (Arithmetic (Remainder Unsigned)) width total = refl
binary_lies (Arithmetic And) width total = refl
binary_lies (Arithmetic Or') width total = refl
binary_lies (Arithmetic Xor) width total = refl
binary_lies (Arithmetic Xnor) width total = refl
binary_lies (Compare Equal) width total = refl
binary_lies (Compare Unequal) width total = refl
binary_lies (Compare (Less Signed)) width total = refl
binary_lies (Compare (Less Unsigned)) width total = refl
binary_lies (Compare (AtMost Signed)) width total = refl
binary_lies (Compare (AtMost Unsigned)) width total = refl
binary_lies (Compare (Greater Signed)) width total = refl
binary_lies (Compare (Greater Unsigned)) width total = refl
binary_lies (Compare (AtLeast Signed)) width total = refl
binary_lies (Compare (AtLeast Unsigned)) width total = refl
binary_lies (Logical Both) width total = refl
binary_lies (Logical Either) width total = refl
binary_lies (Shift Left) width total = refl
binary_lies (Shift Right) width total = refl
binary_lies (Shift ArithmeticRight) width total = refl

chosen : (b : Bool) (xs ys : List Step) → are_sized xs ≡ true → are_sized ys ≡ true → are_sized (if b then xs else ys) ≡ true
chosen true xs ys h k = h
chosen false xs ys h k = k

-- as many bits as the step's width, from a bit on
select_sized : (m width low to a : ℕ) → 1 ≤ width → width ≤ 128 → low < 128 → (m ≤ 64 → low + width ≤ 64) → are_sized (step Select width low (is_wide Select m) to a 0 0 ∷ []) ≡ true
select_sized m width low to a some few below short =
    sized_one (step Select width low (is_wide Select m) to a 0 0)
    (fitted Select m width low some few (lt-ltb low 128 below) (λ h. let s = short h in omega (arith, s)) (λ h. lt-ltb low 64 (let s = short h in omega (arith, s, some))))

locate_sized : (signed : Bool) (width to a b : ℕ) → 1 ≤ width → width ≤ 128 → are_sized (step (locate_op signed) width 0 true to a b 0 ∷ []) ≡ true
locate_sized true width to a b some few = sized_one (step SignedLocate width 0 true to a b 0) (roomy 128 SignedLocate width 0 some few refl)
locate_sized false width to a b some few = sized_one (step Locate width 0 true to a b 0) (roomy 128 Locate width 0 some few refl)

resize_sized : (from width : ℕ) (signed : Bool) (to a : ℕ) → 1 ≤ from → 1 ≤ width → width ≤ 128
    → are_sized (step (resize_op from width signed) width (resize_low from width signed) (is_wide (resize_op from width signed) (max from width)) to a 0 0 ∷ []) ≡ true
resize_sized from width signed to a first some few = by_test (is_filled from width signed) refl
  where
    wider : (s : Bool) → (s && nat_lt from width) ≡ true → from < width
    wider s e = ltb-true from width (and_right s (nat_lt from width) e)

    by_test : (b : Bool) → is_filled from width signed ≡ b
        → are_sized (step (if b then Extend else Select) width (if b then from - 1 else 0) (is_wide (if b then Extend else Select) (max from width)) to a 0 0 ∷ []) ≡ true
    by_test true e =
        let more : from < width = wider signed e in
        sized_one (step Extend width (from - 1) (is_wide Extend (max from width)) to a 0 0)
        (fitted Extend (max from width) width (from - 1) some few (lt-ltb (from - 1 + 1) 128 (omega (arith, more, few, first))) (λ h. omega (arith, h))
        (λ h. lt-ltb (from - 1 + 1) 64 (omega (arith, h, more, first))))
    by_test false e = sized_one (step Select width 0 (is_wide Select (max from width)) to a 0 0)
        (plain Select (max from width) width (λ total. refl) some few (omega arith))

-- ---- expressions

mutual
  pub code_sized : (l : Plan) (e : Sized) (to mark : ℕ) → agrees e ≡ true → are_sized (code l e to mark) ≡ true
  code_sized l (Constant width value) to mark h =
      let w = widths_right (Constant width value) h in
      sized_one (step Copy 1 0 (is_wide Copy width) to (l.place value) 0 0) (plain Copy width 1 (λ total. refl) (omega arith) (omega arith) w.0)
  code_sized l (Name signal width) to mark h =
      let w = widths_right (Name signal width) h in
      sized_one (step Copy 1 0 (is_wide Copy width) to (l.slot signal) 0 0) (plain Copy width 1 (λ total. refl) (omega arith) (omega arith) w.0)
  code_sized l (Part span) to mark h =
      let w = widths_right (Part span) h in
      let few : span.low + span.width ≤ 128 = leb-true (span.low + span.width) 128 (and_right (nat_le 1 span.width) (nat_le (span.low + span.width) 128) h) in
      select_sized (span.low + span.width) span.width span.low to (l.slot span.signal) w.0 w.1 (omega (arith, few, w.0)) (λ k. k)
  code_sized l (Pick signal width below signed index) to mark h =
      let w = a_width width (and_left (is_width width) (agrees index) h) in
      let k = and_right (is_width width) (agrees index) h in
      let i = widths_right index k in
      let first = before l index mark (code l index mark mark) in
      let second = step (locate_op signed) (width_of index) 0 true mark (operand l index mark) (l.place below) 0 ∷ [] in
      sized_append (first ++ second) (step Pick' width 0 true to (l.slot signal) mark 0 ∷ [])
      (sized_append first second (before_sized l index mark (code l index mark mark) k (code_sized l index mark mark k))
      (locate_sized signed (width_of index) mark (operand l index mark) (l.place below) i.0 i.1))
      (sized_one (step Pick' width 0 true to (l.slot signal) mark 0) (roomy 128 Pick' width 0 w.0 w.1 refl))
  code_sized l (Unary op a) to mark h =
      let w = widths_right a h in
      sized_append (before l a mark (code l a mark mark)) (step (unary_op op) (width_of a) 0 (is_wide (unary_op op) (width_of a)) to (operand l a mark) 0 0 ∷ [])
      (before_sized l a mark (code l a mark mark) h (code_sized l a mark mark h))
      (sized_one (step (unary_op op) (width_of a) 0 (is_wide (unary_op op) (width_of a)) to (operand l a mark) 0 0)
      (plain (unary_op op) (width_of a) (width_of a) (unary_lies op (width_of a)) w.0 w.1 (omega arith)))
  code_sized l (Binary op a b) to mark h =
      let p = agree_both (takes_widths op (width_of a) (width_of b)) (agrees a) (agrees b) h in
      let w = widths_right a p.1 in
      let last = step (binary_op op) (width_of a) 0 (is_wide (binary_op op) (max (width_of a) (width_of b))) to
      (if swaps op then operand l b (mark + 1) else operand l a mark) (if swaps op then operand l a mark else operand l b (mark + 1)) 0 in
      let first = before l a mark (code l a mark mark) in
      let second = before l b (mark + 1) (code l b (mark + 1) (mark + 1)) in
      sized_append (first ++ second) (last ∷ [])
      (sized_append first second (before_sized l a mark (code l a mark mark) p.1 (code_sized l a mark mark p.1))
      (before_sized l b (mark + 1) (code l b (mark + 1) (mark + 1)) p.2 (code_sized l b (mark + 1) (mark + 1) p.2)))
      (sized_one last (plain (binary_op op) (max (width_of a) (width_of b)) (width_of a) (binary_lies op (width_of a)) w.0 w.1 (omega arith)))
  code_sized l (Choice c a b) to mark h =
      let p = agree_three (width_of a == width_of b) (agrees c) (agrees a) (agrees b) h in
      let w = widths_right a p.2 in
      let most = max (width_of c) (max (width_of a) (width_of b)) in
      let last = step Choose 1 0 (is_wide Choose most) to (operand l c mark) (operand l a (mark + 1)) (operand l b (mark + 1 + 1)) in
      let zeroth = before l c mark (code l c mark mark) in
      let first = before l a (mark + 1) (code l a (mark + 1) (mark + 1)) in
      let second = before l b (mark + 1 + 1) (code l b (mark + 1 + 1) (mark + 1 + 1)) in
      sized_append ((zeroth ++ first) ++ second) (last ∷ [])
      (sized_append (zeroth ++ first) second
      (sized_append zeroth first (before_sized l c mark (code l c mark mark) p.1 (code_sized l c mark mark p.1))
      (before_sized l a (mark + 1) (code l a (mark + 1) (mark + 1)) p.2 (code_sized l a (mark + 1) (mark + 1) p.2)))
      (before_sized l b (mark + 1 + 1) (code l b (mark + 1 + 1) (mark + 1 + 1)) p.3 (code_sized l b (mark + 1 + 1) (mark + 1 + 1) p.3)))
      (sized_one last (plain Choose most 1 (λ total. refl) (omega arith) (omega arith) (omega (arith, w.0))))
  code_sized l (Concat width a b) to mark h =
      let p = agree_three (width == width_of a + width_of b) (nat_le width 128) (agrees a) (agrees b) h in
      let w = widths_right (Concat width a b) h in
      let x = widths_right a p.2 in
      let sum : width ≡ width_of a + width_of b = eqb-true width (width_of a + width_of b) p.0 in
      let last = step Join width (width_of b) (is_wide Join width) to (operand l a mark) (operand l b (mark + 1)) 0 in
      let first = before l a mark (code l a mark mark) in
      let second = before l b (mark + 1) (code l b (mark + 1) (mark + 1)) in
      sized_append (first ++ second) (last ∷ [])
      (sized_append first second (before_sized l a mark (code l a mark mark) p.2 (code_sized l a mark mark p.2))
      (before_sized l b (mark + 1) (code l b (mark + 1) (mark + 1)) p.3 (code_sized l b (mark + 1) (mark + 1) p.3)))
      (sized_one last (fitted Join width width (width_of b) w.0 w.1 (lt-ltb (width_of b) 128 (omega (arith, sum, x.0, w.1))) (λ k. k)
      (λ k. lt-ltb (width_of b) 64 (omega (arith, sum, x.0, k)))))
  code_sized l (Repeat width count a) to mark h =
      let p = agree_three (width == count * width_of a) (nat_le 1 count) (nat_le width 128) (agrees a) h in
      let w = widths_right (Repeat width count a) h in
      let first = before l a mark (code l a mark mark) in
      let last = step Product' width 0 (is_wide Product' width) to (operand l a mark) (l.place (copies count (width_of a) 1)) 0 in
      sized_append first (last ∷ []) (before_sized l a mark (code l a mark mark) p.3 (code_sized l a mark mark p.3))
      (sized_one last (plain Product' width width (λ total. refl) w.0 w.1 (omega arith)))
  code_sized l (Resized a width signed) to mark h =
      let k = and_right (is_width width) (agrees a) h in
      let w = a_width width (and_left (is_width width) (agrees a) h) in
      let first = before l a mark (code l a mark mark) in
      sized_append first (step (resize_op (width_of a) width signed) width (resize_low (width_of a) width signed)
      (is_wide (resize_op (width_of a) width signed) (max (width_of a) width)) to (operand l a mark) 0 0 ∷ [])
      (before_sized l a mark (code l a mark mark) k (code_sized l a mark mark k)) (resize_sized (width_of a) width signed to (operand l a mark) (widths_right a k).0 w.0 w.1)

  pub before_sized : (l : Plan) (e : Sized) (mark : ℕ) (steps : List Step) → agrees e ≡ true → are_sized steps ≡ true → are_sized (before l e mark steps) ≡ true
  before_sized l (Constant width value) mark steps h k = refl
  before_sized l (Name signal width) mark steps h k = refl
  before_sized l (Part span) mark steps h k = k
  before_sized l (Pick signal width below signed index) mark steps h k = k
  before_sized l (Unary op a) mark steps h k = k
  before_sized l (Binary op a b) mark steps h k = k
  before_sized l (Choice c a b) mark steps h k = k
  before_sized l (Concat width a b) mark steps h k = k
  before_sized l (Repeat width count a) mark steps h k = k
  before_sized l (Resized a width signed) mark steps h k =
      let own = and_right (is_width width) (agrees a) h in
      chosen (is_plain (width_of a) width signed) (before l a mark (code l a mark mark)) steps (before_sized l a mark (code l a mark mark) own (code_sized l a mark mark own)) k

-- ---- parts left of an assignment

span_right : (p : Span) (ws : List ℕ) → is_span p ws ≡ true → (1 ≤ p.width) × (p.low + p.width ≤ slice_index ws p.signal)
span_right p ws h =
    let rest = and_right (nat_lt p.signal (length ws)) (nat_le 1 p.width && nat_le (p.low + p.width) (slice_index ws p.signal)) h in (
      leb-true 1 p.width (and_left (nat_le 1 p.width) (nat_le (p.low + p.width) (slice_index ws p.signal)) rest),
      leb-true (p.low + p.width) (slice_index ws p.signal) (and_right (nat_le 1 p.width) (nat_le (p.low + p.width) (slice_index ws p.signal)) rest),
    )

shift_sized : (shift width from here mark : ℕ) → 1 ≤ width → width ≤ 128 → shift < 128 → are_sized (shift_code shift width from here mark) ≡ true
shift_sized shift width from here mark some few low =
    chosen (shift == 0) [] (step Select width shift (is_wide Select (max from (shift + width))) mark here 0 0 ∷ []) refl
    (select_sized (max from (shift + width)) width shift mark here some few low (λ h. omega (arith, h)))

module _ (l : Plan) (bits : (s : ℕ) → width_at l s ≤ 128) where
  part_sized : (t : SizedTarget) (to from here mark : ℕ) → is_target t l.widths ≡ true → are_sized (part_code l to t from here mark) ≡ true
  part_sized (Fixed lane) to from here mark h =
      let shift : lane.shift < 128 = ltb-true lane.shift 128 (and_left (nat_lt lane.shift 128) (is_span lane.span l.widths) h) in
      let p = span_right lane.span l.widths (and_right (nat_lt lane.shift 128) (is_span lane.span l.widths) h) in
      let most : width_at l lane.span.signal ≤ 128 = bits lane.span.signal in
      let wide = max (width_at l lane.span.signal) from in
      let few : lane.span.width ≤ 128 = omega (arith, p.1, most) in
      chosen (is_whole l lane.span) (step Select lane.span.width lane.shift (is_wide Select (max from (lane.shift + lane.span.width))) to here 0 0 ∷ [])
      (shift_code lane.shift lane.span.width from here mark ++ step Place lane.span.width lane.span.low (is_wide Place wide) to (shifted lane.shift here mark) to 0 ∷ [])
      (select_sized (max from (lane.shift + lane.span.width)) lane.span.width lane.shift to here p.0 few shift (λ k. omega (arith, k)))
      (sized_append (shift_code lane.shift lane.span.width from here mark) (step Place lane.span.width lane.span.low (is_wide Place wide) to (shifted lane.shift here mark) to 0 ∷ [])
      (shift_sized lane.shift lane.span.width from here mark p.0 few shift)
      (sized_one (step Place lane.span.width lane.span.low (is_wide Place wide) to (shifted lane.shift here mark) to 0)
      (fitted Place wide lane.span.width lane.span.low p.0 few (le-leb (lane.span.low + lane.span.width) 128 (omega (arith, p.1, most))) (λ k. omega (arith, k, p.1))
      (λ k. le-leb (lane.span.low + lane.span.width) 64 (omega (arith, k, p.1))))))
  part_sized (Moving reach index) to from here mark h =
      let own = nat_lt reach.shift 128 && (is_width reach.width && is_width reach.total) in
      let named = is_signal reach.signal reach.total l.widths in
      let sizes = and_left own (named && is_typed index l.widths) h in
      let shift : reach.shift < 128 = ltb-true reach.shift 128 (and_left (nat_lt reach.shift 128) (is_width reach.width && is_width reach.total) sizes) in
      let both = and_right (nat_lt reach.shift 128) (is_width reach.width && is_width reach.total) sizes in
      let w = a_width reach.width (and_left (is_width reach.width) (is_width reach.total) both) in
      let t = a_width reach.total (and_right (is_width reach.width) (is_width reach.total) both) in
      let agree = and_left (agrees index) (fits_signals index l.widths) (and_right named (is_typed index l.widths) (and_right own (named && is_typed index l.widths) h)) in
      let i = widths_right index agree in
      let first = before l index mark (code l index mark mark) in
      let second = step (locate_op reach.signed) (width_of index) 0 true mark (operand l index mark) (l.place reach.below) 0 ∷ [] in
      let third = shift_code reach.shift reach.width from here (mark + 1) in
      let last = step PlaceAt reach.width reach.total true to (shifted reach.shift here (mark + 1)) mark to in
      sized_append ((first ++ second) ++ third) (last ∷ [])
      (sized_append (first ++ second) third
      (sized_append first second (before_sized l index mark (code l index mark mark) agree (code_sized l index mark mark agree))
      (locate_sized reach.signed (width_of index) mark (operand l index mark) (l.place reach.below) i.0 i.1))
      (shift_sized reach.shift reach.width from here (mark + 1) w.0 w.1 shift))
      (sized_one last (roomy 128 PlaceAt reach.width reach.total w.0 w.1
      (and_from (nat_le 1 reach.total) (nat_le reach.total 128) (le-leb 1 reach.total t.0) (le-leb reach.total 128 t.1))))

  parts_sized : (home : ℕ → ℕ) (ts : List SizedTarget) (from here mark : ℕ) → are_targets ts l.widths ≡ true → are_sized (parts_code l home ts from here mark) ≡ true
  parts_sized home [] from here mark h = refl
  parts_sized home (t ∷ ts) from here mark h =
      sized_append (part_code l (home (signal_of t)) t from here mark) (parts_code l home ts from here mark)
      (part_sized t (home (signal_of t)) from here mark (and_left (is_target t l.widths) (are_targets ts l.widths) h))
      (parts_sized home ts from here mark (and_right (is_target t l.widths) (are_targets ts l.widths) h))

  one_sized : (home : ℕ → ℕ) (t : SizedTarget) (e : Sized) (mark : ℕ) → is_target t l.widths ≡ true → agrees e ≡ true → are_sized (one_code l home t e mark) ≡ true
  one_sized home t e mark h k =
      chosen (is_direct l t (width_of e)) (code l e (home (signal_of t)) mark)
      (before l e mark (code l e mark mark) ++ part_code l (home (signal_of t)) t (width_of e) (operand l e mark) (mark + 1))
      (code_sized l e (home (signal_of t)) mark k)
      (sized_append (before l e mark (code l e mark mark)) (part_code l (home (signal_of t)) t (width_of e) (operand l e mark) (mark + 1))
      (before_sized l e mark (code l e mark mark) k (code_sized l e mark mark k)) (part_sized t (home (signal_of t)) (width_of e) (operand l e mark) (mark + 1) h))

  pub assign_sized : (home : ℕ → ℕ) (ts : List SizedTarget) (e : Sized) (mark : ℕ) → are_targets ts l.widths ≡ true → agrees e ≡ true
      → are_sized (assign_code l home ts e mark) ≡ true
  assign_sized home [] e mark h k = refl
  assign_sized home (t ∷ []) e mark h k = one_sized home t e mark (and_left (is_target t l.widths) true h) k
  assign_sized home (t ∷ u ∷ ts) e mark h k =
      sized_append (code l e mark mark) (parts_code l home (t ∷ u ∷ ts) (width_of e) mark (mark + 1)) (code_sized l e mark mark k)
      (parts_sized home (t ∷ u ∷ ts) (width_of e) mark (mark + 1) h)

  -- ---- branches

  pass_sized : (n : ℕ) → are_sized (pass_over n) ≡ true
  pass_sized n = chosen (n == 0) [] (step Skip 1 0 true 0 0 0 n ∷ []) refl refl

  branch_sized : (test : ℕ → List Step) (xs ys : List Step) → ((n : ℕ) → are_sized (test n) ≡ true) → are_sized xs ≡ true → are_sized ys ≡ true
      → are_sized (branch test xs ys) ≡ true
  branch_sized test xs ys t h k =
      let past = pass_over (length ys) in
      sized_append (test (length (xs ++ past))) ((xs ++ past) ++ ys) (t (length (xs ++ past)))
      (sized_append (xs ++ past) ys (sized_append xs past h (pass_sized (length ys))) k)

  test_sized : (t : Test) (mark past : ℕ) → Asks (λ e. agrees e ≡ true) t → are_sized (test_code l t mark past) ≡ true
  test_sized (Truth c) mark past h =
      sized_append (before l c mark (code l c mark mark)) (step SkipIfZero 1 0 true 0 (operand l c mark) 0 past ∷ [])
      (before_sized l c mark (code l c mark mark) h (code_sized l c mark mark h)) refl
  test_sized (Pair op a b) mark past h =
      let first = before l a mark (code l a mark mark) in
      let second = before l b (mark + 1) (code l b (mark + 1) (mark + 1)) in
      let last = step op (width_of a) 0 true 0 (operand l a mark) (operand l b (mark + 1)) past in
      let w = widths_right a h.1 in
      sized_append (first ++ second) (last ∷ [])
      (sized_append first second (before_sized l a mark (code l a mark mark) h.1 (code_sized l a mark mark h.1))
      (before_sized l b (mark + 1) (code l b (mark + 1) (mark + 1)) h.2 (code_sized l b (mark + 1) (mark + 1) h.2)))
      (sized_one last (roomy 128 op (width_of a) 0 w.0 w.1 (h.0.lies (width_of a))))

  condition_sized : (c : Sized) (mark past : ℕ) → agrees c ≡ true → are_sized (condition l c mark past) ≡ true
  condition_sized c mark past h =
      test_sized (test_of c) mark past (asks (λ e. agrees e ≡ true)
      (λ op a b k. let p = agree_both (width_of a == width_of b) (agrees a) (agrees b) k in (p.1, p.2)) c h)

  item_sized : (i : SizedItem) (here mark : ℕ) → agrees i.item ≡ true → are_sized (item_code l i here mark) ≡ true
  item_sized i here mark h =
      let masks = step Or 1 0 true (mark + 1) here (l.place i.ignored) 0 ∷ (step Or 1 0 true (mark + 1 + 1) (operand l i.item mark) (l.place i.ignored) 0 ∷ []) in
      sized_append (before l i.item mark (code l i.item mark mark)) (if i.ignored == 0 then [] else masks)
      (before_sized l i.item mark (code l i.item mark mark) h (code_sized l i.item mark mark h)) (chosen (i.ignored == 0) [] masks refl refl)

  tests_sized : (is : List SizedItem) (here mark past : ℕ) → are_items is l.widths ≡ true → are_sized (tests l is here mark past) ≡ true
  tests_sized [] here mark past h = refl
  tests_sized (i ∷ []) here mark past h =
      let own = and_left (agrees i.item) (fits_signals i.item l.widths) (and_left (is_typed i.item l.widths) true h) in
      sized_append (item_code l i here mark) (step SkipUnlessEqual 1 0 true 0 (subject_at i here mark) (item_at l i mark) past ∷ []) (item_sized i here mark own) refl
  tests_sized (i ∷ j ∷ is) here mark past h =
      let own = and_left (agrees i.item) (fits_signals i.item l.widths) (and_left (is_typed i.item l.widths) (are_items (j ∷ is) l.widths) h) in
      let rest = tests l (j ∷ is) here mark past in
      sized_append (item_code l i here mark) (step SkipIfEqual 1 0 true 0 (subject_at i here mark) (item_at l i mark) (length rest) ∷ rest) (item_sized i here mark own)
      (tests_sized (j ∷ is) here mark past (and_right (is_typed i.item l.widths) (are_items (j ∷ is) l.widths) h))

  mutual
    pub stmt_sized : (st : SizedStmt) (mark : ℕ) → is_legal st l.widths ≡ true → are_sized (stmt_code l st mark) ≡ true
    stmt_sized Nothing mark h = refl
    stmt_sized (Assign parts e) mark h =
        assign_sized l.slot parts e mark (and_left (are_targets parts l.widths) (is_typed e l.widths) h)
        (and_left (agrees e) (fits_signals e l.widths) (and_right (are_targets parts l.widths) (is_typed e l.widths) h))
    stmt_sized (Later parts e) mark h =
        assign_sized l.next parts e mark (and_left (are_targets parts l.widths) (is_typed e l.widths) h)
        (and_left (agrees e) (fits_signals e l.widths) (and_right (are_targets parts l.widths) (is_typed e l.widths) h))
    stmt_sized (Then a b) mark h =
        sized_append (stmt_code l a mark) (stmt_code l b mark) (stmt_sized a mark (and_left (is_legal a l.widths) (is_legal b l.widths) h))
        (stmt_sized b mark (and_right (is_legal a l.widths) (is_legal b l.widths) h))
    stmt_sized (If c a b) mark h =
        let own = and_left (agrees c) (fits_signals c l.widths) (and_left (is_typed c l.widths) (is_legal a l.widths && is_legal b l.widths) h) in
        let sides = and_right (is_typed c l.widths) (is_legal a l.widths && is_legal b l.widths) h in
        branch_sized (condition l c mark) (stmt_code l a mark) (stmt_code l b mark) (λ n. condition_sized c mark n own)
        (stmt_sized a mark (and_left (is_legal a l.widths) (is_legal b l.widths) sides)) (stmt_sized b mark (and_right (is_legal a l.widths) (is_legal b l.widths) sides))
    stmt_sized (Case e arms) mark h =
        let own = and_left (agrees e) (fits_signals e l.widths) (and_left (is_typed e l.widths) (are_legal_arms arms l.widths) h) in
        sized_append (before l e mark (code l e mark mark)) (arms_code l arms (operand l e mark) (mark + 1))
        (before_sized l e mark (code l e mark mark) own (code_sized l e mark mark own))
        (arms_sized arms (operand l e mark) (mark + 1) (and_right (is_typed e l.widths) (are_legal_arms arms l.widths) h))

    arms_sized : (arms : SizedArms) (here mark : ℕ) → are_legal_arms arms l.widths ≡ true → are_sized (arms_code l arms here mark) ≡ true
    arms_sized (Arm items body rest) here mark h =
        let others = and_right (are_items items l.widths) (is_legal body l.widths && are_legal_arms rest l.widths) h in
        branch_sized (tests l items here mark) (stmt_code l body mark) (arms_code l rest here mark)
        (λ n. tests_sized items here mark n (and_left (are_items items l.widths) (is_legal body l.widths && are_legal_arms rest l.widths) h))
        (stmt_sized body mark (and_left (is_legal body l.widths) (are_legal_arms rest l.widths) others))
        (arms_sized rest here mark (and_right (is_legal body l.widths) (are_legal_arms rest l.widths) others))
    arms_sized (Default otherwise) here mark h = stmt_sized otherwise mark h

  pub nodes_sized : (rs : List ℕ) (ks : List FlatNode) (mark : ℕ) → Each (IsLaidNode l rs) ks → are_sized (nodes_code l ks mark) ≡ true
  nodes_sized rs [] mark h = refl
  nodes_sized rs (k ∷ ks) mark h =
      sized_append (stmt_code l (as_statement k) mark) (nodes_code l ks mark) (stmt_sized (as_statement k) mark (node_legal k l.widths h.0.legal))
      (nodes_sized rs ks mark h.1)
