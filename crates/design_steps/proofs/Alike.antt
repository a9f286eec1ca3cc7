-- Steps depend on where those signals stand alone that what they are laid out of mentions.
use Rattle.std.proofs.Common.{true, false, ◌≡◌, ℕ, ◌+◌, ◌<◌, ◌&&◌, ◌||◌, ◌==◌, List, [], ◌∷◌, ◌++◌, max, map, length, refl, ap, ap₂, ◌∙◌, arith}
use Rattle.std.specs.Prelude.{if◌then◌else◌}
use Rattle.std.proofs.lemmas.Bool.{eq-eqb}
use Rattle.typed_ir.specs.declared.span.Span.{Span}
use Rattle.typed_ir.specs.Orders.{Each}
use Rattle.typed_ir.specs.Valuations.{Places}
use Rattle.typed_ir.specs.Sized.{Sized, Constant, Name, Part, Pick, Unary, Binary, Choice, Concat, Repeat, Resized, width_of, copies, reads, agrees, fits_signals, is_signal}
use Rattle.typed_ir.specs.Stmts.{SizedTarget, Fixed, Moving, SizedItem, SizedStmt, SizedArms, Skip as Nothing, Assign, Later, Then, If, Case, Arm, Default, span_of, targets, arm_targets, index_reads, item_reads, is_sized, is_target, are_targets, are_items, is_legal, are_legal_arms}
use Rattle.typed_ir.specs.Touches.{all_reads, all_arm_reads}
use Rattle.typed_ir.proofs.Cases.{left_or, right_or, and_left, and_right, only_left}
use Rattle.word_steps.specs.declared.step.Step.{Step}
use Rattle.word_steps.specs.declared.op.Op.TheVariants.{Copy, Select, Choose, Join, Product, Pick as PickStep, Or, SkipIfZero, SkipIfEqual, SkipUnlessEqual}
use Rattle.design_steps.proofs.Testing.{Asks, asks}
use Rattle.typed_ir.specs.declared.comparison.Comparison.{Comparison}
use Rattle.typed_ir.specs.declared.binary_operator.BinaryOperator.TheVariants.{Compare}
use Rattle.typed_ir.proofs.Lists.{joined_so, each_left, each_right}
use Rattle.design_steps.specs.Plans.{Plan, width_at}
use Rattle.design_steps.specs.Expressions.{step, is_wide, unary_op, binary_op, swaps, locate_op, resize_op, resize_low, is_plain, operand, before, code}
use Rattle.design_steps.specs.Statements.{signal_of, is_direct, part_code, parts_code, one_code, assign_code, pass_over, branch, Test, Truth, Pair, test_of, test_code, condition, subject_at, item_at, item_code, tests, stmt_code, arms_code}
use Rattle.design_steps.proofs.Written.{span_there, within_own}

-- ---- plain facts

three_same : {a b c x y z : List Step} → a ≡ x → b ≡ y → c ≡ z → (a ++ b) ++ c ≡ (x ++ y) ++ z
three_same e f g = joined_so (joined_so e f) g

branch_same : (test other : ℕ → List Step) (xs ys xs' ys' : List Step) → ((past : ℕ) → test past ≡ other past) → xs ≡ xs' → ys ≡ ys'
    → branch test xs ys ≡ branch other xs' ys'
branch_same test other xs ys xs' ys' t e f =
    ap₂ (λ (us vs : List Step). branch test us vs) e f
    ∙ ap (λ (us : List Step). us ++ ((xs' ++ pass_over (length ys')) ++ ys')) (t (length (xs' ++ pass_over (length ys'))))

each_same : {A : Type 0} (P : A → Type 0) (xs : List A) → ((x : A) → P x) → Each P xs
each_same P [] h = tt
each_same P (x ∷ xs) h = (h x, each_same P xs h)

-- ---- a plan, and the same plan with signals at other places

abbrev pub moved : Plan → (ℕ → ℕ) → Plan
moved l f = record { slot = f; next = l.next; place = l.place; widths = l.widths; constants = l.constants }

module _ (l : Plan) (f : ℕ → ℕ) where
  -- the signals of which some of these bits are there stand where they stood
  abbrev pub Fixes : Places → Type 0
  Fixes places = (s i : ℕ) → places s i ≡ true → (0 < width_at l s → i < width_at l s) → f s ≡ l.slot s

  -- so do those of which these spans are
  abbrev pub FixesSpans : List Span → Type 0
  FixesSpans ps = Each (λ (p : Span). f p.signal ≡ l.slot p.signal) ps

  first : (P Q : Places) → Fixes (λ s i. P s i || Q s i) → Fixes P
  first P Q h s i r b = h s i (left_or (P s i) (Q s i) r) b

  second : (P Q : Places) → Fixes (λ s i. P s i || Q s i) → Fixes Q
  second P Q h s i r b = h s i (right_or (P s i) (Q s i) r) b

  -- ---- expressions

  mutual
    operand_same : (e : Sized) (mark : ℕ) → Fixes (reads e) → operand (moved l f) e mark ≡ operand l e mark
    operand_same (Constant width value) mark h = refl
    operand_same (Name signal width) mark h = h signal 0 (eq-eqb signal signal refl) (λ some. some)
    operand_same (Part span) mark h = refl
    operand_same (Pick signal width below signed index) mark h = refl
    operand_same (Unary op a) mark h = refl
    operand_same (Binary op a b) mark h = refl
    operand_same (Choice c a b) mark h = refl
    operand_same (Concat width a b) mark h = refl
    operand_same (Repeat width count a) mark h = refl
    operand_same (Resized a width signed) mark h = ap (λ k. if is_plain (width_of a) width signed then k else mark) (operand_same a mark h)

    before_same : (e : Sized) (mark : ℕ) (xs ys : List Step) → fits_signals e l.widths ≡ true → Fixes (reads e) → xs ≡ ys
        → before (moved l f) e mark xs ≡ before l e mark ys
    before_same (Constant width value) mark xs ys t h same = refl
    before_same (Name signal width) mark xs ys t h same = refl
    before_same (Part span) mark xs ys t h same = same
    before_same (Pick signal width below signed index) mark xs ys t h same = same
    before_same (Unary op a) mark xs ys t h same = same
    before_same (Binary op a b) mark xs ys t h same = same
    before_same (Choice c a b) mark xs ys t h same = same
    before_same (Concat width a b) mark xs ys t h same = same
    before_same (Repeat width count a) mark xs ys t h same = same
    before_same (Resized a width signed) mark xs ys t h same =
        ap₂ (λ (us vs : List Step). if is_plain (width_of a) width signed then us else vs)
        (before_same a mark (code (moved l f) a mark mark) (code l a mark mark) t h (code_same a mark mark t h)) same

    code_same : (e : Sized) (to mark : ℕ) → fits_signals e l.widths ≡ true → Fixes (reads e) → code (moved l f) e to mark ≡ code l e to mark
    code_same (Constant width value) to mark t h = refl
    code_same (Name signal width) to mark t h =
        ap (λ k. step Copy 1 0 (is_wide Copy width) to k 0 0 ∷ []) (h signal 0 (eq-eqb signal signal refl) (λ some. some))
    code_same (Part span) to mark t h =
        let there = span_there span l.widths t in
        ap (λ k. step Select span.width span.low (is_wide Select (span.low + span.width)) to k 0 0 ∷ [])
        (h span.signal span.low (within_own span there.1) (λ some. let a = there.1 in let b = there.2 in omega (arith, a, b)))
    code_same (Pick signal width below signed index) to mark t h =
        let own = h signal 0 (left_or (signal == signal) (reads index signal 0) (eq-eqb signal signal refl)) (λ some. some) in
        let rest = second (λ s i. s == signal) (reads index) h in
        let fits = index_fits signal index t in
        three_same (before_same index mark (code (moved l f) index mark mark) (code l index mark mark) fits rest (code_same index mark mark fits rest))
        (ap (λ k. step (locate_op signed) (width_of index) 0 true mark k (l.place below) 0 ∷ []) (operand_same index mark rest))
        (ap (λ k. step PickStep width 0 true to k mark 0 ∷ []) own)
      where
        index_fits : (signal : ℕ) (index : Sized) → fits_signals (Pick signal width below signed index) l.widths ≡ true → fits_signals index l.widths ≡ true
        index_fits signal index t = and_right _ (fits_signals index l.widths) t
    code_same (Unary op a) to mark t h =
        joined_so (before_same a mark (code (moved l f) a mark mark) (code l a mark mark) t h (code_same a mark mark t h))
        (ap (λ k. step (unary_op op) (width_of a) 0 (is_wide (unary_op op) (width_of a)) to k 0 0 ∷ []) (operand_same a mark h))
    code_same (Binary op a b) to mark t h =
        let ta = and_left (fits_signals a l.widths) (fits_signals b l.widths) t in
        let tb = and_right (fits_signals a l.widths) (fits_signals b l.widths) t in
        let ha = first (reads a) (reads b) h in
        let hb = second (reads a) (reads b) h in
        three_same (before_same a mark (code (moved l f) a mark mark) (code l a mark mark) ta ha (code_same a mark mark ta ha))
        (before_same b (mark + 1) (code (moved l f) b (mark + 1) (mark + 1)) (code l b (mark + 1) (mark + 1)) tb hb (code_same b (mark + 1) (mark + 1) tb hb))
        (ap₂ (λ (x y : ℕ). step (binary_op op) (width_of a) 0 (is_wide (binary_op op) (max (width_of a) (width_of b))) to
        (if swaps op then y else x) (if swaps op then x else y) 0 ∷ []) (operand_same a mark ha) (operand_same b (mark + 1) hb))
    code_same (Choice c a b) to mark t h =
        let tc = and_left (fits_signals c l.widths) (fits_signals a l.widths && fits_signals b l.widths) t in
        let tab = and_right (fits_signals c l.widths) (fits_signals a l.widths && fits_signals b l.widths) t in
        let ta = and_left (fits_signals a l.widths) (fits_signals b l.widths) tab in
        let tb = and_right (fits_signals a l.widths) (fits_signals b l.widths) tab in
        let hc = first (reads c) (λ s i. reads a s i || reads b s i) h in
        let hab = second (reads c) (λ s i. reads a s i || reads b s i) h in
        let ha = first (reads a) (reads b) hab in
        let hb = second (reads a) (reads b) hab in
        three_same
        (joined_so (before_same c mark (code (moved l f) c mark mark) (code l c mark mark) tc hc (code_same c mark mark tc hc))
        (before_same a (mark + 1) (code (moved l f) a (mark + 1) (mark + 1)) (code l a (mark + 1) (mark + 1)) ta ha (code_same a (mark + 1) (mark + 1) ta ha)))
        (before_same b (mark + 1 + 1) (code (moved l f) b (mark + 1 + 1) (mark + 1 + 1)) (code l b (mark + 1 + 1) (mark + 1 + 1)) tb hb
        (code_same b (mark + 1 + 1) (mark + 1 + 1) tb hb))
        (ap (λ k. step Choose 1 0 (is_wide Choose (max (width_of c) (max (width_of a) (width_of b)))) to k
        (operand (moved l f) a (mark + 1)) (operand (moved l f) b (mark + 1 + 1)) ∷ []) (operand_same c mark hc)
        ∙ ap₂ (λ (x y : ℕ). step Choose 1 0 (is_wide Choose (max (width_of c) (max (width_of a) (width_of b)))) to (operand l c mark) x y ∷ [])
        (operand_same a (mark + 1) ha) (operand_same b (mark + 1 + 1) hb))
    code_same (Concat width a b) to mark t h =
        let ta = and_left (fits_signals a l.widths) (fits_signals b l.widths) t in
        let tb = and_right (fits_signals a l.widths) (fits_signals b l.widths) t in
        let ha = first (reads a) (reads b) h in
        let hb = second (reads a) (reads b) h in
        three_same (before_same a mark (code (moved l f) a mark mark) (code l a mark mark) ta ha (code_same a mark mark ta ha))
        (before_same b (mark + 1) (code (moved l f) b (mark + 1) (mark + 1)) (code l b (mark + 1) (mark + 1)) tb hb (code_same b (mark + 1) (mark + 1) tb hb))
        (ap₂ (λ (x y : ℕ). step Join width (width_of b) (is_wide Join width) to x y 0 ∷ []) (operand_same a mark ha) (operand_same b (mark + 1) hb))
    code_same (Repeat width count a) to mark t h =
        joined_so (before_same a mark (code (moved l f) a mark mark) (code l a mark mark) t h (code_same a mark mark t h))
        (ap (λ k. step Product width 0 (is_wide Product width) to k (l.place (copies count (width_of a) 1)) 0 ∷ []) (operand_same a mark h))
    code_same (Resized a width signed) to mark t h =
        joined_so (before_same a mark (code (moved l f) a mark mark) (code l a mark mark) t h (code_same a mark mark t h))
        (ap (λ k. step (resize_op (width_of a) width signed) width (resize_low (width_of a) width signed) (is_wide (resize_op (width_of a) width signed) (max (width_of a) width))
        to k 0 0 ∷ []) (operand_same a mark h))

  -- the steps that put it at the mark, where it isn't anywhere yet
  stands_same : (e : Sized) (mark : ℕ) → fits_signals e l.widths ≡ true → Fixes (reads e)
      → before (moved l f) e mark (code (moved l f) e mark mark) ≡ before l e mark (code l e mark mark)
  stands_same e mark fits h = before_same e mark (code (moved l f) e mark mark) (code l e mark mark) fits h (code_same e mark mark fits h)

  put_same : (e : Sized) (mark : ℕ) → is_sized e l.widths ≡ true → Fixes (reads e)
      → before (moved l f) e mark (code (moved l f) e mark mark) ≡ before l e mark (code l e mark mark)
  put_same e mark t h = stands_same e mark (and_right (agrees e) (fits_signals e l.widths) t) h

  -- ---- assignments

  part_same : (t : SizedTarget) (to from here mark : ℕ) → is_target t l.widths ≡ true → Fixes (index_reads (t ∷ []))
      → part_code (moved l f) to t from here mark ≡ part_code l to t from here mark
  part_same (Fixed lane) to from here mark t h = refl
  part_same (Moving reach index) to from here mark t h =
      let rest = first (reads index) (λ s i. false) h in
      let sized = and_right (is_signal reach.signal reach.total l.widths) (is_sized index l.widths) (and_right _ (is_signal reach.signal reach.total l.widths && is_sized index l.widths) t) in
      joined_so
      (joined_so (joined_so (put_same index mark sized rest)
      (ap (λ k. step (locate_op reach.signed) (width_of index) 0 true mark k (l.place reach.below) 0 ∷ []) (operand_same index mark rest)))
      refl) refl

  index_first : (t : SizedTarget) (ts : List SizedTarget) → Fixes (index_reads (t ∷ ts)) → Fixes (index_reads (t ∷ []))
  index_first (Fixed lane) ts h = λ s i r b. absurd (let none : false ≡ true = r in cc)
  index_first (Moving reach index) ts h = λ s i r b. h s i (left_or (reads index s i) (index_reads ts s i) (only_left (reads index s i) false refl r)) b

  index_rest : (t : SizedTarget) (ts : List SizedTarget) → Fixes (index_reads (t ∷ ts)) → Fixes (index_reads ts)
  index_rest (Fixed lane) ts h = h
  index_rest (Moving reach index) ts h = second (reads index) (index_reads ts) h

  module _ (home other : ℕ → ℕ) where
    abbrev IsHome : List SizedTarget → Type 0
    IsHome ts = Each (λ (p : Span). other p.signal ≡ home p.signal) (map span_of ts)

    parts_same : (ts : List SizedTarget) (from here mark : ℕ) → are_targets ts l.widths ≡ true → Fixes (index_reads ts) → IsHome ts
        → parts_code (moved l f) other ts from here mark ≡ parts_code l home ts from here mark
    parts_same [] from here mark t h k = refl
    parts_same (x ∷ ts) from here mark t h k =
        joined_so
        (ap (λ to. part_code (moved l f) to x from here mark) k.0
        ∙ part_same x (home (signal_of x)) from here mark (and_left (is_target x l.widths) (are_targets ts l.widths) t) (index_first x ts h))
        (parts_same ts from here mark (and_right (is_target x l.widths) (are_targets ts l.widths) t) (index_rest x ts h) k.1)

    one_same : (t : SizedTarget) (e : Sized) (mark : ℕ) → is_target t l.widths ≡ true → is_sized e l.widths ≡ true → Fixes (reads e) → Fixes (index_reads (t ∷ []))
        → other (signal_of t) ≡ home (signal_of t) → one_code (moved l f) other t e mark ≡ one_code l home t e mark
    one_same t e mark legal sized h g k =
        ap₂ (λ (us vs : List Step). if is_direct l t (width_of e) then us else vs)
        (ap (λ to. code (moved l f) e to mark) k ∙ code_same e (home (signal_of t)) mark (and_right (agrees e) (fits_signals e l.widths) sized) h)
        (joined_so (put_same e mark sized h)
        (ap₂ (λ (to here : ℕ). part_code (moved l f) to t (width_of e) here (mark + 1)) k (operand_same e mark h)
        ∙ part_same t (home (signal_of t)) (width_of e) (operand l e mark) (mark + 1) legal g))

    assign_same : (ts : List SizedTarget) (e : Sized) (mark : ℕ) → are_targets ts l.widths ≡ true → is_sized e l.widths ≡ true
        → Fixes (λ s i. reads e s i || index_reads ts s i) → IsHome ts → assign_code (moved l f) other ts e mark ≡ assign_code l home ts e mark
    assign_same [] e mark t sized h k = refl
    assign_same (x ∷ []) e mark t sized h k =
        one_same x e mark (and_left (is_target x l.widths) true t) sized (first (reads e) (index_reads (x ∷ [])) h) (second (reads e) (index_reads (x ∷ [])) h) k.0
    assign_same (x ∷ y ∷ ts) e mark t sized h k =
        joined_so (code_same e mark mark (and_right (agrees e) (fits_signals e l.widths) sized) (first (reads e) (index_reads (x ∷ y ∷ ts)) h))
        (parts_same (x ∷ y ∷ ts) (width_of e) mark (mark + 1) t (second (reads e) (index_reads (x ∷ y ∷ ts)) h) k)

  -- ---- statements

  -- what an expression reads is there, and stands where it stood
  record IsFixed (e : Sized) : Type 0 where
    fits : fits_signals e l.widths ≡ true
    fixed : Fixes (reads e)

  operands_fixed : (op : Comparison) (a b : Sized) → IsFixed (Binary (Compare op) a b) → IsFixed a × IsFixed b
  operands_fixed op a b h = (
    record { fits = and_left (fits_signals a l.widths) (fits_signals b l.widths) h.fits; fixed = first (reads a) (reads b) h.fixed },
    record { fits = and_right (fits_signals a l.widths) (fits_signals b l.widths) h.fits; fixed = second (reads a) (reads b) h.fixed },
  )

  test_same : (t : Test) (mark past : ℕ) → Asks IsFixed t → test_code (moved l f) t mark past ≡ test_code l t mark past
  test_same (Truth c) mark past h =
      joined_so (stands_same c mark h.fits h.fixed) (ap (λ k. step SkipIfZero 1 0 true 0 k 0 past ∷ []) (operand_same c mark h.fixed))
  test_same (Pair op a b) mark past h =
      three_same (stands_same a mark h.1.fits h.1.fixed) (stands_same b (mark + 1) h.2.fits h.2.fixed)
      (ap₂ (λ (x y : ℕ). step op (width_of a) 0 true 0 x y past ∷ []) (operand_same a mark h.1.fixed) (operand_same b (mark + 1) h.2.fixed))

  condition_same : (c : Sized) (mark past : ℕ) → is_sized c l.widths ≡ true → Fixes (reads c) → condition (moved l f) c mark past ≡ condition l c mark past
  condition_same c mark past sized h =
      test_same (test_of c) mark past (asks IsFixed operands_fixed c (record { fits = and_right (agrees c) (fits_signals c l.widths) sized; fixed = h }))

  item_same : (x : SizedItem) (here mark : ℕ) → is_sized x.item l.widths ≡ true → Fixes (reads x.item) → item_code (moved l f) x here mark ≡ item_code l x here mark
  item_same x here mark sized h =
      joined_so (put_same x.item mark sized h)
      (ap (λ k. if x.ignored == 0 then [] else
      (step Or 1 0 true (mark + 1) here (l.place x.ignored) 0 ∷ (step Or 1 0 true (mark + 1 + 1) k (l.place x.ignored) 0 ∷ []))) (operand_same x.item mark h))

  item_at_same : (x : SizedItem) (mark : ℕ) → Fixes (reads x.item) → item_at (moved l f) x mark ≡ item_at l x mark
  item_at_same x mark h = ap (λ k. if x.ignored == 0 then k else mark + 1 + 1) (operand_same x.item mark h)

  tests_same : (xs : List SizedItem) (here mark past : ℕ) → are_items xs l.widths ≡ true → Fixes (item_reads xs)
      → tests (moved l f) xs here mark past ≡ tests l xs here mark past
  tests_same [] here mark past t h = refl
  tests_same (x ∷ []) here mark past t h =
      let own = first (reads x.item) (item_reads []) h in
      joined_so (item_same x here mark (and_left (is_sized x.item l.widths) true t) own)
      (ap (λ k. step SkipUnlessEqual 1 0 true 0 (subject_at x here mark) k past ∷ []) (item_at_same x mark own))
  tests_same (x ∷ y ∷ xs) here mark past t h =
      let own = first (reads x.item) (item_reads (y ∷ xs)) h in
      joined_so (item_same x here mark (and_left (is_sized x.item l.widths) (are_items (y ∷ xs) l.widths) t) own)
      (ap₂ (λ (k : ℕ) (rest : List Step). step SkipIfEqual 1 0 true 0 (subject_at x here mark) k (length rest) ∷ rest) (item_at_same x mark own)
      (tests_same (y ∷ xs) here mark past (and_right (is_sized x.item l.widths) (are_items (y ∷ xs) l.widths) t) (second (reads x.item) (item_reads (y ∷ xs)) h)))

  mutual
    pub stmt_same : (st : SizedStmt) (mark : ℕ) → is_legal st l.widths ≡ true → Fixes (all_reads st) → FixesSpans (targets st)
        → stmt_code (moved l f) st mark ≡ stmt_code l st mark
    stmt_same Nothing mark t h k = refl
    stmt_same (Assign parts e) mark t h k =
        assign_same l.slot f parts e mark (and_left (are_targets parts l.widths) (is_sized e l.widths) t) (and_right (are_targets parts l.widths) (is_sized e l.widths) t) h k
    stmt_same (Later parts e) mark t h k =
        assign_same l.next l.next parts e mark (and_left (are_targets parts l.widths) (is_sized e l.widths) t) (and_right (are_targets parts l.widths) (is_sized e l.widths) t) h
        (each_same (λ (p : Span). l.next p.signal ≡ l.next p.signal) (map span_of parts) (λ p. refl))
    stmt_same (Then a b) mark t h k =
        joined_so
        (stmt_same a mark (and_left (is_legal a l.widths) (is_legal b l.widths) t) (first (all_reads a) (all_reads b) h)
        (each_left (λ (p : Span). f p.signal ≡ l.slot p.signal) (targets a) (targets b) k))
        (stmt_same b mark (and_right (is_legal a l.widths) (is_legal b l.widths) t) (second (all_reads a) (all_reads b) h)
        (each_right (λ (p : Span). f p.signal ≡ l.slot p.signal) (targets a) (targets b) k))
    stmt_same (If c a b) mark t h k =
        let sides = and_right (is_sized c l.widths) (is_legal a l.widths && is_legal b l.widths) t in
        let rest = second (reads c) (λ s i. all_reads a s i || all_reads b s i) h in
        branch_same (condition (moved l f) c mark) (condition l c mark) (stmt_code (moved l f) a mark) (stmt_code (moved l f) b mark) (stmt_code l a mark) (stmt_code l b mark)
        (λ past. condition_same c mark past (and_left (is_sized c l.widths) (is_legal a l.widths && is_legal b l.widths) t)
        (first (reads c) (λ s i. all_reads a s i || all_reads b s i) h))
        (stmt_same a mark (and_left (is_legal a l.widths) (is_legal b l.widths) sides) (first (all_reads a) (all_reads b) rest)
        (each_left (λ (p : Span). f p.signal ≡ l.slot p.signal) (targets a) (targets b) k))
        (stmt_same b mark (and_right (is_legal a l.widths) (is_legal b l.widths) sides) (second (all_reads a) (all_reads b) rest)
        (each_right (λ (p : Span). f p.signal ≡ l.slot p.signal) (targets a) (targets b) k))
    stmt_same (Case e arms) mark t h k =
        let own = first (reads e) (all_arm_reads arms) h in
        joined_so (put_same e mark (and_left (is_sized e l.widths) (are_legal_arms arms l.widths) t) own)
        (ap (λ here. arms_code (moved l f) arms here (mark + 1)) (operand_same e mark own)
        ∙ arms_same arms (operand l e mark) (mark + 1) (and_right (is_sized e l.widths) (are_legal_arms arms l.widths) t) (second (reads e) (all_arm_reads arms) h) k)

    arms_same : (arms : SizedArms) (here mark : ℕ) → are_legal_arms arms l.widths ≡ true → Fixes (all_arm_reads arms) → FixesSpans (arm_targets arms)
        → arms_code (moved l f) arms here mark ≡ arms_code l arms here mark
    arms_same (Arm items body rest) here mark t h k =
        let both = and_right (are_items items l.widths) (is_legal body l.widths && are_legal_arms rest l.widths) t in
        let more = second (item_reads items) (λ s i. all_reads body s i || all_arm_reads rest s i) h in
        branch_same (tests (moved l f) items here mark) (tests l items here mark) (stmt_code (moved l f) body mark) (arms_code (moved l f) rest here mark)
        (stmt_code l body mark) (arms_code l rest here mark)
        (λ past. tests_same items here mark past (and_left (are_items items l.widths) (is_legal body l.widths && are_legal_arms rest l.widths) t)
        (first (item_reads items) (λ s i. all_reads body s i || all_arm_reads rest s i) h))
        (stmt_same body mark (and_left (is_legal body l.widths) (are_legal_arms rest l.widths) both) (first (all_reads body) (all_arm_reads rest) more)
        (each_left (λ (p : Span). f p.signal ≡ l.slot p.signal) (targets body) (arm_targets rest) k))
        (arms_same rest here mark (and_right (is_legal body l.widths) (are_legal_arms rest l.widths) both) (second (all_reads body) (all_arm_reads rest) more)
        (each_right (λ (p : Span). f p.signal ≡ l.slot p.signal) (targets body) (arm_targets rest) k))
    arms_same (Default otherwise) here mark t h k = stmt_same otherwise mark t h k
