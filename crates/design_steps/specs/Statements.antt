-- How statements are laid out as steps: blocking assignments write signals in place, nonblocking ones next values.
use Rattle.std.specs.Prelude.{max, ℕ, ◌+◌, Bool, true, false, ◌&&◌, ◌==◌, nat_le, List, [], ◌∷◌, ◌++◌, length, if◌then◌else◌}
use Rattle.typed_ir.specs.declared.span.Span.{Span}
use Rattle.typed_ir.specs.declared.comparison.Comparison.TheVariants.{Equal, Unequal, Less, AtMost, Greater, AtLeast}
use Rattle.typed_ir.specs.declared.binary_operator.BinaryOperator.TheVariants.{Compare}
use Rattle.typed_ir.specs.declared.signedness.Signedness.{Signedness}
use Rattle.typed_ir.specs.declared.signedness.Signedness.TheVariants.{Signed, Unsigned}
use Rattle.typed_ir.specs.Sized.{Sized, Binary, width_of}
use Rattle.typed_ir.specs.Stmts.{SizedTarget, Fixed, Moving, SizedItem, SizedStmt, SizedArms, Skip as Nothing, Assign, Later, Then, If, Case, Arm, Default, span_of}
use Rattle.word_steps.specs.declared.step.Step.{Step}
use Rattle.word_steps.specs.declared.op.Op.{Op}
use Rattle.word_steps.specs.declared.op.Op.TheVariants.{Select, Place, PlaceAt, Or, SkipIfZero, SkipIfEqual, SkipUnlessEqual, SkipUnlessLess, SkipIfLess, SkipUnlessSignedLess, SkipIfSignedLess, Skip}
use Rattle.design_steps.specs.Plans.{Plan, width_at}
use Rattle.design_steps.specs.Expressions.{step, is_wide, locate_op, operand, before, code, constants_of}

abbrev pub signal_of : SizedTarget → ℕ
signal_of t = (span_of t).signal

-- whether it is all of its signal
abbrev pub is_whole : Plan → Span → Bool
is_whole l span = (span.low == 0) && (span.width == width_at l span.signal)

-- ---- parts left of an assignment

-- the bits of a value from bit `shift` on: those from bit 0 on stand where the value stands, others are put at the mark
abbrev pub shifted : ℕ → ℕ → ℕ → ℕ
shifted shift here mark = if shift == 0 then here else mark

-- the steps that put `width` of them there; the value has `from` bits
abbrev pub shift_code : ℕ → ℕ → ℕ → ℕ → ℕ → List Step
shift_code shift width from here mark =
    if shift == 0 then [] else step Select width shift (is_wide Select (max from (shift + width))) mark here 0 0 ∷ []

-- the steps that write a part of a signal whose word stands at `to`; the value stands at `here`, with `from` bits
abbrev pub part_code : Plan → ℕ → SizedTarget → ℕ → ℕ → ℕ → List Step
part_code l to (Fixed lane) from here mark =
    if is_whole l lane.span
    then step Select lane.span.width lane.shift (is_wide Select (max from (lane.shift + lane.span.width))) to here 0 0 ∷ []
    else shift_code lane.shift lane.span.width from here mark
    ++ step Place lane.span.width lane.span.low (is_wide Place (max (width_at l lane.span.signal) from)) to (shifted lane.shift here mark) to 0 ∷ []
part_code l to (Moving reach index) from here mark =
    ((before l index mark (code l index mark mark)
    ++ step (locate_op reach.signed) (width_of index) 0 true mark (operand l index mark) (l.place reach.below) 0 ∷ [])
    ++ shift_code reach.shift reach.width from here (mark + 1))
    ++ step PlaceAt reach.width reach.total true to (shifted reach.shift here (mark + 1)) mark to ∷ []

-- all parts, one after another; `home` says where the word of a signal stands
abbrev pub parts_code : Plan → (ℕ → ℕ) → List SizedTarget → ℕ → ℕ → ℕ → List Step
parts_code l home [] from here mark = []
parts_code l home (t ∷ ts) from here mark = part_code l (home (signal_of t)) t from here mark ++ parts_code l home ts from here mark

-- whether an assignment of so many bits gives a signal the value itself
abbrev pub is_direct : Plan → SizedTarget → ℕ → Bool
is_direct l (Fixed lane) from = (lane.shift == 0) && (is_whole l lane.span && nat_le from lane.span.width)
is_direct l (Moving reach index) from = false

abbrev pub one_code : Plan → (ℕ → ℕ) → SizedTarget → Sized → ℕ → List Step
one_code l home t e mark =
    if is_direct l t (width_of e) then code l e (home (signal_of t)) mark
    else before l e mark (code l e mark mark) ++ part_code l (home (signal_of t)) t (width_of e) (operand l e mark) (mark + 1)

-- a value that goes to several parts is put at the mark first, where no part is written
abbrev pub assign_code : Plan → (ℕ → ℕ) → List SizedTarget → Sized → ℕ → List Step
assign_code l home [] e mark = []
assign_code l home (t ∷ []) e mark = one_code l home t e mark
assign_code l home (t ∷ u ∷ ts) e mark = code l e mark mark ++ parts_code l home (t ∷ u ∷ ts) (width_of e) mark (mark + 1)

-- ---- branches

-- passes over so many steps, where there are some
abbrev pub pass_over : ℕ → List Step
pass_over n = if n == 0 then [] else step Skip 1 0 true 0 0 0 n ∷ []

-- a test that passes over so many steps where it fails, what is done where it holds, and what is done where it fails
abbrev pub branch : (ℕ → List Step) → List Step → List Step → List Step
branch test xs ys = test (length (xs ++ pass_over (length ys))) ++ ((xs ++ pass_over (length ys)) ++ ys)

-- what a condition asks: whether a value isn't 0, or what a step finds that compares two values and passes over others by it
pub data Test : Type 0 where
  Truth : (c : Sized) → Test
  Pair : (op : Op) (a b : Sized) → Test

-- the steps that pass over others unless one value is less than another, and where it is
abbrev pub unless_less : Signedness → Op
unless_less Signed = SkipUnlessSignedLess
unless_less Unsigned = SkipUnlessLess

abbrev pub if_less : Signedness → Op
if_less Signed = SkipIfSignedLess
if_less Unsigned = SkipIfLess

-- a comparison is found by a step that compares: a > b is b < a, and a <= b and a >= b hold where b < a and a < b don't
abbrev pub test_of : Sized → Test
test_of (Binary (Compare Equal) a b) = Pair SkipUnlessEqual a b
test_of (Binary (Compare Unequal) a b) = Pair SkipIfEqual a b
test_of (Binary (Compare (Less s)) a b) = Pair (unless_less s) a b
test_of (Binary (Compare (AtMost s)) a b) = Pair (if_less s) b a
test_of (Binary (Compare (Greater s)) a b) = Pair (unless_less s) b a
test_of (Binary (Compare (AtLeast s)) a b) = Pair (if_less s) a b
test_of c = Truth c

-- the steps that pass over so many others where it doesn't hold
abbrev pub test_code : Plan → Test → ℕ → ℕ → List Step
test_code l (Truth c) mark past = before l c mark (code l c mark mark) ++ step SkipIfZero 1 0 true 0 (operand l c mark) 0 past ∷ []
test_code l (Pair op a b) mark past =
    (before l a mark (code l a mark mark) ++ before l b (mark + 1) (code l b (mark + 1) (mark + 1)))
    ++ step op (width_of a) 0 true 0 (operand l a mark) (operand l b (mark + 1)) past ∷ []

-- whether an expression holds
abbrev pub condition : Plan → Sized → ℕ → ℕ → List Step
condition l c mark past = test_code l (test_of c) mark past

-- what is compared of a case's expression and of an item: both with the ignored bits as ones, which are put behind the mark
abbrev pub subject_at : SizedItem → ℕ → ℕ → ℕ
subject_at i here mark = if i.ignored == 0 then here else mark + 1

abbrev pub item_at : Plan → SizedItem → ℕ → ℕ
item_at l i mark = if i.ignored == 0 then operand l i.item mark else mark + 1 + 1

abbrev pub item_code : Plan → SizedItem → ℕ → ℕ → List Step
item_code l i here mark =
    before l i.item mark (code l i.item mark mark)
    ++ (if i.ignored == 0 then []
    else step Or 1 0 true (mark + 1) here (l.place i.ignored) 0 ∷ (step Or 1 0 true (mark + 1 + 1) (operand l i.item mark) (l.place i.ignored) 0 ∷ []))

-- whether an item matches the value that stands at `here`
abbrev pub tests : Plan → List SizedItem → ℕ → ℕ → ℕ → List Step
tests l [] here mark past = step Skip 1 0 true 0 0 0 past ∷ []
tests l (i ∷ []) here mark past =
    item_code l i here mark ++ step SkipUnlessEqual 1 0 true 0 (subject_at i here mark) (item_at l i mark) past ∷ []
tests l (i ∷ j ∷ is) here mark past =
    item_code l i here mark
    ++ (step SkipIfEqual 1 0 true 0 (subject_at i here mark) (item_at l i mark) (length (tests l (j ∷ is) here mark past)) ∷ tests l (j ∷ is) here mark past)

abbrev mutual
  pub stmt_code : Plan → SizedStmt → ℕ → List Step
  stmt_code l Nothing mark = []
  stmt_code l (Assign parts e) mark = assign_code l l.slot parts e mark
  stmt_code l (Later parts e) mark = assign_code l l.next parts e mark
  stmt_code l (Then a b) mark = stmt_code l a mark ++ stmt_code l b mark
  stmt_code l (If c a b) mark = branch (condition l c mark) (stmt_code l a mark) (stmt_code l b mark)
  stmt_code l (Case e arms) mark = before l e mark (code l e mark mark) ++ arms_code l arms (operand l e mark) (mark + 1)

  -- the value of the case's expression stands at `here`
  pub arms_code : Plan → SizedArms → ℕ → ℕ → List Step
  arms_code l (Arm items body rest) here mark = branch (tests l items here mark) (stmt_code l body mark) (arms_code l rest here mark)
  arms_code l (Default otherwise) here mark = stmt_code l otherwise mark

-- ---- constants

abbrev pub part_constants : SizedTarget → List ℕ
part_constants (Fixed lane) = []
part_constants (Moving reach index) = constants_of index ++ reach.below ∷ []

abbrev pub target_constants : List SizedTarget → List ℕ
target_constants [] = []
target_constants (t ∷ ts) = part_constants t ++ target_constants ts

abbrev pub item_constants : List SizedItem → List ℕ
item_constants [] = []
item_constants (i ∷ is) = (constants_of i.item ++ i.ignored ∷ []) ++ item_constants is

abbrev mutual
  -- the constants that its steps read
  pub stmt_constants : SizedStmt → List ℕ
  stmt_constants Nothing = []
  stmt_constants (Assign parts e) = constants_of e ++ target_constants parts
  stmt_constants (Later parts e) = constants_of e ++ target_constants parts
  stmt_constants (Then a b) = stmt_constants a ++ stmt_constants b
  stmt_constants (If c a b) = constants_of c ++ (stmt_constants a ++ stmt_constants b)
  stmt_constants (Case e arms) = constants_of e ++ arm_constants arms

  pub arm_constants : SizedArms → List ℕ
  arm_constants (Arm items body rest) = item_constants items ++ (stmt_constants body ++ arm_constants rest)
  arm_constants (Default otherwise) = stmt_constants otherwise
