-- The search for a target by its number, statement by statement and arm by arm.
use Rattle.std.proofs.Common.{◌≡◌, ℕ, zero, suc, ◌+◌, ◌-◌, ◌<◌, ◌≤◌, List, [], ◌∷◌, ◌++◌, map, length, get_or, drop, Option, Some, None, refl, sym, ◌∙◌, ap, arith}
use Rattle.std.specs.Prelude.{slice_get}
use Rattle.std.proofs.lemmas.List.{at_drop_all}
use Rattle.typed_ir.specs.declared.arm.Arm.{Arm as Arm'}
use Rattle.typed_ir.specs.declared.span.Span.{Span}
use Rattle.typed_ir.specs.declared.stmt.Stmt.{Stmt}
use Rattle.typed_ir.specs.declared.target.Target.{Target}
use Rattle.typed_ir.specs.Statements.{stmt_of, arm_of, sequence_of, arms_before}
use Rattle.typed_ir.specs.Stmts.{SizedStmt, span_of, targets, arm_targets}
use Rattle.typed_ir.specs.Targets.{target_of, targets_of}
use Rattle.typed_ir.proofs.Listed.{arm_is}
use Rattle.typed_ir.proofs.Lists.{drop_read}
use Rattle.link.specs.declared.search.Search.{Search}
use Rattle.link.specs.declared.search.Search.TheVariants.{Found, Left}
use Rattle.link.specs.Searches.{searched}

-- what is searched behind a search
abbrev pub behind : Search → List Span → Search
behind (Found p) ys = Found p
behind (Left k) ys = searched ys k

pub searched_both : (xs ys : List Span) (k : ℕ) → searched (xs ++ ys) k ≡ behind (searched xs k) ys
searched_both [] ys k = refl
searched_both (x ∷ xs) ys zero = refl
searched_both (x ∷ xs) ys (suc k) = searched_both xs ys k

pub searched_left : (xs ys : List Span) (k : ℕ) (p : Span) → Found p ≡ searched xs k → Found p ≡ searched (xs ++ ys) k
searched_left xs ys k p is = ap (λ (s : Search). behind s ys) is ∙ sym (searched_both xs ys k)

pub searched_right : (xs ys : List Span) (k j : ℕ) → Left j ≡ searched xs k → searched (xs ++ ys) k ≡ searched ys j
searched_right xs ys k j is = searched_both xs ys k ∙ ap (λ (s : Search). behind s ys) (sym is)

-- ---- what is found is the one of that number

abbrev pub found_in : Search → Option Span
found_in (Found p) = Some p
found_in (Left k) = None

pub found_is : (xs : List Span) (k : ℕ) → found_in (searched xs k) ≡ slice_get xs k
found_is [] k = refl
found_is (x ∷ xs) zero = refl
found_is (x ∷ xs) (suc k) = found_is xs k

-- ---- the parts of one assignment

pub part_found : (parts : List Target) (k : ℕ) (x : Target) → k < length parts → x ≡ get_or parts k x
    → Found (span_of (target_of x)) ≡ searched (map span_of (targets_of parts)) k
part_found [] k x h is = absurd (omega (arith, h))
part_found (p ∷ parts) zero x h is = ap (λ (y : Target). Found (span_of (target_of y))) is
part_found (p ∷ parts) (suc k) x h is = part_found parts k x (omega (arith, h)) is

pub parts_passed : (parts : List Target) (k : ℕ) → length parts ≤ k → Left (k - length parts) ≡ searched (map span_of (targets_of parts)) k
parts_passed [] k h = ap Left (omega arith)
parts_passed (p ∷ parts) zero h = absurd (omega (arith, h))
parts_passed (p ∷ parts) (suc k) h = ap Left (omega arith) ∙ parts_passed parts k (omega (arith, h))

-- ---- a statement of a list

pub stmt_found : (list : List Stmt) (i : ℕ) (x : Stmt) (k : ℕ) (p : Span) → i < length list → x ≡ get_or list i x → Found p ≡ searched (targets (stmt_of x)) k
    → Found p ≡ searched (targets (sequence_of (map stmt_of (drop i list)))) k
stmt_found list i x k p h is found =
    searched_left (targets (stmt_of x)) (targets (sequence_of (map stmt_of (drop (i + 1) list)))) k p found
    ∙ ap (λ zs. searched (targets (sequence_of (map stmt_of zs))) k) (sym (drop_read list i x h is))

pub stmt_passed : (list : List Stmt) (i : ℕ) (x : Stmt) (k j : ℕ) → i < length list → x ≡ get_or list i x → Left j ≡ searched (targets (stmt_of x)) k
    → searched (targets (sequence_of (map stmt_of (drop (i + 1) list)))) j ≡ searched (targets (sequence_of (map stmt_of (drop i list)))) k
stmt_passed list i x k j h is without =
    sym (searched_right (targets (stmt_of x)) (targets (sequence_of (map stmt_of (drop (i + 1) list)))) k j without)
    ∙ ap (λ zs. searched (targets (sequence_of (map stmt_of zs))) k) (sym (drop_read list i x h is))

pub stmts_over : (list : List Stmt) (i k : ℕ) → length list ≤ i → Left k ≡ searched (targets (sequence_of (map stmt_of (drop i list)))) k
stmts_over list i k h = sym (at_drop_all (λ (zs : List Stmt). searched (targets (sequence_of (map stmt_of zs))) k) list i h)

-- ---- an arm before the others

arm_cut : (arms : List Arm') (otherwise : SizedStmt) (i : ℕ) (x : Arm') → i < length arms → x ≡ get_or arms i x
    → arm_targets (arms_before (map arm_of (drop i arms)) otherwise) ≡ targets (stmt_of x.body) ++ arm_targets (arms_before (map arm_of (drop (i + 1) arms)) otherwise)
arm_cut arms otherwise i x h is =
    ap (λ zs. arm_targets (arms_before (map arm_of zs) otherwise)) (drop_read arms i x h is)
    ∙ ap arm_targets (arm_is x (arms_before (map arm_of (drop (i + 1) arms)) otherwise))

pub arm_found : (arms : List Arm') (otherwise : SizedStmt) (i : ℕ) (x : Arm') (k : ℕ) (p : Span) → i < length arms → x ≡ get_or arms i x
    → Found p ≡ searched (targets (stmt_of x.body)) k
    → Found p ≡ searched (arm_targets (arms_before (map arm_of (drop i arms)) otherwise)) k
arm_found arms otherwise i x k p h is found =
    searched_left (targets (stmt_of x.body)) (arm_targets (arms_before (map arm_of (drop (i + 1) arms)) otherwise)) k p found
    ∙ ap (λ ps. searched ps k) (sym (arm_cut arms otherwise i x h is))

pub arm_passed : (arms : List Arm') (otherwise : SizedStmt) (i : ℕ) (x : Arm') (k j : ℕ) → i < length arms → x ≡ get_or arms i x
    → Left j ≡ searched (targets (stmt_of x.body)) k
    → searched (arm_targets (arms_before (map arm_of (drop (i + 1) arms)) otherwise)) j ≡ searched (arm_targets (arms_before (map arm_of (drop i arms)) otherwise)) k
arm_passed arms otherwise i x k j h is without =
    sym (searched_right (targets (stmt_of x.body)) (arm_targets (arms_before (map arm_of (drop (i + 1) arms)) otherwise)) k j without)
    ∙ ap (λ ps. searched ps k) (sym (arm_cut arms otherwise i x h is))

pub arms_over : (arms : List Arm') (otherwise : SizedStmt) (i k : ℕ) → length arms ≤ i
    → searched (targets otherwise) k ≡ searched (arm_targets (arms_before (map arm_of (drop i arms)) otherwise)) k
arms_over arms otherwise i k h = sym (at_drop_all (λ (zs : List Arm'). searched (arm_targets (arms_before (map arm_of zs) otherwise)) k) arms i h)
