-- Other numbers change neither widths nor whether they agree.
use Rattle.std.proofs.Common.{◌≡◌, ℕ, ◌+◌, ◌<◌, ◌*◌, ◌==◌, ◌&&◌, List, [], ◌∷◌, ◌++◌, map, length, get_or, drop, nat_le, refl, sym, ◌∙◌, ap, ap₂, subst, IsTrue}
use Rattle.std.proofs.lemmas.List.{map-append}
use Rattle.typed_ir.specs.Sized.{Sized, Constant, Name, Part, Pick, Unary, Binary, Choice, Concat, Repeat, Resized, unary_width, binary_width, takes_widths, width_of, agrees, is_width}
use Rattle.typed_ir.specs.Stmts.{SizedStmt, SizedArms, Then, Arm, Default}
use Rattle.typed_ir.specs.Statements.{stmt_step, arm_step, stmt_of, arm_of, sequence_of, arms_before, item_of}
use Rattle.typed_ir.specs.Shifts.{shifted, shifted_item, shifted_stmt, shifted_arms}
use Rattle.typed_ir.specs.declared.arm.Arm.{Arm as Arm'}
use Rattle.typed_ir.specs.declared.stmt.Stmt.{Stmt}
use Rattle.typed_ir.specs.declared.stmt.Stmt.TheVariants.{Sequence as Sequence', rolls-Sequence}
use Rattle.typed_ir.specs.declared.stmt.Stmt.TheOpen.{Stmt-F}
use Rattle.typed_ir.specs.declared.stmt.Stmt.TheFolds.{fold-roll-Stmt}
use Rattle.std.specs.declared.vec.Vec.{Vec}
use Rattle.std.specs.Global.{Global}
use Rattle.typed_ir.proofs.Lists.{drop_read}
use Rattle.typed_ir.proofs.Listed.{arm_is}

pub width_shifted : (first : ℕ) (e : Sized) → width_of (shifted first e) ≡ width_of e
width_shifted first (Constant width value) = refl
width_shifted first (Name signal width) = refl
width_shifted first (Part span) = refl
width_shifted first (Pick signal width below signed index) = refl
width_shifted first (Unary op a) = ap (unary_width op) (width_shifted first a)
width_shifted first (Binary op a b) = ap (binary_width op) (width_shifted first a)
width_shifted first (Choice c a b) = width_shifted first a
width_shifted first (Concat width a b) = refl
width_shifted first (Repeat width count a) = refl
width_shifted first (Resized a width signed) = refl

pub agrees_shifted : (first : ℕ) (e : Sized) → agrees (shifted first e) ≡ agrees e
agrees_shifted first (Constant width value) = refl
agrees_shifted first (Name signal width) = refl
agrees_shifted first (Part span) = refl
agrees_shifted first (Pick signal width below signed index) = ap (λ b. is_width width && b) (agrees_shifted first index)
agrees_shifted first (Unary op a) = agrees_shifted first a
agrees_shifted first (Binary op a b) =
    ap₂ (λ x y. takes_widths op x y && (agrees (shifted first a) && agrees (shifted first b))) (width_shifted first a) (width_shifted first b)
    ∙ ap₂ (λ x y. takes_widths op (width_of a) (width_of b) && (x && y)) (agrees_shifted first a) (agrees_shifted first b)
agrees_shifted first (Choice c a b) =
    ap₂ (λ x y. (x == y) && (agrees (shifted first c) && (agrees (shifted first a) && agrees (shifted first b)))) (width_shifted first a) (width_shifted first b)
    ∙ ap (λ z. (width_of a == width_of b) && (z && (agrees (shifted first a) && agrees (shifted first b)))) (agrees_shifted first c)
    ∙ ap₂ (λ x y. (width_of a == width_of b) && (agrees c && (x && y))) (agrees_shifted first a) (agrees_shifted first b)
agrees_shifted first (Concat width a b) =
    ap₂ (λ x y. (width == x + y) && (nat_le width 128 && (agrees (shifted first a) && agrees (shifted first b)))) (width_shifted first a) (width_shifted first b)
    ∙ ap₂ (λ x y. (width == width_of a + width_of b) && (nat_le width 128 && (x && y))) (agrees_shifted first a) (agrees_shifted first b)
agrees_shifted first (Repeat width count a) =
    ap₂ (λ x y. (width == count * x) && (nat_le 1 count && (nat_le width 128 && y))) (width_shifted first a) (agrees_shifted first a)
agrees_shifted first (Resized a width signed) = ap (λ b. is_width width && b) (agrees_shifted first a)

pub agrees_there : (first : ℕ) (e e' : Sized) → e' ≡ shifted first e → IsTrue (agrees e) → IsTrue (agrees e')
agrees_there first e e' is h = subst (λ b. IsTrue b) (sym (ap agrees is ∙ agrees_shifted first e)) h

-- statements one after another
pub sequence_shifted : (first : ℕ) (sts : List SizedStmt) → sequence_of (map (shifted_stmt first) sts) ≡ shifted_stmt first (sequence_of sts)
sequence_shifted first [] = refl
sequence_shifted first (st ∷ sts) = ap (λ (rest : SizedStmt). Then (shifted_stmt first st) rest) (sequence_shifted first sts)

-- arms before others
abbrev pub onto : List (SizedArms → SizedArms) → SizedArms → SizedArms
onto [] rest = rest
onto (arm ∷ arms) rest = arm (onto arms rest)

pub onto_default : (arms : List (SizedArms → SizedArms)) (otherwise : SizedStmt) → arms_before arms otherwise ≡ onto arms (Default otherwise)
onto_default [] otherwise = refl
onto_default (arm ∷ arms) otherwise = ap arm (onto_default arms otherwise)

before_more : (arms : List (SizedArms → SizedArms)) (arm : SizedArms → SizedArms) (rest : SizedArms)
    → onto (arms ++ arm ∷ []) rest ≡ onto arms (arm rest)
before_more [] arm rest = refl
before_more (a ∷ arms) arm rest = ap a (before_more arms arm rest)

-- one more arm
pub arms_next : (first : ℕ) (arms old new : List Arm') (k : ℕ) (x y : Arm') (rest whole : SizedArms) → k < length arms → x ≡ get_or arms k x
    → new ≡ old ++ y ∷ []
    → ((rest : SizedArms) → arm_of y (shifted_arms first rest) ≡ shifted_arms first (arm_of x rest))
    → onto (map arm_of old) (shifted_arms first (onto (map arm_of (drop k arms)) rest)) ≡ whole
    → onto (map arm_of new) (shifted_arms first (onto (map arm_of (drop (k + 1) arms)) rest)) ≡ whole
arms_next first arms old new k x y rest whole h is more step left =
    let later = onto (map arm_of (drop (k + 1) arms)) rest in
    ap (λ zs. onto (map arm_of zs) (shifted_arms first later)) more
    ∙ ap (λ zs. onto zs (shifted_arms first later)) (map-append arm_of old (y ∷ []))
    ∙ before_more (map arm_of old) (arm_of y) (shifted_arms first later)
    ∙ ap (onto (map arm_of old)) (step later)
    ∙ sym (ap (λ zs. onto (map arm_of old) (shifted_arms first (onto (map arm_of zs) rest))) (drop_read arms k x h is))
    ∙ left

-- an arm
pub arm_shifted : (first : ℕ) (x y : Arm') → map item_of y.items.items ≡ map (shifted_item first) (map item_of x.items.items)
    → stmt_of y.body ≡ shifted_stmt first (stmt_of x.body)
    → (rest : SizedArms) → arm_of y (shifted_arms first rest) ≡ shifted_arms first (arm_of x rest)
arm_shifted first x y items body rest =
    arm_is y (shifted_arms first rest)
    ∙ ap₂ (λ is st. Arm is st (shifted_arms first rest)) items body
    ∙ sym (ap (shifted_arms first) (arm_is x rest))

pub sequence_is : (list : Vec Stmt Global) → stmt_of (Sequence' list) ≡ sequence_of (map stmt_of list.items)
sequence_is list = ap stmt_of (sym (rolls-Sequence list)) ∙ fold-roll-Stmt SizedStmt (SizedArms → SizedArms) stmt_step arm_step (Stmt-F.Sequence list)
