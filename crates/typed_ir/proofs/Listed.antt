-- Statements and arms of lists, taken one by one.
use Rattle.std.proofs.Common.{◌≡◌, ℕ, ◌+◌, ◌<◌, ◌≤◌, ◌||◌, List, [], ◌++◌, map, length, get_or, drop, Box, Global, sym, ◌∙◌, ap, append_assoc}
use Rattle.std.proofs.Math.Bool.{or_assoc}
use Rattle.std.proofs.lemmas.List.{at_drop_all}
use Rattle.typed_ir.specs.declared.arm.Arm.{Arm as Arm'}
use Rattle.typed_ir.specs.declared.stmt.Stmt.{Stmt}
use Rattle.typed_ir.specs.declared.stmt.Stmt.TheFolds.{fold-roll-Stmt, fold_out-Arm}
use Rattle.typed_ir.specs.declared.stmt.Stmt.TheOpen.{Stmt-F}
use Rattle.typed_ir.specs.declared.stmt.Stmt.TheVariants.{If as If', rolls-If}
use Rattle.typed_ir.specs.declared.typed.Typed.{Typed}
use Rattle.typed_ir.specs.declared.span.Span.{Span}
use Rattle.typed_ir.specs.declared.touch.Touch.{Touch}
use Rattle.typed_ir.specs.Valuations.{Places, any_within}
use Rattle.typed_ir.specs.Stmts.{SizedStmt, SizedArms, If, Arm, targets, arm_targets, later_targets, later_arm_targets}
use Rattle.typed_ir.specs.Statements.{stmt_step, arm_step, stmt_of, arm_of, item_of, sequence_of, arms_before}
use Rattle.typed_ir.specs.Forms.{sized}
use Rattle.typed_ir.specs.Touches.{touched, Adds}
use Rattle.typed_ir.proofs.Lists.{drop_read}
use Rattle.typed_ir.proofs.Locals.{any_within-append}

pub adds_two : (old mid new : List Touch) (p q : Places) → Adds old mid p → Adds mid new q → Adds old new (λ s i. p s i || q s i)
adds_two old mid new p q h k = record {
  says = λ s i small. k.says s i small ∙ ap (λ b. b || q s i) (h.says s i small) ∙ or_assoc (touched old s i) (p s i) (q s i);
}

pub adds_targets : (old mid new : List Touch) (a b : SizedStmt) → Adds old mid (any_within (targets a)) → Adds mid new (any_within (targets b))
    → Adds old new (any_within (targets a ++ targets b))
adds_targets old mid new a b h k = record {
  says = λ s i small. (adds_two old mid new (any_within (targets a)) (any_within (targets b)) h k).says s i small
      ∙ ap (λ t. touched old s i || t) (sym (any_within-append (targets a) (targets b) s i));
}

pub if_is : (c : Typed) (a b : Box Stmt Global) → stmt_of (If' c a b) ≡ If (sized c.form) (stmt_of a.value) (stmt_of b.value)
if_is c a b = ap stmt_of (sym (rolls-If c a b)) ∙ fold-roll-Stmt SizedStmt (SizedArms → SizedArms) stmt_step arm_step (Stmt-F.If c a b)

-- one arm before the others
pub arm_is : (arm : Arm') (rest : SizedArms) → arm_of arm rest ≡ Arm (map item_of arm.items.items) (stmt_of arm.body) rest
arm_is arm rest = ap (λ f. f rest) (fold_out-Arm SizedStmt (SizedArms → SizedArms) stmt_step arm_step arm)

pub targets_next : (list : List Stmt) (k : ℕ) (x : Stmt) (mid new : List Touch) (s i : ℕ) → k < length list → x ≡ get_or list k x → i < 128
    → Adds mid new (any_within (targets (stmt_of x)))
    → (touched new s i || any_within (targets (sequence_of (map stmt_of (drop (k + 1) list)))) s i)
    ≡ (touched mid s i || any_within (targets (sequence_of (map stmt_of (drop k list)))) s i)
targets_next list k x mid new s i h is small adds =
    let rest = sequence_of (map stmt_of (drop (k + 1) list)) in
    ap (λ b. b || any_within (targets rest) s i) (adds.says s i small)
    ∙ or_assoc (touched mid s i) (any_within (targets (stmt_of x)) s i) (any_within (targets rest) s i)
    ∙ ap (λ b. touched mid s i || b) (sym (any_within-append (targets (stmt_of x)) (targets rest) s i))
    ∙ ap (λ zs. touched mid s i || any_within (targets (sequence_of (map stmt_of zs))) s i) (sym (drop_read list k x h is))

-- one more arm
pub arm_targets_next : (arms : List Arm') (otherwise : SizedStmt) (k : ℕ) (x : Arm') (mid new : List Touch) (s i : ℕ) → k < length arms → x ≡ get_or arms k x
    → i < 128 → Adds mid new (any_within (targets (stmt_of x.body)))
    → (touched new s i || any_within (arm_targets (arms_before (map arm_of (drop (k + 1) arms)) otherwise)) s i)
    ≡ (touched mid s i || any_within (arm_targets (arms_before (map arm_of (drop k arms)) otherwise)) s i)
arm_targets_next arms otherwise k x mid new s i h is small adds =
    let rest = arms_before (map arm_of (drop (k + 1) arms)) otherwise in
    ap (λ b. b || any_within (arm_targets rest) s i) (adds.says s i small)
    ∙ or_assoc (touched mid s i) (any_within (targets (stmt_of x.body)) s i) (any_within (arm_targets rest) s i)
    ∙ ap (λ b. touched mid s i || b) (sym (any_within-append (targets (stmt_of x.body)) (arm_targets rest) s i))
    ∙ ap (λ a. touched mid s i || any_within (arm_targets a) s i) (sym (arm_is x rest))
    ∙ ap (λ zs. touched mid s i || any_within (arm_targets (arms_before (map arm_of zs) otherwise)) s i) (sym (drop_read arms k x h is))

-- after all arms, the default
pub arms_done : (places : SizedStmt → Places) (arm_places : SizedArms → Places) (arms : List Arm') (otherwise : SizedStmt) (k : ℕ) (old mid new : List Touch)
    → length arms ≤ k
    → ((s i : ℕ) → i < 128 → (touched mid s i || arm_places (arms_before (map arm_of (drop k arms)) otherwise) s i)
    ≡ (touched old s i || arm_places (arms_before (map arm_of arms) otherwise) s i))
    → ((s i : ℕ) → arm_places (arms_before [] otherwise) s i ≡ places otherwise s i)
    → Adds mid new (places otherwise) → Adds old new (arm_places (arms_before (map arm_of arms) otherwise))
arms_done places arm_places arms otherwise k old mid new h left last adds = record {
  says = λ s i small. adds.says s i small
      ∙ ap (λ b. touched mid s i || b) (sym (last s i))
      ∙ sym (at_drop_all (λ (zs : List Arm'). touched mid s i || arm_places (arms_before (map arm_of zs) otherwise) s i) arms k h)
      ∙ left s i small;
}

-- ---- what is written later

pub later_next : (list : List Stmt) (k : ℕ) (x : Stmt) (mid new : List Span) → k < length list → x ≡ get_or list k x
    → new ≡ mid ++ later_targets (stmt_of x)
    → new ++ later_targets (sequence_of (map stmt_of (drop (k + 1) list))) ≡ mid ++ later_targets (sequence_of (map stmt_of (drop k list)))
later_next list k x mid new h is more =
    let rest = sequence_of (map stmt_of (drop (k + 1) list)) in
    ap (λ us. us ++ later_targets rest) more ∙ append_assoc mid (later_targets (stmt_of x)) (later_targets rest)
    ∙ ap (λ zs. mid ++ later_targets (sequence_of (map stmt_of zs))) (sym (drop_read list k x h is))

pub later_arm_next : (arms : List Arm') (otherwise : SizedStmt) (k : ℕ) (x : Arm') (mid new : List Span) → k < length arms → x ≡ get_or arms k x
    → new ≡ mid ++ later_targets (stmt_of x.body)
    → new ++ later_arm_targets (arms_before (map arm_of (drop (k + 1) arms)) otherwise) ≡ mid ++ later_arm_targets (arms_before (map arm_of (drop k arms)) otherwise)
later_arm_next arms otherwise k x mid new h is more =
    let rest = arms_before (map arm_of (drop (k + 1) arms)) otherwise in
    ap (λ us. us ++ later_arm_targets rest) more ∙ append_assoc mid (later_targets (stmt_of x.body)) (later_arm_targets rest)
    ∙ ap (λ a. mid ++ later_arm_targets a) (sym (arm_is x rest))
    ∙ ap (λ zs. mid ++ later_arm_targets (arms_before (map arm_of zs) otherwise)) (sym (drop_read arms k x h is))

pub later_arms_done : (arms : List Arm') (otherwise : SizedStmt) (k : ℕ) (old mid new : List Span) → length arms ≤ k
    → mid ++ later_arm_targets (arms_before (map arm_of (drop k arms)) otherwise) ≡ old ++ later_arm_targets (arms_before (map arm_of arms) otherwise)
    → new ≡ mid ++ later_targets otherwise → new ≡ old ++ later_arm_targets (arms_before (map arm_of arms) otherwise)
later_arms_done arms otherwise k old mid new h left is =
    is ∙ sym (at_drop_all (λ (zs : List Arm'). mid ++ later_arm_targets (arms_before (map arm_of zs) otherwise)) arms k h) ∙ left
