-- Parts, statements and arms of lists, taken one by one.
use Rattle.std.proofs.Common.{◌≡◌, ℕ, ◌+◌, ◌<◌, ◌≤◌, true, false, Bool, ◌||◌, ◌&&◌, Box, Global, List, [], ◌∷◌, ◌++◌, map, length, get_or, drop, refl, sym, ◌∙◌, ap, ap₂, subst, append_assoc}
use Rattle.std.proofs.lemmas.List.{at_drop_all}
use Rattle.typed_ir.specs.declared.arm.Arm.{Arm as Arm'}
use Rattle.std.specs.declared.vec.Vec.{Vec}
use Rattle.typed_ir.specs.declared.stmt.Stmt.{Stmt}
use Rattle.typed_ir.specs.declared.stmt.Stmt.TheFolds.{fold-roll-Stmt}
use Rattle.typed_ir.specs.declared.stmt.Stmt.TheOpen.{Stmt-F}
use Rattle.typed_ir.specs.declared.stmt.Stmt.TheVariants.{Assign as Assign', Later as Later', Case as Case', rolls-Assign, rolls-Later, rolls-Case}
use Rattle.typed_ir.specs.declared.target.Target.{Target}
use Rattle.typed_ir.specs.declared.target.Target.TheVariants.{Fixed as Fixed', Moving as Moving'}
use Rattle.typed_ir.specs.declared.lane.Lane.{Lane}
use Rattle.typed_ir.specs.declared.reach.Reach.{Reach}
use Rattle.typed_ir.specs.declared.typed.Typed.{Typed}
use Rattle.typed_ir.specs.declared.span.Span.{Span}
use Rattle.typed_ir.specs.declared.touch.Touch.{Touch}
use Rattle.typed_ir.specs.Valuations.{Places, within}
use Rattle.typed_ir.specs.Stmts.{SizedTarget, SizedStmt, SizedArms, Assign, Later, If, Case, certain, targets, arm_targets, known_after, known_after_arms}
use Rattle.typed_ir.specs.Targets.{targets_of}
use Rattle.typed_ir.specs.Statements.{stmt_step, arm_step, stmt_of, arm_of, item_of, sequence_of, arms_before}
use Rattle.typed_ir.specs.Sized.{Sized}
use Rattle.typed_ir.specs.Forms.{sized}
use Rattle.typed_ir.specs.Touches.{touched}
use Rattle.typed_ir.proofs.Lists.{drop_read}
use Rattle.typed_ir.proofs.Listed.{arm_is}
use Rattle.block_rules.specs.declared.bit_table.BitTable.{BitTable}
use Rattle.block_rules.specs.Paths.{leaves, index_leaves, item_leaves, flags_of, index_flags, reads_early, arms_early}
use Rattle.block_rules.specs.Tables.{bits_of, SameBelow, Leads}
use Rattle.block_rules.proofs.Knowing.{known_at, known_keeps, index_same, reads_same}
use Rattle.block_rules.proofs.Leading.{alike_tables, chain_leads, leads_as, leads_from, if_same, arm_same}

-- ---- what is written

pub spans_next : (list : List Stmt) (k : ℕ) (x : Stmt) (mid new : List Span) → k < length list → x ≡ get_or list k x
    → new ≡ mid ++ targets (stmt_of x)
    → new ++ targets (sequence_of (map stmt_of (drop (k + 1) list))) ≡ mid ++ targets (sequence_of (map stmt_of (drop k list)))
spans_next list k x mid new h is more =
    let rest = sequence_of (map stmt_of (drop (k + 1) list)) in
    ap (λ us. us ++ targets rest) more ∙ append_assoc mid (targets (stmt_of x)) (targets rest)
    ∙ ap (λ zs. mid ++ targets (sequence_of (map stmt_of zs))) (sym (drop_read list k x h is))

pub arm_spans_next : (arms : List Arm') (otherwise : SizedStmt) (k : ℕ) (x : Arm') (mid new : List Span) → k < length arms → x ≡ get_or arms k x
    → new ≡ mid ++ targets (stmt_of x.body)
    → new ++ arm_targets (arms_before (map arm_of (drop (k + 1) arms)) otherwise) ≡ mid ++ arm_targets (arms_before (map arm_of (drop k arms)) otherwise)
arm_spans_next arms otherwise k x mid new h is more =
    let rest = arms_before (map arm_of (drop (k + 1) arms)) otherwise in
    ap (λ us. us ++ arm_targets rest) more ∙ append_assoc mid (targets (stmt_of x.body)) (arm_targets rest)
    ∙ ap (λ a. mid ++ arm_targets a) (sym (arm_is x rest))
    ∙ ap (λ zs. mid ++ arm_targets (arms_before (map arm_of zs) otherwise)) (sym (drop_read arms k x h is))

pub arm_spans_done : (arms : List Arm') (otherwise : SizedStmt) (k : ℕ) (old mid new : List Span) → length arms ≤ k
    → mid ++ arm_targets (arms_before (map arm_of (drop k arms)) otherwise) ≡ old ++ arm_targets (arms_before (map arm_of arms) otherwise)
    → new ≡ mid ++ targets otherwise → new ≡ old ++ arm_targets (arms_before (map arm_of arms) otherwise)
arm_spans_done arms otherwise k old mid new h left is =
    is ∙ sym (at_drop_all (λ (zs : List Arm'). mid ++ arm_targets (arms_before (map arm_of zs) otherwise)) arms k h) ∙ left

-- ---- parts left of an assignment

pub fixed_next : (parts : List Target) (k : ℕ) (x : Target) (lane : Lane) (written mid new : BitTable) (ts us : List Touch) (flags whole : List Bool)
    → k < length parts → x ≡ get_or parts k x → x ≡ Fixed' lane → length written.masks.items ≡ length mid.masks.items
    → Leads mid new ts us (bits_of new) (λ s i. bits_of mid s i || within lane.span s i)
    → flags ++ index_flags (bits_of written) (targets_of (drop k parts)) (bits_of mid) ≡ whole
    → flags ++ index_flags (bits_of written) (targets_of (drop (k + 1) parts)) (bits_of new) ≡ whole
fixed_next parts k x lane written mid new ts us flags whole less is kind long h left =
    ap (λ fs. flags ++ fs)
    (index_same (targets_of (drop (k + 1) parts)) (bits_of written) (bits_of written) (bits_of new) (λ s i. bits_of mid s i || within lane.span s i)
    (alike_tables written mid new ts us (λ s i. bits_of mid s i || within lane.span s i) long h)
    ∙ ap (λ z. index_flags (bits_of written) (targets_of (z ∷ drop (k + 1) parts)) (bits_of mid)) (sym kind)
    ∙ ap (λ zs. index_flags (bits_of written) (targets_of zs) (bits_of mid)) (sym (drop_read parts k x less is)))
    ∙ left

pub moving_next : (parts : List Target) (k : ℕ) (x : Target) (reach : Reach) (index : Typed) (w known : Places) (mid new whole : List Bool)
    → k < length parts → x ≡ get_or parts k x → x ≡ Moving' reach index → new ≡ mid ++ flags_of w (leaves (sized index.form)) known
    → mid ++ index_flags w (targets_of (drop k parts)) known ≡ whole
    → new ++ index_flags w (targets_of (drop (k + 1) parts)) known ≡ whole
moving_next parts k x reach index w known mid new whole less is kind more left =
    let rest = index_flags w (targets_of (drop (k + 1) parts)) known in
    ap (λ fs. fs ++ rest) more ∙ append_assoc mid (flags_of w (leaves (sized index.form)) known) rest
    ∙ ap (λ z. mid ++ index_flags w (targets_of (z ∷ drop (k + 1) parts)) known) (sym kind)
    ∙ ap (λ zs. mid ++ index_flags w (targets_of zs) known) (sym (drop_read parts k x less is))
    ∙ left

pub fixed_part : (parts : List Target) (k : ℕ) (x : Target) (lane : Lane) (written start mid new known : BitTable) (us vs learned : List Touch) (old flags whole : List Bool)
    → k < length parts → x ≡ get_or parts k x → x ≡ Fixed' lane → length written.masks.items ≡ length start.masks.items
    → Leads start mid [] us (bits_of mid) (bits_of mid) × (old ++ index_flags (bits_of written) (targets_of (drop k parts)) (bits_of mid) ≡ whole)
    → Leads mid new us vs (bits_of new) (λ s i. bits_of mid s i || within lane.span s i)
    → known ≡ new → flags ≡ old → learned ≡ vs
    → Leads start known [] learned (bits_of known) (bits_of known)
    × (flags ++ index_flags (bits_of written) (targets_of (drop (k + 1) parts)) (bits_of known) ≡ whole)
fixed_part parts k x lane written start mid new known us vs learned old flags whole less is kind long h g same_known same_flags same_learned =
    let step : Leads start new [] vs (bits_of new) (bits_of new) =
    chain_leads start mid new [] us vs (bits_of mid) (bits_of mid) (bits_of new) (λ s i. bits_of mid s i || within lane.span s i) (bits_of new) (bits_of new)
    h.0 g (λ s i here small. refl) in
    let reads : old ++ index_flags (bits_of written) (targets_of (drop (k + 1) parts)) (bits_of new) ≡ whole =
    fixed_next parts k x lane written mid new us vs old whole less is kind (long ∙ sym h.0.size) g h.1 in (
      subst (λ t. Leads start t [] learned (bits_of t) (bits_of t)) (sym same_known)
          (subst (λ ts. Leads start new [] ts (bits_of new) (bits_of new)) (sym same_learned) step),
      ap₂ (λ fs t. fs ++ index_flags (bits_of written) (targets_of (drop (k + 1) parts)) (bits_of t)) same_flags same_known ∙ reads,
    )

pub moving_part : (parts : List Target) (k : ℕ) (x : Target) (reach : Reach) (index : Typed) (w : Places) (start mid known : BitTable) (us learned : List Touch) (old new flags whole : List Bool)
    → k < length parts → x ≡ get_or parts k x → x ≡ Moving' reach index
    → Leads start mid [] us (bits_of mid) (bits_of mid) × (old ++ index_flags w (targets_of (drop k parts)) (bits_of mid) ≡ whole)
    → new ≡ old ++ flags_of w (leaves (sized index.form)) (bits_of mid)
    → known ≡ mid → flags ≡ new → learned ≡ us
    → Leads start known [] learned (bits_of known) (bits_of known) × (flags ++ index_flags w (targets_of (drop (k + 1) parts)) (bits_of known) ≡ whole)
moving_part parts k x reach index w start mid known us learned old new flags whole less is kind h more same_known same_flags same_learned =
    let reads : new ++ index_flags w (targets_of (drop (k + 1) parts)) (bits_of mid) ≡ whole =
    moving_next parts k x reach index w (bits_of mid) old new whole less is kind more h.1 in (
      subst (λ t. Leads start t [] learned (bits_of t) (bits_of t)) (sym same_known)
          (subst (λ ts. Leads start mid [] ts (bits_of mid) (bits_of mid)) (sym same_learned) h.0),
      ap₂ (λ fs t. fs ++ index_flags w (targets_of (drop (k + 1) parts)) (bits_of t)) same_flags same_known ∙ reads,
    )

-- ---- statements by their kinds

pub assign_is : (parts : Vec Target Global) (e : Typed) → stmt_of (Assign' parts e) ≡ Assign (targets_of parts.items) (sized e.form)
assign_is parts e = ap stmt_of (sym (rolls-Assign parts e)) ∙ fold-roll-Stmt SizedStmt (SizedArms → SizedArms) stmt_step arm_step (Stmt-F.Assign parts e)

pub later_is : (parts : Vec Target Global) (e : Typed) → stmt_of (Later' parts e) ≡ Later (targets_of parts.items) (sized e.form)
later_is parts e = ap stmt_of (sym (rolls-Later parts e)) ∙ fold-roll-Stmt SizedStmt (SizedArms → SizedArms) stmt_step arm_step (Stmt-F.Later parts e)

pub case_is : (e : Typed) (arms : Vec Arm' Global) (otherwise : Box Stmt Global)
    → stmt_of (Case' e arms otherwise) ≡ Case (sized e.form) (arms_before (map arm_of arms.items) (stmt_of otherwise.value))
case_is e arms otherwise =
    ap stmt_of (sym (rolls-Case e arms otherwise)) ∙ fold-roll-Stmt SizedStmt (SizedArms → SizedArms) stmt_step arm_step (Stmt-F.Case e arms otherwise)

pub assign_leads : (k0 k1 k2 : BitTable) (ts us : List Touch) (parts : List SizedTarget) (e : Sized) (st : SizedStmt) → st ≡ Assign parts e
    → bits_of k1 ≡ bits_of k0 → length k1.masks.items ≡ length k0.masks.items
    → Leads k1 k2 ts us (bits_of k2) (λ s i. bits_of k1 s i || certain parts s i)
    → Leads k0 k2 ts us (bits_of k2) (known_after st (bits_of k0))
assign_leads k0 k1 k2 ts us parts e st kind same long h =
    subst (λ z. Leads k0 k2 ts us (bits_of k2) (known_after z (bits_of k0))) (sym kind)
    (leads_as k0 k2 ts us (bits_of k2) (λ s i. bits_of k1 s i || certain parts s i) (λ s i. bits_of k0 s i || certain parts s i)
    (leads_from k0 k1 k2 ts us (bits_of k2) (λ s i. bits_of k1 s i || certain parts s i) same long h)
    (λ s i here small. ap (λ p. p s i || certain parts s i) same))

pub assign_reads : (w : Places) (k0 k1 : BitTable) (f0 f1 f2 : List Bool) (parts : List SizedTarget) (e : Sized) (st : SizedStmt) → st ≡ Assign parts e
    → bits_of k1 ≡ bits_of k0 → f1 ≡ f0 ++ index_flags w parts (bits_of k0) → f2 ≡ f1 ++ flags_of w (leaves e) (bits_of k1)
    → f2 ≡ f0 ++ reads_early w st (bits_of k0)
assign_reads w k0 k1 f0 f1 f2 parts e st kind same first second =
    second ∙ ap₂ (λ fs p. fs ++ flags_of w (leaves e) p) first same
    ∙ append_assoc f0 (index_flags w parts (bits_of k0)) (flags_of w (leaves e) (bits_of k0))
    ∙ ap (λ z. f0 ++ reads_early w z (bits_of k0)) (sym kind)

pub later_reads : (w known : Places) (f0 f1 f2 : List Bool) (parts : List SizedTarget) (e : Sized) (st : SizedStmt) → st ≡ Later parts e
    → f1 ≡ f0 ++ flags_of w (index_leaves parts) known → f2 ≡ f1 ++ flags_of w (leaves e) known
    → f2 ≡ f0 ++ reads_early w st known
later_reads w known f0 f1 f2 parts e st kind first second =
    second ∙ ap (λ fs. fs ++ flags_of w (leaves e) known) first
    ∙ append_assoc f0 (flags_of w (index_leaves parts) known) (flags_of w (leaves e) known)
    ∙ ap (λ z. f0 ++ reads_early w z known) (sym kind)

pub case_reads : (w known : Places) (f0 f1 f2 : List Bool) (e : Sized) (arms : SizedArms) (st : SizedStmt) → st ≡ Case e arms
    → f1 ≡ f0 ++ flags_of w (leaves e) known → f2 ≡ f1 ++ arms_early w arms known → f2 ≡ f0 ++ reads_early w st known
case_reads w known f0 f1 f2 e arms st kind first second =
    second ∙ ap (λ fs. fs ++ arms_early w arms known) first
    ∙ append_assoc f0 (flags_of w (leaves e) known) (arms_early w arms known)
    ∙ ap (λ z. f0 ++ reads_early w z known) (sym kind)

-- the condition, and two branches from tables with the same bits
pub if_reads : (w : Places) (k0 k1 : BitTable) (f0 f1 f2 f3 : List Bool) (c : Sized) (a b st : SizedStmt) → st ≡ If c a b → bits_of k1 ≡ bits_of k0
    → f1 ≡ f0 ++ flags_of w (leaves c) (bits_of k0) → f2 ≡ f1 ++ reads_early w a (bits_of k0) → f3 ≡ f2 ++ reads_early w b (bits_of k1)
    → f3 ≡ f0 ++ reads_early w st (bits_of k0)
if_reads w k0 k1 f0 f1 f2 f3 c a b st kind same first second third =
    let x = flags_of w (leaves c) (bits_of k0) in
    let y = reads_early w a (bits_of k0) in
    let z = reads_early w b (bits_of k0) in
    third ∙ ap₂ (λ fs p. fs ++ reads_early w b p) (second ∙ ap (λ fs. fs ++ y) first) same
    ∙ append_assoc (f0 ++ x) y z ∙ append_assoc f0 x (y ++ z)
    ∙ ap (λ t. f0 ++ reads_early w t (bits_of k0)) (sym kind)

pub if_leads : (k0 k1 k2 k3 : BitTable) (ts us first both : List Touch) (c : Sized) (a b st : SizedStmt) → st ≡ If c a b
    → length k1.masks.items ≡ length k0.masks.items → bits_of k1 ≡ bits_of k0 → length k2.masks.items ≡ length k1.masks.items → bits_of k2 ≡ bits_of k1
    → SameBelow (length k0.masks.items) (λ s i. bits_of k0 s i || touched first s i) (λ s i. bits_of k0 s i || (true && known_after a (bits_of k0) s i))
    → SameBelow (length k1.masks.items) (λ s i. bits_of k1 s i || touched both s i) (λ s i. bits_of k1 s i || (touched first s i && known_after b (bits_of k1) s i))
    → Leads k2 k3 ts us (bits_of k3) (λ s i. bits_of k2 s i || touched both s i)
    → Leads k0 k3 ts us (bits_of k3) (known_after st (bits_of k0))
if_leads k0 k1 k2 k3 ts us first both c a b st kind long same long' same' one two h =
    subst (λ z. Leads k0 k3 ts us (bits_of k3) (known_after z (bits_of k0))) (sym kind)
    (leads_as k0 k3 ts us (bits_of k3) (λ s i. bits_of k2 s i || touched both s i) (λ s i. known_after a (bits_of k0) s i && known_after b (bits_of k0) s i)
    (leads_from k0 k2 k3 ts us (bits_of k3) (λ s i. bits_of k2 s i || touched both s i) (same' ∙ same) (long' ∙ long) h)
    (λ s i here small.
    ap (λ p. p s i || touched both s i) (same' ∙ same)
    ∙ if_same (length k0.masks.items) (bits_of k0) (touched first) (touched both) (known_after a (bits_of k0)) (known_after b (bits_of k0))
    (known_keeps a (bits_of k0)) (known_keeps b (bits_of k0)) one next s i here small))
  where
    next : SameBelow (length k0.masks.items) (λ s i. bits_of k0 s i || touched both s i) (λ s i. bits_of k0 s i || (touched first s i && known_after b (bits_of k0) s i))
    next s i here small =
        ap (λ p. p s i || touched both s i) (sym same)
        ∙ two s i (subst (λ n. s < n) (sym long) here) small
        ∙ ap (λ p. p s i || (touched first s i && known_after b p s i)) same

-- all branches of a case
pub arms_lead : (k0 k1 k2 k3 : BitTable) (ts us both : List Touch) (common all after : Places)
    → length k1.masks.items ≡ length k0.masks.items → bits_of k1 ≡ bits_of k0 → length k2.masks.items ≡ length k1.masks.items → bits_of k2 ≡ bits_of k1
    → ((s i : ℕ) → bits_of k0 s i ≡ true → all s i ≡ true)
    → SameBelow (length k1.masks.items) (λ s i. bits_of k1 s i || touched both s i) (λ s i. bits_of k0 s i || (common s i && after s i))
    → SameBelow (length k0.masks.items) (λ s i. bits_of k0 s i || (common s i && after s i)) (λ s i. bits_of k0 s i || all s i)
    → Leads k2 k3 ts us (bits_of k3) (λ s i. bits_of k2 s i || touched both s i)
    → Leads k0 k3 ts us (bits_of k3) all
arms_lead k0 k1 k2 k3 ts us both common all after long same long' same' keeps last left h =
    leads_as k0 k3 ts us (bits_of k3) (λ s i. bits_of k2 s i || touched both s i) all
    (leads_from k0 k2 k3 ts us (bits_of k3) (λ s i. bits_of k2 s i || touched both s i) (same' ∙ same) (long' ∙ long) h)
    (λ s i here small.
    ap (λ p. p s i || touched both s i) same'
    ∙ last s i (subst (λ n. s < n) (sym long) here) small
    ∙ left s i here small
    ∙ kept (bits_of k0 s i) (all s i) (keeps s i))
  where
    kept : (a b : Bool) → (a ≡ true → b ≡ true) → (a || b) ≡ b
    kept true b h = sym (h refl)
    kept false b h = refl

-- ---- statements one after another

pub known_next : (list : List Stmt) (k : ℕ) (x : Stmt) (mid new : BitTable) (ts us : List Touch) → k < length list → x ≡ get_or list k x
    → Leads mid new ts us (bits_of new) (known_after (stmt_of x) (bits_of mid))
    → SameBelow (length mid.masks.items) (known_after (sequence_of (map stmt_of (drop (k + 1) list))) (bits_of new))
    (known_after (sequence_of (map stmt_of (drop k list))) (bits_of mid))
known_next list k x mid new ts us less is h = λ s i here small.
    known_at (sequence_of (map stmt_of (drop (k + 1) list))) (bits_of new) (known_after (stmt_of x) (bits_of mid)) s i (h.same s i here small)
    ∙ ap (λ zs. known_after (sequence_of (map stmt_of zs)) (bits_of mid) s i) (sym (drop_read list k x less is))

pub reads_next : (list : List Stmt) (k : ℕ) (x : Stmt) (written mid new : BitTable) (ts us : List Touch) (flags more whole : List Bool)
    → k < length list → x ≡ get_or list k x → length written.masks.items ≡ length mid.masks.items
    → Leads mid new ts us (bits_of new) (known_after (stmt_of x) (bits_of mid))
    → more ≡ flags ++ reads_early (bits_of written) (stmt_of x) (bits_of mid)
    → flags ++ reads_early (bits_of written) (sequence_of (map stmt_of (drop k list))) (bits_of mid) ≡ whole
    → more ++ reads_early (bits_of written) (sequence_of (map stmt_of (drop (k + 1) list))) (bits_of new) ≡ whole
reads_next list k x written mid new ts us flags more whole less is long h one left =
    let rest = sequence_of (map stmt_of (drop (k + 1) list)) in
    let w = bits_of written in
    let first = reads_early w (stmt_of x) (bits_of mid) in
    let after = known_after (stmt_of x) (bits_of mid) in
    ap₂ (λ a b. a ++ b) one (reads_same rest w w (bits_of new) after (alike_tables written mid new ts us after long h))
    ∙ append_assoc flags first (reads_early w rest after)
    ∙ ap (λ zs. flags ++ reads_early w (sequence_of (map stmt_of zs)) (bits_of mid)) (sym (drop_read list k x less is))
    ∙ left

-- ---- arms

pub arm_reads_next : (arms : List Arm') (otherwise : SizedStmt) (k : ℕ) (x : Arm') (w known : Places) (flags items more whole : List Bool)
    → k < length arms → x ≡ get_or arms k x
    → items ≡ flags ++ flags_of w (item_leaves (map item_of x.items.items)) known
    → more ≡ items ++ reads_early w (stmt_of x.body) known
    → flags ++ arms_early w (arms_before (map arm_of (drop k arms)) otherwise) known ≡ whole
    → more ++ arms_early w (arms_before (map arm_of (drop (k + 1) arms)) otherwise) known ≡ whole
arm_reads_next arms otherwise k x w known flags items more whole less is first second left =
    let rest = arms_before (map arm_of (drop (k + 1) arms)) otherwise in
    let one = flags_of w (item_leaves (map item_of x.items.items)) known in
    let two = reads_early w (stmt_of x.body) known in
    ap (λ fs. fs ++ arms_early w rest known) (second ∙ ap (λ fs. fs ++ two) first)
    ∙ append_assoc (flags ++ one) two (arms_early w rest known)
    ∙ append_assoc flags one (two ++ arms_early w rest known)
    ∙ ap (λ a. flags ++ arms_early w a known) (sym (arm_is x rest))
    ∙ ap (λ zs. flags ++ arms_early w (arms_before (map arm_of zs) otherwise) known) (sym (drop_read arms k x less is))
    ∙ left

-- what the arms from a place on write, the first of them and the others
pub arm_known : (arms : List Arm') (otherwise : SizedStmt) (k : ℕ) (x : Arm') (known : Places) (s i : ℕ) → k < length arms → x ≡ get_or arms k x
    → known_after_arms (arms_before (map arm_of (drop k arms)) otherwise) known s i
    ≡ (known_after (stmt_of x.body) known s i && known_after_arms (arms_before (map arm_of (drop (k + 1) arms)) otherwise) known s i)
arm_known arms otherwise k x known s i less is =
    let rest = arms_before (map arm_of (drop (k + 1) arms)) otherwise in
    ap (λ zs. known_after_arms (arms_before (map arm_of zs) otherwise) known s i) (drop_read arms k x less is)
    ∙ ap (λ a. known_after_arms a known s i) (arm_is x rest)

pub arms_end : {B : Type 0} (f : SizedArms → B) (arms : List Arm') (otherwise : SizedStmt) (k : ℕ) → length arms ≤ k
    → f (arms_before (map arm_of (drop k arms)) otherwise) ≡ f (arms_before [] otherwise)
arms_end f arms otherwise k past = at_drop_all (λ (zs : List Arm'). f (arms_before (map arm_of zs) otherwise)) arms k past

-- one more arm, walked from a table with the same bits
pub arm_so : (arms : List Arm') (otherwise : SizedStmt) (k : ℕ) (x : Arm') (k0 k1 : BitTable) (both : List Touch) (common all : Places)
    → k < length arms → x ≡ get_or arms k x → length k1.masks.items ≡ length k0.masks.items → bits_of k1 ≡ bits_of k0
    → SameBelow (length k1.masks.items) (λ s i. bits_of k1 s i || touched both s i) (λ s i. bits_of k1 s i || (common s i && known_after (stmt_of x.body) (bits_of k1) s i))
    → SameBelow (length k0.masks.items)
    (λ s i. bits_of k0 s i || (common s i && known_after_arms (arms_before (map arm_of (drop k arms)) otherwise) (bits_of k0) s i)) all
    → SameBelow (length k0.masks.items)
    (λ s i. bits_of k0 s i || (touched both s i && known_after_arms (arms_before (map arm_of (drop (k + 1) arms)) otherwise) (bits_of k0) s i)) all
arm_so arms otherwise k x k0 k1 both common all less is long same one left =
    arm_same (length k0.masks.items) (bits_of k0) (touched both) common (known_after (stmt_of x.body) (bits_of k0))
    (known_after_arms (arms_before (map arm_of (drop (k + 1) arms)) otherwise) (bits_of k0)) all
    (λ s i here small.
    ap (λ p. p s i || touched both s i) (sym same)
    ∙ one s i (subst (λ n. s < n) (sym long) here) small
    ∙ ap (λ p. p s i || (common s i && known_after (stmt_of x.body) p s i)) same)
    (λ s i here small.
    ap (λ b. bits_of k0 s i || (common s i && b)) (sym (arm_known arms otherwise k x (bits_of k0) s i less is)) ∙ left s i here small)
