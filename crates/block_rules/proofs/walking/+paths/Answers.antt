use Rattle.std.proofs.Common.{Bool, List, ◌≡◌, ◌++◌, ◌||◌, ◌&&◌, ◌<◌, ◌∙◌, ◌+◌, map, drop, ap, ap₂, sym, subst}
use Rattle.std.proofs.lemmas.Result.{IfOk-weaker}
use Rattle.typed_ir.specs.Stmts.{Assign, Later, If, Case, certain, known_after, known_after_arms}
use Rattle.typed_ir.specs.Forms.{sized}
use Rattle.typed_ir.specs.Targets.{targets_of}
use Rattle.typed_ir.specs.Statements.{stmt_of, arm_of, item_of, sequence_of, arms_before}
use Rattle.typed_ir.proofs.Listed.{if_is}
use Rattle.block_rules.specs.Paths.{item_leaves, flags_of, reads_early, arms_early}
use Rattle.block_rules.specs.Tables.{size, bits_of, Leads, common_of}
use Rattle.typed_ir.specs.Touches.{touched}
use Rattle.block_rules.proofs.Knowing.{known_arms_keep}
use Rattle.block_rules.proofs.Leading.{then_leads}
use Rattle.block_rules.proofs.Listing.{assign_is, later_is, assign_leads, assign_reads, later_reads, case_is, if_leads, if_reads, case_reads, known_next, reads_next, arm_so, arm_reads_next, arms_lead, arms_end}
use Rattle.block_rules.proofs.walking.+paths.Goals as goal

pub walk-returns-in_ok-flag_form-in-Assign-clause-known : goal.walk-returns-in_ok-flag_form-in-Assign-clause-known
walk-returns-in_ok-flag_form-in-Assign-clause-known t c =
    let node = c.in-Assign in
    let k0 = c.args.known.now in
    let k1 = c.flag_parts.new.known in
    let k2 = c.learn_parts.new.table in
    let old = c.args.learned.now.items in
    let new = c.learn_parts.new.learned.items in
    let st = stmt_of c.args.st.now in
    let parts = targets_of c.deref-in-Assign.result.now in
    let kind : st ≡ Assign parts (sized node.value.form) =
    ap stmt_of node.is ∙ assign_is node.targets node.value
    ∙ ap (λ ts. Assign (targets_of ts) (sized node.value.form)) (sym c.deref-in-Assign.ensures.value) in
    IfOk-weaker c.learn_parts.result (λ _. Leads k1 k2 old new (bits_of k2) (λ s i. bits_of k1 s i || certain parts s i))
    (λ _. Leads k0 k2 old new (bits_of k2) (known_after st (bits_of k0)))
    (λ _ h. assign_leads k0 k1 k2 old new parts (sized node.value.form) st kind
    c.in_ok-flag_parts-in-Assign.ensures.known c.in_ok-flag_parts-in-Assign.ensures.size h)
    c.learn_parts.ensures

pub walk-returns-in_ok-flag_form-in-Assign-clause-flags : goal.walk-returns-in_ok-flag_form-in-Assign-clause-flags
walk-returns-in_ok-flag_form-in-Assign-clause-flags t c =
    let node = c.in-Assign in
    let w = bits_of c.args.written.now in
    let k0 = c.args.known.now in
    let st = stmt_of c.args.st.now in
    let parts = targets_of c.deref.result.now in
    let kind : st ≡ Assign parts (sized node.value.form) =
    ap stmt_of node.is ∙ assign_is node.targets node.value
    ∙ ap (λ ts. Assign (targets_of ts) (sized node.value.form)) (sym c.deref.ensures.value) in
    let whole : c.flag_form.new.flags.items ≡ c.args.flags.now.items ++ reads_early w st (bits_of k0) =
    assign_reads w k0 c.flag_parts.new.known c.args.flags.now.items c.flag_parts.new.flags.items c.flag_form.new.flags.items parts (sized node.value.form) st kind
    c.in_ok-flag_parts-in-Assign.ensures.known c.in_ok-flag_parts-in-Assign.ensures.flags c.in_ok-flag_form-in-Assign.ensures in
    IfOk-weaker c.learn_parts.result (λ _. Leads c.flag_parts.new.known c.learn_parts.new.table c.args.learned.now.items c.learn_parts.new.learned.items (bits_of c.learn_parts.new.table)
    (λ s i. bits_of c.flag_parts.new.known s i || certain (targets_of c.deref-in-Assign.result.now) s i))
    (λ _. c.flag_form.new.flags.items ≡ c.args.flags.now.items ++ reads_early w st (bits_of k0)) (λ _ _. whole) c.learn_parts.ensures

pub walk-returns-in_ok-flag_indices-in-Later-clause-flags : goal.walk-returns-in_ok-flag_indices-in-Later-clause-flags
walk-returns-in_ok-flag_indices-in-Later-clause-flags t c =
    let node = c.in-Later in
    let w = bits_of c.args.written.now in
    let known = bits_of c.args.known.now in
    let st = stmt_of c.args.st.now in
    let parts = targets_of c.deref-in-Later.result.now in
    let kind : st ≡ Later parts (sized node.value.form) =
    ap stmt_of node.is ∙ later_is node.targets node.value
    ∙ ap (λ ts. Later (targets_of ts) (sized node.value.form)) (sym c.deref-in-Later.ensures.value) in
    IfOk-weaker c.flag_form-in-Later.result _ (λ _. c.flag_form-in-Later.new.flags.items ≡ c.args.flags.now.items ++ reads_early w st known)
    (λ _ more. later_reads w known c.args.flags.now.items c.flag_indices.new.flags.items c.flag_form-in-Later.new.flags.items parts (sized node.value.form) st kind
    c.in_ok-flag_indices-in-Later.ensures more)
    c.flag_form-in-Later.ensures

pub walk-returns-in_ok-both-in-If-clause-known : goal.walk-returns-in_ok-both-in-If-clause-known
walk-returns-in_ok-both-in-If-clause-known t c =
    let node = c.in-If in
    let k0 = c.args.known.now in
    let k1 = c.branch-alloc.new.known in
    let k2 = c.branch-alloc-in-If.new.known in
    let k3 = c.learn_all.new.table in
    let old = c.args.learned.now.items in
    let new = c.learn_all.new.learned.items in
    let first = c.in_ok-first-in-If.first.items in
    let both = c.in_ok-both-in-If.both.items in
    let one = stmt_of c.deref-in-If.result.now in
    let two = stmt_of c.deref-in-If-2.result.now in
    let st = stmt_of c.args.st.now in
    let condition = sized node.condition.form in
    let kind : st ≡ If condition one two =
    ap stmt_of node.is ∙ if_is node.condition node.consequent node.alternative
    ∙ ap₂ (λ x y. If condition (stmt_of x) (stmt_of y)) (sym c.deref-in-If.ensures) (sym c.deref-in-If-2.ensures) in
    IfOk-weaker c.learn_all.result (λ _. Leads k2 k3 old new (bits_of k3) (λ s i. bits_of k2 s i || touched c.deref-in-If-3.result.now s i))
    (λ _. Leads k0 k3 old new (bits_of k3) (known_after st (bits_of k0)))
    (λ _ h. if_leads k0 k1 k2 k3 old new first both condition one two st kind
    c.in_ok-first-in-If.ensures.size c.in_ok-first-in-If.ensures.known c.in_ok-both-in-If.ensures.size c.in_ok-both-in-If.ensures.known
    c.in_ok-first-in-If.ensures.common c.in_ok-both-in-If.ensures.common
    (subst (λ ts. Leads k2 k3 old new (bits_of k3) (λ s i. bits_of k2 s i || touched ts s i)) c.deref-in-If-3.ensures.value h))
    c.learn_all.ensures

pub walk-returns-in_ok-both-in-If-clause-flags : goal.walk-returns-in_ok-both-in-If-clause-flags
walk-returns-in_ok-both-in-If-clause-flags t c =
    let node = c.in-If in
    let w = bits_of c.args.written.now in
    let k0 = c.args.known.now in
    let k2 = c.branch-alloc-in-If.new.known in
    let k3 = c.learn_all.new.table in
    let one = stmt_of c.deref-in-If.result.now in
    let two = stmt_of c.deref-in-If-2.result.now in
    let st = stmt_of c.args.st.now in
    let condition = sized node.condition.form in
    let kind : st ≡ If condition one two =
    ap stmt_of node.is ∙ if_is node.condition node.consequent node.alternative
    ∙ ap₂ (λ x y. If condition (stmt_of x) (stmt_of y)) (sym c.deref-in-If.ensures) (sym c.deref-in-If-2.ensures) in
    let whole : c.branch-alloc-in-If.new.flags.items ≡ c.args.flags.now.items ++ reads_early w st (bits_of k0) =
    if_reads w k0 c.branch-alloc.new.known c.args.flags.now.items c.flag_form-in-If.new.flags.items c.branch-alloc.new.flags.items c.branch-alloc-in-If.new.flags.items
    condition one two st kind c.in_ok-first-in-If.ensures.known c.in_ok-flag_form-in-If.ensures c.in_ok-first-in-If.ensures.flags c.in_ok-both-in-If.ensures.flags in
    IfOk-weaker c.learn_all.result
    (λ _. Leads k2 k3 c.args.learned.now.items c.learn_all.new.learned.items (bits_of k3) (λ s i. bits_of k2 s i || touched c.deref-in-If-3.result.now s i))
    (λ _. c.branch-alloc-in-If.new.flags.items ≡ c.args.flags.now.items ++ reads_early w st (bits_of k0)) (λ _ _. whole) c.learn_all.ensures

pub walk-returns-in_ok-flag_form-in-Case-clause-flags : goal.walk-returns-in_ok-flag_form-in-Case-clause-flags
walk-returns-in_ok-flag_form-in-Case-clause-flags t c =
    let node = c.in-Case in
    let w = bits_of c.args.written.now in
    let known = bits_of c.args.known.now in
    let st = stmt_of c.args.st.now in
    let subject = sized node.subject.form in
    let arms = arms_before (map arm_of c.deref-in-Case.result.now) (stmt_of c.deref-in-Case-2.result.now) in
    let f1 = c.flag_form-in-Case.new.flags.items in
    let f2 = c.walk_arms.new.flags.items in
    let kind : st ≡ Case subject arms =
    ap stmt_of node.is ∙ case_is node.subject node.arms node.otherwise
    ∙ ap₂ (λ xs y. Case subject (arms_before (map arm_of xs) (stmt_of y))) (sym c.deref-in-Case.ensures.value) (sym c.deref-in-Case-2.ensures) in
    IfOk-weaker c.walk_arms.result (λ _. f2 ≡ f1 ++ arms_early w arms known) (λ _. f2 ≡ c.args.flags.now.items ++ reads_early w st known)
    (λ _ more. case_reads w known c.args.flags.now.items f1 f2 subject arms st kind c.in_ok-flag_form-in-Case.ensures more)
    c.walk_arms.ensures.flags

pub walk_all-loop-st-preserved : goal.walk_all-loop-st-preserved
walk_all-loop-st-preserved t c =
    let list = c.args.list.now in
    let k = c.loop-st.st-index in
    let x = c.st-item.result in
    let written = c.args.written.now in
    let k0 = c.args.known.now in
    let mid = c.loop-st.known in
    let new = c.walk.new.known in
    let ts = c.loop-st.learned.items in
    let us = c.walk.new.learned.items in
    let step = c.in_ok-walk.ensures.known in (
      then_leads k0 mid new c.args.learned.now.items ts us (known_after (sequence_of (map stmt_of (drop k list))) (bits_of mid))
          (known_after (sequence_of (map stmt_of list)) (bits_of k0)) (bits_of new) (known_after (stmt_of x) (bits_of mid))
          (known_after (sequence_of (map stmt_of (drop (k + 1) list))) (bits_of new)) c.loop-st.invariant.0 step
          (λ s i here small. known_next list k x mid new ts us c.loop-st-test.true c.st-item.is step s i (subst (λ n. s < n) (sym c.loop-st.invariant.0.size) here) small),
      reads_next list k x written mid new ts us c.loop-st.flags.items c.walk.new.flags.items
          (c.args.flags.now.items ++ reads_early (bits_of written) (sequence_of (map stmt_of list)) (bits_of k0))
          c.loop-st-test.true c.st-item.is (c.requires ∙ sym c.loop-st.invariant.0.size) step c.in_ok-walk.ensures.flags c.loop-st.invariant.1,
    )

pub walk_arms-loop-arm-preserved : goal.walk_arms-loop-arm-preserved
walk_arms-loop-arm-preserved t c =
    let arms = c.args.arms.now in
    let otherwise = stmt_of c.args.otherwise.now in
    let k = c.loop-arm.arm-index in
    let x = c.arm-item.result in
    let w = bits_of c.args.written.now in
    let k0 = c.args.known.now in
    let k1 = c.loop-arm.known in
    let same = c.loop-arm.invariant.1 in
    let all = arms_before (map arm_of arms) otherwise in
    let long : size c.branch-alloc.new.known ≡ size k0 = c.in_ok-branch.ensures.size ∙ c.loop-arm.invariant.0 in
    let bits : bits_of c.branch-alloc.new.known ≡ bits_of k0 = c.in_ok-branch.ensures.known ∙ same in
    let items : c.flag_items.new.flags.items ≡ c.loop-arm.flags.items ++ flags_of w (item_leaves (map item_of x.items.items)) (bits_of k0) =
    ◌∙◌ {A = List Bool} c.in_ok-flag_items.ensures (ap₂ (λ xs p. c.loop-arm.flags.items ++ flags_of w (item_leaves (map item_of xs)) p) c.deref.ensures.value same) in
    let body : c.branch-alloc.new.flags.items ≡ c.flag_items.new.flags.items ++ reads_early w (stmt_of x.body) (bits_of k0) =
    ◌∙◌ {A = List Bool} c.in_ok-branch.ensures.flags (ap (λ p. c.flag_items.new.flags.items ++ reads_early w (stmt_of x.body) p) same) in (
      long,
      bits,
      arm_so arms otherwise k x k0 k1 c.in_ok-branch.field-0.items (common_of c.loop-arm.common)
          (λ s i. bits_of k0 s i || known_after_arms all (bits_of k0) s i) c.loop-arm-test.true c.arm-item.is c.loop-arm.invariant.0 same
          c.in_ok-branch.ensures.common c.loop-arm.invariant.2,
      arm_reads_next arms otherwise k x w (bits_of k0) c.loop-arm.flags.items c.flag_items.new.flags.items c.branch-alloc.new.flags.items
          (c.args.flags.now.items ++ arms_early w all (bits_of k0)) c.loop-arm-test.true c.arm-item.is items body c.loop-arm.invariant.3,
    )

pub walk_arms-returns-clause-known : goal.walk_arms-returns-clause-known
walk_arms-returns-clause-known t c =
    let arms = c.args.arms.now in
    let otherwise = stmt_of c.args.otherwise.now in
    let k0 = c.args.known.now in
    let k1 = c.loop-arm.known in
    let k2 = c.branch-alloc-2.new.known in
    let k3 = c.learn_all.new.table in
    let old = c.args.learned.now.items in
    let new = c.learn_all.new.learned.items in
    let both = c.in_ok-all.all.items in
    let common = common_of c.loop-arm.common in
    let all = arms_before (map arm_of arms) otherwise in
    let same = c.loop-arm.invariant.1 in
    IfOk-weaker c.learn_all.result (λ _. Leads k2 k3 old new (bits_of k3) (λ s i. bits_of k2 s i || touched c.deref-2.result.now s i))
    (λ _. Leads k0 k3 old new (bits_of k3) (known_after_arms all (bits_of k0)))
    (λ _ h. arms_lead k0 k1 k2 k3 old new both common (known_after_arms all (bits_of k0)) (known_after otherwise (bits_of k0))
    c.loop-arm.invariant.0 same c.in_ok-all.ensures.size c.in_ok-all.ensures.known (known_arms_keep all (bits_of k0))
    (λ s i here small. c.in_ok-all.ensures.common s i here small ∙ ap (λ p. p s i || (common s i && known_after otherwise p s i)) same)
    (λ s i here small.
    sym (arms_end (λ a. bits_of k0 s i || (common s i && known_after_arms a (bits_of k0) s i)) arms otherwise c.loop-arm.arm-index c.loop-arm-test.false)
    ∙ c.loop-arm.invariant.2 s i here small)
    (subst (λ ts. Leads k2 k3 old new (bits_of k3) (λ s i. bits_of k2 s i || touched ts s i)) c.deref-2.ensures.value h))
    c.learn_all.ensures
