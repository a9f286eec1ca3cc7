use Rattle.std.proofs.Common.{◌≡◌, ◌++◌, ◌∙◌, ℕ, List, [], Result, Ok, Err, OnOk, IfErr, map, length, ap, ap₂, sym, subst}
use Rattle.std.proofs.lemmas.Result.{IfErr-weaker, on_ok_weaker}
use Rattle.ls_text.specs.declared.fault.Fault.{Fault}
use Rattle.ls_text.specs.declared.refusal.Refusal.{Refusal}
use Rattle.typed_ir.specs.Statements.{stmt_of}
use Rattle.typed_ir.specs.declared.mention.Mention.{Mention}
use Rattle.typed_ir.specs.Units.{signal_within}
use Rattle.width_rules.specs.Faults.{IsFirst}
use Rattle.width_rules.proofs.Firsts.{later, neither}
use Rattle.typed_ir.specs.Orders.{is_member}
use Rattle.block_rules.specs.Paths.{unwritten, AreHere}
use Rattle.driver_rules.specs.Mentioned.{earliest, shown_faults}
use Rattle.driver_rules.specs.Blocks.{first_declared, latched, read_faults, latch_faults}
use Rattle.driver_rules.proofs.Declared.{unwritten_here, first_same}
use Rattle.driver_rules.proofs.pathing.check_block.Goals as goal

pub paths_of-requires : goal.paths_of-requires
paths_of-requires c = record {
  blank = c.requires.blank;
  here = subst (λ (n : ℕ). AreHere n (stmt_of c.args.st.now)) (sym c.requires.size) c.requires.here;
}

pub first_declared-latch-requires : goal.first_declared-latch-requires
first_declared-latch-requires c = λ s h.
    unwritten_here (length c.args.declarations.now) (stmt_of c.args.st.now) s c.requires.here
    (sym (ap (is_member s) c.deref-3.ensures.value ∙ c.in_ok-paths.ensures.unwritten s) ∙ h)

pub returns-clause-faultless : goal.returns-clause-faultless
returns-clause-faultless c =
    let st = stmt_of c.args.st.now in
    let ds = c.args.declarations.now in
    let at = c.args.places.now.at in
    let signals = map signal_within c.args.signals.now in
    let reads : shown_faults 36 c.earliest-early.result ≡ read_faults c.args.places.now.reads.items at st =
    ap (shown_faults 36) (c.earliest-early.ensures
    ∙ ap₂ (λ (ns : List ℕ) (ms : List Mention). earliest ns ms at) (c.deref.ensures.value ∙ c.in_ok-paths.ensures.early) c.deref-2.ensures.value) in
    let latch : latched signals at c.first_declared-latch.result ≡ latch_faults signals ds at st =
    ap (latched signals at) (c.first_declared-latch.ensures
    ∙ first_same ds (λ s. is_member s c.deref-3.result.now) (unwritten st) (length ds)
    (λ s. ap (is_member s) c.deref-3.ensures.value ∙ c.in_ok-paths.ensures.unwritten s)) in
    on_ok_weaker {P = latched signals at c.first_declared-latch.result ≡ []} {Q = read_faults c.args.places.now.reads.items at st ++ latch_faults signals ds at st ≡ []}
    c.check_latch.result
    (λ none. neither (read_faults c.args.places.now.reads.items at st) (latch_faults signals ds at st) (sym reads ∙ c.in_ok-check_shown.ensures.faultless) (sym latch ∙ none))
    c.check_latch.ensures.faultless

pub returns-clause-fault : goal.returns-clause-fault
returns-clause-fault c =
    let st = stmt_of c.args.st.now in
    let ds = c.args.declarations.now in
    let at = c.args.places.now.at in
    let signals = map signal_within c.args.signals.now in
    let reads : shown_faults 36 c.earliest-early.result ≡ read_faults c.args.places.now.reads.items at st =
    ap (shown_faults 36) (c.earliest-early.ensures
    ∙ ap₂ (λ (ns : List ℕ) (ms : List Mention). earliest ns ms at) (c.deref.ensures.value ∙ c.in_ok-paths.ensures.early) c.deref-2.ensures.value) in
    let latch : latched signals at c.first_declared-latch.result ≡ latch_faults signals ds at st =
    ap (latched signals at) (c.first_declared-latch.ensures
    ∙ first_same ds (λ s. is_member s c.deref-3.result.now) (unwritten st) (length ds)
    (λ s. ap (is_member s) c.deref-3.ensures.value ∙ c.in_ok-paths.ensures.unwritten s)) in
    IfErr-weaker c.check_latch.result (IsFirst (latched signals at c.first_declared-latch.result))
    (IsFirst (read_faults c.args.places.now.reads.items at st ++ latch_faults signals ds at st))
    (λ r first. later (read_faults c.args.places.now.reads.items at st) (latch_faults signals ds at st) r (sym reads ∙ c.in_ok-check_shown.ensures.faultless)
    (subst (λ (fs : List Fault). IsFirst fs r) latch first))
    c.check_latch.ensures.fault
