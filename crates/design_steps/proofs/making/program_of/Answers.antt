use Rattle.std.proofs.Common.{subst, sym, ap, ◌∙◌, arith, true, ◌≡◌, map, length, rules}
use Rattle.typed_ir.specs.Statements.{stmt_of, sequence_of}
use Rattle.design_steps.specs.Statements.{stmt_code}
use Rattle.design_steps.specs.Nodes.{nodes_code}
use Rattle.design_steps.specs.Views.{plan_of}
use Rattle.design_steps.specs.declared.program.Program.{Program}
use Rattle.design_steps.specs.Layings.{LaysOut, clocking_plan, mark_of}
use Rattle.design_steps.specs.Moves.{moved_step, gathered}
use Rattle.design_steps.specs.Places.{are_placed}
use Rattle.design_steps.specs.Programs.{kept_nodes}
use Rattle.design_steps.proofs.Made.{made}
use Rattle.design_steps.proofs.making.program_of.Goals as goal

pub returns : goal.returns
returns c =
    let l = c.args.linked.now in
    let p : Program = record {
      layout = c.clocking_of.new.layout;
      places = c.in_ok-places.places;
      settling = c.in_ok-settling.settling;
      clocking = c.in_ok-clocking.clocking;
      beginning = c.in_ok-beginning.beginning;
    } in
    let mark = c.in_ok-mark.mark in
    let count : c.len.result ≡ length l.design.signals.items = search (rules, c.len.ensures) in
    let table = p.places.items in
    let same : c.in_ok-layout.layout ≡ c.clocking_of.new.layout = sym c.in_ok-clocking.ensures.layout in
    made p l mark c.greatest_of-last.result (subst (λ x. LaysOut x l.design) same c.in_ok-layout.ensures) (c.in_ok-mark.ensures ∙ ap mark_of same) (c.in_ok-places.ensures ∙ ap (gathered c.len.result) c.deref.ensures.value ∙ ap (λ n. gathered n l.design.registers.items) count)
    (c.in_ok-settling.ensures ∙ ap (λ q. map (moved_step q) (nodes_code (plan_of c.in_ok-layout.layout) (kept_nodes c.in_ok-layout.layout l) mark)) c.deref-2.ensures.value
    ∙ ap (λ x. map (moved_step table) (nodes_code (plan_of x) (kept_nodes x l) mark)) same)
    (c.in_ok-clocking.ensures.steps
    ∙ ap (λ q. map (moved_step q) (stmt_code (clocking_plan c.in_ok-layout.layout) (sequence_of (map stmt_of l.design.clocked.items)) mark)) c.deref-3.ensures.value
    ∙ ap (λ x. map (moved_step table) (stmt_code (clocking_plan x) (sequence_of (map stmt_of l.design.clocked.items)) mark)) same)
    (λ n h. subst (λ steps. are_placed n steps ≡ true) c.deref-5.ensures.value
    (c.greatest_of.ensures.placed n (omega (arith, h, c.greatest_of-last.ensures.least))))
    (λ n h. subst (λ steps. are_placed n steps ≡ true) c.deref-4.ensures.value (c.greatest_of-last.ensures.placed n h))
    (omega (arith, c.greatest_of.ensures.least, c.greatest_of-last.ensures.least)) c.in_ok-beginning.ensures
