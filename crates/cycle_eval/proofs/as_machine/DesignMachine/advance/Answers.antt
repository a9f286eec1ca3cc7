use Rattle.std.proofs.Common.{◌≡◌, ◌<◌, ◌∙◌, [], map, length, sym, ap, subst, arith}
use Rattle.std.specs.Prelude.{IfOk}
use Rattle.machine.specs.Rows.{between}
use Rattle.state_layout.specs.Words.{register_widths}
use Rattle.typed_ir.proofs.Lists.{written_back}
use Rattle.design_steps.specs.Programs.{AreHeld, IsAt, values_in}
use Rattle.reg_transform.specs.States.{paired, state_values}
use Rattle.cycle_eval.specs.Designs.{design_flat}
use Rattle.cycle_eval.specs.Kits.{driven, run_of}
use Rattle.cycle_eval.proofs.Laws.{run_is, between_length}
use Rattle.cycle_eval.proofs.as_machine.DesignMachine.advance.Goals as goal

pub run-requires-clause-long : goal.run-requires-clause-long
run-requires-clause-long g c = ap length c.deref_mut.ensures.value ∙ c.in_ok-words.ensures.long

pub state_of-requires-clause-long : goal.state_of-requires-clause-long
state_of-requires-clause-long g c =
    let words = c.in_ok-words.words in
    ap length (c.deref.ensures.value ∙ written_back words.len c.run.new.words words.items
    (omega (arith, c.run.auto.words, ap length c.deref_mut.ensures.value)) (omega (arith, c.run.auto.words, c.deref_mut.ensures.len)))
    ∙ c.run.auto.words ∙ ap length c.deref_mut.ensures.value ∙ c.in_ok-words.ensures.long

pub state_of-requires-clause-held : goal.state_of-requires-clause-held
state_of-requires-clause-held g c =
    let self = c.args.self.now in
    let p = self.program in
    let l = self.linked in
    let rs = l.design.registers.items in
    let xs = state_values c.args.from.now in
    let words = c.in_ok-words.words in
    let whole : c.deref.result.now ≡ c.run.new.words =
    c.deref.ensures.value ∙ written_back words.len c.run.new.words words.items
    (omega (arith, c.run.auto.words, ap length c.deref_mut.ensures.value)) (omega (arith, c.run.auto.words, c.deref_mut.ensures.len)) in
    let ready : IsAt p l xs [] c.deref_mut.result.now = subst (IsAt p l xs []) (sym c.deref_mut.ensures.value) c.in_ok-words.ensures.ready in
    let start : map (values_in p c.deref_mut.result.now) rs ≡ xs = ap (λ ws. map (values_in p ws) rs) c.deref_mut.ensures.value ∙ c.in_ok-words.ensures.registers in
    subst (AreHeld p l) (sym whole) (c.run.ensures.held xs [] ready start)

pub returns-clause-value : goal.returns-clause-value
returns-clause-value g c =
    let self = c.args.self.now in
    let flat = design_flat self in
    let p = self.program in
    let l = self.linked in
    let rs = l.design.registers.items in
    let from = c.args.from.now in
    let xs = state_values from in
    let words = c.in_ok-words.words in
    let whole : c.deref.result.now ≡ c.run.new.words =
    c.deref.ensures.value ∙ written_back words.len c.run.new.words words.items
    (omega (arith, c.run.auto.words, ap length c.deref_mut.ensures.value)) (omega (arith, c.run.auto.words, c.deref_mut.ensures.len)) in
    let ready : IsAt p l xs [] c.deref_mut.result.now = subst (IsAt p l xs []) (sym c.deref_mut.ensures.value) c.in_ok-words.ensures.ready in
    let start : map (values_in p c.deref_mut.result.now) rs ≡ xs = ap (λ ws. map (values_in p ws) rs) c.deref_mut.ensures.value ∙ c.in_ok-words.ensures.registers in
    let rows = between c.args.rows.now c.args.a c.args.b in
    let ends : map (values_in p c.run.new.words) rs ≡ driven flat rows xs = c.run.ensures.value xs [] ready start in
    let some : 0 < length rows =
    omega (arith, between_length c.args.rows.now c.args.a c.args.b c.requires.covers, c.requires.covers.rises, c.if-a-b.false) in
    let same : paired (register_widths flat) (map (values_in p c.deref.result.now) rs) ≡ run_of flat rows from =
    ap (λ ws. paired (register_widths flat) (map (values_in p ws) rs)) whole ∙ ap (paired (register_widths flat)) ends
    ∙ run_is flat rows from some in
    subst (λ z. IfOk c.state_of.result (λ s. s ≡ z)) same c.state_of.ensures
