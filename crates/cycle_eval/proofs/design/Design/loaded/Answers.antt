use Rattle.std.proofs.Common.{◌≡◌, ◌++◌, ◌∙◌, ℕ, [], map, length, take, drop, sym, ap, subst, arith}
use Rattle.std.proofs.Math.Logic.{∥∥₁_elim}
use Rattle.std.proofs.Props.{props}
use Rattle.std.proofs.lemmas.List.{length-map}
use Rattle.typed_ir.specs.Cycles.{fill, width_at}
use Rattle.typed_ir.specs.Valuations.{look}
use Rattle.typed_ir.proofs.Lists.{written_back}
use Rattle.design_steps.specs.Programs.{IsAt, values_in}
use Rattle.design_steps.proofs.Beginning.{fill_none}
use Rattle.reg_transform.specs.States.{state_values}
use Rattle.cycle_eval.specs.Designs.{design_flat}
use Rattle.cycle_eval.proofs.Laws.{fill_back}
use Rattle.cycle_eval.proofs.Loads.{fill_look}
use Rattle.cycle_eval.proofs.design.Design.loaded.Goals as goal

pub load-requires-clause-long : goal.load-requires-clause-long
load-requires-clause-long c = ap length c.deref_mut.ensures.value ∙ c.in_ok-words.ensures.long

pub returns-clause-long : goal.returns-clause-long
returns-clause-long c =
    let words = c.in_ok-words.words in
    ap length (written_back words.len c.load.new.words words.items (omega (arith, c.load.auto.words, ap length c.deref_mut.ensures.value))
    (omega (arith, c.load.auto.words, c.deref_mut.ensures.len)))
    ∙ c.load.auto.words ∙ ap length c.deref_mut.ensures.value ∙ c.in_ok-words.ensures.long

pub returns-clause-ready : goal.returns-clause-ready
returns-clause-ready c =
    let self = c.args.self.now in
    let p = self.program in
    let l = self.linked in
    let flat = design_flat self in
    let rs = l.design.registers.items in
    let xs = state_values c.args.from.now in
    let words = c.in_ok-words.words in
    let first = c.deref_mut.result.now in
    let begins : IsAt p l [] [] first = subst (IsAt p l [] []) (sym c.deref_mut.ensures.value) c.in_ok-words.ensures.ready in
    let none = fill flat.inputs [] (λ (s : ℕ). 0) in
    let whole : take words.len (c.load.new.words ++ drop (length c.load.new.words) words.items) ≡ c.load.new.words =
    written_back words.len c.load.new.words words.items (omega (arith, c.load.auto.words, ap length c.deref_mut.ensures.value))
    (omega (arith, c.load.auto.words, c.deref_mut.ensures.len)) in
    subst (IsAt p l xs []) (sym whole) (record {
      ready = c.load.ensures.held begins.ready;
      based = λ s i free. ap (λ v. look v s i) c.load.ensures.value
          ∙ fill_look rs xs (values_in p first) none s i (begins.based s i free ∙ ap (λ v. look v s i) (fill_none rs none));
    })

pub returns-clause-registers : goal.returns-clause-registers
returns-clause-registers c =
    let self = c.args.self.now in
    let p = self.program in
    let rs = self.linked.design.registers.items in
    let from = c.args.from.now in
    let xs = state_values from in
    let words = c.in_ok-words.words in
    let first = c.deref_mut.result.now in
    let whole : take words.len (c.load.new.words ++ drop (length c.load.new.words) words.items) ≡ c.load.new.words =
    written_back words.len c.load.new.words words.items (omega (arith, c.load.auto.words, ap length c.deref_mut.ensures.value))
    (omega (arith, c.load.auto.words, c.deref_mut.ensures.len)) in
    let count : length xs ≡ length rs =
    length-map from (λ (q : ℕ × ℕ). q.1) ∙ sym (length-map from (λ (q : ℕ × ℕ). q.0)) ∙ ap length c.requires ∙ length-map rs (width_at (design_flat self)) in
    ap (λ ws. map (values_in p ws) rs) whole ∙ ap (λ v. map v rs) c.load.ensures.value
    ∙ ∥∥₁_elim self.linked.design.sound (hlevel props) (λ f. fill_back rs xs (values_in p first) f.registers_once count)
