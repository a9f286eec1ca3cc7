use Rattle.std.proofs.Common.{◌≡◌, ◌∙◌, ℕ, List, sym, ap, subst}
use Rattle.std.specs.Prelude.{IfOk}
use Rattle.reg_transform.specs.Beginnings.{initials_in, reset_in}
use Rattle.reg_transform.specs.Carrying.{carried, carried_each, value_of}
use Rattle.reg_transform.specs.Found.{Key, value_in}
use Rattle.reg_transform.specs.Numbers.{carried_by, numbers_in, value_by}
use Rattle.reg_transform.specs.PathNumbers.{NumberPaths}
use Rattle.reg_transform.specs.Regs.{registers_in}
use Rattle.reg_transform.specs.States.{state_values}
use Rattle.reg_transform.proofs.Values.{Parts, all_carried, begun_values}
use Rattle.reg_transform.proofs.carrying.carry_state.Goals as goal

pub returns : goal.returns
returns c =
    let f = c.args.old.now.regs in
    let g = c.args.new.now.regs in
    let ops = c.args.ops.now in
    let olds = c.in_ok-numbers.numbers.old.items in
    let news = c.in_ok-numbers.numbers.new.items in
    let by_key = value_in c.in_ok-values.values in
    let xs = state_values c.args.state.now in
    let is = initials_in g in
    let n : NumberPaths olds f.instances.now.rows.items news g.instances.now.rows.items = c.in_ok-numbers.ensures in
    let before : Parts = record { rows = f.instances.now.rows.items; signals = f.signals.now; ids = f.registers.now; there = f.registers_there; within = f.signals_there } in
    let after : Parts = record { rows = g.instances.now.rows.items; signals = g.signals.now; ids = g.registers.now; there = g.registers_there; within = g.signals_there } in
    let held : (key : Key) → by_key key ≡ value_by (numbers_in olds f) (registers_in f) xs key =
    λ key. c.in_ok-values.ensures key ∙ ap (λ (ns : List ℕ). value_by (numbers_in ns f) (registers_in f) xs key) c.deref.ensures.value in
    let same : carried_by ops by_key (numbers_in c.deref-2.result.now g) (registers_in g) is ≡ carried ops (registers_in f) (registers_in g) (reset_in g) c.args.state.now =
    ap (λ (ns : List ℕ). carried_by ops by_key (numbers_in ns g) (registers_in g) is) c.deref-2.ensures.value
    ∙ all_carried ops by_key before after olds news xs is n held
    ∙ sym (ap (carried_each ops (value_of (registers_in f) xs) (registers_in g)) (begun_values g.signals.now g.registers.now)) in
    subst (λ z. IfOk c.carried_into.result (λ s. s ≡ z)) same c.carried_into.ensures
