use Rattle.std.proofs.Common.{◌≡◌, ◌∙◌, List, sym, ap, ap₂, subst}
use Rattle.std.specs.Prelude.{IfOk}
use Rattle.reg_transform.specs.Beginnings.{reset_in}
use Rattle.reg_transform.specs.Carrying.{carried}
use Rattle.reg_transform.specs.Registers.{Register, widths_of}
use Rattle.cycle_eval.specs.Designs.{design_flat}
use Rattle.cycle_eval.specs.Kits.{carried_of, regs_of}
use Rattle.cycle_eval.proofs.Keys.{widths_read}
use Rattle.cycle_eval.proofs.design.Design.carried.Goals as goal

pub carry_state-requires : goal.carry_state-requires
carry_state-requires c = record {
  state = widths_read (design_flat c.args.old.now) c.args.state.now c.requires ∙ ap widths_of (sym c.register_layout.ensures.registers);
}

pub returns : goal.returns
returns c =
    let old = design_flat c.args.old.now in
    let new = design_flat c.args.self.now in
    let ops = c.args.ops.now in
    let state = c.args.state.now in
    let reset = reset_in c.register_layout-2.result.regs in
    let same : carried ops _ _ reset state ≡ carried_of ops old new state =
    ap₂ (λ (f g : List Register). carried ops f g reset state) c.register_layout.ensures.registers c.register_layout-2.ensures.registers
    ∙ ap (λ s. carried ops (regs_of old) (regs_of new) s state) c.register_layout-2.ensures.reset in
    subst (λ z. IfOk c.carry_state.result (λ s. s ≡ z)) same c.carry_state.ensures
