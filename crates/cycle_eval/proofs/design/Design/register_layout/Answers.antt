use Rattle.std.proofs.Common.{◌∙◌, ℕ, List, map, sym, ap₂}
use Rattle.typed_ir.specs.declared.signal.Signal.{Signal}
use Rattle.typed_ir.specs.Paths.{paths_of}
use Rattle.state_layout.specs.Words.{width_in}
use Rattle.reg_transform.specs.Beginnings.{initial_in}
use Rattle.reg_transform.specs.Registers.{widths_of}
use Rattle.reg_transform.specs.Regs.{register_at}
use Rattle.reg_transform.specs.States.{paired}
use Rattle.reg_transform.proofs.Elements.{widths_are}
use Rattle.cycle_eval.proofs.Keys.{begun, register_widths_are, regs_are}
use Rattle.cycle_eval.proofs.design.Design.register_layout.Goals as goal

pub returns-clause-registers : goal.returns-clause-registers
returns-clause-registers c =
    let design = c.args.self.now.linked.design in
    ap₂ (λ (xs : List Signal) (rs : List ℕ). map (register_at (paths_of design.instances.rows.items) xs) rs) c.deref.ensures.value c.deref-2.ensures.value
    ∙ regs_are design

pub returns-clause-reset : goal.returns-clause-reset
returns-clause-reset c =
    ap₂ (λ (xs : List Signal) (rs : List ℕ). paired (map (width_in xs) rs) (map (initial_in xs) rs)) c.deref.ensures.value c.deref-2.ensures.value
    ∙ begun c.args.self.now.linked.design

-- the slots have the widths of the registers
pub invariant_of-result-2 : goal.invariant_of-result-2
invariant_of-result-2 c =
    let self = c.args.self.now in
    let design = self.linked.design in
    let paths = paths_of design.instances.rows.items in
    record {
      laid = self.laid ∙ register_widths_are design ∙ widths_are paths design.signals.items design.registers.items
          ∙ sym (ap₂ (λ (xs : List Signal) (rs : List ℕ). widths_of (map (register_at paths xs) rs)) c.deref.ensures.value c.deref-2.ensures.value);
    }
