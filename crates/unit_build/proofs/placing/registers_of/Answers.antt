use Rattle.std.proofs.Common.{◌≡◌, ◌&&◌, ◌∙◌, ℕ, Bool, IfOk, List, nat_lt, length, map, sym, ap, subst, rules}
use Rattle.std.proofs.lemmas.List.{length-map}
use Rattle.driver_rules.specs.Targets.{is_settled as is_settled_by}
use Rattle.typed_ir.specs.Items.{item_of}
use Rattle.gen_unroll.specs.ModuleViews.{table_in}
use Rattle.gen_unroll.specs.SignalViews.{signal_of}
use Rattle.gen_unroll.specs.UnitLists.{registers}
use Rattle.gen_unroll.specs.UnitReaches.{is_settled}
use Rattle.unit_build.proofs.Registers.{same_registers}
use Rattle.unit_build.proofs.placing.registers_of.Goals as goal

pub returns : goal.returns
returns c =
    let t = table_in c.args.signals.now in
    let by = is_settled_by (map item_of c.args.items.now) in
    let count : c.len.result ≡ length t.signals = search (rules, c.len.ensures, sym (length-map c.args.signals.now.signals.items signal_of)) in
    subst (λ (ks : List ℕ). IfOk c.registers.result (λ found. found.items ≡ ks))
    (ap (λ (flags : List Bool). registers (is_settled flags) t) c.deref.ensures.value
    ∙ same_registers c.in_ok-settled.settled.items by t (λ s. c.in_ok-settled.ensures s ∙ ap (λ (n : ℕ). nat_lt s n && by s) count))
    c.registers.ensures
