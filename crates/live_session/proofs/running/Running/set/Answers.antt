use Rattle.std.proofs.Common.{◌≡◌, ◌∙◌, ◌≤◌, length, arith, ℕ, List, [], ◌∷◌, map, get_or, refl, sym, ap}
use Rattle.std.specs.Prelude.{Option, Some, None, Ok}
use Rattle.command_read.specs.Asking.{Sets}
use Rattle.command_read.specs.Spoken.{setting}
use Rattle.command_read.specs.declared.port_value.PortValue.{PortValue}
use Rattle.cycle_eval.specs.Designs.{design_flat}
use Rattle.cycle_eval.specs.Inputs.{input_width_of}
use Rattle.ls_text.specs.Texts.{text_at}
use Rattle.module_registry.specs.Entries.{Entry}
use Rattle.version_swap.specs.Behind.{design_of}
use Rattle.live_session.specs.Logs.{Log, marks_of}
use Rattle.live_session.specs.Sessions.{world_of}
use Rattle.live_session.specs.Beside.{Stands}
use Rattle.live_session.specs.Rows.{row_of}
use Rattle.live_session.specs.Spelled.{spelled}
use Rattle.live_session.specs.Verdicts.{with_row}
use Rattle.live_session.specs.Worlds.{refused_at}
use Rattle.live_session.proofs.Judged.{refuses_any, set_done}
use Rattle.live_session.proofs.SetRows.{all_set, put_there, refused_there}
use Rattle.live_session.proofs.TextTables.{width_spelled}
use Rattle.live_session.proofs.running.Running.set.Goals as goal

not_some : (o : Option ℕ) → ((x : ℕ) → o ≡ Some x → ⊥) → o ≡ None
not_some None not = refl
not_some (Some x) not = absurd (not x refl)

abbrev no_value : PortValue
no_value = record { port = record { 0 = 0 }; value = 0 }

pub returns-in-Some-clause-answers : goal.returns-in-Some-clause-answers
returns-in-Some-clause-answers c =
    let r = c.args.self.now in
    let names = c.args.names.now in
    let d = design_of r.version.value.machine.value r.keys in
    let i = c.loop-value.value-index in
    let v = get_or c.args.values.now i no_value in
    let below = c.loop-value-test.true in
    let width = width_spelled names c.has_each_once.ensures r.texts.files r.texts.top r.texts.clock d c.requires.kept.plans v.port.0
    (c.requires.within i no_value below) in
    let refused = refused_there names c.has_each_once.ensures (spelled names d) c.args.values.now r.row.value c.loop-value.row i no_value below
    c.loop-value.invariant (input_width_of (design_flat r.version.value.machine.value) v.port.0) c.args.line c.in-Some.code c.port_fault.result width
    c.in-Some.is (c.port_fault.ensures c.args.line (text_at names v.port.0)) in
    refuses_any names c.has_each_once.ensures c.args.limits (Sets c.args.line (map (setting names) c.args.values.now)) r r c.refused_name.result
    (refused_at c.in-Some.code c.args.line (text_at names v.port.0 ∷ []))
    (λ (j : Log) (entries : List Entry). ap (with_row (world_of names entries (marks_of j) r)) refused)
    (λ (entries : List Entry) (grid : List ℕ). refl) c.refused_name.ensures

pub loop-value-preserved : goal.loop-value-preserved
loop-value-preserved c =
    let r = c.args.self.now in
    let names = c.args.names.now in
    let d = design_of r.version.value.machine.value r.keys in
    let i = c.loop-value.value-index in
    let v = get_or c.args.values.now i no_value in
    let below = c.loop-value-test.true in
    let lt = c.requires.within i no_value below in
    let width = width_spelled names c.has_each_once.ensures r.texts.files r.texts.top r.texts.clock d c.requires.kept.plans v.port.0 lt in
    put_there names c.has_each_once.ensures (spelled names d) c.args.values.now r.row.value c.loop-value.row i no_value below c.loop-value.invariant
    (input_width_of (design_flat r.version.value.machine.value) v.port.0) c.port_fault.result c.put.new.self width
    (not_some c.port_fault.result c.in_default.not-Some)
    (λ (line : ℕ). c.port_fault.ensures line (text_at names v.port.0)) c.loop-value.invariant.within lt c.in_ok-put.ensures.ok

pub returns-clause-answers : goal.returns-clause-answers
returns-clause-answers c = λ (j : Log) (stands : Stands c.args.limits (Some c.args.self.now) j) (entries : List Entry).
    let r = c.args.self.now in
    let names = c.args.names.now in
    let design = spelled names (design_of r.version.value.machine.value r.keys) in
    let end : length c.args.values.now ≤ c.loop-value.value-index = omega (arith, c.loop-value-test.false) in
    let set = all_set names design c.args.values.now r.row.value c.loop-value.row c.loop-value.value-index c.args.line end c.loop-value.invariant
    ∙ ap (λ (row : List (ℕ × ℕ)). Ok (row_of names row)) (sym c.in_ok-self.ensures.ok) in
    set_done names c.has_each_once.ensures c.args.limits r c.args.line c.args.values.now c.in_ok-self.field-0.value c.accepted.result set
    (record {
      text = c.accepted.ensures.text ∙ c.in_ok-text.ensures;
      refusal = c.accepted.ensures.refusal;
      goes_on = c.accepted.ensures.goes_on;
    })
    j entries
