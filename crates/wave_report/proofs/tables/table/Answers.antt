use Rattle.std.proofs.Common.{rules, ◌≡◌, ◌++◌, ◌<◌, ◌≤◌, ℕ, List, [], length, map, sym, ◌∙◌, ap, ap₂, arith}
use Rattle.typed_ir.specs.declared.instance_name.InstanceName.{InstanceName}
use Rattle.typed_ir.specs.declared.signal.Signal.{Signal}
use Rattle.typed_ir.specs.Flats.{signal_of}
use Rattle.typed_ir.specs.Orders.{at_or}
use Rattle.typed_ir.proofs.Lists.{at_map}
use Rattle.cycle_eval.specs.Designs.{instances_of, signals_of}
use Rattle.reg_transform.specs.States.{state_values}
use Rattle.typed_ir.specs.Paths.{joined}
use Rattle.wave_report.specs.Tables.{shown_line, signal_line, signal_lines, table_text}
use Rattle.wave_report.proofs.Registers.{all_lines, line_step, register_there, values_from}
use Rattle.wave_report.proofs.tables.table.Goals as goal

pub bounds-signals-place : goal.bounds-signals-place
bounds-signals-place c =
    let signals = c.signals-signals.result.now in
    let count = length (signals_of c.args.design.now) in
    let many : length signals ≡ count = ap (λ (zs : List Signal). length zs) c.signals-signals.ensures in
    register_there c.registers-registers.result.now count (length signals) c.loop-number.number c.index-registers-number.result c.index-place.result
    c.registers-registers.ensures.there many c.loop-number-test.true c.index-registers-number.is c.index-place.ensures

pub offset_bounds-signals-place : goal.offset_bounds-signals-place
offset_bounds-signals-place c =
    let signals = c.signals-signals.result.now in
    let count = length (signals_of c.args.design.now) in
    let many : length signals ≡ count = ap (λ (zs : List Signal). length zs) c.signals-signals.ensures in
    let within : c.index-place.result < length signals =
    register_there c.registers-registers.result.now count (length signals) c.loop-number.number c.index-registers-number.result c.index-place.result
    c.registers-registers.ensures.there many c.loop-number-test.true c.index-registers-number.is c.index-place.ensures in
    search (rules, within)

pub loop-number-preserved : goal.loop-number-preserved
loop-number-preserved c =
    let names = c.args.names.now in
    let prefix = c.args.prefix.now in
    let rows = c.instances-rows.result.now in
    let signals = c.signals-signals.result.now in
    let rs = c.registers-registers.result.now in
    let xs = state_values c.args.state.now in
    let i = c.loop-number.number in
    let r = c.index-registers-number.result in
    let at = c.index-place.result in
    let x = c.index-signals-place.result in
    let v = c.read-value.result.value in
    let old = c.loop-number.text.items in
    let count = length (signals_of c.args.design.now) in
    let many : length signals ≡ count = ap (λ (zs : List Signal). length zs) c.signals-signals.ensures in
    let there : at < length signals =
    register_there c.registers-registers.result.now count (length signals) c.loop-number.number c.index-registers-number.result c.index-place.result
    c.registers-registers.ensures.there many c.loop-number-test.true c.index-registers-number.is c.index-place.ensures in
    let path : c.deref.result.now ≡ joined names (signal_of rows x).path =
    c.deref.ensures.value ∙ c.in_ok-push_path.ensures ∙ ap (λ zs. zs ++ joined names (signal_of rows x).path) c.clear.ensures.items in
    let line : shown_line prefix c.deref.result.now x.width v ≡ at_or (signal_line names prefix v) [] (map (signal_of rows) signals) r =
    ap (λ zs. shown_line prefix zs x.width v) path
    ∙ sym (at_map (signal_line names prefix v) [] (signal_of rows) signals at x there c.index-signals-place.is)
    ∙ ap (at_or (signal_line names prefix v) [] (map (signal_of rows) signals)) c.index-place.ensures in
    line_step names prefix (map (signal_of rows) signals) rs xs i r v old c.push_line.new.out.items
    (signal_lines names prefix (map (signal_of rows) signals) rs xs)
    c.loop-number-test.true c.index-registers-number.is
    (values_from c.args.state.now i (c.read-value.result.width, v) c.read-value.ensures)
    (c.in_ok-push_line.ensures ∙ ap (λ zs. old ++ zs) line)
    c.loop-number.invariant

pub returns : goal.returns
unfolding table_text
returns c =
    let names = c.args.names.now in
    let prefix = c.args.prefix.now in
    let xs = state_values c.args.state.now in
    let rs = c.registers-registers.result.now in
    let F = λ (rows : List InstanceName) (signals : List Signal) (zs : List ℕ). signal_lines names prefix (map (signal_of rows) signals) zs xs in
    let ended : length rs ≤ c.loop-number.number = omega arith in
    all_lines names prefix (map (signal_of c.instances-rows.result.now) c.signals-signals.result.now) rs xs c.loop-number.number
    c.loop-number.text.items
    (F c.instances-rows.result.now c.signals-signals.result.now rs) ended c.loop-number.invariant
    ∙ ap (λ (zs : List InstanceName). F zs c.signals-signals.result.now rs) c.instances-rows.ensures
    ∙ ap₂ (F (instances_of c.args.design.now)) c.signals-signals.ensures c.registers-registers.ensures.numbers
