use Rattle.std.proofs.Common.{rules, ◌≡◌, ◌<◌, ◌∙◌, [], length, get_or, ap, subst, arith}
use Rattle.std.specs.Prelude.{Some, slice_index}
use Rattle.std.proofs.lemmas.List.{get_or_default}
use Rattle.typed_ir.specs.declared.signal.Signal.{Signal}
use Rattle.typed_ir.specs.Paths.{paths_of}
use Rattle.typed_ir.proofs.Lists.{below_read}
use Rattle.reg_transform.specs.Regs.{register_of}
use Rattle.reg_transform.proofs.Elements.{initial_read, register_read, within_read}
use Rattle.reg_transform.proofs.reading.signal_at.Goals as goal

pub offset_bounds-regs-register : goal.offset_bounds-regs-register
offset_bounds-regs-register c =
    let rs = c.args.regs.now.registers.now in
    let listed : get_or rs c.args.place 0 < length c.args.regs.now.signals.now =
    below_read rs (length c.args.regs.now.signals.now) c.args.place c.args.regs.now.registers_there c.requires in
    let same : c.index-register.result ≡ get_or rs c.args.place 0 =
    c.index-register.ensures ∙ get_or_default rs c.args.place c.index-regs-place.result 0 c.requires in
    let within : c.index-register.result < length c.args.regs.now.signals.now = omega (arith, listed, same) in
    search (rules, within)

pub bounds-regs-register : goal.bounds-regs-register
bounds-regs-register c =
    let rs = c.args.regs.now.registers.now in
    let listed : get_or rs c.args.place 0 < length c.args.regs.now.signals.now =
    below_read rs (length c.args.regs.now.signals.now) c.args.place c.args.regs.now.registers_there c.requires in
    let same : c.index-register.result ≡ get_or rs c.args.place 0 =
    c.index-register.ensures ∙ get_or_default rs c.args.place c.index-regs-place.result 0 c.requires in
    omega (arith, listed, same)

pub returns-clause-register : goal.returns-clause-register
returns-clause-register c =
    let rs = c.args.regs.now.registers.now in
    let signals = c.args.regs.now.signals.now in
    let paths = paths_of c.args.regs.now.instances.now.rows.items in
    let x = c.index-regs-register.result in
    let listed : get_or rs c.args.place 0 < length signals = below_read rs (length signals) c.args.place c.args.regs.now.registers_there c.requires in
    let same : c.index-register.result ≡ get_or rs c.args.place 0 =
    c.index-register.ensures ∙ get_or_default rs c.args.place c.index-regs-place.result 0 c.requires in
    register_read (register_of paths) (record { path = []; in_module = 0; name = 0; width = 0 }) signals rs c.args.place c.index-register.result x c.requires same
    (omega (arith, listed, same)) c.index-regs-register.is
    ∙ ap (λ (z : Signal). Some (register_of paths z)) c.index-regs-register.is

pub returns-clause-number : goal.returns-clause-number
returns-clause-number c = λ numbers.
    let rs = c.args.regs.now.registers.now in
    let signals = c.args.regs.now.signals.now in
    let x = c.index-regs-register.result in
    let listed : get_or rs c.args.place 0 < length signals = below_read rs (length signals) c.args.place c.args.regs.now.registers_there c.requires in
    let same : c.index-register.result ≡ get_or rs c.args.place 0 =
    c.index-register.ensures ∙ get_or_default rs c.args.place c.index-regs-place.result 0 c.requires in
    register_read (λ (z : Signal). slice_index numbers z.instance) 0 signals rs c.args.place c.index-register.result x c.requires same
    (omega (arith, listed, same)) c.index-regs-register.is
    ∙ ap (λ (z : Signal). Some (slice_index numbers z.instance)) c.index-regs-register.is

pub returns-clause-initial : goal.returns-clause-initial
returns-clause-initial c =
    let rs = c.args.regs.now.registers.now in
    let signals = c.args.regs.now.signals.now in
    let x = c.index-regs-register.result in
    let listed : get_or rs c.args.place 0 < length signals = below_read rs (length signals) c.args.place c.args.regs.now.registers_there c.requires in
    let same : c.index-register.result ≡ get_or rs c.args.place 0 =
    c.index-register.ensures ∙ get_or_default rs c.args.place c.index-regs-place.result 0 c.requires in
    initial_read signals rs c.args.place c.index-register.result x c.requires same (omega (arith, listed, same)) c.index-regs-register.is
    ∙ ap (λ (z : Signal). Some z.initial) c.index-regs-register.is

pub returns-clause-there : goal.returns-clause-there
returns-clause-there c =
    let rs = c.args.regs.now.registers.now in
    let signals = c.args.regs.now.signals.now in
    let count = length c.args.regs.now.instances.now.rows.items in
    let listed : get_or rs c.args.place 0 < length signals = below_read rs (length signals) c.args.place c.args.regs.now.registers_there c.requires in
    let same : c.index-register.result ≡ get_or rs c.args.place 0 =
    c.index-register.ensures ∙ get_or_default rs c.args.place c.index-regs-place.result 0 c.requires in
    subst (λ (z : Signal). z.instance < count) c.index-regs-register.is
    (within_read signals count c.index-register.result c.index-regs-register.result c.args.regs.now.signals_there (omega (arith, listed, same)) c.index-regs-register.is)
