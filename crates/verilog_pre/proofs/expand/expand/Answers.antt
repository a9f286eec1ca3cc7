use Rattle.std.proofs.Common.{sym, subst, ◌∙◌, Result}
use Rattle.ls_text.specs.Readings.{TextFault, Refuses, Gives}
use Rattle.verilog_pre.specs.Expansions.{Output, output}
use Rattle.verilog_pre.proofs.Steps.{moved_on, use_is}
use Rattle.verilog_pre.proofs.expand.expand.Goals as goal

pub returns-in-Err-clause-pieces : goal.returns-in-Err-clause-pieces
returns-in-Err-clause-pieces c =
    let R : Result Output TextFault → Type 0 = λ r. Refuses c.enter.new.names c.in-Err.refusal r in
    subst R (use_is c.args.macros.now c.number_of.new.macros c.args.at c.args.word.now _ c.new.result.items _ c.new-2.result.items c.in_ok-number.ensures.table c.in_ok-number.ensures.parts c.in_ok-number.ensures.id.same c.new.ensures.items c.new-2.ensures.items) c.in-Err.ensures.used

-- what is worked off is what the use gives
pub returns-clause-pieces : goal.returns-clause-pieces
returns-clause-pieces c =
    let R : Result Output TextFault → Type 0 = λ r. Gives c.work_off.new.names (λ (u : Unit {0}). output c.work_off.new.out) c.work_off.result r in
    subst R
    (moved_on c.number_of.new.macros c.enter.new.macros c.args.at c.enter.new.nest.open.items (output c.enter.new.out) c.enter.new.nest.work.items c.in-Ok.ensures.keeps c.enter.ensures.words
    ∙ sym c.in-Ok.ensures.used
    ∙ use_is c.args.macros.now c.number_of.new.macros c.args.at c.args.word.now _ c.new.result.items _ c.new-2.result.items c.in_ok-number.ensures.table c.in_ok-number.ensures.parts c.in_ok-number.ensures.id.same c.new.ensures.items c.new-2.ensures.items)
    c.work_off.ensures.pieces
