use Rattle.std.proofs.Common.{sym, ap, ◌∙◌}
use Rattle.verilog_pre.specs.Conditionals.{is_read}
use Rattle.verilog_pre.specs.Expansions.{output}
use Rattle.verilog_pre.specs.States.{state}
use Rattle.verilog_pre.proofs.Uses.{run_ok, run_err}
use Rattle.verilog_pre.proofs.reading.read_run.Goals as goal

pub returns-in-Ok-clause-read : goal.returns-in-Ok-clause-read
returns-in-Ok-clause-read c =
    run_ok c.args.at c.full_place-full.result c.args.offset (state c.args.reader.now) c.args.text.now c.args.n (output c.emit.new.out)
    (ap is_read (sym c.deref.ensures.value) ∙ sym c.is_read.ensures ∙ c.if-not-is_read.false)
    c.full_place-full.ensures (c.in-Ok.ensures.piece c.args.names.now)

pub returns-in-Err-clause-read : goal.returns-in-Err-clause-read
returns-in-Err-clause-read c =
    run_err c.args.names.now c.in-Err.refusal c.args.at c.full_place-full.result c.args.offset (state c.args.reader.now) c.args.text.now c.args.n
    (ap is_read (sym c.deref.ensures.value) ∙ sym c.is_read.ensures ∙ c.if-not-is_read.false)
    c.full_place-full.ensures (c.in-Err.ensures.piece c.args.names.now)
