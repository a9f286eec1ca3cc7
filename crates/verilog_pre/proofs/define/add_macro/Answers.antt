use Rattle.std.proofs.Common.{◌≡◌, length, sym, ap, ◌∙◌, rules}
use Rattle.verilog_pre.specs.Tables.{table_of}
use Rattle.verilog_pre.specs.Views.{parts_of}
use Rattle.verilog_pre.proofs.Parts.{part_count}
use Rattle.verilog_pre.proofs.Sounds.{added}
use Rattle.verilog_pre.proofs.define.add_macro.Goals as goal

pub returns-clause-table : goal.returns-clause-table
unfolding table_of
returns-clause-table c =
    let first : c.len-first.result ≡ length c.args.macros.now.parts.items = search rules in
    let last : c.len-last.result ≡ length c.read_body.new.macros.parts.items = search rules in
    c.in_ok-set.ensures.table
    ∙ added c.args.name.now _ _ _ _ _ _ _ _ (search rules)
    (first ∙ sym (part_count c.args.macros.now))
    (last ∙ sym (part_count c.read_body.new.macros) ∙ ap length c.in_ok-n.ensures.parts)
    c.in_ok-n.ensures.table

pub returns-clause-parts : goal.returns-clause-parts
unfolding parts_of
returns-clause-parts c = c.in_ok-set.ensures.parts ∙ c.in_ok-n.ensures.parts
