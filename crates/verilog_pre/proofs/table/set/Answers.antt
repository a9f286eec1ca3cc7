use Rattle.std.proofs.Common.{List, ℕ, sym, ap, subst, ◌∙◌}
use Rattle.ls_text.specs.Texts.{IsIdOf}
use Rattle.verilog_pre.specs.Tables.{table_of, with_macro}
use Rattle.verilog_pre.proofs.Words.{table_set}
use Rattle.verilog_pre.proofs.table.set.Goals as goal

pub returns-clause-table : goal.returns-clause-table
unfolding table_of
returns-clause-table c =
    let Names : List (List ℕ) → Type 0 = λ words. IsIdOf words c.args.word.now c.in_ok-id.id.0 in
    table_set c.fill.new.macros.words c.fill.new.macros.known.items c.args.word.now c.in_ok-id.id.0 c.args.named (subst Names (sym c.in_ok-fill.ensures.words) c.in_ok-id.ensures.id) c.in_ok-fill.ensures.listed
    ∙ ap (with_macro c.args.word.now c.args.named) (c.in_ok-fill.ensures.table ∙ c.in_ok-id.ensures.table)
