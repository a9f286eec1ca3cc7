use Rattle.std.proofs.Common.{◌<◌, ℕ, List, length, None, refl, sym, ◌∙◌, arith}
use Rattle.std.proofs.lemmas.List.{get_or_default, get_or_past}
use Rattle.ls_text.specs.Texts.{HasEachOnce, IsIdOf, text_at}
use Rattle.verilog_pre.specs.Tables.{table_of}
use Rattle.verilog_pre.proofs.Words.{found_at}
use Rattle.verilog_pre.proofs.table.named.Goals as goal

own_id : (words : List (List ℕ)) (id : ℕ) → HasEachOnce words → id < length words → IsIdOf words (text_at words id) id
own_id words id once within = record { within = within; same = refl; only = λ other below same. once other id below within same }

pub returns-then-index-len-clause-value : goal.returns-then-index-len-clause-value
unfolding table_of
returns-then-index-len-clause-value c =
    c.index.ensures ∙ get_or_default c.args.macros.now.known.items c.args.word.0 _ None (omega arith)
    ∙ sym (found_at _ _ _ _ (own_id c.args.macros.now.words c.args.word.0 c.text-text.ensures.once c.requires.within))

pub returns-else-index-len-clause-value : goal.returns-else-index-len-clause-value
unfolding table_of
returns-else-index-len-clause-value c =
    sym (found_at _ c.args.macros.now.known.items _ c.args.word.0 (own_id c.args.macros.now.words c.args.word.0 c.text-text.ensures.once c.requires.within)
    ∙ get_or_past c.args.macros.now.known.items c.args.word.0 None (omega arith))
