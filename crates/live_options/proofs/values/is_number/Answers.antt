use Rattle.std.proofs.Common.{rules, tests, sym, ◌∙◌}
use Rattle.std.specs.Char.{is_ascii_digit}
use Rattle.std.proofs.lemmas.Iterator.Adapters.{YieldsList-from_bytes}
use Rattle.std.proofs.lemmas.Iterator.Search.{all_from_yields_List}
use Rattle.live_options.proofs.Numbers.{is_number_short}
use Rattle.live_options.proofs.values.is_number.Goals as goal

pub returns : goal.returns
returns c =
    let text = c.args.text.now in
    let digits = all_from_yields_List is_ascii_digit _ _ c.all.result c.all.ensures.ran (YieldsList-from_bytes text c.bytes.ensures.rest) (λ x b q k. search (rules, tests)) in
    digits ∙ is_number_short text (sym c.if-is_empty.false ∙ c.is_empty.ensures) c.if-text-gt-MOST_DIGITS.false
