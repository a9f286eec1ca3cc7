use Rattle.std.proofs.Common.{◌≡◌, [], map, sym, ap, ◌∙◌}
use Rattle.std.specs.Prelude.{string_bytes}
use Rattle.clap.specs.Words.{fault_of, is_simple, is_simple_and_free, matches_of, takes}
use Rattle.live_options.specs.Words.{livesim_app, options_in}
use Rattle.live_options.proofs.Words.{simple_and_free, no_options, faultless_options, faulty_options}
use Rattle.live_options.proofs.reading.read_options.Goals as goal

pub returns-then-is_empty : goal.returns-then-is_empty
returns-then-is_empty c = sym (no_options string_bytes c.args.words.now (sym c.is_empty.ensures ∙ c.if-is_empty.true))

pub returns-in-Ok : goal.returns-in-Ok
returns-in-Ok c =
    let is = c.in_ok-command.ensures in
    let texts = map string_bytes c.args.words.now in
    let none : fault_of livesim_app texts ≡ [] = ap (λ a. fault_of a texts) (sym is) ∙ c.in-Ok.ensures.kinds (ap is_simple_and_free is ∙ simple_and_free) in
    c.options_in.ensures ∙ ap options_in ((c.in-Ok.ensures.matches (ap is_simple is)).0 ∙ ap (λ a. matches_of a texts) is)
    ∙ sym (faultless_options string_bytes c.args.words.now (sym c.is_empty.ensures ∙ c.if-is_empty.false) none)

pub returns : goal.returns
returns c =
    let is = c.in_ok-command.ensures in
    let texts = map string_bytes c.args.words.now in
    sym (faulty_options texts (λ taken. c.in_default.not-OutOfMemory (c.kind.ensures ∙ c.in-Err.ensures.passes (ap (λ a. takes a texts) is ∙ taken))))
