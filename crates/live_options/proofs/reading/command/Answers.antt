use Rattle.std.proofs.Common.{rules, ◌≡◌, ◌∙◌, ap, ap₂, codes}
use Rattle.clap.specs.Words.{app_of, new_app, rule_of, with_rule}
use Rattle.clap.specs.Simple.{app_of_fields}
use Rattle.live_options.specs.Words.{option_named, without_help}
use Rattle.live_options.proofs.reading.command.Goals as goal

pub returns : goal.returns
returns c =
    let workers : rule_of c.long-workers.result ≡ option_named (codes "workers") = search rules in
    let interval : rule_of c.long-interval.result ≡ option_named (codes "interval") = search rules in
    let lookback : rule_of c.long-lookback.result ≡ option_named (codes "lookback") = search rules in
    let load : rule_of c.long-load.result ≡ option_named (codes "load") = search rules in
    let bare : app_of c.disable_help_flag.result ≡ without_help (new_app (codes "livesim"))
    = ap app_of_fields c.disable_help_flag.ensures ∙ ap without_help c.new-5.ensures.app in
    c.in_ok-command.ensures.shape (search rules)
    ∙ ap₂ with_rule (c.in_ok-arg-3.ensures.shape (search rules)
    ∙ ap₂ with_rule (c.in_ok-arg-2.ensures.shape (search rules)
    ∙ ap₂ with_rule (c.in_ok-arg.ensures.shape (search rules) ∙ ap₂ with_rule bare workers) interval) lookback) load
