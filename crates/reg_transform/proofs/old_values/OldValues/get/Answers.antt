use Rattle.std.proofs.Common.{◌∙◌, sym, ap}
use Rattle.std.specs.Option.{option_copied}
use Rattle.reg_transform.specs.Found.{key_of, same_key}
use Rattle.reg_transform.proofs.Finding.{keys_decide, key_same, looked_up, swap}
use Rattle.reg_transform.proofs.old_values.OldValues.get.Goals as goal

pub returns-in-Some : goal.returns-in-Some
returns-in-Some c =
    ap option_copied (sym c.in-Some.is)
    ∙ c.get.ensures.value
    ∙ looked_up key_of same_key (key_of c.args.key) _ (λ k. key_same c.args.key k ∙ swap same_key keys_decide (key_of c.args.key) (key_of k)) c.args.self.now.by_key.entries

pub returns-in-None : goal.returns-in-None
returns-in-None c =
    ap option_copied (sym c.in-None.is)
    ∙ c.get.ensures.value
    ∙ looked_up key_of same_key (key_of c.args.key) _ (λ k. key_same c.args.key k ∙ swap same_key keys_decide (key_of c.args.key) (key_of k)) c.args.self.now.by_key.entries
