use Rattle.std.proofs.Common.{◌∙◌, refl}
use Rattle.live_session.proofs.Shown.{fault_shown}
use Rattle.live_session.proofs.refusing.refused_text.Goals as goal

pub returns : goal.returns
returns c = record {
  text = c.new.ensures ∙ c.in_ok-text.ensures ∙ fault_shown c.args.names.now c.args.files.now c.args.line c.args.fault.now;
  refusal = refl;
  goes_on = refl;
}
