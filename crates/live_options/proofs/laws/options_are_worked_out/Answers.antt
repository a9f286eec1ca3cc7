use Rattle.live_options.proofs.Worked.{defaults_worked, given_worked, made_worked, no_word_worked, no_value_worked, repeated_worked, unknown_worked, stray_worked, too_many_worked, too_few_worked, too_far_worked, no_stage_worked, too_many_stages_worked, too_long_worked, signed_worked, empty_worked}
use Rattle.live_options.proofs.laws.options_are_worked_out.Goals as goal

pub returns-clause-defaults : goal.returns-clause-defaults
returns-clause-defaults c = defaults_worked

pub returns-clause-given : goal.returns-clause-given
returns-clause-given c = given_worked

pub returns-clause-made : goal.returns-clause-made
returns-clause-made c = made_worked

pub returns-clause-no_word : goal.returns-clause-no_word
returns-clause-no_word c = no_word_worked

pub returns-clause-no_value : goal.returns-clause-no_value
returns-clause-no_value c = no_value_worked

pub returns-clause-repeated : goal.returns-clause-repeated
returns-clause-repeated c = repeated_worked

pub returns-clause-unknown : goal.returns-clause-unknown
returns-clause-unknown c = unknown_worked

pub returns-clause-stray : goal.returns-clause-stray
returns-clause-stray c = stray_worked

pub returns-clause-too_many : goal.returns-clause-too_many
returns-clause-too_many c = too_many_worked

pub returns-clause-too_few : goal.returns-clause-too_few
returns-clause-too_few c = too_few_worked

pub returns-clause-too_far : goal.returns-clause-too_far
returns-clause-too_far c = too_far_worked

pub returns-clause-no_stage : goal.returns-clause-no_stage
returns-clause-no_stage c = no_stage_worked

pub returns-clause-too_many_stages : goal.returns-clause-too_many_stages
returns-clause-too_many_stages c = too_many_stages_worked

pub returns-clause-too_long : goal.returns-clause-too_long
returns-clause-too_long c = too_long_worked

pub returns-clause-signed : goal.returns-clause-signed
returns-clause-signed c = signed_worked

pub returns-clause-empty : goal.returns-clause-empty
returns-clause-empty c = empty_worked
