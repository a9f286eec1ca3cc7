use Rattle.state_layout.proofs.SlotWords.{state_words_length, state_back}
use Rattle.state_layout.proofs.laws.words_give_states.Goals as goal

pub returns-clause-many : goal.returns-clause-many
returns-clause-many c = state_words_length

pub returns-clause-back : goal.returns-clause-back
returns-clause-back c = state_back
