-- What a settle answers.
use Rattle.std.specs.Prelude.{ℕ, Option, Some, None}
use Rattle.live_session.specs.declared.settle_answer.SettleAnswer.{SettleAnswer}
use Rattle.live_session.specs.declared.settle_answer.SettleAnswer.TheVariants.{Settled, Unsettled}

-- None where all is settled, else the cycle up to which it is
abbrev pub settled_up_to : SettleAnswer → Option ℕ
settled_up_to Settled = None
settled_up_to (Unsettled settled_to) = Some settled_to
