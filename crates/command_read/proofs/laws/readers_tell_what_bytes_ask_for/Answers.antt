use Rattle.std.proofs.Common.{sym, ◌∙◌}
use Rattle.command_read.proofs.Cutting.{told_begins, told_on, told_all}
use Rattle.command_read.proofs.laws.readers_tell_what_bytes_ask_for.Goals as goal

pub returns-clause-begins : goal.returns-clause-begins
returns-clause-begins c = told_begins

pub returns-clause-goes_on : goal.returns-clause-goes_on
returns-clause-goes_on c = told_on

pub returns-clause-all : goal.returns-clause-all
returns-clause-all c = told_all

pub returns-clause-any_pieces : goal.returns-clause-any_pieces
returns-clause-any_pieces c x y bytes a b end first second p q none nothing =
    told_all x bytes a end first p none ∙ sym (told_all y bytes b end second q nothing)
