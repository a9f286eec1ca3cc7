use Rattle.std.proofs.Common.{rules, ◌∙◌}
use Rattle.std.proofs.lemmas.Result.{on_ok_weaker}
use Rattle.state_layout.proofs.Numbers.{below_word}
use Rattle.state_layout.proofs.Splices.{put_one_is, put_two_is}
use Rattle.state_layout.proofs.putting.put_value.Goals as goal

pub overflow_cast-value : goal.overflow_cast-value
overflow_cast-value c = let room = below_word c.args.slot.width c.args.value c.if-slot-le64.true c.requires.fits in search (rules, room)

pub returns-then-slot-le64-clause-ok : goal.returns-then-slot-le64-clause-ok
returns-then-slot-le64-clause-ok c =
    on_ok_weaker c.replace_word.result (λ put. put ∙ put_one_is c.args.pages.now c.args.slot.first c.args.slot.width c.args.value c.args.slot.at_least_one c.if-slot-le64.true c.requires.fits c.requires.within)
    c.replace_word.ensures.ok

pub returns-clause-ok : goal.returns-clause-ok
returns-clause-ok c =
    on_ok_weaker c.replace_two.result (λ put. put ∙ put_two_is c.args.pages.now c.args.slot.first c.args.slot.width c.args.value c.if-slot-le64.false c.args.slot.at_most_128 c.requires.fits c.requires.within)
    c.replace_two.ensures.ok
