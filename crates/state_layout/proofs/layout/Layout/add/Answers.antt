use Rattle.std.proofs.Common.{◌+◌, ◌/◌, ◌<◌, ◌++◌, ◌∷◌, [], refl, ◌∙◌, ap, arith}
use Rattle.state_layout.specs.Words.{words_of}
use Rattle.state_layout.proofs.SlotWords.{words_push}
use Rattle.state_layout.proofs.Layouts.{too_many_where, added_firsts, added_words}
use Rattle.state_layout.proofs.layout.Layout.add.Goals as goal

pub returns-then-more-self-clause-refused : goal.returns-then-more-self-clause-refused
returns-then-more-self-clause-refused c =
    let pushed = words_push c.args.self.now c.args.width in
    let more = ap (λ n. (n + 63) / 64) c.from.ensures in
    let before = c.self.invariant.1 ∙ ap words_of c.self.view_is in
    too_many_where c.too_many.result (65536 < words_of (c.args.self.now ++ c.args.width ∷ [])) c.too_many.ensures (omega (arith, pushed, more, before, c.if-more-self.true))

pub invariant_of-self-2 : goal.invariant_of-self-2
invariant_of-self-2 c =
    let more = ap (λ n. c.self.inside.words + (n + 63) / 64) c.from.ensures in (
      added_firsts c.self.inside.slots.items c.push.new.self.items c.self.inside.words _ c.in_ok-push.ensures.items c.self.invariant.1 c.self.invariant.0 refl,
      more ∙ added_words c.self.inside.slots.items c.push.new.self.items c.self.inside.words _ c.in_ok-push.ensures.items c.self.invariant.1,
      omega (arith, c.if-more-self.false, c.self.invariant.2),
    )

pub returns-clause-few : goal.returns-clause-few
returns-clause-few c =
    let more = ap (λ n. c.self.inside.words + (n + 63) / 64) c.from.ensures in
    let words = added_words c.self.inside.slots.items c.push.new.self.items c.self.inside.words _ c.in_ok-push.ensures.items c.self.invariant.1 in
    omega (arith, more ∙ words, c.if-more-self.false, c.self.invariant.2)
