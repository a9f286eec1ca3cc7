use Rattle.std.proofs.Common.{ℕ, List, subst}
use Rattle.ls_text.specs.Texts.{IsIdOf}
use Rattle.ls_text.proofs.Growth.{grows_on, known_more}
use Rattle.unit_jobs.proofs.Numbers.{text_more}
use Rattle.unit_jobs.proofs.naming.numbers_of.Goals as goal

pub loop-text-preserved : goal.loop-text-preserved
loop-text-preserved c =
    let id = subst (λ (zs : List ℕ). IsIdOf c.intern.new.self zs c.in_ok-id.id.0) c.deref.ensures.value c.in_ok-id.ensures.id in
    record {
      left = text_more c.loop-text.names c.intern.new.self c.loop-text.ids.items c.push.new.self.items c.in_ok-id.id c.args.texts.now
          c.loop-text.text-index c.text-item.result _
          c.in_ok-id.ensures.grows c.loop-text.invariant.named c.in_ok-push.ensures.items id c.loop-text-test.true c.text-item.is
          c.loop-text.invariant.left;
      named = known_more c.loop-text.names c.intern.new.self c.loop-text.ids.items c.push.new.self.items c.in_ok-id.id c.text-item.result.items
          c.in_ok-id.ensures.grows c.loop-text.invariant.named c.in_ok-push.ensures.items id;
      grows = grows_on c.args.names.now c.loop-text.names c.intern.new.self c.loop-text.invariant.grows c.in_ok-id.ensures.grows;
    }
