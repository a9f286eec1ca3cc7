use Rattle.std.proofs.Common.{◌≡◌, ℕ, List, ◌∷◌, map, Global, Vec, ap, subst, rules}
use Rattle.ls_text.specs.Texts.{IsIdOf}
use Rattle.ls_text.proofs.Growth.{grows_on}
use Rattle.elaborate.specs.Jobs.{standing_of}
use Rattle.ls_text.specs.TextViews.{text_items}
use Rattle.elaborate.proofs.Instances.{left_more, named_more}
use Rattle.elaborate.proofs.tree.all_seen.Goals as goal

pub loop-one-preserved : goal.loop-one-preserved
loop-one-preserved c =
    let split : c.loop-one.rest.now ≡ c.in-Some.text.now ∷ c.in-Some.behind.now = search rules in
    let id = subst (λ (zs : List ℕ). IsIdOf c.intern.new.self zs c.in_ok-name.name.0) c.deref.ensures.value c.in_ok-name.ensures.id in
    record {
      left = left_more standing_of c.loop-one.names c.intern.new.self c.loop-one.instances.items c.push.new.self.items c.in_ok-instance.instance c.in_ok-name.name c.in-Some.text.now.items
          (map text_items c.loop-one.rest.now) (map text_items c.in-Some.behind.now) c.args.all.now c.loop-one.one-index c.one-item.result _
          c.in_ok-name.ensures.grows c.loop-one.invariant.named c.in_ok-push.ensures.items c.in_ok-instance.ensures id
          (ap (λ (ts : List (Vec ℕ Global)). map text_items ts) split) c.loop-one-test.true c.one-item.is c.loop-one.invariant.left;
      named = named_more c.loop-one.names c.intern.new.self c.loop-one.instances.items c.push.new.self.items c.in_ok-instance.instance c.in_ok-name.name c.in-Some.text.now.items
          (standing_of c.one-item.result) c.in_ok-name.ensures.grows c.loop-one.invariant.named c.in_ok-push.ensures.items c.in_ok-instance.ensures id;
      grows = grows_on c.args.names.now c.loop-one.names c.intern.new.self c.loop-one.invariant.grows c.in_ok-name.ensures.grows;
    }
