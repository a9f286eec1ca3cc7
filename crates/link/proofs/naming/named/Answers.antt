use Rattle.std.proofs.Common.{◌∷◌, [], ℕ, List, Global, Vec, map, refl, subst}
use Rattle.ls_text.specs.Texts.{IsIdOf}
use Rattle.ls_text.proofs.Growth.{grows_on, known_more}
use Rattle.ls_text.specs.TextViews.{text_items, text_of}
use Rattle.link.proofs.Spelled.{texts_more}
use Rattle.link.proofs.Steps.{stepped}
use Rattle.link.proofs.naming.named.Goals as goal

pub loop-text-preserved : goal.loop-text-preserved
loop-text-preserved c =
    let old = c.loop-text.names in
    let new = c.intern.new.self in
    let ids = c.loop-text.ids.items in
    let next = c.push.new.self.items in
    let id = c.in_ok-id.id in
    let text = c.text-item.result in
    let F = λ (zs : List (Vec ℕ Global)). map text_items zs in
    let known = subst (λ (zs : List ℕ). IsIdOf new zs id.0) c.deref.ensures.value c.in_ok-id.ensures.id in
    record {
      left = stepped F F c.args.texts.now c.loop-text.text-index text (text.items ∷ []) (map (text_of old) ids) (map (text_of new) next) _
          c.loop-text-test.true c.text-item.is refl
          (texts_more old new ids next id text.items c.in_ok-id.ensures.grows c.loop-text.invariant.within c.in_ok-push.ensures.items known)
          c.loop-text.invariant.left;
      within = known_more old new ids next id text.items c.in_ok-id.ensures.grows c.loop-text.invariant.within c.in_ok-push.ensures.items known;
      grows = grows_on c.args.names.now old new c.loop-text.invariant.grows c.in_ok-id.ensures.grows;
    }
