use Rattle.std.proofs.Common.{◌≡◌, ◌+◌, ◌++◌, ◌∷◌, [], sym, ap, ◌∙◌, subst, arith}
use Rattle.std.specs.List.{All}
use Rattle.std.proofs.lemmas.List.Elements.{All-push}
use Rattle.worker_scope.specs.Scope.{AreNumbered}
use Rattle.worker_scope.proofs.Numbers.{next_more}
use Rattle.worker_scope.proofs.Sessions.{split_more}
use Rattle.worker_scope.proofs.scope.start.Goals as goal

pub loop-number-preserved : goal.loop-number-preserved
loop-number-preserved g c =
    let child = c.in-Ok.child in
    let pushed = c.push_reserved.ensures.items ∙ ap (λ l. l ++ child ∷ []) c.reserve.ensures.items in (
      c.start_one.ensures.turn,
      c.start_one.ensures.free,
      split_more _ 1 _ _ _ _ c.loop-number.invariant.2 c.in-Ok.ensures.split (omega arith),
      subst (λ l. All (λ h. h.promise.turn.value ≡ c.args.turn.now) l) (sym pushed)
          (All-push (λ h. h.promise.turn.value ≡ c.args.turn.now) c.loop-number.children.items child c.loop-number.invariant.3 c.in-Ok.ensures.child),
      subst (λ l. AreNumbered (λ h. h.promise.number) 0 l) (sym pushed)
          (next_more (λ h. h.promise.number) c.loop-number.children.items child _ _ c.in-Ok.ensures.number c.loop-number.invariant.5 c.loop-number.children.ok.0 c.loop-number.invariant.4),
      c.push_reserved.ensures.len ∙ ap (λ n. n + 1) (c.reserve.ensures.len ∙ c.loop-number.invariant.5),
    )
