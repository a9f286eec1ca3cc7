use Rattle.std.proofs.Common.{◌≡◌, rules, ◌+◌, sym, subst, All}
use Rattle.book_turn.specs.Passes.{known}
use Rattle.worker_scope.proofs.Joins.{joining_none, joining_more, joining_all}
use Rattle.worker_scope.proofs.scope.join_all.Goals as goal

pub loop-child-init : goal.loop-child-init
loop-child-init g c =
    let begun = c.into_iter-child-iterator.ensures.into_iter_gives in (
      c.requires.turn,
      c.requires.free,
      subst (λ l. All (λ h. h.promise.turn.value ≡ c.args.turn.now) l) (sym begun.0) c.requires.children,
      joining_none (λ h. h.promise.number) (known c.args.pass.now) c.args.children.len _ _ _ begun.1 begun.0 c.requires.numbers,
    )

pub join_one-requires-clause-child : goal.join_one-requires-clause-child
join_one-requires-clause-child g c κs within = let h = c.loop-child.invariant.2 0 c.in-Some.child in let step = c.in-Some.ensures.steps in grind rules

pub loop-child-preserved : goal.loop-child-preserved
loop-child-preserved g c =
    let step = c.in-Some.ensures.steps in (
      c.join_one.ensures.turn,
      c.join_one.ensures.free,
      λ k d below. let h = c.loop-child.invariant.2 (k + 1) d in grind rules,
      joining_more (λ h. h.promise.number) c.args.children.len (known c.args.pass.now) (known c.loop-child.pass) _ _ _ c.in-Some.child _ _ c.loop-child.invariant.3 step.0 step.1 c.join_one.ensures.joined,
    )

pub returns-clause-joined : goal.returns-clause-joined
returns-clause-joined g c = joining_all (λ h. h.promise.number) c.args.children.len (known c.args.pass.now) (known c.loop-child.pass) _ _ c.loop-child.invariant.3 c.in-None.ensures.steps.0
