use Rattle.std.specs.declared.cmp.Reverse.{Reverse}
use Rattle.std.proofs.lemmas.List.Sorted.{IsPermutation-map}
use Rattle.comb_order.specs.declared.turn.Turn.{Turn}
use Rattle.comb_order.proofs.ready.next_ready.Goals as goal

pub returns-in-Some-clause-one : goal.returns-in-Some-clause-one
returns-in-Some-clause-one c = IsPermutation-map (λ (r : Reverse Turn). r.0.node) _ _ c.in-Some.ensures.permutation
