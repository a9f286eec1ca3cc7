-- Where the values of parameters end, no override is left.
use Rattle.std.proofs.Common.{◌≡◌, List, [], ◌∷◌, ◌++◌, map, length, append-nil, refl, sym, ◌∙◌, ap, arith}
use Rattle.std.specs.Prelude.{Option}
use Rattle.typed_ir.specs.declared.constant.Const.{Const}
use Rattle.gen_unroll.specs.declared.parameter_sort.ParameterSort.{ParameterSort}
use Rattle.gen_unroll.specs.Values.{ConstantValue}
use Rattle.gen_unroll.specs.Overriding.{overrides_of, sort_of_each}

none_left : (ss : List ParameterSort) → overrides_of ss [] ≡ []
none_left [] = refl
none_left (s ∷ ss) = refl

pub ended : (done whole : List (Option ConstantValue)) (ss : List ParameterSort) (rest : List Const) → length rest ≡ 0
    → done ++ overrides_of ss rest ≡ whole → done ≡ whole
ended done whole ss [] none is = sym (append-nil done) ∙ sym (ap (λ (l : List (Option ConstantValue)). done ++ l) (none_left ss)) ∙ is
ended done whole ss (c ∷ cs) none is = absurd (omega (arith, none))

-- as many of a sort, whatever they are
pub sorts_so : {A : Type 0} (s : ParameterSort) (moved : A → A) (xs : List A) → sort_of_each s (map moved xs) ≡ sort_of_each s xs
sorts_so s moved [] = refl
sorts_so s moved (x ∷ xs) = ap (λ (ss : List ParameterSort). s ∷ ss) (sorts_so s moved xs)
