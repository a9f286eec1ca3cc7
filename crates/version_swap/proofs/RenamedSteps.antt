-- The steps of a module under the values of its parameters, under other names (IEEE 1364-2005, 12.2 and 12.4).
use Rattle.std.proofs.Common.{◌≡◌, List, ◌++◌, map, Result, Ok, Err, refl, ◌∙◌, ap, ap₂}
use Rattle.ls_text.specs.declared.fault.Fault.{Fault}
use Rattle.ls_text.specs.declared.name_id.NameId.{NameId}
use Rattle.typed_ir.specs.declared.constant.Const.{Const}
use Rattle.verilog_ast.specs.Items as i
use Rattle.verilog_ast.specs.Items.{ModuleItem, ModuleDeclaration}
use Rattle.verilog_ast.specs.Renaming.{header_parameter_as, parameter_as, item_as, declaration_as}
use Rattle.gen_unroll.specs.declared.parameter_sort.ParameterSort.{ParameterSort}
use Rattle.gen_unroll.specs.declared.parameter_sort.ParameterSort.TheVariants as sort
use Rattle.gen_unroll.specs.Overriding.{item_sorts, constant_sorts, overrides_of}
use Rattle.gen_unroll.specs.Steps.{ModuleStep}
use Rattle.gen_unroll.specs.Told.{Told}
use Rattle.gen_unroll.specs.Unrolled.{State, unrolled_module, turn_limit, steps_told}
use Rattle.gen_unroll.proofs.Overridden.{sorts_so}
use Rattle.ls_text.specs.Answers.{◌>>=◌}
use Rattle.elaborate.specs.Renaming.{KeepsApart, found_as, step_as}
use Rattle.elaborate.proofs.RenamedTold.{SameTold, SameEnd}
use Rattle.elaborate.proofs.RenamedUnrolled.{same_module}

-- ---- which parameters can be overridden

item_sorts_so : (f : NameId → NameId) (x : ModuleItem) → item_sorts (item_as f x) ≡ item_sorts x
item_sorts_so f (i.Items x xs) = ap₂ (λ (ss ts : List ParameterSort). ss ++ ts) (item_sorts_so f x) (item_sorts_so f xs)
item_sorts_so f (i.Region at xs) = item_sorts_so f xs
item_sorts_so f (i.Parameters at k ps) = sorts_so sort.Overridable (parameter_as f) ps
item_sorts_so f (i.LocalParameters at k ps) = sorts_so sort.Local (parameter_as f) ps
item_sorts_so f rest = refl

same_sorts : (f : NameId → NameId) (m : ModuleDeclaration) → constant_sorts (declaration_as f m) ≡ constant_sorts m
same_sorts f m =
    ap₂ (λ (ss ts : List ParameterSort). ss ++ ts) (sorts_so sort.Overridable (header_parameter_as f) m.parameters) (item_sorts_so f m.items)

-- ---- its steps

ending_so : (f : NameId → NameId) (said : List ModuleStep) (r q : Result State Fault) → SameEnd f r q
    → (q >>= λ st. Ok (map (step_as f) said)) ≡ found_as f (map (step_as f)) (r >>= λ st. Ok said)
ending_so f said (Ok st) (Ok after) same = refl
ending_so f said (Ok st) (Err e) same = absurd same
ending_so f said (Err e) (Ok after) same = absurd same
ending_so f said (Err e) (Err d) same = ap Err same

told_so : (f : NameId → NameId) (t u : Told State) → SameTold f t u → steps_told u ≡ found_as f (map (step_as f)) (steps_told t)
told_so f t u same =
    ap (λ (said : List ModuleStep). u.ending >>= λ st. Ok said) same.says ∙ ending_so f t.said t.ending u.ending same.ends

-- the steps of a module under these values
abbrev pub steps_with : List Const → ModuleDeclaration → Result (List ModuleStep) Fault
steps_with values m = steps_told (unrolled_module turn_limit (overrides_of (constant_sorts m) values) m)

pub same_steps_with : (f : NameId → NameId) (values : List Const) (m : ModuleDeclaration) → KeepsApart f
    → steps_with values (declaration_as f m) ≡ found_as f (map (step_as f)) (steps_with values m)
same_steps_with f values m apart =
    ap (λ (ss : List ParameterSort). steps_told (unrolled_module turn_limit (overrides_of ss values) (declaration_as f m))) (same_sorts f m)
    ∙ told_so f (unrolled_module turn_limit (overrides_of (constant_sorts m) values) m)
    (unrolled_module turn_limit (overrides_of (constant_sorts m) values) (declaration_as f m))
    (same_module f turn_limit (overrides_of (constant_sorts m) values) m apart)
