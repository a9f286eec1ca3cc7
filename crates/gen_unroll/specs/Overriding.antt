-- The overrides with which a module is unrolled once more: the values that its parameters have (IEEE Std 1364-2005, 12.2).
use Rattle.std.specs.Prelude.{List, [], ◌∷◌, ◌++◌, map, Option, Some}
use Rattle.typed_ir.specs.declared.constant.Const.{Const}
use Rattle.verilog_ast.specs.Items as i
use Rattle.verilog_ast.specs.Items.{ModuleItem, ModuleDeclaration}
use Rattle.gen_unroll.specs.declared.parameter_sort.ParameterSort.{ParameterSort}
use Rattle.gen_unroll.specs.declared.parameter_sort.ParameterSort.TheVariants as sort
use Rattle.gen_unroll.specs.Values.{ConstantValue, constant_of}

abbrev pub sort_of_each : {A : Type 0} → ParameterSort → List A → List ParameterSort
sort_of_each s xs = map (λ x. s) xs

abbrev pub item_sorts : ModuleItem → List ParameterSort
item_sorts (i.Items x xs) = item_sorts x ++ item_sorts xs
item_sorts (i.Region at xs) = item_sorts xs
item_sorts (i.Parameters at k ps) = sort_of_each sort.Overridable ps
item_sorts (i.LocalParameters at k ps) = sort_of_each sort.Local ps
item_sorts other = []

-- of each parameter and localparam outside of generate blocks, in the order of the text, whether an instance can override it
abbrev pub constant_sorts : ModuleDeclaration → List ParameterSort
constant_sorts m = sort_of_each sort.Overridable m.parameters ++ item_sorts m.items

abbrev pub override_if : ParameterSort → Const → List (Option ConstantValue)
override_if sort.Overridable c = Some (constant_of c) ∷ []
override_if sort.Local c = []

-- the values of those that can be
abbrev pub overrides_of : List ParameterSort → List Const → List (Option ConstantValue)
overrides_of [] cs = []
overrides_of (s ∷ ss) [] = []
overrides_of (s ∷ ss) (c ∷ cs) = override_if s c ++ overrides_of ss cs
