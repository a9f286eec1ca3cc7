-- An instance has a value for each parameter and localparam outside of its module's generate blocks (IEEE Std 1364-2005, 12.2).
use Rattle.std.proofs.Common.{◌≡◌, ℕ, zero, suc, ◌+◌, ◌-◌, List, [], ◌∷◌, length, map, Option, Ok, refl, sym, ◌∙◌, ap, ap₂}
use Rattle.std.proofs.lemmas.List.{length-append, length-map}
use Rattle.std.proofs.lemmas.Result.{IfOk-at_ok}
use Rattle.verilog_ast.specs.declared.module.Module.{Module}
use Rattle.verilog_ast.specs.Items as i
use Rattle.verilog_ast.specs.Items.{ModuleItem, ModuleDeclaration}
use Rattle.verilog_ast.specs.Views.{declaration_of, declarations_of}
use Rattle.typed_ir.specs.declared.instance.Instance.{Instance}
use Rattle.gen_unroll.specs.declared.parameter_sort.ParameterSort.{ParameterSort}
use Rattle.gen_unroll.specs.declared.parameter_sort.ParameterSort.TheVariants as sort
use Rattle.gen_unroll.specs.Overriding.{sort_of_each, item_sorts, constant_sorts}
use Rattle.gen_unroll.specs.Reaches.{reach_in}
use Rattle.gen_unroll.specs.Steps.{ModuleStep, Parameter, Opened, Closed}
use Rattle.gen_unroll.specs.Unrolled.{unrolled_module, turn_limit}
use Rattle.ls_text.specs.Answers.{◌>>=◌}
use Rattle.gen_unroll.specs.Values.{ConstantValue, constant_of}
use Rattle.gen_unroll.proofs.Answered.{first_step, ok_same}
use Rattle.module_names.specs.Modules.{header_ports}
use Rattle.verilog_ast.specs.Declarations.{assigned_name, header_parameter_name}
use Rattle.module_registry.specs.Constants.{item_constants, constants_of}
use Rattle.elaborate.specs.Checks.{Checked, nothing_checked, check_steps, ports_declared, checked}
use Rattle.version_swap.specs.Outer.{outer_values}
use Rattle.version_swap.proofs.FoundValues.{parameters_found}
use Rattle.version_swap.proofs.KnownInstances.{IsKnown}
use Rattle.version_swap.proofs.Levels.{outer_sorts}
use Rattle.version_swap.proofs.Told.{IsTold, module_is_told}
use Rattle.version_swap.proofs.Together.{visit_has}

-- ---- as many sorts as names

item_many : (x : ModuleItem) → length (item_sorts x) ≡ length (item_constants x)
item_many (i.Items x xs) =
    length-append (item_sorts x) (item_sorts xs) ∙ ap₂ (λ (m n : ℕ). m + n) (item_many x) (item_many xs)
    ∙ sym (length-append (item_constants x) (item_constants xs))
item_many (i.Region at xs) = item_many xs
item_many (i.Parameters at k ps) = length-map ps (λ p. sort.Overridable) ∙ sym (length-map ps assigned_name)
item_many (i.LocalParameters at k ps) = length-map ps (λ p. sort.Local) ∙ sym (length-map ps assigned_name)
item_many other = refl

sorts_many : (m : ModuleDeclaration) → length (constant_sorts m) ≡ length (constants_of m)
sorts_many m =
    length-append (sort_of_each sort.Overridable m.parameters) (item_sorts m.items)
    ∙ ap₂ (λ (m n : ℕ). m + n) (length-map m.parameters (λ p. sort.Overridable) ∙ sym (length-map m.parameters header_parameter_name)) (item_many m.items)
    ∙ sym (length-append (map header_parameter_name m.parameters) (item_constants m.items))

-- ---- as many values as sorts

values_many : (n : ℕ) (steps : List ModuleStep) → length (outer_values n steps) ≡ length (outer_sorts n steps)
values_many n [] = refl
values_many zero (Parameter s x v ∷ steps) = ap (λ (k : ℕ). suc k) (values_many zero steps)
values_many (suc n) (Parameter s x v ∷ steps) = values_many (suc n) steps
values_many n (Opened b items ∷ steps) = values_many (suc n) steps
values_many n (Closed ∷ steps) = values_many (n - 1) steps
values_many n (other ∷ steps) = values_many n steps

checked_many : (turns : ℕ) (ms : List ModuleDeclaration) (m : ModuleDeclaration) (vs : List (Option ConstantValue)) (c : Checked)
    → checked turns ms m vs ≡ Ok c → length c.parameters ≡ length (constants_of m)
unfolding checked
checked_many turns ms m vs c is =
    let t = unrolled_module turns vs m in
    let steps = first_step (check_steps ms (reach_in m) t.said nothing_checked)
    (λ (next : Checked). t.ending >>= λ _. ports_declared (header_ports m.ports) next.declared >>= λ _. Ok next) c is in
    let end = first_step t.ending (λ _. ports_declared (header_ports m.ports) steps.value.declared >>= λ _. Ok steps.value) c steps.second in
    let ports = first_step (ports_declared (header_ports m.ports) steps.value.declared) (λ _. Ok steps.value) c end.second in
    let told : IsTold (constant_sorts m) t.said =
    IfOk-at_ok (λ _. IsTold (constant_sorts m) t.said) end.first (module_is_told turns vs m) in
    ap (λ (found : Checked). length found.parameters) (sym (ok_same steps.value c ports.second))
    ∙ ap (λ (values : List ConstantValue). length values) (parameters_found ms (reach_in m) t.said nothing_checked steps.value steps.first)
    ∙ values_many 0 t.said ∙ ap (λ (sorts : List ParameterSort). length sorts) told.outer ∙ sorts_many m

pub as_many_values : (ms : List Module) (x : Instance) (k : IsKnown turn_limit ms x)
    → length x.parameters ≡ length (constants_of (declaration_of k.code.body))
as_many_values ms x k =
    let m = declaration_of k.code.body in
    sym (length-map x.parameters constant_of) ∙ ap (λ (values : List ConstantValue). length values) k.parameters
    ∙ checked_many turn_limit (declarations_of ms) m k.overrides k.visit.checks
    (visit_has turn_limit (declarations_of ms) k.most m k.overrides k.clock k.visit k.found).0
