-- What is known of the instances of a tree: their modules in the code, and what a visit of each found.
use Rattle.std.proofs.Common.{◌≡◌, ℕ, ◌==◌, Bool, true, false, if◌then◌else◌, List, [], ◌∷◌, map, Ok, refl, sym, ◌∙◌, ap}
use Rattle.std.specs.Prelude.{Option, Some, None}
use Rattle.std.specs.List.{All, AllZip}
use Rattle.std.specs.Option.{option_map}
use Rattle.std.proofs.lemmas.List.Elements.{All-head, All-tail}
use Rattle.std.proofs.lemmas.Option.{none-some, same_Some}
use Rattle.ls_text.proofs.Lists.{none_is_some, same_first, same_others}
use Rattle.typed_ir.specs.Orders.{Each}
use Rattle.verilog_ast.specs.declared.module.Module.{Module}
use Rattle.verilog_ast.specs.Items.{ModuleDeclaration}
use Rattle.verilog_ast.specs.Views.{declaration_of, declarations_of}
use Rattle.typed_ir.specs.declared.instance.Instance.{Instance}
use Rattle.gen_unroll.specs.Values.{ConstantValue, constant_of}
use Rattle.module_names.specs.Modules.{module_named}
use Rattle.elaborate.specs.Elaborated.{Standing}
use Rattle.elaborate.specs.Trees.{TreeInstance, seen, all_seen}
use Rattle.elaborate.specs.TreeViews.{instance_view}
use Rattle.elaborate.specs.Views.{port_of}
use Rattle.elaborate.specs.Visits.{Visited, visited}
use Rattle.unit_jobs.specs.Jobs.{module_called}
use Rattle.version_swap.specs.InstanceModules.{IsVisited}

-- ---- lists that are the same seen from two sides

pub side_by_side : {A B C : Type 0} (f : A → C) (g : B → C) (xs : List A) (ys : List B) → map f xs ≡ map g ys → AllZip (λ x y. f x ≡ g y) xs ys
side_by_side f g [] [] h = tt
side_by_side f g [] (y ∷ ys) h = none_is_some (g y) (map g ys) h
side_by_side f g (x ∷ xs) [] h = none_is_some (f x) (map f xs) (sym h)
side_by_side f g (x ∷ xs) (y ∷ ys) h =
    (same_first (f x) (g y) (map f xs) (map g ys) h, side_by_side f g xs ys (same_others (f x) (g y) (map f xs) (map g ys) h))

-- ---- the module of a name, among those of the code and among what they mean

abbrev declaration : Module → ModuleDeclaration
declaration m = declaration_of m.body

pub same_module : (name : ℕ) (ms : List Module) → module_named name (declarations_of ms) ≡ option_map declaration (module_called name ms)
same_module name [] = refl
same_module name (m ∷ ms) = cases (name == m.body.name.name.0) (same_module name ms)
  where
    cases : (b : Bool) → module_named name (declarations_of ms) ≡ option_map declaration (module_called name ms)
        → (if b then Some (declaration m) else module_named name (declarations_of ms))
        ≡ option_map declaration (if b then Some m else module_called name ms)
    cases true more = refl
    cases false more = more

record IsCalled (name : ℕ) (ms : List Module) (d : ModuleDeclaration) : Type 0 where
  code : Module
  called : module_called name ms ≡ Some code
  same : declaration_of code.body ≡ d

found_in : (name : ℕ) (ms : List Module) (d : ModuleDeclaration) (o : Option Module) → module_called name ms ≡ o → option_map declaration o ≡ Some d
    → IsCalled name ms d
found_in name ms d None there is = absurd (none-some d is)
found_in name ms d (Some m) there is = record { code = m; called = there; same = same_Some (declaration m) d is }

is_called : (name : ℕ) (ms : List Module) (d : ModuleDeclaration) → module_named name (declarations_of ms) ≡ Some d → IsCalled name ms d
is_called name ms d is = found_in name ms d (module_called name ms) refl (sym (same_module name ms) ∙ is)

-- ---- an instance

-- its module in the code, and the visit that has its parameters and ports
pub record IsKnown (turns : ℕ) (ms : List Module) (x : Instance) : Type 0 where
  pub code : Module
  pub called : module_called x.of_module.0 ms ≡ Some code
  pub most : Option ℕ
  pub overrides : List (Option ConstantValue)
  pub clock : Option ℕ
  pub visit : Visited
  pub found : visited turns (declarations_of ms) most (declaration_of code.body) overrides clock ≡ Ok visit
  pub parameters : map constant_of x.parameters ≡ visit.checks.parameters
  pub ports : map port_of x.ports ≡ visit.ports

known : (turns : ℕ) (ms : List Module) (texts known_texts : List (List ℕ)) (all : List Standing) (x : Instance) (s : Standing)
    → IsVisited turns (declarations_of ms) s → instance_view known_texts x ≡ seen texts all s → IsKnown turns ms x
known turns ms texts known_texts all x s is same =
    let name : x.of_module.0 ≡ s.instantiated = ap (λ (i : TreeInstance). i.instantiated) same in
    let code = is_called s.instantiated ms is.declaration is.named in
    record {
      code = code.code;
      called = ap (λ (n : ℕ). module_called n ms) name ∙ code.called;
      most = is.most;
      overrides = s.overrides;
      clock = s.clock;
      visit = s.visited;
      found = ap (λ (d : ModuleDeclaration). visited turns (declarations_of ms) is.most d s.overrides s.clock) code.same ∙ is.found;
      parameters = ap (λ (i : TreeInstance). i.parameters) same;
      ports = ap (λ (i : TreeInstance). i.ports) same;
    }

each_known : (turns : ℕ) (ms : List Module) (texts known_texts : List (List ℕ)) (all : List Standing) (xs : List Instance) (ss : List Standing)
    → All (IsVisited turns (declarations_of ms)) ss → AllZip (λ x s. instance_view known_texts x ≡ seen texts all s) xs ss
    → Each (IsKnown turns ms) xs
each_known turns ms texts known_texts all [] ss are same = tt
each_known turns ms texts known_texts all (x ∷ xs) [] are same = absurd same
each_known turns ms texts known_texts all (x ∷ xs) (s ∷ ss) are same = (
  known turns ms texts known_texts all x s (All-head (IsVisited turns (declarations_of ms)) s ss are) same.0,
  each_known turns ms texts known_texts all xs ss (All-tail (IsVisited turns (declarations_of ms)) s ss are) same.1,
)

-- the instances of a tree
pub all_known : (turns : ℕ) (ms : List Module) (texts known_texts : List (List ℕ)) (all : List Standing) (xs : List Instance)
    → All (IsVisited turns (declarations_of ms)) all → map (instance_view known_texts) xs ≡ all_seen texts all → Each (IsKnown turns ms) xs
all_known turns ms texts known_texts all xs are same =
    each_known turns ms texts known_texts all xs all are (side_by_side (instance_view known_texts) (seen texts all) xs all same)
