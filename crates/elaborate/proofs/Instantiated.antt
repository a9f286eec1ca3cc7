-- Instances of a module that a design has.
use Rattle.std.proofs.Common.{◌≡◌, List, map, Result, Ok, Err, IsErrAnd, Global, Vec, sym, ◌∙◌, ap, subst}
use Rattle.std.specs.Prelude.{Option, Some}
use Rattle.ls_text.specs.declared.fault.Fault.{Fault}
use Rattle.ls_text.specs.declared.refusal.Refusal.{Refusal}
use Rattle.ls_text.specs.declared.refusal.Refusal.TheVariants as refusal
use Rattle.typed_ir.specs.declared.constant.Const.{Const}
use Rattle.verilog_ast.specs.declared.identifier.Identifier.{Identifier}
use Rattle.verilog_ast.specs.Items.{ConnectionList, ModuleInstance, ModuleDeclaration}
use Rattle.gen_unroll.specs.Reaches.{Reach}
use Rattle.ls_text.specs.Answers.{◌>>=◌, Answers, Leads}
use Rattle.gen_unroll.specs.Values.{ConstantValue}
use Rattle.gen_unroll.specs.Views.{override_view}
use Rattle.elaborate.specs.Checks.{Checked, each, one_instance, instances, or_no_module}
use Rattle.elaborate.specs.Overrides.{overridden}
use Rattle.module_names.specs.Modules.{module_named, parameters_of}

abbrev pub overrides_view : Vec (Option Const) Global → List (Option ConstantValue)
overrides_view vs = map override_view vs.items

-- its overrides, and then instance by instance
of_module : (ms : List ModuleDeclaration) (here : Reach) (n : Identifier) (overrides : Option ConnectionList) (xs : List ModuleInstance) (c : Checked) (m : ModuleDeclaration) (names : List Identifier)
    → Some m ≡ module_named n.name.0 ms → names ≡ parameters_of m
    → instances ms here n overrides xs c ≡ (overridden here.scope names overrides >>= λ vs. each (one_instance here m n vs) xs c)
unfolding instances
of_module ms here n overrides xs c m names there are =
    ap (λ (o : Option ModuleDeclaration). or_no_module o n >>= λ x. overridden here.scope (parameters_of x) overrides >>= λ vs. each (one_instance here x n vs) xs c) (sym there)
    ∙ ap (λ (ns : List Identifier). overridden here.scope ns overrides >>= λ vs. each (one_instance here m n vs) xs c) (sym are)

refused : (ms : List ModuleDeclaration) (here : Reach) (n : Identifier) (overrides : Option ConnectionList) (xs : List ModuleInstance) (c : Checked) (m : ModuleDeclaration) (names : List Identifier)
    → Some m ≡ module_named n.name.0 ms → names ≡ parameters_of m
    → (e : Refusal) (now : Checked) → Answers (Err e) overrides_view (overridden here.scope names overrides)
    → Leads {A = Unit {0}} (Err e) now (instances ms here n overrides xs c)
refused ms here n overrides xs c m names there are (refusal.Fault f) now bad =
    of_module ms here n overrides xs c m names there are ∙ ap (λ (z : Result (List (Option ConstantValue)) Fault). z >>= λ vs. each (one_instance here m n vs) xs c) bad
refused ms here n overrides xs c m names there are refusal.NoMemory now bad = tt

-- an override is refused
pub overrides_refused : (ms : List ModuleDeclaration) (here : Reach) (n : Identifier) (overrides : Option ConnectionList) (xs : List ModuleInstance) (c : Checked) (m : ModuleDeclaration) (names : List Identifier)
    → Some m ≡ module_named n.name.0 ms → names ≡ parameters_of m
    → (r : Result (Unit {0}) Refusal) (e : Refusal) (now : Checked) → IsErrAnd r (λ y. y ≡ e)
    → Answers (Err e) overrides_view (overridden here.scope names overrides)
    → Leads r now (instances ms here n overrides xs c)
overrides_refused ms here n overrides xs c m names there are (Err y) e now is bad =
    subst (λ (z : Refusal). Leads {A = Unit {0}} (Err z) now (instances ms here n overrides xs c)) (sym is) (refused ms here n overrides xs c m names there are e now bad)
overrides_refused ms here n overrides xs c m names there are (Ok x) e now is bad = absurd is

-- none is
pub overrides_known : (ms : List ModuleDeclaration) (here : Reach) (n : Identifier) (overrides : Option ConnectionList) (xs : List ModuleInstance) (c : Checked) (m : ModuleDeclaration) (names : List Identifier)
    → Some m ≡ module_named n.name.0 ms → names ≡ parameters_of m
    → (r : Result (Unit {0}) Refusal) (vs : List (Option ConstantValue)) (now : Checked)
    → overridden here.scope names overrides ≡ Ok vs
    → Leads r now (each (one_instance here m n vs) xs c) → Leads r now (instances ms here n overrides xs c)
overrides_known ms here n overrides xs c m names there are r vs now good h =
    subst (λ (z : Result Checked Fault). Leads r now z)
    (sym (of_module ms here n overrides xs c m names there are ∙ ap (λ (z : Result (List (Option ConstantValue)) Fault). z >>= λ vs. each (one_instance here m n vs) xs c) good)) h
