-- Each instance of a design has what a visit of its module found.
use Rattle.std.proofs.Common.{◌≡◌, ℕ, zero, suc, ◌==◌, Bool, true, false, if◌then◌else◌, List, [], ◌∷◌, ◌++◌, length, Result, Ok, refl, sym, ◌∙◌}
use Rattle.std.proofs.Common.{ap, subst}
use Rattle.std.proofs.Common.{append_assoc, append-nil}
use Rattle.std.specs.Prelude.{Option, Some, None, nat_le}
use Rattle.std.specs.List.{All}
use Rattle.std.proofs.lemmas.Bool.{eqb-true}
use Rattle.std.proofs.lemmas.List.Elements.{All-nil, All-push}
use Rattle.std.proofs.lemmas.Option.{none-some, same_Some}
use Rattle.ls_text.specs.declared.fault.Fault.{Fault}
use Rattle.verilog_ast.specs.declared.identifier.Identifier.{Identifier}
use Rattle.verilog_ast.specs.Items.{ModuleDeclaration}
use Rattle.width_rules.specs.Faults.{fault_at}
use Rattle.ls_text.specs.Answers.{◌>>=◌}
use Rattle.gen_unroll.proofs.Answered.{err_or_ok, ok_same, first_step, past_test}
use Rattle.module_names.specs.Modules.{module_named}
use Rattle.elaborate.specs.declared.limits.Limits.{Limits}
use Rattle.elaborate.specs.Checks.{ModuleChild, or_no_module}
use Rattle.elaborate.specs.Clocks.{top_clock}
use Rattle.elaborate.specs.Elaborated.{Standing, Step, standing, top_standing, first_clock, clocks_behind, each_child, is_on, of_module, child_at}
use Rattle.elaborate.specs.Elaborated.{within as instances_within, named_once, unless_there, few_modules, top_module, top_of, from_top, elaborated}
use Rattle.elaborate.specs.Visits.{visited}
use Rattle.version_swap.specs.InstanceModules.{IsVisited}

-- ---- modules by their names

called_so : (name : ℕ) (n m : ModuleDeclaration) (rest : Option ModuleDeclaration) (b : Bool) → (name == n.name.name.0) ≡ b
    → (rest ≡ Some m → name ≡ m.name.name.0) → (if b then Some n else rest) ≡ Some m → name ≡ m.name.name.0
called_so name n m rest true same later is = eqb-true name n.name.name.0 same ∙ ap (λ (d : ModuleDeclaration). d.name.name.0) (same_Some n m is)
called_so name n m rest false same later is = later is

-- a module that is found by a name has it
called : (name : ℕ) (ms : List ModuleDeclaration) (m : ModuleDeclaration) → module_named name ms ≡ Some m → name ≡ m.name.name.0
called name [] m is = absurd (none-some m is)
called name (n ∷ ms) m is = called_so name n m (module_named name ms) (name == n.name.name.0) refl (called name ms m) is

named_so : (name : ℕ) (ms : List ModuleDeclaration) (m : ModuleDeclaration) → module_named name ms ≡ Some m → module_named m.name.name.0 ms ≡ Some m
named_so name ms m is = ap (λ (k : ℕ). module_named k ms) (sym (called name ms m is)) ∙ is

is_known : (o : Option ModuleDeclaration) (n : Identifier) (m : ModuleDeclaration) → or_no_module o n ≡ Ok m → o ≡ Some m
is_known None n m is = err_or_ok (fault_at 20 n) m is
is_known (Some d) n m is = ap Some (ok_same d m is)

-- ---- the top

is_top : (o : Option ModuleDeclaration) (m : ModuleDeclaration) → top_module o ≡ Ok m → o ≡ Some m
is_top None m is = err_or_ok _ m is
is_top (Some d) m is = ap Some (ok_same d m is)

-- where no two modules have one name, all of them are found
pub once_all : (before ms all : List ModuleDeclaration) → named_once before ms ≡ Ok all → all ≡ before ++ ms
once_all before [] all is = sym (ok_same before all is) ∙ sym (append-nil before)
once_all before (m ∷ ms) all is =
    let s = first_step (unless_there (module_named m.name.name.0 before) m.name) (λ _. named_once (before ++ m ∷ []) ms) all is in
    once_all (before ++ m ∷ []) ms all s.second ∙ append_assoc before (m ∷ []) ms

pub top_named : (l : Limits) (ms : List ModuleDeclaration) (name : ℕ) (m : ModuleDeclaration) → top_of l ms name ≡ Ok m
    → module_named m.name.name.0 ms ≡ Some m
unfolding top_of
top_named l ms name m is =
    let first = first_step (named_once [] ms) (λ all. few_modules l.modules all >>= λ _. top_module (module_named name all)) m is in
    let second = first_step (few_modules l.modules first.value) (λ _. top_module (module_named name first.value)) m first.second in
    named_so name ms m
    (subst (λ (xs : List ModuleDeclaration). module_named name xs ≡ Some m) (once_all [] ms first.value first.first)
    (is_top (module_named name first.value) m second.second))

-- ---- instances, one after another

abbrev AreVisited : (turns : ℕ) → List ModuleDeclaration → List Standing → Type 0
AreVisited turns ms all = All (IsVisited turns ms) all

each_visited : (turns : ℕ) (ms : List ModuleDeclaration) (step : Step)
    → ((c : ModuleChild) (k : Option ℕ) (all new : List Standing) → AreVisited turns ms all → step c k all ≡ Ok new → AreVisited turns ms new)
    → (cs : List ModuleChild) (ks : List (Option ℕ)) (all new : List Standing) → AreVisited turns ms all → each_child step cs ks all ≡ Ok new
    → AreVisited turns ms new
each_visited turns ms step one [] ks all new are is = subst (AreVisited turns ms) (ok_same all new is) are
each_visited turns ms step one (c ∷ cs) ks all new are is =
    let s = first_step (step c (first_clock ks) all) (λ more. each_child step cs (clocks_behind ks) more) new is in
    each_visited turns ms step one cs (clocks_behind ks) s.value new (one c (first_clock ks) all s.value are s.first) s.second

child_visited : (l : Limits) (ms : List ModuleDeclaration) (left : ℕ) (path : List ℕ) (above : ℕ) (c : ModuleChild) (k : Option ℕ)
    (all new : List Standing) → AreVisited l.turns ms all → child_at l ms left path above c k all ≡ Ok new → AreVisited l.turns ms new
child_visited l ms zero path above c k all new are is = err_or_ok (fault_at 23 c.instantiated) new is
child_visited l ms (suc left) path above c k all new are is =
    let further = path ++ c.instantiated.name.0 ∷ [] in
    let below = child_at l ms left further in
    let named : Result ModuleDeclaration Fault = or_no_module (module_named c.instantiated.name.0 ms) c.instantiated in
    let few = past_test (is_on path c.instantiated.name.0) (fault_at 23 c.instantiated) _ new is in
    let there = past_test (nat_le l.instances (length all)) (fault_at 40 c.instantiated)
    (named >>= λ d. of_module l ms above below c k all d) new few.1 in
    let m = first_step named (λ d. of_module l ms above below c k all d) new there.1 in
    let v = first_step (visited l.turns ms None m.value c.overrides k)
    (λ v. instances_within (below (length all)) v (all ++ standing above c k v ∷ [])) new m.second in
    each_visited l.turns ms (below (length all))
    (λ d q xs ys so e. child_visited l ms left further (length all) d q xs ys so e)
    v.value.checks.children v.value.clocks (all ++ standing above c k v.value ∷ []) new
    (All-push (IsVisited l.turns ms) all (standing above c k v.value) are
    (record {
      declaration = m.value;
      most = None;
      named = is_known (module_named c.instantiated.name.0 ms) c.instantiated m.value m.first;
      found = v.first;
    })) v.second

top_visited : (l : Limits) (ms : List ModuleDeclaration) (clock : Option ℕ) (m : ModuleDeclaration) (all : List Standing)
    → module_named m.name.name.0 ms ≡ Some m → from_top l ms clock m ≡ Ok all → AreVisited l.turns ms all
top_visited l ms clock m all named is =
    let path = m.name.name.0 ∷ [] in
    let v = first_step (visited l.turns ms (Some l.top_ports) m [] clock)
    (λ v. instances_within (child_at l ms l.levels path 0) v (top_standing m clock v ∷ [])) all is in
    each_visited l.turns ms (child_at l ms l.levels path 0) (λ c k xs ys so e. child_visited l ms l.levels path 0 c k xs ys so e)
    v.value.checks.children v.value.clocks (top_standing m clock v.value ∷ []) all
    (All-push (IsVisited l.turns ms) [] (top_standing m clock v.value) (All-nil (IsVisited l.turns ms))
    (record { declaration = m; most = Some l.top_ports; named = named; found = v.first })) v.second

-- the instances of a design
pub all_visited : (l : Limits) (ms : List ModuleDeclaration) (name clock : ℕ) (all : List Standing) → elaborated l ms name clock ≡ Ok all
    → All (IsVisited l.turns ms) all
unfolding elaborated
all_visited l ms name clock all is =
    let m = first_step (top_of l ms name) (λ m. from_top l ms (top_clock clock m) m) all is in
    top_visited l ms (top_clock clock m.value) m.value all (top_named l ms name m.value m.first) m.second
