-- Each instance of a design has a name of its text, and a clock port, if any, that is one of its module's ports (IEEE Std 1364-2005, 12.1.2).
use Rattle.std.proofs.Common.{◌≡◌, ℕ, zero, suc, ◌==◌, Bool, true, false, if◌then◌else◌, List, [], ◌∷◌, ◌++◌, All, length, Option, Some, None, Result, Ok, refl, sym, ◌∙◌, ap, subst}
use Rattle.std.specs.Prelude.{nat_le}
use Rattle.std.proofs.lemmas.List.Elements.{All-nil, All-head, All-tail, All-push}
use Rattle.std.proofs.lemmas.Option.{none-some, same_Some}
use Rattle.ls_text.specs.declared.fault.Fault.{Fault}
use Rattle.verilog_ast.specs.declared.identifier.Identifier.{Identifier}
use Rattle.verilog_ast.specs.Items.{ModuleDeclaration}
use Rattle.width_rules.specs.Faults.{fault_at}
use Rattle.ls_text.specs.Answers.{◌>>=◌}
use Rattle.gen_unroll.proofs.Answered.{err_or_ok, ok_same, first_step, past_test}
use Rattle.module_names.specs.Listings.{is_listed}
use Rattle.module_names.specs.Modules.{module_named, header_ports}
use Rattle.elaborate.specs.declared.limits.Limits.{Limits}
use Rattle.elaborate.specs.Checks.{ModuleChild, or_no_module}
use Rattle.elaborate.specs.Clocks.{top_clock}
use Rattle.elaborate.specs.Elaborated.{Standing, Step, standing, top_standing, each_child, is_on, of_module, child_at}
use Rattle.elaborate.specs.Elaborated.{within as instances_within, top_of, from_top, elaborated}
use Rattle.elaborate.specs.Visits.{visited}
use Rattle.version_swap.proofs.InstanceModules.{top_named}
use Rattle.version_swap.proofs.OwnChildren.{IsOwn, IsOwnChild, AreOwn, visit_own}
use Rattle.version_swap.proofs.OwnClocks.{IsPortOf}
use Rattle.version_swap.proofs.TreeNames.{IsModuleNamed}

module _ (P : Identifier → Type 0) (l : Limits) (ms : List ModuleDeclaration) (named : All (IsModuleNamed P) ms) where
  -- the first module of a name is one of them
  pub module_is : (name : ℕ) (ds : List ModuleDeclaration) (m : ModuleDeclaration) → All (IsModuleNamed P) ds → module_named name ds ≡ Some m
      → IsModuleNamed P m
  module_is name [] m all is = absurd (none-some m is)
  module_is name (d ∷ ds) m all is =
      cases (name == d.name.name.0) (module_is name ds m (All-tail (IsModuleNamed P) d ds all)) is
    where
      cases : (b : Bool) → (module_named name ds ≡ Some m → IsModuleNamed P m) → (if b then Some d else module_named name ds) ≡ Some m
          → IsModuleNamed P m
      cases true more is = subst (IsModuleNamed P) (same_Some d m is) (All-head (IsModuleNamed P) d ds all)
      cases false more is = more is

  abbrev pub IsOwnStanding : Standing → Type 0
  IsOwnStanding s = IsOwn P ms s.name s.instantiated s.clock

  abbrev AllOwn : List Standing → Type 0
  AllOwn all = All IsOwnStanding all

  -- ---- instances, one after another

  each_walked : (step : Step)
      → ((c : ModuleChild) (k : Option ℕ) (all new : List Standing) → IsOwnChild P ms c k → AllOwn all → step c k all ≡ Ok new → AllOwn new)
      → (cs : List ModuleChild) (ks : List (Option ℕ)) (all new : List Standing) → AreOwn P ms cs ks → AllOwn all
      → each_child step cs ks all ≡ Ok new → AllOwn new
  each_walked step one [] ks all new own are is = subst AllOwn (ok_same all new is) are
  each_walked step one (c ∷ cs) [] all new own are is = absurd own
  each_walked step one (c ∷ cs) (k ∷ ks) all new own are is =
      let s = first_step (step c k all) (λ more. each_child step cs ks more) new is in
      each_walked step one cs ks s.value new own.1 (one c k all s.value own.0 are s.first) s.second

  is_there : (o : Option ModuleDeclaration) (n : Identifier) (m : ModuleDeclaration) → or_no_module o n ≡ Ok m → o ≡ Some m
  is_there None n m is = err_or_ok (fault_at 20 n) m is
  is_there (Some d) n m is = ap Some (ok_same d m is)

  child_walked : (left : ℕ) (path : List ℕ) (above : ℕ) (c : ModuleChild) (k : Option ℕ) (all new : List Standing) → IsOwnChild P ms c k
      → AllOwn all → child_at l ms left path above c k all ≡ Ok new → AllOwn new
  child_walked zero path above c k all new own are is = err_or_ok (fault_at 23 c.instantiated) new is
  child_walked (suc left) path above c k all new own are is =
      let further = path ++ c.instantiated.name.0 ∷ [] in
      let below = child_at l ms left further in
      let there : Result ModuleDeclaration Fault = or_no_module (module_named c.instantiated.name.0 ms) c.instantiated in
      let few = past_test (is_on path c.instantiated.name.0) (fault_at 23 c.instantiated) _ new is in
      let room = past_test (nat_le l.instances (length all)) (fault_at 40 c.instantiated)
      (there >>= λ d. of_module l ms above below c k all d) new few.1 in
      let m = first_step there (λ d. of_module l ms above below c k all d) new room.1 in
      let v = first_step (visited l.turns ms None m.value c.overrides k)
      (λ v. instances_within (below (length all)) v (all ++ standing above c k v ∷ [])) new m.second in
      let names = module_is c.instantiated.name.0 ms m.value named
      (is_there (module_named c.instantiated.name.0 ms) c.instantiated m.value m.first) in
      each_walked (below (length all)) (λ d q xs ys o so e. child_walked left further (length all) d q xs ys o so e)
      v.value.checks.children v.value.clocks (all ++ standing above c k v.value ∷ []) new
      (visit_own P ms l.turns None m.value c.overrides k v.value names.1 v.first).0
      (All-push IsOwnStanding all (standing above c k v.value) are (record { named = own.named; own = own.own })) v.second

  -- ---- the top

  top_port : (clock : ℕ) (m : ModuleDeclaration) → IsPortOf (header_ports m.ports) (top_clock clock m)
  top_port clock m = cases (is_listed clock (header_ports m.ports)) refl
    where
      cases : (b : Bool) → is_listed clock (header_ports m.ports) ≡ b → IsPortOf (header_ports m.ports) (if b then Some clock else None)
      cases true listed = listed
      cases false listed = tt

  top_walked : (clock : ℕ) (m : ModuleDeclaration) (all : List Standing) → module_named m.name.name.0 ms ≡ Some m
      → from_top l ms (top_clock clock m) m ≡ Ok all → AllOwn all
  top_walked clock m all there is =
      let path = m.name.name.0 ∷ [] in
      let k = top_clock clock m in
      let names = module_is m.name.name.0 ms m named there in
      let v = first_step (visited l.turns ms (Some l.top_ports) m [] k)
      (λ v. instances_within (child_at l ms l.levels path 0) v (top_standing m k v ∷ [])) all is in
      each_walked (child_at l ms l.levels path 0) (λ c q xs ys o so e. child_walked l.levels path 0 c q xs ys o so e)
      v.value.checks.children v.value.clocks (top_standing m k v.value ∷ []) all
      (visit_own P ms l.turns (Some l.top_ports) m [] k v.value names.1 v.first).0
      (All-push IsOwnStanding [] (top_standing m k v.value) (All-nil IsOwnStanding)
      (record {
        named = names.0;
        own = λ d same. subst (λ (e : ModuleDeclaration). IsPortOf (header_ports e.ports) k) (same_Some m d (sym there ∙ same)) (top_port clock m);
      })) v.second

  -- the instances of a design
  pub all_own : (name clock : ℕ) (all : List Standing) → elaborated l ms name clock ≡ Ok all → All IsOwnStanding all
  unfolding elaborated
  all_own name clock all is =
      let m = first_step (top_of l ms name) (λ m. from_top l ms (top_clock clock m) m) all is in
      top_walked clock m.value all (top_named l ms name m.value m.first) m.second
