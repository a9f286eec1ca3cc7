-- The instances that a visit finds in a module, and their clock ports beside them: each has a name of the module's text, and its clock port is
-- one of its own module's ports (IEEE Std 1364-2005, 12.1.2 and 12.3).
use Rattle.std.proofs.Common.{◌≡◌, ℕ, false, List, [], ◌∷◌, ◌++◌, All, map, Option, Some, None, Result, Ok, refl, sym, ◌∙◌, ap, subst}
use Rattle.std.specs.List.{AllZip}
use Rattle.std.proofs.lemmas.List.Elements.{All-nil, All-cons, All-head, All-tail}
use Rattle.std.proofs.lemmas.Option.{same_Some}
use Rattle.ls_text.specs.declared.fault.Fault.{Fault}
use Rattle.verilog_ast.specs.declared.identifier.Identifier.{Identifier}
use Rattle.verilog_ast.specs.Items as i
use Rattle.verilog_ast.specs.Items.{ConnectionList, ModuleInstance, ModuleItem, ModuleDeclaration}
use Rattle.width_rules.specs.Scopes.{Scope}
use Rattle.gen_unroll.specs.Reaches.{Reach, innermost, in_reach, reach_in}
use Rattle.gen_unroll.specs.Steps.{GenerateBlock, ModuleStep, Listed, Port, Parameter, Item, Labelled, Opened, Closed, blocks_in}
use Rattle.gen_unroll.specs.Unrolled.{unrolled_module}
use Rattle.ls_text.specs.Answers.{◌>>=◌}
use Rattle.gen_unroll.specs.Values.{ConstantValue}
use Rattle.gen_unroll.specs.Declarations.{instance_name}
use Rattle.gen_unroll.proofs.Answered.{err_or_ok, ok_same, first_step}
use Rattle.module_names.specs.Modules.{module_named, parameters_of, header_ports}
use Rattle.clock_rules.specs.Clocks.{all_free, declared_free, reg_free, assignment_free, statement_free, posedge, clock_of, clocks_of, clocks_in, unless_misused, clock_item}
use Rattle.clock_rules.specs.Connections.{connected}
use Rattle.elaborate.specs.declared.declaration_kind.DeclarationKind.TheVariants as kind
use Rattle.elaborate.specs.Checks.{ModuleChild, Checked, nothing_checked, declaration, each, plain, or_no_module, one_instance, instances, check_item, check_step, check_steps, ports_declared, checked}
use Rattle.elaborate.specs.Clocks.{with_clock, own_port, declared_port, clock_step, clock_steps}
use Rattle.elaborate.specs.Overrides.{overridden}
use Rattle.elaborate.specs.Tables.{Table}
use Rattle.elaborate.specs.Visits.{Visited, top_ports, clocked, with_clocks, visited}
use Rattle.version_swap.proofs.KeptChildren.{are_instances, are_instances_here, children_kept, name_kept}
use Rattle.version_swap.proofs.OwnClocks.{IsPortOf, clock_own}
use Rattle.version_swap.proofs.StepNames.{named_by, AreNamed, IsStepNamed, told_go}

-- ---- lists side by side

pushed : {A B : Type 0} (R : A → B → Type 0) (xs : List A) (ys : List B) (x : A) (y : B) → AllZip R xs ys → R x y
    → AllZip R (xs ++ x ∷ []) (ys ++ y ∷ [])
pushed R [] [] x y all last = (last, tt)
pushed R [] (b ∷ ys) x y all last = absurd all
pushed R (a ∷ xs) [] x y all last = absurd all
pushed R (a ∷ xs) (b ∷ ys) x y all last = (all.0, pushed R xs ys x y all.1 last)

moved : {A B : Type 0} (R : A → B → Type 0) {xs us : List A} {ys vs : List B} → xs ≡ us → ys ≡ vs → AllZip R xs ys → AllZip R us vs
moved R {xs} {us} {ys} {vs} same also all = subst (λ (zs : List _). AllZip R zs vs) same (subst (λ (zs : List _). AllZip R xs zs) also all)

-- ---- what is known of an instance: its name, and that its clock port is a port of the module of this name

pub record IsOwn (P : Identifier → Type 0) (ms : List ModuleDeclaration) (name : Identifier) (instantiated : ℕ) (clock : Option ℕ) : Type 0 where
  pub named : P name
  pub own : (m : ModuleDeclaration) → module_named instantiated ms ≡ Some m → IsPortOf (header_ports m.ports) clock

module _ (P : Identifier → Type 0) (ms : List ModuleDeclaration) where
  abbrev pub IsOwnChild : ModuleChild → Option ℕ → Type 0
  IsOwnChild c k = IsOwn P ms c.name c.instantiated.name.0 k

  abbrev pub AreOwn : List ModuleChild → List (Option ℕ) → Type 0
  AreOwn cs ks = AllZip IsOwnChild cs ks

  -- ---- instances

  abbrev child : Reach → Identifier → List (Option ConstantValue) → ModuleInstance → ModuleChild
  child here n vs x = record { block = innermost here.blocks; name = x.name; instantiated = n; overrides = vs }

  record IsFound (here : Reach) (m : ModuleDeclaration) (n : Identifier) (vs : List (Option ConstantValue)) (x : ModuleInstance) (c end : Checked)
      : Type 0 where
    one_more : c.children ++ child here n vs x ∷ [] ≡ end.children
    ports : connected (header_ports m.ports) x.connections ≡ Ok tt

  instance_found : (here : Reach) (m : ModuleDeclaration) (n : Identifier) (vs : List (Option ConstantValue)) (x : ModuleInstance) (c end : Checked)
      → one_instance here m n vs x c ≡ Ok end → IsFound here m n vs x c end
  unfolding one_instance
  instance_found here m n vs x c end is =
      let d = declaration kind.Instance None false x.name in
      let after : Checked → Checked = λ next. record next { children = next.children ++ child here n vs x ∷ [] } in
      let first = first_step (plain here x.name d c) (λ next. connected (header_ports m.ports) x.connections >>= λ _. Ok (after next)) end is in
      let second = first_step (connected (header_ports m.ports) x.connections) (λ _. Ok (after first.value)) end first.second in
      record {
        one_more = ap (λ (cs : List ModuleChild). cs ++ child here n vs x ∷ []) (name_kept here x.name d c first.value first.first)
            ∙ ap (λ (next : Checked). next.children) (ok_same (after first.value) end second.second);
        ports = second.first;
      }

  each_own : (here : Reach) (scope : Scope) (m : ModuleDeclaration) (n : Identifier) (vs : List (Option ConstantValue)) (xs : List ModuleInstance)
      (c end : Checked) (ks ls : List (Option ℕ)) → module_named n.name.0 ms ≡ Some m → All P (map instance_name xs) → AreOwn c.children ks
      → each (one_instance here m n vs) xs c ≡ Ok end → clocks_of m scope xs ks ≡ Ok ls → AreOwn end.children ls
  each_own here scope m n vs [] c end ks ls known names own is also =
      moved IsOwnChild (ap (λ (next : Checked). next.children) (ok_same c end is)) (ok_same ks ls also) own
  each_own here scope m n vs (x ∷ xs) c end ks ls known names own is also =
      let one = first_step (one_instance here m n vs x c) (each (one_instance here m n vs) xs) end is in
      let clock = first_step (clock_of m scope x.connections) (λ k. clocks_of m scope xs (ks ++ k ∷ [])) ls also in
      let found = instance_found here m n vs x c one.value one.first in
      let port = clock_own m scope x.connections clock.value found.ports clock.first in
      let here_own : IsOwnChild (child here n vs x) clock.value = record {
        named = All-head P x.name (map instance_name xs) names;
        own = λ d there. subst (λ (e : ModuleDeclaration). IsPortOf (header_ports e.ports) clock.value) (same_Some m d (sym known ∙ there)) port;
      } in
      each_own here scope m n vs xs one.value end (ks ++ clock.value ∷ []) ls known (All-tail P x.name (map instance_name xs) names)
      (subst (λ (cs : List ModuleChild). AreOwn cs (ks ++ clock.value ∷ [])) found.one_more
      (pushed IsOwnChild c.children ks (child here n vs x) clock.value own here_own)) one.second clock.second

  -- where the module is there
  with_module : (here : Reach) (scope : Scope) (o : Option ModuleDeclaration) (n : Identifier) (overrides : Option ConnectionList)
      (xs : List ModuleInstance) (c end : Checked) (ks ls : List (Option ℕ)) → module_named n.name.0 ms ≡ o → All P (map instance_name xs)
      → AreOwn c.children ks
      → (or_no_module o n >>= λ m. overridden here.scope (parameters_of m) overrides >>= λ vs. each (one_instance here m n vs) xs c) ≡ Ok end
      → clocks_in o scope xs ks ≡ Ok ls → AreOwn end.children ls
  with_module here scope None n overrides xs c end ks ls known names own is also = err_or_ok _ end is
  with_module here scope (Some m) n overrides xs c end ks ls known names own is also =
      let values = first_step (overridden here.scope (parameters_of m) overrides) (λ vs. each (one_instance here m n vs) xs c) end is in
      each_own here scope m n values.value xs c end ks ls known names own values.second also

  instances_own : (here : Reach) (scope : Scope) (n : Identifier) (overrides : Option ConnectionList) (xs : List ModuleInstance) (c end : Checked)
      (ks ls : List (Option ℕ)) → All P (map instance_name xs) → AreOwn c.children ks → instances ms here n overrides xs c ≡ Ok end
      → clocks_in (module_named n.name.0 ms) scope xs ks ≡ Ok ls → AreOwn end.children ls
  unfolding instances
  instances_own here scope n overrides xs c end ks ls names own is also =
      with_module here scope (module_named n.name.0 ms) n overrides xs c end ks ls refl names own is also

  -- ---- the clocks of what has no instances

  misused_or : (free : Result (Unit {0}) Fault) (ks ls : List (Option ℕ)) → unless_misused free ks ≡ Ok ls → ks ≡ ls
  misused_or free ks ls is = ok_same ks ls (first_step free (λ _. Ok ks) ls is).second

  item_clocks : (scope : Scope) (x : ModuleItem) (ks ls : List (Option ℕ)) → are_instances x ≡ false → clock_item ms scope x ks ≡ Ok ls → ks ≡ ls
  item_clocks scope (i.Outputs at net k xs) ks ls other is = misused_or (all_free (declared_free scope) xs) ks ls is
  item_clocks scope (i.Wires at k xs) ks ls other is = misused_or (all_free (declared_free scope) xs) ks ls is
  item_clocks scope (i.Regs at k xs) ks ls other is = misused_or (all_free (reg_free scope) xs) ks ls is
  item_clocks scope (i.Assigns at xs) ks ls other is = misused_or (all_free (assignment_free scope) xs) ks ls is
  item_clocks scope (i.Combinational at x) ks ls other is = misused_or (statement_free scope x) ks ls is
  item_clocks scope (i.Clocked at n x) ks ls other is = misused_or (posedge scope n >>= λ _. statement_free scope x) ks ls is
  item_clocks scope (i.Instances n overrides xs) ks ls other is = absurd cc
  item_clocks scope _ ks ls other is = ok_same ks ls is

  step_clocks : (clock : Option ℕ) (table : Table) (scope : Scope) (s : ModuleStep) (ks ls : List (Option ℕ)) → are_instances_here s ≡ false
      → clock_step ms clock table scope s ks ≡ Ok ls → ks ≡ ls
  step_clocks clock table scope (Listed n) ks ls other is = misused_or (own_port clock table n) ks ls is
  step_clocks clock table scope (Port p) ks ls other is = misused_or (declared_port clock table scope p) ks ls is
  step_clocks clock table scope (Item x) ks ls other is = item_clocks scope x ks ls other is
  step_clocks clock table scope _ ks ls other is = ok_same ks ls is

  -- ---- steps

  kept_own : (clock : Option ℕ) (table : Table) (here : Reach) (scope : Scope) (s : ModuleStep) (c end : Checked) (ks ls : List (Option ℕ))
      → are_instances_here s ≡ false → AreOwn c.children ks → check_step ms here s c ≡ Ok end → clock_step ms clock table scope s ks ≡ Ok ls
      → AreOwn end.children ls
  kept_own clock table here scope s c end ks ls other own is also =
      moved IsOwnChild (children_kept ms here s c end other is) (step_clocks clock table scope s ks ls other also) own

  item_own : (clock : Option ℕ) (table : Table) (here : Reach) (scope : Scope) (x : ModuleItem) (c end : Checked) (ks ls : List (Option ℕ))
      → All P (named_by x) → AreOwn c.children ks → check_item ms here x c ≡ Ok end → clock_item ms scope x ks ≡ Ok ls → AreOwn end.children ls
  item_own clock table here scope (i.Instances n overrides xs) c end ks ls names own is also =
      instances_own here scope n overrides xs c end ks ls names own is also
  item_own clock table here scope other c end ks ls names own is also =
      kept_own clock table here scope (Item other) c end ks ls refl own is also

  step_own : (clock : Option ℕ) (table : Table) (here : Reach) (scope : Scope) (s : ModuleStep) (c end : Checked) (ks ls : List (Option ℕ))
      → IsStepNamed P s → AreOwn c.children ks → check_step ms here s c ≡ Ok end → clock_step ms clock table scope s ks ≡ Ok ls
      → AreOwn end.children ls
  step_own clock table here scope (Item x) c end ks ls names own is also = item_own clock table here scope x c end ks ls names own is also
  step_own clock table here scope other c end ks ls names own is also = kept_own clock table here scope other c end ks ls refl own is also

  steps_own : (clock : Option ℕ) (table : Table) (here there : Reach) (steps : List ModuleStep) (c end : Checked) (ks ls : List (Option ℕ))
      → All (IsStepNamed P) steps → AreOwn c.children ks → check_steps ms here steps c ≡ Ok end
      → clock_steps ms clock table there steps ks ≡ Ok ls → AreOwn end.children ls
  steps_own clock table here there [] c end ks ls names own is also =
      moved IsOwnChild (ap (λ (next : Checked). next.children) (ok_same c end is)) (ok_same ks ls also) own
  steps_own clock table here there (s ∷ steps) c end ks ls names own is also =
      let one = first_step (check_step ms here s c) (λ next. check_steps ms (in_reach s here) steps next) end is in
      let clocks = first_step (clock_step ms clock table there.scope s ks) (λ more. clock_steps ms clock table (in_reach s there) steps more) ls
      also in
      steps_own clock table (in_reach s here) (in_reach s there) steps one.value end clocks.value ls (All-tail (IsStepNamed P) s steps names)
      (step_own clock table here there.scope s c one.value ks clocks.value (All-head (IsStepNamed P) s steps names) own one.first clocks.first)
      one.second clocks.second

  -- ---- a visit

  abbrev pub IsLabelled : GenerateBlock → Type 0
  IsLabelled b = P b.label

  labels_named : (steps : List ModuleStep) → All (IsStepNamed P) steps → All IsLabelled (blocks_in steps)
  labels_named [] all = All-nil IsLabelled
  labels_named (Opened b items ∷ steps) all =
      All-cons IsLabelled b (blocks_in steps) (All-head (IsStepNamed P) (Opened b items) steps all)
      (labels_named steps (All-tail (IsStepNamed P) (Opened b items) steps all))
  labels_named (Listed n ∷ steps) all = labels_named steps (All-tail (IsStepNamed P) (Listed n) steps all)
  labels_named (Port p ∷ steps) all = labels_named steps (All-tail (IsStepNamed P) (Port p) steps all)
  labels_named (Parameter s n v ∷ steps) all = labels_named steps (All-tail (IsStepNamed P) (Parameter s n v) steps all)
  labels_named (Item x ∷ steps) all = labels_named steps (All-tail (IsStepNamed P) (Item x) steps all)
  labels_named (Labelled n ∷ steps) all = labels_named steps (All-tail (IsStepNamed P) (Labelled n) steps all)
  labels_named (Closed ∷ steps) all = labels_named steps (All-tail (IsStepNamed P) Closed steps all)

  checks_walked : (turns : ℕ) (m : ModuleDeclaration) (vs : List (Option ConstantValue)) (c : Checked) → checked turns ms m vs ≡ Ok c
      → check_steps ms (reach_in m) (unrolled_module turns vs m).said nothing_checked ≡ Ok c
  unfolding checked
  checks_walked turns m vs c is =
      let t = unrolled_module turns vs m in
      let first = first_step (check_steps ms (reach_in m) t.said nothing_checked)
      (λ (next : Checked). t.ending >>= λ _. ports_declared (header_ports m.ports) next.declared >>= λ _. Ok next) c is in
      let second = first_step t.ending (λ _. ports_declared (header_ports m.ports) first.value.declared >>= λ _. Ok first.value) c first.second in
      let third = first_step (ports_declared (header_ports m.ports) first.value.declared) (λ _. Ok first.value) c second.second in
      first.first ∙ ap Ok (ok_same first.value c third.second)

  pub visit_own : (turns : ℕ) (most : Option ℕ) (m : ModuleDeclaration) (vs : List (Option ConstantValue)) (clock : Option ℕ) (v : Visited)
      → AreNamed P m.items → visited turns ms most m vs clock ≡ Ok v → AreOwn v.checks.children v.clocks × All IsLabelled v.blocks
  unfolding visited
  visit_own turns most m vs clock v names is =
      let said = (unrolled_module turns vs m).said in
      let all = told_go P turns vs m names in
      let first = first_step (checked turns ms m vs)
      (λ (c : Checked). clocked ms m said most clock c.declared >>= λ ks. Ok (with_clocks m said c ks)) v is in
      let c = first.value in
      let second = first_step (clocked ms m said most clock c.declared) (λ ks. Ok (with_clocks m said c ks)) v first.second in
      let third = first_step (top_ports most clock (header_ports m.ports) c.declared)
      (λ _. clock_steps ms clock c.declared (with_clock clock (reach_in m)) said []) second.value second.first in
      let own = steps_own clock c.declared (reach_in m) (with_clock clock (reach_in m)) said nothing_checked c [] second.value all tt
      (checks_walked turns m vs c first.first) third.second in
      subst (λ (w : Visited). AreOwn w.checks.children w.clocks × All IsLabelled w.blocks)
      (ok_same (with_clocks m said c second.value) v second.second) (own, labels_named said all)
