-- A module's own checks under other names: the same declarations, and the same first fault with its other names.
use Rattle.std.proofs.Common.{◌≡◌, ℕ, false, List, [], ◌∷◌, ◌++◌, map, Option, Some, None, Result, Ok, Err, refl, sym, ◌∙◌, ap}
use Rattle.std.proofs.lemmas.List.{map-append}
use Rattle.std.specs.Option.{option_map}
use Rattle.ls_text.specs.declared.fault.Fault.{Fault}
use Rattle.ls_text.specs.declared.name_id.NameId.{NameId}
use Rattle.verilog_ast.specs.declared.identifier.Identifier.{Identifier}
use Rattle.verilog_ast.specs.Items as i
use Rattle.verilog_ast.specs.Items.{ConnectionList, ModuleInstance, ModuleItem, ModuleDeclaration}
use Rattle.verilog_ast.specs.Renamed.{renamed_identifier}
use Rattle.verilog_ast.specs.Renaming.{connections_as, instance_as, item_as, declaration_as}
use Rattle.gen_unroll.specs.Reaches.{Reach, reach_in, innermost, in_reach}
use Rattle.gen_unroll.specs.Steps.{ModuleStep, Listed, Port, Parameter, Item, Labelled, Opened, Closed}
use Rattle.gen_unroll.specs.Told.{Told}
use Rattle.gen_unroll.specs.Unrolled.{State}
use Rattle.ls_text.specs.Answers.{◌>>=◌}
use Rattle.gen_unroll.specs.Values.{ConstantValue}
use Rattle.module_names.specs.Modules.{module_named, parameters_of, header_ports}
use Rattle.elaborate.specs.declared.declaration_kind.DeclarationKind.TheVariants as kind
use Rattle.elaborate.specs.Checks.{Checked, ModuleChild, nothing_checked, declaration, or_no_module, one_instance, instances, check_item, check_step, check_steps, is_declared_port, ports_declared, ended, check_told, checked}
use Rattle.clock_rules.specs.Connections.{connected}
use Rattle.elaborate.specs.Overrides.{overridden}
use Rattle.elaborate.specs.Tables.{Table}
use Rattle.elaborate.specs.Findings.{table_as, child_as, checked_as}
use Rattle.elaborate.specs.Renaming.{KeepsApart, SameReach, found_as, answer_as, step_as}
use Rattle.elaborate.proofs.RenamedAnswers.{found_so, value_so, if_answer}
use Rattle.elaborate.proofs.RenamedDeclarations.{each_so, plain_so, list_port_so, header_port_so, inputs_so, outputs_so, wires_so, regs_so, genvars_so, parameter_so}
use Rattle.elaborate.proofs.RenamedModules.{same_named, same_parameters, same_ports}
use Rattle.elaborate.proofs.RenamedNames.{same_beginning, same_reach}
use Rattle.elaborate.proofs.RenamedOverrides.{same_overridden, same_connected}
use Rattle.elaborate.proofs.RenamedTables.{same_declared}
use Rattle.elaborate.proofs.RenamedTold.{SameEnd, SameTold}
use Rattle.elaborate.proofs.RenamedUnrolled.{same_module}

-- ---- instances

no_module_moves : (f : NameId → NameId) (m : Option ModuleDeclaration) (n : Identifier)
    → or_no_module (option_map (declaration_as f) m) (renamed_identifier f n) ≡ found_as f (declaration_as f) (or_no_module m n)
no_module_moves f None n = refl
no_module_moves f (Some m) n = refl

pub same_module_of : (f : NameId → NameId) (ms : List ModuleDeclaration) (n : Identifier) → KeepsApart f
    → or_no_module (module_named (f n.name).0 (map (declaration_as f) ms)) (renamed_identifier f n) ≡ found_as f (declaration_as f) (or_no_module (module_named n.name.0 ms) n)
same_module_of f ms n apart =
    ap (λ (m : Option ModuleDeclaration). or_no_module m (renamed_identifier f n)) (same_named f n.name.0 ms apart) ∙ no_module_moves f (module_named n.name.0 ms) n

abbrev child_with : Option ℕ → (name instantiated : Identifier) → List (Option ConstantValue) → ModuleChild
child_with block name instantiated overrides = record { block = block; name = name; instantiated = instantiated; overrides = overrides }

child_so : (f : NameId → NameId) (here there : Reach) (n instantiated : Identifier) (vs : List (Option ConstantValue)) (c : Checked) → SameReach f here there
    → record (checked_as f c) { children = map (child_as f) c.children ++ child_with (innermost there.blocks) (renamed_identifier f n) (renamed_identifier f instantiated) vs ∷ [] }
    ≡ checked_as f (record c { children = c.children ++ child_with (innermost here.blocks) n instantiated vs ∷ [] })
child_so f here there n instantiated vs c same =
    ap (λ (bs : List ℕ). record (checked_as f c) { children = map (child_as f) c.children ++ child_with (innermost bs) (renamed_identifier f n) (renamed_identifier f instantiated) vs ∷ [] }) same.blocks
    ∙ ap (λ (cs : List ModuleChild). record (checked_as f c) { children = cs })
    (sym (map-append (child_as f) c.children (child_with (innermost here.blocks) n instantiated vs ∷ [])))

one_instance_so : (f : NameId → NameId) (here there : Reach) (m : ModuleDeclaration) (n : Identifier) (vs : List (Option ConstantValue)) (x : ModuleInstance) (c : Checked) → KeepsApart f → SameReach f here there
    → one_instance there (declaration_as f m) (renamed_identifier f n) vs (instance_as f x) (checked_as f c) ≡ found_as f (checked_as f) (one_instance here m n vs x c)
unfolding one_instance
one_instance_so f here there m n vs x c apart same =
    found_so f (checked_as f) (checked_as f) _ _ _ _ (plain_so f here there x.name (declaration kind.Instance None false x.name) c apart same)
    (λ next. value_so f (checked_as f) _ _ _ _
    (ap (λ (ps : List Identifier). connected ps (connections_as f x.connections)) (same_ports f m.ports) ∙ same_connected f (header_ports m.ports) x.connections apart)
    (λ _. ap Ok (child_so f here there x.name n vs next same)))

instances_so : (f : NameId → NameId) (ms : List ModuleDeclaration) (here there : Reach) (n : Identifier) (overrides : Option ConnectionList) (xs : List ModuleInstance) (c : Checked) → KeepsApart f → SameReach f here there
    → instances (map (declaration_as f) ms) there (renamed_identifier f n) (option_map (connections_as f) overrides) (map (instance_as f) xs) (checked_as f c)
    ≡ found_as f (checked_as f) (instances ms here n overrides xs c)
unfolding instances
instances_so f ms here there n overrides xs c apart same =
    found_so f (declaration_as f) (checked_as f) _ _ _ _ (same_module_of f ms n apart)
    (λ m. value_so f (checked_as f) _ _ _ _
    (ap (λ (ns : List Identifier). overridden there.scope ns (option_map (connections_as f) overrides)) (same_parameters f m)
    ∙ same_overridden f here.scope there.scope (parameters_of m) overrides apart same.names)
    (λ vs. each_so f (instance_as f) (one_instance here m n vs) (one_instance there (declaration_as f m) (renamed_identifier f n) vs)
    (λ x d. one_instance_so f here there m n vs x d apart same) xs c))

-- ---- steps

item_so : (f : NameId → NameId) (ms : List ModuleDeclaration) (here there : Reach) (x : ModuleItem) (c : Checked) → KeepsApart f → SameReach f here there
    → check_item (map (declaration_as f) ms) there (item_as f x) (checked_as f c) ≡ found_as f (checked_as f) (check_item ms here x c)
item_so f ms here there (i.Inputs at by k ns) c apart same = inputs_so f here there by k ns c apart same
item_so f ms here there (i.Outputs at by k xs) c apart same = outputs_so f here there by k xs c apart same
item_so f ms here there (i.Wires at k xs) c apart same = wires_so f here there k xs c apart same
item_so f ms here there (i.Regs at k xs) c apart same = regs_so f here there k xs c apart same
item_so f ms here there (i.Genvars at ns) c apart same = genvars_so f here there ns c apart same
item_so f ms here there (i.Instances n overrides xs) c apart same = instances_so f ms here there n overrides xs c apart same
item_so f ms here there (i.Parameters at k ps) c apart same = refl
item_so f ms here there (i.LocalParameters at k ps) c apart same = refl
item_so f ms here there (i.Assigns at xs) c apart same = refl
item_so f ms here there (i.Combinational at x) c apart same = refl
item_so f ms here there (i.Clocked at n x) c apart same = refl
item_so f ms here there (i.Region at xs) c apart same = refl
item_so f ms here there (i.Loop at h label xs) c apart same = refl
item_so f ms here there (i.Conditional xs) c apart same = refl
item_so f ms here there (i.Branch at d label xs) c apart same = refl
item_so f ms here there i.NoItem c apart same = refl
item_so f ms here there (i.Items x xs) c apart same = refl

step_so : (f : NameId → NameId) (ms : List ModuleDeclaration) (here there : Reach) (s : ModuleStep) (c : Checked) → KeepsApart f → SameReach f here there
    → check_step (map (declaration_as f) ms) there (step_as f s) (checked_as f c) ≡ found_as f (checked_as f) (check_step ms here s c)
step_so f ms here there (Listed n) c apart same = list_port_so f n c apart
step_so f ms here there (Port p) c apart same = header_port_so f here there p c apart same
step_so f ms here there (Parameter s n v) c apart same = parameter_so f here there s n v c apart same
step_so f ms here there (Item x) c apart same = item_so f ms here there x c apart same
step_so f ms here there (Labelled n) c apart same = plain_so f here there n (declaration kind.Label None false n) c apart same
step_so f ms here there (Opened b items) c apart same = refl
step_so f ms here there Closed c apart same = refl

steps_so : (f : NameId → NameId) (ms : List ModuleDeclaration) (here there : Reach) (steps : List ModuleStep) (c : Checked) → KeepsApart f → SameReach f here there
    → check_steps (map (declaration_as f) ms) there (map (step_as f) steps) (checked_as f c) ≡ found_as f (checked_as f) (check_steps ms here steps c)
steps_so f ms here there [] c apart same = refl
steps_so f ms here there (s ∷ ss) c apart same =
    found_so f (checked_as f) (checked_as f) _ _ _ _ (step_so f ms here there s c apart same)
    (λ next. steps_so f ms (in_reach s here) (in_reach (step_as f s) there) ss next apart (same_reach f s here there apart same))

-- ---- behind the items

ports_declared_so : (f : NameId → NameId) (ns : List Identifier) (t : Table) → KeepsApart f
    → ports_declared (map (renamed_identifier f) ns) (table_as f t) ≡ answer_as f (ports_declared ns t)
ports_declared_so f [] t apart = refl
ports_declared_so f (n ∷ ns) t apart =
    if_answer f _ _ _ _ _ _ (ap is_declared_port (same_declared f (record { block = None; name = n.name.0 }) t apart)) (ports_declared_so f ns t apart) refl

-- what follows unrolling, where no state is asked for
end_so : (f : NameId → NameId) (r q : Result State Fault) (g h : Result Checked Fault) → SameEnd f r q → h ≡ found_as f (checked_as f) g
    → (q >>= λ _. h) ≡ found_as f (checked_as f) (r >>= λ _. g)
end_so f (Ok st) (Ok after) g h same next = next
end_so f (Ok st) (Err e) g h same next = absurd same
end_so f (Err e) (Ok st) g h same next = absurd same
end_so f (Err e) (Err d) g h same next = ap Err same

ended_so : (f : NameId → NameId) (m : ModuleDeclaration) (c d : Result Checked Fault) (r q : Result State Fault) → KeepsApart f → d ≡ found_as f (checked_as f) c → SameEnd f r q
    → ended (declaration_as f m) d q ≡ found_as f (checked_as f) (ended m c r)
ended_so f m c d r q apart checks same =
    found_so f (checked_as f) (checked_as f) _ _ _ _ checks
    (λ x. end_so f r q _ _ same (value_so f (checked_as f) _ _ _ _
    (ap (λ (ns : List Identifier). ports_declared ns (table_as f x.declared)) (same_ports f m.ports) ∙ ports_declared_so f (header_ports m.ports) x.declared apart)
    (λ _. refl)))

told_so : (f : NameId → NameId) (ms : List ModuleDeclaration) (m : ModuleDeclaration) (t u : Told State) → KeepsApart f → SameTold f t u
    → check_told (map (declaration_as f) ms) (declaration_as f m) u ≡ found_as f (checked_as f) (check_told ms m t)
told_so f ms m t u apart same =
    ended_so f m _ _ t.ending u.ending apart
    (ap (λ (steps : List ModuleStep). check_steps (map (declaration_as f) ms) (reach_in (declaration_as f m)) steps nothing_checked) same.says
    ∙ steps_so f ms (reach_in m) (reach_in (declaration_as f m)) t.said nothing_checked apart (same_beginning f m apart))
    same.ends

pub same_checked : (f : NameId → NameId) (turns : ℕ) (ms : List ModuleDeclaration) (m : ModuleDeclaration) (overrides : List (Option ConstantValue)) → KeepsApart f
    → checked turns (map (declaration_as f) ms) (declaration_as f m) overrides ≡ found_as f (checked_as f) (checked turns ms m overrides)
unfolding checked
same_checked f turns ms m overrides apart = told_so f ms m _ _ apart (same_module f turns overrides m apart)
