-- The instances of a design under other names, from the top down.
use Rattle.std.proofs.Common.{◌≡◌, ℕ, zero, suc, Bool, true, nat_le, if◌then◌else◌, List, [], ◌∷◌, ◌++◌, drop, length, map, Option, Some, None, refl, sym, ◌∙◌, ap, ap₂, subst}
use Rattle.std.proofs.lemmas.List.{map-append, drop-map, length-map}
use Rattle.std.specs.Option.{option_map}
use Rattle.ls_text.specs.declared.name_id.NameId.{NameId}
use Rattle.verilog_ast.specs.declared.identifier.Identifier.{Identifier}
use Rattle.verilog_ast.specs.Items.{ModuleDeclaration}
use Rattle.verilog_ast.specs.Renamed.{renamed_identifier}
use Rattle.verilog_ast.specs.Renaming.{declaration_as}
use Rattle.module_names.specs.Modules.{module_named}
use Rattle.elaborate.specs.declared.limits.Limits.{Limits}
use Rattle.elaborate.specs.Checks.{ModuleChild}
use Rattle.elaborate.specs.Clocks.{top_clock}
use Rattle.elaborate.specs.Elaborated.{Standing, Step, unless_there, named_once, none_more, few_modules, top_module, standing, is_on, first_clock, clocks_behind, each_child, within, of_module, child_at, top_standing, from_top, top_of, elaborated}
use Rattle.elaborate.specs.Visits.{Visited}
use Rattle.elaborate.specs.Findings.{child_as, clock_as, visited_as, standing_as}
use Rattle.elaborate.specs.Renaming.{KeepsApart, number_as, found_as, answer_as}
use Rattle.elaborate.proofs.RenamedAnswers.{found_so, value_so, if_found}
use Rattle.elaborate.proofs.RenamedChecks.{same_module_of}
use Rattle.elaborate.proofs.RenamedClockPorts.{same_top_clock}
use Rattle.elaborate.proofs.RenamedModules.{same_named}
use Rattle.elaborate.proofs.RenamedNames.{same_number}
use Rattle.elaborate.proofs.RenamedVisits.{same_visited}

-- ---- the modules

unless_moves : (f : NameId → NameId) (m : Option ModuleDeclaration) (n : Identifier)
    → unless_there (option_map (declaration_as f) m) (renamed_identifier f n) ≡ answer_as f (unless_there m n)
unless_moves f None n = refl
unless_moves f (Some m) n = refl

named_once_so : (f : NameId → NameId) (before ms : List ModuleDeclaration) → KeepsApart f
    → named_once (map (declaration_as f) before) (map (declaration_as f) ms) ≡ found_as f (map (declaration_as f)) (named_once before ms)
named_once_so f before [] apart = refl
named_once_so f before (m ∷ ms) apart =
    value_so f (map (declaration_as f)) _ _ _ _
    (ap (λ (o : Option ModuleDeclaration). unless_there o (renamed_identifier f m.name)) (same_named f m.name.name.0 before apart)
    ∙ unless_moves f (module_named m.name.name.0 before) m.name)
    (λ _. ap (λ (more : List ModuleDeclaration). named_once more (map (declaration_as f) ms)) (sym (map-append (declaration_as f) before (m ∷ [])))
    ∙ named_once_so f (before ++ m ∷ []) ms apart)

none_more_so : (f : NameId → NameId) (ms : List ModuleDeclaration) → none_more (map (declaration_as f) ms) ≡ answer_as f (none_more ms)
none_more_so f [] = refl
none_more_so f (m ∷ ms) = refl

few_modules_so : (f : NameId → NameId) (most : ℕ) (ms : List ModuleDeclaration) → few_modules most (map (declaration_as f) ms) ≡ answer_as f (few_modules most ms)
few_modules_so f most ms = ap none_more (drop-map (declaration_as f) most ms) ∙ none_more_so f (drop most ms)

top_moves : (f : NameId → NameId) (m : Option ModuleDeclaration) → top_module (option_map (declaration_as f) m) ≡ found_as f (declaration_as f) (top_module m)
top_moves f None = refl
top_moves f (Some m) = refl

pub same_top : (f : NameId → NameId) (l : Limits) (ms : List ModuleDeclaration) (top : ℕ) → KeepsApart f
    → top_of l (map (declaration_as f) ms) (number_as f top) ≡ found_as f (declaration_as f) (top_of l ms top)
unfolding top_of
same_top f l ms top apart =
    found_so f (map (declaration_as f)) (declaration_as f) _ _ _ _ (named_once_so f [] ms apart)
    (λ all. value_so f (declaration_as f) _ _ _ _ (few_modules_so f l.modules all)
    (λ _. ap top_module (same_named f top all apart) ∙ top_moves f (module_named top all)))

-- ---- instances

on_so : (f : NameId → NameId) (path : List ℕ) (name : ℕ) → KeepsApart f → is_on (map (number_as f) path) (number_as f name) ≡ is_on path name
on_so f [] name apart = refl
on_so f (x ∷ xs) name apart = ap₂ (λ (b c : Bool). if b then true else c) (same_number f x name apart) (on_so f xs name apart)

-- a step under other names
abbrev Follows : (NameId → NameId) → Step → Step → Type 0
Follows f step steps = (c : ModuleChild) (k : Option ℕ) (all : List Standing)
    → steps (child_as f c) (clock_as f k) (map (standing_as f) all) ≡ found_as f (map (standing_as f)) (step c k all)

first_so : (f : NameId → NameId) (ks : List (Option ℕ)) → first_clock (map (clock_as f) ks) ≡ clock_as f (first_clock ks)
first_so f [] = refl
first_so f (k ∷ ks) = refl

behind_so : (f : NameId → NameId) (ks : List (Option ℕ)) → clocks_behind (map (clock_as f) ks) ≡ map (clock_as f) (clocks_behind ks)
behind_so f [] = refl
behind_so f (k ∷ ks) = refl

each_child_so : (f : NameId → NameId) (step steps : Step) (cs : List ModuleChild) (ks : List (Option ℕ)) (all : List Standing) → Follows f step steps
    → each_child steps (map (child_as f) cs) (map (clock_as f) ks) (map (standing_as f) all) ≡ found_as f (map (standing_as f)) (each_child step cs ks all)
each_child_so f step steps [] ks all is = refl
each_child_so f step steps (c ∷ cs) ks all is =
    found_so f (map (standing_as f)) (map (standing_as f)) _ _ _ _
    (ap (λ (k : Option ℕ). steps (child_as f c) k (map (standing_as f) all)) (first_so f ks) ∙ is c (first_clock ks) all)
    (λ more. ap (λ (js : List (Option ℕ)). each_child steps (map (child_as f) cs) js (map (standing_as f) more)) (behind_so f ks)
    ∙ each_child_so f step steps cs (clocks_behind ks) more is)

within_so : (f : NameId → NameId) (step steps : Step) (v : Visited) (all : List Standing) → Follows f step steps
    → within steps (visited_as f v) (map (standing_as f) all) ≡ found_as f (map (standing_as f)) (within step v all)
within_so f step steps v all is = each_child_so f step steps v.checks.children v.clocks all is

of_module_so : (f : NameId → NameId) (l : Limits) (ms : List ModuleDeclaration) (above : ℕ) (below belows : ℕ → Step) (c : ModuleChild) (k : Option ℕ) (all : List Standing) (m : ModuleDeclaration)
    → KeepsApart f → ((n : ℕ) → Follows f (below n) (belows n))
    → of_module l (map (declaration_as f) ms) above belows (child_as f c) (clock_as f k) (map (standing_as f) all) (declaration_as f m)
    ≡ found_as f (map (standing_as f)) (of_module l ms above below c k all m)
of_module_so f l ms above below belows c k all m apart is =
    found_so f (visited_as f) (map (standing_as f)) _ _ _ _ (same_visited f l.turns ms None m c.overrides k apart)
    (λ v. ap₂ (λ (n : ℕ) (more : List Standing). within (belows n) (visited_as f v) more) (length-map all (standing_as f))
    (sym (map-append (standing_as f) all (standing above c k v ∷ [])))
    ∙ within_so f (below (length all)) (belows (length all)) v (all ++ standing above c k v ∷ []) (is (length all)))

-- a path with one more module
below_so : (f : NameId → NameId) (l : Limits) (ms : List ModuleDeclaration) (left : ℕ) (path : List ℕ) (n : Identifier) (above : ℕ)
    → Follows f (child_at l ms left (path ++ n.name.0 ∷ []) above) (child_at l (map (declaration_as f) ms) left (map (number_as f) (path ++ n.name.0 ∷ [])) above)
    → Follows f (child_at l ms left (path ++ n.name.0 ∷ []) above) (child_at l (map (declaration_as f) ms) left (map (number_as f) path ++ (f n.name).0 ∷ []) above)
below_so f l ms left path n above is =
    subst (λ (names : List ℕ). Follows f (child_at l ms left (path ++ n.name.0 ∷ []) above) (child_at l (map (declaration_as f) ms) left names above))
    (map-append (number_as f) path (n.name.0 ∷ [])) is

child_so : (f : NameId → NameId) (l : Limits) (ms : List ModuleDeclaration) (left : ℕ) (path : List ℕ) (above : ℕ) → KeepsApart f
    → Follows f (child_at l ms left path above) (child_at l (map (declaration_as f) ms) left (map (number_as f) path) above)
child_so f l ms zero path above apart c k all = refl
child_so f l ms (suc left) path above apart c k all =
    if_found f (map (standing_as f)) _ _ _ _ _ _ (on_so f path c.instantiated.name.0 apart) refl
    (if_found f (map (standing_as f)) _ _ _ _ _ _ (ap (nat_le l.instances) (length-map all (standing_as f))) refl
    (found_so f (declaration_as f) (map (standing_as f)) _ _ _ _ (same_module_of f ms c.instantiated apart)
    (λ m. of_module_so f l ms above (child_at l ms left (path ++ c.instantiated.name.0 ∷ []))
    (child_at l (map (declaration_as f) ms) left (map (number_as f) path ++ (f c.instantiated.name).0 ∷ [])) c k all m apart
    (λ n. below_so f l ms left path c.instantiated n (child_so f l ms left (path ++ c.instantiated.name.0 ∷ []) n apart)))))

top_so : (f : NameId → NameId) (l : Limits) (ms : List ModuleDeclaration) (clock : Option ℕ) (m : ModuleDeclaration) → KeepsApart f
    → from_top l (map (declaration_as f) ms) (clock_as f clock) (declaration_as f m) ≡ found_as f (map (standing_as f)) (from_top l ms clock m)
top_so f l ms clock m apart =
    found_so f (visited_as f) (map (standing_as f)) _ _ _ _ (same_visited f l.turns ms (Some l.top_ports) m [] clock apart)
    (λ v. within_so f (child_at l ms l.levels (m.name.name.0 ∷ []) 0) (child_at l (map (declaration_as f) ms) l.levels ((f m.name.name).0 ∷ []) 0) v (top_standing m clock v ∷ [])
    (child_so f l ms l.levels (m.name.name.0 ∷ []) 0 apart))

pub same_elaborated : (f : NameId → NameId) (l : Limits) (ms : List ModuleDeclaration) (top clock : ℕ) → KeepsApart f
    → elaborated l (map (declaration_as f) ms) (number_as f top) (number_as f clock) ≡ found_as f (map (standing_as f)) (elaborated l ms top clock)
unfolding elaborated
same_elaborated f l ms top clock apart =
    found_so f (declaration_as f) (map (standing_as f)) _ _ _ _ (same_top f l ms top apart)
    (λ m. ap (λ (k : Option ℕ). from_top l (map (declaration_as f) ms) k (declaration_as f m)) (same_top_clock f clock m apart)
    ∙ top_so f l ms (top_clock clock m) m apart)
