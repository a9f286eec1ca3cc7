-- Overrides of parameters and connections of ports under other names.
use Rattle.std.proofs.Common.{◌≡◌, ℕ, Bool, if◌then◌else◌, List, [], ◌∷◌, ◌++◌, map, Option, Some, None, Ok, Err, refl, sym, ◌∙◌, ap, ap₂}
use Rattle.std.proofs.lemmas.List.{map-append}
use Rattle.std.specs.Option.{option_map}
use Rattle.ls_text.specs.declared.name_id.NameId.{NameId}
use Rattle.ls_text.specs.declared.place.Place.{Place}
use Rattle.verilog_ast.specs.declared.identifier.Identifier.{Identifier}
use Rattle.verilog_ast.specs.Expressions.{Expression}
use Rattle.verilog_ast.specs.Items.{ConnectionByName, ConnectionByOrder, ConnectionList, ByName, ByOrder}
use Rattle.verilog_ast.specs.Renamed.{renamed_identifier}
use Rattle.verilog_ast.specs.Renaming.{expression_as, by_name_as, by_order_as, connections_as}
use Rattle.width_rules.specs.Renaming.{MeansSame, fault_as}
use Rattle.width_rules.specs.Scopes.{Scope}
use Rattle.width_rules.proofs.RenamedFaults.{fault_of_so}
use Rattle.gen_unroll.specs.Values.{ConstantValue}
use Rattle.module_names.specs.Listings.{names_behind}
use Rattle.clock_rules.specs.Connections.{named, name_more, all_named, too_many, all_ordered, is_missing, is_empty_place, connected}
use Rattle.elaborate.specs.Overrides.{if_left, one_by_order, by_order, Given, given_to, if_none, if_free, one_by_name, by_name, value_given, overridden}
use Rattle.elaborate.specs.Findings.{given_as}
use Rattle.elaborate.specs.Renaming.{KeepsApart, number_as, found_as, answer_as}
use Rattle.elaborate.proofs.RenamedAnswers.{bind_so, found_so, value_so, plain_so, if_answer, if_found}
use Rattle.elaborate.proofs.RenamedModules.{same_behind, same_listed}
use Rattle.elaborate.proofs.RenamedNames.{same_number}
use Rattle.elaborate.proofs.RenamedValues.{same_evaluated}

-- ---- overrides by order

if_left_so : (f : NameId → NameId) (ns : List Identifier) (e : Expression) (v : ConstantValue)
    → if_left (map (renamed_identifier f) ns) (expression_as f e) v ≡ answer_as f (if_left ns e v)
if_left_so f [] e v = ap Err (fault_of_so f 24 e)
if_left_so f (n ∷ ns) e v = refl

one_by_order_so : (f : NameId → NameId) (scope other : Scope) (ns : List Identifier) (value : Option Expression) → MeansSame f scope other
    → one_by_order other (map (renamed_identifier f) ns) (option_map (expression_as f) value) ≡ answer_as f (one_by_order scope ns value)
one_by_order_so f scope other ns None same = refl
one_by_order_so f scope other ns (Some e) same = bind_so f _ _ _ _ (same_evaluated f scope other e same) (λ v. if_left_so f ns e v)

by_order_so : (f : NameId → NameId) (scope other : Scope) (ns : List Identifier) (xs : List ConnectionByOrder) (vs : List (Option ConstantValue)) → MeansSame f scope other
    → by_order other (map (renamed_identifier f) ns) (map (by_order_as f) xs) vs ≡ answer_as f (by_order scope ns xs vs)
by_order_so f scope other ns [] vs same = refl
by_order_so f scope other ns (x ∷ xs) vs same =
    bind_so f _ _ _ _ (one_by_order_so f scope other ns x.value same)
    (λ v. ap (λ (ms : List Identifier). by_order other ms (map (by_order_as f) xs) (vs ++ v ∷ [])) (same_behind f ns)
    ∙ by_order_so f scope other (names_behind ns) xs (vs ++ v ∷ []) same)

-- ---- overrides by name

given_to_so : (f : NameId → NameId) (name : ℕ) (gs : List Given) → KeepsApart f → given_to (number_as f name) (map (given_as f) gs) ≡ given_to name gs
given_to_so f name [] apart = refl
given_to_so f name (g ∷ gs) apart =
    ap₂ (λ (b : Bool) (o : Option ConstantValue). if b then Some g.value else o) (same_number f name g.name apart) (given_to_so f name gs apart)

if_none_moves : (f : NameId → NameId) (o : Option ConstantValue) (at : Place) (gs : List Given) (g : Given)
    → if_none o at (map (given_as f) gs) (given_as f g) ≡ found_as f (map (given_as f)) (if_none o at gs g)
if_none_moves f None at gs g = ap Ok (sym (map-append (given_as f) gs (g ∷ [])))
if_none_moves f (Some v) at gs g = refl

if_free_so : (f : NameId → NameId) (ns : List Identifier) (at : Place) (g : Given) (gs : List Given) → KeepsApart f
    → if_free (map (renamed_identifier f) ns) at (given_as f g) (map (given_as f) gs) ≡ found_as f (map (given_as f)) (if_free ns at g gs)
if_free_so f ns at g gs apart =
    if_found f (map (given_as f)) _ _ _ _ _ _ (same_listed f g.name ns apart)
    (ap (λ (o : Option ConstantValue). if_none o at (map (given_as f) gs) (given_as f g)) (given_to_so f g.name gs apart) ∙ if_none_moves f (given_to g.name gs) at gs g)
    refl

one_by_name_so : (f : NameId → NameId) (scope other : Scope) (ns : List Identifier) (at : Place) (name : ℕ) (value : Option Expression) (gs : List Given) → KeepsApart f → MeansSame f scope other
    → one_by_name other (map (renamed_identifier f) ns) at (number_as f name) (option_map (expression_as f) value) (map (given_as f) gs) ≡ found_as f (map (given_as f)) (one_by_name scope ns at name value gs)
one_by_name_so f scope other ns at name None gs apart same = refl
one_by_name_so f scope other ns at name (Some e) gs apart same =
    value_so f (map (given_as f)) _ _ _ _ (same_evaluated f scope other e same) (λ v. if_free_so f ns at (record { name = name; value = v }) gs apart)

by_name_so : (f : NameId → NameId) (scope other : Scope) (ns : List Identifier) (xs : List ConnectionByName) (gs : List Given) → KeepsApart f → MeansSame f scope other
    → by_name other (map (renamed_identifier f) ns) (map (by_name_as f) xs) (map (given_as f) gs) ≡ found_as f (map (given_as f)) (by_name scope ns xs gs)
by_name_so f scope other ns [] gs apart same = refl
by_name_so f scope other ns (x ∷ xs) gs apart same =
    found_so f (map (given_as f)) (map (given_as f)) _ _ _ _ (one_by_name_so f scope other ns x.at x.name.name.0 x.value gs apart same)
    (λ more. by_name_so f scope other ns xs more apart same)

values_so : (f : NameId → NameId) (gs : List Given) (ns : List Identifier) → KeepsApart f
    → map (value_given (map (given_as f) gs)) (map (renamed_identifier f) ns) ≡ map (value_given gs) ns
values_so f gs [] apart = refl
values_so f gs (n ∷ ns) apart =
    ap₂ (λ (v : Option ConstantValue) (vs : List (Option ConstantValue)). v ∷ vs) (given_to_so f n.name.0 gs apart) (values_so f gs ns apart)

pub same_overridden : (f : NameId → NameId) (scope other : Scope) (ns : List Identifier) (xs : Option ConnectionList) → KeepsApart f → MeansSame f scope other
    → overridden other (map (renamed_identifier f) ns) (option_map (connections_as f) xs) ≡ answer_as f (overridden scope ns xs)
unfolding overridden
same_overridden f scope other ns None apart same = refl
same_overridden f scope other ns (Some (ByOrder xs)) apart same = by_order_so f scope other ns xs [] same
same_overridden f scope other ns (Some (ByName xs)) apart same =
    plain_so f (map (given_as f)) _ _ _ _ (by_name_so f scope other ns xs [] apart same) (λ gs. ap Ok (values_so f gs ns apart))

-- ---- connections

named_so : (f : NameId → NameId) (ports before : List Identifier) (n : Identifier) → KeepsApart f
    → named (map (renamed_identifier f) ports) (map (renamed_identifier f) before) (renamed_identifier f n) ≡ answer_as f (named ports before n)
named_so f ports before n apart =
    if_answer f _ _ _ _ _ _ (same_listed f n.name.0 ports apart) (if_answer f _ _ _ _ _ _ (same_listed f n.name.0 before apart) refl refl) refl

name_more_so : (f : NameId → NameId) (ports before : List Identifier) (n : Identifier) → KeepsApart f
    → name_more (map (renamed_identifier f) ports) (map (renamed_identifier f) before) (renamed_identifier f n) ≡ found_as f (map (renamed_identifier f)) (name_more ports before n)
name_more_so f ports before n apart =
    value_so f (map (renamed_identifier f)) _ _ _ _ (named_so f ports before n apart) (λ _. ap Ok (sym (map-append (renamed_identifier f) before (n ∷ []))))

all_named_so : (f : NameId → NameId) (ports before : List Identifier) (xs : List ConnectionByName) → KeepsApart f
    → all_named (map (renamed_identifier f) ports) (map (renamed_identifier f) before) (map (by_name_as f) xs) ≡ answer_as f (all_named ports before xs)
all_named_so f ports before [] apart = refl
all_named_so f ports before (x ∷ xs) apart =
    plain_so f (map (renamed_identifier f)) _ _ _ _ (name_more_so f ports before x.name apart) (λ more. all_named_so f ports more xs apart)

too_many_so : (f : NameId → NameId) (at : Place) (value : Option Expression) → too_many at (option_map (expression_as f) value) ≡ fault_as f (too_many at value)
too_many_so f at None = refl
too_many_so f at (Some e) = fault_of_so f 27 e

all_ordered_so : (f : NameId → NameId) (ports : List Identifier) (xs : List ConnectionByOrder)
    → all_ordered (map (renamed_identifier f) ports) (map (by_order_as f) xs) ≡ answer_as f (all_ordered ports xs)
all_ordered_so f ports [] = refl
all_ordered_so f [] (x ∷ xs) = ap Err (too_many_so f x.at x.value)
all_ordered_so f (p ∷ ps) (x ∷ xs) = all_ordered_so f ps xs

missing_so : (f : NameId → NameId) (value : Option Expression) → is_missing (option_map (expression_as f) value) ≡ is_missing value
missing_so f None = refl
missing_so f (Some e) = refl

empty_so : (f : NameId → NameId) (xs : List ConnectionByOrder) → is_empty_place (map (by_order_as f) xs) ≡ is_empty_place xs
empty_so f [] = refl
empty_so f (x ∷ y ∷ ys) = refl
empty_so f (x ∷ []) = missing_so f x.value

pub same_connected : (f : NameId → NameId) (ports : List Identifier) (xs : ConnectionList) → KeepsApart f
    → connected (map (renamed_identifier f) ports) (connections_as f xs) ≡ answer_as f (connected ports xs)
unfolding connected
same_connected f ports (ByName xs) apart = all_named_so f ports [] xs apart
same_connected f ports (ByOrder xs) apart = if_answer f _ _ _ _ _ _ (empty_so f xs) refl (all_ordered_so f ports xs)
