-- Names that leave modules as they are leave the instances of their design as they are, whatever the numbers of its top and its clock.
use Rattle.std.proofs.Common.{◌≡◌, ◌∙◌, ℕ, ◌==◌, Bool, true, false, if◌then◌else◌}
use Rattle.std.proofs.Common.{List, [], ◌∷◌, All, map, refl, sym, ap, subst}
use Rattle.std.specs.Prelude.{Option, Some, None, Result, Ok, Err}
use Rattle.std.specs.Option.{option_map}
use Rattle.std.proofs.lemmas.Bool.{eqb-true}
use Rattle.std.proofs.lemmas.List.Elements.{All-nil, All-cons, All-head, All-tail}
use Rattle.ls_text.specs.declared.fault.Fault.{Fault}
use Rattle.ls_text.specs.declared.name_id.NameId.{NameId}
use Rattle.verilog_ast.specs.declared.identifier.Identifier.{Identifier}
use Rattle.verilog_ast.specs.Items.{ModuleDeclaration}
use Rattle.verilog_ast.specs.Renamed.{renamed_identifier}
use Rattle.verilog_ast.specs.Renaming.{declaration_as}
use Rattle.ls_text.specs.Answers.{◌>>=◌}
use Rattle.ls_text.proofs.Lists.{same_first, same_others}
use Rattle.module_names.specs.Listings.{is_listed}
use Rattle.module_names.specs.Modules.{module_named, header_ports}
use Rattle.elaborate.specs.declared.limits.Limits.{Limits}
use Rattle.elaborate.specs.Clocks.{top_clock}
use Rattle.elaborate.specs.Elaborated.{named_once, few_modules, top_module, from_top, top_of, elaborated}
use Rattle.elaborate.specs.Findings.{standing_as}
use Rattle.elaborate.specs.Renaming.{KeepsApart, number_as, found_as}
use Rattle.elaborate.proofs.RenamedDesigns.{same_elaborated}
use Rattle.elaborate.proofs.RenamedModules.{same_listed, same_named, same_ports}
use Rattle.version_swap.proofs.InstanceModules.{once_all}

-- ---- the top is told by the module of its name

abbrev then_top : Limits → ℕ → List ModuleDeclaration → Result ModuleDeclaration Fault
then_top l top all = few_modules l.modules all >>= λ _. top_module (module_named top all)

top_alike : (l : Limits) (ms : List ModuleDeclaration) (top other : ℕ) → module_named top ms ≡ module_named other ms
    → top_of l ms top ≡ top_of l ms other
unfolding top_of
top_alike l ms top other same = by (named_once [] ms) (once_all [] ms)
  where
    by : (r : Result (List ModuleDeclaration) Fault) → ((all : List ModuleDeclaration) → r ≡ Ok all → all ≡ ms)
        → (r >>= then_top l top) ≡ (r >>= then_top l other)
    by (Ok all) is =
        ap (λ (found : Option ModuleDeclaration). few_modules l.modules all >>= λ _. top_module found)
        (ap (module_named top) (is all refl) ∙ same ∙ ap (module_named other) (sym (is all refl)))
    by (Err e) is = refl

pub elaborated_top : (l : Limits) (ms : List ModuleDeclaration) (top other clock : ℕ) → module_named top ms ≡ module_named other ms
    → elaborated l ms top clock ≡ elaborated l ms other clock
unfolding elaborated
elaborated_top l ms top other clock same =
    ap (λ (r : Result ModuleDeclaration Fault). r >>= λ m. from_top l ms (top_clock clock m) m) (top_alike l ms top other same)

-- ---- modules that stay

module _ (f : NameId → NameId) where
  abbrev IsFixed : ModuleDeclaration → Type 0
  IsFixed d = declaration_as f d ≡ d

  each_fixed : (ds : List ModuleDeclaration) → map (declaration_as f) ds ≡ ds → All IsFixed ds
  each_fixed [] same = All-nil IsFixed
  each_fixed (d ∷ ds) same =
      All-cons IsFixed d ds (same_first (declaration_as f d) d (map (declaration_as f) ds) ds same)
      (each_fixed ds (same_others (declaration_as f d) d (map (declaration_as f) ds) ds same))

  found_stays : (name : ℕ) (ds : List ModuleDeclaration) → All IsFixed ds
      → option_map (declaration_as f) (module_named name ds) ≡ module_named name ds
  found_stays name [] all = refl
  found_stays name (d ∷ ds) all = by (name == d.name.name.0) (found_stays name ds (All-tail IsFixed d ds all))
    where
      by : (b : Bool) → option_map (declaration_as f) (module_named name ds) ≡ module_named name ds
          → option_map (declaration_as f) (if b then Some d else module_named name ds) ≡ (if b then Some d else module_named name ds)
      by true later = ap Some (All-head IsFixed d ds all)
      by false later = later

  named_in : (name : ℕ) (ds : List ModuleDeclaration) (m : ModuleDeclaration) → All IsFixed ds → module_named name ds ≡ Some m → IsFixed m
  named_in name [] m all is = absurd cc
  named_in name (d ∷ ds) m all is = by (name == d.name.name.0) (named_in name ds m (All-tail IsFixed d ds all)) is
    where
      by : (b : Bool) → (module_named name ds ≡ Some m → IsFixed m) → (if b then Some d else module_named name ds) ≡ Some m → IsFixed m
      by true later here = let same : d ≡ m = cc in subst IsFixed same (All-head IsFixed d ds all)
      by false later here = later here

  -- the top is one of them
  top_in : (l : Limits) (top : ℕ) (ds : List ModuleDeclaration) (m : ModuleDeclaration) → All IsFixed ds → top_of l ds top ≡ Ok m → IsFixed m
  unfolding top_of
  top_in l top ds m all is = by (named_once [] ds) (once_all [] ds) is
    where
      found : (r : Option ModuleDeclaration) → ((x : ModuleDeclaration) → r ≡ Some x → IsFixed x) → top_module r ≡ Ok m → IsFixed m
      found None each here = absurd cc
      found (Some x) each here = let same : x ≡ m = cc in subst IsFixed same (each x refl)

      after : (r : Result (Unit {0}) Fault) (x : Option ModuleDeclaration) → ((y : ModuleDeclaration) → x ≡ Some y → IsFixed y)
          → (r >>= λ _. top_module x) ≡ Ok m → IsFixed m
      after (Ok u) x each here = found x each here
      after (Err e) x each here = absurd cc

      by : (r : Result (List ModuleDeclaration) Fault) → ((xs : List ModuleDeclaration) → r ≡ Ok xs → xs ≡ ds) → (r >>= then_top l top) ≡ Ok m
          → IsFixed m
      by (Ok xs) same here =
          after (few_modules l.modules xs) (module_named top xs)
          (λ y one. named_in top ds y all (ap (module_named top) (sym (same xs refl)) ∙ one)) here
      by (Err e) same here = absurd cc

  -- ---- the clock of the top

  listed_stays : (name : ℕ) (ns : List Identifier) → map (renamed_identifier f) ns ≡ ns → is_listed name ns ≡ true → number_as f name ≡ name
  listed_stays name [] same is = absurd cc
  listed_stays name (n ∷ ns) same is =
      by (name == n.name.0) refl
      (listed_stays name ns (same_others (renamed_identifier f n) n (map (renamed_identifier f) ns) ns same)) is
    where
      here : f n.name ≡ n.name
      here = ap (λ (x : Identifier). x.name) (same_first (renamed_identifier f n) n (map (renamed_identifier f) ns) ns same)

      by : (b : Bool) → (name == n.name.0) ≡ b → (is_listed name ns ≡ true → number_as f name ≡ name)
          → (if b then true else is_listed name ns) ≡ true
          → number_as f name ≡ name
      by true one later all =
          let number = eqb-true name n.name.0 one in
          ap (number_as f) number ∙ ap (λ (x : NameId). x.0) here ∙ sym number
      by false one later all = later all

  clock_stays : (clock : ℕ) (m : ModuleDeclaration) → KeepsApart f → IsFixed m → top_clock (number_as f clock) m ≡ top_clock clock m
  clock_stays clock m apart fixed =
      ap (λ (b : Bool). if b then Some (number_as f clock) else None) listed ∙ by (is_listed clock (header_ports m.ports)) refl
    where
      ports : map (renamed_identifier f) (header_ports m.ports) ≡ header_ports m.ports
      ports = sym (same_ports f m.ports) ∙ ap (λ (d : ModuleDeclaration). header_ports d.ports) fixed

      listed : is_listed (number_as f clock) (header_ports m.ports) ≡ is_listed clock (header_ports m.ports)
      listed = ap (is_listed (number_as f clock)) (sym ports) ∙ same_listed f clock (header_ports m.ports) apart

      by : (b : Bool) → is_listed clock (header_ports m.ports) ≡ b
          → (if b then Some (number_as f clock) else None) ≡ (if b then Some clock else None)
      by true is = ap Some (listed_stays clock (header_ports m.ports) ports is)
      by false is = refl

  -- ---- the instances

  module _ (apart : KeepsApart f) (l : Limits) (ds : List ModuleDeclaration) (fixed : map (declaration_as f) ds ≡ ds) (top clock : ℕ) where
    elaborated_alike : elaborated l ds (number_as f top) (number_as f clock) ≡ elaborated l ds top clock
    unfolding elaborated
    elaborated_alike =
        ap (λ (r : Result ModuleDeclaration Fault). r >>= λ m. from_top l ds (top_clock (number_as f clock) m) m)
        (top_alike l ds (number_as f top) top
        (ap (module_named (number_as f top)) (sym fixed) ∙ same_named f top ds apart ∙ found_stays top ds (each_fixed ds fixed)))
        ∙ by (top_of l ds top) (λ m is. clock_stays clock m apart (top_in l top ds m (each_fixed ds fixed) is))
      where
        by : (r : Result ModuleDeclaration Fault)
            → ((m : ModuleDeclaration) → r ≡ Ok m → top_clock (number_as f clock) m ≡ top_clock clock m)
            → (r >>= λ m. from_top l ds (top_clock (number_as f clock) m) m) ≡ (r >>= λ m. from_top l ds (top_clock clock m) m)
        by (Ok m) is = ap (λ (c : Option ℕ). from_top l ds c m) (is m refl)
        by (Err e) is = refl

    pub elaborated_stays : elaborated l ds top clock ≡ found_as f (map (standing_as f)) (elaborated l ds top clock)
    elaborated_stays =
        sym elaborated_alike ∙ ap (λ (xs : List ModuleDeclaration). elaborated l xs (number_as f top) (number_as f clock)) (sym fixed)
        ∙ same_elaborated f l ds top clock apart
