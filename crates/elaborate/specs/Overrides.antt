-- Overrides of parameters by name and by order (IEEE Std 1364-2005, 12.2.2).
use Rattle.std.specs.Prelude.{ℕ, ◌==◌, if◌then◌else◌, List, [], ◌∷◌, ◌++◌, map, Option, Some, None, Result, Ok, Err}
use Rattle.ls_text.specs.declared.fault.Fault.{Fault}
use Rattle.ls_text.specs.declared.place.Place.{Place}
use Rattle.verilog_ast.specs.declared.identifier.Identifier.{Identifier}
use Rattle.verilog_ast.specs.Expressions.{Expression}
use Rattle.verilog_ast.specs.Items.{ConnectionByName, ConnectionByOrder, ConnectionList, ByName, ByOrder}
use Rattle.width_rules.specs.Faults.{fault, fault_of}
use Rattle.width_rules.specs.Scopes.{Scope}
use Rattle.ls_text.specs.Answers.{◌>>=◌}
use Rattle.gen_unroll.specs.Values.{ConstantValue, evaluated}
use Rattle.module_names.specs.Listings.{is_listed, names_behind}

-- ---- by order

-- a value where a parameter is left for it, else 24
abbrev pub if_left : (names : List Identifier) → Expression → ConstantValue → Result (Option ConstantValue) Fault
if_left [] e v = Err (fault_of 24 e)
if_left (n ∷ ns) e v = Ok (Some v)

abbrev pub value_by_order : Scope → (names : List Identifier) → Expression → Result (Option ConstantValue) Fault
value_by_order scope names e = evaluated scope e >>= λ v. if_left names e v

-- one override; an empty one is none
abbrev pub one_by_order : Scope → (names : List Identifier) → Option Expression → Result (Option ConstantValue) Fault
one_by_order scope names None = Ok None
one_by_order scope names (Some e) = value_by_order scope names e

abbrev pub by_order : Scope → (names : List Identifier) → List ConnectionByOrder → List (Option ConstantValue) → Result (List (Option ConstantValue)) Fault
by_order scope names [] vs = Ok vs
by_order scope names (x ∷ xs) vs = one_by_order scope names x.value >>= λ v. by_order scope (names_behind names) xs (vs ++ v ∷ [])

-- ---- by name

-- a parameter and its value
pub record Given : Type 0 where
  pub name : ℕ
  pub value : ConstantValue

abbrev pub given_to : ℕ → List Given → Option ConstantValue
given_to name [] = None
given_to name (g ∷ gs) = if name == g.name then Some g.value else given_to name gs

abbrev pub if_none : Option ConstantValue → Place → List Given → Given → Result (List Given) Fault
if_none None at gs g = Ok (gs ++ g ∷ [])
if_none (Some v) at gs g = Err (fault 24 at [])

-- a parameter that has no value yet takes one, else 24
abbrev pub if_free : (names : List Identifier) → Place → Given → List Given → Result (List Given) Fault
if_free names at g gs = if is_listed g.name names then if_none (given_to g.name gs) at gs g else Err (fault 24 at [])

abbrev pub value_by_name : Scope → (names : List Identifier) → Place → (name : ℕ) → Expression → List Given → Result (List Given) Fault
value_by_name scope names at name e gs = evaluated scope e >>= λ v. if_free names at (record { name = name; value = v }) gs

-- one override, at its dot; an empty one is none
abbrev pub one_by_name : Scope → (names : List Identifier) → Place → (name : ℕ) → Option Expression → List Given → Result (List Given) Fault
one_by_name scope names at name None gs = Ok gs
one_by_name scope names at name (Some e) gs = value_by_name scope names at name e gs

abbrev pub by_name : Scope → (names : List Identifier) → List ConnectionByName → List Given → Result (List Given) Fault
by_name scope names [] gs = Ok gs
by_name scope names (x ∷ xs) gs = one_by_name scope names x.at x.name.name.0 x.value gs >>= λ more. by_name scope names xs more

abbrev pub value_given : List Given → Identifier → Option ConstantValue
value_given gs n = given_to n.name.0 gs

-- the overrides of the parameters of these names, in their order
unfoldable pub overridden : Scope → (names : List Identifier) → Option ConnectionList → Result (List (Option ConstantValue)) Fault
overridden scope names None = Ok []
overridden scope names (Some (ByOrder xs)) = by_order scope names xs []
overridden scope names (Some (ByName xs)) = by_name scope names xs [] >>= λ gs. Ok (map (value_given gs) names)
