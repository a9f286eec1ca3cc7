-- The clock port of an instance is a port of the header of its module, where its connections name ports of that header (IEEE Std 1364-2005,
-- 12.3.5 and 12.3.6).
use Rattle.std.proofs.Common.{◌≡◌, ℕ, ◌==◌, Bool, true, false, if◌then◌else◌, List, [], ◌∷◌, ◌++◌, Ok, Err, refl, sym, subst}
use Rattle.std.specs.Prelude.{⊤, Option, Some, None}
use Rattle.std.proofs.lemmas.Bool.{eq-eqb}
use Rattle.verilog_ast.specs.declared.identifier.Identifier.{Identifier}
use Rattle.verilog_ast.specs.Expressions.{Expression, Whole}
use Rattle.verilog_ast.specs.Items.{ConnectionByName, ConnectionByOrder, ConnectionList, ByName, ByOrder, ModuleDeclaration}
use Rattle.width_rules.specs.Faults.{fault_at}
use Rattle.width_rules.specs.Scopes.{Scope}
use Rattle.module_names.specs.Listings.{is_listed, names_behind}
use Rattle.module_names.specs.Modules.{header_ports, is_input_of}
use Rattle.gen_unroll.proofs.Answered.{good, err_or_ok, ok_same, first_step, past_need}
use Rattle.clock_rules.specs.Clocks.{is_clock, clock_free, take_clock, connect, connection, clock_by_name, next_port, clock_by_order, clock_of}
use Rattle.clock_rules.specs.Connections.{named, name_more, all_named, connected}

-- there is no clock, or it is one of these ports
abbrev pub IsPortOf : List Identifier → Option ℕ → Type 0
IsPortOf ports None = ⊤
IsPortOf ports (Some name) = is_listed name ports ≡ true

-- ---- names in lists

abbrev AreWithin : List Identifier → List Identifier → Type 0
AreWithin ports all = (name : ℕ) → is_listed name ports ≡ true → is_listed name all ≡ true

first_listed : (p : Identifier) (ps : List Identifier) → is_listed p.name.0 (p ∷ ps) ≡ true
first_listed p ps =
    subst (λ (b : Bool). (if b then true else is_listed p.name.0 ps) ≡ true) (sym (eq-eqb p.name.0 p.name.0 refl)) refl

later_listed : (name : ℕ) (p : Identifier) (ps : List Identifier) → is_listed name ps ≡ true → is_listed name (p ∷ ps) ≡ true
later_listed name p ps h = cases (name == p.name.0)
  where
    cases : (b : Bool) → (if b then true else is_listed name ps) ≡ true
    cases true = refl
    cases false = h

-- the port of a connection, if any
abbrev IsGiven : List Identifier → Option Identifier → Type 0
IsGiven all None = ⊤
IsGiven all (Some p) = is_listed p.name.0 all ≡ true

next_given : (ports all : List Identifier) → AreWithin ports all → IsGiven all (next_port ports)
next_given [] all within = tt
next_given (p ∷ ps) all within = within p.name.0 (first_listed p ps)

behind_within : (ports all : List Identifier) → AreWithin ports all → AreWithin (names_behind ports) all
behind_within [] all within name h = within name h
behind_within (p ∷ ps) all within name h = within name (later_listed name p ps h)

-- ---- a connection

module _ (m : ModuleDeclaration) (scope : Scope) (all : List Identifier) where
  kept : (k next : Option ℕ) → IsPortOf all k → good k ≡ good next → IsPortOf all next
  kept k next own is = subst (IsPortOf all) (ok_same k next is) own

  taken_own : (port : Option Identifier) (n : Identifier) (k next : Option ℕ) → IsGiven all port → take_clock m port n k ≡ Ok next
      → IsPortOf all next
  taken_own None n k next given is = err_or_ok (fault_at 37 n) next is
  taken_own (Some p) n (Some k) next given is = err_or_ok (fault_at 37 n) next is
  taken_own (Some p) n None next given is =
      kept (Some p.name.0) next given (past_need (is_input_of m p.name.0) (fault_at 37 n) (Ok (Some p.name.0)) next is).1

  whole_own : (b : Bool) (port : Option Identifier) (n : Identifier) (k next : Option ℕ) → IsGiven all port → IsPortOf all k
      → (if b then take_clock m port n k else Ok k) ≡ Ok next → IsPortOf all next
  whole_own true port n k next given own is = taken_own port n k next given is
  whole_own false port n k next given own is = kept k next own is

  connect_own : (port : Option Identifier) (e : Expression) (k next : Option ℕ) → IsGiven all port → IsPortOf all k
      → connect m scope port e k ≡ Ok next → IsPortOf all next
  connect_own port (Whole n) k next given own is = whole_own (is_clock (scope n.name.0)) port n k next given own is
  connect_own port other k next given own is = kept k next own (first_step (clock_free scope other) (λ _. Ok k) next is).second

  connection_own : (port : Option Identifier) (value : Option Expression) (k next : Option ℕ) → IsGiven all port → IsPortOf all k
      → connection m scope port value k ≡ Ok next → IsPortOf all next
  connection_own port None k next given own is = kept k next own is
  connection_own port (Some e) k next given own is = connect_own port e k next given own is

  -- ---- connections, one after another

  by_name_own : (before : List Identifier) (xs : List ConnectionByName) (k end : Option ℕ) → all_named all before xs ≡ Ok tt → IsPortOf all k
      → clock_by_name m scope xs k ≡ Ok end → IsPortOf all end
  by_name_own before [] k end are own is = kept k end own is
  by_name_own before (x ∷ xs) k end are own is =
      let there = first_step (name_more all before x.name) (λ more. all_named all more xs) tt are in
      let once = first_step (named all before x.name) (λ _. Ok (before ++ x.name ∷ [])) there.value there.first in
      let port = past_need (is_listed x.name.name.0 all) (fault_at 27 x.name)
      (if is_listed x.name.name.0 before then Err (fault_at 28 x.name) else Ok tt) once.value once.first in
      let s = first_step (connection m scope (Some x.name) x.value k) (λ next. clock_by_name m scope xs next) end is in
      by_name_own there.value xs s.value end there.second (connection_own (Some x.name) x.value k s.value port.0 own s.first) s.second

  by_order_own : (ports : List Identifier) (xs : List ConnectionByOrder) (k end : Option ℕ) → AreWithin ports all → IsPortOf all k
      → clock_by_order m scope ports xs k ≡ Ok end → IsPortOf all end
  by_order_own ports [] k end within own is = kept k end own is
  by_order_own ports (x ∷ xs) k end within own is =
      let s = first_step (connection m scope (next_port ports) x.value k) (λ next. clock_by_order m scope (names_behind ports) xs next) end is in
      by_order_own (names_behind ports) xs s.value end (behind_within ports all within)
      (connection_own (next_port ports) x.value k s.value (next_given ports all within) own s.first) s.second

pub clock_own : (m : ModuleDeclaration) (scope : Scope) (connections : ConnectionList) (k : Option ℕ)
    → connected (header_ports m.ports) connections ≡ Ok tt → clock_of m scope connections ≡ Ok k → IsPortOf (header_ports m.ports) k
unfolding connected
clock_own m scope (ByName xs) k are is = by_name_own m scope (header_ports m.ports) [] xs None k are tt is
clock_own m scope (ByOrder xs) k are is = by_order_own m scope (header_ports m.ports) (header_ports m.ports) xs None k (λ name h. h) tt is
