-- The instances of a design: which module is the top, and from the top down each instance with those within it (IEEE Std 1364-2005, 12.1).
use Rattle.std.specs.Prelude.{ℕ, zero, suc, Bool, true, false, ◌==◌, nat_le, if◌then◌else◌, List, [], ◌∷◌, ◌++◌, drop, length, Option, Some, None, Result, Ok, Err}
use Rattle.ls_text.specs.declared.at.At.TheVariants.{Edit}
use Rattle.ls_text.specs.declared.fault.Fault.{Fault}
use Rattle.verilog_ast.specs.declared.identifier.Identifier.{Identifier}
use Rattle.verilog_ast.specs.Items.{ModuleDeclaration}
use Rattle.width_rules.specs.Faults.{fault_at}
use Rattle.ls_text.specs.Answers.{◌>>=◌}
use Rattle.gen_unroll.specs.Values.{ConstantValue}
use Rattle.elaborate.specs.declared.limits.Limits.{Limits}
use Rattle.elaborate.specs.Checks.{ModuleChild, or_no_module}
use Rattle.elaborate.specs.Clocks.{top_clock}
use Rattle.module_names.specs.Modules.{module_named}
use Rattle.elaborate.specs.Visits.{Visited, visited}

-- ---- the modules: no name twice (21), not too many (40), and the top is one of them (22)

abbrev pub unless_there : Option ModuleDeclaration → Identifier → Result (Unit {0}) Fault
unless_there None n = Ok tt
unless_there (Some m) n = Err (fault_at 21 n)

-- the modules in their order, where no two have one name
abbrev pub named_once : (before : List ModuleDeclaration) → List ModuleDeclaration → Result (List ModuleDeclaration) Fault
named_once before [] = Ok before
named_once before (m ∷ ms) = unless_there (module_named m.name.name.0 before) m.name >>= λ _. named_once (before ++ m ∷ []) ms

abbrev pub none_more : List ModuleDeclaration → Result (Unit {0}) Fault
none_more [] = Ok tt
none_more (m ∷ ms) = Err (fault_at 40 m.name)

abbrev pub few_modules : (most : ℕ) → List ModuleDeclaration → Result (Unit {0}) Fault
few_modules most ms = none_more (drop most ms)

abbrev pub top_module : Option ModuleDeclaration → Result ModuleDeclaration Fault
top_module None = Err (record { code = 22; at = Edit; names = [] })
top_module (Some m) = Ok m

-- ---- the tree

-- an instance: the place of the one that it stands in, its block and name there, what its module is visited with, and what the visit finds
pub record Standing : Type 0 where
  pub parent : Option ℕ
  pub block : Option ℕ
  pub name : Identifier
  pub instantiated : ℕ
  pub overrides : List (Option ConstantValue)
  pub clock : Option ℕ
  pub visited : Visited

abbrev pub standing : ℕ → ModuleChild → Option ℕ → Visited → Standing
standing above c k v = record {
  parent = Some above;
  block = c.block;
  name = c.name;
  instantiated = c.instantiated.name.0;
  overrides = c.overrides;
  clock = k;
  visited = v;
}

abbrev pub is_on : List ℕ → ℕ → Bool
is_on [] name = false
is_on (x ∷ xs) name = if x == name then true else is_on xs name

abbrev pub Step : Type 0
Step = ModuleChild → Option ℕ → List Standing → Result (List Standing) Fault

abbrev pub first_clock : List (Option ℕ) → Option ℕ
first_clock [] = None
first_clock (k ∷ ks) = k

abbrev pub clocks_behind : List (Option ℕ) → List (Option ℕ)
clocks_behind [] = []
clocks_behind (k ∷ ks) = ks

-- one after another, each with its clock port
abbrev pub each_child : Step → List ModuleChild → List (Option ℕ) → List Standing → Result (List Standing) Fault
each_child step [] ks all = Ok all
each_child step (c ∷ cs) ks all = step c (first_clock ks) all >>= λ more. each_child step cs (clocks_behind ks) more

-- the instances in an instance that was visited
abbrev pub within : Step → Visited → List Standing → Result (List Standing) Fault
within step v all = each_child step v.checks.children v.clocks all

-- an instance of a module, and the instances in it
abbrev pub of_module : Limits → List ModuleDeclaration → (above : ℕ) → (below : ℕ → Step) → ModuleChild → Option ℕ → List Standing → ModuleDeclaration → Result (List Standing) Fault
of_module l ms above below c k all m =
    visited l.turns ms None m c.overrides k >>= λ v. within (below (length all)) v (all ++ standing above c k v ∷ [])

-- an instance in the one at `above`, on whose path these modules are, where so many levels may be below that one (23); one more than so many
-- instances is refused with 40; both at the module's name
abbrev pub child_at : Limits → List ModuleDeclaration → (left : ℕ) → (path : List ℕ) → (above : ℕ) → Step
child_at l ms zero path above c k all = Err (fault_at 23 c.instantiated)
child_at l ms (suc left) path above c k all =
    if is_on path c.instantiated.name.0 then Err (fault_at 23 c.instantiated)
    else if nat_le l.instances (length all) then Err (fault_at 40 c.instantiated)
    else (or_no_module (module_named c.instantiated.name.0 ms) c.instantiated
    >>= λ m. of_module l ms above (child_at l ms left (path ++ c.instantiated.name.0 ∷ [])) c k all m)

-- the top stands in no instance, and has no overrides
abbrev pub top_standing : ModuleDeclaration → (clock : Option ℕ) → Visited → Standing
top_standing m k v = record { parent = None; block = None; name = m.name; instantiated = m.name.name.0; overrides = []; clock = k; visited = v }

-- from the top down, the modules being those of a design
abbrev pub from_top : Limits → List ModuleDeclaration → (clock : Option ℕ) → ModuleDeclaration → Result (List Standing) Fault
from_top l ms clock m =
    visited l.turns ms (Some l.top_ports) m [] clock
    >>= λ v. within (child_at l ms l.levels (m.name.name.0 ∷ []) 0) v (top_standing m clock v ∷ [])

-- the top of a design, of which no two modules have one name
unfoldable pub top_of : Limits → List ModuleDeclaration → (top : ℕ) → Result ModuleDeclaration Fault
top_of l ms top = named_once [] ms >>= λ all. few_modules l.modules all >>= λ _. top_module (module_named top all)

unfoldable pub elaborated : Limits → List ModuleDeclaration → (top clock : ℕ) → Result (List Standing) Fault
elaborated l ms top clock = top_of l ms top >>= λ m. from_top l ms (top_clock clock m) m
