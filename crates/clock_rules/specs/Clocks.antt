-- The clock of a module: where it may stand, and which port of an instance it reaches. It stands as the event of `posedge` and as the bare
-- connection of one input of an instance, and nowhere else (own; the events are those of IEEE Std 1364-2005, 9.7.2, the connections those
-- of 12.3.9).
use Rattle.std.specs.Prelude.{ℕ, Bool, false, ◌==◌, if◌then◌else◌, List, [], ◌∷◌, ◌++◌, Option, Some, None, Result, Ok, Err}
use Rattle.ls_text.specs.declared.fault.Fault.{Fault}
use Rattle.verilog_ast.specs.declared.identifier.Identifier.{Identifier}
use Rattle.verilog_ast.specs.Expressions.{Expression, Literal, Whole, BitSelect, PartSelect, UpwardSelect, DownwardSelect, Unary, Binary, Conditional, Concatenation, Replication, Bracketed, NoPart, Parts, Target, Reference, Joined, NoTarget, Targets}
use Rattle.verilog_ast.specs.Statements.{CaseLabel, DontCare, Compared, Statement, Block, If, IfElse, Case, Assignment, Null, Default, Match, NoStatement, Statements}
use Rattle.verilog_ast.specs.Declarations.{Declared, DeclaredReg, PortDeclaration, InputPort, OutputPort, NextPort}
use Rattle.verilog_ast.specs.Items as i
use Rattle.verilog_ast.specs.Items.{ConnectionByName, ConnectionByOrder, ConnectionList, ByName, ByOrder, ModuleInstance, ContinuousAssignment, ModuleItem, ModuleDeclaration}
use Rattle.width_rules.specs.declared.writer.Writer.TheVariants as writer
use Rattle.width_rules.specs.Faults.{fault_at}
use Rattle.width_rules.specs.Scopes.{Meaning, Signal, Constant, Turn, Genvar, Unknown, Scope}
use Rattle.module_names.specs.Listings.{names_behind}
use Rattle.module_names.specs.Modules.{module_named, header_ports, is_input_of}
use Rattle.ls_text.specs.Answers.{◌>>=◌}

-- ---- the clock among the names in reach: a signal with a number of its own, which a declaration in a block hides

abbrev pub clock_net : Meaning
clock_net = Signal 1 1 0 false writer.Nothing

abbrev pub is_clock : Meaning → Bool
is_clock (Signal signal width lsb signed writer) = signal == 1
is_clock (Constant width value signed) = false
is_clock (Turn width value signed) = false
is_clock Genvar = false
is_clock Unknown = false

-- ---- any other mention of the clock (37 at its name)

abbrev pub name_free : Scope → Identifier → Result (Unit {0}) Fault
name_free scope n = if is_clock (scope n.name.0) then Err (fault_at 37 n) else Ok tt

abbrev pub clock_free : Scope → Expression → Result (Unit {0}) Fault
clock_free scope (Literal at x) = Ok tt
clock_free scope (Whole n) = name_free scope n
clock_free scope (BitSelect n x) = name_free scope n >>= λ _. clock_free scope x
clock_free scope (PartSelect n x y) = name_free scope n >>= λ _. clock_free scope x >>= λ _. clock_free scope y
clock_free scope (UpwardSelect n x y) = name_free scope n >>= λ _. clock_free scope x >>= λ _. clock_free scope y
clock_free scope (DownwardSelect n x y) = name_free scope n >>= λ _. clock_free scope x >>= λ _. clock_free scope y
clock_free scope (Unary at op x) = clock_free scope x
clock_free scope (Binary op x y) = clock_free scope x >>= λ _. clock_free scope y
clock_free scope (Conditional c x y) = clock_free scope c >>= λ _. clock_free scope x >>= λ _. clock_free scope y
clock_free scope (Concatenation at xs) = clock_free scope xs
clock_free scope (Replication at c xs) = clock_free scope c >>= λ _. clock_free scope xs
clock_free scope (Bracketed at x) = clock_free scope x
clock_free scope NoPart = Ok tt
clock_free scope (Parts x xs) = clock_free scope x >>= λ _. clock_free scope xs

abbrev pub target_free : Scope → Target → Result (Unit {0}) Fault
target_free scope (Reference x) = clock_free scope x
target_free scope (Joined at ts) = target_free scope ts
target_free scope NoTarget = Ok tt
target_free scope (Targets t ts) = target_free scope t >>= λ _. target_free scope ts

abbrev pub label_free : Scope → CaseLabel → Result (Unit {0}) Fault
label_free scope (DontCare at x) = Ok tt
label_free scope (Compared x) = clock_free scope x

-- one after another
abbrev pub all_free : {A : Type 0} → (A → Result (Unit {0}) Fault) → List A → Result (Unit {0}) Fault
all_free free [] = Ok tt
all_free free (x ∷ xs) = free x >>= λ _. all_free free xs

abbrev pub statement_free : Scope → Statement → Result (Unit {0}) Fault
statement_free scope (Block at label body) = statement_free scope body
statement_free scope (If at c x) = clock_free scope c >>= λ _. statement_free scope x
statement_free scope (IfElse at c x y) = clock_free scope c >>= λ _. statement_free scope x >>= λ _. statement_free scope y
statement_free scope (Case at kind x items) = clock_free scope x >>= λ _. statement_free scope items
statement_free scope (Assignment t x) = target_free scope t >>= λ _. clock_free scope x
statement_free scope (Null at) = Ok tt
statement_free scope (Default at body) = statement_free scope body
statement_free scope (Match ls body) = all_free (label_free scope) ls >>= λ _. statement_free scope body
statement_free scope NoStatement = Ok tt
statement_free scope (Statements x xs) = statement_free scope x >>= λ _. statement_free scope xs

abbrev pub value_free : Scope → Option Expression → Result (Unit {0}) Fault
value_free scope None = Ok tt
value_free scope (Some e) = clock_free scope e

abbrev pub declared_free : Scope → Declared → Result (Unit {0}) Fault
declared_free scope x = value_free scope x.value

abbrev pub reg_free : Scope → DeclaredReg → Result (Unit {0}) Fault
reg_free scope x = value_free scope x.value

abbrev pub assignment_free : Scope → ContinuousAssignment → Result (Unit {0}) Fault
assignment_free scope x = target_free scope x.target >>= λ _. clock_free scope x.value

abbrev pub port_free : Scope → PortDeclaration → Result (Unit {0}) Fault
port_free scope (InputPort at net k n) = Ok tt
port_free scope (OutputPort at net k x) = declared_free scope x
port_free scope (NextPort x) = declared_free scope x

-- ---- the clock port of an instance: the one input to which the clock is connected by its bare name

-- the clock at a port: at no input, or where the instance has its clock already, it is misused
abbrev pub take_clock : ModuleDeclaration → (port : Option Identifier) → Identifier → Option ℕ → Result (Option ℕ) Fault
take_clock m None n k = Err (fault_at 37 n)
take_clock m (Some p) n (Some k) = Err (fault_at 37 n)
take_clock m (Some p) n None = if is_input_of m p.name.0 then Ok (Some p.name.0) else Err (fault_at 37 n)

-- what is no bare name doesn't mention the clock
abbrev pub connect : ModuleDeclaration → Scope → (port : Option Identifier) → Expression → Option ℕ → Result (Option ℕ) Fault
connect m scope port (Whole n) k = if is_clock (scope n.name.0) then take_clock m port n k else Ok k
connect m scope port other k = clock_free scope other >>= λ _. Ok k

abbrev pub connection : ModuleDeclaration → Scope → (port : Option Identifier) → Option Expression → Option ℕ → Result (Option ℕ) Fault
connection m scope port None k = Ok k
connection m scope port (Some e) k = connect m scope port e k

abbrev pub clock_by_name : ModuleDeclaration → Scope → List ConnectionByName → Option ℕ → Result (Option ℕ) Fault
clock_by_name m scope [] k = Ok k
clock_by_name m scope (x ∷ xs) k = connection m scope (Some x.name) x.value k >>= λ next. clock_by_name m scope xs next

abbrev pub next_port : List Identifier → Option Identifier
next_port [] = None
next_port (p ∷ ps) = Some p

abbrev pub clock_by_order : ModuleDeclaration → Scope → (ports : List Identifier) → List ConnectionByOrder → Option ℕ → Result (Option ℕ) Fault
clock_by_order m scope ports [] k = Ok k
clock_by_order m scope ports (x ∷ xs) k =
    connection m scope (next_port ports) x.value k >>= λ next. clock_by_order m scope (names_behind ports) xs next

abbrev pub clock_of : ModuleDeclaration → Scope → ConnectionList → Result (Option ℕ) Fault
clock_of m scope (ByName xs) = clock_by_name m scope xs None
clock_of m scope (ByOrder xs) = clock_by_order m scope (header_ports m.ports) xs None

abbrev pub clocks_of : ModuleDeclaration → Scope → List ModuleInstance → List (Option ℕ) → Result (List (Option ℕ)) Fault
clocks_of m scope [] ks = Ok ks
clocks_of m scope (x ∷ xs) ks = clock_of m scope x.connections >>= λ k. clocks_of m scope xs (ks ++ k ∷ [])

-- a module that isn't there was refused before
abbrev pub clocks_in : Option ModuleDeclaration → Scope → List ModuleInstance → List (Option ℕ) → Result (List (Option ℕ)) Fault
clocks_in None scope xs ks = Ok ks
clocks_in (Some m) scope xs ks = clocks_of m scope xs ks

-- ---- items, with the clock ports of the instances so far

-- `posedge` of anything else is refused at its name
abbrev pub posedge : Scope → Identifier → Result (Unit {0}) Fault
posedge scope n = if is_clock (scope n.name.0) then Ok tt else Err (fault_at 37 n)

-- where nothing is connected
abbrev pub unless_misused : Result (Unit {0}) Fault → List (Option ℕ) → Result (List (Option ℕ)) Fault
unless_misused free ks = free >>= λ _. Ok ks

abbrev pub clock_item : List ModuleDeclaration → Scope → ModuleItem → List (Option ℕ) → Result (List (Option ℕ)) Fault
clock_item ms scope (i.Outputs at net k xs) ks = unless_misused (all_free (declared_free scope) xs) ks
clock_item ms scope (i.Wires at k xs) ks = unless_misused (all_free (declared_free scope) xs) ks
clock_item ms scope (i.Regs at k xs) ks = unless_misused (all_free (reg_free scope) xs) ks
clock_item ms scope (i.Assigns at xs) ks = unless_misused (all_free (assignment_free scope) xs) ks
clock_item ms scope (i.Combinational at x) ks = unless_misused (statement_free scope x) ks
clock_item ms scope (i.Clocked at n x) ks = unless_misused (posedge scope n >>= λ _. statement_free scope x) ks
clock_item ms scope (i.Instances n overrides xs) ks = clocks_in (module_named n.name.0 ms) scope xs ks
clock_item ms scope other ks = Ok ks
