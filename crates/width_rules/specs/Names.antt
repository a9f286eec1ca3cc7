-- The names that expressions and targets mention, in the order of their sized forms (IEEE Std 1364-2005, 5.2, 5.5, 6.1, 9.2).
use Rattle.std.specs.Prelude.{Bool, List, [], ◌∷◌, ◌++◌, if◌then◌else◌}
use Rattle.verilog_ast.specs.declared.identifier.Identifier.{Identifier}
use Rattle.verilog_ast.specs.Expressions.{Expression, Literal, Whole, BitSelect, PartSelect, UpwardSelect, DownwardSelect, Unary, Binary, Conditional, Concatenation, Replication, Bracketed, NoPart, Parts, Target, Reference, Joined, NoTarget, Targets}
use Rattle.width_rules.specs.Scopes.{Scope, is_signal}
use Rattle.width_rules.specs.Sizes.{is_constant}

-- ---- reads

-- a net or variable is read, and no other name
abbrev pub signal_name : Scope → Identifier → List Identifier
signal_name scope n = if is_signal (scope n.name.0) then n ∷ [] else []

-- what an index of a name reads: nothing where it is a constant, or where the name has no bits to select
abbrev pub run_time : Bool → Bool → List Identifier → List Identifier
run_time signal constant names = if signal then (if constant then [] else names) else []

-- what an expression reads: a select its name before what its index reads; bounds, widths and counts are constants
abbrev pub expression_names : Scope → Expression → List Identifier
expression_names scope (Literal at x) = []
expression_names scope (Whole n) = signal_name scope n
expression_names scope (BitSelect n x) = signal_name scope n ++ run_time (is_signal (scope n.name.0)) (is_constant scope x) (expression_names scope x)
expression_names scope (PartSelect n x y) = signal_name scope n
expression_names scope (UpwardSelect n x y) = signal_name scope n ++ run_time (is_signal (scope n.name.0)) (is_constant scope x) (expression_names scope x)
expression_names scope (DownwardSelect n x y) = signal_name scope n ++ run_time (is_signal (scope n.name.0)) (is_constant scope x) (expression_names scope x)
expression_names scope (Unary at op x) = expression_names scope x
expression_names scope (Binary op x y) = expression_names scope x ++ expression_names scope y
expression_names scope (Conditional c x y) = expression_names scope c ++ (expression_names scope x ++ expression_names scope y)
expression_names scope (Concatenation at xs) = expression_names scope xs
expression_names scope (Replication at c xs) = expression_names scope xs
expression_names scope (Bracketed at x) = expression_names scope x
expression_names scope NoPart = []
expression_names scope (Parts x xs) = expression_names scope x ++ expression_names scope xs

-- what the index of a name that is written reads
abbrev pub index_of : Scope → Expression → List Identifier
index_of scope (BitSelect n x) = run_time (is_signal (scope n.name.0)) (is_constant scope x) (expression_names scope x)
index_of scope (UpwardSelect n x y) = run_time (is_signal (scope n.name.0)) (is_constant scope x) (expression_names scope x)
index_of scope (DownwardSelect n x y) = run_time (is_signal (scope n.name.0)) (is_constant scope x) (expression_names scope x)
index_of scope other = []

-- what the indices left of an assignment read, part by part
abbrev pub index_names : Scope → Target → List Identifier
index_names scope (Reference x) = index_of scope x
index_names scope (Joined at ts) = index_names scope ts
index_names scope NoTarget = []
index_names scope (Targets t ts) = index_names scope t ++ index_names scope ts

-- ---- targets

-- a name with its select or without
abbrev pub reference_name : Expression → List Identifier
reference_name (Whole n) = n ∷ []
reference_name (BitSelect n x) = n ∷ []
reference_name (PartSelect n x y) = n ∷ []
reference_name (UpwardSelect n x y) = n ∷ []
reference_name (DownwardSelect n x y) = n ∷ []
reference_name other = []

-- the name of each part, from left to right
abbrev pub target_names : Target → List Identifier
target_names (Reference x) = reference_name x
target_names (Joined at ts) = target_names ts
target_names NoTarget = []
target_names (Targets t ts) = target_names t ++ target_names ts

-- the same of a target that stands as an expression, as in a connection of an output (12.3.9)
abbrev pub expression_targets : Expression → List Identifier
expression_targets (Concatenation at xs) = expression_targets xs
expression_targets (Parts x xs) = expression_targets x ++ expression_targets xs
expression_targets other = reference_name other

-- the expression that a target is in a connection
abbrev pub written_as : Target → Expression
written_as (Reference x) = x
written_as (Joined at ts) = Concatenation at (written_as ts)
written_as NoTarget = NoPart
written_as (Targets t ts) = Parts (written_as t) (written_as ts)
