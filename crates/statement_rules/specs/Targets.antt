-- What stands left of an assignment: which bits of the value go where, and what may be wrong with it (IEEE Std 1364-2005, 6.1, 9.2).
use Rattle.std.specs.Prelude.{ℕ, ◌+◌, Bool, true, false, not, List, [], ◌∷◌, ◌++◌}
use Rattle.ls_text.specs.declared.fault.Fault.{Fault}
use Rattle.typed_ir.specs.Stmts.{SizedTarget}
use Rattle.verilog_ast.specs.declared.identifier.Identifier.{Identifier}
use Rattle.verilog_ast.specs.Expressions as e
use Rattle.verilog_ast.specs.Expressions.{Expression, Target, Reference, Joined, NoTarget, Targets}
use Rattle.width_rules.specs.declared.writer.Writer.{Writer}
use Rattle.width_rules.specs.declared.writer.Writer.TheVariants as writer
use Rattle.width_rules.specs.declared.due.Due.{Due}
use Rattle.width_rules.specs.Scopes.{Meaning, Signal, Constant, Turn, Genvar, Unknown, Scope}
use Rattle.width_rules.specs.Sizes.{length}
use Rattle.width_rules.specs.Faults.{fault_at, fault_if, total_faults}
use Rattle.width_rules.specs.References.{reference_part, reference_faults}

-- how many bits it takes
abbrev pub target_length : Scope → Target → ℕ
target_length scope (Reference x) = length scope x
target_length scope (Joined at ts) = target_length scope ts
target_length scope NoTarget = 0
target_length scope (Targets t ts) = target_length scope t + target_length scope ts

-- ---- parts; to each go the bits of the value from `shift` on

-- from left to right: the rightmost part takes the lowest bits (5.1.14)
abbrev pub parts : Scope → ℕ → Target → List SizedTarget
parts scope shift (Reference x) = reference_part scope shift x ∷ []
parts scope shift (Joined at ts) = parts scope shift ts
parts scope shift NoTarget = []
parts scope shift (Targets t ts) = parts scope (shift + target_length scope ts) t ++ parts scope shift ts

-- ---- what may be wrong with its names and selects; what is due are its indices: constants left of `assign`

-- from left to right, and of a concatenation its width
abbrev pub target_faults : Scope → Due → Target → List Fault
target_faults scope due (Reference x) = reference_faults scope due x
target_faults scope due (Joined at ts) = target_faults scope due ts ++ total_faults at (target_length scope ts)
target_faults scope due NoTarget = []
target_faults scope due (Targets t ts) = target_faults scope due t ++ target_faults scope due ts

-- ---- targets of the wrong kind (33)

-- what writes: an assignment of this kind
abbrev pub is_writer : Writer → Writer → Bool
is_writer writer.Nothing writer.Nothing = false
is_writer writer.Nothing writer.Continuous = false
is_writer writer.Nothing writer.Clocked = false
is_writer writer.Nothing writer.Combinational = false
is_writer writer.Continuous writer.Nothing = false
is_writer writer.Continuous writer.Continuous = true
is_writer writer.Continuous writer.Clocked = false
is_writer writer.Continuous writer.Combinational = false
is_writer writer.Clocked writer.Nothing = false
is_writer writer.Clocked writer.Continuous = false
is_writer writer.Clocked writer.Clocked = true
is_writer writer.Clocked writer.Combinational = false
is_writer writer.Combinational writer.Nothing = false
is_writer writer.Combinational writer.Continuous = false
is_writer writer.Combinational writer.Clocked = false
is_writer writer.Combinational writer.Combinational = true

abbrev pub may_write : Writer → Meaning → Bool
may_write by (Signal signal width lsb signed writer) = is_writer by writer
may_write by (Constant width value signed) = false
may_write by (Turn width value signed) = false
may_write by Genvar = false
may_write by Unknown = false

abbrev pub kind_fault : Scope → Writer → Identifier → List Fault
kind_fault scope by n = fault_if (not (may_write by (scope n.name.0))) (fault_at 33 n)

abbrev pub reference_kind : Scope → Writer → Expression → List Fault
reference_kind scope by (e.Whole n) = kind_fault scope by n
reference_kind scope by (e.BitSelect n x) = kind_fault scope by n
reference_kind scope by (e.PartSelect n x y) = kind_fault scope by n
reference_kind scope by (e.UpwardSelect n x y) = kind_fault scope by n
reference_kind scope by (e.DownwardSelect n x y) = kind_fault scope by n
reference_kind scope by other = []

-- at each part, from left to right
abbrev pub kind_faults : Scope → Writer → Target → List Fault
kind_faults scope by (Reference x) = reference_kind scope by x
kind_faults scope by (Joined at ts) = kind_faults scope by ts
kind_faults scope by NoTarget = []
kind_faults scope by (Targets t ts) = kind_faults scope by t ++ kind_faults scope by ts
