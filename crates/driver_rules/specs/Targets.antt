-- What may be written by what (33): nets by continuous assignments and connections, variables by blocks, and each variable by
-- combinational blocks or by clocked ones (IEEE Std 1364-2005, 6.1, 6.2, 9.2, 12.3.9; that a variable has one kind of blocks is this
-- project's own).
use Rattle.std.specs.Prelude.{ℕ, Bool, true, false, not, ◌&&◌, ◌||◌, ◌==◌, List, [], ◌∷◌, ◌++◌, map, slice_index_or}
use Rattle.ls_text.specs.declared.fault.Fault.{Fault}
use Rattle.typed_ir.specs.declared.span.Span.{Span}
use Rattle.typed_ir.specs.Stmts.{SizedStmt, targets}
use Rattle.typed_ir.specs.Nodes.{FlatNode, Drive, Block}
use Rattle.typed_ir.specs.Orders.{at_or}
use Rattle.typed_ir.specs.declared.signal_declaration.SignalDeclaration.{SignalDeclaration}
use Rattle.typed_ir.specs.declared.signal_kind.SignalKind.{SignalKind}
use Rattle.typed_ir.specs.declared.signal_kind.SignalKind.TheVariants.{Input, Net, Variable}
use Rattle.typed_ir.specs.Trees.{UnitNode, Own, Into, From}
use Rattle.typed_ir.specs.Items.{SizedBody, Node, Clocked, Initial, PlacedItem}
use Rattle.width_rules.specs.declared.writer.Writer.{Writer}
use Rattle.width_rules.specs.declared.writer.Writer.TheVariants as writer
use Rattle.driver_rules.specs.Writes.{blocks_of, written}
use Rattle.block_rules.specs.Paths.{places_of_true}
use Rattle.driver_rules.specs.Mentioned.{earliest, shown_faults}

abbrev pub is_net_kind : SignalKind → Bool
is_net_kind Input = false
is_net_kind Net = true
is_net_kind Variable = false

abbrev pub is_variable_kind : SignalKind → Bool
is_variable_kind Input = false
is_variable_kind Net = false
is_variable_kind Variable = true

-- what a signal is declared as; one without a declaration is nothing
abbrev pub is_net : List SignalDeclaration → ℕ → Bool
is_net declarations s = at_or (λ (d : SignalDeclaration). is_net_kind d.kind) false declarations s

abbrev pub is_variable : List SignalDeclaration → ℕ → Bool
is_variable declarations s = at_or (λ (d : SignalDeclaration). is_variable_kind d.kind) false declarations s

-- ---- variables that combinational blocks write

abbrev pub names : ℕ → List Span → Bool
names s [] = false
names s (p ∷ ps) = (s == p.signal) || names s ps

abbrev pub block_names : ℕ → List SizedStmt → Bool
block_names s [] = false
block_names s (st ∷ sts) = names s (targets st) || block_names s sts

-- some combinational block among the items writes the signal
abbrev pub is_settled : List PlacedItem → ℕ → Bool
is_settled [] s = false
is_settled (x ∷ xs) s = block_names s (blocks_of x.body) || is_settled xs s

-- ---- what may write

abbrev pub flat_writer : FlatNode → Writer
flat_writer (Drive form lanes e) = writer.Continuous
flat_writer (Block shown body) = writer.Combinational

abbrev pub node_writer : UnitNode → Writer
node_writer (Own node) = flat_writer node
node_writer (Into child form lanes e) = writer.Continuous
node_writer (From child form lanes e) = writer.Continuous

-- an initial value is that of a register
abbrev pub writer_of : SizedBody → Writer
writer_of (Node node) = node_writer node
writer_of (Clocked st) = writer.Clocked
writer_of (Initial signal) = writer.Clocked

-- whether such a signal is one that this writes; some variables are settled, those that combinational blocks write
abbrev pub may_write : List SignalDeclaration → (ℕ → Bool) → Writer → ℕ → Bool
may_write declarations settled writer.Nothing s = false
may_write declarations settled writer.Continuous s = is_net declarations s
may_write declarations settled writer.Clocked s = is_variable declarations s && not (settled s)
may_write declarations settled writer.Combinational s = is_variable declarations s

-- ---- faults

-- of an item, at the earliest part that it may not write
abbrev pub target_faults : List SignalDeclaration → (ℕ → Bool) → PlacedItem → List Fault
target_faults declarations settled x =
    shown_faults 33 (earliest (places_of_true (map (λ s. not (may_write declarations settled (writer_of x.body) s)) (written x.body))) x.targets x.at)

abbrev pub all_target_faults : List SignalDeclaration → (ℕ → Bool) → List PlacedItem → List Fault
all_target_faults declarations settled [] = []
all_target_faults declarations settled (x ∷ xs) = target_faults declarations settled x ++ all_target_faults declarations settled xs

-- ---- what the code keeps

-- the flag of a signal; false where there is none
abbrev pub flag_at : List Bool → ℕ → Bool
flag_at flags s = slice_index_or flags s false
