-- What is checked of the parts of a flat design, and when they make one.
use Rattle.std.specs.Prelude.{ℕ, ◌%◌, ◌^◌, Bool, true, not, ◌&&◌, ◌||◌, ◌==◌, false, IsTrue, List, [], ◌∷◌, length, map, bit_or}
use Rattle.std.specs.declared.vec.Vec.{Vec}
use Rattle.std.specs.Global.{Global}
use Rattle.typed_ir.specs.declared.span.Span.{Span}
use Rattle.typed_ir.specs.Stmts.{SizedStmt, later_targets}
use Rattle.typed_ir.specs.Nodes.{FlatNode, are_legal}
use Rattle.typed_ir.specs.FlatNodes.{node_of}
use Rattle.typed_ir.specs.Flats.{signal_widths, are_clocked, are_below, are_within, flat_from, IsFlat}
use Rattle.typed_ir.specs.Orders.{is_member}
use Rattle.typed_ir.specs.Touches.{is_block}
use Rattle.typed_ir.specs.Rows.{row_in}
use Rattle.comb_order.specs.declared.drivers.Driver.{Driver}
use Rattle.comb_order.specs.declared.parts.Parts.{Parts}
use Rattle.comb_order.specs.Driving.{common}

-- the parts make a flat design: signals name instances of the table, widths agree, numbers name signals, and all is so that a flat design keeps
pub record IsDesign (parts : Parts) : Type 0 where
  pub signals_there : IsTrue (are_within parts.signals.items (length parts.instances.rows.items))
  pub legal : IsTrue (are_legal (map node_of parts.nodes.items) (signal_widths parts.signals.items))
  pub blocks : IsTrue (are_clocked parts.clocked.items (signal_widths parts.signals.items))
  pub registers_there : IsTrue (are_below parts.registers.items (length parts.signals.items))
  pub inputs_there : IsTrue (are_below parts.inputs.items (length parts.signals.items))
  pub flat : IsFlat (flat_from parts.instances.rows.items parts.signals.items parts.registers.items parts.inputs.items parts.nodes.items parts.clocked.items)

-- all spans are of signals of the list
abbrev pub spans_in : List ℕ → List Span → Bool
spans_in all [] = true
spans_in all (p ∷ ps) = is_member p.signal all && spans_in all ps

-- none of the second list is in the first
abbrev pub none_in : List ℕ → List ℕ → Bool
none_in all [] = true
none_in all (x ∷ xs) = not (is_member x all) && none_in all xs

-- the masks share no bit with those that are taken, nor with each other
abbrev pub are_apart : ℕ → List Driver → Bool
are_apart taken [] = true
are_apart taken (d ∷ ds) = not (common taken d.mask) && are_apart (bit_or taken d.mask) ds

-- so in each row
abbrev pub rows_apart : List (Vec Driver Global) → Bool
rows_apart [] = true
rows_apart (r ∷ rs) = are_apart 0 r.items && rows_apart rs

-- a driver of no bit
abbrev pub is_idle : Driver → Bool
is_idle d = d.mask % 2 ^ 128 == 0

abbrev pub are_idle : List Driver → Bool
are_idle [] = true
are_idle (d ∷ ds) = is_idle d && are_idle ds

-- no bit of these signals has a driver
abbrev pub are_undriven : List (Vec Driver Global) → List ℕ → Bool
are_undriven table [] = true
are_undriven table (s ∷ ss) = are_idle (row_in table s) && are_undriven table ss

-- all clocked blocks write signals of the list alone
abbrev pub blocks_in : List ℕ → List SizedStmt → Bool
blocks_in registers [] = true
blocks_in registers (st ∷ sts) = spans_in registers (later_targets st) && blocks_in registers sts

abbrev pub has_block : List FlatNode → Bool
has_block [] = false
has_block (n ∷ ns) = is_block n || has_block ns
