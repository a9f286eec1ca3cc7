-- What is wrong within a combinational block: a bit that it writes is read before (36), or not written on every path (35), a latch. Both
-- are refused by this project; the standard has them hold their old values (IEEE Std 1364-2005, 9.2, 9.7.5).
use Rattle.std.specs.Prelude.{ℕ, zero, suc, Bool, ◌&&◌, ◌||◌, ◌==◌, nat_le, nat_lt, List, [], ◌∷◌, ◌++◌, length, Option, Some, None, option_to_list, if◌then◌else◌}
use Rattle.ls_text.specs.declared.name_id.NameId.{NameId}
use Rattle.ls_text.specs.declared.place.Place.{Place}
use Rattle.ls_text.specs.declared.fault.Fault.{Fault}
use Rattle.typed_ir.specs.Stmts.{SizedStmt}
use Rattle.typed_ir.specs.Orders.{at_or}
use Rattle.typed_ir.specs.Cycles.{Signal}
use Rattle.typed_ir.specs.declared.mention.Mention.{Mention}
use Rattle.typed_ir.specs.declared.signal_declaration.SignalDeclaration.{SignalDeclaration}
use Rattle.typed_ir.specs.Items.{PlacedItem}
use Rattle.width_rules.specs.Faults.{fault}
use Rattle.block_rules.specs.Paths.{flags_of_block, unwritten, places_of_true}
use Rattle.driver_rules.specs.Mentioned.{earliest, shown_faults}
use Rattle.driver_rules.specs.Writes.{blocks_of}

-- ---- reads before writes

abbrev pub read_faults : List Mention → Place → SizedStmt → List Fault
read_faults reads at st = shown_faults 36 (earliest (places_of_true (flags_of_block st)) reads at)

-- ---- latches

abbrev pub order_at : List SignalDeclaration → ℕ → ℕ
order_at declarations s = at_or (λ (d : SignalDeclaration). d.order) 0 declarations s

-- declared before another, or with it and with no higher number
abbrev pub comes_before : List SignalDeclaration → ℕ → ℕ → Bool
comes_before declarations s t =
    nat_lt (order_at declarations s) (order_at declarations t)
    || ((order_at declarations s == order_at declarations t) && nat_le s t)

-- the one of both that comes first
abbrev pub nearer : List SignalDeclaration → Option ℕ → ℕ → ℕ
nearer declarations None t = t
nearer declarations (Some s) t = if comes_before declarations s t then s else t

-- of the signals below a number of which this is so, the one that is declared first
abbrev pub first_declared : List SignalDeclaration → (ℕ → Bool) → ℕ → Option ℕ
first_declared declarations f zero = None
first_declared declarations f (suc n) =
    if f n then Some (nearer declarations (first_declared declarations f n) n) else first_declared declarations f n

abbrev pub first_of : List ℕ → Option NameId
first_of [] = None
first_of (name ∷ names) = Some (record { 0 = name })

-- the name of a signal
abbrev pub name_at : List Signal → ℕ → Option NameId
name_at signals s = at_or (λ (x : Signal). first_of x.path) None signals s

abbrev pub latched : List Signal → Place → Option ℕ → List Fault
latched signals at None = []
latched signals at (Some s) = fault 35 at (option_to_list (name_at signals s)) ∷ []

abbrev pub latch_faults : List Signal → List SignalDeclaration → Place → SizedStmt → List Fault
latch_faults signals declarations at st = latched signals at (first_declared declarations (unwritten st) (length declarations))

-- ---- both, block by block

abbrev pub path_faults : List Signal → List SignalDeclaration → PlacedItem → List SizedStmt → List Fault
path_faults signals declarations x [] = []
path_faults signals declarations x (st ∷ sts) =
    (read_faults x.reads x.at st ++ latch_faults signals declarations x.at st) ++ path_faults signals declarations x sts

abbrev pub block_faults : List Signal → List SignalDeclaration → List PlacedItem → List Fault
block_faults signals declarations [] = []
block_faults signals declarations (x ∷ xs) = path_faults signals declarations x (blocks_of x.body) ++ block_faults signals declarations xs
