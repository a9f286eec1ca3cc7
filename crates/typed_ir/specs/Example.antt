-- Units that are sound: a register that follows an input, in a top that hands its own input down.
use Rattle.std.specs.Prelude.{ℕ, false, [], ◌∷◌}
use Rattle.typed_ir.specs.declared.lane.Lane.{Lane}
use Rattle.typed_ir.specs.declared.target_form.TargetForm.TheVariants.{Name as Shown}
use Rattle.typed_ir.specs.Sized.{Name}
use Rattle.typed_ir.specs.Stmts.{Later, Fixed}
use Rattle.typed_ir.specs.Cycles.{Signal}
use Rattle.typed_ir.specs.Trees.{Into, SizedUnit, Instances, Nothing, One}

abbrev pub wire : ℕ → Signal
wire name = record { in_module = 0; path = name ∷ []; lsb = 0; signed = false; width = 8; initial = 0 }

abbrev pub all_of : ℕ → Lane
all_of s = record { shift = 0; span = record { signal = s; low = 0; width = 8 } }

abbrev pub follower : SizedUnit
follower = record {
  signals = wire 1 ∷ wire 2 ∷ [];
  registers = 1 ∷ [];
  inputs = 0 ∷ [];
  nodes = [];
  clocked = Later (Fixed (all_of 1) ∷ []) (Name 0 8) ∷ [];
}

abbrev pub top : SizedUnit
top = record {
  signals = wire 3 ∷ [];
  registers = [];
  inputs = 0 ∷ [];
  nodes = Into 0 Shown (all_of 0 ∷ []) (Name 0 8) ∷ [];
  clocked = [];
}

abbrev pub tree : Instances
tree = One 4 top (One 5 follower Nothing Nothing) Nothing
