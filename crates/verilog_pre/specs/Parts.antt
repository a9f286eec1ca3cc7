-- What stands in the bodies of macros (IEEE 1364-2005, clause 19.3.1), and the work that their uses leave.
use Rattle.std.specs.Prelude.{ℕ, List}
use Rattle.verilog_pre.specs.declared.stretch.Stretch.{Stretch}

-- a part of a body: bytes that hold tokens, the use of a word, or a comment that isn't closed
pub data Part : Type 0 where
  Text : Stretch → Part
  Use : List ℕ → Part
  Open : Part

-- an item of the work: a part that is to be read, or the end of the innermost use
pub data Item : Type 0 where
  Read : Part → Item
  Leave : Item
