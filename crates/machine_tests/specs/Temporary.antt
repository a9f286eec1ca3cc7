-- A combinational block of the tests: a temporary that is written twice and then read.
use Rattle.std.specs.Prelude.{ℕ, List, [], ◌∷◌}
use Rattle.typed_ir.specs.declared.binary_operator.BinaryOperator.{BinaryOperator}
use Rattle.typed_ir.specs.Sized.{Constant, Name, Binary}
use Rattle.typed_ir.specs.Stmts.{SizedStmt, SizedTarget, Skip, Assign, Then, Fixed}

-- a whole signal of four bits, from the lowest bit of the value on
abbrev pub all_of : ℕ → List SizedTarget
all_of signal = Fixed (record { shift = 0; span = record { signal = signal; low = 0; width = 4 } }) ∷ []

-- signal 1 = signal 0 OP 1; signal 1 = signal 1 OP 6; signal 2 = signal 1
abbrev pub temporary : BinaryOperator → BinaryOperator → SizedStmt
temporary p q =
    Then (Assign (all_of 1) (Binary p (Name 0 4) (Constant 4 1)))
    (Then (Assign (all_of 1) (Binary q (Name 1 4) (Constant 4 6))) (Then (Assign (all_of 2) (Name 1 4)) Skip))
