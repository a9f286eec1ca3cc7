-- What a function that parses ensures.
use Rattle.std.specs.Prelude.{ℕ, List, [], ◌∷◌, ◌++◌, Result, Ok, Err}
use Rattle.verilog_lex.specs.declared.token.Token.{Token}
use Rattle.verilog_expr.specs.declared.fault.ParseFault.{ParseFault}
use Rattle.verilog_expr.specs.declared.error.ParseError.{ParseError}
use Rattle.verilog_expr.specs.declared.error.ParseError.TheVariants.{NoMemory, Fault}
use Rattle.verilog_expr.specs.Grammar.{Symbol, N, Operand, Tail}
use Rattle.verilog_expr.specs.Machine.{Outcome, Run}

-- the machine has this fault, unless memory ran out
pub data Fails (stack : List Symbol) (old : List Token) : ParseError → Type 0 where
  no_memory : Fails stack old NoMemory
  at_fault : {f : ParseFault}
      → Run stack old (Err f)
      → Fails stack old (Fault f)

-- the machine does with these symbols what the function did
abbrev pub Reads : {A : Type 0} → List Symbol → List Token → Result A ParseError → List Token → Type 0
Reads stack old (Ok x) new = Run stack old (Ok new)
Reads stack old (Err e) new = Fails stack old e

-- the machine comes from the one stack and tokens to the other, whatever lies below
pub record Leads (xs : List Symbol) (s : List Token) (ys : List Symbol) (t : List Token) : Type 0 where
  pub go : (k : List Symbol) (out : Outcome) → Run (ys ++ k) t out → Run (xs ++ k) s out

-- The number after the result is how much is open after the chain.
abbrev pub ReadsChain : {A : Type 0} → ℕ → List Token → Result (A × ℕ) ParseError → List Token → Type 0
ReadsChain w old (Ok x) new = Leads (N Operand w ∷ N Tail w ∷ []) old (N Tail x.1 ∷ []) new
ReadsChain w old (Err e) new = Fails (N Operand w ∷ N Tail w ∷ []) old e
