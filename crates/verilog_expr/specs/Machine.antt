-- The grammar machine: a stack of symbols over the tokens.
use Rattle.std.specs.Prelude.{◌≡◌, ◌≤◌, ◌<◌, ℕ, List, [], ◌∷◌, ◌++◌, length, Some, None, Result, Ok, Err, Bool, true, false}
use Rattle.verilog_lex.specs.declared.token.Token.{Token}
use Rattle.verilog_lex.specs.declared.kind.Kind.{Kind}
use Rattle.verilog_expr.specs.declared.fault.ParseFault.{ParseFault}
use Rattle.verilog_expr.specs.declared.fault.ParseFault.TheVariants.{Stuck, Heavy}
use Rattle.verilog_expr.specs.declared.stop.Stop.{Stop}
use Rattle.verilog_expr.specs.declared.stop.Stop.TheVariants.{Syntax, NotInProfile}
use Rattle.verilog_expr.specs.Tokens.{next, Differs, max_weight}
use Rattle.verilog_expr.specs.Grammar.{Nonterminal, Symbol, T, N, entry, is_outside, is_outside_at}

abbrev pub Outcome : Type 0
Outcome = Result (List Token) ParseFault

-- why the machine is stuck at a token
abbrev pub stop : Bool → Stop
stop true = NotInProfile
stop false = Syntax

abbrev pub stop_at : Bool → Kind → Stop
stop_at true kind = NotInProfile
stop_at false kind = stop (is_outside kind)

-- With this stack over these tokens the machine ends so: with an empty stack and some tokens left, or with a fault,
-- which tells how many tokens are left from the one where it is.
pub data Run : List Symbol → List Token → Outcome → Type 0 where
  ends : {s : List Token} → Run [] s (Ok s)
  takes : {kind : Kind} {w : ℕ} {k : List Symbol} {s : List Token} {out : Outcome} {token : Token} {rest : List Token}
      → s ≡ token ∷ rest
      → token.kind ≡ kind
      → w ≤ max_weight
      → Run k rest out
      → Run (T kind w ∷ k) s out
  heavy : {kind : Kind} {w : ℕ} {k : List Symbol} {s : List Token} {token : Token} {rest : List Token}
      → s ≡ token ∷ rest
      → token.kind ≡ kind
      → max_weight < w
      → Run (T kind w ∷ k) s (Err (Heavy (length s)))
  differs : {kind : Kind} {w : ℕ} {k : List Symbol} {s : List Token}
      → Differs kind s
      → Run (T kind w ∷ k) s (Err (Stuck (stop (is_outside (next s))) (length s)))
  expands : {x : Nonterminal} {w : ℕ} {alternative k : List Symbol} {s : List Token} {out : Outcome}
      → entry x w (next s) ≡ Some alternative
      → Run (alternative ++ k) s out
      → Run (N x w ∷ k) s out
  refuses : {x : Nonterminal} {w : ℕ} {k : List Symbol} {s : List Token}
      → entry x w (next s) ≡ None
      → Run (N x w ∷ k) s (Err (Stuck (stop_at (is_outside_at x (next s)) (next s)) (length s)))
