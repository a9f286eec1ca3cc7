use Rattle.std.proofs.Common.{◌≡◌, ◌++◌, drop}
use Rattle.verilog_spelling.specs.Spellings.{spaced}
use Rattle.verilog_spelling.proofs.texts.push_spaced.Given as goal

-- the text so far, and the tokens that are left
abbrev pub invariant-loop-token : goal.invariant-loop-token
invariant-loop-token l = l.text.items ++ spaced l.names (drop l.token-index l.tokens) ≡ l.fn.text.items ++ spaced l.names l.tokens
