use Rattle.std.proofs.Common.{◌≡◌, [], drop}
use Rattle.version_swap.specs.FirstKeys.{first_keys}
use Rattle.version_swap.proofs.keys.first_keys.Given as goal

-- the first keys so far, and what is left
abbrev pub invariant-loop-key : goal.invariant-loop-key
invariant-loop-key l = first_keys l.first.keys (drop l.key-index l.keys) ≡ first_keys [] l.keys
