-- The bounds of options.
use Rattle.std.specs.Prelude.{ℕ, ◌≤◌, List, IfSome}
use Rattle.live_options.specs.Words.{OptionsOf, options}

-- at most 64 workers, an interval from 1 to 1,000,000,000 cycles, a lookback of at most 1,099,511,627,776, and 1 to 4,096 stages of a made script
pub record AreWithin (o : OptionsOf) : Type 0 where
  pub workers : o.workers ≤ 64
  pub some : 1 ≤ o.interval
  pub interval : o.interval ≤ 1000000000
  pub lookback : o.lookback ≤ 1099511627776
  pub some_stage : IfSome o.load (λ n. 1 ≤ n)
  pub stages : IfSome o.load (λ n. n ≤ 4096)

-- the options that words ask for are within their bounds
abbrev pub AskWithin : Type 0
AskWithin = (words : List (List ℕ)) → IfSome (options words) AreWithin
