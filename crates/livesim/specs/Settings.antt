-- What the program runs a session with.
use Rattle.live_options.specs.Words.{OptionsOf}
use Rattle.live_session.specs.Settings.{Settings}

-- at most 2 ^ 40 cycles, 16,777,216 names set and 1,048,576 entries of the session
abbrev pub settings : OptionsOf → Settings
settings options = record {
  interval = options.interval;
  lookback = options.lookback;
  cycles = 1099511627776;
  stimulus = 16777216;
  room = 1048576;
}
