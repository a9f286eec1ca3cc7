-- What the program's words say.
use Rattle.std.specs.Prelude.{ℕ, Bool, true, ◌&&◌, nat_lt, nat_le, List, [], ◌∷◌, length, codes, Option, Some, None}
use Rattle.std.specs.List.{list_all}
use Rattle.std.specs.Char.{is_ascii_digit}
use Rattle.std.specs.Str.Parse.{digits_value}
use Rattle.clap.specs.Words.{App, Row, Rule, first_of, matches_of, new_app, new_rule, takes, with_rule}
use Rattle.clap.specs.Simple.{on_top}
use Rattle.ls_text.specs.Options.{guard, ◌>>=◌}
use Rattle.live_options.specs.declared.options.Options.{Options}

-- how many workers, how the history is kept, and of how many stages a script is made, where one is
pub record OptionsOf : Type 0 where
  pub workers : ℕ
  pub interval : ℕ
  pub lookback : ℕ
  pub load : Option ℕ

-- what the options of the code say
abbrev pub options_of : Options → OptionsOf
options_of o = record { workers = o.workers; interval = o.interval; lookback = o.lookback; load = o.load }

-- `--NAME VALUE` or `--NAME=VALUE`, at most once
abbrev pub option_named : (name : List ℕ) → Rule
option_named name = record (new_rule name) { long = Some name }

-- without a flag that asks for help
abbrev pub without_help : App → App
without_help = on_top (λ s. record s { disable_help_flag = true })

-- the command that clap reads: four options and nothing else
abbrev pub livesim_app : App
livesim_app =
    with_rule (with_rule (with_rule (with_rule (without_help (new_app (codes "livesim"))) (option_named (codes "workers"))) (option_named (codes "interval")))
    (option_named (codes "lookback"))) (option_named (codes "load"))

-- 1 to 13 decimal digits
abbrev pub is_number : List ℕ → Bool
is_number text = nat_lt 0 (length text) && (nat_le (length text) 13 && list_all is_ascii_digit text)

-- the number that they spell
abbrev pub number_of : List ℕ → Option ℕ
number_of text = guard (is_number text) (digits_value 10 text)

-- the number that a text spells, from the least to the most
abbrev pub number_within : (least most : ℕ) → (text : List ℕ) → Option ℕ
number_within least most text = number_of text >>= λ n. guard (nat_le least n && nat_le n most) n

-- where there is no text, the default
abbrev pub value_within : (default least most : ℕ) → (given : Option (List ℕ)) → Option ℕ
value_within default least most None = Some default
value_within default least most (Some text) = number_within least most text

-- where there is no text, no number
abbrev pub choice_within : (least most : ℕ) → (given : Option (List ℕ)) → Option (Option ℕ)
choice_within least most None = Some None
choice_within least most (Some text) = number_within least most text >>= λ n. Some (Some n)

-- the value of an option among what was found
abbrev pub value_of : (name : List ℕ) → (default least most : ℕ) → (found : List Row) → Option ℕ
value_of name default least most found = value_within default least most (first_of name found)

-- of how many stages a script is to be made, where one is asked for
abbrev pub load_of : (found : List Row) → Option (Option ℕ)
load_of found = choice_within 1 4096 (first_of (codes "load") found)

-- the options that were found, where each value is of its form and within its bounds
abbrev pub options_in : (found : List Row) → Option OptionsOf
options_in found = do
  workers ← value_of (codes "workers") 2 0 64 found
  interval ← value_of (codes "interval") 10000 1 1000000000 found
  lookback ← value_of (codes "lookback") 10000 0 1099511627776 found
  load ← load_of found
  Some (record { workers = workers; interval = interval; lookback = lookback; load = load })

-- What words ask for, of which the first is the program's name: options where clap takes the words and each value is of its form and within
-- its bounds; nothing where there is no word.
unfoldable pub options : (words : List (List ℕ)) → Option OptionsOf
options [] = None
options (program ∷ words) =
    guard (takes livesim_app (program ∷ words)) (matches_of livesim_app (program ∷ words)) >>= λ found. options_in found
