-- The lines that answer commands, but for tables and refusals: this project's own.
use Rattle.std.specs.Prelude.{ℕ, List, ◌++◌, codes, decimal, length}
use Rattle.std.specs.List.{flat_map}
use Rattle.hex.specs.Hex.{encode_lower}
use Rattle.wave_report.specs.declared.reply_kind.ReplyKind.{ReplyKind}
use Rattle.wave_report.specs.declared.reply_kind.ReplyKind.TheVariants.{Edit, Set, Quit, Run, ShowSettled, ShowEstimate, Settled, Unsettled, Status}
use Rattle.wave_report.specs.declared.unit_line.UnitLine.{UnitLine}

-- a word with a number behind it
abbrev pub counted : List ℕ → ℕ → List ℕ
counted word n = word ++ decimal n

abbrev pub edit_text : ℕ → ℕ → ℕ → ℕ → List ℕ
edit_text version built kept from =
    counted (codes "ok edit v=") version ++ (counted (codes " built=") built
    ++ (counted (codes " kept=") kept ++ (counted (codes " from=") from ++ codes "\n")))

abbrev pub run_text : ℕ → List ℕ
run_text cycle = counted (codes "ok run cycle=") cycle ++ codes "\n"

-- the line before the table of a settled display
abbrev pub show_text : ℕ → ℕ → List ℕ
show_text cycle version = counted (codes "show cycle=") cycle ++ (counted (codes " settled v=") version ++ codes "\n")

-- the line before the table of an estimate
abbrev pub estimate_text : ℕ → ℕ → ℕ → List ℕ
estimate_text cycle version settled_to =
    counted (codes "show cycle=") cycle ++ (counted (codes " estimate v=") version ++ (counted (codes " settled_to=") settled_to ++ codes "\n"))

abbrev pub settled_text : ℕ → ℕ → List ℕ
settled_text cycle version = counted (codes "settled cycle=") cycle ++ (counted (codes " v=") version ++ codes "\n")

abbrev pub unsettled_text : ℕ → List ℕ
unsettled_text settled_to = counted (codes "unsettled settled_to=") settled_to ++ codes "\n"

-- a unit, with its digest in 64 digits
abbrev pub unit_text : UnitLine → List ℕ
unit_text u = codes "unit " ++ (u.module ++ (codes " " ++ (encode_lower u.digest ++ codes "\n")))

-- a line for each unit behind their count
abbrev pub status_text : ℕ → ℕ → ℕ → List UnitLine → List ℕ
status_text version cycle marks units =
    counted (codes "status v=") version ++ (counted (codes " cycle=") cycle
    ++ (counted (codes " marks=") marks ++ (counted (codes " units=") (length units) ++ (codes "\n" ++ flat_map unit_text units))))

-- the lines of a reply; the table of a display comes behind them
abbrev pub reply_text : ReplyKind → List ℕ
reply_text (Edit version built kept from) = edit_text version built kept from
reply_text Set = codes "ok set\n"
reply_text Quit = codes "ok quit\n"
reply_text (Run cycle) = run_text cycle
reply_text (ShowSettled cycle version) = show_text cycle version
reply_text (ShowEstimate cycle version settled_to) = estimate_text cycle version settled_to
reply_text (Settled cycle version) = settled_text cycle version
reply_text (Unsettled settled_to) = unsettled_text settled_to
reply_text (Status version cycle marks units) = status_text version cycle marks units
