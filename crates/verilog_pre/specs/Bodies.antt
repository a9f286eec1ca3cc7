-- The body of a macro (IEEE 1364-2005, clause 19.3.1): the parts that its uses give.
use Rattle.std.specs.Prelude.{ℕ, zero, suc, ◌+◌, ◌-◌, Bool, true, false, ◌&&◌, ◌||◌, ◌==◌, not, nat_lt, if◌then◌else◌, List, [], ◌∷◌, ◌++◌, length, take, drop, slice_index, Option, Some, None}
use Rattle.std.specs.List.{prefix_len, suffix_len}
use Rattle.ls_text.specs.Bytes.{is_letter, is_word_byte, is_blank, is_space}
use Rattle.verilog_pre.specs.Parts.{Part, Text, Use, Open}
use Rattle.verilog_pre.specs.declared.body_cut.BodyCut.{BodyCut}
use Rattle.verilog_pre.specs.declared.body_cut.BodyCut.TheVariants as cut

-- how many bytes stand before the first newline with no backslash right before it
abbrev pub lines_len : Bool → ℕ → List ℕ → ℕ
lines_len escaped n [] = n
lines_len escaped n (b ∷ bs) =
    if (b == 10) && not escaped then n else lines_len (b == 92) (n + 1) bs

-- how many bytes end with the first `*/` within these lines
abbrev pub comment_len : ℕ → ℕ → List ℕ → Option ℕ
comment_len last n [] = None
comment_len last n (b ∷ bs) =
    if (last == 42) && (b == 47) then Some (n + 1)
    else if (b == 10) && not (last == 92) then None
    else comment_len b (n + 1) bs

-- the two bytes begin a comment or the use of a macro
abbrev pub begins_cut : ℕ → ℕ → Bool
begins_cut a b = ((a == 47) && ((b == 47) || (b == 42))) || ((a == 96) && is_letter b)

-- How many bytes stand before the next cut of a body, behind n bytes of which the last is told; 0 tells that it
-- begins no cut.
abbrev pub run_len : ℕ → ℕ → List ℕ → ℕ
run_len last n [] = n
run_len last n (b ∷ bs) =
    if b == 10 then (if last == 92 then n - 1 else n)
    else if begins_cut last b then n - 1
    else run_len b (n + 1) bs

-- a comment, by what is inside: it closes within the body's own lines, or is left open
abbrev pub comment_or : List ℕ → Option ℕ → BodyCut
comment_or inside None = cut.Open (2 + lines_len false 0 inside)
comment_or inside (Some n) = cut.Gap (2 + n)

-- the first cut of a body's text that isn't empty
unfoldable pub body_cut : List ℕ → BodyCut
body_cut text =
    let a = slice_index text 0 in
    let b = slice_index text 1 in
    if a == 10 then cut.Last 0
    else if (a == 92) && (b == 10) then cut.Gap 2
    else if (a == 47) && (b == 47) then cut.Last (prefix_len (λ c. not (c == 10)) text)
    else if (a == 47) && (b == 42) then comment_or (drop 2 text) (comment_len 0 0 (drop 2 text))
    else if (a == 96) && is_letter b then cut.Use (1 + prefix_len is_word_byte (drop 1 text))
    else cut.Run (run_len 0 1 (drop 1 text))

-- the bytes of a cut, and whether the body goes on behind them
abbrev pub cut_len : BodyCut → ℕ
cut_len (cut.Run n) = n
cut_len (cut.Use n) = n
cut_len (cut.Gap n) = n
cut_len (cut.Open n) = n
cut_len (cut.Last n) = n

abbrev pub goes_on : BodyCut → Bool
goes_on (cut.Run n) = true
goes_on (cut.Use n) = true
goes_on (cut.Gap n) = true
goes_on (cut.Open n) = true
goes_on (cut.Last n) = false

-- a body ends where its text does, at a newline, and at a `//`
abbrev pub ends_body : List ℕ → Bool
ends_body rest = (length rest == 0) || ((slice_index rest 0 == 10) || ((slice_index rest 0 == 47) && (slice_index rest 1 == 47)))

-- how many bytes of a run count: white space at the body's end doesn't
abbrev pub kept_len : List ℕ → List ℕ → ℕ
kept_len run rest = if ends_body rest then length run - suffix_len is_space run else length run

-- a run before the rest of the text
abbrev pub run_part : ℕ → ℕ → List ℕ → List ℕ → List Part
run_part file offset run rest =
    if nat_lt 0 (kept_len run rest) then Text (record { file = file; start = offset; end = offset + kept_len run rest }) ∷ [] else []

abbrev pub cut_parts : ℕ → ℕ → List ℕ → BodyCut → List Part
cut_parts file offset text (cut.Run n) = run_part file offset (take n text) (drop n text)
cut_parts file offset text (cut.Use n) = Use (take (n - 1) (drop 1 text)) ∷ []
cut_parts file offset text (cut.Gap n) = []
cut_parts file offset text (cut.Open n) = Open ∷ []
cut_parts file offset text (cut.Last n) = []

-- the parts of a body whose text begins at an offset of a file, of which the first so many bytes are cut
abbrev pub parts_from : ℕ → ℕ → ℕ → List ℕ → List Part
parts_from file offset skip [] = []
parts_from file offset (suc k) (b ∷ bs) = parts_from file (offset + 1) k bs
parts_from file offset zero (b ∷ bs) =
    cut_parts file offset (b ∷ bs) (body_cut (b ∷ bs))
    ++ (if goes_on (body_cut (b ∷ bs)) then parts_from file (offset + 1) (cut_len (body_cut (b ∷ bs)) - 1) bs else [])

-- how many bytes the body has
abbrev pub body_from : ℕ → List ℕ → ℕ
body_from skip [] = 0
body_from (suc k) (b ∷ bs) = 1 + body_from k bs
body_from zero (b ∷ bs) =
    if goes_on (body_cut (b ∷ bs)) then 1 + body_from (cut_len (body_cut (b ∷ bs)) - 1) bs else cut_len (body_cut (b ∷ bs))

-- the parts, and how many bytes, of a body that no white space begins
unfoldable pub trimmed_parts : ℕ → ℕ → List ℕ → List Part
trimmed_parts file offset text = parts_from file offset 0 text

unfoldable pub trimmed_len : List ℕ → ℕ
trimmed_len text = body_from 0 text

-- white space at the body's front is in no part
unfoldable pub body_parts : ℕ → ℕ → List ℕ → List Part
body_parts file offset text = trimmed_parts file (offset + prefix_len is_blank text) (drop (prefix_len is_blank text) text)

unfoldable pub body_len : List ℕ → ℕ
body_len text = prefix_len is_blank text + trimmed_len (drop (prefix_len is_blank text) text)
