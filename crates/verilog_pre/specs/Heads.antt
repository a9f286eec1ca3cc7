-- What stands at the head of a text: a comment (IEEE 1364-2005, clause 3.3), a directive (clause 19), or other bytes.
use Rattle.std.specs.Prelude.{◌<◌, ◌≤◌, ℕ, zero, suc, ◌+◌, ◌-◌, Bool, false, ◌&&◌, ◌==◌, not, nat_lt, if◌then◌else◌, List, [], ◌∷◌, length, take, drop, slice_index, Option, Some, None}
use Rattle.std.specs.List.{prefix_len}
use Rattle.ls_text.specs.Bytes.{is_letter, is_word_byte, through_pair}
use Rattle.verilog_pre.specs.Bodies.{begins_cut}
use Rattle.verilog_pre.specs.Directives.{directive_of}
use Rattle.verilog_pre.specs.declared.directive.Directive.{Directive}
use Rattle.verilog_pre.specs.declared.directive.Directive.TheVariants as directive
use Rattle.verilog_pre.specs.declared.head.Head.{Head}
use Rattle.verilog_pre.specs.declared.head.Head.TheVariants as head

-- how many bytes stand before the next comment or directive, behind n bytes of which the last is told; 0 tells that
-- it begins none
abbrev pub plain_len : ℕ → ℕ → List ℕ → ℕ
plain_len last n [] = n
plain_len last n (b ∷ bs) = if begins_cut last b then n - 1 else plain_len b (n + 1) bs

-- a comment, by where it is closed
abbrev pub comment_head : Option ℕ → Head
comment_head None = head.OpenComment
comment_head (Some n) = head.Comment (2 + n)

-- what stands at the head of a text that isn't empty
unfoldable pub head_of : List ℕ → Head
head_of text =
    let a = slice_index text 0 in
    let b = slice_index text 1 in
    if (a == 47) && (b == 47) then head.Comment (prefix_len (λ c. not (c == 10)) text)
    else if (a == 47) && (b == 42) then comment_head (through_pair 42 47 false 0 (drop 2 text))
    else if (a == 96) && is_letter b then head.Word (prefix_len is_word_byte (drop 1 text))
    else head.Run (plain_len 0 1 (drop 1 text))

-- the head has bytes, and none that the text hasn't
abbrev pub Within : ℕ → Head → Type 0
Within size (head.Comment n) = (0 < n) × (n ≤ size)
Within size head.OpenComment = Unit {0}
Within size (head.Word n) = n + 1 ≤ size
Within size (head.Run n) = (0 < n) × (n ≤ size)

-- how many conditionals are open behind a directive's word, of so many before it
abbrev pub depth_behind : ℕ → Directive → ℕ
depth_behind depth directive.Define = depth
depth_behind depth directive.Undef = depth
depth_behind depth directive.Ifdef = depth + 1
depth_behind depth directive.Ifndef = depth + 1
depth_behind depth directive.Elsif = depth
depth_behind depth directive.Else = depth
depth_behind depth directive.Endif = depth - 1
depth_behind depth directive.RestOfLine = depth
depth_behind depth directive.NoEffect = depth
depth_behind depth directive.Use = depth

-- how many are open behind the head of a text, and how many bytes it has
abbrev pub passed : ℕ → List ℕ → Head → ℕ × ℕ
passed depth text (head.Comment n) = (depth, n)
passed depth text head.OpenComment = (depth, length text)
passed depth text (head.Word n) = (depth_behind depth (directive_of (take n (drop 1 text))), 1 + n)
passed depth text (head.Run n) = (depth, n)

-- whether some of so many open conditionals stay open to the end of a text, of which the first so many bytes are passed
abbrev pub stays_from : ℕ → ℕ → List ℕ → Bool
stays_from depth skip [] = nat_lt 0 depth
stays_from depth (suc k) (b ∷ bs) = stays_from depth k bs
stays_from depth zero (b ∷ bs) =
    if nat_lt 0 depth then
    (let p = passed depth (b ∷ bs) (head_of (b ∷ bs)) in stays_from p.0 (p.1 - 1) bs)
    else false

unfoldable pub stays_open : ℕ → List ℕ → Bool
stays_open depth text = stays_from depth 0 text
