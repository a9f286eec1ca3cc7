-- The compiler directives (IEEE 1364-2005, clause 19).
use Rattle.std.specs.Prelude.{ℕ, ◌+◌, Bool, true, false, if◌then◌else◌, List, [], ◌∷◌, take, drop, slice_index, codes, Option, Some, None}
use Rattle.std.specs.List.{prefix_len}
use Rattle.std.specs.Str.{bytes_eq}
use Rattle.ls_text.specs.Bytes.{is_letter, is_word_byte, is_blank}
use Rattle.verilog_pre.specs.declared.directive.Directive.{Directive}
use Rattle.verilog_pre.specs.declared.directive.Directive.TheVariants as directive

-- what a table gives a word
abbrev pub directive_in : List (List ℕ × Directive) → List ℕ → Option Directive
directive_in [] word = None
directive_in (entry ∷ table) word = if bytes_eq entry.0 word then Some entry.1 else directive_in table word

unfoldable pub directives : List (List ℕ × Directive)
directives =
    (codes "define", directive.Define) ∷
    (codes "undef", directive.Undef) ∷
    (codes "ifdef", directive.Ifdef) ∷
    (codes "ifndef", directive.Ifndef) ∷
    (codes "elsif", directive.Elsif) ∷
    (codes "else", directive.Else) ∷
    (codes "endif", directive.Endif) ∷
    (codes "timescale", directive.RestOfLine) ∷
    (codes "default_nettype", directive.RestOfLine) ∷
    (codes "celldefine", directive.NoEffect) ∷
    (codes "endcelldefine", directive.NoEffect) ∷
    []

abbrev pub directive_or : Option Directive → Directive
directive_or None = directive.Use
directive_or (Some d) = d

-- another word is the use of a macro
unfoldable pub directive_of : List ℕ → Directive
directive_of word = directive_or (directive_in directives word)

-- text that is skipped is read for these alone
abbrev pub is_conditional : Directive → Bool
is_conditional directive.Define = false
is_conditional directive.Undef = false
is_conditional directive.Ifdef = true
is_conditional directive.Ifndef = true
is_conditional directive.Elsif = true
is_conditional directive.Else = true
is_conditional directive.Endif = true
is_conditional directive.RestOfLine = false
is_conditional directive.NoEffect = false
is_conditional directive.Use = false

abbrev pub is_use : Directive → Bool
is_use directive.Define = false
is_use directive.Undef = false
is_use directive.Ifdef = false
is_use directive.Ifndef = false
is_use directive.Elsif = false
is_use directive.Else = false
is_use directive.Endif = false
is_use directive.RestOfLine = false
is_use directive.NoEffect = false
is_use directive.Use = true

-- the name behind a directive, on its line, and how many bytes end with it
unfoldable pub name_at : List ℕ → Option (List ℕ × ℕ)
name_at rest =
    let blank = prefix_len is_blank rest in
    let name = drop blank rest in
    let n = prefix_len is_word_byte name in
    if is_letter (slice_index name 0) then Some (take n name, blank + n) else None
