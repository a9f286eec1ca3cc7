-- The lines of a script, and the words of a line.
use Rattle.std.specs.Prelude.{ℕ, Bool, true, false, ◌==◌, ◌||◌, if◌then◌else◌, List, [], ◌∷◌, ◌++◌, slice_index, Option, Some, None}
use Rattle.std.specs.Option.{option_map}
use Rattle.std.specs.Str.{bytes_eq}
use Rattle.std.specs.Str.Lines.{strip_carriage_return}

-- a text in front of others, where a byte stands in it
abbrev pub with_any : List ℕ → List (List ℕ) → List (List ℕ)
with_any [] rest = rest
with_any (b ∷ bs) rest = (b ∷ bs) ∷ rest

-- The lines of bytes, of which the first has begun before them. A newline ends a line, and a carriage return before it doesn't count; a last line
-- without a newline counts where the input ends there.
abbrev pub lines_behind : (ended : Bool) → (begun : List ℕ) → List ℕ → List (List ℕ)
lines_behind ended begun [] = if ended then with_any begun [] else []
lines_behind ended begun (b ∷ bs) =
    if b == 10 then strip_carriage_return begun ∷ lines_behind ended [] bs else lines_behind ended (begun ++ b ∷ []) bs

-- the lines of bytes, behind which the input ends or not
unfoldable pub script_lines : (ended : Bool) → List ℕ → List (List ℕ)
script_lines ended bytes = lines_behind ended [] bytes

-- what parts words: a space or a tab
abbrev pub parts_words : ℕ → Bool
parts_words c = (c == 32) || (c == 9)

-- the words of bytes, of which the first has begun before them
abbrev pub words_behind : (begun : List ℕ) → List ℕ → List (List ℕ)
words_behind begun [] = with_any begun []
words_behind begun (c ∷ cs) = if parts_words c then with_any begun (words_behind [] cs) else words_behind (begun ++ c ∷ []) cs

-- the words of a line: what stands between blanks
unfoldable pub words : List ℕ → List (List ℕ)
words line = words_behind [] line

-- whether words of a line outside texts say nothing: there is none, or the first begins with `#`
abbrev pub is_skipped : List (List ℕ) → Bool
is_skipped [] = true
is_skipped (w ∷ ws) = slice_index w 0 == 35

abbrev pub is_alone : (word : List ℕ) → (first : List ℕ) → (others : List (List ℕ)) → Bool
is_alone word first [] = bytes_eq first word
is_alone word first (w ∷ ws) = false

-- whether words are this one word
abbrev pub are_just : (word : List ℕ) → List (List ℕ) → Bool
are_just word [] = false
are_just word (w ∷ ws) = is_alone word w ws

-- whether the first of words is this one
abbrev pub begin_with : (word : List ℕ) → List (List ℕ) → Bool
begin_with word [] = false
begin_with word (w ∷ ws) = bytes_eq w word

abbrev pub if_last : List ℕ → List (List ℕ) → Option (List ℕ)
if_last w [] = Some w
if_last w (v ∷ ws) = None

-- the word of a list that has no other
abbrev pub only : List (List ℕ) → Option (List ℕ)
only [] = None
only (w ∷ ws) = if_last w ws

-- the words of a list of two
abbrev pub both : List (List ℕ) → Option (List ℕ × List ℕ)
both [] = None
both (w ∷ ws) = option_map (λ v. (w, v)) (only ws)
