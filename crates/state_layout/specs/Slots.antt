-- The words of a state: each register has a slot of its own, one behind the other.
use Rattle.std.specs.Prelude.{◌≡◌, ℕ, zero, suc, ◌+◌, ◌*◌, ◌/◌, ◌%◌, ◌^◌, ◌<◌, List, [], ◌∷◌, ◌++◌, map, take, drop}
use Rattle.std.specs.List.{All}
use Rattle.state_layout.specs.Words.{words_of}

-- how many words the slot of a register has
abbrev pub slot_size : (width : ℕ) → ℕ
slot_size width = (width + 63) / 64

-- the first word of the slot of register k
abbrev pub first_word : (widths : List ℕ) → ℕ → ℕ
first_word widths k = words_of (take k widths)

-- the first words of all slots, where so many words stand before them
abbrev pub first_words : ℕ → (widths : List ℕ) → List ℕ
first_words before [] = []
first_words before (w ∷ ws) = before ∷ first_words (before + slot_size w) ws

-- the number that words are, the lowest first
abbrev pub number_of : List ℕ → ℕ
number_of [] = 0
number_of (x ∷ xs) = x + 2 ^ 64 * number_of xs

-- a number in so many words, the lowest first
abbrev pub words_for : ℕ → (number : ℕ) → List ℕ
words_for zero x = []
words_for (suc n) x = x % 2 ^ 64 ∷ words_for n (x / 2 ^ 64)

-- the state that words are: each register, by its width, has the number in its slot
abbrev pub state_in : (widths words : List ℕ) → List (ℕ × ℕ)
state_in [] xs = []
state_in (w ∷ ws) xs = (w, number_of (take (slot_size w) xs)) ∷ state_in ws (drop (slot_size w) xs)

-- the words of a state
abbrev pub state_words : List (ℕ × ℕ) → List ℕ
state_words [] = []
state_words (r ∷ rs) = words_for (slot_size r.0) r.1 ++ state_words rs

abbrev pub state_widths : List (ℕ × ℕ) → List ℕ
state_widths s = map (λ (r : ℕ × ℕ). r.0) s

-- each value is below 2 ^ width
abbrev pub Fit : List (ℕ × ℕ) → Type 0
Fit s = All (λ (r : ℕ × ℕ). r.1 < 2 ^ r.0) s

-- these words are those of a state: bits that no register has are 0
abbrev pub IsClean : (widths words : List ℕ) → Type 0
IsClean widths xs = (xs ≡ state_words (state_in widths xs)) × Fit (state_in widths xs)
