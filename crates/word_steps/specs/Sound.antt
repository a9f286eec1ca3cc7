-- Steps that are safe: their places lie in the words, and their widths in a word.
use Rattle.std.specs.Prelude.{ℕ, ◌+◌, Bool, true, false, ◌&&◌, ◌||◌, not, nat_le, nat_lt, if◌then◌else◌, List, [], ◌∷◌}
use Rattle.word_steps.specs.Walks.{writes}
use Rattle.word_steps.specs.declared.step.Step.{Step}
use Rattle.word_steps.specs.declared.op.Op.{Op}
use Rattle.word_steps.specs.declared.op.Op.TheVariants.{Xnor, Quotient, Remainder, SignedQuotient, SignedRemainder, SignedLess, SignedAtMost, Arithmetic, Extend, Place, Locate, SignedLocate, Pick, PlaceAt}

-- operators on words of 128 bits alone
abbrev pub is_long : Op → Bool
is_long Xnor = true
is_long Quotient = true
is_long Remainder = true
is_long SignedQuotient = true
is_long SignedRemainder = true
is_long SignedLess = true
is_long SignedAtMost = true
is_long Arithmetic = true
is_long Locate = true
is_long SignedLocate = true
is_long Pick = true
is_long PlaceAt = true
is_long op = false

-- the bits that a step names lie in a word of so many bits
abbrev pub lies_in : ℕ → Op → ℕ → ℕ → Bool
lies_in total Extend width low = nat_lt (low + 1) total
lies_in total Place width low = nat_le (low + width) total
lies_in total PlaceAt width low = nat_le 1 low && nat_le low total
lies_in total op width low = nat_lt low total

-- words of so many bits have room for what a step makes
abbrev pub has_room : ℕ → Op → ℕ → ℕ → Bool
has_room total op width low = nat_le 1 width && (nat_le width total && lies_in total op width low)

-- the same where a step takes all bits of a word, or the lower 64
abbrev pub is_sized : Bool → Op → ℕ → ℕ → Bool
is_sized wide op width low = if wide then has_room 128 op width low else not (is_long op) && has_room 64 op width low

-- the places of a step lie in so many words; where it passes over steps, `c` is no place
abbrev pub is_placed : ℕ → Step → Bool
is_placed n s = nat_lt s.to n && (nat_lt s.a n && (nat_lt s.b n && (nat_lt s.c n || not (writes s.op))))

abbrev pub is_sound : ℕ → Step → Bool
is_sound n s = is_placed n s && is_sized s.wide s.op s.width s.low

abbrev pub are_sound : ℕ → List Step → Bool
are_sound n [] = true
are_sound n (s ∷ ss) = is_sound n s && are_sound n ss
