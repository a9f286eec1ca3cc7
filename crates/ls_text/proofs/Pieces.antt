-- Pieces of a text behind one another.
use Rattle.std.proofs.Common.{◌≡◌, ℕ, List, ◌++◌, append_assoc, ◌∙◌, ap, sym}

pub two_pieces : (old a b mid new : List ℕ) → mid ≡ old ++ a → new ≡ mid ++ b → new ≡ old ++ (a ++ b)
two_pieces old a b mid new one two = two ∙ ap (λ zs. zs ++ b) one ∙ append_assoc old a b

pub three_pieces : (old a b c one two new : List ℕ) → one ≡ old ++ a → two ≡ one ++ b → new ≡ two ++ c → new ≡ old ++ (a ++ (b ++ c))
three_pieces old a b c one two new x y z = two_pieces old a (b ++ c) one new x (two_pieces one b c two new y z)

pub four_pieces : (old a b c d one two three new : List ℕ) → one ≡ old ++ a → two ≡ one ++ b → three ≡ two ++ c → new ≡ three ++ d
    → new ≡ old ++ (a ++ (b ++ (c ++ d)))
four_pieces old a b c d one two three new x y z w = two_pieces old a (b ++ (c ++ d)) one new x (three_pieces one b c d two three new y z w)

pub five_pieces : (old a b c d e one two three four new : List ℕ) → one ≡ old ++ a → two ≡ one ++ b → three ≡ two ++ c → four ≡ three ++ d → new ≡ four ++ e
    → new ≡ old ++ (a ++ (b ++ (c ++ (d ++ e))))
five_pieces old a b c d e one two three four new x y z w v =
    two_pieces old a (b ++ (c ++ (d ++ e))) one new x (four_pieces one b c d e two three four new y z w v)

-- a piece was added, and the rest is left
pub one_more : (old piece rest new left all : List ℕ) → new ≡ old ++ piece → left ≡ piece ++ rest → old ++ left ≡ all → new ++ rest ≡ all
one_more old piece rest new left all added takes so_far =
    ap (λ t. t ++ rest) added ∙ append_assoc old piece rest ∙ ap (λ t. old ++ t) (sym takes) ∙ so_far
