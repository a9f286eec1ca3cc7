-- The first cut of a text.
use Rattle.std.proofs.Common.{◌≡◌, ℕ, zero, suc, ◌-◌, ◌<◌, Bool, true, false, List, [], ◌∷◌, ◌++◌, length, take, drop, refl, sym, ap, ◌∙◌, arith, append_assoc}
use Rattle.ls_text.specs.declared.place.Place.{Place}
use Rattle.ls_text.specs.Places.{step}
use Rattle.verilog_lex.specs.Forms.{Form}
use Rattle.verilog_lex.specs.Cuts.{cut_at}
use Rattle.verilog_lex.specs.Lexemes.{Lexeme, lexeme_here, moved, moved_over, lexemes_from, text_lexemes}

skipped : (fixed : Bool) (at : Place) (k : ℕ) (bs : List ℕ) → lexemes_from fixed at k bs ≡ lexemes_from fixed (moved_over fixed at (take k bs)) 0 (drop k bs)
skipped true at zero bs = refl
skipped false at zero bs = refl
skipped true at (suc k) [] = refl
skipped false at (suc k) [] = refl
skipped true at (suc k) (b ∷ bs) = skipped true at k bs
skipped false at (suc k) (b ∷ bs) = skipped false (step at b) k bs

moved_first : (fixed : Bool) (at : Place) (n b : ℕ) (bs : List ℕ) → moved_over fixed (moved fixed at b) (take n bs) ≡ moved_over fixed at (take (suc n) (b ∷ bs))
moved_first true at n b bs = refl
moved_first false at n b bs = refl

pub first_cut : (fixed : Bool) (at : Place) (text : List ℕ) (form : Form) (n : ℕ) → 0 < length text → (form, n) ≡ cut_at text → 0 < n
    → text_lexemes fixed at text ≡ lexeme_here at form ++ text_lexemes fixed (moved_over fixed at (take n text)) (drop n text)
unfolding text_lexemes
first_cut fixed at [] form n some is more = absurd (omega arith)
first_cut fixed at (b ∷ bs) form n some is more =
    let count : (cut_at (b ∷ bs)).1 - 1 ≡ n - 1 = ap (λ (c : Form × ℕ). c.1 - 1) (sym is) in
    ap (λ (c : Form × ℕ). lexeme_here at c.0 ++ lexemes_from fixed (moved fixed at b) (c.1 - 1) bs) (sym is)
    ∙ ap (λ ls. lexeme_here at form ++ ls) (skipped fixed (moved fixed at b) (n - 1) bs ∙ behind n more)
  where
    behind : (n : ℕ) → 0 < n → lexemes_from fixed (moved_over fixed (moved fixed at b) (take (n - 1) bs)) 0 (drop (n - 1) bs)
        ≡ lexemes_from fixed (moved_over fixed at (take n (b ∷ bs))) 0 (drop n (b ∷ bs))
    behind zero more = absurd (omega arith)
    behind (suc n) more = ap (λ k. lexemes_from fixed (moved_over fixed (moved fixed at b) (take k bs)) 0 (drop k bs)) (let same : suc n - 1 ≡ n = omega arith in same) ∙ ap (λ place. lexemes_from fixed place 0 (drop n bs)) (moved_first fixed at n b bs)

-- the lexemes of a text and of more behind it, with its first cut off
pub cut_off : (fixed : Bool) (at : Place) (text : List ℕ) (form : Form) (n : ℕ) (bytes rest : List ℕ) (next : Place) (more : List Lexeme)
    → 0 < length text → (form, n) ≡ cut_at text → 0 < n → next ≡ moved_over fixed at bytes → bytes ≡ take n text → rest ≡ drop n text
    → text_lexemes fixed at text ++ more ≡ lexeme_here at form ++ (text_lexemes fixed next rest ++ more)
cut_off fixed at text form n bytes rest next more some is positive moves front back =
    ap (λ ls. ls ++ more) (first_cut fixed at text form n some is positive)
    ∙ append_assoc (lexeme_here at form) (text_lexemes fixed (moved_over fixed at (take n text)) (drop n text)) more
    ∙ ap (λ place. lexeme_here at form ++ (text_lexemes fixed place (drop n text) ++ more)) (sym (moves ∙ ap (moved_over fixed at) front))
    ∙ ap (λ left. lexeme_here at form ++ (text_lexemes fixed next left ++ more)) (sym back)
