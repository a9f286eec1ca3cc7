-- What is read of files depends on their texts alone, not on their names.
use Rattle.std.proofs.Common.{◌≡◌, ◌∙◌, ℕ, ◌+◌, ◌-◌, zero, suc, ◌&&◌, if◌then◌else◌, List}
use Rattle.std.proofs.Common.{[], ◌∷◌, ◌++◌, length, take, drop, map, codes, refl, ap, ap₂}
use Rattle.std.specs.Prelude.{nat_le, slice_get, Result, Ok, Err}
use Rattle.ls_text.specs.declared.piece.Piece.{Piece}
use Rattle.ls_text.specs.declared.place.Place.{Place}
use Rattle.ls_text.specs.declared.source_file.SourceFile.{SourceFile}
use Rattle.ls_text.specs.Files.{text_of, text_between}
use Rattle.ls_text.specs.Places.{place_after, file_start}
use Rattle.ls_text.specs.Readings.{TextFault, ◌>>=◌}
use Rattle.ls_text.proofs.Lists.{same_first, same_others}
use Rattle.verilog_pre.specs.Reading.{file_read, files_from, at_first, pieces}
use Rattle.verilog_pre.specs.States.{State}
use Rattle.verilog_lex.specs.declared.kind.Kind.TheVariants as kind
use Rattle.verilog_lex.specs.Lexemes.{Lexeme, text_lexemes, pieces_lexemes}
use Rattle.verilog_lex.specs.Tokens.{plain, lexeme_tokens, end_place, tokens}
use Rattle.version_swap.specs.OnePlan.{file_text as text}
use Rattle.version_swap.specs.Texts.{file_tokens}

pub as_many : (fs gs : List SourceFile) → map text fs ≡ map text gs → length fs ≡ length gs
as_many [] [] same = refl
as_many [] (g ∷ gs) same = absurd cc
as_many (f ∷ fs) [] same = absurd cc
as_many (f ∷ fs) (g ∷ gs) same = ap suc (as_many fs gs (same_others (text f) (text g) (map text fs) (map text gs) same))

-- ---- pieces

then_alike : (r : Result State TextFault) (one other : State → Result State TextFault) → ((st : State) → one st ≡ other st)
    → (r >>= one) ≡ (r >>= other)
then_alike (Ok st) one other same = same st
then_alike (Err e) one other same = refl

from_alike : (file : ℕ) (st : State) (fs gs : List SourceFile) → map text fs ≡ map text gs → files_from file st fs ≡ files_from file st gs
from_alike file st [] [] same = refl
from_alike file st [] (g ∷ gs) same = absurd cc
from_alike file st (f ∷ fs) [] same = absurd cc
from_alike file st (f ∷ fs) (g ∷ gs) same =
    let rest = same_others (text f) (text g) (map text fs) (map text gs) same in
    ap (λ (t : List ℕ). file_read file st t >>= λ next. files_from (file + 1) next fs)
    (same_first (text f) (text g) (map text fs) (map text gs) same)
    ∙ then_alike (file_read file st g.text) (λ next. files_from (file + 1) next fs) (λ next. files_from (file + 1) next gs)
    (λ next. from_alike (file + 1) next fs gs rest)

pieces_alike : (fs gs : List SourceFile) → map text fs ≡ map text gs → pieces fs ≡ pieces gs
unfolding pieces
pieces_alike fs gs same = ap (λ (r : Result State TextFault). r >>= λ st. Ok st.out.pieces) (from_alike 0 at_first fs gs same)

-- ---- tokens

text_alike : (fs gs : List SourceFile) (k : ℕ) → map text fs ≡ map text gs → text_of (slice_get fs k) ≡ text_of (slice_get gs k)
text_alike [] [] k same = refl
text_alike [] (g ∷ gs) k same = absurd cc
text_alike (f ∷ fs) [] k same = absurd cc
text_alike (f ∷ fs) (g ∷ gs) zero same = same_first (text f) (text g) (map text fs) (map text gs) same
text_alike (f ∷ fs) (g ∷ gs) (suc k) same = text_alike fs gs k (same_others (text f) (text g) (map text fs) (map text gs) same)

between_alike : (fs gs : List SourceFile) (file start end : ℕ) → map text fs ≡ map text gs
    → text_between fs file start end ≡ text_between gs file start end
unfolding text_between
between_alike fs gs file start end same =
    ap (λ (t : List ℕ). if nat_le start end && nat_le end (length t) then take (end - start) (drop start t) else []) (text_alike fs gs file same)

lexemes_alike : (fs gs : List SourceFile) (ps : List Piece) → map text fs ≡ map text gs → pieces_lexemes fs ps ≡ pieces_lexemes gs ps
lexemes_alike fs gs [] same = refl
lexemes_alike fs gs (p ∷ ps) same =
    ap₂ (λ (ls more : List Lexeme). ls ++ more) (ap (text_lexemes p.fixed p.at) (between_alike fs gs p.file p.start p.end same))
    (lexemes_alike fs gs ps same)

end_alike : (fs gs : List SourceFile) → map text fs ≡ map text gs → end_place fs ≡ end_place gs
end_alike fs gs same =
    ap (λ (n : ℕ). place_after (file_start (n - 1)) (text_of (slice_get fs (n - 1)))) (as_many fs gs same)
    ∙ ap (λ (t : List ℕ). place_after (file_start (length gs - 1)) t) (text_alike fs gs (length gs - 1) same)

ended_alike : (fs gs : List SourceFile) (ps : List Piece) → map text fs ≡ map text gs → tokens fs ps ≡ tokens gs ps
unfolding tokens
ended_alike fs gs ps same =
    ap₂ (λ (ls : List Lexeme) (at : Place). lexeme_tokens ls >>= λ ts. Ok (ts ++ plain kind.End at (codes "-") ∷ [])) (lexemes_alike fs gs ps same)
    (end_alike fs gs same)

each_alike : (r : Result (List Piece) TextFault) (fs gs : List SourceFile) → map text fs ≡ map text gs
    → (r >>= λ ps. tokens fs ps) ≡ (r >>= λ ps. tokens gs ps)
each_alike (Ok ps) fs gs same = ended_alike fs gs ps same
each_alike (Err e) fs gs same = refl

pub tokens_alike : (fs gs : List SourceFile) → map text fs ≡ map text gs → file_tokens fs ≡ file_tokens gs
unfolding file_tokens
tokens_alike fs gs same =
    ap (λ (r : Result (List Piece) TextFault). r >>= λ ps. tokens fs ps) (pieces_alike fs gs same) ∙ each_alike (pieces gs) fs gs same
