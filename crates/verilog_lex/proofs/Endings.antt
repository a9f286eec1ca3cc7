-- The end stands once in a list of tokens, at its end; and no fault of a text shows a name.
use Rattle.std.proofs.Common.{◌≡◌, ◌<◌, ℕ, zero, suc, ◌-◌, Bool, true, false, true≢false, cond, List, [], ◌∷◌, ◌++◌, map, codes, Option, Some, None, Result, Ok, Err, refl, sym, ap, ◌∙◌}
use Rattle.std.specs.List.{All}
use Rattle.std.proofs.lemmas.List.Elements.{All-nil}
use Rattle.ls_text.specs.Texts.{text_at}
use Rattle.ls_text.specs.declared.name_id.NameId.{NameId}
use Rattle.ls_text.specs.declared.place.Place.{Place}
use Rattle.ls_text.specs.declared.source_file.SourceFile.{SourceFile}
use Rattle.ls_text.specs.declared.refusal.Refusal.{Refusal}
use Rattle.ls_text.specs.declared.refusal.Refusal.TheVariants as refusal
use Rattle.ls_text.specs.Readings.{TextFault, fault_view, Refuses, CanShow, ◌>>=◌}
use Rattle.ls_text.specs.declared.piece.Piece.{Piece}
use Rattle.verilog_lex.specs.declared.kind.Kind.{Kind}
use Rattle.verilog_lex.specs.declared.kind.Kind.TheVariants as kind
use Rattle.verilog_lex.specs.declared.literal.Literal.{Literal}
use Rattle.verilog_lex.specs.declared.token.Token.{Token}
use Rattle.verilog_lex.specs.Ends.{EndsOnce}
use Rattle.verilog_lex.specs.Cuts.{cut_at}
use Rattle.verilog_lex.specs.Forms.{Form, Gap, Letters, Digits, Part, Sign, Unfit, is_gap}
use Rattle.verilog_lex.specs.Lexemes.{Lexeme, lexeme_here, moved, lexemes_from, text_lexemes, pieces_lexemes}
use Rattle.verilog_lex.specs.Tokens.{Said, number_at, first_part, token_at, taken, with_front, tokens_from, lexeme_tokens, end_place, plain, tokens}
use Rattle.verilog_lex.specs.Views.{said}
use Rattle.verilog_lex.proofs.Unended.{is_end, no_word, is_end_form, no_cut}
use Rattle.verilog_lex.proofs.Literals.{is_end_literal, no_based, no_decimal}

abbrev NoneEnds : List Lexeme → Type 0
NoneEnds [] = Unit {0}
NoneEnds (l ∷ ls) = (is_end_form l.form ≡ false) × NoneEnds ls

both : (a b : List Lexeme) → NoneEnds a → NoneEnds b → NoneEnds (a ++ b)
both [] b f g = g
both (l ∷ a) b f g = (f.0, both a b f.1 g)

here : (at : Place) (form : Form) → is_end_form form ≡ false → NoneEnds (lexeme_here at form)
here at form none = by (is_gap form)
  where
    by : (gap : Bool) → NoneEnds (cond gap [] (record { form = form; at = at } ∷ []))
    by true = tt
    by false = (none, tt)

no_lexeme : (fixed : Bool) (at : Place) (skip : ℕ) (text : List ℕ) → NoneEnds (lexemes_from fixed at skip text)
no_lexeme fixed at zero [] = tt
no_lexeme fixed at (suc k) [] = tt
no_lexeme fixed at (suc k) (b ∷ bs) = no_lexeme fixed (moved fixed at b) k bs
no_lexeme fixed at zero (b ∷ bs) = both _ _ (here at _ (no_cut (b ∷ bs))) (no_lexeme fixed (moved fixed at b) ((cut_at (b ∷ bs)).1 - 1) bs)

no_text : (fixed : Bool) (at : Place) (text : List ℕ) → NoneEnds (text_lexemes fixed at text)
unfolding text_lexemes
no_text fixed at text = no_lexeme fixed at 0 text

no_piece : (files : List SourceFile) (pieces : List Piece) → NoneEnds (pieces_lexemes files pieces)
no_piece files [] = tt
no_piece files (p ∷ ps) = both _ _ (no_text p.fixed p.at _) (no_piece files ps)

-- a token that isn't the end, or a fault that shows no name
abbrev IsPlain : Result Said TextFault → Type 0
IsPlain (Ok t) = is_end t.kind ≡ false
IsPlain (Err e) = e.words ≡ []

plain_number : (at : Place) (o : Option (Kind × Literal)) → is_end_literal o ≡ false → IsPlain (number_at at o)
plain_number at None none = refl
plain_number at (Some l) none = none

plain_token : (at : Place) (form : Form) (part : Option (Bool × ℕ × List ℕ)) → is_end_form form ≡ false → IsPlain (token_at at form part)
plain_token at Gap part none = refl
plain_token at (Letters text) part none = no_word text
plain_token at (Digits digits) part none = plain_number at _ (no_decimal digits part)
plain_token at (Part own) part none = plain_number at _ (no_based 0 own.0 own.1 own.2)
plain_token at (Sign k text) part none = none
plain_token at Unfit part none = refl

abbrev NoEnd : List Said → Type 0
NoEnd [] = Unit {0}
NoEnd (t ∷ ts) = (is_end t.kind ≡ false) × NoEnd ts

-- tokens that aren't the end, or a fault that shows no name
abbrev ArePlain : Result (List Said) TextFault → Type 0
ArePlain (Ok ts) = NoEnd ts
ArePlain (Err e) = e.words ≡ []

one_more : (first : Result Said TextFault) (rest : Result (List Said) TextFault) → IsPlain first → ArePlain rest → ArePlain (first >>= λ t. with_front (t ∷ []) rest)
one_more (Err e) rest f g = f
one_more (Ok t) (Err e) f g = g
one_more (Ok t) (Ok ts) f g = (f, g)

plain_tokens : (skip : ℕ) (ls : List Lexeme) → NoneEnds ls → ArePlain (tokens_from skip ls)
plain_tokens zero [] none = tt
plain_tokens (suc k) [] none = tt
plain_tokens (suc k) (l ∷ ls) none = plain_tokens k ls none.1
plain_tokens zero (l ∷ ls) none =
    one_more _ _ (plain_token l.at l.form (first_part ls) none.0) (plain_tokens (taken l.form (first_part ls)) ls none.1)

-- what a whole reading is: tokens that aren't the end and then the end, or a fault that shows no name
abbrev IsWhole : Result (List Said) TextFault → Type 0
IsWhole (Ok ts) = (front : List Said) × (last : Said) × (ts ≡ front ++ last ∷ []) × (last.kind ≡ kind.End) × NoEnd front
IsWhole (Err e) = e.words ≡ []

whole : (files : List SourceFile) (pieces : List Piece) → IsWhole (tokens files pieces)
unfolding tokens lexeme_tokens
whole files pieces = by (tokens_from 0 (pieces_lexemes files pieces)) (plain_tokens 0 _ (no_piece files pieces))
  where
    by : (read : Result (List Said) TextFault) → ArePlain read → IsWhole (read >>= λ ts. Ok (ts ++ plain kind.End (end_place files) (codes "-") ∷ []))
    by (Ok ts) all = (ts, plain kind.End (end_place files) (codes "-"), refl, refl, all)
    by (Err e) none = none

once : (names : List (List ℕ)) (ts : List Token) (front : List Said) (last : Said) → map (said names) ts ≡ front ++ last ∷ [] → last.kind ≡ kind.End → NoEnd front → EndsOnce ts
once names [] [] last is end all = absurd cc
once names [] (x ∷ front) last is end all = absurd cc
once names (t ∷ []) [] last is end all = ap (λ (s : Said). s.kind) (let same : said names t ≡ last = cc in same) ∙ end
once names (t ∷ u ∷ ts) [] last is end all = absurd cc
once names (t ∷ []) (x ∷ []) last is end all = absurd cc
once names (t ∷ []) (x ∷ y ∷ front) last is end all = absurd cc
once names (t ∷ u ∷ ts) (x ∷ front) last is end all =
    let same : said names t ≡ x = cc in
    let rest : map (said names) (u ∷ ts) ≡ front ++ last ∷ [] = cc in
    (λ at_end. true≢false (ap is_end (sym at_end) ∙ ap (λ (s : Said). is_end s.kind) same ∙ all.0), once names (u ∷ ts) front last rest end all.1)

-- the last of the tokens is the end, and no other is
pub ends_once : (names : List (List ℕ)) (files : List SourceFile) (pieces : List Piece) (ts : List Token) → tokens files pieces ≡ Ok (map (said names) ts) → EndsOnce ts
ends_once names files pieces ts is = by (tokens files pieces) is (whole files pieces)
  where
    by : (read : Result (List Said) TextFault) → read ≡ Ok (map (said names) ts) → IsWhole read → EndsOnce ts
    by (Ok ss) is w = once names ts w.0 w.1 ((let same : map (said names) ts ≡ ss = cc in same) ∙ w.2) w.3 w.4
    by (Err e) is w = absurd cc

no_ids : (names : List (List ℕ)) (count : ℕ) (ids : List NameId) → map (λ (id : NameId). text_at names id.0) ids ≡ [] → All (λ (id : NameId). id.0 < count) ids
no_ids names count [] none = All-nil (λ (id : NameId). id.0 < count)
no_ids names count (id ∷ ids) none = absurd cc

-- a fault shows no name
pub can_show : (names : List (List ℕ)) (count : ℕ) (files : List SourceFile) (pieces : List Piece) (e : Refusal) → Refuses names e (tokens files pieces) → CanShow count e
can_show names count files pieces refusal.NoMemory is = tt
can_show names count files pieces (refusal.Fault f) is = no_ids names count f.names (by (tokens files pieces) is (whole files pieces))
  where
    by : (read : Result (List Said) TextFault) → read ≡ Err (fault_view names f) → IsWhole read → map (λ (id : NameId). text_at names id.0) f.names ≡ []
    by (Ok ss) is w = absurd cc
    by (Err e) is w = ap (λ (x : TextFault). x.words) (let same : fault_view names f ≡ e = cc in same) ∙ w
