-- The tokens that reading gives are proper, but for the end.
use Rattle.std.proofs.Common.{◌≡◌, ◌≢◌, ◌∙◌, ℕ, Bool, true, false, true≢false, not, ◌&&◌, cond, eqb, List, [], ◌∷◌, ◌++◌, length, map, codes, Option, Some, None, Result, Ok, Err, refl, sym, ap, subst, inl, inr, arith}
use Rattle.std.specs.List.{All, AllPass, list_all}
use Rattle.std.proofs.lemmas.Bool.{and_parts, not-true, eqb-false}
use Rattle.std.proofs.lemmas.List.Elements.{All-nil, All-cons, All-head, All-tail}
use Rattle.ls_text.specs.Bytes.{is_letter, is_word_byte}
use Rattle.ls_text.specs.Readings.{TextFault, ◌>>=◌}
use Rattle.ls_text.specs.declared.piece.Piece.{Piece}
use Rattle.ls_text.specs.declared.place.Place.{Place}
use Rattle.ls_text.specs.declared.source_file.SourceFile.{SourceFile}
use Rattle.verilog_lex.specs.declared.kind.Kind.{Kind}
use Rattle.verilog_lex.specs.declared.kind.Kind.TheVariants as k
use Rattle.verilog_lex.specs.declared.literal.Literal.{Literal}
use Rattle.verilog_lex.specs.declared.token.Token.{Token}
use Rattle.verilog_lex.specs.Forms.{Form, Gap, Letters, Digits, Part, Sign, Unfit, is_gap}
use Rattle.verilog_lex.specs.Groups.{Group, IsGroup, Groups, group_tokens}
use Rattle.verilog_lex.specs.Keywords.{kind_in, word_kind}
use Rattle.verilog_lex.specs.Lexemes.{Lexeme, lexeme_here, moved_over}
use Rattle.verilog_lex.specs.Numbers.{based_literal, decimal_literal}
use Rattle.verilog_lex.specs.Readings.{HaveLexemes, Reads}
use Rattle.verilog_lex.specs.Signs.{triples, doubles, singles}
use Rattle.verilog_lex.specs.Stretches.{IsRun, signs, Stands, Stretch, IsStretch, Stretches, placed}
use Rattle.verilog_lex.specs.Tokens.{Said, no_literal, plain, number_at, token_at, with_front, end_place}
use Rattle.verilog_lex.specs.Views.{said, IsNamed}
use Rattle.version_swap.specs.Proper.{IsFreeOf, IsWritten, IsToken, IsRead}
use Rattle.version_swap.proofs.ProperLiterals.{IsLiteral, IsRadix, IsPartRadix, based_is, decimal_is}
use Rattle.version_swap.proofs.SpellingWords.{listed_has}

-- ---- words and signs

abbrev IsWord : List ℕ → Type 0
IsWord [] = ⊥
IsWord (b ∷ bs) = (is_letter b ≡ true) × IsFreeOf 32 (b ∷ bs) × IsFreeOf 10 (b ∷ bs)

bytes_free : (byte : ℕ) (text : List ℕ) → is_word_byte byte ≡ false → AllPass is_word_byte text → IsFreeOf byte text
bytes_free byte [] other all = tt
bytes_free byte (b ∷ bs) other all =
    let here = All-head (λ c. is_word_byte c ≡ true) b bs all in
    (λ is. true≢false (sym here ∙ ap is_word_byte is ∙ other), bytes_free byte bs other (All-tail (λ c. is_word_byte c ≡ true) b bs all))

run_word : (text rest : List ℕ) → IsRun is_letter is_word_byte text rest → IsWord text
run_word [] rest run = run
run_word (b ∷ bs) rest run = (run.0, bytes_free 32 (b ∷ bs) refl run.1, bytes_free 10 (b ∷ bs) refl run.1)

word_written : (text : List ℕ) → IsWord text → IsWritten (word_kind text) text no_literal
word_written [] word = absurd word
word_written (b ∷ bs) word = record {
  listed = ap (λ c. cond c (Some (word_kind (b ∷ bs))) (kind_in signs (b ∷ bs))) word.0;
  spaceless = word.1;
  lineless = word.2;
  empty = refl;
}

abbrev is_sign_text : List ℕ → Bool
is_sign_text [] = false
is_sign_text (c ∷ cs) = not (is_letter c) && (list_all (λ c. not (eqb c 32)) (c ∷ cs) && list_all (λ c. not (eqb c 10)) (c ∷ cs))

sign_is : (text : List ℕ) (kind : Kind) → kind_in signs text ≡ Some kind → is_sign_text text ≡ true
unfolding triples doubles singles
sign_is text kind is = listed_has (λ t j. is_sign_text t) signs text kind refl is

all_free : (byte : ℕ) (text : List ℕ) → list_all (λ c. not (eqb c byte)) text ≡ true → IsFreeOf byte text
all_free byte [] all = tt
all_free byte (c ∷ cs) all =
    let parts = and_parts (not (eqb c byte)) (list_all (λ c. not (eqb c byte)) cs) all in
    (eqb-false c byte (not-true (eqb c byte) parts.0), all_free byte cs parts.1)

sign_written : (text : List ℕ) (kind : Kind) → kind_in signs text ≡ Some kind → IsWritten kind text no_literal
sign_written [] kind is = absurd (true≢false (sym (sign_is [] kind is)))
sign_written (c ∷ cs) kind is =
    let spaceless = list_all (λ c. not (eqb c 32)) (c ∷ cs) in
    let lineless = list_all (λ c. not (eqb c 10)) (c ∷ cs) in
    let parts = and_parts (not (is_letter c)) (spaceless && lineless) (sign_is (c ∷ cs) kind is) in
    let bytes = and_parts spaceless lineless parts.1 in record {
      listed = ap (λ b. cond b (Some (word_kind (c ∷ cs))) (kind_in signs (c ∷ cs))) (not-true (is_letter c) parts.0) ∙ is;
      spaceless = all_free 32 (c ∷ cs) bytes.0;
      lineless = all_free 10 (c ∷ cs) bytes.1;
      empty = refl;
    }

-- ---- forms

-- what is known of a form that stands in a text
abbrev IsForm : Form → Type 0
IsForm Gap = Unit {0}
IsForm (Letters text) = IsWord text
IsForm (Digits digits) = Unit {0}
IsForm (Part part) = IsRadix part.1
IsForm (Sign kind text) = kind_in signs text ≡ Some kind
IsForm Unfit = Unit {0}

stands_form : (form : Form) (bytes rest : List ℕ) → Stands form bytes rest → IsForm form
stands_form Gap bytes rest h = tt
stands_form (Letters text) bytes rest h = subst IsWord (sym h.0) (run_word bytes rest h.1)
stands_form (Digits digits) bytes rest h = tt
stands_form (Part part) bytes rest h = (h.base, h.radix, h.based)
stands_form (Sign kind text) bytes rest h = ap (kind_in signs) h.0 ∙ h.1.listed
stands_form Unfit bytes rest h = tt

stretch_form : (s : Stretch) (rest : List ℕ) → IsStretch s rest → IsForm s.form
stretch_form s rest (inl h) = stands_form s.form s.bytes rest h
stretch_form s rest (inr h) = subst IsForm (sym h.0) tt

-- ---- lexemes

abbrev AreForms : List Lexeme → Type 0
AreForms [] = Unit {0}
AreForms (l ∷ ls) = IsForm l.form × AreForms ls

forms_append : (xs ys : List Lexeme) → AreForms xs → AreForms ys → AreForms (xs ++ ys)
forms_append [] ys h d = d
forms_append (x ∷ xs) ys h d = (h.0, forms_append xs ys h.1 d)

here_forms : (at : Place) (form : Form) → IsForm form → AreForms (lexeme_here at form)
here_forms at form h = by (is_gap form)
  where
    by : (b : Bool) → AreForms (cond b [] (record { form = form; at = at } ∷ []))
    by true = tt
    by false = (h, tt)

placed_forms : (fixed : Bool) (at : Place) (text : List ℕ) (ss : List Stretch) → Stretches text ss → AreForms (placed fixed at ss)
placed_forms fixed at text [] h = tt
placed_forms fixed at text (s ∷ ss) h =
    forms_append (lexeme_here at s.form) (placed fixed (moved_over fixed at s.bytes) ss) (here_forms at s.form (stretch_form s h.0 h.2))
    (placed_forms fixed (moved_over fixed at s.bytes) h.0 ss h.3)

have_forms : (files : List SourceFile) (pieces : List Piece) (ls : List Lexeme) → HaveLexemes files pieces ls → AreForms ls
have_forms files [] ls h = subst AreForms (sym h) tt
have_forms files (p ∷ pieces) ls h =
    subst AreForms (sym h.3) (forms_append (placed p.fixed p.at h.0) h.1 (placed_forms p.fixed p.at _ h.0 h.2) (have_forms files pieces h.1 h.4))

-- ---- groups

abbrev AreGroups : List Group → Type 0
AreGroups [] = Unit {0}
AreGroups (g ∷ gs) = IsForm g.lexeme.form × IsPartRadix g.part × AreGroups gs

groups_forms : (ls : List Lexeme) (gs : List Group) → Groups ls gs → AreForms ls → AreGroups gs
groups_forms ls [] h forms = tt
groups_forms ls (g ∷ gs) h forms = by g.part h.1 (groups_forms h.0 gs h.2)
  where
    by : (part : Option (Bool × ℕ × List ℕ)) → IsGroup g.lexeme part ls h.0 → (AreForms h.0 → AreGroups gs)
        → IsForm g.lexeme.form × IsPartRadix part × AreGroups gs
    by None group rest = let all = subst AreForms group.0 forms in (all.0, tt, rest all.1)
    by (Some part) group rest = let all = subst AreForms group.1 forms in (all.0, subst IsForm group.3 all.1.0, rest all.1.1)

-- ---- tokens

abbrev IsSaid : Said → Type 0
IsSaid t = IsToken t.kind t.text t.literal

number_said : (at : Place) (o : Option (Kind × Literal)) (t : Said) → ((n : Kind × Literal) → o ≡ Some n → IsLiteral n) → number_at at o ≡ Ok t
    → IsSaid t
number_said at None t h is = absurd cc
number_said at (Some n) t h is = by (h n refl)
  where
    same : record { kind = n.0; at = at; text = codes "number"; literal = n.1 } ≡ t
    same = cc

    by : IsLiteral n → IsSaid t
    by (inl number) = subst IsSaid same (inr (inl number))
    by (inr pattern) = subst IsSaid same (inr (inr pattern))

plain_said : (kind : Kind) (at : Place) (text : List ℕ) (t : Said) → IsWritten kind text no_literal
    → ◌≡◌ {A = Result Said TextFault} (Ok (plain kind at text)) (Ok t) → IsSaid t
plain_said kind at text t h is = let same : plain kind at text ≡ t = cc in subst IsSaid same (inl h)

token_said : (at : Place) (form : Form) (part : Option (Bool × ℕ × List ℕ)) (t : Said) → IsForm form → IsPartRadix part → token_at at form part ≡ Ok t
    → IsSaid t
token_said at Gap part t h based is = absurd cc
token_said at (Letters text) part t h based is = plain_said (word_kind text) at text t (word_written text h) is
token_said at (Digits digits) part t h based is = number_said at (decimal_literal digits part) t (λ n. decimal_is digits part n based) is
token_said at (Part own) part t h based is =
    number_said at (based_literal 0 own.0 own.1 own.2) t (λ n. based_is 0 own.0 own.1 own.2 n (omega arith) h) is
token_said at (Sign kind text) part t h based is = plain_said kind at text t (sign_written text kind h) is
token_said at Unfit part t h based is = absurd cc

-- so is each token but for the end
abbrev AreSaid : List Said → Type 0
AreSaid [] = Unit {0}
AreSaid (t ∷ ts) = (t.kind ≢ k.End → IsSaid t) × AreSaid ts

groups_said : (gs : List Group) (ts : List Said) → AreGroups gs → group_tokens gs ≡ Ok ts → AreSaid ts
groups_said [] ts h is = let same : [] ≡ ts = cc in subst AreSaid same tt
groups_said (g ∷ gs) ts h is = by (token_at g.lexeme.at g.lexeme.form g.part) refl (group_tokens gs) refl (λ us. groups_said gs us h.2) is
  where
    by : (r : Result Said TextFault) → token_at g.lexeme.at g.lexeme.form g.part ≡ r → (more : Result (List Said) TextFault) → group_tokens gs ≡ more
        → ((us : List Said) → group_tokens gs ≡ Ok us → AreSaid us) → (r >>= λ t. with_front (t ∷ []) more) ≡ Ok ts → AreSaid ts
    by (Err e) one more rest go is = absurd cc
    by (Ok t) one (Err e) rest go is = absurd cc
    by (Ok t) one (Ok us) rest go is =
        let same : t ∷ us ≡ ts = cc in
        subst AreSaid same (λ inside. token_said g.lexeme.at g.lexeme.form g.part t h.0 h.1 one, go us rest)

with_end : (ts : List Said) (t : Said) → t.kind ≡ k.End → AreSaid ts → AreSaid (ts ++ t ∷ [])
with_end [] t is h = (λ inside. absurd (inside is), tt)
with_end (u ∷ ts) t is h = (h.0, with_end ts t is h.1)

all_said : (files : List SourceFile) (pieces : List Piece) (ts : List Said) → Reads files pieces (Ok ts) → AreSaid ts
all_said files pieces ts h =
    by (group_tokens h.groups) refl (groups_said h.groups) h.gives
  where
    groups : AreGroups h.groups
    groups = groups_forms h.lexemes h.groups h.grouped (have_forms files pieces h.lexemes h.cut)

    by : (r : Result (List Said) TextFault) → group_tokens h.groups ≡ r
        → ((us : List Said) → AreGroups h.groups → group_tokens h.groups ≡ Ok us → AreSaid us)
        → Ok ts ≡ (r >>= λ us. Ok (us ++ plain k.End (end_place files) (codes "-") ∷ [])) → AreSaid ts
    by (Err e) one go is = absurd cc
    by (Ok us) one go is =
        let same : us ++ plain k.End (end_place files) (codes "-") ∷ [] ≡ ts = cc in
        subst AreSaid same (with_end us (plain k.End (end_place files) (codes "-")) refl (go us groups one))

all_read : (names : List (List ℕ)) (s : List Token) → All (IsNamed (length names)) s → AreSaid (map (said names) s) → All (IsRead names) s
all_read names [] named h = All-nil (IsRead names)
all_read names (t ∷ s) named h =
    All-cons (IsRead names) t s (λ inside. (All-head (IsNamed (length names)) t s named, h.0 inside))
    (all_read names s (All-tail (IsNamed (length names)) t s named) h.1)

-- what `lex` ensures of its tokens makes them proper
pub read_proper : (names : List (List ℕ)) (files : List SourceFile) (pieces : List Piece) (s : List Token)
    → Reads files pieces (Ok (map (said names) s)) → All (IsNamed (length names)) s → All (IsRead names) s
read_proper names files pieces s reads named = all_read names s named (all_said files pieces (map (said names) s) reads)
