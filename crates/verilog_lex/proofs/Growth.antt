-- What tokens say where the table of names grows.
use Rattle.std.proofs.Common.{◌≡◌, ℕ, List, [], ◌∷◌, ◌++◌, map, length, Option, Some, None, Result, Ok, Err, refl, sym, ap, subst, ◌∙◌, append_assoc}
use Rattle.std.specs.List.{All}
use Rattle.std.proofs.lemmas.List.{map-append, append-nil}
use Rattle.std.proofs.lemmas.List.Elements.{All-head, All-tail, All-push}
use Rattle.ls_text.specs.Texts.{Grows, IsIdOf, text_at}
use Rattle.ls_text.proofs.Growth.{grown_text, grown_id}
use Rattle.ls_text.specs.Readings.{TextFault}
use Rattle.verilog_lex.specs.declared.token.Token.{Token}
use Rattle.verilog_lex.specs.declared.cursor.Cursor.{Cursor}
use Rattle.verilog_lex.specs.Tokens.{Said, with_front, lexeme_tokens}
use Rattle.verilog_lex.specs.Views.{said, IsNamed, left, Turns}

pub interned_text : (names : List (List ℕ)) (text : List ℕ) (id : ℕ) → IsIdOf names text id → text_at names id ≡ text
interned_text names text id is = is.same

said_grown : (old new : List (List ℕ)) (t : Token) → Grows old new → IsNamed (length old) t → said new t ≡ said old t
said_grown old new t g named =
    ap (λ text. record { kind = t.kind; at = t.at; text = text; literal = t.literal }) (grown_text old new t.text.0 g named)

pub all_said_grown : (old new : List (List ℕ)) (ts : List Token) → Grows old new → All (IsNamed (length old)) ts → map (said new) ts ≡ map (said old) ts
all_said_grown old new [] g all = refl
all_said_grown old new (t ∷ ts) g all =
    ap (λ s. s ∷ map (said new) ts) (said_grown old new t g (All-head (IsNamed (length old)) t ts all))
    ∙ ap (λ ss. said old t ∷ ss) (all_said_grown old new ts g (All-tail (IsNamed (length old)) t ts all))

pub all_named_grown : (old new : List (List ℕ)) (ts : List Token) → Grows old new → All (IsNamed (length old)) ts → All (IsNamed (length new)) ts
all_named_grown old new ts g all = λ k d within. grown_id old new _ g (all k d within)

fronts : (a b : List Said) (read : Result (List Said) TextFault) → with_front a (with_front b read) ≡ with_front (a ++ b) read
fronts a b (Ok ts) = ap Ok (sym (append_assoc a b ts))
fronts a b (Err e) = refl

-- one more token, under a table that grew
pub said_more : (old new : List (List ℕ)) (before now : List Token) (t : Token) (left after all : Result (List Said) TextFault)
    → Grows old new → All (IsNamed (length old)) before → now ≡ before ++ t ∷ [] → left ≡ with_front (said new t ∷ []) after
    → with_front (map (said old) before) left ≡ all → with_front (map (said new) now) after ≡ all
said_more old new before now t left after all g named is split so_far =
    ap (λ ts. with_front (map (said new) ts) after) is
    ∙ ap (λ front. with_front front after) (map-append (said new) before (t ∷ []) ∙ ap (λ front. front ++ said new t ∷ []) (all_said_grown old new before g named))
    ∙ sym (fronts (map (said old) before) (said new t ∷ []) after)
    ∙ ap (with_front (map (said old) before)) (sym split)
    ∙ so_far

pub named_more : (old new : List (List ℕ)) (before now : List Token) (t : Token) → Grows old new → All (IsNamed (length old)) before
    → now ≡ before ++ t ∷ [] → IsNamed (length new) t → All (IsNamed (length new)) now
named_more old new before now t g all is named =
    let Named : List Token → Type 0 = λ ts. All (IsNamed (length new)) ts in
    subst Named (sym is) (All-push (IsNamed (length new)) before t (all_named_grown old new before g all) named)

-- all tokens, where nothing is left
pub said_all : (old new : List (List ℕ)) (ts : List Token) (left all : Result (List Said) TextFault)
    → Grows old new → All (IsNamed (length old)) ts → left ≡ Ok [] → with_front (map (said old) ts) left ≡ all → all ≡ Ok (map (said new) ts)
said_all old new ts left all g named none so_far =
    sym so_far ∙ ap (with_front (map (said old) ts)) none ∙ ap Ok (append-nil (map (said old) ts) ∙ sym (all_said_grown old new ts g named))

-- one more token at the end
pub said_push : (old new : List (List ℕ)) (before now : List Token) (t : Token) (s : Said) → Grows old new → All (IsNamed (length old)) before
    → now ≡ before ++ t ∷ [] → said new t ≡ s → map (said new) now ≡ map (said old) before ++ s ∷ []
said_push old new before now t s g named is says =
    ap (map (said new)) is ∙ map-append (said new) before (t ∷ [])
    ∙ ap (λ front. front ++ said new t ∷ []) (all_said_grown old new before g named)
    ∙ ap (λ x. map (said old) before ++ x ∷ []) says

pub turned : (names : List (List ℕ)) (o : Option (Token × Cursor)) (x : Token × Cursor) (read : Result (List Said) TextFault)
    → Turns names (Ok o) read → o ≡ Some x → read ≡ with_front (said names x.0 ∷ []) (lexeme_tokens (left x.1))
turned names o x read turn is =
    let T : Option (Token × Cursor) → Type 0 = λ p. Turns names (Ok p) read in
    subst T is turn

pub turned_out : (names : List (List ℕ)) (o : Option (Token × Cursor)) (read : Result (List Said) TextFault)
    → Turns names (Ok o) read → o ≡ None → read ≡ Ok []
turned_out names o read turn is =
    let T : Option (Token × Cursor) → Type 0 = λ p. Turns names (Ok p) read in
    subst T is turn
