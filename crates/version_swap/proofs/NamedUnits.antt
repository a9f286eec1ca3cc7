-- Identifiers are words, and none of them is `-`.
use Rattle.std.proofs.Common.{◌≡◌, ℕ, ◌<◌, Bool, true, false, not, List, [], ◌∷◌, length, codes, refl, sym, ap, ◌∙◌, true≢false}
use Rattle.std.specs.List.{list_all}
use Rattle.std.proofs.lemmas.Bool.{and_parts, and_from, ne_eqb}
use Rattle.ls_text.specs.Bytes.{is_word_byte}
use Rattle.ls_text.specs.Texts.{text_at}
use Rattle.ls_text.specs.declared.name_id.NameId.{NameId}
use Rattle.version_swap.specs.Told.{lacks, is_word, IsNamed}

-- a byte of another class doesn't stand in a text
pub lacks_other : (class : ℕ → Bool) (byte : ℕ) (text : List ℕ) → class byte ≡ false → list_all class text ≡ true → lacks byte text ≡ true
lacks_other class byte [] other h = refl
lacks_other class byte (c ∷ text) other h =
    let parts = and_parts (class c) (list_all class text) h in
    and_from _ _ (ap not (ne_eqb c byte (λ same. true≢false (sym parts.0 ∙ ap class same ∙ other)))) (lacks_other class byte text other parts.1)

pub identifier_is_word : (text : List ℕ) → list_all is_word_byte text ≡ true → is_word text ≡ true
identifier_is_word text h = and_from _ _ (lacks_other is_word_byte 32 text refl h) (lacks_other is_word_byte 10 text refl h)

pub no_dash : (text : List ℕ) → list_all is_word_byte text ≡ true → text ≡ codes "-" → ⊥
no_dash text h is = true≢false (sym h ∙ ap (list_all is_word_byte) is)

-- a name of the table that is an identifier
pub named_from : (names : List (List ℕ)) (id : NameId) → id.0 < length names → list_all is_word_byte (text_at names id.0) ≡ true → IsNamed names id
named_from names id within h = record { within = within; word = identifier_is_word (text_at names id.0) h }
