-- What an instance is called is a word: identifiers, and the values of genvars in decimal (IEEE Std 1364-2005, 12.4.1 and 12.5).
use Rattle.std.proofs.Common.{◌≡◌, ℕ, zero, suc, ◌+◌, ◌<◌, ◌==◌, ◌/◌, ◌%◌, Bool, true, false, if◌then◌else◌, List, [], ◌∷◌, ◌++◌, All, length, reverse, codes, decimal, Option, Some, None, refl, sym, subst, arith}
use Rattle.std.specs.Prelude.{nat_lt, ℤ, pos, negsuc}
use Rattle.std.specs.Fmt.{digits, digits_onto, digit_glyph, signed_decimal}
use Rattle.std.proofs.lemmas.Bool.{and_from, and_parts}
use Rattle.std.proofs.lemmas.List.{reverse-append}
use Rattle.std.proofs.lemmas.List.Elements.{All-nil, All-cons, All-head, All-tail, All-append}
use Rattle.ls_text.specs.Texts.{text_at}
use Rattle.verilog_ast.specs.declared.identifier.Identifier.{Identifier}
use Rattle.width_rules.specs.Sizes.{read_as}
use Rattle.gen_unroll.specs.Spoken.{index_text, own_text, prefix_in, spoken}
use Rattle.gen_unroll.specs.Steps.{LoopTurn, GenerateBlock}
use Rattle.version_swap.specs.Told.{lacks, is_word}
use Rattle.version_swap.proofs.Lacking.{lacks_both, lacks_digit}

-- the label of a block has no such byte
abbrev IsLabelFree : (byte : ℕ) (texts : List (List ℕ)) → GenerateBlock → Type 0
IsLabelFree byte texts b = lacks byte (text_at texts b.label.name.0) ≡ true

-- ---- numbers of any size

module _ (byte : ℕ) (low : byte < 45) where
  glyph_lacks : (d : ℕ) → lacks byte (digit_glyph false d ∷ []) ≡ true
  glyph_lacks d = cases (nat_lt d 10)
    where
      cases : (b : Bool) → lacks byte ((if b then 48 + d else 87 + d) ∷ []) ≡ true
      cases true = lacks_digit byte (48 + d) (omega (arith, low))
      cases false = lacks_digit byte (87 + d) (omega (arith, low))

  onto_lacks : (k n : ℕ) (acc : List ℕ) → lacks byte acc ≡ true → lacks byte (digits_onto k 10 false n acc) ≡ true
  onto_lacks zero n acc h = h
  onto_lacks (suc k) n acc h =
      let more = lacks_both byte (digit_glyph false (n % 10) ∷ []) acc (glyph_lacks (n % 10)) h in
      cases (n / 10 == 0) more (onto_lacks k (n / 10) (digit_glyph false (n % 10) ∷ acc) more)
    where
      cases : (b : Bool) → lacks byte (digit_glyph false (n % 10) ∷ acc) ≡ true
          → lacks byte (digits_onto k 10 false (n / 10) (digit_glyph false (n % 10) ∷ acc)) ≡ true
          → lacks byte (if b then digit_glyph false (n % 10) ∷ acc else digits_onto k 10 false (n / 10) (digit_glyph false (n % 10) ∷ acc)) ≡ true
      cases true last more = last
      cases false last more = more

  number_lacks : (n : ℕ) → lacks byte (decimal n) ≡ true
  unfolding digits
  number_lacks n = onto_lacks 64 n [] refl

  signed_lacks : (z : ℤ) → lacks byte (signed_decimal z) ≡ true
  signed_lacks (pos n) = number_lacks n
  signed_lacks (negsuc n) = lacks_both byte (45 ∷ []) (decimal (suc n)) (lacks_digit byte 45 low) (number_lacks (suc n))

  -- ---- blocks

  index_lacks : (turn : Option LoopTurn) → lacks byte (index_text turn) ≡ true
  index_lacks None = refl
  index_lacks (Some t) =
      let value : List ℕ = signed_decimal (read_as t.value.signed t.value.width t.value.value) in
      lacks_both byte (codes "[") (value ++ codes "]") (lacks_digit byte 91 (omega (arith, low)))
      (lacks_both byte value (codes "]") (signed_lacks (read_as t.value.signed t.value.width t.value.value))
      (lacks_digit byte 93 (omega (arith, low))))

  module _ (texts : List (List ℕ)) where
    abbrev IsFree : GenerateBlock → Type 0
    IsFree b = IsLabelFree byte texts b

    own_lacks : (b : GenerateBlock) → IsFree b → lacks byte (own_text texts b) ≡ true
    own_lacks b h =
        lacks_both byte (text_at texts b.label.name.0) (index_text b.turn ++ codes ".") h
        (lacks_both byte (index_text b.turn) (codes ".") (index_lacks b.turn) (lacks_digit byte 46 (omega (arith, low))))

    prefix_lacks : (bs : List GenerateBlock) (k : Option ℕ) → All IsFree bs → lacks byte (prefix_in texts bs k) ≡ true
    prefix_lacks [] None all = refl
    prefix_lacks (b ∷ bs) None all = refl
    prefix_lacks [] (Some k) all = refl
    prefix_lacks (b ∷ bs) (Some k) all =
        let more = All-tail IsFree b bs all in
        cases (k == length bs)
        (lacks_both byte (prefix_in texts bs b.parent) (own_text texts b) (prefix_lacks bs b.parent more) (own_lacks b (All-head IsFree b bs all)))
        (prefix_lacks bs (Some k) more)
      where
        cases : (c : Bool) → lacks byte (prefix_in texts bs b.parent ++ own_text texts b) ≡ true → lacks byte (prefix_in texts bs (Some k)) ≡ true
            → lacks byte (if c then prefix_in texts bs b.parent ++ own_text texts b else prefix_in texts bs (Some k)) ≡ true
        cases true here behind = here
        cases false here behind = behind

    reverse_all : (bs : List GenerateBlock) → All IsFree bs → All IsFree (reverse bs)
    reverse_all [] all = all
    reverse_all (b ∷ bs) all =
        subst (All IsFree) (sym (reverse-append (b ∷ []) bs))
        (All-append IsFree (reverse bs) (b ∷ []) (reverse_all bs (All-tail IsFree b bs all))
        (All-cons IsFree b [] (All-head IsFree b bs all) (All-nil IsFree)))

    spoken_lacks : (bs : List GenerateBlock) (block : Option ℕ) (name : ℕ) → All IsFree bs → lacks byte (text_at texts name) ≡ true
        → lacks byte (spoken texts bs block name) ≡ true
    unfolding spoken
    spoken_lacks bs block name all h =
        lacks_both byte (prefix_in texts (reverse bs) block) (text_at texts name) (prefix_lacks (reverse bs) block (reverse_all bs all)) h

-- ---- what is called so

-- a name of the table that is a word, and isn't empty
pub record IsNameWord (texts : List (List ℕ)) (n : Identifier) : Type 0 where
  pub word : is_word (text_at texts n.name.0) ≡ true
  pub some : text_at texts n.name.0 ≡ [] → ⊥

module _ (texts : List (List ℕ)) where
  abbrev IsWordBlock : GenerateBlock → Type 0
  IsWordBlock b = IsNameWord texts b.label

  labels_free : (byte : ℕ) → ((text : List ℕ) → is_word text ≡ true → lacks byte text ≡ true) → (bs : List GenerateBlock) → All IsWordBlock bs
      → All (IsLabelFree byte texts) bs
  labels_free byte free [] all = All-nil (IsLabelFree byte texts)
  labels_free byte free (b ∷ bs) all =
      All-cons (IsLabelFree byte texts) b bs (free (text_at texts b.label.name.0) (All-head IsWordBlock b bs all).word)
      (labels_free byte free bs (All-tail IsWordBlock b bs all))

  some_text : (before text : List ℕ) → (text ≡ [] → ⊥) → before ++ text ≡ [] → ⊥
  some_text [] text some is = some is
  some_text (b ∷ before) text some is = absurd cc

  pub spoken_word : (bs : List GenerateBlock) (block : Option ℕ) (n : Identifier) → All IsWordBlock bs → IsNameWord texts n
      → is_word (spoken texts bs block n.name.0) ≡ true
  spoken_word bs block n all h =
      and_from (lacks 32 (spoken texts bs block n.name.0)) (lacks 10 (spoken texts bs block n.name.0))
      (spoken_lacks 32 (omega arith) texts bs block n.name.0 (labels_free 32 (λ text is. (and_parts (lacks 32 text) (lacks 10 text) is).0) bs all)
      (and_parts _ _ h.word).0)
      (spoken_lacks 10 (omega arith) texts bs block n.name.0 (labels_free 10 (λ text is. (and_parts (lacks 32 text) (lacks 10 text) is).1) bs all)
      (and_parts _ _ h.word).1)

  pub spoken_some : (bs : List GenerateBlock) (block : Option ℕ) (n : Identifier) → IsNameWord texts n → spoken texts bs block n.name.0 ≡ [] → ⊥
  unfolding spoken
  spoken_some bs block n h is = some_text (prefix_in texts (reverse bs) block) (text_at texts n.name.0) h.some is
