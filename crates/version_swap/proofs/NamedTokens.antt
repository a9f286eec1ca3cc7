-- Each token of files has a text, so its number is one of the table by which its text is read.
use Rattle.std.proofs.Common.{◌≡◌, ◌≢◌, ◌∙◌, ℕ, ◌+◌, ◌<◌, ◌≤◌, ◌⊎◌, zero, suc, List, [], ◌∷◌, ◌++◌, All}
use Rattle.std.proofs.Common.{length, map, codes, Some, None, Result, Ok, Err, inl, inr, refl, sym, ap, ap₂, subst, arith}
use Rattle.std.proofs.lemmas.Bool.{cases_lt}
use Rattle.std.proofs.lemmas.List.{length-append, get_or_past, get_or_append_left, get_or-append_right}
use Rattle.std.proofs.lemmas.List.Elements.{All-nil, All-cons, All-head, All-tail}
use Rattle.ls_text.specs.declared.piece.Piece.{Piece}
use Rattle.ls_text.specs.declared.source_file.SourceFile.{SourceFile}
use Rattle.ls_text.specs.Readings.{TextFault, ◌>>=◌}
use Rattle.ls_text.specs.Texts.{text_at}
use Rattle.verilog_pre.specs.Reading.{pieces}
use Rattle.verilog_lex.specs.declared.kind.Kind.{Kind}
use Rattle.verilog_lex.specs.declared.kind.Kind.TheVariants as k
use Rattle.verilog_lex.specs.declared.literal.Literal.{Literal}
use Rattle.verilog_lex.specs.declared.token.Token.{Token}
use Rattle.verilog_lex.specs.Ends.{EndsOnce}
use Rattle.verilog_lex.specs.Lexemes.{pieces_lexemes}
use Rattle.verilog_lex.specs.Readings.{Reads}
use Rattle.verilog_lex.specs.Tokens.{Said, plain, lexeme_tokens, end_place, tokens}
use Rattle.verilog_lex.specs.Views.{said, IsNamed}
use Rattle.verilog_lex.proofs.Endings.{ends_once}
use Rattle.verilog_lex.proofs.Readings.{has_reading}
use Rattle.version_swap.specs.Proper.{text_kind, IsToken, IsRead}
use Rattle.version_swap.proofs.ProperTokens.{read_proper}
use Rattle.version_swap.proofs.ToldInstances.{within_table}
use Rattle.version_swap.specs.Texts.{file_tokens}
use Rattle.version_swap.proofs.ModulesRead.{AreTokens}

-- ---- a table with more numbers, none of which has a text

pad : ℕ → List (List ℕ)
pad zero = []
pad (suc n) = [] ∷ pad n

pad_empty : (n m : ℕ) → text_at (pad n) m ≡ []
unfolding pad
pad_empty zero m = get_or_past [] m [] (omega arith)
pad_empty (suc n) zero = refl
pad_empty (suc n) (suc m) = pad_empty n m

pad_long : (n : ℕ) → length (pad n) ≡ n
unfolding pad
pad_long zero = refl
pad_long (suc n) = ap suc (pad_long n)

abbrev padded : List (List ℕ) → ℕ → List (List ℕ)
padded names n = names ++ pad n

same_text : (names : List (List ℕ)) (n m : ℕ) → text_at (padded names n) m ≡ text_at names m
same_text names n m = by (cases_lt m (length names))
  where
    by : (m < length names) ⊎ (length names ≤ m) → text_at (padded names n) m ≡ text_at names m
    by (inl below) = get_or_append_left names (pad n) [] m below
    by (inr above) =
        get_or-append_right names (pad n) (length names) m [] refl above ∙ pad_empty n _ ∙ sym (get_or_past names m [] above)

same_said : (names : List (List ℕ)) (n : ℕ) (s : List Token) → map (said (padded names n)) s ≡ map (said names) s
same_said names n [] = refl
same_said names n (t ∷ s) =
    ap₂ (λ (text : List ℕ) (ws : List Said). record { kind = t.kind; at = t.at; text = text; literal = t.literal } ∷ ws)
    (same_text names n t.text.0) (same_said names n s)

-- more than each number
above : List Token → ℕ
above [] = zero
above (t ∷ s) = suc (t.text.0 + above s)

all_below : (count : ℕ) (s : List Token) → above s ≤ count → All (IsNamed count) s
unfolding above
all_below count [] high = All-nil (IsNamed count)
all_below count (t ∷ s) high =
    All-cons (IsNamed count) t s (omega (arith, high)) (all_below count s (omega (arith, high)))

-- ---- no token's text is empty

some_text : (kind : Kind) (text : List ℕ) (l : Literal) → IsToken kind text l → text ≡ [] → ⊥
some_text kind text l (inl h) is = let none : None ≡ Some kind = sym (ap text_kind is) ∙ h.listed in absurd cc
some_text kind text l (inr (inl h)) is = let none : [] ≡ codes "number" = sym is ∙ h.shown in absurd cc
some_text kind text l (inr (inr h)) is = let none : [] ≡ codes "number" = sym is ∙ h.shown in absurd cc

last_text : List Said → List ℕ
last_text [] = []
last_text (w ∷ []) = w.text
last_text (w ∷ v ∷ ws) = last_text (v ∷ ws)

ends_so : (ws : List Said) (w : Said) → last_text (ws ++ w ∷ []) ≡ w.text
unfolding last_text
ends_so [] w = refl
ends_so (v ∷ []) w = refl
ends_so (v ∷ u ∷ ws) w = ends_so (u ∷ ws) w

last_dash : (r : Result (List Said) TextFault) (files : List SourceFile) (ws : List Said)
    → (r >>= λ ts. Ok (ts ++ plain k.End (end_place files) (codes "-") ∷ [])) ≡ Ok ws → last_text ws ≡ codes "-"
last_dash (Ok ts) files ws is =
    let same : ts ++ plain k.End (end_place files) (codes "-") ∷ [] ≡ ws = cc in
    ap last_text (sym same) ∙ ends_so ts (plain k.End (end_place files) (codes "-"))
last_dash (Err e) files ws is = absurd cc

dash_some : (text : List ℕ) → text ≡ codes "-" → text ≡ [] → ⊥
dash_some text is none = let both : [] ≡ codes "-" = sym none ∙ is in absurd cc

module _ (names : List (List ℕ)) (n : ℕ) where
  one_named : (t : Token) → t.kind ≢ k.End → IsRead (padded names n) t → IsNamed (length names) t
  one_named t inside read =
      within_table names t.text.0
      (λ none. some_text t.kind (text_at (padded names n) t.text.0) t.literal (read inside).1 (same_text names n t.text.0 ∙ none))

  all_named : (s : List Token) → EndsOnce s → All (IsRead (padded names n)) s → last_text (map (said names) s) ≡ codes "-"
      → All (IsNamed (length names)) s
  unfolding last_text
  all_named [] ends read last = absurd ends
  all_named (t ∷ []) ends read last =
      All-cons (IsNamed (length names)) t [] (within_table names t.text.0 (dash_some (text_at names t.text.0) last))
      (All-nil (IsNamed (length names)))
  all_named (t ∷ u ∷ s) ends read last =
      All-cons (IsNamed (length names)) t (u ∷ s) (one_named t ends.0 (All-head (IsRead (padded names n)) t (u ∷ s) read))
      (all_named (u ∷ s) ends.1 (All-tail (IsRead (padded names n)) t (u ∷ s) read) last)

-- ---- the tokens of files

module _ (names : List (List ℕ)) (files : List SourceFile) (s : List Token) where
  of_pieces : (ps : List Piece) → tokens files ps ≡ Ok (map (said names) s) → file_tokens files ≡ Ok (map (said names) s) → AreTokens names files s
  unfolding tokens
  of_pieces ps is read =
      let reads : Reads files ps (Ok (map (said names) s)) = subst (Reads files ps) is (has_reading files ps) in
      let high = above s in
      let table = padded names high in
      let count : length table ≡ length names + high = length-append names (pad high) ∙ ap (λ (m : ℕ). length names + m) (pad_long high) in
      let ends = ends_once names files ps s is in
      let proper = read_proper table files ps s
      (subst (λ (ws : List Said). Reads files ps (Ok ws)) (sym (same_said names high s)) reads)
      (all_below (length table) s (omega (arith, count))) in
      record {
        read = read;
        reads = (ps, reads);
        named = all_named names high s ends proper (last_dash (lexeme_tokens (pieces_lexemes files ps)) files (map (said names) s) is);
        ends = ends;
      }

  pub are_tokens : file_tokens files ≡ Ok (map (said names) s) → AreTokens names files s
  unfolding file_tokens
  are_tokens read = by (pieces files) refl read
    where
      by : (r : Result (List Piece) TextFault) → pieces files ≡ r → (r >>= λ ps. tokens files ps) ≡ Ok (map (said names) s)
          → AreTokens names files s
      by (Ok ps) here is = of_pieces ps is read
      by (Err e) here is = absurd cc
