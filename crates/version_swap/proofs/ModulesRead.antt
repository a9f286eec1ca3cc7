-- The modules of files, by what the lexer and the parser answer.
use Rattle.std.proofs.Common.{Global, Vec, ◌≡◌, ◌<◌, ◌-◌, ℕ, zero, suc, List, [], ◌∷◌, length, map, Result, Ok, Err, sym, subst}
use Rattle.std.specs.Prelude.{slice_get, IfOk, IfErr}
use Rattle.std.specs.List.{All}
use Rattle.std.proofs.lemmas.List.Elements.{All-nil, All-cons, All-head, All-tail}
use Rattle.ls_text.specs.declared.name_id.NameId.{NameId}
use Rattle.ls_text.specs.declared.piece.Piece.{Piece}
use Rattle.ls_text.specs.declared.refusal.Refusal.{Refusal}
use Rattle.ls_text.specs.declared.refusal.Refusal.TheVariants as refusal
use Rattle.ls_text.specs.declared.source_file.SourceFile.{SourceFile}
use Rattle.ls_text.specs.Readings.{CanShow, Refuses as ReadRefuses}
use Rattle.verilog_lex.specs.declared.token.Token.{Token}
use Rattle.verilog_lex.specs.Ends.{EndsOnce}
use Rattle.verilog_lex.specs.Readings.{Reads}
use Rattle.verilog_lex.specs.Views.{said, IsNamed}
use Rattle.verilog_ast.specs.declared.module.Module.{Module}
use Rattle.verilog_ast.specs.NamesWithin.{names_in_modules}
use Rattle.verilog_expr.specs.declared.fault.ParseFault.{ParseFault}
use Rattle.verilog_expr.specs.declared.fault.ParseFault.TheVariants.{Stuck, Heavy}
use Rattle.verilog_expr.specs.Shown.{Refuses, at_fault, names_of, text_of, token_at, left_at}
use Rattle.verilog_parse.specs.Files.{Stands, file}
use Rattle.version_swap.specs.Spelled.{IsSpelledUnder}
use Rattle.version_swap.specs.Founds.{AreModules, IsReadRefusal, at_text, at_grammar}
use Rattle.version_swap.specs.Texts.{file_tokens}
use Rattle.version_swap.proofs.Parsed.{parsed_spelled}

abbrev AreNamed : ℕ → List NameId → Type 0
AreNamed count ids = All (λ (id : NameId). id.0 < count) ids

-- ---- a fault of the texts

pub text_refused : (names : List (List ℕ)) (files : List SourceFile) (e : Refusal) → ReadRefuses names e (file_tokens files)
    → IsReadRefusal names files e
text_refused names files (refusal.Fault f) is = at_text is
text_refused names files refusal.NoMemory is = tt

-- ---- the names that a fault of the grammar shows are of the table

got_named : (count : ℕ) (s : List Token) (n : ℕ) → All (IsNamed count) s → AreNamed count (text_of (slice_get s n))
got_named count [] n named = All-nil (λ (id : NameId). id.0 < count)
got_named count (t ∷ s) zero named = All-cons (λ (id : NameId). id.0 < count) t.text [] (All-head (IsNamed count) t s named)
    (All-nil (λ (id : NameId). id.0 < count))
got_named count (t ∷ s) (suc n) named = got_named count s n (All-tail (IsNamed count) t s named)

grammar_known : (count : ℕ) (s : List Token) → All (IsNamed count) s → (e : Refusal) → Refuses file s e → CanShow count e
grammar_known count s named (refusal.Fault fault) (at_fault {f} run shown) = subst (AreNamed count) (sym shown.names) (by f)
  where
    by : (f : ParseFault) → AreNamed count (names_of f (token_at s (left_at f)))
    by (Stuck stop n) = got_named count s (length s - n) named
    by (Heavy n) = All-nil (λ (id : NameId). id.0 < count)
grammar_known count s named refusal.NoMemory is = tt

grammar_refused : (names : List (List ℕ)) (files : List SourceFile) (s : List Token) → file_tokens files ≡ Ok (map (said names) s) → (e : Refusal)
    → Refuses file s e → IsReadRefusal names files e
grammar_refused names files s read (refusal.Fault f) is = at_grammar read is
grammar_refused names files s read refusal.NoMemory is = tt

-- ---- what the parser answers of the tokens of files

-- the tokens of files, and what was handed to the parser
pub record AreTokens (names : List (List ℕ)) (files : List SourceFile) (s : List Token) : Type 0 where
  pub read : file_tokens files ≡ Ok (map (said names) s)
  pub reads : (pieces : List Piece) × Reads files pieces (Ok (map (said names) s))
  pub named : All (IsNamed (length names)) s
  pub ends : EndsOnce s

module _ (names new : List (List ℕ)) (files : List SourceFile) (s : List Token) (are : AreTokens names files s) (table : new ≡ names) where
  pub modules_read : (r : Result (Vec Module Global) Refusal) → IfOk r (λ ms. Stands names ms.items s) → IfOk r (λ ms. AreModules new files ms.items)
  modules_read (Ok ms) stands =
      subst (λ (t : List (List ℕ)). AreModules t files ms.items) (sym table) (record { tokens = s; read = are.read; stands = stands })
  modules_read (Err e) stands = tt

  pub modules_spelled : (r : Result (Vec Module Global) Refusal) → IfOk r (λ ms. Stands names ms.items s)
      → IfOk r (λ ms. All (IsSpelledUnder new) ms.items)
  modules_spelled (Ok ms) stands =
      subst (λ (t : List (List ℕ)). All (IsSpelledUnder t) ms.items) (sym table)
      (parsed_spelled names files are.reads.0 s ms.items are.reads.1 are.named are.ends stands)
  modules_spelled (Err e) stands = tt

  pub modules_named : (r : Result (Vec Module Global) Refusal) → IfOk r (λ ms. AreNamed (length names) (names_in_modules ms.items))
      → IfOk r (λ ms. AreNamed (length new) (names_in_modules ms.items))
  modules_named (Ok ms) named = subst (λ (t : List (List ℕ)). AreNamed (length t) (names_in_modules ms.items)) (sym table) named
  modules_named (Err e) named = tt

  pub parse_refused : (r : Result (Vec Module Global) Refusal) → IfErr r (Refuses file s) → IfErr r (IsReadRefusal new files)
  parse_refused (Ok ms) is = tt
  parse_refused (Err e) is = subst (λ (t : List (List ℕ)). IsReadRefusal t files e) (sym table) (grammar_refused names files s are.read e is)

  pub parse_known : (r : Result (Vec Module Global) Refusal) → IfErr r (Refuses file s) → IfErr r (CanShow (length new))
  parse_known (Ok ms) is = tt
  parse_known (Err e) is = subst (λ (t : List (List ℕ)). CanShow (length t) e) (sym table) (grammar_known (length names) s are.named e is)

-- the tokens of a vector, which was handed to the parser as a slice
pub handed_over : (names : List (List ℕ)) (files : List SourceFile) (tokens slice : List Token) → slice ≡ tokens
    → file_tokens files ≡ Ok (map (said names) tokens) → (pieces : List Piece) × Reads files pieces (Ok (map (said names) tokens))
    → All (IsNamed (length names)) tokens → EndsOnce tokens → AreTokens names files slice
handed_over names files tokens slice same read reads named ends =
    subst (AreTokens names files) (sym same) (record { read = read; reads = reads; named = named; ends = ends })
