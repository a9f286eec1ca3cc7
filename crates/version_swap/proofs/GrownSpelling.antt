-- What is spelled by a table is spelled by the table when it has grown.
use Rattle.std.proofs.Common.{◌≡◌, ◌∙◌, ℕ, List, [], ◌∷◌, ◌++◌, refl, sym, ap₂, subst}
use Rattle.std.specs.List.{All}
use Rattle.std.proofs.lemmas.List.Elements.{All-nil, All-cons, All-head, All-tail}
use Rattle.ls_text.specs.Texts.{Grows, text_at}
use Rattle.ls_text.proofs.Growth.{grown_id, grown_text}
use Rattle.verilog_lex.specs.declared.token.Token.{Token}
use Rattle.verilog_lex.specs.declared.kind.Kind.{Kind}
use Rattle.verilog_lex.specs.declared.kind.Kind.TheVariants as k
use Rattle.verilog_ast.specs.declared.module.Module.{Module}
use Rattle.verilog_spelling.specs.Spellings.{text_of_kind, token_text, spaced, spelling}
use Rattle.version_swap.specs.Proper.{IsToken, IsProper}
use Rattle.version_swap.specs.Spelled.{IsSpelledUnder}

same_text : (kind : Kind) (old new : List (List ℕ)) (t : Token) → text_at old t.text.0 ≡ text_at new t.text.0
    → text_of_kind kind old t ≡ text_of_kind kind new t
same_text k.Number old new t is = refl
same_text k.Wild old new t is = refl
same_text _ old new t is = is

module _ (old new : List (List ℕ)) (grows : Grows old new) where
  grown_proper : (t : Token) → IsProper old t → IsProper new t
  grown_proper t h =
      let text = sym (grown_text old new t.text.0 grows h.0) in
      (grown_id old new t.text.0 grows h.0, subst (λ (text : List ℕ). IsToken t.kind text t.literal) text h.1)

  all_grown : (s : List Token) → All (IsProper old) s → All (IsProper new) s
  all_grown [] all = All-nil (IsProper new)
  all_grown (t ∷ s) all =
      All-cons (IsProper new) t s (grown_proper t (All-head (IsProper old) t s all)) (all_grown s (All-tail (IsProper old) t s all))

  token_grown : (t : Token) → IsProper old t → token_text old t ≡ token_text new t
  token_grown t h = same_text t.kind old new t (sym (grown_text old new t.text.0 grows h.0))

  spaced_grown : (s : List Token) → All (IsProper old) s → spaced old s ≡ spaced new s
  spaced_grown [] all = refl
  spaced_grown (t ∷ s) all =
      ap₂ (λ (x y : List ℕ). 32 ∷ (x ++ y)) (token_grown t (All-head (IsProper old) t s all)) (spaced_grown s (All-tail (IsProper old) t s all))

  spelling_grown : (s : List Token) → All (IsProper old) s → spelling old s ≡ spelling new s
  spelling_grown [] all = refl
  spelling_grown (t ∷ s) all =
      ap₂ (λ (x y : List ℕ). x ++ y) (token_grown t (All-head (IsProper old) t s all)) (spaced_grown s (All-tail (IsProper old) t s all))

  pub grown_spelled : (x : Module) → IsSpelledUnder old x → IsSpelledUnder new x
  grown_spelled x h = record {
    tokens = h.tokens;
    rest = h.rest;
    spelled = record {
      tree = h.spelled.tree;
      own = h.spelled.own;
      cut = h.spelled.cut;
      text = h.spelled.text ∙ spelling_grown h.spelled.own h.proper;
    };
    proper = all_grown h.spelled.own h.proper;
  }
