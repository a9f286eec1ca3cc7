-- What a run leaves is an end of its tokens.
use Rattle.std.proofs.Common.{◌≡◌, ◌-◌, ℕ, List, [], ◌∷◌, ◌++◌, length, take, drop, Ok, Err, refl, ap, ◌∙◌, arith}
use Rattle.std.proofs.lemmas.List.{length-append}
use Rattle.std.proofs.Math.Seq.{take-append_seam, drop-append_seam}
use Rattle.ls_text.proofs.Cases.{same_ok}
use Rattle.verilog_lex.specs.declared.token.Token.{Token}
use Rattle.verilog_lex.specs.declared.kind.Kind.TheVariants as k
use Rattle.verilog_lex.specs.Ends.{EndsOnce}
use Rattle.verilog_expr.specs.declared.fault.ParseFault.{ParseFault}
use Rattle.verilog_expr.specs.Grammar.{Symbol}
use Rattle.verilog_expr.specs.Machine.{Outcome, Run, ends, takes, heavy, differs, expands, refuses}

pub err_ok : (f : ParseFault) (r : List Token) (o : Outcome) → o ≡ Err f → o ≡ Ok r → ⊥
err_ok f r o a b = cc

suffix_from : {stack : List Symbol} {s : List Token} {o : Outcome} → Run stack s o → (r : List Token) → o ≡ Ok r → (own : List Token) × (s ≡ own ++ r)
suffix_from (ends {s = s}) r is = ([], same_ok _ s r refl is)
suffix_from (takes {token = token} cut kind light q) r is = let w = suffix_from q r is in (token ∷ w.0, cut ∙ ap (λ (l : List Token). token ∷ l) w.1)
suffix_from (heavy cut kind over) r is = absurd (err_ok _ r _ refl is)
suffix_from (differs d) r is = absurd (err_ok _ r _ refl is)
suffix_from (expands e q) r is = suffix_from q r is
suffix_from (refuses e) r is = absurd (err_ok _ r _ refl is)

pub suffix : {stack : List Symbol} {s r : List Token} → Run stack s (Ok r) → (own : List Token) × (s ≡ own ++ r)
suffix {r = r} q = suffix_from q r refl

pub ends_last : (xs : List Token) (t : Token) (r : List Token) → EndsOnce (xs ++ t ∷ r) → t.kind ≡ k.End → r ≡ []
ends_last [] t [] h is = refl
ends_last [] t (u ∷ r) h is = absurd (h.0 is)
ends_last (x ∷ []) t r h is = ends_last [] t r h.1 is
ends_last (x ∷ y ∷ xs) t r h is = ends_last (y ∷ xs) t r h.1 is

-- the tokens before what is left
pub taken_part : (own r : List Token) → take (length (own ++ r) - length r) (own ++ r) ≡ own
taken_part own r =
    let n : length (own ++ r) - length r ≡ length own = omega (arith, length-append own r) in
    ap (λ (k : ℕ). take k (own ++ r)) n ∙ take-append_seam own r

-- what is left behind those tokens
pub left_part : (own r : List Token) → drop (length (own ++ r) - length r) (own ++ r) ≡ r
left_part own r =
    let n : length (own ++ r) - length r ≡ length own = omega (arith, length-append own r) in
    ap (λ (k : ℕ). drop k (own ++ r)) n ∙ drop-append_seam own r
