-- What a refusal shows, and that what is spelled is refused for its weight alone.
use Rattle.std.proofs.Common.{◌≡◌, ◌<◌, ◌-◌, ◌∙◌, ℕ, length, take, drop, List, [], ◌++◌, append_assoc, ◌≢◌, Ok, Err, sym, ap, subst, arith}
use Rattle.std.proofs.lemmas.List.{length-drop, take-append-drop}
use Rattle.ls_text.specs.declared.fault.Fault.{Fault}
use Rattle.verilog_lex.specs.declared.token.Token.{Token}
use Rattle.verilog_lex.specs.Ends.{EndsOnce}
use Rattle.verilog_ast.specs.declared.expression.Expr.{Expr}
use Rattle.verilog_expr.specs.declared.fault.ParseFault.{ParseFault}
use Rattle.verilog_expr.specs.declared.fault.ParseFault.TheVariants.{Stuck, Heavy}
use Rattle.verilog_expr.specs.declared.error.ParseError.{ParseError}
use Rattle.verilog_expr.specs.declared.error.ParseError.TheVariants as errors
use Rattle.verilog_expr.specs.Grammar.{Symbol}
use Rattle.verilog_expr.specs.Machine.{Outcome, Run}
use Rattle.verilog_expr.specs.Reads.{Fails, at_fault}
use Rattle.ls_text.specs.declared.refusal.Refusal.TheVariants as refusal
use Rattle.verilog_expr.specs.Shown.{IsShownAs, Refuses, at_fault as shows}
use Rattle.verilog_expr.specs.Expressions.{StandsFrom, BeginsWithExpression, expression}
use Rattle.verilog_expr.specs.Spells as spells
use Rattle.verilog_expr.specs.Spells.{Spells}
use Rattle.verilog_expr.proofs.Complete.{Gets, through, too_heavy, one_end, complete}
use Rattle.verilog_expr.proofs.Suffixes.{suffix, left_part, err_ok}
use Rattle.verilog_expr.proofs.Endings.{still_ends, ends_from, not_empty}

run_of : {stack : List Symbol} {s : List Token} {f : ParseFault} → Fails stack s (errors.Fault f) → Run stack s (Err f)
run_of (at_fault r) = r

pub run_at : {stack : List Symbol} {s : List Token} {f : ParseFault} {e : ParseError} → e ≡ errors.Fault f → Fails stack s e → Run stack s (Err f)
run_at {stack} {s} is h = run_of (subst (λ (e : ParseError). Fails stack s e) is h)

-- ---- what is spelled

pub stuck_not_ok : {stack : List Symbol} {s r : List Token} {f : ParseFault} → Run stack s (Ok r) → Run stack s (Err f) → ⊥
stuck_not_ok {r = r} {f = f} p q = err_ok f r _ (one_end p q) (one_end p p)

heavy_code : (s : List Token) (f : ParseFault) (fault : Fault) (n : ℕ) (o : Outcome) → o ≡ Err f → o ≡ Err (Heavy n) → IsShownAs s f fault → fault.code ≡ 16
heavy_code s (Heavy k) fault n o is at shown = shown.code
heavy_code s (Stuck stop k) fault n o is at shown = absurd cc

pub heavy_alone : {stack : List Symbol} {s r : List Token} {f : ParseFault} {fault : Fault} → Gets stack s r → Run stack s (Err f) → IsShownAs s f fault → fault.code ≡ 16
heavy_alone (through p) run shown = absurd (stuck_not_ok p run)
heavy_alone {s = s} {f = f} {fault = fault} (too_heavy {n = n} p) run shown = heavy_code s f fault n _ (one_end run run) (one_end run p) shown

-- ---- one expression

pub expression_only : {s : List Token} {weight : ℕ} {f : ParseFault} {fault : Fault} → BeginsWithExpression s → Run (expression weight) s (Err f) → IsShownAs s f fault → fault.code ≡ 16
expression_only {weight = weight} x run shown = heavy_alone (complete x.tree weight) run shown

run_from : (tokens here p : List Token) (from weight : ℕ) (f : ParseFault) (e : ParseError) → p ≡ here → here ≡ drop from tokens → e ≡ errors.Fault f → Fails (expression weight) p e
    → Run (expression weight) (drop from tokens) (Err f)
run_from tokens here p from weight f e is cut at fails = subst (λ (l : List Token). Run (expression weight) l (Err f)) (is ∙ cut) (run_at at fails)

pub refused_at : (tokens here p : List Token) (from weight : ℕ) (f g : ParseFault) (e : ParseError) (fault : Fault) → p ≡ here → here ≡ drop from tokens → e ≡ errors.Fault f → Fails (expression weight) p e → g ≡ f → IsShownAs here g fault
    → Refuses (expression weight) (drop from tokens) (refusal.Fault fault)
refused_at tokens here p from weight f g e fault is cut at fails same shown =
    shows (run_from tokens here p from weight f e is cut at fails) (subst (λ (l : List Token). IsShownAs l f fault) cut (subst (λ (x : ParseFault). IsShownAs here x fault) same shown))

pub only_heavy : (tokens here p : List Token) (from weight : ℕ) (f g : ParseFault) (e : ParseError) (fault : Fault) → p ≡ here → here ≡ drop from tokens → e ≡ errors.Fault f → Fails (expression weight) p e → g ≡ f → IsShownAs here g fault
    → BeginsWithExpression (drop from tokens) → fault.code ≡ 16
only_heavy tokens here p from weight f g e fault is cut at fails same shown x =
    expression_only {weight = weight} x (run_from tokens here p from weight f e is cut at fails) (subst (λ (l : List Token). IsShownAs l f fault) cut (subst (λ (x : ParseFault). IsShownAs here x fault) same shown))

-- the tokens from one place are those up to another, and then the rest
left_from : (tokens own r : List Token) (from : ℕ) → drop from tokens ≡ own ++ r → r ≡ drop (length tokens - length r) tokens
left_from tokens own r from cut =
    let all : (take from tokens ++ own) ++ r ≡ tokens = append_assoc (take from tokens) own r ∙ ap (λ (l : List Token). take from tokens ++ l) (sym cut) ∙ take-append-drop from tokens in
    sym (ap (λ (l : List Token). drop (length l - length r) l) (sym all) ∙ left_part (take from tokens ++ own) r)

pub stands_from : (tokens here rest : List Token) (from weight next : ℕ) (x : Expr) → EndsOnce tokens → from < length tokens → here ≡ drop from tokens → next ≡ length tokens - length rest
    → Run (expression weight) here (Ok rest) → Spells (spells.AnExpression x) here rest → length rest < length here → StandsFrom tokens from weight (record { expr = x; next = next })
stands_from tokens here rest from weight next x ends inside is-here is-next run tree shorter =
    let w = suffix run in
    let here_long : length here ≡ length tokens - from = ap length is-here ∙ length-drop from tokens in
    let some : here ≢ [] = λ none. absurd (omega (arith, here_long, ap length none)) in
    let parts : take from tokens ++ here ≡ tokens = ap (λ (l : List Token). take from tokens ++ l) is-here ∙ take-append-drop from tokens in
    let here_ends : EndsOnce here = ends_from (take from tokens) here (subst EndsOnce (sym parts) ends) some in
    let left : 0 < length rest = not_empty rest (still_ends tree here_ends) in
    let rest_is : rest ≡ drop next tokens = left_from tokens w.0 rest from (sym is-here ∙ w.1) ∙ ap (λ (n : ℕ). drop n tokens) (sym is-next) in
    record {
      tree = subst (λ (l : List Token). Spells (spells.AnExpression x) l (drop next tokens)) is-here (subst (λ (l : List Token). Spells (spells.AnExpression x) here l) rest_is tree);
      taken = subst (λ (l : List Token). Run (expression weight) l (Ok (drop next tokens))) is-here (subst (λ (l : List Token). Run (expression weight) here (Ok l)) rest_is run);
      some = omega (arith, is-next, here_long, shorter, inside);
      inside = omega (arith, is-next, left, shorter, here_long, inside);
    }
