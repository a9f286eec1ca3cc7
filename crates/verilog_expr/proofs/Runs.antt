-- Runs, one after the other.
use Rattle.std.proofs.Common.{◌≡◌, ◌+◌, ℕ, length, List, [], ◌∷◌, ◌++◌, Option, Some, None, Result, Ok, Err, refl, sym, ap, subst, ◌∙◌, append_assoc, Bool, true, false}
use Rattle.std.specs.Prelude.{IsErrAnd}
use Rattle.std.proofs.lemmas.Result.{err_from_is_err_and}
use Rattle.verilog_lex.specs.declared.kind.Kind.{Kind}
use Rattle.verilog_ast.specs.declared.binary_operator.BinaryOperator.{BinaryOperator}
use Rattle.verilog_lex.specs.declared.token.Token.{Token}
use Rattle.verilog_expr.specs.declared.fault.ParseFault.{ParseFault}
use Rattle.verilog_expr.specs.declared.fault.ParseFault.TheVariants.{Stuck}
use Rattle.verilog_expr.specs.declared.error.ParseError.{ParseError}
use Rattle.verilog_expr.specs.declared.error.ParseError.TheVariants as errors
use Rattle.verilog_expr.specs.Tokens.{next, Differs, binary_operator, unary_operator}
use Rattle.verilog_expr.specs.Grammar.{Nonterminal, Symbol, T, N, Operand, Tail, tail_at, operand_at, entry, is_outside, is_outside_at}
use Rattle.verilog_expr.specs.Machine.{Outcome, Run, ends, takes, heavy, differs, expands, refuses, stop, stop_at}
use Rattle.verilog_expr.specs.declared.stop.Stop.TheVariants.{NotInProfile}
use Rattle.verilog_ast.specs.declared.unary_operator.UnaryOperator.{UnaryOperator}
use Rattle.verilog_expr.specs.Reads.{Fails, no_memory, at_fault, Reads, ReadsChain, Leads}

-- what a run leaves is where the next begins
abbrev Goes : List Symbol → Outcome → Outcome → Type 0
Goes k (Ok s) out = Run k s out
Goes k (Err f) out = Err f ≡ out

run_then : {a : List Symbol} {s : List Token} {mid : Outcome} (k : List Symbol) (out : Outcome) → Run a s mid → Goes k mid out → Run (a ++ k) s out
run_then k out ends g = g
run_then k out (takes cut kind light r) g = takes cut kind light (run_then k out r g)
run_then k out (heavy {kind = kind} {w = w} {k = l} {s = s} cut is over) g = subst (λ (o : Outcome). Run (T kind w ∷ (l ++ k)) s o) g (heavy cut is over)
run_then k out (differs {kind = kind} {w = w} {k = l} {s = s} d) g = subst (λ (o : Outcome). Run (T kind w ∷ (l ++ k)) s o) g (differs d)
run_then k out (expands {alternative = alternative} {k = l} {s = s} e r) g = expands e (subst (λ (z : List Symbol). Run z s out) (append_assoc alternative l k) (run_then k out r g))
run_then k out (refuses {x = x} {w = w} {k = l} {s = s} e) g = subst (λ (o : Outcome). Run (N x w ∷ (l ++ k)) s o) g (refuses e)

pub then : {x : Symbol} {k : List Symbol} {s t : List Token} {out : Outcome} → Run (x ∷ []) s (Ok t) → Run k t out → Run (x ∷ k) s out
then r q = run_then _ _ r q

pub stops : {x : Symbol} {k : List Symbol} {s : List Token} {f : ParseFault} → Run (x ∷ []) s (Err f) → Run (x ∷ k) s (Err f)
stops r = run_then _ _ r refl

-- ---- one token

pub other_kind : (kind : Kind) (w : ℕ) (s : List Token) (e : ParseError) → e ≡ errors.Fault (Stuck (stop (is_outside (next s))) (length s)) → Differs kind s → Fails (T kind w ∷ []) s e
other_kind kind w s e is differ = subst (λ (e : ParseError). Fails (T kind w ∷ []) s e) (sym is) (at_fault (differs differ))

-- ---- from what the code's steps ensure

-- the fault of a nonterminal that the token can't begin
abbrev refusal : Nonterminal → List Token → ParseFault
refusal x s = Stuck (stop_at (is_outside_at x (next s)) (next s)) (length s)

abbrev Follows : Nonterminal → Option (List Symbol) → List Symbol → List Token → Outcome → Type 0
Follows x (Some alternative) k s out = Run (alternative ++ k) s out
Follows x None k s out = out ≡ Err (refusal x s)

entered : {x : Nonterminal} {w : ℕ} {k : List Symbol} {s : List Token} {out : Outcome} (e : Option (List Symbol)) → entry x w (next s) ≡ e → Follows x e k s out → Run (N x w ∷ k) s out
entered (Some alternative) is r = expands is r
entered {x} {w} {k} {s} None is g = subst (λ (o : Outcome). Run (N x w ∷ k) s o) (sym g) (refuses is)

pub expand_at : {x : Nonterminal} {w : ℕ} {k : List Symbol} {s : List Token} {out : Outcome} {kind : Kind} → kind ≡ next s → Follows x (entry x w kind) k s out → Run (N x w ∷ k) s out
expand_at {x} {w} {kind = kind} e r = entered (entry x w kind) (ap (entry x w) (sym e)) r

abbrev FollowsFails : Nonterminal → Option (List Symbol) → List Symbol → List Token → ParseError → Type 0
FollowsFails x (Some alternative) k s e = Fails (alternative ++ k) s e
FollowsFails x None k s e = e ≡ errors.Fault (refusal x s)

pub fails_here : {x : Symbol} {k : List Symbol} {s : List Token} {e : ParseError} → Fails (x ∷ []) s e → Fails (x ∷ k) s e
fails_here no_memory = no_memory
fails_here (at_fault r) = at_fault (stops r)

pub fails_then : {x : Symbol} {k : List Symbol} {s t : List Token} {e : ParseError} → Run (x ∷ []) s (Ok t) → Fails k t e → Fails (x ∷ k) s e
fails_then r no_memory = no_memory
fails_then r (at_fault q) = at_fault (then r q)

fails_enters : {x : Nonterminal} {w : ℕ} {alternative k : List Symbol} {s : List Token} {e : ParseError} → entry x w (next s) ≡ Some alternative → Fails (alternative ++ k) s e → Fails (N x w ∷ k) s e
fails_enters is no_memory = no_memory
fails_enters is (at_fault q) = at_fault (expands is q)

fails_follow : {x : Nonterminal} {w : ℕ} {k : List Symbol} {s : List Token} {e : ParseError} (a : Option (List Symbol)) → entry x w (next s) ≡ a → FollowsFails x a k s e → Fails (N x w ∷ k) s e
fails_follow (Some alternative) is h = fails_enters is h
fails_follow {x} {w} {k} {s} {e} None is h = subst (λ (e : ParseError). Fails (N x w ∷ k) s e) (sym h) (at_fault (refuses is))

pub fails_at : {x : Nonterminal} {w : ℕ} {k : List Symbol} {s : List Token} {e : ParseError} {kind : Kind} → kind ≡ next s → FollowsFails x (entry x w kind) k s e → Fails (N x w ∷ k) s e
fails_at {x} {w} {kind = kind} is r = fails_follow (entry x w kind) (ap (entry x w) (sym is)) r

-- a function that gives its callee's error on
pub reads_err : {A : Type 0} (k : List Symbol) (s t : List Token) (r : Result A ParseError) (e : ParseError) → IsErrAnd r (λ y. y ≡ e) → Fails k s e → Reads k s r t
reads_err k s t r e is h = let p = err_from_is_err_and r is in let q : r ≡ Err e = p.1 ∙ ap (λ (y : ParseError). Err y) p.2 in subst (λ r. Reads k s r t) (sym q) h

pub reads_memory : {A : Type 0} (k : List Symbol) (s t : List Token) (r : Result A ParseError) → IsErrAnd r (λ y. y ≡ errors.NoMemory) → Reads k s r t
reads_memory k s t r is = reads_err k s t r errors.NoMemory is no_memory

-- the token can begin no alternative, and the standard hasn't it here either
pub record Refuses (x : Nonterminal) (w : ℕ) (kind : Kind) : Type 0 where
  pub none : entry x w kind ≡ None
  pub plain : is_outside_at x kind ≡ false

-- the token can begin no alternative, and the standard has it here
pub record RefusesOutside (x : Nonterminal) (w : ℕ) (kind : Kind) : Type 0 where
  pub none : entry x w kind ≡ None
  pub outside : is_outside_at x kind ≡ true

refuses_so : {x : Nonterminal} {w : ℕ} {k : List Symbol} {s : List Token} {e : ParseError} {kind : Kind} (outside : Bool) → kind ≡ next s → entry x w kind ≡ None → is_outside_at x kind ≡ outside
    → e ≡ errors.Fault (Stuck (stop_at outside (next s)) (length s)) → Fails (N x w ∷ k) s e
refuses_so {x} {w} {k} {s} {e} {kind} outside is none at stuck =
    let same : is_outside_at x (next s) ≡ outside = ap (is_outside_at x) (sym is) ∙ at in
    let fault = stuck ∙ ap (λ (b : Bool). errors.Fault (Stuck (stop_at b (next s)) (length s))) (sym same) in
    subst (λ (e : ParseError). Fails (N x w ∷ k) s e) (sym fault) (at_fault (refuses (ap (entry x w) (sym is) ∙ none)))

pub refuse_at : {x : Nonterminal} {w : ℕ} {k : List Symbol} {s : List Token} {e : ParseError} {kind : Kind} → kind ≡ next s → Refuses x w kind
    → e ≡ errors.Fault (Stuck (stop (is_outside (next s))) (length s)) → Fails (N x w ∷ k) s e
refuse_at is r stuck = refuses_so false is r.none r.plain stuck

pub outside_at : {x : Nonterminal} {w : ℕ} {k : List Symbol} {s : List Token} {e : ParseError} {kind : Kind} → kind ≡ next s → RefusesOutside x w kind
    → e ≡ errors.Fault (Stuck NotInProfile (length s)) → Fails (N x w ∷ k) s e
outside_at is r stuck = refuses_so true is r.none r.outside stuck

pub skip_at : {x : Nonterminal} {w : ℕ} {k : List Symbol} {s : List Token} {out : Outcome} → entry x w (next s) ≡ Some [] → Run k s out → Run (N x w ∷ k) s out
skip_at is r = expands is r

pub fails_skip : {x : Nonterminal} {w : ℕ} {k : List Symbol} {s : List Token} {e : ParseError} → entry x w (next s) ≡ Some [] → Fails k s e → Fails (N x w ∷ k) s e
fails_skip is r = fails_enters is r

-- ---- a chain

pub leads_then : {x y z : Symbol} {k : List Symbol} {s t : List Token} {out : Outcome} → Leads (x ∷ y ∷ []) s (z ∷ []) t → Run (z ∷ k) t out → Run (x ∷ y ∷ k) s out
leads_then l r = l.go _ _ r

pub leads_fails : {x y z : Symbol} {k : List Symbol} {s t : List Token} {e : ParseError} → Leads (x ∷ y ∷ []) s (z ∷ []) t → Fails (z ∷ k) t e → Fails (x ∷ y ∷ k) s e
leads_fails l no_memory = no_memory
leads_fails l (at_fault r) = at_fault (l.go _ _ r)

pub fails_two : {x y : Symbol} {k : List Symbol} {s : List Token} {e : ParseError} → Fails (x ∷ y ∷ []) s e → Fails (x ∷ y ∷ k) s e
fails_two no_memory = no_memory
fails_two (at_fault r) = at_fault (run_then _ _ r refl)

pub chain_memory : {A : Type 0} (w : ℕ) (s t : List Token) (r : Result (A × ℕ) ParseError) → IsErrAnd r (λ y. y ≡ errors.NoMemory) → ReadsChain w s r t
chain_memory w s t r is = let p = err_from_is_err_and r is in let q : r ≡ Err errors.NoMemory = p.1 ∙ ap (λ (y : ParseError). Err y) p.2 in subst (λ r. ReadsChain w s r t) (sym q) no_memory

-- the chain goes on by an operator and another chain
pub chain_more : (w v u : ℕ) (s t t1 t2 : List Token) (kind : Kind) (op : BinaryOperator) → Leads (N Operand w ∷ N Tail w ∷ []) s (N Tail v ∷ []) t → kind ≡ next t → Some op ≡ binary_operator (next t) → Run (T kind v ∷ []) t (Ok t1)
    → Leads (N Operand (v + 1) ∷ N Tail (v + 1) ∷ []) t1 (N Tail u ∷ []) t2 → Leads (N Operand w ∷ N Tail w ∷ []) s (N Tail u ∷ []) t2
chain_more w v u s t t1 t2 kind op before is has one after = record {
  go = λ k out r. before.go k out (expands (ap (tail_at v (next t)) (sym has)) (subst (λ (x : Kind). Run (T x v ∷ N Operand (v + 1) ∷ N Tail (v + 1) ∷ k) t out) is (run_then _ _ one (after.go k out r))));
}

pub leads_one : {x y : Symbol} {k : List Symbol} {s t : List Token} {out : Outcome} → Leads (x ∷ []) s (y ∷ []) t → Run (y ∷ k) t out → Run (x ∷ k) s out
leads_one l r = l.go _ _ r

pub leads_one_fails : {x y : Symbol} {k : List Symbol} {s t : List Token} {e : ParseError} → Leads (x ∷ []) s (y ∷ []) t → Fails (y ∷ k) t e → Fails (x ∷ k) s e
leads_one_fails l no_memory = no_memory
leads_one_fails l (at_fault r) = at_fault (l.go _ _ r)

pub other_at : {x : Nonterminal} {w : ℕ} {y z : Symbol} {more k : List Symbol} {s : List Token} {out : Outcome} → entry x w (next s) ≡ Some (y ∷ z ∷ more) → Run (y ∷ z ∷ (more ++ k)) s out → Run (N x w ∷ k) s out
other_at is r = expands is r

pub fails_other : {x : Nonterminal} {w : ℕ} {y z : Symbol} {more k : List Symbol} {s : List Token} {e : ParseError} → entry x w (next s) ≡ Some (y ∷ z ∷ more) → Fails (y ∷ z ∷ (more ++ k)) s e → Fails (N x w ∷ k) s e
fails_other is r = fails_enters is r

-- an operator before its operand
pub unary_goes : {w : ℕ} {k : List Symbol} {s : List Token} {out : Outcome} {kind : Kind} {op : UnaryOperator} → kind ≡ next s → Some op ≡ unary_operator (next s) → Run (T kind w ∷ N Operand (w + 1) ∷ k) s out → Run (N Operand w ∷ k) s out
unary_goes {w} {k} {s} {out} {kind} is has h = expands (ap (operand_at w (next s)) (sym has)) (subst (λ (x : Kind). Run (T x w ∷ N Operand (w + 1) ∷ k) s out) is h)

pub unary_fails : {w : ℕ} {k : List Symbol} {s : List Token} {e : ParseError} {kind : Kind} {op : UnaryOperator} → kind ≡ next s → Some op ≡ unary_operator (next s) → Fails (T kind w ∷ N Operand (w + 1) ∷ k) s e → Fails (N Operand w ∷ k) s e
unary_fails {w} {k} {s} {e} {kind} is has h = fails_enters (ap (operand_at w (next s)) (sym has)) (subst (λ (x : Kind). Fails (T x w ∷ N Operand (w + 1) ∷ k) s e) is h)

pub alone_at : {x : Nonterminal} {w : ℕ} {y : Symbol} {k : List Symbol} {s : List Token} {out : Outcome} → entry x w (next s) ≡ Some (y ∷ []) → Run (y ∷ k) s out → Run (N x w ∷ k) s out
alone_at is r = expands is r

pub fails_alone : {x : Nonterminal} {w : ℕ} {y : Symbol} {k : List Symbol} {s : List Token} {e : ParseError} → entry x w (next s) ≡ Some (y ∷ []) → Fails (y ∷ k) s e → Fails (N x w ∷ k) s e
fails_alone is r = fails_enters is r

pub ruleset runs = (ends, expand_at, then, stops, reads_err, reads_memory, fails_at, fails_then, fails_here, refuse_at, skip_at, fails_skip, leads_then, leads_fails, fails_two, chain_memory, other_at, fails_other, outside_at, unary_goes, unary_fails)

-- an alternative of one symbol that stands before all other tokens
pub ruleset alone = (alone_at, fails_alone)

-- in a loop: what it did so far, and then what it does
pub ruleset loops = (leads_one, leads_one_fails)
