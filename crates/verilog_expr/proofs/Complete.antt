-- The machine has one end, and it takes what is spelled, unless too much is open.
use Rattle.std.proofs.Common.{◌≡◌, ◌+◌, ℕ, List, [], ◌∷◌, ◌++◌, Option, Some, None, Ok, Err, refl, sym, ap, subst, ◌∙◌, inl, inr, arith}
use Rattle.std.proofs.lemmas.Bool.{cases_lt}
use Rattle.verilog_lex.specs.declared.kind.Kind.{Kind}
use Rattle.verilog_lex.specs.declared.token.Token.{Token}
use Rattle.verilog_ast.specs.declared.unary_operator.UnaryOperator.{UnaryOperator}
use Rattle.verilog_ast.specs.declared.binary_operator.BinaryOperator.{BinaryOperator}
use Rattle.verilog_expr.specs.declared.fault.ParseFault.TheVariants.{Heavy}
use Rattle.verilog_expr.specs.Tokens.{next, Differs, Takes, taken, unary_operator, binary_operator, max_weight}
use Rattle.verilog_expr.specs.Grammar.{Nonterminal, Symbol, T, N, Operand, Tail, ASelect, Part, Braced, More, tail_at, operand_at, entry}
use Rattle.verilog_expr.specs.Grammar.{AnExpression, ARange}
use Rattle.verilog_expr.specs.Machine.{Outcome, Run, ends, takes, heavy, differs, expands, refuses}
use Rattle.verilog_expr.specs.Reads.{Leads}
use Rattle.verilog_expr.specs.Spells as spells
use Rattle.verilog_expr.specs.Spells.{Phrase, Spells, AChain, AnOperand, APart, ABraced, Behind, Others, plain, conditional, one, binary, number, unary, read, bracketed, braced, concatenation, replication, behind, no_other, another, whole, select, bit, part, upward, downward, range}
use Rattle.verilog_expr.proofs.Runs.{then, stops, chain_more}
use Rattle.verilog_expr.proofs.Entries.{tail_skips, select_skips, after_select_skips, part_skips, more_skips, braced_joins}

-- ---- one end

same_rest : (s : List Token) (x y : Token) (p q : List Token) → s ≡ x ∷ p → s ≡ y ∷ q → p ≡ q
same_rest s x y p q a b = cc

no_differ : (kind : Kind) (s : List Token) (x : Token) (p : List Token) → s ≡ x ∷ p → x.kind ≡ kind → Differs kind s → ⊥
no_differ kind s x p cut is d = (subst (Differs kind) cut d) is

same_entry : (a b : List Symbol) (o : Option (List Symbol)) → o ≡ Some a → o ≡ Some b → a ≡ b
same_entry a b o p q = cc

some_none : (a : List Symbol) (o : Option (List Symbol)) → o ≡ Some a → o ≡ None → ⊥
some_none a o p q = cc

pub one_end : {k : List Symbol} {s : List Token} {o p : Outcome} → Run k s o → Run k s p → o ≡ p
one_end ends ends = refl
one_end {p = p} (takes {kind = kind} {k = k} {s = s} {token = x} {rest = a} cut is light r) (takes {token = y} {rest = b} cut' is' light' q) = one_end r (subst (λ (z : List Token). Run k z p) (sym (same_rest s x y a b cut cut')) q)
one_end (takes cut is light r) (heavy cut' is' over) = absurd (omega arith)
one_end (takes {kind = kind} {s = s} {token = x} {rest = a} cut is light r) (differs d) = absurd (no_differ kind s x a cut is d)
one_end (heavy cut is over) (takes cut' is' light r) = absurd (omega arith)
one_end (heavy cut is over) (heavy cut' is' over') = refl
one_end (heavy {kind = kind} {s = s} {token = x} {rest = a} cut is over) (differs d) = absurd (no_differ kind s x a cut is d)
one_end (differs d) (takes {kind = kind} {s = s} {token = x} {rest = a} cut is light r) = absurd (no_differ kind s x a cut is d)
one_end (differs d) (heavy {kind = kind} {s = s} {token = x} {rest = a} cut is over) = absurd (no_differ kind s x a cut is d)
one_end (differs d) (differs d') = refl
one_end {p = p} (expands {x = x} {w = w} {alternative = a} {k = k} {s = s} e r) (expands {alternative = b} e' q) = one_end r (subst (λ (z : List Symbol). Run (z ++ k) s p) (sym (same_entry a b (entry x w (next s)) e e')) q)
one_end (expands {x = x} {w = w} {alternative = a} {s = s} e r) (refuses e') = absurd (some_none a (entry x w (next s)) e e')
one_end (refuses {x = x} {w = w} {s = s} e) (expands {alternative = a} e' q) = absurd (some_none a (entry x w (next s)) e' e)
one_end (refuses e) (refuses e') = refl

-- ---- what is spelled is taken

-- the machine comes to the end of the symbols with these tokens left, or to a token at which too much is open
pub data Gets (stack : List Symbol) (s r : List Token) : Type 0 where
  through : Run stack s (Ok r) → Gets stack s r
  too_heavy : {n : ℕ} → Run stack s (Err (Heavy n)) → Gets stack s r

-- the same up to a tail
pub data Chained (w : ℕ) (s r : List Token) : Type 0 where
  chained : {v : ℕ} → Leads (N Operand w ∷ N Tail w ∷ []) s (N Tail v ∷ []) r → Chained w s r
  chain_heavy : {n : ℕ} → ((k : List Symbol) → Run (N Operand w ∷ N Tail w ∷ k) s (Err (Heavy n))) → Chained w s r

pub gets_then : {x : Symbol} {k : List Symbol} {s t r : List Token} → Gets (x ∷ []) s t → Gets k t r → Gets (x ∷ k) s r
gets_then (through q) (through p) = through (then q p)
gets_then (through q) (too_heavy p) = too_heavy (then q p)
gets_then (too_heavy q) g = too_heavy (stops q)

pub gets_end : {s : List Token} → Gets [] s s
gets_end = through ends

pub gets_token : {kind : Kind} {w : ℕ} {s r : List Token} {t : Token} → Takes kind s r t → Gets (T kind w ∷ []) s r
gets_token {w = w} (taken cut is) = elim (cases_lt max_weight w) [ inl over ↦ too_heavy (heavy cut is over) | inr light ↦ through (takes cut is light ends) ]

pub enters : {x : Nonterminal} {w : ℕ} {alternative k : List Symbol} {s r : List Token} → entry x w (next s) ≡ Some alternative → Gets (alternative ++ k) s r → Gets (N x w ∷ k) s r
enters e (through q) = through (expands e q)
enters e (too_heavy q) = too_heavy (expands e q)

pub gets_at : {x : Nonterminal} {w : ℕ} {alternative k : List Symbol} {s r t : List Token} {u : Token} {kind : Kind} → Takes kind s t u → entry x w kind ≡ Some alternative → Gets (alternative ++ k) s r → Gets (N x w ∷ k) s r
gets_at {x} {w} {alternative = alternative} (taken cut is) e g = enters (ap (entry x w) (ap next cut ∙ is) ∙ e) g

pub gets_skip : {x : Nonterminal} {w : ℕ} {k : List Symbol} {s r : List Token} → entry x w (next s) ≡ Some [] → Gets k s r → Gets (N x w ∷ k) s r
gets_skip e g = enters e g

-- ---- chains

chain_one : {w : ℕ} {s r : List Token} → Gets (N Operand w ∷ []) s r → Chained w s r
chain_one (through q) = chained (record { go = λ k out z. then q z })
chain_one (too_heavy q) = chain_heavy (λ k. stops q)

tail_entry : (v : ℕ) (kind : Kind) (op : BinaryOperator) → binary_operator kind ≡ Some op → entry Tail v kind ≡ Some (T kind v ∷ N Operand (v + 1) ∷ N Tail (v + 1) ∷ [])
tail_entry v kind op has = ap (tail_at v kind) has

chain_next : {w v : ℕ} {s a b r : List Token} {kind : Kind} {op : BinaryOperator} → Leads (N Operand w ∷ N Tail w ∷ []) s (N Tail v ∷ []) a → binary_operator kind ≡ Some op → kind ≡ next a → Run (T kind v ∷ []) a (Ok b) → Chained (v + 1) b r → Chained w s r
chain_next {w = w} {v = v} {s = s} {a = a} {b = b} {r = r} {kind = kind} {op = op} l has is took (chained {v = u} m) = chained (chain_more w v u s a b r kind op l is (sym has ∙ ap binary_operator is) took m)
chain_next {v = v} {kind = kind} {op = op} l has is took (chain_heavy h) = chain_heavy (λ k. l.go k _ (expands (ap (entry Tail v) (sym is) ∙ tail_entry v kind op has) (then took (h k))))

chain_longer : {w : ℕ} {s a b r : List Token} {t : Token} {kind : Kind} {op : BinaryOperator} → Chained w s a → binary_operator kind ≡ Some op → Takes kind a b t → ((v : ℕ) → Chained (v + 1) b r) → Chained w s r
chain_longer (chain_heavy h) has took right = chain_heavy h
chain_longer {kind = kind} {op = op} (chained {v = v} l) has (taken cut is) right =
    let at = sym is ∙ sym (ap next cut) in
    elim (cases_lt max_weight v) [
      | inl over ↦ chain_heavy (λ k. l.go k _ (expands (ap (entry Tail v) (sym at) ∙ tail_entry v kind op has) (heavy cut is over)))
      | inr light ↦ chain_next l has at (takes cut is light ends) (right v)
    ]

chain_end : {w : ℕ} {s a r : List Token} → Chained w s a → ((v : ℕ) → Gets (N Tail v ∷ []) a r) → Gets (N AnExpression w ∷ []) s r
chain_end (chain_heavy h) g = too_heavy (expands refl (h []))
chain_end {r = r} (chained {v = v} l) g = enters refl (chain_then l (g v))
  where
    chain_then : {w v : ℕ} {s a r : List Token} → Leads (N Operand w ∷ N Tail w ∷ []) s (N Tail v ∷ []) a → Gets (N Tail v ∷ []) a r → Gets (N Operand w ∷ N Tail w ∷ []) s r
    chain_then l (through q) = through (l.go [] _ q)
    chain_then l (too_heavy q) = too_heavy (l.go [] _ q)

-- ---- each rule

abbrev pub Meets : Phrase → ℕ → List Token → List Token → Type 0
Meets (spells.AnExpression x) w s r = Gets (N AnExpression w ∷ []) s r
Meets (AChain p x) w s r = Chained w s r
Meets (AnOperand x) w s r = Gets (N Operand w ∷ []) s r
Meets (spells.ASelect n x) w s r = Gets (N ASelect w ∷ []) s r
Meets (APart n x y) w s r = Gets (N Part w ∷ []) s r
Meets (ABraced at x y) w s r = Gets (N Braced w ∷ []) s r
Meets (Behind x xs) w s r = Gets (N More w ∷ []) s r
Meets (Others xs) w s r = Gets (N More w ∷ []) s r
Meets (spells.ARange x) w s r = Gets (N ARange w ∷ []) s r

infixr 10 ◌⊳◌
pub ◌⊳◌ : {x : Symbol} {k : List Symbol} {s t r : List Token} → Gets (x ∷ []) s t → Gets k t r → Gets (x ∷ k) s r
g ⊳ h = gets_then g h

unary_entry : (w : ℕ) (kind : Kind) (op : UnaryOperator) → Some op ≡ unary_operator kind → entry Operand w kind ≡ Some (T kind w ∷ N Operand (w + 1) ∷ [])
unary_entry w kind op has = ap (operand_at w kind) (sym has)

pub complete : {p : Phrase} {s r : List Token} → Spells p s r → (w : ℕ) → Meets p w s r
complete (plain h free last) w = chain_end (complete h w) (λ v. gets_skip (tail_skips v _ free last) gets_end)
complete (conditional h q x c y) w = chain_end (complete h w) (λ v. gets_at q refl (gets_token q ⊳ complete x (v + 1) ⊳ gets_token c ⊳ complete y (v + 1) ⊳ gets_end))
complete (one h) w = chain_one (complete h w)
complete (binary le l has t r) w = chain_longer (complete l w) has t (λ v. complete r (v + 1))
complete (number t) w = gets_at t refl (gets_token t ⊳ gets_end)
complete (unary {op = op} {kind = kind} has t h) w = gets_at t (unary_entry w kind op has) (gets_token t ⊳ complete h (w + 1) ⊳ gets_end)
complete (read t h) w = gets_at t refl (gets_token t ⊳ complete h w ⊳ gets_end)
complete (bracketed t h u) w = gets_at t refl (gets_token t ⊳ complete h (w + 1) ⊳ gets_token u ⊳ gets_end)
complete (braced t h b) w = gets_at t refl (gets_token t ⊳ complete h (w + 1) ⊳ complete b (w + 1) ⊳ gets_end)
complete (concatenation free h t) w = enters (braced_joins w _ free) (complete h w ⊳ gets_token t ⊳ gets_end)
complete (replication t h b u v) w = gets_at t refl (gets_token t ⊳ complete h (w + 1) ⊳ complete b (w + 1) ⊳ gets_token u ⊳ gets_token v ⊳ gets_end)
complete (behind h) w = complete h w
complete (no_other free) w = gets_skip (more_skips w _ free) gets_end
complete (another t h r) w = gets_at t refl (gets_token t ⊳ complete h w ⊳ complete r w ⊳ gets_end)
complete (whole free dot) w = gets_skip (select_skips w _ free dot) gets_end
complete (select t h p u dot) w = gets_at t refl (gets_token t ⊳ complete h (w + 1) ⊳ complete p (w + 1) ⊳ gets_token u ⊳ gets_skip (after_select_skips w _ dot) gets_end)
complete (bit a b c) w = gets_skip (part_skips w _ a b c) gets_end
complete (part t h) w = gets_at t refl (gets_token t ⊳ complete h w ⊳ gets_end)
complete (upward t h) w = gets_at t refl (gets_token t ⊳ complete h w ⊳ gets_end)
complete (downward t h) w = gets_at t refl (gets_token t ⊳ complete h w ⊳ gets_end)
complete (range t x c y u) w = enters refl (gets_token t ⊳ complete x (w + 1) ⊳ gets_token c ⊳ complete y (w + 1) ⊳ gets_token u ⊳ gets_end)
