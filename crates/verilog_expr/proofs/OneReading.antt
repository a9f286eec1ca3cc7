-- The tokens of an expression have one tree and one end.
use Rattle.std.proofs.Common.{◌≡◌, ◌≢◌, List, [], ◌∷◌, Some, None, refl, sym, ap, ◌∙◌}
use Rattle.ls_text.specs.declared.place.Place.{Place}
use Rattle.verilog_lex.specs.declared.token.Token.{Token}
use Rattle.verilog_lex.specs.declared.kind.Kind.{Kind}
use Rattle.verilog_lex.specs.declared.kind.Kind.TheVariants as k
use Rattle.verilog_ast.specs.declared.identifier.Identifier.{Identifier}
use Rattle.verilog_ast.specs.declared.unary_operator.UnaryOperator.{UnaryOperator}
use Rattle.verilog_ast.specs.declared.expression.Expr.{Expr}
use Rattle.verilog_ast.specs.declared.expression.Expr.TheVariants as e
use Rattle.verilog_ast.specs.declared.expression.Reference.{Reference}
use Rattle.verilog_ast.specs.declared.expression.Reference.TheVariants as ref
use Rattle.verilog_ast.specs.declared.range.Range.{Range}
use Rattle.verilog_ast.proofs.Equal.{ap₃}
use Rattle.verilog_expr.specs.Tokens.{next, Takes, identifier_of, number_of, unary_operator, binary_operator}
use Rattle.verilog_expr.specs.Spells.{Phrase, Spells, AnExpression, AChain, AnOperand, ASelect, APart, ABraced, Behind, Others, ARange, plain, conditional, one, binary, number, unary, read, bracketed, braced, concatenation, replication, behind, no_other, another, whole, select, bit, part, upward, downward, range}
use Rattle.verilog_expr.proofs.OneToken.{kind_of, clash, one_rest, one_token}
use Rattle.verilog_expr.proofs.OneRow.{IsOnlyOperand, Flat, flat_one, flat_binary, one_chain}

-- ---- that a phrase is the only one of its kind at the front of the tokens, and where it ends

abbrev OneExpression : Expr → List Token → List Token → Type 0
OneExpression x s r = (y : Expr) (s' t : List Token) → s ≡ s' → Spells (AnExpression y) s' t → (x ≡ y) × (r ≡ t)

abbrev OneSelect : Identifier → Reference → List Token → List Token → Type 0
OneSelect n x s r = (m : Identifier) (y : Reference) (s' t : List Token) → n ≡ m → s ≡ s' → Spells (ASelect m y) s' t → (x ≡ y) × (r ≡ t)

abbrev OnePart : Identifier → Expr → Reference → List Token → List Token → Type 0
OnePart n x z s r = (m : Identifier) (y : Expr) (w : Reference) (s' t : List Token) → n ≡ m → x ≡ y → s ≡ s' → Spells (APart m y w) s' t
    → (z ≡ w) × (r ≡ t)

abbrev OneBraced : Place → Expr → Expr → List Token → List Token → Type 0
OneBraced at x z s r = (at' : Place) (y w : Expr) (s' t : List Token) → at ≡ at' → x ≡ y → s ≡ s' → Spells (ABraced at' y w) s' t
    → (z ≡ w) × (r ≡ t)

abbrev OneBehind : Expr → List Expr → List Token → List Token → Type 0
OneBehind x xs s r = (y : Expr) (ys : List Expr) (s' t : List Token) → x ≡ y → s ≡ s' → Spells (Behind y ys) s' t → (xs ≡ ys) × (r ≡ t)

abbrev OneOthers : List Expr → List Token → List Token → Type 0
OneOthers xs s r = (ys : List Expr) (s' t : List Token) → s ≡ s' → Spells (Others ys) s' t → (xs ≡ ys) × (r ≡ t)

abbrev OneRange : Range → List Token → List Token → Type 0
OneRange x s r = (y : Range) (s' t : List Token) → s ≡ s' → Spells (ARange y) s' t → (x ≡ y) × (r ≡ t)

abbrev IsOnly : Phrase → List Token → List Token → Type 0
IsOnly (AnExpression x) s r = OneExpression x s r
IsOnly (AChain p x) s r = Flat IsOnlyOperand p x s r
IsOnly (AnOperand x) s r = IsOnlyOperand x s r
IsOnly (ASelect n x) s r = OneSelect n x s r
IsOnly (APart n x y) s r = OnePart n x y s r
IsOnly (ABraced at x y) s r = OneBraced at x y s r
IsOnly (Behind x xs) s r = OneBehind x xs s r
IsOnly (Others xs) s r = OneOthers xs s r
IsOnly (ARange x) s r = OneRange x s r

same_two : {A B C : Type 0} (f : A → B → C) (a c : A) (b d : B) → a ≡ c → b ≡ d → f a b ≡ f c d
same_two f a c b d p q = cc

-- ---- expressions

question_operator : (kind : Kind) → kind ≡ k.Question → binary_operator kind ≡ None
question_operator kind q = ap binary_operator q

plain_only : {x y : Expr} {s s' r t : List Token} → Flat IsOnlyOperand 0 x s r → binary_operator (next r) ≡ None → next r ≢ k.Question
    → s ≡ s' → Spells (AnExpression y) s' t → (x ≡ y) × (r ≡ t)
plain_only f free other q (plain h free' other') = one_chain f q h free free'
plain_only f free other q (conditional {a = a} h t x c y) =
    let o = one_chain f q h free (question_operator (next a) (kind_of t)) in absurd (other (ap next o.1 ∙ kind_of t))

conditional_only : {w x y z : Expr} {s s' a b d f r u : List Token} {t v : Token} → Flat IsOnlyOperand 0 w s a → Takes k.Question a b t
    → OneExpression x b d → Takes k.Colon d f v → OneExpression y f r
    → s ≡ s' → Spells (AnExpression z) s' u → (e.Conditional w x y ≡ z) × (r ≡ u)
conditional_only {a = a} g t x c y q (plain h free other) =
    let o = one_chain g q h (question_operator (next a) (kind_of t)) free in absurd (other (sym (ap next o.1) ∙ kind_of t))
conditional_only {a = a} g t x c y q (conditional {a = a'} h t' x' c' y') =
    let o = one_chain g q h (question_operator (next a) (kind_of t)) (question_operator (next a') (kind_of t')) in
    let m = x _ _ _ (one_rest t o.1 t') x' in
    let n = y _ _ _ (one_rest c m.1 c') y' in
    (ap₃ (λ (u v w : Expr). e.Conditional u v w) o.0 m.0 n.0, n.1)

-- ---- operands

unary_clash : {kind other : Kind} {op : UnaryOperator} {s s' r r' : List Token} {t t' : Token} → Some op ≡ unary_operator kind
    → unary_operator other ≡ None → Takes kind s r t → s ≡ s' → Takes other s' r' t' → ⊥
unary_clash {kind = kind} {other = other} {op = op} has none t q t' =
    clash (λ (is : kind ≡ other). absurd (let h : Some op ≡ None = has ∙ ap unary_operator is ∙ none in cc)) t q t'

same_operator : (kind other : Kind) (op o : UnaryOperator) → Some op ≡ unary_operator kind → Some o ≡ unary_operator other → kind ≡ other → op ≡ o
same_operator kind other op o has has' q = let h : Some op ≡ Some o = has ∙ ap unary_operator q ∙ sym has' in cc

number_only : {y : Expr} {s s' r u : List Token} {t : Token} → Takes k.Number s r t → s ≡ s' → Spells (AnOperand y) s' u
    → (e.Number t.at (number_of t) ≡ y) × (r ≡ u)
number_only t q (number t') = (ap (λ (v : Token). e.Number v.at (number_of v)) (one_token t q t'), one_rest t q t')
number_only t q (unary has t' h) = absurd (unary_clash has refl t' (sym q) t)
number_only t q (read t' h) = absurd (clash (λ is. cc) t q t')
number_only t q (bracketed t' h v) = absurd (clash (λ is. cc) t q t')
number_only t q (braced t' h b) = absurd (clash (λ is. cc) t q t')

unary_only : {op : UnaryOperator} {x y : Expr} {s s' a r u : List Token} {kind : Kind} {t : Token} → Some op ≡ unary_operator kind
    → Takes kind s a t → IsOnlyOperand x a r → s ≡ s' → Spells (AnOperand y) s' u → (e.Unary t.at op x ≡ y) × (r ≡ u)
unary_only has t h q (number t') = absurd (unary_clash has refl t q t')
unary_only {op = op} {x = x} {kind = kind} {t = t} has took h q (unary {op = o} {x = z} {kind = other} {t = t'} has' took' h') =
    let i = h _ _ _ (one_rest took q took') h' in
    let j = same_operator kind other op o has has' (sym (kind_of took) ∙ ap next q ∙ kind_of took') in
    (ap₃ (λ (v : Token) (b : UnaryOperator) (w : Expr). e.Unary v.at b w) (one_token took q took') j i.0, i.1)
unary_only has t h q (read t' h') = absurd (unary_clash has refl t q t')
unary_only has t h q (bracketed t' h' v) = absurd (unary_clash has refl t q t')
unary_only has t h q (braced t' h' b) = absurd (unary_clash has refl t q t')

read_only : {x : Reference} {y : Expr} {s s' a r u : List Token} {t : Token} → Takes k.Word s a t → OneSelect (identifier_of t) x a r
    → s ≡ s' → Spells (AnOperand y) s' u → (e.Read x ≡ y) × (r ≡ u)
read_only t h q (number t') = absurd (clash (λ is. cc) t q t')
read_only t h q (unary has t' h') = absurd (unary_clash has refl t' (sym q) t)
read_only t h q (read t' h') =
    let i = h _ _ _ _ (ap identifier_of (one_token t q t')) (one_rest t q t') h' in (ap (λ (z : Reference). e.Read z) i.0, i.1)
read_only t h q (bracketed t' h' v) = absurd (clash (λ is. cc) t q t')
read_only t h q (braced t' h' b) = absurd (clash (λ is. cc) t q t')

bracketed_only : {x y : Expr} {s s' a b r u : List Token} {t v : Token} → Takes k.LeftParen s a t → OneExpression x a b
    → Takes k.RightParen b r v → s ≡ s' → Spells (AnOperand y) s' u → (e.Bracketed t.at x ≡ y) × (r ≡ u)
bracketed_only t h v q (number t') = absurd (clash (λ is. cc) t q t')
bracketed_only t h v q (unary has t' h') = absurd (unary_clash has refl t' (sym q) t)
bracketed_only t h v q (read t' h') = absurd (clash (λ is. cc) t q t')
bracketed_only t h v q (bracketed t' h' v') =
    let i = h _ _ _ (one_rest t q t') h' in
    (same_two (λ (w : Token) (z : Expr). e.Bracketed w.at z) _ _ _ _ (one_token t q t') i.0, one_rest v i.1 v')
bracketed_only t h v q (braced t' h' b) = absurd (clash (λ is. cc) t q t')

braced_only : {x y z : Expr} {s s' a b r u : List Token} {t : Token} → Takes k.LeftBrace s a t → OneExpression x a b → OneBraced t.at x y b r
    → s ≡ s' → Spells (AnOperand z) s' u → (y ≡ z) × (r ≡ u)
braced_only t h b q (number t') = absurd (clash (λ is. cc) t q t')
braced_only t h b q (unary has t' h') = absurd (unary_clash has refl t' (sym q) t)
braced_only t h b q (read t' h') = absurd (clash (λ is. cc) t q t')
braced_only t h b q (bracketed t' h' v) = absurd (clash (λ is. cc) t q t')
braced_only t h b q (braced t' h' b') =
    let i = h _ _ _ (one_rest t q t') h' in b _ _ _ _ _ (ap (λ (w : Token). w.at) (one_token t q t')) i.0 i.1 b'

-- ---- in braces

concatenation_only : {at at' : Place} {x y w : Expr} {all : List Expr} {s s' a r u : List Token} {t : Token} → next s ≢ k.LeftBrace
    → OneBehind x all s a → Takes k.RightBrace a r t
    → at ≡ at' → x ≡ y → s ≡ s' → Spells (ABraced at' y w) s' u → (e.Concatenation at all ≡ w) × (r ≡ u)
concatenation_only free h t i j q (concatenation free' h' t') =
    let o = h _ _ _ _ j q h' in (same_two (λ (v : Place) (l : List Expr). e.Concatenation v l) _ _ _ _ i o.0, one_rest t o.1 t')
concatenation_only free h t i j q (replication t' x b u v) = absurd (free (ap next q ∙ kind_of t'))

replication_only : {at at' : Place} {x y z w : Expr} {all : List Expr} {s s' a b c d r f : List Token} {t u v : Token}
    → Takes k.LeftBrace s a t → OneExpression y a b → OneBehind y all b c → Takes k.RightBrace c d u → Takes k.RightBrace d r v
    → at ≡ at' → x ≡ z → s ≡ s' → Spells (ABraced at' z w) s' f → (e.Replication at x all ≡ w) × (r ≡ f)
replication_only t y b u v i j q (concatenation free h t') = absurd (free (sym (ap next q) ∙ kind_of t))
replication_only t y b u v i j q (replication t' y' b' u' v') =
    let m = y _ _ _ (one_rest t q t') y' in
    let n = b _ _ _ _ m.0 m.1 b' in
    (ap₃ (λ (p : Place) (c : Expr) (l : List Expr). e.Replication p c l) i j n.0, one_rest v (one_rest u n.1 u') v')

behind_only : {x y : Expr} {xs ys : List Expr} {s s' r t : List Token} → OneOthers xs s r → x ≡ y → s ≡ s' → Spells (Behind y ys) s' t
    → (x ∷ xs ≡ ys) × (r ≡ t)
behind_only h i q (behind h') = let o = h _ _ _ q h' in (same_two (λ (z : Expr) (l : List Expr). z ∷ l) _ _ _ _ i o.0, o.1)

no_other_only : {ys : List Expr} {s s' t : List Token} → next s ≢ k.Comma → s ≡ s' → Spells (Others ys) s' t → ([] ≡ ys) × (s ≡ t)
no_other_only free q (no_other free') = (refl, q)
no_other_only free q (another t h r) = absurd (free (ap next q ∙ kind_of t))

another_only : {x : Expr} {xs ys : List Expr} {s s' a b r u : List Token} {t : Token} → Takes k.Comma s a t → OneExpression x a b
    → OneOthers xs b r → s ≡ s' → Spells (Others ys) s' u → (x ∷ xs ≡ ys) × (r ≡ u)
another_only t h r q (no_other free) = absurd (free (sym (ap next q) ∙ kind_of t))
another_only t h r q (another t' h' r') =
    let i = h _ _ _ (one_rest t q t') h' in
    let o = r _ _ _ i.1 r' in
    (same_two (λ (z : Expr) (l : List Expr). z ∷ l) _ _ _ _ i.0 o.0, o.1)

-- ---- selects

whole_only : {n m : Identifier} {y : Reference} {s s' t : List Token} → next s ≢ k.LeftBracket → n ≡ m → s ≡ s' → Spells (ASelect m y) s' t
    → (ref.Whole n ≡ y) × (s ≡ t)
whole_only free i q (whole free' dot) = (ap (λ (z : Identifier). ref.Whole z) i, q)
whole_only free i q (select t h p u dot) = absurd (free (ap next q ∙ kind_of t))

select_only : {n m : Identifier} {x : Expr} {y z : Reference} {s s' a b c r f : List Token} {t u : Token} → Takes k.LeftBracket s a t
    → OneExpression x a b → OnePart n x y b c → Takes k.RightBracket c r u
    → n ≡ m → s ≡ s' → Spells (ASelect m z) s' f → (y ≡ z) × (r ≡ f)
select_only t h p u i q (whole free dot) = absurd (free (sym (ap next q) ∙ kind_of t))
select_only t h p u i q (select t' h' p' u' dot) =
    let m = h _ _ _ (one_rest t q t') h' in
    let n = p _ _ _ _ _ i m.0 m.1 p' in
    (n.0, one_rest u n.1 u')

bit_only : {n m : Identifier} {x y : Expr} {w : Reference} {s s' t : List Token} → next s ≢ k.Colon → next s ≢ k.PlusColon
    → next s ≢ k.MinusColon → n ≡ m → x ≡ y → s ≡ s' → Spells (APart m y w) s' t → (ref.Bit n x ≡ w) × (s ≡ t)
bit_only a b c i j q (bit d f g) = (same_two (λ (v : Identifier) (z : Expr). ref.Bit v z) _ _ _ _ i j, q)
bit_only a b c i j q (part t h) = absurd (a (ap next q ∙ kind_of t))
bit_only a b c i j q (upward t h) = absurd (b (ap next q ∙ kind_of t))
bit_only a b c i j q (downward t h) = absurd (c (ap next q ∙ kind_of t))

part_only : {n m : Identifier} {x y z : Expr} {w : Reference} {s s' a r u : List Token} {t : Token} → Takes k.Colon s a t
    → OneExpression y a r → n ≡ m → x ≡ z → s ≡ s' → Spells (APart m z w) s' u → (ref.Part n x y ≡ w) × (r ≡ u)
part_only t h i j q (bit a b c) = absurd (a (sym (ap next q) ∙ kind_of t))
part_only t h i j q (part t' h') =
    let o = h _ _ _ (one_rest t q t') h' in (ap₃ (λ (v : Identifier) (c d : Expr). ref.Part v c d) i j o.0, o.1)
part_only t h i j q (upward t' h') = absurd (clash (λ is. cc) t q t')
part_only t h i j q (downward t' h') = absurd (clash (λ is. cc) t q t')

upward_only : {n m : Identifier} {x y z : Expr} {w : Reference} {s s' a r u : List Token} {t : Token} → Takes k.PlusColon s a t
    → OneExpression y a r → n ≡ m → x ≡ z → s ≡ s' → Spells (APart m z w) s' u → (ref.Upward n x y ≡ w) × (r ≡ u)
upward_only t h i j q (bit a b c) = absurd (b (sym (ap next q) ∙ kind_of t))
upward_only t h i j q (part t' h') = absurd (clash (λ is. cc) t q t')
upward_only t h i j q (upward t' h') =
    let o = h _ _ _ (one_rest t q t') h' in (ap₃ (λ (v : Identifier) (c d : Expr). ref.Upward v c d) i j o.0, o.1)
upward_only t h i j q (downward t' h') = absurd (clash (λ is. cc) t q t')

downward_only : {n m : Identifier} {x y z : Expr} {w : Reference} {s s' a r u : List Token} {t : Token} → Takes k.MinusColon s a t
    → OneExpression y a r → n ≡ m → x ≡ z → s ≡ s' → Spells (APart m z w) s' u
    → (ref.Downward n x y ≡ w) × (r ≡ u)
downward_only t h i j q (bit a b c) = absurd (c (sym (ap next q) ∙ kind_of t))
downward_only t h i j q (part t' h') = absurd (clash (λ is. cc) t q t')
downward_only t h i j q (upward t' h') = absurd (clash (λ is. cc) t q t')
downward_only t h i j q (downward t' h') =
    let o = h _ _ _ (one_rest t q t') h' in (ap₃ (λ (v : Identifier) (c d : Expr). ref.Downward v c d) i j o.0, o.1)

same_range : (x y z w : Expr) → x ≡ z → y ≡ w → let a : Range = record { high = x; low = y } in a ≡ record { high = z; low = w }
same_range x y z w i j = cc

range_only : {x y : Expr} {z : Range} {s s' a b c d r f : List Token} {t u v : Token} → Takes k.LeftBracket s a t → OneExpression x a b
    → Takes k.Colon b c u → OneExpression y c d → Takes k.RightBracket d r v
    → s ≡ s' → Spells (ARange z) s' f → (record { high = x; low = y } ≡ z) × (r ≡ f)
range_only t x u y v q (range t' x' u' y' v') =
    let m = x _ _ _ (one_rest t q t') x' in
    let n = y _ _ _ (one_rest u m.1 u') y' in
    (same_range _ _ _ _ m.0 n.0, one_rest v n.1 v')

-- ---- each rule

-- Each rule of a second reading either is the same rule at the same tokens, or its first token is of another kind.
pub is_only : {p : Phrase} {s r : List Token} → Spells p s r → IsOnly p s r
is_only (plain h free other) = λ y s' t q g. plain_only (is_only h) free other q g
is_only (conditional h t x c y) = λ z s' u q g. conditional_only (is_only h) t (is_only x) c (is_only y) q g
is_only (one h) = flat_one (is_only h)
is_only (binary le l has t r) = flat_binary le (is_only l) has t (is_only r)
is_only (number t) = λ y s' u q g. number_only t q g
is_only (unary has t h) = λ y s' u q g. unary_only has t (is_only h) q g
is_only (read t h) = λ y s' u q g. read_only t (is_only h) q g
is_only (bracketed t h v) = λ y s' u q g. bracketed_only t (is_only h) v q g
is_only (braced t h b) = λ y s' u q g. braced_only t (is_only h) (is_only b) q g
is_only (concatenation free h t) = λ at y w s' u i j q g. concatenation_only free (is_only h) t i j q g
is_only (replication t h b u v) = λ at y w s' f i j q g. replication_only t (is_only h) (is_only b) u v i j q g
is_only (behind h) = λ y ys s' t i q g. behind_only (is_only h) i q g
is_only (no_other free) = λ ys s' t q g. no_other_only free q g
is_only (another t h r) = λ ys s' u q g. another_only t (is_only h) (is_only r) q g
is_only (whole free dot) = λ m y s' t i q g. whole_only free i q g
is_only (select t h p u dot) = λ m y s' f i q g. select_only t (is_only h) (is_only p) u i q g
is_only (bit a b c) = λ m y w s' t i j q g. bit_only a b c i j q g
is_only (part t h) = λ m y w s' u i j q g. part_only t (is_only h) i j q g
is_only (upward t h) = λ m y w s' u i j q g. upward_only t (is_only h) i j q g
is_only (downward t h) = λ m y w s' u i j q g. downward_only t (is_only h) i j q g
is_only (range t x c y v) = λ z s' f q g. range_only t (is_only x) c (is_only y) v q g

-- ---- in the words of the definition

pub one_expression : (x y : Expr) (s r t : List Token) → Spells (AnExpression x) s r → Spells (AnExpression y) s t → (x ≡ y) × (r ≡ t)
one_expression x y s r t h g = is_only h y s t refl g

pub one_select : (n : Identifier) (x y : Reference) (s r t : List Token) → Spells (ASelect n x) s r → Spells (ASelect n y) s t → (x ≡ y) × (r ≡ t)
one_select n x y s r t h g = is_only h n y s t refl refl g

pub one_range : (x y : Range) (s r t : List Token) → Spells (ARange x) s r → Spells (ARange y) s t → (x ≡ y) × (r ≡ t)
one_range x y s r t h g = is_only h y s t refl g
