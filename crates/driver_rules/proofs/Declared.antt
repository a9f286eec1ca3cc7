-- The signal that is declared first.
use Rattle.std.proofs.Common.{◌≡◌, ◌<◌, ◌≤◌, ◌+◌, ◌==◌, ◌&&◌, ◌||◌, ◌⊎◌, inl, inr, ℕ, zero, suc, Bool, true, false, cond, not, nat_le, nat_lt, List, [], ◌∷◌, take, length, get_or, Option, Some, None, All, refl, sym, ◌∙◌, ap, ap₂, subst, arith, true≢false}
use Rattle.std.proofs.Math.Bool.{or-false, or-true, and-false}
use Rattle.std.proofs.lemmas.Bool.{eqb-true, eqb-false, eq-eqb, ne_eqb, lt-ltb, le-ltb, ltb-true, ltb-false, le-leb, leb-true, and_from}
use Rattle.typed_ir.specs.declared.span.Span.{Span}
use Rattle.typed_ir.specs.Valuations.{within, any_within, nowhere}
use Rattle.typed_ir.specs.Orders.{Each, is_member}
use Rattle.typed_ir.specs.Stmts.{SizedStmt, targets, known_after}
use Rattle.typed_ir.proofs.Cases.{by_cases, left_or, right_or, only_right, and_left, and_right, by_order}
use Rattle.typed_ir.proofs.Lists.{take_next}
use Rattle.typed_ir.specs.declared.signal_declaration.SignalDeclaration.{SignalDeclaration}
use Rattle.block_rules.specs.Paths.{unwritten, AreHere}
use Rattle.block_rules.proofs.Finding.{none_some, found_push}
use Rattle.driver_rules.specs.Writes.{AreWithin}
use Rattle.driver_rules.specs.Blocks.{order_at, comes_before, nearer, first_declared}

-- ---- the order

abbrev Lex : List SignalDeclaration → ℕ → ℕ → Type 0
Lex ds s t = (order_at ds s < order_at ds t) ⊎ ((order_at ds s ≡ order_at ds t) × (s ≤ t))

to_lex : (ds : List SignalDeclaration) (s t : ℕ) → comes_before ds s t ≡ true → Lex ds s t
to_lex ds s t h = by_cases (nat_lt (order_at ds s) (order_at ds t))
    (λ yes. inl (ltb-true (order_at ds s) (order_at ds t) yes))
    (λ out. let both : ((order_at ds s == order_at ds t) && nat_le s t) ≡ true =
    only_right (nat_lt (order_at ds s) (order_at ds t)) ((order_at ds s == order_at ds t) && nat_le s t) out h in
    inr (
      eqb-true (order_at ds s) (order_at ds t) (and_left (order_at ds s == order_at ds t) (nat_le s t) both),
      leb-true s t (and_right (order_at ds s == order_at ds t) (nat_le s t) both),
    ))

of_lex : (ds : List SignalDeclaration) (s t : ℕ) → Lex ds s t → comes_before ds s t ≡ true
of_lex ds s t (inl h) = left_or (nat_lt (order_at ds s) (order_at ds t)) ((order_at ds s == order_at ds t) && nat_le s t) (lt-ltb (order_at ds s) (order_at ds t) h)
of_lex ds s t (inr h) = right_or (nat_lt (order_at ds s) (order_at ds t)) ((order_at ds s == order_at ds t) && nat_le s t)
    (and_from (order_at ds s == order_at ds t) (nat_le s t) (eq-eqb (order_at ds s) (order_at ds t) h.0) (le-leb s t h.1))

same_lex : (ds : List SignalDeclaration) (s : ℕ) → comes_before ds s s ≡ true
same_lex ds s = of_lex ds s s (inr (refl, omega arith))

other_lex : (ds : List SignalDeclaration) (s t : ℕ) → comes_before ds s t ≡ false → comes_before ds t s ≡ true
other_lex ds s t out = by_order (order_at ds t) (order_at ds s)
    (λ h. of_lex ds t s (inl h))
    (λ h. by_order (order_at ds s) (order_at ds t)
    (λ k. absurd (true≢false (sym (of_lex ds s t (inl k)) ∙ out)))
    (λ k. by_order t s
    (λ l. of_lex ds t s (inr (omega (arith, h, k), omega (arith, l))))
    (λ l. absurd (true≢false (sym (of_lex ds s t (inr (omega (arith, h, k), l))) ∙ out)))))

lex_trans : (ds : List SignalDeclaration) (s t u : ℕ) → Lex ds s t → Lex ds t u → Lex ds s u
lex_trans ds s t u (inl h) (inl k) = inl (omega (arith, h, k))
lex_trans ds s t u (inl h) (inr k) = inl (let e : order_at ds t ≡ order_at ds u = k.0 in omega (arith, h, e))
lex_trans ds s t u (inr h) (inl k) = inl (let e : order_at ds s ≡ order_at ds t = h.0 in omega (arith, k, e))
lex_trans ds s t u (inr h) (inr k) = inr (h.0 ∙ k.0, (let a : s ≤ t = h.1 in let b : t ≤ u = k.1 in omega (arith, a, b)))

lex_same : (ds : List SignalDeclaration) (s t : ℕ) → Lex ds s t → Lex ds t s → s ≡ t
lex_same ds s t (inl h) (inl k) = omega (arith, h, k)
lex_same ds s t (inl h) (inr k) = let e : order_at ds t ≡ order_at ds s = k.0 in omega (arith, h, e)
lex_same ds s t (inr h) (inl k) = let e : order_at ds s ≡ order_at ds t = h.0 in omega (arith, k, e)
lex_same ds s t (inr h) (inr k) = let a : s ≤ t = h.1 in let b : t ≤ s = k.1 in omega (arith, a, b)

-- ---- the first of those that pass a test

abbrev pub IsBest : List SignalDeclaration → (ℕ → Bool) → Option ℕ → Type 0
IsBest ds f None = (t : ℕ) → f t ≡ false
IsBest ds f (Some s) = (f s ≡ true) × ((t : ℕ) → f t ≡ true → comes_before ds s t ≡ true)

pub best_same : (ds : List SignalDeclaration) (f g : ℕ → Bool) (r : Option ℕ) → ((t : ℕ) → f t ≡ g t) → IsBest ds f r → IsBest ds g r
best_same ds f g None e h = λ t. sym (e t) ∙ h t
best_same ds f g (Some s) e h = (sym (e s) ∙ h.0, λ t is. h.1 t (e t ∙ is))

-- one more
pub best_next : (ds : List SignalDeclaration) (f : ℕ → Bool) (r : Option ℕ) (x : ℕ) → IsBest ds f r → IsBest ds (λ t. f t || (t == x)) (Some (nearer ds r x))
best_next ds f None x h = (
  right_or (f x) (x == x) (eq-eqb x x refl),
  λ t is. let e : t ≡ x = eqb-true t x (only_right (f t) (t == x) (h t) is) in
      ap (comes_before ds x) e ∙ same_lex ds x,
)
best_next ds f (Some s) x h = by_cases (comes_before ds s x)
    (λ first. subst (λ (n : ℕ). IsBest ds (λ t. f t || (t == x)) (Some n)) (sym (ap (λ (b : Bool). cond b s x) first)) (
      left_or (f s) (s == x) h.0,
      λ t is. by_cases (f t) (λ yes. h.1 t yes)
          (λ out. let e : t ≡ x = eqb-true t x (only_right (f t) (t == x) out is) in ap (comes_before ds s) e ∙ first),
    ))
    (λ later. subst (λ (n : ℕ). IsBest ds (λ t. f t || (t == x)) (Some n)) (sym (ap (λ (b : Bool). cond b s x) later)) (
      right_or (f x) (x == x) (eq-eqb x x refl),
      λ t is. by_cases (f t)
          (λ yes. of_lex ds x t (lex_trans ds x s t (to_lex ds x s (other_lex ds s x later)) (to_lex ds s t (h.1 t yes))))
          (λ out. let e : t ≡ x = eqb-true t x (only_right (f t) (t == x) out is) in ap (comes_before ds x) e ∙ same_lex ds x),
    ))

-- there is one answer
pub best_is : (ds : List SignalDeclaration) (f : ℕ → Bool) (r q : Option ℕ) → IsBest ds f r → IsBest ds f q → r ≡ q
best_is ds f None None h k = refl
best_is ds f None (Some t) h k = absurd (true≢false (sym k.0 ∙ h t))
best_is ds f (Some s) None h k = absurd (true≢false (sym h.0 ∙ k s))
best_is ds f (Some s) (Some t) h k = ap Some (lex_same ds s t (to_lex ds s t (h.1 t k.0)) (to_lex ds t s (k.1 s h.0)))

-- the definition's
pub declared_best : (ds : List SignalDeclaration) (f : ℕ → Bool) (n : ℕ) → IsBest ds (λ t. nat_lt t n && f t) (first_declared ds f n)
declared_best ds f zero = λ t. ap (λ b. b && f t) (le-ltb t 0 (omega arith))
declared_best ds f (suc n) = by_cases (f n)
    (λ yes. subst (IsBest ds (λ t. nat_lt t (suc n) && f t)) (sym (ap (λ b. cond b (Some (nearer ds (first_declared ds f n) n)) (first_declared ds f n)) yes))
    (best_same ds (λ t. (nat_lt t n && f t) || (t == n)) (λ t. nat_lt t (suc n) && f t) (Some (nearer ds (first_declared ds f n) n))
    (with_it yes) (best_next ds (λ t. nat_lt t n && f t) (first_declared ds f n) n (declared_best ds f n))))
    (λ out. subst (IsBest ds (λ t. nat_lt t (suc n) && f t)) (sym (ap (λ b. cond b (Some (nearer ds (first_declared ds f n) n)) (first_declared ds f n)) out))
    (best_same ds (λ t. nat_lt t n && f t) (λ t. nat_lt t (suc n) && f t) (first_declared ds f n) (without out) (declared_best ds f n)))
  where
    steps : (t : ℕ) → (t ≡ n → ⊥) → nat_lt t n ≡ nat_lt t (suc n)
    steps t other = by_order t n
        (λ h. lt-ltb t n h ∙ sym (lt-ltb t (suc n) (omega (arith, h))))
        (λ h. le-ltb t n h ∙ sym (le-ltb t (suc n) (omega (arith, h, other))))

    with_it : f n ≡ true → (t : ℕ) → ((nat_lt t n && f t) || (t == n)) ≡ (nat_lt t (suc n) && f t)
    with_it is_so t = by_cases (t == n)
        (λ e. let is : t ≡ n = eqb-true t n e in
        ap (λ b. (nat_lt t n && f t) || b) e ∙ or-true (nat_lt t n && f t)
        ∙ sym (ap₂ (λ a b. a && b) (lt-ltb t (suc n) (omega (arith, is))) (ap f is ∙ is_so)))
        (λ e. ap (λ b. (nat_lt t n && f t) || b) e ∙ or-false (nat_lt t n && f t) ∙ ap (λ b. b && f t) (steps t (eqb-false t n e)))

    without : f n ≡ false → (t : ℕ) → (nat_lt t n && f t) ≡ (nat_lt t (suc n) && f t)
    without out t = by_cases (t == n)
        (λ e. let is : t ≡ n = eqb-true t n e in
        ap (λ b. b && f t) (le-ltb t n (omega (arith, is))) ∙ sym (ap (λ b. nat_lt t (suc n) && b) (ap f is ∙ out)
        ∙ ap (λ b. b && false) (lt-ltb t (suc n) (omega (arith, is)))))
        (λ e. ap (λ b. b && f t) (steps t (eqb-false t n e)))

pub first_same : (ds : List SignalDeclaration) (f g : ℕ → Bool) (n : ℕ) → ((t : ℕ) → f t ≡ g t) → first_declared ds f n ≡ first_declared ds g n
first_same ds f g zero h = refl
first_same ds f g (suc n) h =
    ap₂ (λ b r. cond b (Some (nearer ds r n)) r) (h n) (first_same ds f g n h)

-- ---- a list of signals

pub listed_next : (ds : List SignalDeclaration) (xs : List ℕ) (k : ℕ) (x : ℕ) (r : Option ℕ) → k < length xs → x ≡ get_or xs k x
    → IsBest ds (λ t. is_member t (take k xs)) r → IsBest ds (λ t. is_member t (take (k + 1) xs)) (Some (nearer ds r x))
listed_next ds xs k x r h is best =
    best_same ds (λ t. is_member t (take k xs) || (t == x)) (λ t. is_member t (take (k + 1) xs)) (Some (nearer ds r x))
    (λ t. sym (ap (is_member t) (take_next xs k x h is) ∙ found_push t x (take k xs)))
    (best_next ds (λ t. is_member t (take k xs)) r x best)

pub listed_all : (ds : List SignalDeclaration) (xs : List ℕ) (r : Option ℕ) → ((s : ℕ) → is_member s xs ≡ true → s < length ds)
    → IsBest ds (λ t. is_member t xs) r → r ≡ first_declared ds (λ s. is_member s xs) (length ds)
listed_all ds xs r inside best =
    best_is ds (λ t. is_member t xs) r (first_declared ds (λ s. is_member s xs) (length ds)) best
    (best_same ds (λ t. nat_lt t (length ds) && is_member t xs) (λ t. is_member t xs) (first_declared ds (λ s. is_member s xs) (length ds))
    only (declared_best ds (λ s. is_member s xs) (length ds)))
  where
    only : (t : ℕ) → (nat_lt t (length ds) && is_member t xs) ≡ is_member t xs
    only t = by_cases (is_member t xs)
        (λ yes. ap (λ b. b && is_member t xs) (lt-ltb t (length ds) (inside t yes)))
        (λ out. ap (λ b. nat_lt t (length ds) && b) out ∙ and-false (nat_lt t (length ds)) ∙ sym out)

-- ---- what a block leaves open is a signal of its targets

all_each : {A : Type 0} (P : A → Type 0) (xs : List A) → All P xs → Each P xs
all_each P [] h = tt
all_each P (x ∷ xs) h = (h zero x (omega arith), all_each P xs (λ k d l. h (suc k) d (omega (arith, l))))

pub each_all : {A : Type 0} (P : A → Type 0) (xs : List A) → Each P xs → All P xs
each_all P [] h = λ k d l. absurd (omega (arith, l))
each_all {A} P (x ∷ xs) h = go (each_all P xs h.1)
  where
    go : All P xs → (k : ℕ) (d : A) → k < length (x ∷ xs) → P (get_or (x ∷ xs) k d)
    go rest zero d l = h.0
    go rest (suc k) d l = rest k d (omega (arith, l))

pub past_none : (count s i : ℕ) (spans : List Span) → Each (λ (p : Span). p.signal < count) spans → count ≤ s → any_within spans s i ≡ false
past_none count s i [] all h = refl
past_none count s i (p ∷ ps) all h =
    ap₂ (λ a b. (a && (nat_le p.low i && nat_lt i (p.low + p.width))) || b)
    (ne_eqb s p.signal (λ e. let low : p.signal < count = all.0 in omega (arith, low, e, h))) (past_none count s i ps all.1 h)

pub unwritten_here : (count : ℕ) (st : SizedStmt) (s : ℕ) → AreHere count st → unwritten st s ≡ true → s < count
unwritten_here count st s here h = by_order s count (λ k. k)
    (λ past. absurd (true≢false (sym h ∙ none_some 128 (λ i. any_within (targets st) s i && not (known_after st nowhere s i))
    (λ i small. ap (λ b. b && not (known_after st nowhere s i))
    (past_none count s i (targets st) (all_each (λ (p : Span). p.signal < count) (targets st) here) past)))))
