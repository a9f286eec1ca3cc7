-- Stretches of bytes, and what counts them.
use Rattle.std.proofs.Common.{◌≡◌, ℕ, suc, ◌+◌, ◌-◌, ◌<◌, ◌≤◌, ◌==◌, ◌&&◌, ◌||◌, ◌⊎◌, inl, inr, Bool, true, false, cond, List, [], ◌∷◌, ◌++◌, length, take, drop, Option, Some, None, refl, sym, ap, subst, ◌∙◌, arith, true≢false}
use Rattle.std.proofs.Math.Bool.{and-false}
use Rattle.std.specs.Prelude.{slice_index}
use Rattle.std.specs.List.{prefix_len}
use Rattle.std.proofs.lemmas.Bool.{eqb-true, and_parts}
use Rattle.std.proofs.lemmas.Option.{none-some}
use Rattle.ls_text.specs.Bytes.{is_letter, is_digit, is_word_byte, through_pair}
use Rattle.ls_text.proofs.Lists.{none_is_some, first_of}
use Rattle.verilog_pre.specs.Bodies.{begins_cut}
use Rattle.verilog_pre.specs.Heads.{plain_len}
use Rattle.verilog_pre.specs.Shapes.{HasNo, BeginsWith, AllAre, StopsAt, ends_comment, IsWord}

-- ---- bytes of a class

pub front_all : (p : ℕ → Bool) (xs : List ℕ) → AllAre p (take (prefix_len p xs) xs)
front_all p [] = tt
front_all p (x ∷ xs) = at (p x) refl (front_all p xs)
  where
    at : (t : Bool) → p x ≡ t → AllAre p (take (prefix_len p xs) xs) → AllAre p (take (cond t (1 + prefix_len p xs) 0) (x ∷ xs))
    at true e more = subst (λ n. AllAre p (take n (x ∷ xs))) (let same : suc (prefix_len p xs) ≡ 1 + prefix_len p xs = omega arith in same) (e, more)
    at false e more = tt

pub front_stops : (p : ℕ → Bool) (xs : List ℕ) → StopsAt p (drop (prefix_len p xs) xs)
front_stops p [] = tt
front_stops p (x ∷ xs) = at (p x) refl (front_stops p xs)
  where
    at : (t : Bool) → p x ≡ t → StopsAt p (drop (prefix_len p xs) xs) → StopsAt p (drop (cond t (1 + prefix_len p xs) 0) (x ∷ xs))
    at true e more = subst (λ n. StopsAt p (drop n (x ∷ xs))) (let same : suc (prefix_len p xs) ≡ 1 + prefix_len p xs = omega arith in same) more
    at false e more = e

-- the word at the front of a text that begins with a letter
pub leading_word : (text : List ℕ) → is_letter (slice_index text 0) ≡ true
    → IsWord (take (prefix_len is_word_byte text) text) (drop (prefix_len is_word_byte text) text)
leading_word text letter = record { begins = begins text letter; all = front_all is_word_byte text; ends = front_stops is_word_byte text }
  where
    begins : (xs : List ℕ) → is_letter (slice_index xs 0) ≡ true → is_letter (slice_index (take (prefix_len is_word_byte xs) xs) 0) ≡ true
    begins [] letter = absurd (true≢false (sym letter))
    begins (b ∷ bs) letter =
        let all : is_word_byte b ≡ true = ap (λ t. t || (is_digit b || (b == 36))) letter in
        let more : suc (prefix_len is_word_byte bs) ≡ 1 + prefix_len is_word_byte bs = omega arith in
        let count : suc (prefix_len is_word_byte bs) ≡ prefix_len is_word_byte (b ∷ bs) =
        more ∙ sym (ap (λ t. cond t (1 + prefix_len is_word_byte bs) 0) all) in
        subst (λ k. is_letter (slice_index (take k (b ∷ bs)) 0) ≡ true) count letter

pub front_is : (p : ℕ → Bool) (xs ys : List ℕ) → AllAre p xs → StopsAt p ys → prefix_len p (xs ++ ys) ≡ length xs
front_is p [] [] all stops = refl
front_is p [] (y ∷ ys) all stops = ap (λ t. cond t (1 + prefix_len p ys) 0) stops
front_is p (x ∷ xs) ys all stops =
    ap (λ t. cond t (1 + prefix_len p (xs ++ ys)) 0) all.0
    ∙ (let more : prefix_len p (xs ++ ys) ≡ length xs = front_is p xs ys all.1 stops in
    let same : 1 + prefix_len p (xs ++ ys) ≡ length (x ∷ xs) = omega (arith, more) in same)

-- ---- comments

pub unclosed : (a n : ℕ) (bs : List ℕ) → through_pair 42 47 (a == 42) n bs ≡ None → HasNo ends_comment (a ∷ bs)
unclosed a n [] none = tt
unclosed a n (b ∷ bs) none = at ((a == 42) && (b == 47)) refl none (unclosed b (n + 1) bs)
  where
    at : (t : Bool) → ((a == 42) && (b == 47)) ≡ t → cond t (Some (n + 1)) (through_pair 42 47 (b == 42) (n + 1) bs) ≡ None
        → (through_pair 42 47 (b == 42) (n + 1) bs ≡ None → HasNo ends_comment (b ∷ bs)) → HasNo ends_comment (a ∷ b ∷ bs)
    at true e h more = absurd (none-some (n + 1) (sym h))
    at false e h more = (e, more h)

pub unclosed_is : (a n : ℕ) (bs : List ℕ) → HasNo ends_comment (a ∷ bs) → through_pair 42 47 (a == 42) n bs ≡ None
unclosed_is a n [] has = refl
unclosed_is a n (b ∷ bs) has = ap (λ t. cond t (Some (n + 1)) (through_pair 42 47 (b == 42) (n + 1) bs)) has.0 ∙ unclosed_is b (n + 1) bs has.1

-- up to the first pair, with the byte before the text
pub record Closed (text : List ℕ) (n m : ℕ) : Type 0 where
  pub inside : List ℕ
  pub rest : List ℕ
  pub is : text ≡ inside ++ 42 ∷ 47 ∷ rest
  pub count : m ≡ n + length inside + 1
  pub first : HasNo ends_comment (inside ++ 42 ∷ [])

pub zero_no_star : (x y : ℕ) → x ≡ 0 → y ≡ 42 → x ≡ y → ⊥
zero_no_star x y e f g = absurd (omega (arith, e, f, g))

abbrev pub value_of : Option ℕ → ℕ
value_of None = 0
value_of (Some n) = n

with_first : (a b : ℕ) (bs inside rest : List ℕ) → ends_comment a b ≡ false → (b ∷ bs) ≡ inside ++ 42 ∷ 47 ∷ rest → HasNo ends_comment (inside ++ 42 ∷ [])
    → HasNo ends_comment (a ∷ (inside ++ 42 ∷ []))
with_first a b bs [] rest e is has = (and-false (a == 42), tt)
with_first a b bs (x ∷ xs) rest e is has = (ap (λ y. ends_comment a y) (sym (ap first_of is)) ∙ e, has)

closes_later : (a b n m : ℕ) (bs : List ℕ) → ends_comment a b ≡ false → Closed (b ∷ bs) (n + 1) m → Closed (a ∷ b ∷ bs) n m
closes_later a b n m bs e c = record {
  inside = a ∷ c.inside;
  rest = c.rest;
  is = ap (λ xs. a ∷ xs) c.is;
  count = (let counted : m ≡ n + 1 + length c.inside + 1 = c.count in omega (arith, counted));
  first = with_first a b bs c.inside c.rest e c.is c.first;
}

closes_here : (a b n m : ℕ) (bs : List ℕ) → ((a == 42) && (b == 47)) ≡ true → Some (n + 1) ≡ Some m → Closed (a ∷ b ∷ bs) n m
closes_here a b n m bs e h =
    let both : ((a == 42) ≡ true) × ((b == 47) ≡ true) = and_parts (a == 42) (b == 47) e in
    let here : n + 1 ≡ m = ap value_of h in
    record {
      inside = [];
      rest = bs;
      is = ap (λ x. x ∷ b ∷ bs) (eqb-true a 42 both.0) ∙ ap (λ y. 42 ∷ y ∷ bs) (eqb-true b 47 both.1);
      count = omega (arith, here);
      first = tt;
    }

pub closes : (a n m : ℕ) (bs : List ℕ) → through_pair 42 47 (a == 42) n bs ≡ Some m → Closed (a ∷ bs) n m
closes a n m [] some = absurd (none-some m some)
closes a n m (b ∷ bs) some = at ((a == 42) && (b == 47)) refl some (closes b (n + 1) m bs)
  where
    at : (t : Bool) → ((a == 42) && (b == 47)) ≡ t → cond t (Some (n + 1)) (through_pair 42 47 (b == 42) (n + 1) bs) ≡ Some m
        → (through_pair 42 47 (b == 42) (n + 1) bs ≡ Some m → Closed (b ∷ bs) (n + 1) m) → Closed (a ∷ b ∷ bs) n m
    at true e h more = closes_here a b n m bs e h
    at false e h more = closes_later a b n m bs e (more h)

pub closed_is : (a n : ℕ) (inside rest : List ℕ) → HasNo ends_comment (a ∷ (inside ++ 42 ∷ [])) → through_pair 42 47 (a == 42) n (inside ++ 42 ∷ 47 ∷ rest) ≡ Some (n + length inside + 2)
closed_is a n [] rest has =
    ap (λ t. cond t (Some (n + 1)) (Some (n + 1 + 1))) (and-false (a == 42))
    ∙ ap Some (let same : n + 1 + 1 ≡ n + 0 + 2 = omega arith in same)
closed_is a n (c ∷ cs) rest has =
    ap (λ t. cond t (Some (n + 1)) (through_pair 42 47 (c == 42) (n + 1) (cs ++ 42 ∷ 47 ∷ rest))) has.0
    ∙ closed_is c (n + 1) cs rest has.1
    ∙ ap Some (let same : n + 1 + length cs + 2 ≡ n + length (c ∷ cs) + 2 = omega arith in same)

-- ---- runs

-- the bytes from this one on before the next comment or directive, and what begins there
abbrev pub run_of : ℕ → List ℕ → List ℕ
run_of a [] = a ∷ []
run_of a (b ∷ bs) = cond (begins_cut a b) [] (a ∷ run_of b bs)

abbrev pub left_of : ℕ → List ℕ → List ℕ
left_of a [] = []
left_of a (b ∷ bs) = cond (begins_cut a b) (a ∷ b ∷ bs) (left_of b bs)

pub run_and_left : (a : ℕ) (bs : List ℕ) → run_of a bs ++ left_of a bs ≡ a ∷ bs
run_and_left a [] = refl
run_and_left a (b ∷ bs) = at (begins_cut a b) (run_and_left b bs)
  where
    at : (t : Bool) → run_of b bs ++ left_of b bs ≡ b ∷ bs → cond t [] (a ∷ run_of b bs) ++ cond t (a ∷ b ∷ bs) (left_of b bs) ≡ a ∷ b ∷ bs
    at true more = refl
    at false more = ap (λ xs. a ∷ xs) more

before_run : (a b : ℕ) (bs : List ℕ) → begins_cut a b ≡ false → HasNo begins_cut (run_of b bs ++ take 1 (left_of b bs))
    → HasNo begins_cut (a ∷ (run_of b bs ++ take 1 (left_of b bs)))
before_run a b [] e h = (e, h)
before_run a b (c ∷ cs) e h = next (begins_cut b c) h
  where
    next : (t : Bool) → HasNo begins_cut (cond t [] (b ∷ run_of c cs) ++ take 1 (cond t (b ∷ c ∷ cs) (left_of c cs)))
        → HasNo begins_cut (a ∷ (cond t [] (b ∷ run_of c cs) ++ take 1 (cond t (b ∷ c ∷ cs) (left_of c cs))))
    next true h = (e, tt)
    next false h = (e, h)

pub run_plain : (a : ℕ) (bs : List ℕ) → HasNo begins_cut (run_of a bs ++ take 1 (left_of a bs))
run_plain a [] = tt
run_plain a (b ∷ bs) = at (begins_cut a b) refl (run_plain b bs)
  where
    at : (t : Bool) → begins_cut a b ≡ t → HasNo begins_cut (run_of b bs ++ take 1 (left_of b bs))
        → HasNo begins_cut (cond t [] (a ∷ run_of b bs) ++ take 1 (cond t (a ∷ b ∷ bs) (left_of b bs)))
    at true e more = tt
    at false e more = before_run a b bs e more

pub run_ends : (a : ℕ) (bs : List ℕ) → (left_of a bs ≡ []) ⊎ BeginsWith begins_cut (left_of a bs)
run_ends a [] = inl refl
run_ends a (b ∷ bs) = at (begins_cut a b) refl (run_ends b bs)
  where
    at : (t : Bool) → begins_cut a b ≡ t → (left_of b bs ≡ []) ⊎ BeginsWith begins_cut (left_of b bs)
        → (cond t (a ∷ b ∷ bs) (left_of b bs) ≡ []) ⊎ BeginsWith begins_cut (cond t (a ∷ b ∷ bs) (left_of b bs))
    at true e more = inr e
    at false e more = more

-- what is counted is their number
pub run_count : (a n : ℕ) (bs : List ℕ) → 1 ≤ n → plain_len a n bs + 1 ≡ n + length (run_of a bs)
run_count a n [] more = refl
run_count a n (b ∷ bs) more = at (begins_cut a b) (run_count b (n + 1) bs (omega arith))
  where
    at : (t : Bool) → plain_len b (n + 1) bs + 1 ≡ n + 1 + length (run_of b bs) → cond t (n - 1) (plain_len b (n + 1) bs) + 1 ≡ n + length (cond t [] (a ∷ run_of b bs))
    at true rest = omega (arith, more)
    at false rest = omega (arith, rest)

pub run_is : (a : ℕ) (cs rest : List ℕ) → HasNo begins_cut (a ∷ (cs ++ take 1 rest)) → (rest ≡ []) ⊎ BeginsWith begins_cut rest → run_of a (cs ++ rest) ≡ a ∷ cs
run_is a [] [] has ends = refl
run_is a [] (b ∷ []) has (inl none) = none_is_some b [] (sym none)
run_is a [] (b ∷ []) has (inr begins) = absurd begins
run_is a [] (b ∷ c ∷ bs) has (inl none) = none_is_some b (c ∷ bs) (sym none)
run_is a [] (b ∷ c ∷ bs) has (inr begins) =
    ap (λ t. cond t [] (a ∷ cond (begins_cut b c) [] (b ∷ run_of c bs))) has.0
    ∙ ap (λ t. a ∷ cond t [] (b ∷ run_of c bs)) begins
run_is a (c ∷ cs) rest has ends =
    ap (λ t. cond t [] (a ∷ run_of c (cs ++ rest))) has.0
    ∙ ap (λ xs. a ∷ xs) (run_is c cs rest has.1 ends)

-- ---- two stretches side by side

pub longer : (cut rest : List ℕ) → 0 < length cut → 0 < length (cut ++ rest)
longer [] rest some = absurd (omega arith)
longer (c ∷ cs) rest some = omega arith
