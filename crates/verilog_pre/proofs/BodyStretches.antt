-- Stretches of a macro's body, and what counts them.
use Rattle.std.proofs.Common.{◌≡◌, ℕ, ◌+◌, ◌-◌, ◌≤◌, ◌==◌, ◌&&◌, ◌||◌, not, ◌⊎◌, inl, inr, Bool, true, false, cond, List, [], ◌∷◌, ◌++◌, length, take, Some, None, refl, sym, ap, subst, ◌∙◌, arith, true≢false}
use Rattle.std.proofs.Math.Bool.{and-false, or-true}
use Rattle.std.proofs.lemmas.Bool.{eqb-true, and_from, not-true, or_parts, and_parts}
use Rattle.std.proofs.lemmas.Option.{none-some}
use Rattle.ls_text.proofs.Lists.{none_is_some, first_of}
use Rattle.verilog_pre.specs.Bodies.{begins_cut, lines_len, comment_len, run_len}
use Rattle.verilog_pre.specs.Shapes.{HasNo, BeginsWith, AllAre, StopsAt, ends_comment}
use Rattle.verilog_pre.specs.BodyStretches.{ends_line, begins_stretch, last_of}
use Rattle.verilog_pre.proofs.Stretches.{value_of}

abbrev pub not_newline : ℕ → Bool
not_newline b = not (b == 10)

-- ---- the lines of a body

-- the bytes up to a newline that no backslash continues, behind the byte a
abbrev pub line_of : ℕ → List ℕ → List ℕ
line_of a [] = []
line_of a (b ∷ bs) = cond (ends_line a b) [] (b ∷ line_of b bs)

abbrev pub after_line : ℕ → List ℕ → List ℕ
after_line a [] = []
after_line a (b ∷ bs) = cond (ends_line a b) (b ∷ bs) (after_line b bs)

abbrev EndsAfter : ℕ → List ℕ → List ℕ → Type 0
EndsAfter a line rest = (rest ≡ []) ⊎ BeginsWith ends_line (last_of a line ∷ rest)

pub line_and_after : (a : ℕ) (bs : List ℕ) → line_of a bs ++ after_line a bs ≡ bs
line_and_after a [] = refl
line_and_after a (b ∷ bs) = at (ends_line a b) (line_and_after b bs)
  where
    at : (t : Bool) → line_of b bs ++ after_line b bs ≡ bs → cond t [] (b ∷ line_of b bs) ++ cond t (b ∷ bs) (after_line b bs) ≡ b ∷ bs
    at true more = refl
    at false more = ap (λ xs. b ∷ xs) more

pub line_count : (a n : ℕ) (bs : List ℕ) → lines_len (a == 92) n bs ≡ n + length (line_of a bs)
line_count a n [] = omega arith
line_count a n (b ∷ bs) = at (ends_line a b) (line_count b (n + 1) bs)
  where
    at : (t : Bool) → lines_len (b == 92) (n + 1) bs ≡ n + 1 + length (line_of b bs)
        → cond t n (lines_len (b == 92) (n + 1) bs) ≡ n + length (cond t [] (b ∷ line_of b bs))
    at true more = omega arith
    at false more = omega (arith, more)

pub line_plain : (a : ℕ) (bs : List ℕ) → HasNo ends_line (a ∷ line_of a bs)
line_plain a [] = tt
line_plain a (b ∷ bs) = at (ends_line a b) refl (line_plain b bs)
  where
    at : (t : Bool) → ends_line a b ≡ t → HasNo ends_line (b ∷ line_of b bs) → HasNo ends_line (a ∷ cond t [] (b ∷ line_of b bs))
    at true e more = tt
    at false e more = (e, more)

pub line_ends : (a : ℕ) (bs : List ℕ) → EndsAfter a (line_of a bs) (after_line a bs)
line_ends a [] = inl refl
line_ends a (b ∷ bs) = at (ends_line a b) refl (line_ends b bs)
  where
    at : (t : Bool) → ends_line a b ≡ t → EndsAfter b (line_of b bs) (after_line b bs) → EndsAfter a (cond t [] (b ∷ line_of b bs)) (cond t (b ∷ bs) (after_line b bs))
    at true e more = inr e
    at false e more = more

pub line_is : (a : ℕ) (line rest : List ℕ) → HasNo ends_line (a ∷ line) → EndsAfter a line rest → line_of a (line ++ rest) ≡ line
line_is a [] [] has ends = refl
line_is a [] (b ∷ bs) has (inl none) = none_is_some b bs (sym none)
line_is a [] (b ∷ bs) has (inr ends) = ap (λ t. cond t [] (b ∷ line_of b bs)) ends
line_is a (c ∷ cs) rest has ends = ap (λ t. cond t [] (c ∷ line_of c (cs ++ rest))) has.0 ∙ ap (λ xs. c ∷ xs) (line_is c cs rest has.1 ends)

-- ---- comments

-- no comment ends on these lines
pub open_plain : (a n : ℕ) (bs : List ℕ) → comment_len a n bs ≡ None → HasNo ends_comment (a ∷ line_of a bs)
open_plain a n [] none = tt
open_plain a n (b ∷ bs) none = at ((a == 42) && (b == 47)) refl none (open_plain b (n + 1) bs)
  where
    later : (t : Bool) → ends_comment a b ≡ false → cond t None (comment_len b (n + 1) bs) ≡ None
        → (comment_len b (n + 1) bs ≡ None → HasNo ends_comment (b ∷ line_of b bs)) → HasNo ends_comment (a ∷ cond t [] (b ∷ line_of b bs))
    later true e h more = tt
    later false e h more = (e, more h)

    at : (t : Bool) → ((a == 42) && (b == 47)) ≡ t → cond t (Some (n + 1)) (cond (ends_line a b) None (comment_len b (n + 1) bs)) ≡ None
        → (comment_len b (n + 1) bs ≡ None → HasNo ends_comment (b ∷ line_of b bs)) → HasNo ends_comment (a ∷ cond (ends_line a b) [] (b ∷ line_of b bs))
    at true e h more = absurd (none-some (n + 1) (sym h))
    at false e h more = later (ends_line a b) e h more

pub open_is : (a n : ℕ) (line rest : List ℕ) → HasNo ends_comment (a ∷ line) → HasNo ends_line (a ∷ line) → EndsAfter a line rest → comment_len a n (line ++ rest) ≡ None
open_is a n [] [] has on ends = refl
open_is a n [] (b ∷ bs) has on (inl none) = none_is_some b bs (sym none)
open_is a n [] (b ∷ bs) has on (inr ends) = at ((a == 42) && (b == 47)) refl
  where
    not_both : (b : ℕ) → (b == 10) ≡ true → (b == 47) ≡ true → ⊥
    not_both b e f = let x : b ≡ 10 = eqb-true b 10 e in let y : b ≡ 47 = eqb-true b 47 f in absurd (omega (arith, x, y))

    at : (t : Bool) → ((a == 42) && (b == 47)) ≡ t → cond t (Some (n + 1)) (cond (ends_line a b) None (comment_len b (n + 1) bs)) ≡ None
    at true e = absurd (not_both b (and_parts (b == 10) (not (a == 92)) ends).0 (and_parts (a == 42) (b == 47) e).1)
    at false e = ap (λ t. cond t None (comment_len b (n + 1) bs)) ends
open_is a n (c ∷ cs) rest has on ends =
    ap (λ t. cond t (Some (n + 1)) (cond (ends_line a c) None (comment_len c (n + 1) (cs ++ rest)))) has.0
    ∙ ap (λ t. cond t None (comment_len c (n + 1) (cs ++ rest))) on.0
    ∙ open_is c (n + 1) cs rest has.1 on.1 ends

pub record ClosedOn (text : List ℕ) (n m : ℕ) : Type 0 where
  pub inside : List ℕ
  pub rest : List ℕ
  pub is : text ≡ inside ++ 42 ∷ 47 ∷ rest
  pub count : m ≡ n + length inside + 1
  pub first : HasNo ends_comment (inside ++ 42 ∷ [])
  pub on_lines : HasNo ends_line inside

before_first : (pair : ℕ → ℕ → Bool) (a b : ℕ) (bs inside rest : List ℕ) → pair a b ≡ false → pair a 42 ≡ false → (b ∷ bs) ≡ inside ++ 42 ∷ 47 ∷ rest
    → HasNo pair (inside ++ 42 ∷ []) → HasNo pair (a ∷ (inside ++ 42 ∷ []))
before_first pair a b bs [] rest e star is has = (star, tt)
before_first pair a b bs (x ∷ xs) rest e star is has = (ap (λ y. pair a y) (sym (ap first_of is)) ∙ e, has)

before_inside : (a b : ℕ) (bs inside rest : List ℕ) → ends_line a b ≡ false → (b ∷ bs) ≡ inside ++ 42 ∷ 47 ∷ rest → HasNo ends_line inside → HasNo ends_line (a ∷ inside)
before_inside a b bs [] rest e is has = tt
before_inside a b bs (x ∷ xs) rest e is has = (ap (λ y. ends_line a y) (sym (ap first_of is)) ∙ e, has)

later_on : (a b n m : ℕ) (bs : List ℕ) → ends_comment a b ≡ false → ends_line a b ≡ false → ClosedOn (b ∷ bs) (n + 1) m → ClosedOn (a ∷ b ∷ bs) n m
later_on a b n m bs e f c = record {
  inside = a ∷ c.inside;
  rest = c.rest;
  is = ap (λ xs. a ∷ xs) c.is;
  count = (let counted : m ≡ n + 1 + length c.inside + 1 = c.count in omega (arith, counted));
  first = before_first ends_comment a b bs c.inside c.rest e (and-false (a == 42)) c.is c.first;
  on_lines = before_inside a b bs c.inside c.rest f c.is c.on_lines;
}

here_on : (a b n m : ℕ) (bs : List ℕ) → ((a == 42) && (b == 47)) ≡ true → Some (n + 1) ≡ Some m → ClosedOn (a ∷ b ∷ bs) n m
here_on a b n m bs e h =
    let both : ((a == 42) ≡ true) × ((b == 47) ≡ true) = and_parts (a == 42) (b == 47) e in
    let here : n + 1 ≡ m = ap value_of h in
    record {
      inside = [];
      rest = bs;
      is = ap (λ x. x ∷ b ∷ bs) (eqb-true a 42 both.0) ∙ ap (λ y. 42 ∷ y ∷ bs) (eqb-true b 47 both.1);
      count = omega (arith, here);
      first = tt;
      on_lines = tt;
    }

pub closes_on : (a n m : ℕ) (bs : List ℕ) → comment_len a n bs ≡ Some m → ClosedOn (a ∷ bs) n m
closes_on a n m [] some = absurd (none-some m some)
closes_on a n m (b ∷ bs) some = at ((a == 42) && (b == 47)) refl some (closes_on b (n + 1) m bs)
  where
    later : (t : Bool) → ends_line a b ≡ t → ends_comment a b ≡ false → cond t None (comment_len b (n + 1) bs) ≡ Some m
        → (comment_len b (n + 1) bs ≡ Some m → ClosedOn (b ∷ bs) (n + 1) m) → ClosedOn (a ∷ b ∷ bs) n m
    later true f e h more = absurd (none-some m h)
    later false f e h more = later_on a b n m bs e f (more h)

    at : (t : Bool) → ((a == 42) && (b == 47)) ≡ t → cond t (Some (n + 1)) (cond (ends_line a b) None (comment_len b (n + 1) bs)) ≡ Some m
        → (comment_len b (n + 1) bs ≡ Some m → ClosedOn (b ∷ bs) (n + 1) m) → ClosedOn (a ∷ b ∷ bs) n m
    at true e h more = here_on a b n m bs e h
    at false e h more = later (ends_line a b) refl e h more

pub closed_on_is : (a n : ℕ) (inside rest : List ℕ) → HasNo ends_comment (a ∷ (inside ++ 42 ∷ [])) → HasNo ends_line (a ∷ inside)
    → comment_len a n (inside ++ 42 ∷ 47 ∷ rest) ≡ Some (n + length inside + 2)
closed_on_is a n [] rest has on =
    ap (λ t. cond t (Some (n + 1)) (Some (n + 1 + 1))) (and-false (a == 42))
    ∙ ap Some (let same : n + 1 + 1 ≡ n + 0 + 2 = omega arith in same)
closed_on_is a n (c ∷ cs) rest has on =
    ap (λ t. cond t (Some (n + 1)) (cond (ends_line a c) None (comment_len c (n + 1) (cs ++ 42 ∷ 47 ∷ rest)))) has.0
    ∙ ap (λ t. cond t None (comment_len c (n + 1) (cs ++ 42 ∷ 47 ∷ rest))) on.0
    ∙ closed_on_is c (n + 1) cs rest has.1 on.1
    ∙ ap Some (let same : n + 1 + length cs + 2 ≡ n + length (c ∷ cs) + 2 = omega arith in same)

-- ---- runs

abbrev pub run_from : ℕ → List ℕ → List ℕ
run_from a [] = a ∷ []
run_from a (b ∷ bs) = cond (b == 10) (cond (a == 92) [] (a ∷ [])) (cond (begins_cut a b) [] (a ∷ run_from b bs))

abbrev pub left_from : ℕ → List ℕ → List ℕ
left_from a [] = []
left_from a (b ∷ bs) = cond (b == 10) (cond (a == 92) (a ∷ b ∷ bs) (b ∷ bs)) (cond (begins_cut a b) (a ∷ b ∷ bs) (left_from b bs))

pub from_joined : (a : ℕ) (bs : List ℕ) → run_from a bs ++ left_from a bs ≡ a ∷ bs
from_joined a [] = refl
from_joined a (b ∷ bs) = at (b == 10) (a == 92) (begins_cut a b) (from_joined b bs)
  where
    at : (s t u : Bool) → run_from b bs ++ left_from b bs ≡ b ∷ bs
        → cond s (cond t [] (a ∷ [])) (cond u [] (a ∷ run_from b bs)) ++ cond s (cond t (a ∷ b ∷ bs) (b ∷ bs)) (cond u (a ∷ b ∷ bs) (left_from b bs)) ≡ a ∷ b ∷ bs
    at true true u more = refl
    at true false u more = refl
    at false t true more = refl
    at false t false more = ap (λ xs. a ∷ xs) more

pub from_count : (a n : ℕ) (bs : List ℕ) → 1 ≤ n → run_len a n bs + 1 ≡ n + length (run_from a bs)
from_count a n [] more = refl
from_count a n (b ∷ bs) more = at (b == 10) (a == 92) (begins_cut a b) (from_count b (n + 1) bs (omega arith))
  where
    at : (s t u : Bool) → run_len b (n + 1) bs + 1 ≡ n + 1 + length (run_from b bs)
        → cond s (cond t (n - 1) n) (cond u (n - 1) (run_len b (n + 1) bs)) + 1 ≡ n + length (cond s (cond t [] (a ∷ [])) (cond u [] (a ∷ run_from b bs)))
    at true true u rest = omega (arith, more)
    at true false u rest = omega (arith, more)
    at false t true rest = omega (arith, more)
    at false t false rest = omega (arith, rest)

pub from_on_line : (a : ℕ) (bs : List ℕ) → not_newline a ≡ true → AllAre not_newline (run_from a bs)
from_on_line a [] e = (e, tt)
from_on_line a (b ∷ bs) e = at (b == 10) (a == 92) (begins_cut a b) refl (from_on_line b bs)
  where
    at : (s t u : Bool) → (b == 10) ≡ s → (not_newline b ≡ true → AllAre not_newline (run_from b bs))
        → AllAre not_newline (cond s (cond t [] (a ∷ [])) (cond u [] (a ∷ run_from b bs)))
    at true true u f more = tt
    at true false u f more = (e, tt)
    at false t true f more = tt
    at false t false f more = (e, more (ap not f))

no_stretch : (a b : ℕ) → (b == 10) ≡ false → begins_cut a b ≡ false → begins_stretch a b ≡ false
no_stretch a b e f = ap (λ t. ((a == 92) && t) || begins_cut a b) e ∙ ap (λ t. t || begins_cut a b) (and-false (a == 92)) ∙ f

-- a newline that no backslash continues begins no stretch
newline_cut : (a b : ℕ) → (b == 10) ≡ true → begins_cut a b ≡ false
newline_cut a b e = subst (λ x. begins_cut a x ≡ false) (sym (eqb-true b 10 e)) (at (a == 47) (a == 96))
  where
    at : (t u : Bool) → ((t && false) || (u && false)) ≡ false
    at true true = refl
    at true false = refl
    at false true = refl
    at false false = refl

no_newline_stretch : (a b : ℕ) → (b == 10) ≡ true → (a == 92) ≡ false → begins_stretch a b ≡ false
no_newline_stretch a b e f = ap (λ t. (t && (b == 10)) || begins_cut a b) f ∙ newline_cut a b e

before_from : (a b : ℕ) (bs : List ℕ) → begins_stretch a b ≡ false → HasNo begins_stretch (run_from b bs ++ take 1 (left_from b bs))
    → HasNo begins_stretch (a ∷ (run_from b bs ++ take 1 (left_from b bs)))
before_from a b [] e h = (e, h)
before_from a b (c ∷ cs) e h = next (c == 10) (b == 92) (begins_cut b c) h
  where
    next : (s t u : Bool) → HasNo begins_stretch (cond s (cond t [] (b ∷ [])) (cond u [] (b ∷ run_from c cs)) ++ take 1 (cond s (cond t (b ∷ c ∷ cs) (c ∷ cs)) (cond u (b ∷ c ∷ cs) (left_from c cs))))
        → HasNo begins_stretch (a ∷ (cond s (cond t [] (b ∷ [])) (cond u [] (b ∷ run_from c cs)) ++ take 1 (cond s (cond t (b ∷ c ∷ cs) (c ∷ cs)) (cond u (b ∷ c ∷ cs) (left_from c cs)))))
    next true true u h = (e, tt)
    next true false u h = (e, h)
    next false t true h = (e, tt)
    next false t false h = (e, h)

pub from_plain : (a : ℕ) (bs : List ℕ) → HasNo begins_stretch (run_from a bs ++ take 1 (left_from a bs))
from_plain a [] = tt
from_plain a (b ∷ bs) = at (b == 10) (a == 92) (begins_cut a b) refl refl refl (from_plain b bs)
  where
    at : (s t u : Bool) → (b == 10) ≡ s → (a == 92) ≡ t → begins_cut a b ≡ u → HasNo begins_stretch (run_from b bs ++ take 1 (left_from b bs))
        → HasNo begins_stretch (cond s (cond t [] (a ∷ [])) (cond u [] (a ∷ run_from b bs)) ++ take 1 (cond s (cond t (a ∷ b ∷ bs) (b ∷ bs)) (cond u (a ∷ b ∷ bs) (left_from b bs))))
    at true true u e f g more = tt
    at true false u e f g more = (no_newline_stretch a b e f, tt)
    at false t true e f g more = tt
    at false t false e f g more = before_from a b bs (no_stretch a b e g) more

pub from_ends : (a : ℕ) (bs : List ℕ) → StopsAt not_newline (left_from a bs) ⊎ BeginsWith begins_stretch (left_from a bs)
from_ends a [] = inl tt
from_ends a (b ∷ bs) = at (b == 10) (a == 92) (begins_cut a b) refl refl refl (from_ends b bs)
  where
    at : (s t u : Bool) → (b == 10) ≡ s → (a == 92) ≡ t → begins_cut a b ≡ u → StopsAt not_newline (left_from b bs) ⊎ BeginsWith begins_stretch (left_from b bs)
        → StopsAt not_newline (cond s (cond t (a ∷ b ∷ bs) (b ∷ bs)) (cond u (a ∷ b ∷ bs) (left_from b bs)))
        ⊎ BeginsWith begins_stretch (cond s (cond t (a ∷ b ∷ bs) (b ∷ bs)) (cond u (a ∷ b ∷ bs) (left_from b bs)))
    at true true u e f g more = inr (ap (λ t. (t && (b == 10)) || begins_cut a b) f ∙ ap (λ t. t || begins_cut a b) e)
    at true false u e f g more = inl (ap not e)
    at false t true e f g more = inr (ap (λ t. ((a == 92) && (b == 10)) || t) g ∙ or-true ((a == 92) && (b == 10)))
    at false t false e f g more = more

pub from_is : (a : ℕ) (cs rest : List ℕ) → AllAre not_newline (a ∷ cs) → HasNo begins_stretch (a ∷ (cs ++ take 1 rest))
    → StopsAt not_newline rest ⊎ BeginsWith begins_stretch rest → run_from a (cs ++ rest) ≡ a ∷ cs
from_is a [] [] on has ends = refl
from_is a [] (b ∷ bs) on has ends = at (b == 10) (a == 92) refl refl ends
  where
    is_cut : begins_cut a b ≡ false
    is_cut = (or_parts ((a == 92) && (b == 10)) (begins_cut a b) has.0).1

    is_line : (((a == 92) && (b == 10)) ≡ false)
    is_line = (or_parts ((a == 92) && (b == 10)) (begins_cut a b) has.0).0

    behind : (bs : List ℕ) → (b == 10) ≡ false → BeginsWith begins_stretch (b ∷ bs) → run_from b bs ≡ []
    behind [] e begins = absurd begins
    behind (c ∷ cs) e begins = told (c == 10) (b == 92) (begins_cut b c) refl refl refl begins
      where
        told : (s t u : Bool) → (c == 10) ≡ s → (b == 92) ≡ t → begins_cut b c ≡ u → begins_stretch b c ≡ true
            → cond s (cond t [] (b ∷ [])) (cond u [] (b ∷ run_from c cs)) ≡ []
        told true true u f g h k = refl
        told true false u f g h k = absurd (true≢false (sym k ∙ no_newline_stretch b c f g))
        told false t true f g h k = refl
        told false t false f g h k = absurd (true≢false (sym k ∙ no_stretch b c f h))

    at : (s t : Bool) → (b == 10) ≡ s → (a == 92) ≡ t → StopsAt not_newline (b ∷ bs) ⊎ BeginsWith begins_stretch (b ∷ bs)
        → cond s (cond t [] (a ∷ [])) (cond (begins_cut a b) [] (a ∷ run_from b bs)) ≡ a ∷ []
    at true true e f ends = absurd (true≢false (sym (and_from (a == 92) (b == 10) f e) ∙ is_line))
    at true false e f ends = refl
    at false t e f (inl stops) = absurd (true≢false (sym (ap not e) ∙ stops))
    at false t e f (inr begins) = ap (λ t. cond t [] (a ∷ run_from b bs)) is_cut ∙ ap (λ xs. a ∷ xs) (behind bs e begins)
from_is a (c ∷ cs) rest on has ends =
    ap (λ t. cond t (cond (a == 92) [] (a ∷ [])) (cond (begins_cut a c) [] (a ∷ run_from c (cs ++ rest)))) (not-true (c == 10) on.1.0)
    ∙ ap (λ t. cond t [] (a ∷ run_from c (cs ++ rest))) (or_parts ((a == 92) && (c == 10)) (begins_cut a c) has.0).1
    ∙ ap (λ xs. a ∷ xs) (from_is c cs rest on.1 has.1 ends)
