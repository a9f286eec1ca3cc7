use Rattle.std.proofs.Common.{◌≡◌, ℕ, zero, suc, ◌-◌, ◌<◌, List, [], ◌∷◌, ◌++◌, length, take, drop, set, get_or, refl, sym, ◌∙◌, ap, subst, arith, Bool, true, drop-cons, length-take-le, length-drop, ◌≤◌}
use Rattle.std.specs.Prelude.{Some}
use Rattle.std.proofs.lemmas.Bool.{cond-true}
use Rattle.std.specs.Prelude.{Result, Ok, Err, OnErr}
use Rattle.ls_text.proofs.Lists.{get_or_one}
use Rattle.machine.specs.Rows.{between}
use Rattle.book_history.specs.declared.segment.Segment.{Segment}
use Rattle.book_history.specs.declared.link.Link.{Link}
use Rattle.book_history.specs.declared.link.Link.TheVariants.{Out}
use Rattle.book_history.specs.Book.{first_link, mark_out, slice}
use Rattle.checkpoint_book.specs.Draw.{IsPlace}

pub set_splits : {A : Type 0} (i : ℕ) (xs : List A) (x : A) → i < length xs → take i xs ++ x ∷ drop (suc i) xs ≡ set xs i x
set_splits i [] x lt = absurd (omega arith)
set_splits zero (y ∷ ys) x lt = refl
set_splits (suc i) (y ∷ ys) x lt = ap (λ l. y ∷ l) (set_splits i ys x (omega arith))

pub place_free : {S : Type 0} (p : Link → Bool) (first : S) (segs : List (Segment S)) (i a : ℕ) (s : S) (g : Segment S)
    → i < length segs → g ≡ get_or segs i g → p g.link ≡ true
    → first_link p 0 first segs ≡ first_link p a s (drop i segs)
    → ((n : ℕ) → mark_out p n segs ≡ take i segs ++ mark_out p n (drop i segs))
    → IsPlace p first segs i a s
place_free {S} p first segs i a s g lt is free found marks =
    let e : drop i segs ≡ g ∷ drop (suc i) segs = drop-cons segs i g lt ∙ ap (λ (x : Segment S). x ∷ drop (suc i) segs) (sym is) in
    record {
      within = lt;
      seg = g;
      is_at = is;
      found = found ∙ ap (λ (x : List (Segment S)). first_link p a s x) e ∙ cond-true (p g.link) _ _ free;
      marks = λ n.
          marks n ∙ ap (λ (x : List (Segment S)). take i segs ++ mark_out p n x) e
          ∙ ap (λ (x : List (Segment S)). take i segs ++ x) (cond-true (p g.link) _ _ free)
          ∙ set_splits i segs (record { link = Out n; to = g.to; state = g.state }) lt;
    }

-- the link that was read at i, and written
pub record At {S : Type 0} (p : Link → Bool) (first : S) (segs : List (Segment S)) (i a : ℕ) (s : S) (g : Segment S) : Type 0 where
  pub found : first_link p 0 first segs ≡ Some (a, g.to, s)
  pub marks : (n : ℕ) (h : Segment S) → h ≡ get_or segs i h → mark_out p n segs ≡ set segs i (record { link = Out n; to = h.to; state = h.state })

pub place_at : {S : Type 0} (p : Link → Bool) (first : S) (segs segs' : List (Segment S)) (i a : ℕ) (s : S) (g : Segment S)
    → segs ≡ segs' → IsPlace p first segs i a s → g ≡ get_or segs' i g → At p first segs' i a s g
place_at {S} p first segs segs' i a s g e place is =
    let P : List (Segment S) → Type 0 = λ x. IsPlace p first x i a s in
    let here : IsPlace p first segs' i a s = subst P e place in
    let one : here.seg ≡ g = get_or_one segs' i here.seg g here.within here.is_at is in
    record {
      found = here.found ∙ ap (λ (x : Segment S). Some (a, x.to, s)) one;
      marks = λ n h hs.
          let two : here.seg ≡ h = get_or_one segs' i here.seg h here.within here.is_at hs in
          here.marks n ∙ ap (λ (x : Segment S). set segs' i (record { link = Out n; to = x.to; state = x.state })) two;
    }

pub slice_length : {A : Type 0} (xs : List A) (a b : ℕ) → a ≤ b → b ≤ length xs → length (slice xs a b) ≡ b - a
slice_length xs a b le within = length-take-le (b - a) (drop a xs) (omega (arith, length-drop a xs))

pub between_zero : {A : Type 0} (xs : List A) (a b : ℕ) → between (0, xs) a b ≡ slice xs a b
between_zero xs a b =
    let start : a - 0 ≡ a = omega arith in
    let end : b - 0 ≡ b = omega arith in
    ap (λ (i : ℕ). slice xs i (b - 0)) start ∙ ap (λ (j : ℕ). slice xs a j) end

pub when_err : {A E P : Type 0} (r : Result A E) → P → OnErr r P
when_err (Ok x) h = tt
when_err (Err e) h = h
