-- What the entries of one holder do to its tickets, and to the others'.
use Rattle.std.proofs.Common.{◌≡◌, ◌≢◌, ℕ, Bool, true, false, true≢false, List, [], ◌∷◌, ◌++◌, ◌||◌, eqb, if◌then◌else◌, refl, sym, ap, ◌∙◌, subst, append_assoc, append-nil}
use Rattle.std.proofs.Math.Bool.{or_assoc}
use Rattle.std.proofs.lemmas.Bool.{eqb-true, eq-eqb, false_from_ne_true, or_from, or_left, or_right}
use Rattle.book_history.specs.Event.{Event, Opens, Runs, Reloads, Claims, Installs, Releases, Shows, Closes}
use Rattle.book_history.specs.Tickets.{is_among, without, draws, uses, is_drawn, is_used, IsOut, AreOut, kept, kept_all, MayAdd, MayAddAll}
use Rattle.book_turn.specs.Rule.{AreOnce}

-- n is k, or it is not
pub apart_or : (n k : ℕ) → n ≢ k → eqb n k ≡ false
apart_or n k h = false_from_ne_true (eqb n k) (λ e. h (eqb-true n k e))

-- what is left without k was there, and is not k
pub among_without : (n k : ℕ) (ts : List ℕ) → is_among n (without k ts) ≡ true → (is_among n ts ≡ true) × (n ≢ k)
among_without n k [] e = absurd (true≢false (sym e))
among_without n k (m ∷ ms) e = go (eqb m k) refl (among_without n k ms) e
  where
    here : (a : Bool) → eqb n m ≡ a → eqb m k ≡ false → (is_among n (without k ms) ≡ true → (is_among n ms ≡ true) × (n ≢ k)) → a || is_among n (without k ms) ≡ true → ((a || is_among n ms) ≡ true) × (n ≢ k)
    here true a t more e = (refl, λ (s : n ≡ k). true≢false (sym (eq-eqb m k (sym (eqb-true n m a) ∙ s)) ∙ t))
    here false a t more e = more e

    go : (b : Bool) → eqb m k ≡ b → (is_among n (without k ms) ≡ true → (is_among n ms ≡ true) × (n ≢ k)) → is_among n (if b then without k ms else m ∷ without k ms) ≡ true → ((eqb n m || is_among n ms) ≡ true) × (n ≢ k)
    go true t more e = let r = more e in (or_right (eqb n m) (is_among n ms) r.0, r.1)
    go false t more e = here (eqb n m) refl t more e

-- taking a ticket out leaves the others once each
without_once : (k : ℕ) (ts : List ℕ) → AreOnce ts → AreOnce (without k ts)
without_once k [] o = tt
without_once k (m ∷ ms) o = go (eqb m k) (without_once k ms o.1)
  where
    go : (b : Bool) → AreOnce (without k ms) → AreOnce (if b then without k ms else m ∷ without k ms)
    go true r = r
    go false r = (false_from_ne_true (is_among m (without k ms)) (λ s. true≢false (sym (among_without m k ms s).0 ∙ o.0)), r)

module _ {D R O : Type 0} where
  pub drawn_append : (n : ℕ) (xs ys : List (Event D R O)) → is_drawn n (xs ++ ys) ≡ is_drawn n xs || is_drawn n ys
  drawn_append n [] ys = refl
  drawn_append n (x ∷ xs) ys = ap (λ b. draws n x || b) (drawn_append n xs ys) ∙ sym (or_assoc (draws n x) (is_drawn n xs) (is_drawn n ys))

  pub used_append : (n : ℕ) (xs ys : List (Event D R O)) → is_used n (xs ++ ys) ≡ is_used n xs || is_used n ys
  used_append n [] ys = refl
  used_append n (x ∷ xs) ys = ap (λ b. uses n x || b) (used_append n xs ys) ∙ sym (or_assoc (uses n x) (is_used n xs) (is_used n ys))

  -- an entry that does not use the ticket up leaves it out
  stays_out : (n : ℕ) (h : List (Event D R O)) (e : Event D R O) → uses n e ≡ false → IsOut n h → IsOut n (h ++ e ∷ [])
  stays_out n h e u o = record {
    drawn = drawn_append n h (e ∷ []) ∙ or_left (is_drawn n h) (draws n e || false) o.drawn;
    unused = used_append n h (e ∷ []) ∙ or_from (is_used n h) (uses n e || false) o.unused (or_from (uses n e) false u refl);
  }

  -- so it is with the holder's tickets, and with one of another holder
  mine : (h : List (Event D R O)) (ts : List ℕ) (e : Event D R O) → MayAdd h ts e → AreOut ts h → AreOut (kept ts e) (h ++ e ∷ [])
  mine h ts (Opens v m) may o n a = stays_out n h _ refl (o n a)
  mine h ts (Runs k rows) may o n a = stays_out n h _ refl (o n a)
  mine h ts (Reloads v m ops from) may o n a = stays_out n h _ refl (o n a)
  mine h ts (Claims k x y by) may o n a = go (eqb n k) refl a
    where
      go : (b : Bool) → eqb n k ≡ b → b || is_among n ts ≡ true → IsOut n (h ++ Claims k x y by ∷ [])
      go true t a = record {
        drawn = drawn_append n h (Claims k x y by ∷ []) ∙ or_right (is_drawn n h) (eqb n k || false) (or_left (eqb n k) false t);
        unused = used_append n h (Claims k x y by ∷ []) ∙ or_from (is_used n h) false (ap (λ i. is_used i h) (eqb-true n k t) ∙ may.1) refl;
      }
      go false t a = stays_out n h _ refl (o n a)
  mine h ts (Installs k j by) may o n a = let r = among_without n k ts a in stays_out n h _ (apart_or n k r.1) (o n r.0)
  mine h ts (Releases k by) may o n a = let r = among_without n k ts a in stays_out n h _ (apart_or n k r.1) (o n r.0)
  mine h ts (Shows s) may o n a = stays_out n h _ refl (o n a)
  mine h ts Closes may o n a = stays_out n h _ refl (o n a)

  theirs : (h : List (Event D R O)) (ts : List ℕ) (e : Event D R O) → MayAdd h ts e → (n : ℕ) → IsOut n h → is_among n ts ≢ true → IsOut n (h ++ e ∷ []) × (is_among n (kept ts e) ≢ true)
  theirs h ts (Opens v m) may n o a = (stays_out n h _ refl o, a)
  theirs h ts (Runs k rows) may n o a = (stays_out n h _ refl o, a)
  theirs h ts (Reloads v m ops from) may n o a = (stays_out n h _ refl o, a)
  theirs h ts (Claims k x y by) may n o a = (
    stays_out n h _ refl o,
    λ s. a (sym (ap (λ (b : Bool). b || is_among n ts) (apart_or n k (λ (e : n ≡ k). true≢false (sym o.drawn ∙ ap (λ i. is_drawn i h) e ∙ may.0)))) ∙ s),
  )
  theirs h ts (Installs k j by) may n o a = (
    stays_out n h _ (apart_or n k (λ (e : n ≡ k). a (ap (λ i. is_among i ts) e ∙ may))) o,
    λ s. a (among_without n k ts s).0,
  )
  theirs h ts (Releases k by) may n o a = (
    stays_out n h _ (apart_or n k (λ (e : n ≡ k). a (ap (λ i. is_among i ts) e ∙ may))) o,
    λ s. a (among_without n k ts s).0,
  )
  theirs h ts (Shows s) may n o a = (stays_out n h _ refl o, a)
  theirs h ts Closes may n o a = (stays_out n h _ refl o, a)

  -- a ticket that is drawn is new, so the holder has none twice
  once_kept : (h : List (Event D R O)) (ts : List ℕ) (e : Event D R O) → MayAdd h ts e → AreOut ts h → AreOnce ts → AreOnce (kept ts e)
  once_kept h ts (Opens v m) may o once = once
  once_kept h ts (Runs k rows) may o once = once
  once_kept h ts (Reloads v m ops from) may o once = once
  once_kept h ts (Claims k x y by) may o once = (false_from_ne_true (is_among k ts) (λ t. true≢false (sym (o k t).drawn ∙ may.0)), once)
  once_kept h ts (Installs k j by) may o once = without_once k ts once
  once_kept h ts (Releases k by) may o once = without_once k ts once
  once_kept h ts (Shows s) may o once = once
  once_kept h ts Closes may o once = once

  pub all_mine : (h : List (Event D R O)) (ts : List ℕ) (es : List (Event D R O)) → MayAddAll h ts es → AreOut ts h → AreOut (kept_all ts es) (h ++ es)
  all_mine h ts [] may o = subst (λ l. AreOut ts l) (sym (append-nil h)) o
  all_mine h ts (e ∷ es) may o = subst (λ l. AreOut (kept_all (kept ts e) es) l) (append_assoc h (e ∷ []) es) (all_mine (h ++ e ∷ []) (kept ts e) es may.1 (mine h ts e may.0 o))

  pub all_theirs : (h : List (Event D R O)) (ts : List ℕ) (es : List (Event D R O)) → MayAddAll h ts es → (n : ℕ) → IsOut n h → is_among n ts ≢ true → IsOut n (h ++ es) × (is_among n (kept_all ts es) ≢ true)
  all_theirs h ts [] may n o a = (subst (λ l. IsOut n l) (sym (append-nil h)) o, a)
  all_theirs h ts (e ∷ es) may n o a =
      let s = theirs h ts e may.0 n o a in
      let r = all_theirs (h ++ e ∷ []) (kept ts e) es may.1 n s.0 s.1 in
      (subst (λ l. IsOut n l) (append_assoc h (e ∷ []) es) r.0, r.1)

  pub all_once : (h : List (Event D R O)) (ts : List ℕ) (es : List (Event D R O)) → MayAddAll h ts es → AreOut ts h → AreOnce ts → AreOnce (kept_all ts es)
  all_once h ts [] may o once = once
  all_once h ts (e ∷ es) may o once = all_once (h ++ e ∷ []) (kept ts e) es may.1 (mine h ts e may.0 o) (once_kept h ts e may.0 o once)
