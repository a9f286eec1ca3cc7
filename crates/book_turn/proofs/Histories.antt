-- Beginnings of a history, and the session's own entries in it.
use Rattle.std.proofs.Common.{◌≡◌, ◌≤◌, Bool, true, false, true≢false, List, [], ◌∷◌, ◌++◌, length, drop, leb, if◌then◌else◌, refl, sym, ap, ◌∙◌, append_assoc, append-nil, length-append, arith}
use Rattle.std.proofs.lemmas.Bool.{leb-true, leb-false}
use Rattle.book_history.specs.Event.{Event}
use Rattle.book_history.specs.Owned.{is_owned, owned, AllOwned, IsPrefix, added}
use Rattle.book_turn.specs.Known.{longer}
use Rattle.book_turn.specs.Rule.{EachBegins}

module _ {E : Type 0} where
  pub prefix_refl : (xs : List E) → IsPrefix xs xs
  prefix_refl xs = ([], sym (append-nil xs))

  pub prefix_trans : (xs ys zs : List E) → IsPrefix xs ys → IsPrefix ys zs → IsPrefix xs zs
  prefix_trans xs ys zs p q = (p.0 ++ q.0, q.1 ∙ ap (λ l. l ++ q.0) p.1 ∙ append_assoc xs p.0 q.0)

  pub prefix_longer : (xs ys h : List E) → IsPrefix xs h → IsPrefix ys h → length xs ≤ length ys → IsPrefix xs ys
  prefix_longer [] ys h p q l = (ys, refl)
  prefix_longer (x ∷ xs) [] h p q l = absurd (omega arith)
  prefix_longer (x ∷ xs) (y ∷ ys) [] p q l = let e = p.1 in absurd (cc)
  prefix_longer (x ∷ xs) (y ∷ ys) (z ∷ h) p q l = let e = p.1 in let f = q.1 in let r = prefix_longer xs ys h (p.0, cc) (q.0, cc) (omega arith) in let g = r.1 in (r.0, cc)

  drop_length : (xs zs : List E) → drop (length xs) (xs ++ zs) ≡ zs
  drop_length [] zs = refl
  drop_length (x ∷ xs) zs = drop_length xs zs

  pub added_append : (xs zs : List E) → added xs (xs ++ zs) ≡ zs
  added_append xs zs = drop_length xs zs

  pub added_is : (xs ys : List E) → IsPrefix xs ys → xs ++ added xs ys ≡ ys
  added_is xs ys p = ap (λ r. xs ++ r) (ap (λ l. drop (length xs) l) p.1 ∙ drop_length xs p.0) ∙ sym p.1

  -- the longer of two beginnings is one
  pub longer_prefix : (xs ys h : List E) → IsPrefix xs h → IsPrefix ys h → IsPrefix (longer xs ys) h
  longer_prefix xs ys h p q = go (leb (length ys) (length xs))
    where
      go : (b : Bool) → IsPrefix (if b then xs else ys) h
      go true = p
      go false = q

  pub longer_begins : (xs ys h : List E) → IsPrefix xs h → IsPrefix ys h → EachBegins (xs ∷ ys ∷ []) (longer xs ys)
  longer_begins xs ys h p q = go (leb (length ys) (length xs)) refl
    where
      go : (b : Bool) → leb (length ys) (length xs) ≡ b → EachBegins (xs ∷ ys ∷ []) (if b then xs else ys)
      go true t = let l = leb-true _ _ t in (prefix_refl xs, (prefix_longer ys xs h q p l, tt))
      go false t = let l = leb-false _ _ t in (prefix_longer xs ys h p q (omega arith), (prefix_refl ys, tt))

  pub longer_whole : (xs ys h : List E) → xs ≡ h → IsPrefix ys h → longer xs ys ≡ h
  longer_whole xs ys h e q = go (leb (length ys) (length xs)) refl
    where
      go : (b : Bool) → leb (length ys) (length xs) ≡ b → (if b then xs else ys) ≡ h
      go true t = e
      go false t = let l = leb-false _ _ t in absurd (omega (arith, ap length e, ap length q.1, length-append ys q.0))

module _ {D R O : Type 0} where
  not_owned : (b : Bool) (x : Event D R O) (a : List (Event D R O)) → b ≡ false → a ≡ [] → (if b then x ∷ a else a) ≡ []
  not_owned true x a f e = absurd (true≢false f)
  not_owned false x a f e = e

  pub none_owned : (es : List (Event D R O)) → AllOwned false es → owned es ≡ []
  none_owned [] h = refl
  none_owned (e ∷ es) h = not_owned (is_owned e) e (owned es) h.0 (none_owned es h.1)
