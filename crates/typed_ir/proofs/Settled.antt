-- One pass over the nodes in an order gives the one valuation that satisfies them, and so do rounds.
use Rattle.std.proofs.Common.{◌≡◌, ℕ, zero, suc, ◌+◌, ◌≤◌, true, false, inl, inr, List, [], ◌∷◌, length, refl, sym, ◌∙◌, ap, arith}
use Rattle.std.proofs.lemmas.Bool.{or_from}
use Rattle.std.proofs.lemmas.Nat.Bits.{same_from_bits}
use Rattle.typed_ir.specs.Valuations.{Valuation, Places, look}
use Rattle.typed_ir.proofs.Cases.{by_cases, or_left, or_right}
use Rattle.typed_ir.specs.Orders.{round_by, pass, any_drives, Ordered, Member, Each, NodeLaws}
use Rattle.typed_ir.specs.Cycles.{repeated}

-- environments with the same bits are equal
pub same_valuation : (v w : Valuation) → ((s i : ℕ) → look v s i ≡ look w s i) → v ≡ w
same_valuation v w h = λ j s. same_from_bits (v s) (w s) (h s) j

-- a bit that no node of the list drives stays
pub round-outside : {N : Type 0} {drives reads : N → Places} {drive : N → Valuation → Valuation → Valuation} {Complete : N → Type 0}
    → NodeLaws drives reads drive Complete → (ks : List N) (v env : Valuation) (s i : ℕ)
    → any_drives drives ks s i ≡ false → look (round_by drive ks v env) s i ≡ look env s i
round-outside l [] v env s i h = refl
round-outside {N} {drives} {reads} {drive} l (k ∷ ks) v env s i h =
    round-outside l ks v (drive k v env) s i (or_right (drives k s i) (any_drives drives ks s i) h)
    ∙ l.outside k v env s i (or_left (drives k s i) (any_drives drives ks s i) h)

-- what rounds need of an order of the nodes
pub record IsRound {N : Type 0} (drives : N → Places) (drive : N → Valuation → Valuation → Valuation) (os : List N) (base : Valuation) (R : Valuation → Valuation) : Type 0 where
  pub driven : (k : N) → Member k os → (v env : Valuation) (s i : ℕ) → drives k s i ≡ true → look (R v) s i ≡ look (drive k v env) s i
  pub free : (v : Valuation) (s i : ℕ) → any_drives drives os s i ≡ false → look (R v) s i ≡ look base s i

-- the pass over nodes in order ends at v, where v has what each of these nodes gives over it, and env has v's other bits
pub passes : {N : Type 0} {drives reads : N → Places} {drive : N → Valuation → Valuation → Valuation} {Complete : N → Type 0}
    → NodeLaws drives reads drive Complete → (ks : List N) → Ordered drives reads ks → Each Complete ks → (env v : Valuation)
    → ((k : N) → Member k ks → (env : Valuation) (s i : ℕ) → drives k s i ≡ true → look v s i ≡ look (drive k v env) s i)
    → ((s i : ℕ) → any_drives drives ks s i ≡ false → look env s i ≡ look v s i)
    → (s i : ℕ) → look (pass drive ks env) s i ≡ look v s i
passes l [] ord c env v fixed agree s i = agree s i refl
passes {N} {drives} {reads} {drive} l (k ∷ ks) ord c env v fixed agree s i =
    passes l ks ord.1 c.1 (drive k env env) v (λ j m. fixed j (inr m))
    (λ t j free. by_cases (drives k t j)
    (λ d. l.local k env v env env c.0 (λ t' j' r. agree t' j' (ord.0 t' j' r)) t j d ∙ sym (fixed k (inl refl) env t j d))
    (λ d. l.outside k env env t j d ∙ agree t j (or_from (drives k t j) (any_drives drives ks t j) d free)))
    s i

-- what no node drives is the same after any number of rounds
pub rounds-free : {N : Type 0} {drives : N → Places} {drive : N → Valuation → Valuation → Valuation} {os : List N} {base : Valuation} {R : Valuation → Valuation}
    → IsRound drives drive os base R → (m : ℕ) (s i : ℕ) → any_drives drives os s i ≡ false → look (repeated m R base) s i ≡ look base s i
rounds-free r zero s i h = refl
rounds-free {N} {drives} {drive} {os} {base} {R} r (suc m) s i h = r.free (repeated m R base) s i h

-- one more node is settled by one more round
pub rounds-step : {N : Type 0} {drives reads : N → Places} {drive : N → Valuation → Valuation → Valuation} {Complete : N → Type 0} {os : List N} {base : Valuation} {R : Valuation → Valuation}
    → NodeLaws drives reads drive Complete → IsRound drives drive os base R → (k : N) (ks : List N) → Member k os → Complete k
    → ((s i : ℕ) → reads k s i ≡ true → any_drives drives (k ∷ ks) s i ≡ false) → (n : ℕ)
    → ((m p : ℕ) → n ≤ m → n ≤ p → (s i : ℕ) → any_drives drives (k ∷ ks) s i ≡ false → look (repeated m R base) s i ≡ look (repeated p R base) s i)
    → (m p : ℕ) → n + 1 ≤ m → n + 1 ≤ p → (s i : ℕ) → any_drives drives ks s i ≡ false → look (repeated m R base) s i ≡ look (repeated p R base) s i
rounds-step l r k ks mem c ord n agree zero p lo hi s i h = absurd (omega (arith, lo))
rounds-step l r k ks mem c ord n agree (suc m) zero lo hi s i h = absurd (omega (arith, hi))
rounds-step {N} {drives} {reads} {drive} {Complete} {os} {base} {R} l r k ks mem c ord n agree (suc m) (suc p) lo hi s i h =
    by_cases (drives k s i)
    (λ d. r.driven k mem (repeated m R base) base s i d
    ∙ l.local k (repeated m R base) (repeated p R base) base base c (λ t j q. agree m p (omega (arith, lo)) (omega (arith, hi)) t j (ord t j q)) s i d
    ∙ sym (r.driven k mem (repeated p R base) base s i d))
    (λ d. agree (suc m) (suc p) (omega (arith, lo)) (omega (arith, hi)) s i (or_from (drives k s i) (any_drives drives ks s i) d h))

pub rounds-settle : {N : Type 0} {drives reads : N → Places} {drive : N → Valuation → Valuation → Valuation} {Complete : N → Type 0} {os : List N} {base : Valuation} {R : Valuation → Valuation}
    → NodeLaws drives reads drive Complete → IsRound drives drive os base R
    → (ks : List N) → ((k : N) → Member k ks → Member k os) → Ordered drives reads ks → Each Complete ks → (n : ℕ)
    → ((m p : ℕ) → n ≤ m → n ≤ p → (s i : ℕ) → any_drives drives ks s i ≡ false → look (repeated m R base) s i ≡ look (repeated p R base) s i)
    → (m p : ℕ) → n + length ks ≤ m → n + length ks ≤ p → (s i : ℕ) → look (repeated m R base) s i ≡ look (repeated p R base) s i
rounds-settle l r [] mem ord c n agree m p lo hi s i = agree m p (omega (arith, lo)) (omega (arith, hi)) s i refl
rounds-settle l r (k ∷ ks) mem ord c n agree m p lo hi s i =
    rounds-settle l r ks (λ j q. mem j (inr q)) ord.1 c.1 (n + 1) (rounds-step l r k ks (mem k (inl refl)) c.0 ord.0 n agree)
    m p (omega (arith, lo)) (omega (arith, hi)) s i

-- after as many rounds as nodes nothing changes any more
pub rounds-satisfy : {N : Type 0} {drives reads : N → Places} {drive : N → Valuation → Valuation → Valuation} {Complete : N → Type 0} {os : List N} {base : Valuation} {R : Valuation → Valuation}
    → NodeLaws drives reads drive Complete → IsRound drives drive os base R → Ordered drives reads os → Each Complete os
    → (n : ℕ) → length os ≤ n → R (repeated n R base) ≡ repeated n R base
rounds-satisfy {N} {drives} {reads} {drive} {Complete} {os} {base} {R} l r ord c n h =
    same_valuation (repeated (suc n) R base) (repeated n R base)
    (rounds-settle l r os (λ k m. m) ord c 0
    (λ m p lo hi s i free. rounds-free r m s i free ∙ sym (rounds-free r p s i free))
    (suc n) n (omega (arith, h)) (omega (arith, h)))

-- what satisfies the nodes is what the pass gives
pub pass-only : {N : Type 0} {drives reads : N → Places} {drive : N → Valuation → Valuation → Valuation} {Complete : N → Type 0} {os : List N} {base : Valuation} {R : Valuation → Valuation}
    → NodeLaws drives reads drive Complete → IsRound drives drive os base R → Ordered drives reads os → Each Complete os
    → (v : Valuation) → R v ≡ v → pass drive os base ≡ v
pass-only {N} {drives} {reads} {drive} {Complete} {os} {base} {R} l r ord c v h =
    same_valuation (pass drive os base) v
    (passes l os ord c base v
    (λ k m env s i d. ap (λ e. look e s i) (sym h) ∙ r.driven k m v env s i d)
    (λ s i free. sym (ap (λ e. look e s i) (sym h) ∙ r.free v s i free)))
