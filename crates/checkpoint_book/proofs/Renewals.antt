-- The marks of a reload are its two parts.
use Rattle.std.proofs.Common.{◌≡◌, ℕ, zero, suc, ◌+◌, ◌-◌, ◌*◌, ◌<◌, ◌≤◌, List, [], ◌∷◌, ◌++◌, length, take, drop, get_or, refl, sym, ◌∙◌, ap, subst, arith, add-one, drop_of_length-le, append_assoc, append-nil, length-append, drop-cons, true, false, leb}
use Rattle.std.specs.Prelude.{All}
use Rattle.std.proofs.lemmas.Bool.{cond_both, cases_lt}
use Rattle.std.proofs.lemmas.List.{drop-take}
use Rattle.std.proofs.Common.{inl, inr, drop-drop, length-drop, length-take-le}
use Rattle.book_history.proofs.Outlines.{length-cycles}
use Rattle.checkpoint_book.proofs.Lengths.{length-simulated}
use Rattle.std.proofs.lemmas.Grind.{take_at_read}
use Rattle.machine.specs.Kit.{Kit, Laws}
use Rattle.machine.specs.Rows.{between}
use Rattle.book_history.specs.declared.segment.Segment.{Segment}
use Rattle.book_history.specs.declared.link.Link.{Link}
use Rattle.book_history.specs.declared.link.Link.TheVariants.{Open, Joined}
use Rattle.book_history.specs.Book.{slice, last_cycle, last_state, cycles, simulated, reloaded, chosen}
use Rattle.book_history.specs.Truth.{Chain}
use Rattle.checkpoint_book.specs.Grid.{AgreeFrom}
use Rattle.checkpoint_book.specs.Renew.{kept_count, carried_over, Rises, AllFit}
use Rattle.book_history.proofs.Kept.{last_state-snoc}

pub carried-snoc : {D S R O : Type 0} (k : Kit D S R O) (old new : D) (ops : O) (xs : List (Segment S)) (g : Segment S)
    → carried_over k old new ops (xs ++ g ∷ []) ≡ carried_over k old new ops xs ++ record { link = Open; to = g.to; state = k.carried old new ops g.state } ∷ []
carried-snoc k old new ops [] g = refl
carried-snoc {D} {S} k old new ops (x ∷ xs) g =
    ap (λ (l : List (Segment S)). record { link = Open; to = x.to; state = k.carried old new ops x.state } ∷ l) (carried-snoc k old new ops xs g)

pub carried_next : {D S R O : Type 0} (k : Kit D S R O) (old new : D) (ops : O) (segs before now : List (Segment S)) (i : ℕ) (g : Segment S) (s : S) → i < length segs → g ≡ get_or segs i g
    → s ≡ k.carried old new ops g.state → now ≡ before ++ carried_over k old new ops (take i segs)
    → now ++ record { link = Open; to = g.to; state = s } ∷ [] ≡ before ++ carried_over k old new ops (take (i + 1) segs)
carried_next {D} {S} k old new ops segs before now i g s lt is state e =
    let t : take (i + 1) segs ≡ take i segs ++ g ∷ [] = (take_at_read segs i g lt).1 ∙ ap (λ (x : Segment S). take i segs ++ x ∷ []) (sym is) in
    ap (λ (l : List (Segment S)). l ++ record { link = Open; to = g.to; state = s } ∷ []) e
    ∙ ap (λ (x : S). (before ++ carried_over k old new ops (take i segs)) ++ record { link = Open; to = g.to; state = x } ∷ []) state
    ∙ append_assoc before (carried_over k old new ops (take i segs)) (record { link = Open; to = g.to; state = k.carried old new ops g.state } ∷ [])
    ∙ ap (λ (l : List (Segment S)). before ++ l) (sym (carried-snoc k old new ops (take i segs) g))
    ∙ ap (λ (l : List (Segment S)). before ++ carried_over k old new ops l) (sym t)

pub length-carried : {D S R O : Type 0} (k : Kit D S R O) (old new : D) (ops : O) (xs : List (Segment S)) → length (carried_over k old new ops xs) ≡ length xs
length-carried k old new ops [] = refl
length-carried k old new ops (x ∷ xs) = omega (arith, length-carried k old new ops xs)

pub kept_within : {S : Type 0} (limit : ℕ) (segs : List (Segment S)) → kept_count limit segs ≤ length segs
kept_within limit [] = omega arith
kept_within limit (g ∷ gs) =
    cond_both (leb g.to limit) (suc (kept_count limit gs)) 0 (λ n. n ≤ suc (length gs)) (λ _. omega (arith, kept_within limit gs)) (λ _. omega arith)

-- the marks up to the limit, then those after it
pub reloaded_parts : {D S R O : Type 0} (k : Kit D S R O) (old new : D) (ops : O) (rows : List R) (limit a : ℕ) (s : S) (segs : List (Segment S))
    → reloaded k old new ops rows limit a s segs
    ≡ carried_over k old new ops (take (kept_count limit segs) segs)
    ++ simulated k new rows (chosen limit a segs) (last_state s (carried_over k old new ops (take (kept_count limit segs) segs))) (cycles (drop (kept_count limit segs) segs))
reloaded_parts k old new ops rows limit a s [] = refl
reloaded_parts {D} {S} k old new ops rows limit a s (g ∷ gs) = go (leb g.to limit) refl (reloaded_parts k old new ops rows limit g.to (k.carried old new ops g.state) gs)
  where
    go : (b : _) → leb g.to limit ≡ b
        → reloaded k old new ops rows limit g.to (k.carried old new ops g.state) gs
        ≡ carried_over k old new ops (take (kept_count limit gs) gs)
        ++ simulated k new rows (chosen limit g.to gs) (last_state (k.carried old new ops g.state) (carried_over k old new ops (take (kept_count limit gs) gs))) (cycles (drop (kept_count limit gs) gs))
        → reloaded k old new ops rows limit a s (g ∷ gs)
        ≡ carried_over k old new ops (take (kept_count limit (g ∷ gs)) (g ∷ gs))
        ++ simulated k new rows (chosen limit a (g ∷ gs)) (last_state s (carried_over k old new ops (take (kept_count limit (g ∷ gs)) (g ∷ gs)))) (cycles (drop (kept_count limit (g ∷ gs)) (g ∷ gs)))
    go true is ih = rw is (ap (λ (l : List (Segment S)). record { link = Open; to = g.to; state = k.carried old new ops g.state } ∷ l) ih)
    go false is ih = rw is refl

pub chosen_is : {S : Type 0} (limit a : ℕ) (segs : List (Segment S)) → chosen limit a segs ≡ last_cycle a (take (kept_count limit segs) segs)
chosen_is limit a [] = refl
chosen_is {S} limit a (g ∷ gs) = go (leb g.to limit) refl (chosen_is limit g.to gs)
  where
    go : (b : _) → leb g.to limit ≡ b → chosen limit g.to gs ≡ last_cycle g.to (take (kept_count limit gs) gs)
        → chosen limit a (g ∷ gs) ≡ last_cycle a (take (kept_count limit (g ∷ gs)) (g ∷ gs))
    go true is ih = rw is ih
    go false is ih = rw is refl

pub last_cycle-parts : {S : Type 0} (a n : ℕ) (segs : List (Segment S)) → last_cycle (last_cycle a (take n segs)) (drop n segs) ≡ last_cycle a segs
last_cycle-parts a zero segs = refl
last_cycle-parts a (suc n) [] = refl
last_cycle-parts a (suc n) (g ∷ gs) = last_cycle-parts g.to n gs

pub rises_after : {S : Type 0} (a n : ℕ) (segs : List (Segment S)) → Rises a segs → Rises (last_cycle a (take n segs)) (drop n segs)
rises_after a zero segs h = h
rises_after a (suc n) [] h = h
rises_after a (suc n) (g ∷ gs) h = rises_after g.to n gs h.1

pub rises_le : {S : Type 0} (a : ℕ) (segs : List (Segment S)) → Rises a segs → a ≤ last_cycle a segs
rises_le a [] h = omega arith
rises_le a (g ∷ gs) h = omega (arith, h.0, rises_le g.to gs h.1)

pub chain-rises : {S : Type 0} (F : S → Type 0) (J : Link → ℕ → S → ℕ → S → Type 0) (a : ℕ) (s : S) (segs : List (Segment S)) → Chain F J a s segs → Rises a segs
chain-rises F J a s [] h = tt
chain-rises F J a s (g ∷ gs) h = (h.1, chain-rises F J g.to g.state gs h.3)

-- what each turn of the simulation keeps
pub record Simulated {D S R O : Type 0} (k : Kit D S R O) (fits : S → Type 0) (m : D) (rows : ℕ × List R) (first : S) (segs before now : List (Segment S)) (i from at w steps steps' : ℕ) : Type 0 where
  pub items : (all : List R) → AgreeFrom from (last_cycle from segs) rows all
      → now ++ simulated k m all at (last_state first now) (cycles (drop i segs)) ≡ before ++ simulated k m all from (last_state first before) (cycles segs)
  pub fit : fits (last_state first now)
  pub rises : Rises at (drop i segs)
  pub ends : last_cycle at (drop i segs) ≡ last_cycle from segs
  pub after : from ≤ at
  pub count : length now ≡ length before + i
  pub taken : steps' ≡ steps + (at - from) * w

pub record Ahead {S : Type 0} (segs : List (Segment S)) (i from at : ℕ) (g : Segment S) : Type 0 where
  pub rest : drop i segs ≡ g ∷ drop (i + 1) segs
  pub rises : at < g.to
  pub within : g.to ≤ last_cycle from segs
  pub later : Rises g.to (drop (i + 1) segs)
  pub ends : last_cycle g.to (drop (i + 1) segs) ≡ last_cycle from segs

pub ahead : {S : Type 0} (segs : List (Segment S)) (i from at : ℕ) (g : Segment S) → i < length segs → g ≡ get_or segs i g
    → Rises at (drop i segs) → last_cycle at (drop i segs) ≡ last_cycle from segs → Ahead segs i from at g
ahead {S} segs i from at g lt is rises ends =
    let e : drop i segs ≡ g ∷ drop (suc i) segs = drop-cons segs i g lt ∙ ap (λ (x : Segment S). x ∷ drop (suc i) segs) (sym is) in
    let e' : drop i segs ≡ g ∷ drop (i + 1) segs = e ∙ ap (λ (n : ℕ). g ∷ drop n segs) (sym (add-one i)) in
    let r : Rises at (g ∷ drop (i + 1) segs) = subst (λ (l : List (Segment S)). Rises at l) e' rises in
    let l : last_cycle at (g ∷ drop (i + 1) segs) ≡ last_cycle from segs = ap (λ (x : List (Segment S)). last_cycle at x) (sym e') ∙ ends in
    record { rest = e'; rises = r.0; within = omega (arith, rises_le g.to (drop (i + 1) segs) r.1, l); later = r.1; ends = l }

pub simulated_more : {D S R O : Type 0} (k : Kit D S R O) (fits : S → Type 0) (m : D) (rows : ℕ × List R) (first : S) (segs before now : List (Segment S)) (i from at w steps steps' steps'' : ℕ) (g : Segment S) (s : S)
    → i < length segs → g ≡ get_or segs i g → Simulated k fits m rows first segs before now i from at w steps steps' → fits s
    → s ≡ k.seg m (between rows at g.to) (last_state first now) → steps'' ≡ steps' + (g.to - at) * w
    → Simulated k fits m rows first segs before (now ++ record { link = Joined; to = g.to; state = s } ∷ []) (i + 1) from g.to w steps steps''
simulated_more {D} {S} {R} k fits m rows first segs before now i from at w steps steps' steps'' g s lt is h fit state taken =
    let seg : Segment S = record { link = Joined; to = g.to; state = s } in
    let a = ahead segs i from at g lt is h.rises h.ends in
    let last : last_state first (now ++ seg ∷ []) ≡ s = last_state-snoc first now seg in
    let e : (at - from) + (g.to - at) ≡ g.to - from = omega (arith, h.after, a.rises) in
    let product : ((at - from) + (g.to - at)) * w ≡ (g.to - from) * w = ap (λ (x : ℕ). x * w) e in
    record {
      items = λ all agree.
          let run : s ≡ k.seg m (slice all at g.to) (last_state first now) =
          state ∙ ap (λ (x : List R). k.seg m x (last_state first now)) (agree at g.to h.after a.within) in
          ap (λ (x : S). (now ++ seg ∷ []) ++ simulated k m all g.to x (cycles (drop (i + 1) segs))) last
          ∙ append_assoc now (seg ∷ []) (simulated k m all g.to s (cycles (drop (i + 1) segs)))
          ∙ ap (λ (x : S). now ++ record { link = Joined; to = g.to; state = x } ∷ simulated k m all g.to x (cycles (drop (i + 1) segs))) run
          ∙ ap (λ (l : List (Segment S)). now ++ simulated k m all at (last_state first now) (cycles l)) (sym a.rest)
          ∙ h.items all agree;
      fit = subst fits (sym last) fit;
      rises = a.later;
      ends = a.ends;
      after = omega (arith, h.after, a.rises);
      count = omega (arith, h.count, length-append now (seg ∷ []));
      taken = omega (arith, product, h.taken, taken);
    }

pub simulated_none : {D S R O : Type 0} (k : Kit D S R O) (fits : S → Type 0) (m : D) (rows : ℕ × List R) (first : S) (segs before : List (Segment S)) (from w steps : ℕ)
    → fits (last_state first before) → Rises from segs → Simulated k fits m rows first segs before before 0 from from w steps steps
simulated_none k fits m rows first segs before from w steps fit rises =
    let none : from - from ≡ 0 = omega arith in
    let product : (from - from) * w ≡ 0 * w = ap (λ (x : ℕ). x * w) none in
    record { items = λ all agree. refl; fit = fit; rises = rises; ends = refl; after = omega arith; count = omega arith; taken = omega (arith, product) }

pub simulated_all : {D S R O : Type 0} (k : Kit D S R O) (fits : S → Type 0) (m : D) (rows : ℕ × List R) (first : S) (segs before now : List (Segment S)) (i from at w steps steps' : ℕ)
    → length segs ≤ i → Simulated k fits m rows first segs before now i from at w steps steps' → (all : List R) → AgreeFrom from (last_cycle from segs) rows all
    → now ≡ before ++ simulated k m all from (last_state first before) (cycles segs)
simulated_all {D} {S} k fits m rows first segs before now i from at w steps steps' le h all agree =
    let none : drop i segs ≡ [] = drop_of_length-le segs le in
    sym (append-nil now)
    ∙ ap (λ (l : List (Segment S)). now ++ simulated k m all at (last_state first now) (cycles l)) (sym none)
    ∙ h.items all agree

pub taken_all : {D S R O : Type 0} (k : Kit D S R O) (fits : S → Type 0) (m : D) (rows : ℕ × List R) (first : S) (segs before now : List (Segment S)) (i from at w steps steps' : ℕ)
    → length segs ≤ i → Simulated k fits m rows first segs before now i from at w steps steps' → steps' ≡ steps + (last_cycle from segs - from) * w
taken_all {D} {S} k fits m rows first segs before now i from at w steps steps' le h =
    let none : drop i segs ≡ [] = drop_of_length-le segs le in
    let end : at ≡ last_cycle from segs = ap (λ (l : List (Segment S)). last_cycle at l) (sym none) ∙ h.ends in
    h.taken ∙ ap (λ (x : ℕ). steps + (x - from) * w) end

-- the two parts of a book's links

pub all_of : {S : Type 0} (F : S → Type 0) (segs : List (Segment S)) → AllFit F segs → All (λ g. F g.state) segs
all_of F [] h = λ i d lt. absurd (omega arith)
all_of F (g ∷ gs) h = all_cons F g gs h.0 (all_of F gs h.1)
  where
    all_cons : {S : Type 0} (F : S → Type 0) (g : Segment S) (gs : List (Segment S)) → F g.state → All (λ x. F x.state) gs → All (λ x. F x.state) (g ∷ gs)
    all_cons F g gs h rest zero d lt = h
    all_cons F g gs h rest (suc i) d lt = rest i d (omega arith)

pub fit_front : {S : Type 0} (F : S → Type 0) (n : ℕ) (segs : List (Segment S)) → AllFit F segs → AllFit F (take n segs)
fit_front F zero segs h = tt
fit_front F (suc n) [] h = tt
fit_front F (suc n) (g ∷ gs) h = (h.0, fit_front F n gs h.1)

pub carried_last : {D S R O : Type 0} (k : Kit D S R O) (fits : D → S → Type 0) (valid : D → D → O → Type 0) → Laws k fits valid → (old new : D) (ops : O) → valid old new ops
    → (s : S) (segs : List (Segment S)) → fits new s → AllFit (fits old) segs → fits new (last_state s (carried_over k old new ops segs))
carried_last k fits valid laws old new ops v s [] f h = f
carried_last k fits valid laws old new ops v s (g ∷ gs) f h = carried_last k fits valid laws old new ops v (k.carried old new ops g.state) gs (laws.carried_fits old new ops g.state v h.0) h.1

pub record Parts {S : Type 0} (F : S → Type 0) (limit len from : ℕ) (segs kept later : List (Segment S)) : Type 0 where
  pub from_le : from ≤ len
  pub rises : Rises from later
  pub end : last_cycle from later ≡ len
  pub fit : AllFit F kept
  pub sum : length kept + length later ≡ length segs
  pub kept_is : kept ≡ take (kept_count limit segs) segs
  pub later_is : later ≡ drop (kept_count limit segs) segs
  pub from_is : from ≡ chosen limit 0 segs

pub parts : {S : Type 0} (F : S → Type 0) (limit len from count : ℕ) (segs kept later : List (Segment S)) → count ≡ kept_count limit segs → from ≡ chosen limit 0 segs
    → kept ≡ take count segs → later ≡ drop count segs → Rises 0 segs → last_cycle 0 segs ≡ len → AllFit F segs → Parts F limit len from segs kept later
parts {S} F limit len from count segs kept later counted chose front back rises end fit =
    let n = kept_count limit segs in
    let kept_is : kept ≡ take n segs = front ∙ ap (λ (i : ℕ). take i segs) counted in
    let later_is : later ≡ drop n segs = back ∙ ap (λ (i : ℕ). drop i segs) counted in
    let from_is : from ≡ last_cycle 0 (take n segs) = chose ∙ chosen_is limit 0 segs in
    let rises1 : Rises (last_cycle 0 (take n segs)) (drop n segs) = rises_after 0 n segs rises in
    let rises2 : Rises from (drop n segs) = subst (λ (i : ℕ). Rises i (drop n segs)) (sym from_is) rises1 in
    let rises3 : Rises from later = subst (λ (l : List (Segment S)). Rises from l) (sym later_is) rises2 in
    let end1 : last_cycle from later ≡ len =
    ap (λ (i : ℕ). last_cycle i later) from_is ∙ ap (λ (l : List (Segment S)). last_cycle (last_cycle 0 (take n segs)) l) later_is ∙ last_cycle-parts 0 n segs ∙ end in
    record {
      from_le = omega (arith, rises_le from later rises3, end1);
      rises = rises3;
      end = end1;
      fit = subst (λ (l : List (Segment S)). AllFit F l) (sym kept_is) (fit_front F n segs fit);
      sum = omega (arith, ap (λ (l : List (Segment S)). length l) kept_is, ap (λ (l : List (Segment S)). length l) later_is, length-drop n segs, length-take-le n segs (kept_within limit segs), kept_within limit segs);
      kept_is = kept_is;
      later_is = later_is;
      from_is = chose;
    }

-- the parts put together are the reload's marks
pub parts_are : {D S R O : Type 0} (k : Kit D S R O) (F : S → Type 0) (old new : D) (ops : O) (rows : List R) (limit len from : ℕ) (s : S) (segs kept later : List (Segment S)) → Parts F limit len from segs kept later
    → carried_over k old new ops kept ++ simulated k new rows from (last_state s (carried_over k old new ops kept)) (cycles later) ≡ reloaded k old new ops rows limit 0 s segs
parts_are {D} {S} k F old new ops rows limit len from s segs kept later p =
    let n = kept_count limit segs in
    let G : List (Segment S) → List (Segment S) → ℕ → List (Segment S) = λ a b i. carried_over k old new ops a ++ simulated k new rows i (last_state s (carried_over k old new ops a)) (cycles b) in
    ap (λ (a : List (Segment S)). G a later from) p.kept_is
    ∙ ap (λ (b : List (Segment S)). G (take n segs) b from) p.later_is
    ∙ ap (λ (i : ℕ). G (take n segs) (drop n segs) i) p.from_is
    ∙ sym (reloaded_parts k old new ops rows limit 0 s segs)

pub length-reloaded : {D S R O : Type 0} (k : Kit D S R O) (old new : D) (ops : O) (rows : List R) (limit a : ℕ) (s : S) (segs : List (Segment S)) → length (reloaded k old new ops rows limit a s segs) ≡ length segs
length-reloaded {D} {S} k old new ops rows limit a s segs =
    let n = kept_count limit segs in
    let c = carried_over k old new ops (take n segs) in
    let t = simulated k new rows (chosen limit a segs) (last_state s c) (cycles (drop n segs)) in
    omega (
      arith,
      ap (λ (l : List (Segment S)). length l) (reloaded_parts k old new ops rows limit a s segs),
      length-append c t,
      length-carried k old new ops (take n segs),
      length-simulated k new rows (chosen limit a segs) (last_state s c) (cycles (drop n segs)),
      length-cycles (drop n segs),
      length-drop n segs,
      length-take-le n segs (kept_within limit segs),
      kept_within limit segs,
    )

pub take-less : {A : Type 0} (n m : ℕ) (xs : List A) → take n (take (n + m) xs) ≡ take n xs
take-less zero m xs = refl
take-less {A} (suc n) m [] = ap (λ (l : List A). take (suc n) l) (take-nil (suc n + m))
  where
    take-nil : (k : ℕ) → take {A = A} k [] ≡ []
    take-nil zero = refl
    take-nil (suc k) = refl
take-less {A} (suc n) m (x ∷ xs) =
    let e : suc n + m ≡ suc (n + m) = omega arith in
    ap (λ (i : ℕ). take (suc n) (take i (x ∷ xs))) e ∙ ap (λ (l : List A). x ∷ l) (take-less n m xs)

pub parted : {R : Type 0} (rows : List R) (from end a b : ℕ) → from ≤ a → a ≤ b → b ≤ end → between (from, between (0, rows) from end) a b ≡ slice rows a b
parted {R} rows from end a b ge rises lt =
    let n : (b - from) - (a - from) ≡ b - a = omega (arith, ge, rises) in
    let z : (end - 0) - (from - 0) ≡ (a - from) + ((b - a) + (end - b)) = omega (arith, ge, rises, lt) in
    let at : (from - 0) + (a - from) ≡ a = omega (arith, ge) in
    let whole = drop (from - 0) rows in
    ap (λ (i : ℕ). take i (drop (a - from) (between (0, rows) from end))) n
    ∙ ap (λ (i : ℕ). take (b - a) (drop (a - from) (take i whole))) z
    ∙ ap (λ (l : List R). take (b - a) l) (drop-take (a - from) ((b - a) + (end - b)) whole)
    ∙ take-less (b - a) (end - b) (drop (a - from) whole)
    ∙ ap (λ (l : List R). take (b - a) l) (drop-drop (a - from) (from - 0) rows ∙ ap (λ (i : ℕ). drop i rows) at)

-- rows from a cycle on, cut from a record
pub agree_part : {R : Type 0} (rows : List R) (from end : ℕ) → from ≤ end → end ≤ length rows → AgreeFrom from end (from, between (0, rows) from end) rows
agree_part {R} rows from end le within = λ a b ge lt.
    elim (cases_lt b a) [
      | inl falls ↦
          ap (λ (i : ℕ). take i (drop (a - from) (between (0, rows) from end))) {x = (b - from) - (a - from)} {y = 0} (omega (arith, falls, ge))
          ∙ sym (ap (λ (i : ℕ). take i (drop a rows)) {x = b - a} {y = 0} (omega (arith, falls)))
      | inr rises ↦ parted rows from end a b ge rises lt
    ]
