-- Walks over lists of steps.
use Rattle.std.proofs.Common.{Bool, ◌≡◌, ℕ, zero, suc, ◌+◌, ◌<◌, List, [], ◌∷◌, ◌++◌, length, get_or, drop, refl, sym, ◌∙◌, ap, arith}
use Rattle.std.specs.Prelude.{◌≤◌, ◌&&◌, ◌||◌, not, nat_le, nat_lt}
use Rattle.std.proofs.lemmas.Bool.{cond-true, cond-false, leb-true, ltb-true}
use Rattle.typed_ir.specs.Valuations.{Valuation, put}
use Rattle.typed_ir.proofs.Cases.{and_left, and_right}
use Rattle.word_steps.specs.declared.step.Step.{Step}
use Rattle.word_steps.specs.Walks.{At, at, act, apply, go_at, skips, writes, walk, seen, lowest}
use Rattle.word_steps.specs.declared.op.Op.{Op}
use Rattle.word_steps.specs.Sound.{are_sound, is_sound, is_placed, is_sized, is_long, has_room, lies_in}

pub walk-append : (xs ys : List Step) (p : At) → walk (xs ++ ys) p ≡ walk ys (walk xs p)
walk-append [] ys p = refl
walk-append (x ∷ xs) ys p = walk-append xs ys (go_at x p.skip p.words)

-- as many steps as there are, and more, are passed over
pub walk-past : (xs : List Step) (n : ℕ) (w : Valuation) → walk xs (at (length xs + n) w) ≡ at n w
walk-past [] n w = let e : 0 + n ≡ n = omega arith in ap (λ k. at k w) e
walk-past (x ∷ xs) n w =
    let e : length (x ∷ xs) + n ≡ suc (length xs + n) = omega arith in
    ap (λ k. walk (x ∷ xs) (at k w)) e ∙ walk-past xs n w

-- steps that are passed over may be dropped
pub walk-drop : (xs : List Step) (n : ℕ) (w : Valuation) → (walk xs (at n w)).words ≡ (walk (drop n xs) (at 0 w)).words
walk-drop [] zero w = refl
walk-drop [] (suc n) w = refl
walk-drop (x ∷ xs) zero w = refl
walk-drop (x ∷ xs) (suc n) w = walk-drop xs n w

-- one step more: what is left does what all did
pub walk-next : (steps : List Step) (index n : ℕ) (d : Step) (w w' : Valuation) → index < length steps
    → n ≡ skips (get_or steps index d).op (get_or steps index d).width (get_or steps index d).c (w (get_or steps index d).a) (w (get_or steps index d).b) → w' ≡ act (get_or steps index d) w
    → (walk (drop (index + 1 + n) steps) (at 0 w')).words ≡ (walk (drop index steps) (at 0 w)).words
walk-next [] index n d w w' h en ew = absurd (omega (arith, h))
walk-next (x ∷ xs) zero n d w w' h en ew =
    let e : 0 + 1 + n ≡ suc n = omega arith in
    ap (λ k. (walk (drop k (x ∷ xs)) (at 0 w')).words) e
    ∙ sym (walk-drop xs n w')
    ∙ ap (λ k. (walk xs (at k w')).words) en
    ∙ ap (λ v. (walk xs (at (skips x.op x.width x.c (w x.a) (w x.b)) v)).words) ew
walk-next (x ∷ xs) (suc index) n d w w' h en ew =
    let e : suc index + 1 + n ≡ suc (index + 1 + n) = omega arith in
    ap (λ k. (walk (drop k (x ∷ xs)) (at 0 w')).words) e
    ∙ walk-next xs index n d w w' (omega (arith, h)) en ew

sound-drop : (n : ℕ) (steps : List Step) (j : ℕ) → are_sound n steps ≡ Bool.true → are_sound n (drop j steps) ≡ Bool.true
sound-drop n [] zero k = k
sound-drop n [] (suc j) k = refl
sound-drop n (x ∷ xs) zero k = k
sound-drop n (x ∷ xs) (suc j) k = sound-drop n xs j (and_right (is_sound n x) (are_sound n xs) k)

pub sound-after : (n : ℕ) (steps : List Step) (index j : ℕ) → are_sound n (drop index steps) ≡ Bool.true → are_sound n (drop (index + 1 + j) steps) ≡ Bool.true
sound-after n [] index j k = ap (are_sound n) (none (index + 1 + j))
  where
    none : (i : ℕ) → drop {A = Step} i [] ≡ []
    none zero = refl
    none (suc i) = refl
sound-after n (x ∷ xs) zero j k =
    let e : 0 + 1 + j ≡ suc j = omega arith in
    ap (λ i. are_sound n (drop i (x ∷ xs))) e ∙ sound-drop n xs j (and_right (is_sound n x) (are_sound n xs) k)
sound-after n (x ∷ xs) (suc index) j k =
    let e : suc index + 1 + j ≡ suc (index + 1 + j) = omega arith in
    ap (λ i. are_sound n (drop i (x ∷ xs))) e ∙ sound-after n xs index j k

pub act-writes : (s : Step) (w : Valuation) → writes s.op ≡ Bool.true → act s w ≡ put w s.to (apply s.op s.width s.low (seen s.wide (w s.a)) (seen s.wide (w s.b)) (seen s.wide (w s.c)))
act-writes s w h = cond-true (writes s.op) (put w s.to (apply s.op s.width s.low (seen s.wide (w s.a)) (seen s.wide (w s.b)) (seen s.wide (w s.c)))) w h

pub sound_to : (n : ℕ) (s : Step) → is_sound n s ≡ Bool.true → s.to < n
sound_to n s h =
    let rest = nat_lt s.a n && (nat_lt s.b n && (nat_lt s.c n || not (writes s.op))) in
    ltb-true s.to n (and_left (nat_lt s.to n) rest (and_left (nat_lt s.to n && rest) (is_sized s.wide s.op s.width s.low) h))

sized_widths : (wide : Bool) (op : Op) (width low : ℕ) → is_sized wide op width low ≡ Bool.true → (1 ≤ width) × (width ≤ 128)
sized_widths Bool.true op width low h =
    let rest = and_right (nat_le 1 width) (nat_le width 128 && lies_in 128 op width low) h in
    (leb-true 1 width (and_left (nat_le 1 width) (nat_le width 128 && lies_in 128 op width low) h), leb-true width 128 (and_left (nat_le width 128) (lies_in 128 op width low) rest))
sized_widths Bool.false op width low h =
    let room = and_right (not (is_long op)) (has_room 64 op width low) h in
    let rest = and_right (nat_le 1 width) (nat_le width 64 && lies_in 64 op width low) room in
    let few : width ≤ 64 = leb-true width 64 (and_left (nat_le width 64) (lies_in 64 op width low) rest) in
    (leb-true 1 width (and_left (nat_le 1 width) (nat_le width 64 && lies_in 64 op width low) room), omega (arith, few))

-- the width of a sound step is one of words
pub sound_some : (n : ℕ) (s : Step) → is_sound n s ≡ Bool.true → 1 ≤ s.width
sound_some n s h = (sized_widths s.wide s.op s.width s.low (and_right (is_placed n s) (is_sized s.wide s.op s.width s.low) h)).0

pub sound_few : (n : ℕ) (s : Step) → is_sound n s ≡ Bool.true → s.width ≤ 128
sound_few n s h = (sized_widths s.wide s.op s.width s.low (and_right (is_placed n s) (is_sized s.wide s.op s.width s.low) h)).1

pub act_still : (s : Step) (w : Valuation) → writes s.op ≡ Bool.false → act s w ≡ w
act_still s w h = cond-false (writes s.op) (put w s.to (apply s.op s.width s.low (seen s.wide (w s.a)) (seen s.wide (w s.b)) (seen s.wide (w s.c)))) w h

pub act_wide : (s : Step) (w : Valuation) → writes s.op ≡ Bool.true → s.wide ≡ Bool.true
    → act s w ≡ put w s.to (apply s.op s.width s.low (w s.a) (w s.b) (w s.c))
act_wide s w h e = act-writes s w h ∙ ap (λ b. put w s.to (apply s.op s.width s.low (seen b (w s.a)) (seen b (w s.b)) (seen b (w s.c)))) e

pub act_short : (s : Step) (w : Valuation) → writes s.op ≡ Bool.true → s.wide ≡ Bool.false
    → act s w ≡ put w s.to (apply s.op s.width s.low (lowest 64 (w s.a)) (lowest 64 (w s.b)) (lowest 64 (w s.c)))
act_short s w h e = act-writes s w h ∙ ap (λ b. put w s.to (apply s.op s.width s.low (seen b (w s.a)) (seen b (w s.b)) (seen b (w s.c)))) e

-- the step at a place is sound where all from there on are
pub sound-at : (n : ℕ) (steps : List Step) (index : ℕ) (d : Step) → index < length steps → are_sound n (drop index steps) ≡ Bool.true → is_sound n (get_or steps index d) ≡ Bool.true
sound-at n [] index d h k = absurd (omega (arith, h))
sound-at n (x ∷ xs) zero d h k = and_left (is_sound n x) (are_sound n xs) k
sound-at n (x ∷ xs) (suc index) d h k = sound-at n xs index d (omega (arith, h)) k
