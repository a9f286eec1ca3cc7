-- Steps whose places lie in so many words, and which fit the words that they take, are sound.
use Rattle.std.proofs.Common.{true, not, ◌≡◌, ℕ, ◌+◌, ◌<◌, ◌≤◌, ◌&&◌, ◌||◌, nat_lt, List, [], ◌∷◌, length, get_or, drop, refl, sym, ap, ◌∙◌, arith}
use Rattle.std.proofs.lemmas.Bool.{and_from, lt-ltb, or_left}
use Rattle.typed_ir.proofs.Cases.{and_left, and_right}
use Rattle.typed_ir.proofs.Lists.{drop_split}
use Rattle.word_steps.specs.Sound.{is_placed, is_sized, is_sound, are_sound}
use Rattle.word_steps.specs.Walks.{writes}
use Rattle.word_steps.specs.declared.step.Step.{Step}
use Rattle.design_steps.specs.Sizes.{are_sized}
use Rattle.design_steps.specs.Places.{are_placed}

pub placed_below : (n most : ℕ) (s : Step) → s.to ≤ most → s.a ≤ most → s.b ≤ most → s.c ≤ most → most < n → is_placed n s ≡ true
placed_below n most s t a b c h =
    let e : (x : ℕ) → x ≤ most → nat_lt x n ≡ true = λ x few. lt-ltb x n (omega (arith, few, h)) in
    let last : (nat_lt s.c n || not (writes s.op)) ≡ true = or_left (nat_lt s.c n) (not (writes s.op)) (e s.c c) in
    and_from (nat_lt s.to n) (nat_lt s.a n && (nat_lt s.b n && (nat_lt s.c n || not (writes s.op)))) (e s.to t)
    (and_from (nat_lt s.a n) (nat_lt s.b n && (nat_lt s.c n || not (writes s.op))) (e s.a a)
    (and_from (nat_lt s.b n) (nat_lt s.c n || not (writes s.op)) (e s.b b) last))

pub placed_more : (n : ℕ) (steps : List Step) (k : ℕ) (d : Step) → k < length steps → is_placed n (get_or steps k d) ≡ true
    → are_placed n (drop (k + 1) steps) ≡ are_placed n (drop k steps)
placed_more n steps k d h placed =
    sym (ap (are_placed n) (drop_split steps k d h) ∙ ap (λ b. b && are_placed n (drop (k + 1) steps)) placed)

pub sound_from : (n : ℕ) (steps : List Step) → are_placed n steps ≡ true → are_sized steps ≡ true → are_sound n steps ≡ true
sound_from n [] h k = refl
sound_from n (s ∷ ss) h k =
    let size = is_sized s.wide s.op s.width s.low in
    and_from (is_sound n s) (are_sound n ss) (and_from (is_placed n s) size (and_left (is_placed n s) (are_placed n ss) h) (and_left size (are_sized ss) k))
    (sound_from n ss (and_right (is_placed n s) (are_placed n ss) h) (and_right size (are_sized ss) k))
