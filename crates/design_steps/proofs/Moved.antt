-- Steps over words that are moved do what they did.
use Rattle.std.proofs.Common.{true, false, ◌≡◌, ℕ, zero, suc, ◌==◌, List, [], ◌∷◌, map, refl, sym, ap, ap₂, ◌∙◌, true≢false}
use Rattle.std.specs.Prelude.{◌&&◌}
use Rattle.std.proofs.lemmas.Bool.{eqb-true, eqb-false, cond-true, cond-false}
use Rattle.typed_ir.specs.Valuations.{Valuation, put}
use Rattle.typed_ir.proofs.Cases.{by_cases}
use Rattle.word_steps.specs.declared.step.Step.{Step}
use Rattle.word_steps.specs.declared.op.Op.{Op}
use Rattle.word_steps.specs.declared.op.Op.TheVariants.{SkipIfZero, SkipIfEqual, SkipUnlessEqual, SkipUnlessLess, SkipIfLess, SkipUnlessSignedLess, SkipIfSignedLess, Skip}
use Rattle.word_steps.specs.Sound.{is_sized}
use Rattle.word_steps.specs.Walks.{at, act, apply, skips, writes, walk, seen}
use Rattle.word_steps.proofs.Words.{put-same, put-other}
use Rattle.word_steps.proofs.Steps.{act-writes, act_still}
use Rattle.design_steps.specs.Sizes.{are_sized}
use Rattle.design_steps.specs.Moves.{moved, moved_step}

-- moving keeps what a step takes of a word
pub moved_sized : (t : List ℕ) (steps : List Step) → are_sized (map (moved_step t) steps) ≡ are_sized steps
moved_sized t [] = refl
moved_sized t (s ∷ ss) = ap (λ b. is_sized s.wide s.op s.width s.low && b) (moved_sized t ss)

-- a step that writes passes over none
writes_skip : (op : Op) (width n m x y : ℕ) → writes op ≡ true → skips op width n x y ≡ skips op width m x y
writes_skip SkipIfZero width n m x y h = absurd (true≢false (sym h))
writes_skip SkipIfEqual width n m x y h = absurd (true≢false (sym h))
writes_skip SkipUnlessEqual width n m x y h = absurd (true≢false (sym h))
writes_skip SkipUnlessLess width n m x y h = absurd (true≢false (sym h))
writes_skip SkipIfLess width n m x y h = absurd (true≢false (sym h))
writes_skip SkipUnlessSignedLess width n m x y h = absurd (true≢false (sym h))
writes_skip SkipIfSignedLess width n m x y h = absurd (true≢false (sym h))
writes_skip Skip width n m x y h = absurd (true≢false (sym h))
writes_skip op width n m x y h = refl

module _ (t : List ℕ) (once : (a b : ℕ) → moved t a ≡ moved t b → a ≡ b) where
  abbrev back : Valuation → Valuation
  back w = λ k. w (moved t k)

  pub put_back : (w : Valuation) (a x : ℕ) → back (put w (moved t a) x) ≡ put (back w) a x
  put_back w a x = λ j k. at_ k j
    where
      at_ : (k : ℕ) → put w (moved t a) x (moved t k) ≡ put (back w) a x k
      at_ k = by_cases (k == a)
          (λ yes. let e = eqb-true k a yes in ap (λ i. put w (moved t a) x (moved t i)) e ∙ put-same w (moved t a) x ∙ sym (put-same (back w) a x) ∙ ap (put (back w) a x) (sym e))
          (λ no. let other = eqb-false k a no in put-other w (moved t a) x (moved t k) (λ e. other (once k a e)) ∙ sym (put-other (back w) a x k other))

  c_moved : (s : Step) → writes s.op ≡ true → (moved_step t s).c ≡ moved t s.c
  c_moved s h = cond-true (writes s.op) (moved t s.c) s.c h

  c_still : (s : Step) → writes s.op ≡ false → (moved_step t s).c ≡ s.c
  c_still s h = cond-false (writes s.op) (moved t s.c) s.c h

  act_back : (s : Step) (w : Valuation) → back (act (moved_step t s) w) ≡ act s (back w)
  act_back s w = by_cases (writes s.op)
      (λ yes.
      ap back (act-writes (moved_step t s) w yes)
      ∙ put_back w s.to (apply s.op s.width s.low (seen s.wide (w (moved t s.a))) (seen s.wide (w (moved t s.b))) (seen s.wide (w (moved_step t s).c)))
      ∙ ap (λ c. put (back w) s.to (apply s.op s.width s.low (seen s.wide (w (moved t s.a))) (seen s.wide (w (moved t s.b))) (seen s.wide (w c)))) (c_moved s yes)
      ∙ sym (act-writes s (back w) yes))
      (λ no. ap back (act_still (moved_step t s) w no) ∙ sym (act_still s (back w) no))

  skips_back : (s : Step) (x y : ℕ) → skips s.op s.width (moved_step t s).c x y ≡ skips s.op s.width s.c x y
  skips_back s x y = by_cases (writes s.op)
      (λ yes. writes_skip s.op s.width (moved_step t s).c s.c x y yes)
      (λ no. ap (λ c. skips s.op s.width c x y) (c_still s no))

  pub walk_back : (steps : List Step) (skip : ℕ) (w : Valuation) → back (walk (map (moved_step t) steps) (at skip w)).words ≡ (walk steps (at skip (back w))).words
  walk_back [] skip w = refl
  walk_back (s ∷ ss) zero w =
      walk_back ss (skips s.op s.width (moved_step t s).c (w (moved t s.a)) (w (moved t s.b))) (act (moved_step t s) w)
      ∙ ap₂ (λ k v. (walk ss (at k v)).words) (skips_back s (w (moved t s.a)) (w (moved t s.b))) (act_back s w)
  walk_back (s ∷ ss) (suc n) w = walk_back ss n w
