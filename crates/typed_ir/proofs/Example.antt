-- That the units of the example are sound, and of widths that agree.
use Rattle.std.proofs.Common.{◌≡◌, ℕ, suc, ◌+◌, ◌<◌, ◌==◌, ◌&&◌, ◌||◌, ap, true≢false, true, false, inl, inr, [], ◌∷◌, nat_le, nat_lt, refl, sym, ◌∙◌, eqb-true, arith}
use Rattle.typed_ir.specs.Valuations.{any_within}
use Rattle.typed_ir.specs.Nodes.{lane_spans}
use Rattle.typed_ir.specs.Orders.{Member}
use Rattle.typed_ir.specs.Trees.{AreSound, AreLegal}
use Rattle.typed_ir.specs.Example.{all_of, tree}
use Rattle.typed_ir.proofs.Cases.{by_cases}
use Rattle.typed_ir.proofs.Counted.{one_at_most}

zero_there : (n s : ℕ) → Member s (0 ∷ []) → s < suc n
zero_there n s (inl e) = omega (arith, e)
zero_there n s (inr h) = absurd h

one_there : (s : ℕ) → Member s (1 ∷ []) → s < 2
one_there s (inl e) = omega (arith, e)
one_there s (inr h) = absurd h

differ : (s : ℕ) → Member s (1 ∷ []) → Member s (0 ∷ []) → ⊥
differ s (inl e) (inl f) = omega (arith, e, f)
differ s (inl e) (inr h) = h
differ s (inr h) k = h

pub tree_sound : AreSound tree
tree_sound = (
  record {
    unit = record {
      own = λ s i. omega arith;
      ports = λ c s i. one_at_most _;
      inputs_held = λ s i h. refl;
      registers_held = λ s i h. absurd h;
      inputs_there = λ s h. zero_there 0 s h;
      registers_there = λ s h. absurd h;
      nodes = (tt, tt);
      writers = λ s i. omega arith;
      registers_only = tt;
      registers_once = tt;
      inputs_once = ((λ m. m), tt);
      apart = λ s m k. m;
    };
    fit = ((λ s i h. inl (eqb-true s 0 (first_of_or s i h))), tt);
  },
  (
    record {
      unit = record {
        own = λ s i. omega arith;
        ports = λ c s i. omega arith;
        inputs_held = λ s i h. refl;
        registers_held = λ s i h. refl;
        inputs_there = λ s h. zero_there 1 s h;
        registers_there = λ s h. one_there s h;
        nodes = tt;
        writers = λ s i. one_at_most _;
        registers_only = ((inl refl, tt), tt);
        registers_once = ((λ m. m), tt);
        inputs_once = ((λ m. m), tt);
        apart = differ;
      };
      fit = tt;
    },
    tt,
    tt,
  ),
  tt,
)
  where
    first_of_or : (s i : ℕ) → any_within (lane_spans (all_of 0 ∷ [])) s i ≡ true → (s == 0) ≡ true
    first_of_or s i h = by_cases (s == 0) (λ e. e) (λ out. absurd (true≢false (sym h ∙ none out)))
      where
        none : (s == 0) ≡ false → any_within (lane_spans (all_of 0 ∷ [])) s i ≡ false
        none out = ap (λ b. (b && (nat_le 0 i && nat_lt i (0 + 8))) || false) out

pub tree_legal : AreLegal tree
tree_legal = (record { nodes = (refl, tt); blocks = tt }, (record { nodes = tt; blocks = (refl, tt) }, tt, tt), tt)
