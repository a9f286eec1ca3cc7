-- Signals that are numbered, with one more.
use Rattle.std.proofs.Common.{◌≡◌, ◌<◌, ◌^◌, ◌+◌, ◌==◌, ℕ, cond, [], ◌∷◌, ◌++◌, length, sym, ◌∙◌, ap, subst, arith}
use Rattle.std.specs.Prelude.{Some}
use Rattle.std.proofs.lemmas.List.{length-append}
use Rattle.gen_unroll.specs.declared.numbering.Numbering.{Numbering}
use Rattle.gen_unroll.specs.Reaches.{same_block}
use Rattle.gen_unroll.specs.Numbers.{place_where, has_order, is_own_named, number_of_name, in_block}
use Rattle.gen_unroll.specs.NumberingViews.{numbered_in, IsNumbered}
use Rattle.gen_unroll.specs.Places.{first_of}
use Rattle.gen_unroll.specs.PlaceViews.{place_in}
use Rattle.gen_unroll.specs.Rows.{row_in}
use Rattle.gen_unroll.specs.Signals.{NamedSignal}
use Rattle.gen_unroll.proofs.Rowing.{in_block_last}
use Rattle.gen_unroll.proofs.Searching.{noted_last}

pub numbered_more : (old new : Numbering) (x : NamedSignal) (k : ℕ) → IsNumbered old → k ≡ length (numbered_in old) → k + 1 < 2 ^ 32
    → numbered_in new ≡ numbered_in old ++ x ∷ []
    → ((q : ℕ) → place_in new.names q ≡ first_of (place_in old.names q) (is_own_named q x) k)
    → ((q : ℕ) → place_in new.orders q ≡ first_of (place_in old.orders q) (x.order == q) k)
    → ((b : ℕ) → row_in new.blocks.items b ≡ row_in old.blocks.items b ++ cond (same_block (Some b) x.block) (record { number = k; signal = x } ∷ []) [])
    → IsNumbered new
numbered_more old new x k before last few all names orders rows =
    let xs = numbered_in old in
    let behind : k ≡ 0 + length xs = omega (arith, last) in
    record {
      small = subst (λ n. n < 2 ^ 32) (ap (λ n. n + 1) last ∙ sym (ap length all ∙ length-append xs (x ∷ []))) few;
      own = λ q. noted_last (is_own_named q) xs x (place_in old.names q) (place_in new.names q) k (before.own q) (names q) last
          ∙ ap (number_of_name q) (sym all);
      ordered = λ q. noted_last (has_order q) xs x (place_in old.orders q) (place_in new.orders q) k (before.ordered q) (orders q) last
          ∙ ap (place_where (has_order q)) (sym all);
      within = λ b. rows b ∙ ap (λ zs. zs ++ cond (same_block (Some b) x.block) (record { number = k; signal = x } ∷ []) []) (before.within b)
          ∙ sym (in_block_last 0 (Some b) xs x k behind)
          ∙ ap (in_block (Some b)) (sym all);
    }
