-- Options are within their bounds.
use Rattle.std.proofs.Common.{◌≡◌, ℕ, ◌≤◌, leb, ◌&&◌, List, [], ◌∷◌, Option, Some, None, option_map, subst, sym, codes, arith}
use Rattle.std.specs.Prelude.{IfSome}
use Rattle.std.proofs.lemmas.Bool.{leb-true}
use Rattle.clap.specs.Words.{Row, first_of, matches_of, takes}
use Rattle.clap.proofs.WalkLemmas.{both}
use Rattle.ls_text.specs.Options.{guard}
use Rattle.ls_text.proofs.Options.{then_some, any_some, guarded}
use Rattle.live_options.specs.declared.options.Options.{Options}
use Rattle.live_options.specs.Words.{livesim_app, choice_within, load_of, number_of, number_within, options, options_in, options_of, value_of, value_within}
use Rattle.live_options.specs.Bounds.{AreWithin, AskWithin}

abbrev IsBetween : (least most : ℕ) → ℕ → Type 0
IsBetween least most n = (least ≤ n) × (n ≤ most)

between : (least most n : ℕ) → IfSome (guard (leb least n && leb n most) n) (IsBetween least most)
between least most n =
    guarded (IsBetween least most) (leb least n && leb n most) n
    (λ h. let each = both (leb least n) (leb n most) h in (leb-true _ _ each.0, leb-true _ _ each.1))

number_between : (least most : ℕ) (text : List ℕ) → IfSome (number_within least most text) (IsBetween least most)
number_between least most text =
    any_some (IsBetween least most) (number_of text) (λ n. guard (leb least n && leb n most) n) (λ n. between least most n)

value_between : (default least most : ℕ) (given : Option (List ℕ)) → least ≤ default → default ≤ most → IfSome (value_within default least most given) (IsBetween least most)
value_between default least most None low high = (low, high)
value_between default least most (Some text) low high = number_between least most text

-- a number that is given, where one is
abbrev IsChoice : (least most : ℕ) → Option ℕ → Type 0
IsChoice least most o = IfSome o (IsBetween least most)

choice_between : (least most : ℕ) (given : Option (List ℕ)) → IfSome (choice_within least most given) (IsChoice least most)
choice_between least most None = tt
choice_between least most (Some text) =
    then_some (IsBetween least most) (IsChoice least most) (number_within least most text) (λ n. Some (Some n)) (number_between least most text) (λ n h. h)

if_some : (P Q : ℕ → Type 0) (o : Option ℕ) → IfSome o P → ((n : ℕ) → P n → Q n) → IfSome o Q
if_some P Q (Some n) h next = next n h
if_some P Q None h next = tt

found_within : (found : List Row) → IfSome (options_in found) AreWithin
found_within found =
    then_some (IsBetween 0 64) AreWithin (value_of (codes "workers") 2 0 64 found) _ (value_between 2 0 64 (first_of (codes "workers") found) (omega arith) (omega arith))
    (λ workers few. then_some (IsBetween 1 1000000000) AreWithin (value_of (codes "interval") 10000 1 1000000000 found) _
    (value_between 10000 1 1000000000 (first_of (codes "interval") found) (omega arith) (omega arith))
    (λ interval short. then_some (IsBetween 0 1099511627776) AreWithin (value_of (codes "lookback") 10000 0 1099511627776 found) _
    (value_between 10000 0 1099511627776 (first_of (codes "lookback") found) (omega arith) (omega arith))
    (λ lookback near. then_some (IsChoice 1 4096) AreWithin (load_of found) _ (choice_between 1 4096 (first_of (codes "load") found))
    (λ load made. record {
      workers = few.1;
      some = short.0;
      interval = short.1;
      lookback = near.1;
      some_stage = if_some (IsBetween 1 4096) (λ n. 1 ≤ n) load made (λ n h. h.0);
      stages = if_some (IsBetween 1 4096) (λ n. n ≤ 4096) load made (λ n h. h.1);
    }))))

pub options_within : AskWithin
unfolding options
options_within [] = tt
options_within (w ∷ ws) =
    any_some AreWithin (guard (takes livesim_app (w ∷ ws)) (matches_of livesim_app (w ∷ ws))) (λ found. options_in found) found_within

-- so are those that are read
pub read_within : (read : Option Options) (words : List (List ℕ)) → option_map options_of read ≡ options words → IfSome read (λ o. AreWithin (options_of o))
read_within read words is = by read (subst (λ o. IfSome o AreWithin) (sym is) (options_within words))
  where
    by : (o : Option Options) → IfSome (option_map options_of o) AreWithin → IfSome o (λ x. AreWithin (options_of x))
    by (Some x) h = h
    by None h = tt
