-- Of a conditional's branches the first whose condition holds is read, and conditionals nest.
use Rattle.std.proofs.Common.{◌≡◌, ℕ, suc, ◌-◌, Bool, true, false, not, ◌&&◌, ◌||◌, cond, List, [], ◌∷◌, length, Option, Some, None, refl, sym, ap, ◌∙◌, arith, true≢false}
use Rattle.std.specs.Prelude.{◌==◌}
use Rattle.std.proofs.Math.Bool.{and_assoc}
use Rattle.std.proofs.lemmas.List.{length-append, length-take-le}
use Rattle.std.proofs.lemmas.Bool.Decides.{nat_tests}
use Rattle.std.proofs.lemmas.Option.{none-some}
use Rattle.ls_text.specs.declared.place.Place.{Place}
use Rattle.verilog_pre.specs.declared.branch.Branch.{Branch}
use Rattle.verilog_pre.specs.declared.branch.Branch.TheVariants.{Taken, Waiting, Past}
use Rattle.verilog_pre.specs.Branches.{any, branch_after}
use Rattle.verilog_pre.specs.declared.conditional.Conditional.{Conditional}
use Rattle.verilog_pre.specs.declared.directive.Directive.TheVariants as directive
use Rattle.verilog_pre.specs.Conditionals.{is_taken, first_branch, next_branch, but_last, opened, closed}
use Rattle.verilog_pre.specs.Heads.{depth_behind}

-- no branch was read so far, and one may be
abbrev waits : Branch → Bool
waits Taken = false
waits Waiting = true
waits Past = false

no_more : (b : Branch) (cs : List Bool) → waits b ≡ false → waits (branch_after b cs) ≡ false
no_more b [] done = done
no_more Taken (c ∷ cs) done = no_more Past cs refl
no_more Past (c ∷ cs) done = no_more Past cs refl
no_more Waiting (c ∷ cs) done = absurd (true≢false done)

waits_on : (cs : List Bool) → waits (branch_after Waiting cs) ≡ not (any cs)
waits_on [] = refl
waits_on (true ∷ cs) = no_more Taken cs refl
waits_on (false ∷ cs) = waits_on cs

taken_next : (b : Branch) (holds : Bool) → is_taken (next_branch b holds) ≡ (waits b && holds)
taken_next Taken holds = refl
taken_next Waiting true = refl
taken_next Waiting false = refl
taken_next Past holds = refl

-- the first branch is read where the text around is and its condition holds
pub first_is : (around holds : Bool) → is_taken (first_branch around holds) ≡ (around && holds)
first_is true true = refl
first_is true false = refl
first_is false holds = refl

-- a further one where, besides, no condition before held
pub next_is : (around first holds : Bool) (cs : List Bool)
    → is_taken (next_branch (branch_after (first_branch around first) cs) holds) ≡ (around && (not (first || any cs) && holds))
next_is around first holds cs = taken_next (branch_after (first_branch around first) cs) holds ∙ ap (λ w. w && holds) (waiting around first) ∙ and_assoc around (not (first || any cs)) holds
  where
    waiting : (around first : Bool) → waits (branch_after (first_branch around first) cs) ≡ (around && not (first || any cs))
    waiting true true = no_more Taken cs refl
    waiting true false = waits_on cs
    waiting false first = no_more Past cs refl

-- ---- how many are open

pub opened_depth : (at : Place) (negated holds : Bool) (nest : List Conditional) → length (opened at negated holds nest) ≡ depth_behind (length nest) directive.Ifdef
unfolding opened
opened_depth at negated holds nest = length-append nest _

pub closed_depth : (nest next : List Conditional) → closed nest ≡ Some next → length next ≡ depth_behind (length nest) directive.Endif
unfolding closed
closed_depth [] next is = absurd (none-some next is)
closed_depth (c ∷ cs) next is =
    sym (ap length (some-is (sym (ap (λ t. cond t None (Some (but_last (c ∷ cs)))) (not_none (length cs))) ∙ is))) ∙ front_size cs
  where
    not_none : (n : ℕ) → (suc n == 0) ≡ false
    not_none n = grind (arith, nat_tests)

    some-is : Some (but_last (c ∷ cs)) ≡ Some next → but_last (c ∷ cs) ≡ next
    some-is e = ap (λ o. from o) e
      where
        from : Option (List Conditional) → List Conditional
        from None = []
        from (Some n) = n

    front_size : (cs : List Conditional) → length (but_last (c ∷ cs)) ≡ length (c ∷ cs) - 1
    front_size cs = length-take-le (length (c ∷ cs) - 1) (c ∷ cs) (omega arith)
