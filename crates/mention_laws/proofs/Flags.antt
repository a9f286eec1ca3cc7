-- block_rules flags each leaf of a sized statement once.
use Rattle.std.proofs.Common.{◌≡◌, ℕ, ◌+◌, ◌||◌, List, [], ◌∷◌, ◌++◌, length, refl, sym, ◌∙◌, ap₂, length-append}
use Rattle.std.proofs.lemmas.List.{length-map}
use Rattle.typed_ir.specs.declared.span.Span.{Span}
use Rattle.typed_ir.specs.Valuations.{Places, within, any_within, nowhere}
use Rattle.typed_ir.specs.Stmts.{SizedTarget, Fixed, Moving, SizedStmt, SizedArms, Skip, Assign, Later, Then, If, Case, Arm, Default, targets, known_after}
use Rattle.block_rules.specs.Paths.{leaves, index_leaves, item_leaves, early, flags_of, index_flags, reads_early, arms_early, flags_of_block}
use Rattle.mention_laws.specs.Leaves.{statement_leaves, arm_leaves}

two : {A B : Type 0} (cs bs : List A) (xs ys : List B) → length cs ≡ length xs → length bs ≡ length ys → length (cs ++ bs) ≡ length (xs ++ ys)
two cs bs xs ys h k = length-append cs bs ∙ ap₂ (λ (m n : ℕ). m + n) h k ∙ sym (length-append xs ys)

flags_many : (written : Places) (reads : List Span) (known : Places) → length (flags_of written reads known) ≡ length reads
flags_many written reads known = length-map reads (λ p. early written p known)

index_many : (written : Places) (ts : List SizedTarget) (known : Places) → length (index_flags written ts known) ≡ length (index_leaves ts)
index_many written [] known = refl
index_many written (Fixed lane ∷ ts) known = index_many written ts (λ s i. known s i || within lane.span s i)
index_many written (Moving reach index ∷ ts) known =
    two (flags_of written (leaves index) known) (index_flags written ts known) (leaves index) (index_leaves ts) (flags_many written (leaves index) known) (index_many written ts known)

mutual
  reads_many : (written : Places) (st : SizedStmt) (known : Places) → length (reads_early written st known) ≡ length (statement_leaves st)
  reads_many written Skip known = refl
  reads_many written (Assign parts e) known =
      two (index_flags written parts known) (flags_of written (leaves e) known) (index_leaves parts) (leaves e) (index_many written parts known) (flags_many written (leaves e) known)
  reads_many written (Later parts e) known =
      two (flags_of written (index_leaves parts) known) (flags_of written (leaves e) known) (index_leaves parts) (leaves e)
      (flags_many written (index_leaves parts) known) (flags_many written (leaves e) known)
  reads_many written (Then a b) known =
      two (reads_early written a known) (reads_early written b (known_after a known)) (statement_leaves a) (statement_leaves b)
      (reads_many written a known) (reads_many written b (known_after a known))
  reads_many written (If c a b) known =
      two (flags_of written (leaves c) known) (reads_early written a known ++ reads_early written b known) (leaves c) (statement_leaves a ++ statement_leaves b)
      (flags_many written (leaves c) known)
      (two (reads_early written a known) (reads_early written b known) (statement_leaves a) (statement_leaves b) (reads_many written a known) (reads_many written b known))
  reads_many written (Case e arms) known =
      two (flags_of written (leaves e) known) (arms_early written arms known) (leaves e) (arm_leaves arms) (flags_many written (leaves e) known) (arms_many written arms known)

  arms_many : (written : Places) (arms : SizedArms) (known : Places) → length (arms_early written arms known) ≡ length (arm_leaves arms)
  arms_many written (Arm items body rest) known =
      two (flags_of written (item_leaves items) known) (reads_early written body known ++ arms_early written rest known) (item_leaves items) (statement_leaves body ++ arm_leaves rest)
      (flags_many written (item_leaves items) known)
      (two (reads_early written body known) (arms_early written rest known) (statement_leaves body) (arm_leaves rest) (reads_many written body known) (arms_many written rest known))
  arms_many written (Default otherwise) known = reads_many written otherwise known

pub block_flags : (st : SizedStmt) → length (flags_of_block st) ≡ length (statement_leaves st)
block_flags st = reads_many (any_within (targets st)) st nowhere
