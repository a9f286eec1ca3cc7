-- What the tables say at the end of a walk is what the definitions say of the block.
use Rattle.std.proofs.Common.{◌≡◌, ℕ, ◌<◌, ◌≤◌, Bool, true, false, ◌||◌, ◌&&◌, not, ◌==◌, List, [], ◌∷◌, length, refl, sym, ◌∙◌, ap, ap₂, subst, arith, true≢false}
use Rattle.std.proofs.lemmas.Bool.{or_left, or_right, and_from}
use Rattle.std.proofs.Math.Bool.{and-false}
use Rattle.std.proofs.Math.Path.{fun_ext}
use Rattle.bits.proofs.Runs.{by_order}
use Rattle.typed_ir.specs.declared.touch.Touch.{Touch}
use Rattle.typed_ir.specs.Valuations.{Places, any_within, nowhere}
use Rattle.typed_ir.specs.Stmts.{SizedStmt, targets, known_after}
use Rattle.typed_ir.specs.Touches.{has_bit, touched}
use Rattle.typed_ir.proofs.Cases.{by_cases, and_left, only_right, and_told}
use Rattle.block_rules.specs.declared.bit_table.BitTable.{BitTable}
use Rattle.block_rules.specs.Paths.{is_open, reads_early, flags_of_block, unwritten, AreHere}
use Rattle.block_rules.specs.Tables.{bits_of, Leads, is_named}
use Rattle.block_rules.proofs.Masks.{past_bit, bit_small}
use Rattle.block_rules.proofs.Knowing.{some_same, reads_same}
use Rattle.block_rules.proofs.Whole.{here_below}
use Rattle.block_rules.proofs.Finding.{some_at}

-- the table of what a block may write
pub written_is : (w0 w1 : BitTable) (touches : List Touch) (count : ℕ) (st : SizedStmt) → bits_of w0 ≡ nowhere → length w0.masks.items ≡ count → AreHere count st
    → Leads w0 w1 [] touches (bits_of w1) (λ s i. bits_of w0 s i || any_within (targets st) s i)
    → (s i : ℕ) → i < 128 → bits_of w1 s i ≡ any_within (targets st) s i
written_is w0 w1 touches count st blank long here h s i small = by_order s (length w0.masks.items)
    (λ inside. h.same s i inside small ∙ ap (λ p. p s i || any_within (targets st) s i) blank)
    (λ past. past_bit w1.masks.items s i (subst (λ n. n ≤ s) (sym h.size) past)
    ∙ by_cases (any_within (targets st) s i)
    (λ writes. absurd (apart past (here_below (targets st) count s i here writes)))
    (λ out. sym out))
  where
    apart : length w0.masks.items ≤ s → s < count → ⊥
    apart past less = omega (arith, past, less, long)

-- the flags of its reads
pub flags_are : (w1 k0 : BitTable) (st : SizedStmt) → ((s i : ℕ) → i < 128 → bits_of w1 s i ≡ any_within (targets st) s i) → bits_of k0 ≡ nowhere
    → reads_early (bits_of w1) st (bits_of k0) ≡ flags_of_block st
flags_are w1 k0 st writes blank =
    reads_same st (bits_of w1) (any_within (targets st)) (bits_of k0) nowhere
    (record { writes = writes; knows = λ s i small is. ap (λ p. p s i) blank })

-- ---- signals with a latch

open_alike : (w w' k k' : Bool) → w ≡ w' → (w ≡ true → k ≡ k') → (w && not k) ≡ (w' && not k')
open_alike true w' k k' e h = ap₂ (λ x y. x && not y) e (h refl)
open_alike false w' k k' e h = ap (λ x. x && not k') e

same_open : (w0 w1 k0 k1 : BitTable) (learned : List Touch) (st : SizedStmt) → length w1.masks.items ≡ length k0.masks.items
    → ((s i : ℕ) → i < 128 → bits_of w1 s i ≡ any_within (targets st) s i) → bits_of k0 ≡ nowhere
    → Leads k0 k1 [] learned (bits_of k1) (known_after st (bits_of k0))
    → (s : ℕ) → is_open (bits_of w1) (bits_of k1) s ≡ unwritten st s
same_open w0 w1 k0 k1 learned st long writes blank h s =
    some_same 128 (λ i. bits_of w1 s i && not (bits_of k1 s i)) (λ i. any_within (targets st) s i && not (known_after st nowhere s i))
    (λ i small. open_alike (bits_of w1 s i) (any_within (targets st) s i) (bits_of k1 s i) (known_after st nowhere s i) (writes s i small)
    (λ is. h.same s i (inside i is) small ∙ ap (λ p. known_after st p s i) blank))
  where
    inside : (i : ℕ) → bits_of w1 s i ≡ true → s < length k0.masks.items
    inside i is = by_order s (length k0.masks.items) (λ k. k)
        (λ past. absurd (true≢false (sym is ∙ past_bit w1.masks.items s i (subst (λ n. n ≤ s) (sym long) past))))

touched_named : (ts : List Touch) (s i : ℕ) → touched ts s i ≡ true → is_named ts s ≡ true
touched_named [] s i h = absurd (true≢false (sym h))
touched_named (t ∷ ts) s i h =
    by_cases ((s == t.signal) && has_bit t.mask i)
    (λ here. or_left (s == t.signal) (is_named ts s) (and_left (s == t.signal) (has_bit t.mask i) here))
    (λ out. or_right (s == t.signal) (is_named ts s) (touched_named ts s i (only_right ((s == t.signal) && has_bit t.mask i) (touched ts s i) out h)))

pub latches_are : (w0 w1 k0 k1 : BitTable) (touches learned : List Touch) (l w : Places) (st : SizedStmt) → length w1.masks.items ≡ length k0.masks.items
    → ((s i : ℕ) → i < 128 → bits_of w1 s i ≡ any_within (targets st) s i) → bits_of w0 ≡ nowhere → bits_of k0 ≡ nowhere
    → Leads w0 w1 [] touches l w → Leads k0 k1 [] learned (bits_of k1) (known_after st (bits_of k0))
    → (s : ℕ) → (is_named touches s && is_open (bits_of w1) (bits_of k1) s) ≡ unwritten st s
latches_are w0 w1 k0 k1 touches learned l w st long writes none blank g h s =
    and_told (is_named touches s) (is_open (bits_of w1) (bits_of k1) s) named ∙ same_open w0 w1 k0 k1 learned st long writes blank h s
  where
    named : is_open (bits_of w1) (bits_of k1) s ≡ true → is_named touches s ≡ true
    named is =
        let f : (i : ℕ) × (i < 128) × ((bits_of w1 s i && not (bits_of k1 s i)) ≡ true) = some_at 128 (λ i. bits_of w1 s i && not (bits_of k1 s i)) is in
        touched_named touches s f.0
        (g.news.says s f.0 f.1
        ∙ and_from (bits_of w1 s f.0) (not (bits_of w0 s f.0)) (and_left (bits_of w1 s f.0) (not (bits_of k1 s f.0)) f.2) (ap (λ p. not (p s f.0)) none))

-- where its signals are taken out of it, the table of what is written is blank again
pub emptied : (w0 w1 w2 : BitTable) (touches : List Touch) (l w : Places) → bits_of w0 ≡ nowhere → Leads w0 w1 [] touches l w
    → ((s i : ℕ) → bits_of w2 s i ≡ (bits_of w1 s i && not (is_named touches s))) → bits_of w2 ≡ nowhere
emptied w0 w1 w2 touches l w none h taken = fun_ext (λ (s : ℕ). fun_ext (λ (i : ℕ). by_cases (bits_of w1 s i)
    (λ is. taken s i ∙ ap (λ b. bits_of w1 s i && not b)
    (touched_named touches s i
    (h.news.says s i (bit_small w1.masks.items s i is)
    ∙ and_from (bits_of w1 s i) (not (bits_of w0 s i)) is (ap (λ p. not (p s i)) none)))
    ∙ and-false (bits_of w1 s i))
    (λ out. taken s i ∙ ap (λ b. b && not (is_named touches s)) out)))
