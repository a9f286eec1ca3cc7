-- The nodes of a loop have targets.
use Rattle.std.proofs.Common.{◌≡◌, ◌<◌, ℕ, zero, suc, Bool, true, false, List, [], ◌∷◌, length, is_some, inl, inr, true≢false, refl, sym, ◌∙◌, ap, subst, arith}
use Rattle.std.specs.Prelude.{slice_get}
use Rattle.typed_ir.specs.declared.span.Span.{Span}
use Rattle.typed_ir.specs.Nodes.{FlatNode, Drive, Block, lane_spans, node_drives, drives_at}
use Rattle.typed_ir.specs.Orders.{Each, Member, at_or}
use Rattle.typed_ir.specs.Stmts.{targets}
use Rattle.typed_ir.specs.Valuations.{any_within}
use Rattle.comb_order.specs.Loops.{IsWalk, IsLoop}
use Rattle.comb_order.specs.Refusals.{NodeBefore}
use Rattle.link.specs.Names.{first_of, has_target, IsShown}

span_first : (ps : List Span) (s i : ℕ) → any_within ps s i ≡ true → is_some (first_of ps) ≡ true
span_first [] s i h = absurd (true≢false (sym h))
span_first (p ∷ ps) s i h = refl

number_there : (ps : List Span) (k : ℕ) → k < length ps → is_some (slice_get ps k) ≡ true
number_there [] k h = absurd (omega (arith, h))
number_there (p ∷ ps) zero h = refl
number_there (p ∷ ps) (suc k) h = number_there ps k (omega (arith, h))

node_first : (n : FlatNode) (s i : ℕ) → IsShown n → node_drives n s i ≡ true → has_target n ≡ true
unfolding node_drives
node_first (Drive form lanes e) s i told h = span_first (lane_spans lanes) s i h
node_first (Block shown body) s i told h = number_there (targets body) shown.number (told s i h)

driver_named : (nodes : List FlatNode) (k s i : ℕ) → Each IsShown nodes → drives_at nodes k s i ≡ true → at_or has_target false nodes k ≡ true
driver_named [] k s i told h = absurd (true≢false (sym h))
driver_named (n ∷ ns) zero s i told h = node_first n s i told.0 h
driver_named (n ∷ ns) (suc k) s i told h = driver_named ns k s i told.1 h

-- what a walk ends in, and what it goes over, comes before something
walk_end : {before : ℕ → ℕ → Type 0} (P : ℕ → Type 0) → ((a k : ℕ) → before a k → P a) → (count a x : ℕ) (xs : List ℕ) (b : ℕ)
    → IsWalk before count a (x ∷ xs) b → P b
walk_end P f count a x [] b w = subst P w.1.2 (f w.1.0 x w.1.1.0.1)
walk_end P f count a x (y ∷ ys) b w = walk_end P f count w.1.0 y ys b w.1.2

walk_over : {before : ℕ → ℕ → Type 0} (P : ℕ → Type 0) → ((a k : ℕ) → before a k → P a) → (count a : ℕ) (xs : List ℕ) (b : ℕ)
    → IsWalk before count a xs b → P a → (k : ℕ) → Member k xs → P k
walk_over P f count a [] b w p k m = absurd m
walk_over P f count a (x ∷ xs) b w p k (inl is) = subst P (w.0 ∙ sym is) p
walk_over P f count a (x ∷ xs) b w p k (inr m) = walk_over P f count w.1.0 xs b w.1.2 (f w.1.0 x w.1.1.0.1) k m

pub loop_named : (nodes : List FlatNode) (first : ℕ) (rest : List ℕ) → Each IsShown nodes → IsLoop (NodeBefore nodes) (length nodes) first rest
    → (k : ℕ) → Member k (first ∷ rest) → at_or has_target false nodes k ≡ true
loop_named nodes first rest told loop =
    let P = λ (k : ℕ). at_or has_target false nodes k ≡ true in
    let named : (a k : ℕ) → NodeBefore nodes a k → P a = λ a k before. driver_named nodes a before.0 before.1 told before.2 in
    walk_over P named (length nodes) first (first ∷ rest) first loop.circle (walk_end P named (length nodes) first first rest first loop.circle)
