-- The combinational block of the tests writes each of its bits, and before it reads it.
use Rattle.std.proofs.Common.{◌≡◌, ℕ, Bool, true, false, not, ◌&&◌, ◌||◌, ◌==◌, nat_le, nat_lt, [], ◌∷◌, map, refl, sym, subst, true≢false}
use Rattle.std.proofs.lemmas.Bool.{eqb-true}
use Rattle.typed_ir.specs.declared.binary_operator.BinaryOperator.{BinaryOperator}
use Rattle.typed_ir.specs.declared.node.Node.{Node}
use Rattle.typed_ir.specs.declared.shown_target.ShownTarget.{ShownTarget}
use Rattle.typed_ir.specs.Valuations.{nowhere, any_within}
use Rattle.typed_ir.specs.Stmts.{targets, open_reads, IsWhole, WritesFirst}
use Rattle.typed_ir.specs.Nodes.{Block, IsComplete}
use Rattle.typed_ir.specs.Orders.{Each}
use Rattle.typed_ir.specs.Flats.{NodeWritesFirst}
use Rattle.typed_ir.specs.FlatNodes.{node_of}
use Rattle.typed_ir.proofs.Cases.{by_cases}
use Rattle.machine_tests.specs.Temporary.{temporary}

is_written : (a b : Bool) → (a || (a || (b || false))) ≡ true → (((false || (a || false)) || (a || false)) || (b || false)) ≡ true
is_written true b h = refl
is_written false true h = refl
is_written false false h = absurd (true≢false (sym h))

whole : (p q : BinaryOperator) → IsWhole (temporary p q)
whole p q s i h = is_written ((s == 1) && (nat_le 0 i && nat_lt i 4)) ((s == 2) && (nat_le 0 i && nat_lt i 4)) h

-- it writes the bit of that signal, and doesn't read it before
abbrev WritesBit : BinaryOperator → BinaryOperator → ℕ → ℕ → Type 0
WritesBit p q s i = any_within (targets (temporary p q)) s i ≡ true → open_reads (temporary p q) nowhere s i ≡ false

at_one : (p q : BinaryOperator) (i : ℕ) → WritesBit p q 1 i
at_one p q i = go (nat_le 0 i && nat_lt i 4)
  where
    go : (b : Bool) → (b || (b || (false || false))) ≡ true
        → ((((false || false) && not false) || false)
        || ((((true || false) && not (false || (b || false))) || false)
        || (((true && not ((false || (b || false)) || (b || false))) || false) || false))) ≡ false
    go true h = refl
    go false h = absurd (true≢false (sym h))

at_two : (p q : BinaryOperator) (i : ℕ) → WritesBit p q 2 i
at_two p q i h = refl

neither : (x y b : Bool) → x ≡ false → y ≡ false → ((x && b) || ((x && b) || ((y && b) || false))) ≡ true → ⊥
neither true y b e f h = true≢false e
neither false true b e f h = true≢false f
neither false false b e f h = true≢false (sym h)

elsewhere : (p q : BinaryOperator) (s i : ℕ) → (s == 1) ≡ false → WritesBit p q s i
elsewhere p q s i out = by_cases (s == 2)
    (λ t. subst (λ k. WritesBit p q k i) (sym (eqb-true s 2 t)) (at_two p q i))
    (λ f h. absurd (neither (s == 1) (s == 2) (nat_le 0 i && nat_lt i 4) out f h))

writes_first : (p q : BinaryOperator) → WritesFirst (temporary p q)
writes_first p q s i = by_cases (s == 1) (λ t. subst (λ k. WritesBit p q k i) (sym (eqb-true s 1 t)) (at_one p q i)) (λ f. elsewhere p q s i f)

pub complete : (n : Node) (shown : ShownTarget) (p q : BinaryOperator) → node_of n ≡ Block shown (temporary p q) → Each IsComplete (map node_of (n ∷ []))
unfolding IsComplete
complete n shown p q is = (subst IsComplete (sym is) (whole p q), tt)

pub first : (n : Node) (shown : ShownTarget) (p q : BinaryOperator) → node_of n ≡ Block shown (temporary p q) → Each NodeWritesFirst (map node_of (n ∷ []))
first n shown p q is = (subst NodeWritesFirst (sym is) (writes_first p q), tt)
