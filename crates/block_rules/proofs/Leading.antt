-- Tables that take bits, and give them back.
use Rattle.std.proofs.Common.{◌≡◌, ℕ, ◌+◌, ◌<◌, ◌≤◌, Bool, true, false, ◌||◌, ◌&&◌, not, ◌==◌, nat_lt, List, [], ◌∷◌, ◌++◌, length, get_or, drop, Option, Some, None, refl, sym, ◌∙◌, ap, ap₂, subst, true≢false}
use Rattle.std.specs.Prelude.{bit_xor, slice_index}
use Rattle.std.specs.declared.vec.Vec.{Vec}
use Rattle.std.specs.Global.{Global}
use Rattle.std.proofs.Math.Bool.{or-false, or_assoc, and-false, and-not_self}
use Rattle.std.proofs.Math.Path.{fun_ext}
use Rattle.std.proofs.lemmas.Bool.{eqb-true, lt-ltb, or_left}
use Rattle.std.proofs.lemmas.List.{at_drop_all}
use Rattle.bits.proofs.Runs.{by_order}
use Rattle.typed_ir.specs.declared.touch.Touch.{Touch}
use Rattle.typed_ir.specs.Valuations.{Places}
use Rattle.typed_ir.specs.Touches.{has_bit, touched, Adds}
use Rattle.typed_ir.proofs.Cases.{by_cases}
use Rattle.typed_ir.proofs.Lists.{drop_read}
use Rattle.typed_ir.proofs.Masks.{adds_one, no_bit, or_nothing}
use Rattle.block_rules.specs.declared.bit_table.BitTable.{BitTable}
use Rattle.block_rules.specs.Tables.{bits_of, SameBelow, Leads, common_of, candidates}
use Rattle.block_rules.proofs.Masks.{low_bit, high_bit, bit_small, bit_inside, has_one, but_new}
use Rattle.block_rules.proofs.Knowing.{Alike}

-- ---- tests

new_more : (x a b c : Bool) → (a ≡ true → b ≡ true) → (b ≡ true → c ≡ true) → ((x || (b && not a)) || (c && not b)) ≡ (x || (c && not a))
new_more true a b c h k = refl
new_more false true true true h k = refl
new_more false true true false h k = absurd (true≢false (sym (k refl)))
new_more false true false c h k = absurd (true≢false (sym (h refl)))
new_more false false true true h k = refl
new_more false false true false h k = absurd (true≢false (sym (k refl)))
new_more false false false c h k = refl

none_new : (x a : Bool) → x ≡ (x || (a && not a))
none_new true a = refl
none_new false true = refl
none_new false false = refl

taken_back : (a b : Bool) → (a ≡ true → b ≡ true) → (b && not (b && not a)) ≡ a
taken_back true true h = refl
taken_back true false h = absurd (true≢false (sym (h refl)))
taken_back false true h = refl
taken_back false false h = refl

-- ---- what a table takes

pub leads_none : (a : BitTable) (xs : List Touch) (l w : Places) → SameBelow (length a.masks.items) l w → Leads a a xs xs l w
leads_none a xs l w same = record {
  size = refl;
  keeps = λ s i h. h;
  news = record { says = λ s i small. none_new (touched xs s i) (bits_of a s i) };
  same = same;
}

-- one step, and then another
pub then_leads : (a b c : BitTable) (xs ys zs : List Touch) (l w m v l' : Places) → Leads a b xs ys l w → Leads b c ys zs m v
    → SameBelow (length a.masks.items) l' l → Leads a c xs zs l' w
then_leads a b c xs ys zs l w m v l' h k join = record {
  size = k.size ∙ h.size;
  keeps = λ s i is. k.keeps s i (h.keeps s i is);
  news = record {
    says = λ s i small.
        k.news.says s i small
        ∙ ap (λ x. x || (bits_of c s i && not (bits_of b s i))) (h.news.says s i small)
        ∙ new_more (touched xs s i) (bits_of a s i) (bits_of b s i) (bits_of c s i) (h.keeps s i) (k.keeps s i);
  };
  same = λ s i here small. join s i here small ∙ h.same s i here small;
}

-- two steps, whatever is said of what they lead to
pub chain_leads : (a b c : BitTable) (xs ys zs : List Touch) (l w m v l' w' : Places) → Leads a b xs ys l w → Leads b c ys zs m v
    → SameBelow (length a.masks.items) l' w' → Leads a c xs zs l' w'
chain_leads a b c xs ys zs l w m v l' w' h k join = record {
  size = k.size ∙ h.size;
  keeps = λ s i is. k.keeps s i (h.keeps s i is);
  news = (then_leads a b c xs ys zs l w m v l h k (λ s i here small. refl)).news;
  same = join;
}

-- the same in other words
pub leads_as : (a b : BitTable) (xs ys : List Touch) (l w w' : Places) → Leads a b xs ys l w → SameBelow (length a.masks.items) w w' → Leads a b xs ys l w'
leads_as a b xs ys l w w' h join = record {
  size = h.size;
  keeps = h.keeps;
  news = h.news;
  same = λ s i here small. h.same s i here small ∙ join s i here small;
}

-- from a table with the same bits
pub leads_from : (a a' b : BitTable) (xs ys : List Touch) (l w : Places) → bits_of a' ≡ bits_of a → length a'.masks.items ≡ length a.masks.items
    → Leads a' b xs ys l w → Leads a b xs ys l w
leads_from a a' b xs ys l w is long h = record {
  size = h.size ∙ long;
  keeps = λ s i held. h.keeps s i (ap (λ p. p s i) is ∙ held);
  news = record { says = λ s i small. h.news.says s i small ∙ ap (λ p. touched xs s i || (bits_of b s i && not (p s i))) is };
  same = λ s i here small. h.same s i (subst (λ n. s < n) (sym long) here) small;
}

-- the bits that are new
abbrev fresh : BitTable → BitTable → Places
fresh before after = λ s i. bits_of after s i && not (bits_of before s i)

one_fresh : (before after : BitTable) (signal mask m n s i : ℕ)
    → m ≡ slice_index before.masks.items signal → n ≡ slice_index after.masks.items signal
    → bits_of after s i ≡ (bits_of before s i || (nat_lt s (length before.masks.items) && ((s == signal) && has_bit mask i)))
    → (bits_of before s i ≡ true → bits_of after s i ≡ true)
    → i < 128 → ((s == signal) && has_bit (bit_xor n m) i) ≡ fresh before after s i
one_fresh before after signal mask m n s i is_m is_n bits keeps small = by_cases (s == signal)
    (λ yes. let e : s ≡ signal = eqb-true s signal yes in
    ap (λ b. b && has_bit (bit_xor n m) i) yes
    ∙ has_one n m i
    ∙ ap₂ (λ a b. (a && not b) || (not a && b))
    (ap (λ x. has_bit x i) (is_n ∙ ap (slice_index after.masks.items) (sym e)) ∙ sym (low_bit after.masks.items s i small))
    (ap (λ x. has_bit x i) (is_m ∙ ap (slice_index before.masks.items) (sym e)) ∙ sym (low_bit before.masks.items s i small))
    ∙ but_new (bits_of after s i) (bits_of before s i) keeps)
    (λ out. ap (λ b. b && has_bit (bit_xor n m) i) out
    ∙ sym (ap (λ b. b && not (bits_of before s i))
    (bits ∙ ap (λ b. bits_of before s i || (nat_lt s (length before.masks.items) && (b && has_bit mask i))) out
    ∙ or_nothing (bits_of before s i) (nat_lt s (length before.masks.items)))
    ∙ and-not_self (bits_of before s i)))

-- the bits of one mask
one_leads : (before after : BitTable) (old new : List Touch) (signal mask : ℕ)
    → length after.masks.items ≡ length before.masks.items
    → ((s i : ℕ) → i < 128
    → bits_of after s i ≡ (bits_of before s i || (nat_lt s (length before.masks.items) && ((s == signal) && has_bit mask i))))
    → (((s i : ℕ) → bits_of before s i ≡ true → bits_of after s i ≡ true) → Adds old new (fresh before after))
    → Leads before after old new (bits_of after) (λ s i. bits_of before s i || ((s == signal) && has_bit mask i))
one_leads before after old new signal mask long bits adds = record {
  size = long;
  keeps = keeps;
  news = adds keeps;
  same = λ s i here small. bits s i small ∙ ap (λ b. bits_of before s i || (b && ((s == signal) && has_bit mask i))) (lt-ltb s (length before.masks.items) here);
}
  where
    keeps : (s i : ℕ) → bits_of before s i ≡ true → bits_of after s i ≡ true
    keeps s i h =
        bits s i (bit_small before.masks.items s i h)
        ∙ or_left (bits_of before s i) (nat_lt s (length before.masks.items) && ((s == signal) && has_bit mask i)) h

pub learn_leads : (before after : BitTable) (old new : List Touch) (signal mask m n : ℕ)
    → m ≡ slice_index before.masks.items signal → n ≡ slice_index after.masks.items signal
    → length after.masks.items ≡ length before.masks.items
    → ((s i : ℕ) → i < 128
    → bits_of after s i ≡ (bits_of before s i || (nat_lt s (length before.masks.items) && ((s == signal) && has_bit mask i))))
    → new ≡ old ++ record { signal = signal; mask = bit_xor n m } ∷ []
    → Leads before after old new (bits_of after) (λ s i. bits_of before s i || ((s == signal) && has_bit mask i))
learn_leads before after old new signal mask m n is_m is_n long bits is =
    one_leads before after old new signal mask long bits
    (λ keeps. subst (λ ts. Adds old ts (fresh before after)) (sym is)
    (adds_one old (record { signal = signal; mask = bit_xor n m }) (fresh before after)
    (λ s i small. one_fresh before after signal mask m n s i is_m is_n (bits s i small) (keeps s i) small)))

-- where none of them is new
pub none_learnt : (before after : BitTable) (old : List Touch) (signal mask m n : ℕ)
    → m ≡ slice_index before.masks.items signal → n ≡ slice_index after.masks.items signal
    → length after.masks.items ≡ length before.masks.items
    → ((s i : ℕ) → i < 128
    → bits_of after s i ≡ (bits_of before s i || (nat_lt s (length before.masks.items) && ((s == signal) && has_bit mask i))))
    → bit_xor n m ≡ 0
    → Leads before after old old (bits_of after) (λ s i. bits_of before s i || ((s == signal) && has_bit mask i))
none_learnt before after old signal mask m n is_m is_n long bits is =
    one_leads before after old old signal mask long bits
    (λ keeps. record {
      says = λ s i small.
          sym (or-false (touched old s i))
          ∙ ap (λ b. touched old s i || b)
          (sym (and-false (s == signal)) ∙ ap (λ b. (s == signal) && b) (sym (no_bit i)) ∙ ap (λ x. (s == signal) && has_bit x i) (sym is)
          ∙ one_fresh before after signal mask m n s i is_m is_n (bits s i small) (keeps s i) small);
    })

-- ---- and gives back

pub back : (k0 k1 k2 : BitTable) (c : List Touch) (l w : Places) → Leads k0 k1 [] c l w
    → ((s i : ℕ) → bits_of k2 s i ≡ (bits_of k1 s i && not (touched c s i))) → bits_of k2 ≡ bits_of k0
back k0 k1 k2 c l w h is = fun_ext (λ (s : ℕ). fun_ext (λ (i : ℕ). by_order i 128
    (λ small. is s i ∙ ap (λ b. bits_of k1 s i && not b) (h.news.says s i small) ∙ taken_back (bits_of k0 s i) (bits_of k1 s i) (h.keeps s i))
    (λ big. high_bit k2.masks.items s i big ∙ sym (high_bit k0.masks.items s i big))))

-- ---- branches

first_branch : (k b a : Bool) → b ≡ a → (k || ((b && not k) && b)) ≡ (k || (true && a))
first_branch true b a e = refl
first_branch false true a e = e
first_branch false false a e = e

next_branch : (k c b a : Bool) → b ≡ a → (k || (c && b)) ≡ (k || (c && a))
next_branch k c b a e = ap (λ x. k || (c && x)) e

-- what a branch has in common with those before it
pub branch_common : (k0 k1 : BitTable) (common : Option (Vec Touch Global)) (learned both : List Touch) (after : Places)
    → Leads k0 k1 [] learned (bits_of k1) after → Adds [] both (λ s i. touched (candidates common learned) s i && bits_of k1 s i)
    → SameBelow (length k0.masks.items) (λ s i. bits_of k0 s i || touched both s i) (λ s i. bits_of k0 s i || (common_of common s i && after s i))
branch_common k0 k1 None learned both after h adds = λ s i here small.
    ap (λ b. bits_of k0 s i || b) (adds.says s i small ∙ ap (λ b. b && bits_of k1 s i) (h.news.says s i small))
    ∙ first_branch (bits_of k0 s i) (bits_of k1 s i) (after s i) (h.same s i here small)
branch_common k0 k1 (Some list) learned both after h adds = λ s i here small.
    ap (λ b. bits_of k0 s i || b) (adds.says s i small)
    ∙ next_branch (bits_of k0 s i) (touched list.items s i) (bits_of k1 s i) (after s i) (h.same s i here small)

both_branches : (k first both a b : Bool) → (k ≡ true → a ≡ true) → (k ≡ true → b ≡ true) → (k || first) ≡ (k || (true && a)) → (k || both) ≡ (k || (first && b))
    → (k || both) ≡ (a && b)
both_branches true first both a b p q h g = sym (ap₂ (λ x y. x && y) (p refl) (q refl))
both_branches false first both a b p q h g = g ∙ ap (λ x. x && b) h

-- two branches
pub if_same : (n : ℕ) (k first both a b : Places) → ((s i : ℕ) → k s i ≡ true → a s i ≡ true) → ((s i : ℕ) → k s i ≡ true → b s i ≡ true)
    → SameBelow n (λ s i. k s i || first s i) (λ s i. k s i || (true && a s i)) → SameBelow n (λ s i. k s i || both s i) (λ s i. k s i || (first s i && b s i))
    → SameBelow n (λ s i. k s i || both s i) (λ s i. a s i && b s i)
if_same n k first both a b p q h g = λ s i here small.
    both_branches (k s i) (first s i) (both s i) (a s i) (b s i) (p s i) (q s i) (h s i here small) (g s i here small)

arm_more : (k both c a r : Bool) → (k || both) ≡ (k || (c && a)) → (k || (both && r)) ≡ (k || (c && (a && r)))
arm_more true both c a r h = refl
arm_more false both true a r h = ap (λ x. x && r) h
arm_more false both false a r h = ap (λ x. x && r) h

-- one more arm
pub arm_same : (n : ℕ) (k both c a r all : Places) → SameBelow n (λ s i. k s i || both s i) (λ s i. k s i || (c s i && a s i))
    → SameBelow n (λ s i. k s i || (c s i && (a s i && r s i))) all → SameBelow n (λ s i. k s i || (both s i && r s i)) all
arm_same n k both c a r all h g = λ s i here small. arm_more (k s i) (both s i) (c s i) (a s i) (r s i) (h s i here small) ∙ g s i here small

-- ---- tables in place of what they stand for

-- what a table takes is what is known, as far as a block may write it
pub alike_tables : (written k0 k1 : BitTable) (xs ys : List Touch) (w : Places) → length written.masks.items ≡ length k0.masks.items
    → Leads k0 k1 xs ys (bits_of k1) w → Alike (bits_of written) (bits_of written) (bits_of k1) w
alike_tables written k0 k1 xs ys w long h = record {
  writes = λ s i small. refl;
  knows = λ s i small is. h.same s i (subst (λ n. s < n) long (bit_inside written.masks.items s i is)) small;
}

-- ---- bits of a list, one after another

pub learn_next : {A : Type 0} (rest : List A → Places) (one : A → Places) (xs : List A) (k : ℕ) (x : A) (a b c : BitTable) (ts us vs : List Touch) (w : Places)
    → k < length xs → x ≡ get_or xs k x → ((ys : List A) (s i : ℕ) → rest (x ∷ ys) s i ≡ (one x s i || rest ys s i))
    → Leads a b ts us (λ s i. bits_of b s i || rest (drop k xs) s i) w → Leads b c us vs (bits_of c) (λ s i. bits_of b s i || one x s i)
    → Leads a c ts vs (λ s i. bits_of c s i || rest (drop (k + 1) xs) s i) w
learn_next rest one xs k x a b c ts us vs w less is splits h g =
    then_leads a b c ts us vs (λ s i. bits_of b s i || rest (drop k xs) s i) w (bits_of c) (λ s i. bits_of b s i || one x s i)
    (λ s i. bits_of c s i || rest (drop (k + 1) xs) s i) h g
    (λ s i here small.
    ap (λ z. z || rest (drop (k + 1) xs) s i) (g.same s i (subst (λ n. s < n) (sym h.size) here) small)
    ∙ or_assoc (bits_of b s i) (one x s i) (rest (drop (k + 1) xs) s i)
    ∙ ap (λ z. bits_of b s i || z) (sym (splits (drop (k + 1) xs) s i))
    ∙ ap (λ zs. bits_of b s i || rest zs s i) (sym (drop_read xs k x less is)))

pub learn_done : {A : Type 0} (rest : List A → Places) (xs : List A) (k : ℕ) (a b : BitTable) (ts us : List Touch) (w : Places) → length xs ≤ k
    → ((s i : ℕ) → rest [] s i ≡ false)
    → Leads a b ts us (λ s i. bits_of b s i || rest (drop k xs) s i) w → Leads a b ts us (bits_of b) w
learn_done rest xs k a b ts us w past empty h = record {
  size = h.size;
  keeps = h.keeps;
  news = h.news;
  same = λ s i here small.
      sym (at_drop_all (λ zs. bits_of b s i || rest zs s i) xs k past ∙ ap (λ z. bits_of b s i || z) (empty s i) ∙ or-false (bits_of b s i))
      ∙ h.same s i here small;
}
