-- Mentions that go to a list one after another.
use Rattle.std.proofs.Common.{◌≡◌, ◌<◌, ◌≤◌, ℕ, ◌+◌, List, [], ◌∷◌, ◌++◌, map, drop, length, get_or, refl, sym, ◌∙◌, ap, ap₂, append-nil, append_assoc, arith}
use Rattle.std.proofs.lemmas.List.{at_drop_all}
use Rattle.std.specs.Prelude.{Option, Some, None}
use Rattle.typed_ir.proofs.Lists.{drop_read}
use Rattle.verilog_ast.specs.declared.identifier.Identifier.{Identifier}
use Rattle.verilog_ast.specs.declared.statement.Arm.{Arm}
use Rattle.verilog_ast.specs.declared.statement.Stmt.{Stmt}
use Rattle.verilog_ast.specs.Statements.{Statement, Block, If, IfElse, Case, Assignment, Null, Default, Match, NoStatement, Statements}
use Rattle.verilog_ast.specs.Views.{statement_of, arm_of, statements_of}
use Rattle.typed_ir.specs.declared.mention.Mention.{Mention}
use Rattle.width_rules.specs.Mentions.{Listing, numbered, count, mentions, arm_mentions, default_mentions, match_or, default_or}
use Rattle.width_rules.specs.Adding.{Notes, Tells, MentionsLeft, earlier_or, with_default, otherwise_or}

pub tells_none : (list : List Mention) (from : ℕ) → Tells list list from from [] 0
tells_none list from = record { list = sym (append-nil list); counts = omega arith }

-- names are told with their numbers
pub names_told : (old new : List Mention) (from next : ℕ) (names : List Identifier) → Notes old new from next names → Tells old new from next (numbered from names) (length names)
names_told old new from next names h = record { list = h.list; counts = h.counts }

-- mentions that go to another list are counted here
pub counted_only : (list own : List Mention) (from next : ℕ) (ms : List Mention) (n : ℕ) → Tells [] own from next ms n → Tells list list from next [] n
counted_only list own from next ms n h = record { list = sym (append-nil list); counts = h.counts }

-- some, and then those that are numbered from there on
pub then_told : (old mid new : List Mention) (from between next : ℕ) (some : List Mention) (c : ℕ) (more : ℕ → List Mention) (d : ℕ)
    → Tells old mid from between some c → Tells mid new between next (more between) d → Tells old new from next (some ++ more (from + c)) (c + d)
then_told old mid new from between next some c more d h k = record {
  list = k.list ∙ ap₂ (λ (zs : List Mention) (n : ℕ). zs ++ more n) h.list h.counts ∙ append_assoc old some (more (from + c));
  counts = omega (arith, h.counts, k.counts);
}

-- ---- loops

pub all_left : (old : List Mention) (from : ℕ) (all : List Mention) (n : ℕ) → MentionsLeft old old from from all n all n
all_left old from all n = record { kept = refl; counts = refl }

pub nothing_left : (old now : List Mention) (from next : ℕ) (all : List Mention) (n : ℕ) (left : List Mention) (more : ℕ) → left ≡ [] → more ≡ 0
    → MentionsLeft old now from next all n left more → Tells old now from next all n
nothing_left old now from next all n left more none few h = record {
  list = sym (append-nil now) ∙ ap (λ (ms : List Mention). now ++ ms) (sym none) ∙ h.kept;
  counts = omega (arith, h.counts, few);
}

-- one more element of a list whose mentions stand one after another
pub told_after : {A : Type 0} (all : ℕ → List A → List Mention) (size : List A → ℕ) (one : ℕ → A → List Mention) (own : A → ℕ)
    → ((k : ℕ) (y : A) (ys : List A) → all k (y ∷ ys) ≡ one k y ++ all (k + own y) ys) → ((y : A) (ys : List A) → size (y ∷ ys) ≡ own y + size ys)
    → (xs : List A) (i : ℕ) (x : A) (old now new : List Mention) (from next after : ℕ) (whole : List Mention) (n : ℕ) → i < length xs → x ≡ get_or xs i x
    → MentionsLeft old now from next whole n (all next (drop i xs)) (size (drop i xs)) → Tells now new next after (one next x) (own x)
    → MentionsLeft old new from after whole n (all after (drop (i + 1) xs)) (size (drop (i + 1) xs))
told_after all size one own step grow xs i x old now new from next after whole n h is left told =
    let rest = drop (i + 1) xs in
    let more : size (drop i xs) ≡ own x + size rest = ap size (drop_read xs i x h is) ∙ grow x rest in
    record {
      kept = ap₂ (λ (zs : List Mention) (k : ℕ). zs ++ all k rest) told.list told.counts
          ∙ append_assoc now (one next x) (all (next + own x) rest)
          ∙ ap (λ (zs : List Mention). now ++ zs) (sym (ap (all next) (drop_read xs i x h is) ∙ step next x rest)) ∙ left.kept;
      counts = omega (arith, left.counts, told.counts, more);
    }

-- ---- statements

pub statement_told : (w : Listing) (xs : List Stmt) (i : ℕ) (x : Stmt) (old now new : List Mention) (from next after : ℕ) (whole : List Mention) (n : ℕ) → i < length xs → x ≡ get_or xs i x
    → MentionsLeft old now from next whole n (mentions w next (statements_of (map statement_of (drop i xs)))) (count w (statements_of (map statement_of (drop i xs))))
    → Tells now new next after (mentions w next (statement_of x)) (count w (statement_of x))
    → MentionsLeft old new from after whole n (mentions w after (statements_of (map statement_of (drop (i + 1) xs)))) (count w (statements_of (map statement_of (drop (i + 1) xs))))
statement_told w =
    told_after (λ k ys. mentions w k (statements_of (map statement_of ys))) (λ ys. count w (statements_of (map statement_of ys)))
    (λ k y. mentions w k (statement_of y)) (λ y. count w (statement_of y)) (λ k y ys. refl) (λ y ys. refl)

pub statements_told : (w : Listing) (xs : List Stmt) (i : ℕ) (old now : List Mention) (from next : ℕ) → length xs ≤ i
    → MentionsLeft old now from next (mentions w from (statements_of (map statement_of xs))) (count w (statements_of (map statement_of xs)))
    (mentions w next (statements_of (map statement_of (drop i xs)))) (count w (statements_of (map statement_of (drop i xs))))
    → Tells old now from next (mentions w from (statements_of (map statement_of xs))) (count w (statements_of (map statement_of xs)))
statements_told w xs i old now from next h left =
    nothing_left old now from next (mentions w from (statements_of (map statement_of xs))) (count w (statements_of (map statement_of xs)))
    (mentions w next (statements_of (map statement_of (drop i xs)))) (count w (statements_of (map statement_of (drop i xs))))
    (at_drop_all (λ ys. mentions w next (statements_of (map statement_of ys))) xs i h) (at_drop_all (λ ys. count w (statements_of (map statement_of ys))) xs i h) left

-- ---- items of a case

pub arm_told : (w : Listing) (xs : List Arm) (i : ℕ) (x : Arm) (old now new : List Mention) (from next after : ℕ) (whole : List Mention) (n : ℕ) → i < length xs → x ≡ get_or xs i x
    → MentionsLeft old now from next whole n (arm_mentions w next (statements_of (map arm_of (drop i xs)))) (count w (statements_of (map arm_of (drop i xs))))
    → Tells now new next after (match_or (arm_of x) (mentions w next (arm_of x)) []) (count w (arm_of x))
    → MentionsLeft old new from after whole n (arm_mentions w after (statements_of (map arm_of (drop (i + 1) xs)))) (count w (statements_of (map arm_of (drop (i + 1) xs))))
arm_told w =
    told_after (λ k ys. arm_mentions w k (statements_of (map arm_of ys))) (λ ys. count w (statements_of (map arm_of ys)))
    (λ k y. match_or (arm_of y) (mentions w k (arm_of y)) []) (λ y. count w (arm_of y)) (λ k y ys. refl) (λ y ys. refl)

-- after all items, the default
pub arms_told : (w : Listing) (xs : List Arm) (i : ℕ) (old now new : List Mention) (from next : ℕ) (otherwise : Option (List Mention)) → length xs ≤ i
    → MentionsLeft old now from next (arm_mentions w from (statements_of (map arm_of xs))) (count w (statements_of (map arm_of xs)))
    (arm_mentions w next (statements_of (map arm_of (drop i xs)))) (count w (statements_of (map arm_of (drop i xs))))
    → otherwise_or otherwise (default_mentions w next (statements_of (map arm_of (drop i xs)))) ≡ default_mentions w from (statements_of (map arm_of xs))
    → new ≡ now ++ otherwise_or otherwise []
    → Tells old new from next (arm_mentions w from (statements_of (map arm_of xs)) ++ default_mentions w from (statements_of (map arm_of xs))) (count w (statements_of (map arm_of xs)))
arms_told w xs i old now new from next otherwise h left default added =
    let some = arm_mentions w from (statements_of (map arm_of xs)) in
    let told : Tells old now from next some (count w (statements_of (map arm_of xs))) =
    nothing_left old now from next some (count w (statements_of (map arm_of xs)))
    (arm_mentions w next (statements_of (map arm_of (drop i xs)))) (count w (statements_of (map arm_of (drop i xs))))
    (at_drop_all (λ ys. arm_mentions w next (statements_of (map arm_of ys))) xs i h) (at_drop_all (λ ys. count w (statements_of (map arm_of ys))) xs i h) left in
    let last : otherwise_or otherwise [] ≡ default_mentions w from (statements_of (map arm_of xs)) =
    sym (at_drop_all (λ ys. otherwise_or otherwise (default_mentions w next (statements_of (map arm_of ys)))) xs i h) ∙ default in
    record {
      list = added ∙ ap₂ (λ (zs ms : List Mention). zs ++ ms) told.list last ∙ append_assoc old some (default_mentions w from (statements_of (map arm_of xs)));
      counts = told.counts;
    }

earlier : (before : Option (List Mention)) (ms rest : List Mention) → otherwise_or (earlier_or before ms) rest ≡ otherwise_or before ms
earlier None ms rest = refl
earlier (Some x) ms rest = refl

default_next : (before : Option (List Mention)) (x : Statement) (ms rest : List Mention)
    → otherwise_or (with_default before x ms) rest ≡ otherwise_or before (default_or x ms rest)
default_next before (Default at x) ms rest = earlier before ms rest
default_next before (Match ls x) ms rest = refl
default_next before (Block at label x) ms rest = refl
default_next before (If at c x) ms rest = refl
default_next before (IfElse at c x y) ms rest = refl
default_next before (Case at kind x items) ms rest = refl
default_next before (Assignment written x) ms rest = refl
default_next before (Null at) ms rest = refl
default_next before NoStatement ms rest = refl
default_next before (Statements x xs) ms rest = refl

pub default_kept : (w : Listing) (xs : List Arm) (i : ℕ) (x : Arm) (old new : Option (List Mention)) (next after : ℕ) (whole : List Mention) → i < length xs → x ≡ get_or xs i x
    → otherwise_or old (default_mentions w next (statements_of (map arm_of (drop i xs)))) ≡ whole
    → new ≡ with_default old (arm_of x) (mentions w next (arm_of x)) → after ≡ next + count w (arm_of x)
    → otherwise_or new (default_mentions w after (statements_of (map arm_of (drop (i + 1) xs)))) ≡ whole
default_kept w xs i x old new next after whole h is left new_is counts =
    let rest = statements_of (map arm_of (drop (i + 1) xs)) in
    ap₂ (λ (o : Option (List Mention)) (k : ℕ). otherwise_or o (default_mentions w k rest)) new_is counts
    ∙ default_next old (arm_of x) (mentions w next (arm_of x)) (default_mentions w (next + count w (arm_of x)) rest)
    ∙ sym (ap (λ ys. otherwise_or old (default_mentions w next (statements_of (map arm_of ys)))) (drop_read xs i x h is)) ∙ left
