-- Names that go to a list one after another.
use Rattle.std.proofs.Common.{◌≡◌, ◌<◌, ◌≤◌, ℕ, ◌+◌, List, [], ◌∷◌, ◌++◌, drop, length, get_or, refl, sym, ◌∙◌, ap, ap₂, subst, append-nil, append_assoc, length-append, arith}
use Rattle.std.proofs.lemmas.List.{at_drop_all}
use Rattle.typed_ir.proofs.Lists.{drop_read}
use Rattle.verilog_ast.specs.declared.identifier.Identifier.{Identifier}
use Rattle.typed_ir.specs.declared.mention.Mention.{Mention}
use Rattle.width_rules.specs.Mentions.{numbered}
use Rattle.width_rules.specs.Adding.{Notes, NamesLeft}

further : (k n : ℕ) → k + 1 + n ≡ k + (1 + n)
further k n = omega arith

-- numbers go on behind the first names
pub numbered_two : (k : ℕ) (xs ys : List Identifier) → numbered k (xs ++ ys) ≡ numbered k xs ++ numbered (k + length xs) ys
numbered_two k [] ys = let none : k ≡ k + 0 = omega arith in ap (λ n. numbered n ys) none
numbered_two k (x ∷ xs) ys =
    let more : k + 1 + length xs ≡ k + length (x ∷ xs) = omega arith in
    let one : Mention = record { name = x.name; at = x.at; order = k } in
    ap (λ (zs : List Mention). one ∷ zs) (numbered_two (k + 1) xs ys ∙ ap (λ n. numbered (k + 1) xs ++ numbered n ys) more)

pub notes_none : (list : List Mention) (from : ℕ) → Notes list list from from []
notes_none list from = record { list = sym (append-nil list); counts = omega arith }

pub notes_two : (old mid new : List Mention) (from between next : ℕ) (xs ys : List Identifier) → Notes old mid from between xs → Notes mid new between next ys
    → Notes old new from next (xs ++ ys)
notes_two old mid new from between next xs ys h k =
    let long : length (xs ++ ys) ≡ length xs + length ys = length-append xs ys in
    record {
      list = k.list ∙ ap₂ (λ (zs : List Mention) (n : ℕ). zs ++ numbered n ys) h.list h.counts
          ∙ append_assoc old (numbered from xs) (numbered (from + length xs) ys)
          ∙ ap (λ (zs : List Mention). old ++ zs) (sym (numbered_two from xs ys));
      counts = omega (arith, h.counts, k.counts, long);
    }

-- ---- loops

pub left_all : (old : List Mention) (from : ℕ) (all : List Identifier) → NamesLeft old old from from all all
left_all old from all = record { kept = refl; counts = refl }

pub left_none : (old now : List Mention) (from next : ℕ) (all left : List Identifier) → left ≡ [] → NamesLeft old now from next all left → Notes old now from next all
left_none old now from next all left none h =
    let few : length left ≡ 0 = ap length none in
    record {
      list = sym (append-nil now) ∙ ap (λ (ns : List Identifier). now ++ numbered next ns) (sym none) ∙ h.kept;
      counts = omega (arith, h.counts, few);
    }

pub left_after : (old now new : List Mention) (from next after : ℕ) (all one left : List Identifier)
    → NamesLeft old now from next all (one ++ left) → Notes now new next after one → NamesLeft old new from after all left
left_after old now new from next after all one left h k =
    let long : length (one ++ left) ≡ length one + length left = length-append one left in
    record {
      kept = ap₂ (λ (zs : List Mention) (n : ℕ). zs ++ numbered n left) k.list k.counts
          ∙ append_assoc now (numbered next one) (numbered (next + length one) left)
          ∙ ap (λ (zs : List Mention). now ++ zs) (sym (numbered_two next one left)) ∙ h.kept;
      counts = omega (arith, h.counts, k.counts, long);
    }

-- one more element of a list whose names stand one after another
pub element_after : {A : Type 0} (names : List A → List Identifier) (one : A → List Identifier) → ((y : A) (ys : List A) → names (y ∷ ys) ≡ one y ++ names ys)
    → (xs : List A) (i : ℕ) (x : A) (old now new : List Mention) (from next after : ℕ) (all : List Identifier) → i < length xs → x ≡ get_or xs i x
    → NamesLeft old now from next all (names (drop i xs)) → Notes now new next after (one x)
    → NamesLeft old new from after all (names (drop (i + 1) xs))
element_after names one step xs i x old now new from next after all h is left k =
    left_after old now new from next after all (one x) (names (drop (i + 1) xs))
    (subst (λ (ns : List Identifier). NamesLeft old now from next all ns) (ap names (drop_read xs i x h is) ∙ step x (drop (i + 1) xs)) left) k

-- after all elements
pub elements_done : {A : Type 0} (names : List A → List Identifier) → names [] ≡ []
    → (xs : List A) (i : ℕ) (old now : List Mention) (from next : ℕ) → length xs ≤ i
    → NamesLeft old now from next (names xs) (names (drop i xs)) → Notes old now from next (names xs)
elements_done names none xs i old now from next h left =
    left_none old now from next (names xs) (names (drop i xs)) (at_drop_all names xs i h ∙ none) left
