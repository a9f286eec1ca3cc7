-- Keys that aren't held, and what is held once their units are.
use Rattle.std.proofs.Common.{◌≡◌, ℕ, ◌≤◌, ◌+◌, Bool, true, false, cond, List, [], ◌∷◌, ◌++◌, map, take, drop, length, append_assoc, refl, sym, ap, subst, ◌∙◌, true≢false, arith}
use Rattle.std.specs.List.{IsDistinct, AllByRecursion}
use Rattle.std.proofs.lemmas.List.{append-nil, length-append, take-append-le}
use Rattle.std.proofs.lemmas.Map.Keys.{IsDistinct-head, IsDistinct-tail}
use Rattle.std.proofs.Math.Seq.{take-length}
use Rattle.module_registry.specs.Keys.{KeyData, same}
use Rattle.module_registry.specs.KeyLaws.{same_laws}
use Rattle.module_registry.specs.Building.{Built}
use Rattle.module_registry.specs.Entries.{Entry, keys_of, is_among, if_missing, missing, are_new, entries}

-- ---- one key

pub none_more : (held : List KeyData) (k : KeyData) (ks : List KeyData) → is_among k held ≡ true → ks ≡ ks ++ if_missing held k
none_more held k ks is = sym (ap (λ (b : Bool). ks ++ cond b [] (k ∷ [])) is ∙ append-nil ks)

pub one_missing : (held : List KeyData) (k : KeyData) (ks : List KeyData) → is_among k held ≡ false → ks ++ k ∷ [] ≡ ks ++ if_missing held k
one_missing held k ks isnt = sym (ap (λ (b : Bool). ks ++ cond b [] (k ∷ [])) isnt)

-- ---- all keys

abbrev AreApart : (held ks : List KeyData) → Type 0
AreApart held ks = AllByRecursion (λ k. is_among k held ≡ false) ks

either : (a b c : Bool) → cond a true (cond b true c) ≡ cond (cond a true b) true c
either true b c = refl
either false b c = refl

pub among_both : (k : KeyData) (hs gs : List KeyData) → is_among k (hs ++ gs) ≡ cond (is_among k hs) true (is_among k gs)
among_both k [] gs = refl
among_both k (h ∷ hs) gs = ap (λ (b : Bool). cond (same k h) true b) (among_both k hs gs) ∙ either (same k h) (is_among k hs) (is_among k gs)

neither : (a b : Bool) → a ≡ false → b ≡ false → cond a true b ≡ false
neither a b p q = ap (λ (c : Bool). cond c true b) p ∙ q

-- one key more behind those that these keys are apart from
apart_more : (done : List KeyData) (k : KeyData) (ks : List KeyData) → AreApart done ks → AllByRecursion (λ y. same k y ≡ false) ks → AreApart (done ++ k ∷ []) ks
apart_more done k [] apart others = tt
apart_more done k (y ∷ ys) apart others = (
  among_both y done (k ∷ [])
      ∙ neither (is_among y done) (cond (same y k) true false) apart.0 (ap (λ (b : Bool). cond b true false) (same_laws.symm y k ∙ others.0)),
  apart_more done k ys apart.1 others.1,
)

-- whether the first key is held or not, the missing keys are new where the rest of them are
first_or_not : (held done : List KeyData) (k : KeyData) (ms : List KeyData) (b : Bool) → is_among k held ≡ b → is_among k done ≡ false → are_new (held ++ done) ms ≡ true → are_new (held ++ (done ++ k ∷ [])) ms ≡ true
    → are_new (held ++ done) (cond b [] (k ∷ []) ++ ms) ≡ true
first_or_not held done k ms true is apart rest next = rest
first_or_not held done k ms false is apart rest next =
    ap (λ (b : Bool). cond b false (are_new ((held ++ done) ++ k ∷ []) ms)) (among_both k held done ∙ neither (is_among k held) (is_among k done) is apart)
    ∙ ap (λ (hs : List KeyData). are_new hs ms) (append_assoc held done (k ∷ []))
    ∙ next

-- the missing keys are new, where no two of all are the same
all_new : (held done ks : List KeyData) → IsDistinct same ks → AreApart done ks → are_new (held ++ done) (missing held ks) ≡ true
all_new held done [] distinct apart = refl
all_new held done (k ∷ ks) distinct apart =
    first_or_not held done k (missing held ks) (is_among k held) refl apart.0
    (all_new held done ks (IsDistinct-tail same k ks distinct) apart.1)
    (all_new held (done ++ k ∷ []) ks (IsDistinct-tail same k ks distinct) (apart_more done k ks apart.1 (IsDistinct-head same k ks distinct)))

none_apart : (ks : List KeyData) → AreApart [] ks
none_apart [] = tt
none_apart (k ∷ ks) = (refl, none_apart ks)

pub missing_new : (held ks : List KeyData) → IsDistinct same ks → are_new held (missing held ks) ≡ true
missing_new held ks distinct = ap (λ (hs : List KeyData). are_new hs (missing held ks)) (sym (append-nil held)) ∙ all_new held [] ks distinct (none_apart ks)

length_if : (b : Bool) (k : KeyData) (ks : List KeyData) → length (cond b [] (k ∷ []) ++ ks) ≤ length ks + 1
length_if true k ks = omega arith
length_if false k ks = omega arith

-- no more are missing than there are
pub missing_within : (held ks : List KeyData) → length (missing held ks) ≤ length ks
missing_within held [] = omega arith
missing_within held (k ∷ ks) = omega (arith, length_if (is_among k held) k (missing held ks), missing_within held ks)

-- ---- what is held while units come in

keys_more : (es : List Entry) (e : Entry) → keys_of (es ++ e ∷ []) ≡ keys_of es ++ e.key ∷ []
keys_more [] e = refl
keys_more (x ∷ xs) e = ap (λ (ks : List KeyData). x.key ∷ ks) (keys_more xs e)

new_parts : (b c : Bool) → cond b false c ≡ true → (b ≡ false) × (c ≡ true)
new_parts true c h = absurd (true≢false (sym h))
new_parts false c h = (refl, h)

pub first_new : (held : List KeyData) (k : KeyData) (ks : List KeyData) → are_new held (k ∷ ks) ≡ true → is_among k held ≡ false
first_new held k ks new = (new_parts (is_among k held) (are_new (held ++ k ∷ []) ks) new).0

rest_new : (held : List KeyData) (k : KeyData) (ks : List KeyData) → are_new held (k ∷ ks) ≡ true → are_new (held ++ k ∷ []) ks ≡ true
rest_new held k ks new = (new_parts (is_among k held) (are_new (held ++ k ∷ []) ks) new).1

-- what is held, on the way from what was held to the whole: these keys and units are to come
pub record IsGoing (old whole now : List Entry) (ks : List KeyData) (us : List Built) : Type 0 where
  pub joined : now ++ entries ks us ≡ whole
  pub new : are_new (keys_of now) ks ≡ true
  pub begins : take (length old) now ≡ old
  pub longer : length old ≤ length now

pub going_first : (old : List Entry) (ks : List KeyData) (us : List Built) → are_new (keys_of old) ks ≡ true → IsGoing old (old ++ entries ks us) old ks us
going_first old ks us new = record { joined = refl; new = new; begins = take-length old; longer = omega arith }

pub going_on : (old whole now next : List Entry) (k : KeyData) (ks : List KeyData) (u : Built) (us : List Built) → IsGoing old whole now (k ∷ ks) (u ∷ us) → next ≡ now ++ record { key = k; unit = u } ∷ []
    → IsGoing old whole next ks us
going_on old whole now next k ks u us going is =
    subst (λ (es : List Entry). IsGoing old whole es ks us) (sym is) (record {
      joined = append_assoc now (record { key = k; unit = u } ∷ []) (entries ks us) ∙ going.joined;
      new = ap (λ (hs : List KeyData). are_new hs ks) (keys_more now (record { key = k; unit = u })) ∙ rest_new (keys_of now) k ks going.new;
      begins = take-append-le (length old) now (record { key = k; unit = u } ∷ []) going.longer ∙ going.begins;
      longer = omega (arith, going.longer, length-append now (record { key = k; unit = u } ∷ []));
    })

no_entries : (ks : List KeyData) → entries ks [] ≡ []
no_entries [] = refl
no_entries (k ∷ ks) = refl

-- where the units end
pub gone : (old whole now : List Entry) (ks : List KeyData) (us : List Built) → length us ≡ 0 → IsGoing old whole now ks us → now ≡ whole
gone old whole now ks [] none going = sym (append-nil now) ∙ sym (ap (λ (es : List Entry). now ++ es) (no_entries ks)) ∙ going.joined
gone old whole now ks (u ∷ us) none going = absurd (omega (arith, none))

-- where the keys end
pub all_gone : (old whole now : List Entry) (us : List Built) → IsGoing old whole now [] us → now ≡ whole
all_gone old whole now us going = sym (append-nil now) ∙ going.joined

-- ---- a copy

-- the copy so far, and what is left to copy
pub record IsCopying (whole now left : List Entry) : Type 0 where
  pub joined : now ++ left ≡ whole
  pub new : are_new (keys_of now) (keys_of left) ≡ true

none_missing : (ks : List KeyData) → missing [] ks ≡ ks
none_missing [] = refl
none_missing (k ∷ ks) = ap (λ (ms : List KeyData). k ∷ ms) (none_missing ks)

pub copying_first : (whole now : List Entry) → now ≡ [] → IsDistinct same (keys_of whole) → IsCopying whole now whole
copying_first whole now empty distinct =
    subst (λ (es : List Entry). IsCopying whole es whole) (sym empty) (record {
      joined = refl;
      new = ap (λ (ks : List KeyData). are_new [] ks) (sym (none_missing (keys_of whole))) ∙ missing_new [] (keys_of whole) distinct;
    })

pub copying_on : (whole now next left : List Entry) (e : Entry) → IsCopying whole now (e ∷ left) → next ≡ now ++ e ∷ [] → IsCopying whole next left
copying_on whole now next left e copying is =
    subst (λ (es : List Entry). IsCopying whole es left) (sym is) (record {
      joined = append_assoc now (e ∷ []) left ∙ copying.joined;
      new = ap (λ (hs : List KeyData). are_new hs (keys_of left)) (keys_more now e) ∙ rest_new (keys_of now) e.key (keys_of left) copying.new;
    })

pub copied : (whole now left : List Entry) → left ≡ [] → IsCopying whole now left → now ≡ whole
copied whole now left none copying = sym (append-nil now) ∙ sym (ap (λ (es : List Entry). now ++ es) none) ∙ copying.joined
