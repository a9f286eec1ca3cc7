-- The units that a session holds, by the texts of their keys.
use Rattle.std.proofs.Common.{◌≡◌, ◌∙◌, ℕ, Bool, true, false, cond, List, [], ◌∷◌, ◌++◌, map, length, take, All, refl, sym, ap, ap₂, subst, true≢false}
use Rattle.std.specs.Prelude.{◌&&◌, ◌||◌, not, Result, Ok, Err, is_err}
use Rattle.std.specs.List.{list_any}
use Rattle.std.specs.Str.{bytes_eq}
use Rattle.std.specs.Cmp.Lexicographic.{bytes_decides}
use Rattle.std.proofs.Math.Seq.{take-append_seam}
use Rattle.std.proofs.lemmas.List.{length-map, map-append}
use Rattle.std.proofs.lemmas.List.Elements.{All-head, All-nil, All-tail, All-cons}
use Rattle.sha2.specs.Sha256.{sha256}
use Rattle.std.proofs.Math.Bool.{and-false}
use Rattle.ls_text.specs.declared.fault.Fault.{Fault}
use Rattle.module_registry.specs.declared.build_job.BuildJob.{BuildJob}
use Rattle.ls_text.specs.Answers.{◌>>=◌}
use Rattle.module_registry.specs.Building.{Built, built_all}
use Rattle.module_registry.specs.Entries.{Entry, ensured, entries as entries_with, if_missing, is_among, keys_of, missing}
use Rattle.module_registry.specs.Keys.{KeyData, jobs_of, same}
use Rattle.version_swap.specs.Held.{AreHeldUnder, IsHeldUnder, IsKeyUnder}
use Rattle.live_session.specs.Sessions.{held_texts}
use Rattle.live_session.specs.Verdicts.{missing_keys}

-- a key with the digest of its text
abbrev pub IsDigested : KeyData → Type 0
IsDigested k = k.digest ≡ sha256 k.text

abbrev text_of : KeyData → List ℕ
text_of k = k.text

-- ---- two keys are one where their texts are

same_text : (x y : KeyData) → IsDigested x → IsDigested y → same x y ≡ bytes_eq x.text y.text
same_text x y p q = by (bytes_eq x.text y.text) refl
  where
    by : (b : Bool) → bytes_eq x.text y.text ≡ b → (bytes_eq x.digest y.digest && b) ≡ b
    by true is =
        ap (λ (d : Bool). d && true)
        ((bytes_decides x.digest y.digest).1 (p ∙ ap sha256 ((bytes_decides x.text y.text).0 is) ∙ sym q))
    by false is = and-false (bytes_eq x.digest y.digest)

among_texts : (k : KeyData) (held : List KeyData) → IsDigested k → All IsDigested held
    → is_among k held ≡ list_any (bytes_eq k.text) (map text_of held)
among_texts k [] p all = refl
among_texts k (h ∷ hs) p all =
    by (bytes_eq k.text h.text) (same_text k h p (All-head IsDigested h hs all)) (among_texts k hs p (All-tail IsDigested h hs all))
  where
    by : (b : Bool) → same k h ≡ b → is_among k hs ≡ list_any (bytes_eq k.text) (map text_of hs)
        → cond (same k h) true (is_among k hs) ≡ (b || list_any (bytes_eq k.text) (map text_of hs))
    by true is rest = ap (λ (c : Bool). cond c true (is_among k hs)) is
    by false is rest = ap₂ (λ (c d : Bool). cond c true d) is rest

-- the texts of the keys that aren't held
pub missing_texts : (held keys : List KeyData) → All IsDigested held → All IsDigested keys
    → map text_of (missing held keys) ≡ missing_keys (map text_of held) (map text_of keys)
missing_texts held [] p q = refl
missing_texts held (k ∷ ks) p q =
    map-append text_of (if_missing held k) (missing held ks)
    ∙ by (is_among k held) (list_any (bytes_eq k.text) (map text_of held)) (among_texts k held (All-head IsDigested k ks q) p)
    (missing_texts held ks p (All-tail IsDigested k ks q))
  where
    by : (b d : Bool) → b ≡ d → map text_of (missing held ks) ≡ missing_keys (map text_of held) (map text_of ks)
        → map text_of (cond b [] (k ∷ [])) ++ map text_of (missing held ks)
        ≡ cond (not d) (k.text ∷ missing_keys (map text_of held) (map text_of ks)) (missing_keys (map text_of held) (map text_of ks))
    by true true is rest = rest
    by true false is rest = absurd (true≢false is)
    by false true is rest = absurd (true≢false (sym is))
    by false false is rest = ap (λ (ts : List (List ℕ)). k.text ∷ ts) rest

-- ---- what is held

-- the digests of what a registry holds
held_digested : (names : List (List ℕ)) (es : List Entry) → AreHeldUnder names es → All IsDigested (keys_of es)
held_digested names es h = go es h.each
  where
    go : (es : List Entry) → All (IsHeldUnder names) es → All IsDigested (keys_of es)
    go [] all = All-nil IsDigested
    go (e ∷ es) all =
        All-cons IsDigested e.key (keys_of es) (All-head (IsHeldUnder names) e es all).key.digest (go es (All-tail (IsHeldUnder names) e es all))

-- and of keys that were made
pub made_digested : (names : List (List ℕ)) (keys : List KeyData) → All (IsKeyUnder names) keys → All IsDigested keys
made_digested names [] all = All-nil IsDigested
made_digested names (k ∷ ks) all =
    All-cons IsDigested k ks (All-head (IsKeyUnder names) k ks all).digest (made_digested names ks (All-tail (IsKeyUnder names) k ks all))

texts_held : (es : List Entry) → held_texts es ≡ map text_of (keys_of es)
texts_held [] = refl
texts_held (e ∷ es) = ap (λ (ts : List (List ℕ)). e.key.text ∷ ts) (texts_held es)

held_append : (xs ys : List Entry) → held_texts (xs ++ ys) ≡ held_texts xs ++ held_texts ys
held_append xs ys = map-append (λ (e : Entry). e.key.text) xs ys

abbrev given_or : List Built → Result (List Built) Fault → List Built
given_or us (Ok vs) = vs
given_or us (Err f) = us

abbrev entries_or : List Entry → Result (List Entry) Fault → List Entry
entries_or es (Ok new) = new
entries_or es (Err f) = es

-- each key with a unit
keyed : (builds : BuildJob → Result Built Fault) (ks : List KeyData) (us : List Built) → built_all builds (jobs_of ks) ≡ Ok us
    → held_texts (entries_with ks us) ≡ map text_of ks
keyed builds [] us made = refl
keyed builds (k ∷ ks) us made = by (builds k.job) (built_all builds (jobs_of ks)) us (keyed builds ks) made
  where
    by : (one : Result Built Fault) (more : Result (List Built) Fault) (us : List Built)
        → ((vs : List Built) → more ≡ Ok vs → held_texts (entries_with ks vs) ≡ map text_of ks)
        → (one >>= λ u. more >>= λ vs. Ok (u ∷ vs)) ≡ Ok us
        → held_texts (entries_with (k ∷ ks) us) ≡ map text_of (k ∷ ks)
    by (Err f) more us rest e = absurd (true≢false (ap is_err e))
    by (Ok u) (Err f) us rest e = absurd (true≢false (ap is_err e))
    by (Ok u) (Ok vs) us rest e =
        subst (λ (xs : List Built). held_texts (entries_with (k ∷ ks) xs) ≡ map text_of (k ∷ ks)) (ap (given_or us) e)
        (ap (λ (ts : List (List ℕ)). k.text ∷ ts) (rest vs refl))

module _ (names : List (List ℕ)) (es : List Entry) (keys : List KeyData) (held : AreHeldUnder names es) (digests : All IsDigested keys) where
  abbrev not_held : List KeyData
  not_held = missing (keys_of es) keys

  its_texts : map text_of not_held ≡ missing_keys (held_texts es) (map text_of keys)
  its_texts =
      missing_texts (keys_of es) keys (held_digested names es held) digests
      ∙ ap (λ (ts : List (List ℕ)). missing_keys ts (map text_of keys)) (sym (texts_held es))

  -- behind a version its missing keys are held too
  pub held_behind : (builds : BuildJob → Result Built Fault) (new : List Entry) → ensured builds es keys ≡ Ok new
      → held_texts new ≡ held_texts es ++ missing_keys (held_texts es) (map text_of keys)
  held_behind builds new is = by (built_all builds (jobs_of not_held)) refl is
    where
      by : (found : Result (List Built) Fault) → built_all builds (jobs_of not_held) ≡ found
          → (found >>= λ us. Ok (es ++ entries_with not_held us)) ≡ Ok new
          → held_texts new ≡ held_texts es ++ missing_keys (held_texts es) (map text_of keys)
      by (Err f) made e = absurd (true≢false (ap is_err e))
      by (Ok us) made e =
          ap held_texts (sym (ap (entries_or new) e))
          ∙ held_append es (entries_with not_held us)
          ∙ ap (λ (ts : List (List ℕ)). held_texts es ++ ts) (keyed builds not_held us made ∙ its_texts)

  -- how many these are
  pub built_behind : (built : ℕ) → built ≡ length not_held → built ≡ length (missing_keys (held_texts es) (map text_of keys))
  built_behind built is = is ∙ sym (length-map not_held text_of) ∙ ap length its_texts

-- what is cut off behind what was held
pub cut_to : (builds : BuildJob → Result Built Fault) (es new : List Entry) (keys : List KeyData) → ensured builds es keys ≡ Ok new
    → take (length es) new ≡ es
cut_to builds es new keys is = by (built_all builds (jobs_of (missing (keys_of es) keys))) is
  where
    by : (found : Result (List Built) Fault) → (found >>= λ us. Ok (es ++ entries_with (missing (keys_of es) keys) us)) ≡ Ok new
        → take (length es) new ≡ es
    by (Err f) e = absurd (true≢false (ap is_err e))
    by (Ok us) e = ap (take (length es)) (sym (ap (entries_or new) e)) ∙ take-append_seam es (entries_with (missing (keys_of es) keys) us)
