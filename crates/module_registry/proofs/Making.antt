-- What is held where the missing units are made.
use Rattle.std.proofs.Common.{◌≡◌, ℕ, ◌≤◌, List, [], ◌∷◌, ◌++◌, map, length, cond, append_assoc, refl, sym, ap, ap₂, subst, ◌∙◌, arith}
use Rattle.std.specs.Prelude.{Bool, true, false, if◌then◌else◌, Option, Some, None, Result, Ok, Err}
use Rattle.std.specs.List.{All}
use Rattle.std.proofs.lemmas.List.Elements.{All-nil, All-cons, All-append, All-head, All-tail}
use Rattle.ls_text.specs.declared.fault.Fault.{Fault}
use Rattle.module_registry.specs.declared.build_job.BuildJob.{BuildJob}
use Rattle.module_registry.specs.Keys.{KeyData, same, jobs_of}
use Rattle.module_registry.specs.KeyLaws.{same_laws}
use Rattle.ls_text.specs.Answers.{◌>>=◌}
use Rattle.module_registry.specs.Building.{Built, built_all}
use Rattle.module_registry.specs.Entries.{Entry, keys_of, is_among, if_missing, missing, entries, unit_under, Holds}
use Rattle.module_registry.proofs.News.{among_both, missing_within}

-- no more are made than are asked for
pub made_within : (held ks made slice : List KeyData) (n : ℕ) → made ≡ missing held ks → slice ≡ made → length slice ≡ n → n ≤ length ks
made_within held ks made slice n is same count = omega (arith, missing_within held ks, ap length is, ap length same, count)

-- ---- all keys are held

abbrev AreAmong : (held ks : List KeyData) → Type 0
AreAmong held ks = All (λ (k : KeyData). is_among k held ≡ true) ks

in_either : (a b : Bool) → b ≡ true → cond a true b ≡ true
in_either true b is = refl
in_either false b is = is

in_first : (a b : Bool) → a ≡ true → cond a true b ≡ true
in_first a b is = ap (λ (c : Bool). cond c true b) is

-- what is among the first or the last of three lists is among all
wider : (a b c : Bool) → cond a true c ≡ true → cond a true (cond b true c) ≡ true
wider true b c is = refl
wider false b c is = in_either b c is

among_wider : (k : KeyData) (hs xs ms : List KeyData) → is_among k (hs ++ ms) ≡ true → is_among k (hs ++ (xs ++ ms)) ≡ true
among_wider k hs xs ms is =
    among_both k hs (xs ++ ms)
    ∙ ap (λ (b : Bool). cond (is_among k hs) true b) (among_both k xs ms)
    ∙ wider (is_among k hs) (is_among k xs) (is_among k ms) (sym (among_both k hs ms) ∙ is)

all_wider : (hs xs ms ks : List KeyData) → AreAmong (hs ++ ms) ks → AreAmong (hs ++ (xs ++ ms)) ks
all_wider hs xs ms [] all = All-nil (λ (k : KeyData). is_among k (hs ++ (xs ++ ms)) ≡ true)
all_wider hs xs ms (k ∷ ks) all =
    All-cons (λ (x : KeyData). is_among x (hs ++ (xs ++ ms)) ≡ true) k ks
    (among_wider k hs xs ms (All-head (λ (x : KeyData). is_among x (hs ++ ms) ≡ true) k ks all))
    (all_wider hs xs ms ks (All-tail (λ (x : KeyData). is_among x (hs ++ ms) ≡ true) k ks all))

-- a key is held, or missing
held_or_missing : (hs : List KeyData) (k : KeyData) (ms : List KeyData) (b : Bool) → is_among k hs ≡ b → is_among k (hs ++ (cond b [] (k ∷ []) ++ ms)) ≡ true
held_or_missing hs k ms true is = among_both k hs ms ∙ in_first (is_among k hs) (is_among k ms) is
held_or_missing hs k ms false is =
    among_both k hs (k ∷ ms) ∙ in_either (is_among k hs) (cond (same k k) true (is_among k ms)) (in_first (same k k) (is_among k ms) (same_laws.refl k))

all_among : (hs ks : List KeyData) → AreAmong (hs ++ missing hs ks) ks
all_among hs [] = All-nil (λ (k : KeyData). is_among k (hs ++ []) ≡ true)
all_among hs (k ∷ ks) =
    All-cons (λ (x : KeyData). is_among x (hs ++ (if_missing hs k ++ missing hs ks)) ≡ true) k ks
    (held_or_missing hs k (missing hs ks) (is_among k hs) refl)
    (all_wider hs (if_missing hs k) (missing hs ks) ks (all_among hs ks))

keys_both : (es fs : List Entry) → keys_of (es ++ fs) ≡ keys_of es ++ keys_of fs
keys_both [] fs = refl
keys_both (e ∷ es) fs = ap (λ (ks : List KeyData). e.key ∷ ks) (keys_both es fs)

module _ (builds : BuildJob → Result Built Fault) where
  abbrev IsBuilt : Entry → Type 0
  IsBuilt e = builds e.key.job ≡ Ok e.unit

  -- a first unit and the rest of them
  parts : (first : Result Built Fault) (rest : Result (List Built) Fault) (us : List Built) → (first >>= λ u. rest >>= λ vs. Ok (u ∷ vs)) ≡ Ok us
      → (u : Built) × (vs : List Built) × (first ≡ Ok u) × (rest ≡ Ok vs) × (us ≡ u ∷ vs)
  parts (Ok u) (Ok vs) us is = (u, vs, refl, refl, cc)
  parts (Ok u) (Err f) us is = absurd (cc)
  parts (Err f) rest us is = absurd (cc)

  -- the units that are built of the jobs of keys are those of their jobs
  built_so : (ks : List KeyData) (us : List Built) → built_all builds (jobs_of ks) ≡ Ok us → All IsBuilt (entries ks us)
  built_so [] us is = All-nil IsBuilt
  built_so (k ∷ ks) us is =
      let p = parts (builds k.job) (built_all builds (jobs_of ks)) us is in
      subst (λ (vs : List Built). All IsBuilt (entries (k ∷ ks) vs)) (sym p.4)
      (All-cons IsBuilt (record { key = k; unit = p.0 }) (entries ks p.1) p.2 (built_so ks p.1 p.3))

  -- one unit for each key
  keys_kept : (ks : List KeyData) (us : List Built) → built_all builds (jobs_of ks) ≡ Ok us → keys_of (entries ks us) ≡ ks
  keys_kept [] us is = refl
  keys_kept (k ∷ ks) us is =
      let p = parts (builds k.job) (built_all builds (jobs_of ks)) us is in
      ap (λ (vs : List Built). keys_of (entries (k ∷ ks) vs)) p.4 ∙ ap (λ (ls : List KeyData). k ∷ ls) (keys_kept ks p.1 p.3)

  -- all keys that were asked for are held
  pub all_held : (es new : List Entry) (keys ks ls : List KeyData) (us vs : List Built) → built_all builds (jobs_of ks) ≡ Ok us → ks ≡ missing (keys_of es) keys → ls ≡ ks → vs ≡ us → new ≡ es ++ entries ls vs
      → All (λ (k : KeyData). is_among k (keys_of new) ≡ true) keys
  all_held es new keys ks ls us vs built missed same_keys same_units is =
      subst (λ (hs : List KeyData). AreAmong hs keys)
      (sym (ap keys_of (is ∙ ap₂ (λ (ms : List KeyData) (ws : List Built). es ++ entries ms ws) same_keys same_units)
      ∙ keys_both es (entries ks us)
      ∙ ap (λ (ms : List KeyData). keys_of es ++ ms) (keys_kept ks us built ∙ missed)))
      (all_among (keys_of es) keys)

  chosen : (k : KeyData) (e : Entry) (es : List Entry) (u : Built) (b : Bool) → same k e.key ≡ b → IsBuilt e → ((if b then Some e.unit else unit_under k es) ≡ Some u)
      → (unit_under k es ≡ Some u → (h : KeyData) × (same k h ≡ true) × (builds h.job ≡ Ok u)) → (h : KeyData) × (same k h ≡ true) × (builds h.job ≡ Ok u)
  chosen k e es u true is built found later = (e.key, is, cc (built, found))
  chosen k e es u false is built found later = later found

  each_held : (k : KeyData) (es : List Entry) (u : Built) → All IsBuilt es → unit_under k es ≡ Some u → (h : KeyData) × (same k h ≡ true) × (builds h.job ≡ Ok u)
  each_held k [] u all found = absurd (cc)
  each_held k (e ∷ es) u all found =
      chosen k e es u (same k e.key) refl (All-head IsBuilt e es all) found (each_held k es u (All-tail IsBuilt e es all))

  -- the unit that is held under a key is what building gives for the job of an equal key
  pub held_built : (k : KeyData) (es : List Entry) (u : Built) → Holds builds es → unit_under k es ≡ Some u → (h : KeyData) × (same k h ≡ true) × (builds h.job ≡ Ok u)
  held_built k es u holds found = each_held k es u holds.each found

  pub more_hold : (es new : List Entry) (ks ls : List KeyData) (us vs : List Built) → built_all builds (jobs_of ks) ≡ Ok us → ls ≡ ks → vs ≡ us → new ≡ es ++ entries ls vs → Holds builds es → Holds builds new
  more_hold es new ks ls us vs built keys same is h =
      subst (Holds builds) (sym (is ∙ ap (λ (ms : List KeyData). es ++ entries ms vs) keys ∙ ap (λ (ws : List Built). es ++ entries ks ws) same))
      (record { each = All-append IsBuilt es (entries ks us) h.each (built_so ks us built) })
