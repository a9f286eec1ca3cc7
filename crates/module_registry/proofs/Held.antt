-- What a registry holds, in a map of the code.
use Rattle.std.proofs.Common.{Bor, Global, ◌≡◌, ℕ, Bool, true, false, cond, List, [], ◌∷◌, ◌++◌, map, take, length, refl, sym, ap, subst, ◌∙◌, true≢false}
use Rattle.std.specs.Prelude.{Option, Some, None, Result, Ok}
use Rattle.std.specs.Option.{option_map, option_copied, is_some}
use Rattle.std.specs.List.{IsDistinct, All}
use Rattle.std.specs.Map.{lookup}
use Rattle.std.specs.declared.sync.Arc.{Arc}
use Rattle.std.proofs.lemmas.Bool.{cond-false}
use Rattle.std.proofs.lemmas.List.{map_push, take-map}
use Rattle.std.proofs.lemmas.List.Elements.{All-take}
use Rattle.indexmap.specs.IndexMap.{insert_entry}
use Rattle.ls_text.specs.declared.fault.Fault.{Fault}
use Rattle.typed_ir.specs.declared.unit.Unit.{Unit as ModuleUnit}
use Rattle.module_registry.specs.declared.build_job.BuildJob.{BuildJob}
use Rattle.module_registry.specs.Keys.{KeyData, same}
use Rattle.module_registry.specs.Building.{Built}
use Rattle.module_registry.specs.Entries.{Entry, keys_of, unit_under, is_among, Holds}
use Rattle.module_registry.specs.UnitViews.{built_of, shared_unit}
use Rattle.module_registry.specs.Views.{entry_of}

abbrev pub Shared : Type 0
Shared = Arc ModuleUnit Global

abbrev pub Stored : Type 0
Stored = List (KeyData × Shared)

abbrev first_of : KeyData × Shared → KeyData
first_of e = e.0

-- ---- keys

keys_seen : (es : Stored) → map first_of es ≡ keys_of (map entry_of es)
keys_seen [] = refl
keys_seen (e ∷ es) = ap (λ (ks : List KeyData). e.0 ∷ ks) (keys_seen es)

pub once : (es : Stored) → IsDistinct same (map first_of es) → IsDistinct same (keys_of (map entry_of es))
once es distinct = subst (IsDistinct same) (keys_seen es) distinct

-- ---- looking up

chosen : (b : Bool) (v : Shared) (o : Option Shared) → option_map shared_unit (cond b (Some v) o) ≡ cond b (Some (shared_unit v)) (option_map shared_unit o)
chosen true v o = refl
chosen false v o = refl

looked_up : (k : KeyData) (es : Stored) → option_map shared_unit (lookup (same k) es) ≡ unit_under k (map entry_of es)
looked_up k [] = refl
looked_up k (e ∷ es) =
    chosen (same k e.0) e.1 (lookup (same k) es)
    ∙ ap (λ (o : Option Built). cond (same k e.0) (Some (shared_unit e.1)) o) (looked_up k es)

-- what is found, seen through a shared owner more
pub found : (k : KeyData) (es : Stored) (r : Option (Bor Shared)) (kept : Bor Shared) (copy : Shared) → r ≡ Some kept → option_copied r ≡ lookup (same k) es → copy.value ≡ kept.now.value
    → Some (shared_unit copy) ≡ unit_under k (map entry_of es)
found k es r kept copy is value owner =
    ap (λ (u : ModuleUnit). Some (built_of u)) owner
    ∙ ap (option_map shared_unit) (sym (ap option_copied is) ∙ value)
    ∙ looked_up k es

pub not_found : (k : KeyData) (es : Stored) (r : Option (Bor Shared)) → r ≡ None → option_copied r ≡ lookup (same k) es → None ≡ unit_under k (map entry_of es)
not_found k es r is value =
    ap (option_map shared_unit) (sym (ap option_copied is) ∙ value) ∙ looked_up k es

some_chosen : (b : Bool) (v : Shared) (o : Option Shared) → is_some (cond b (Some v) o) ≡ cond b true (is_some o)
some_chosen true v o = refl
some_chosen false v o = refl

-- a key is held where something is found under it
pub held : (k : KeyData) (es : Stored) → is_some (lookup (same k) es) ≡ is_among k (keys_of (map entry_of es))
held k [] = refl
held k (e ∷ es) =
    some_chosen (same k e.0) e.1 (lookup (same k) es)
    ∙ ap (λ (b : Bool). cond (same k e.0) true b) (held k es)

some_shared : (o : Option Shared) (r : Option (Bor Shared)) → option_copied r ≡ o → is_some r ≡ is_some o
some_shared o None is = ap is_some is
some_shared o (Some b) is = ap is_some is

pub found_held : (k : KeyData) (es : Stored) (r : Option (Bor Shared)) (kept : Bor Shared) → r ≡ Some kept → option_copied r ≡ lookup (same k) es → true ≡ is_among k (keys_of (map entry_of es))
found_held k es r kept is value = sym (ap is_some is) ∙ some_shared (lookup (same k) es) r value ∙ held k es

pub not_held : (k : KeyData) (es : Stored) (r : Option (Bor Shared)) → r ≡ None → option_copied r ≡ lookup (same k) es → false ≡ is_among k (keys_of (map entry_of es))
not_held k es r is value = sym (ap is_some is) ∙ some_shared (lookup (same k) es) r value ∙ held k es

-- ---- cutting

pub cut_entries : (n : ℕ) (es new : Stored) → new ≡ take n es → map entry_of new ≡ take n (map entry_of es)
cut_entries n es new is = ap (λ (xs : Stored). map entry_of xs) is ∙ sym (take-map entry_of n es)

pub cut_holds : (n : ℕ) (es new : Stored) → new ≡ take n es → (builds : BuildJob → Result Built Fault) → Holds builds (map entry_of es) → Holds builds (map entry_of new)
cut_holds n es new is builds h =
    subst (Holds builds) (sym (cut_entries n es new is)) (record { each = All-take (λ (e : Entry). builds e.key.job ≡ Ok e.unit) n (map entry_of es) h.each })

-- ---- one more

not_first : (b c : Bool) → cond b true c ≡ false → (b ≡ false) × (c ≡ false)
not_first true c h = absurd (true≢false h)
not_first false c h = (refl, h)

put_last : (es : Stored) (k : KeyData) (v : Shared) → is_among k (keys_of (map entry_of es)) ≡ false → insert_entry same es k v ≡ es ++ (k, v) ∷ []
put_last [] k v new = refl
put_last (e ∷ es) k v new =
    let apart = not_first (same k e.0) (is_among k (keys_of (map entry_of es))) new in
    cond-false (same k e.0) ((e.0, v) ∷ es) (e ∷ insert_entry same es k v) apart.0
    ∙ ap (λ (xs : Stored). e ∷ xs) (put_last es k v apart.1)

pub one_more : (es new : Stored) (k : KeyData) (v copy : Shared) → new ≡ insert_entry same es k copy → is_among k (keys_of (map entry_of es)) ≡ false → copy.value ≡ v.value
    → map entry_of new ≡ map entry_of es ++ record { key = k; unit = shared_unit v } ∷ []
one_more es new k v copy is new_key owner =
    ap (λ (xs : Stored). map entry_of xs) (is ∙ put_last es k copy new_key)
    ∙ map_push entry_of es (k, copy)
    ∙ ap (λ (u : ModuleUnit). map entry_of es ++ record { key = k; unit = built_of u } ∷ []) owner
