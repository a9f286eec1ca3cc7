-- Modules under their names, in a map of the code.
use Rattle.std.proofs.Common.{Bor, Global, ◌≡◌, ℕ, Bool, true, false, ◌==◌, List, [], ◌∷◌, ◌++◌, map, refl, sym, ◌∙◌, ap, ap₂, cond, true≢false}
use Rattle.std.specs.Prelude.{Option, Some, None, Result, Ok, Err, OnOk, OnErr}
use Rattle.std.specs.Option.{is_some, option_map, option_copied}
use Rattle.std.specs.Map.{lookup}
use Rattle.std.specs.declared.sync.Arc.{Arc}
use Rattle.std.proofs.lemmas.Bool.{cond-false}
use Rattle.std.proofs.lemmas.List.{map_push}
use Rattle.indexmap.specs.IndexMap.{insert_entry}
use Rattle.ls_text.specs.declared.name_id.NameId.{NameId}
use Rattle.ls_text.proofs.Lists.{same_first, same_others}
use Rattle.ls_text.proofs.Options.{not_first}
use Rattle.verilog_ast.specs.declared.module.Module.{Module}
use Rattle.unit_jobs.specs.FirstModules.{one_if_none, with_module}
use Rattle.unit_jobs.specs.Jobs.{module_called}
use Rattle.unit_jobs.specs.Tables.{key_of, entry_of, name_of}
use Rattle.unit_jobs.specs.TableViews.{lent_module, shared_module}

abbrev pub Entries : Type 0
Entries = List (NameId × Arc Module Global)

-- each stands under its own name
abbrev pub AreNamed : Entries → Type 0
AreNamed es = map key_of es ≡ map name_of es

-- ---- looking up

pub lent : (o : Option (Bor (Arc Module Global))) → option_map lent_module o ≡ option_map shared_module (option_copied o)
lent None = refl
lent (Some b) = refl

chosen : (b : Bool) (x : Arc Module Global) (o : Option (Arc Module Global))
    → option_map shared_module (cond b (Some x) o) ≡ cond b (Some x.value) (option_map shared_module o)
chosen true x o = refl
chosen false x o = refl

-- what is looked up is the first module of the name
pub looked_up : (n : ℕ) (test : NameId → Bool) → ((k : NameId) → test k ≡ (n == k.0)) → (es : Entries) → AreNamed es
    → option_map shared_module (lookup test es) ≡ module_called n (map entry_of es)
looked_up n test same [] named = refl
looked_up n test same (e ∷ es) named =
    chosen (test e.0) e.1 (lookup test es)
    ∙ ap₂ (λ (b : Bool) (o : Option Module). cond b (Some e.1.value) o)
    (same e.0 ∙ ap (λ (m : ℕ). n == m) (same_first (key_of e) (name_of e) (map key_of es) (map name_of es) named)) (looked_up n test same es (same_others (key_of e) (name_of e) (map key_of es) (map name_of es) named))

-- ---- one module more

-- where no module of the name stands there, it goes behind the others
put_last : (E : NameId → NameId → Bool) → ((x y : NameId) → E x y ≡ (x.0 == y.0)) → (es : Entries) (k : NameId) (v : Arc Module Global) → AreNamed es
    → module_called k.0 (map entry_of es) ≡ None → insert_entry E es k v ≡ es ++ (k, v) ∷ []
put_last E same [] k v named none = refl
put_last E same (e ∷ es) k v named none =
    let apart = not_first (k.0 == name_of e) (entry_of e) (module_called k.0 (map entry_of es)) none in
    cond-false (E k e.0) ((e.0, v) ∷ es) (e ∷ insert_entry E es k v) (same k e.0 ∙ ap (λ (m : ℕ). k.0 == m) (same_first (key_of e) (name_of e) (map key_of es) (map name_of es) named) ∙ apart.0)
    ∙ ap (λ (xs : Entries). e ∷ xs) (put_last E same es k v (same_others (key_of e) (name_of e) (map key_of es) (map name_of es) named) apart.1)

-- what isn't found isn't there
pub not_found : (o : Option (Bor (Arc Module Global))) (p : Option Module) → is_some o ≡ false → option_map lent_module o ≡ p → p ≡ None
not_found None p none is = sym is
not_found (Some b) p none is = absurd (true≢false none)

-- and what is found stays
pub found : (o : Option (Bor (Arc Module Global))) (p : Option Module) (ms : List Module) (m : Module) → is_some o ≡ true
    → option_map lent_module o ≡ p → ms ≡ one_if_none p ms m
found None p ms m some is = absurd (true≢false (sym some))
found (Some b) p ms m some is = ap (λ (q : Option Module). one_if_none q ms m) is

-- the modules are those that were, and then this one
pub one_more : (E : NameId → NameId → Bool) → ((x y : NameId) → E x y ≡ (x.0 == y.0))
    → (old new : Entries) (k : NameId) (v : Arc Module Global) (m : Module)
    → new ≡ insert_entry E old k v → AreNamed old → module_called k.0 (map entry_of old) ≡ None → v.value ≡ m → k.0 ≡ m.body.name.name.0
    → map entry_of new ≡ with_module (map entry_of old) m
one_more E same old new k v m is named none own name =
    ap (λ (xs : Entries). map entry_of xs) (is ∙ put_last E same old k v named none)
    ∙ map_push entry_of old (k, v)
    ∙ ap (λ (d : Module). map entry_of old ++ d ∷ []) own
    ∙ sym (ap (λ (o : Option Module). one_if_none o (map entry_of old) m) (ap (λ (n : ℕ). module_called n (map entry_of old)) (sym name) ∙ none))

-- and each stands under its own name, also where memory ran out
pub still_named : {V A : Type 0} (E : NameId → NameId → Bool) → ((x y : NameId) → E x y ≡ (x.0 == y.0))
    → (r : Result V A) (old new : Entries) (k : NameId) (v : Arc Module Global)
    → OnOk r (new ≡ insert_entry E old k v) → OnErr r (new ≡ old) → AreNamed old → module_called k.0 (map entry_of old) ≡ None
    → k.0 ≡ v.value.body.name.name.0 → AreNamed new
still_named E same (Ok x) old new k v is stays named none own =
    let all = is ∙ put_last E same old k v named none in
    ap (λ (xs : Entries). map key_of xs) all
    ∙ map_push key_of old (k, v)
    ∙ ap₂ (λ (ns : List ℕ) (n : ℕ). ns ++ n ∷ []) named own
    ∙ sym (map_push name_of old (k, v))
    ∙ sym (ap (λ (xs : Entries). map name_of xs) all)
still_named E same (Err a) old new k v is stays named none own =
    ap (λ (xs : Entries). map key_of xs) stays ∙ named ∙ sym (ap (λ (xs : Entries). map name_of xs) stays)
