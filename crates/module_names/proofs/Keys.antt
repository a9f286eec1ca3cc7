-- Modules under their names, in a map of the code.
use Rattle.std.proofs.Common.{Bor, ◌≡◌, ℕ, Bool, true, false, ◌==◌, List, [], ◌∷◌, ◌++◌, map, refl, sym, ◌∙◌, ap, ap₂, cond}
use Rattle.std.specs.Prelude.{Option, Some, None, Result, Ok, Err, OnOk, OnErr}
use Rattle.std.specs.Option.{option_map, option_copied}
use Rattle.std.specs.Map.{lookup}
use Rattle.std.proofs.lemmas.Bool.{cond-false}
use Rattle.std.proofs.lemmas.List.{map_push}
use Rattle.indexmap.specs.IndexMap.{insert_entry}
use Rattle.ls_text.specs.declared.name_id.NameId.{NameId}
use Rattle.ls_text.proofs.Lists.{same_first, same_others}
use Rattle.ls_text.proofs.Options.{not_first}
use Rattle.verilog_ast.specs.Items.{ModuleDeclaration}
use Rattle.verilog_ast.specs.Views.{declaration_of}
use Rattle.module_names.specs.declared.module_names.ModuleNames.{ModuleNames}
use Rattle.module_names.specs.Modules.{module_named}
use Rattle.module_names.specs.Entries.{key_of, entry_of, name_of}
use Rattle.module_names.specs.Views.{module_of}

abbrev pub Entries : Type 0
Entries = List (NameId × ModuleNames)

-- each stands under its own name
abbrev pub AreNamed : Entries → Type 0
AreNamed es = map key_of es ≡ map name_of es

-- ---- looking up

abbrev pub declared : ModuleNames → ModuleDeclaration
declared v = declaration_of v.body.now

pub lent : (o : Option (Bor ModuleNames)) → option_map module_of o ≡ option_map declared (option_copied o)
lent None = refl
lent (Some b) = refl

chosen : (b : Bool) (x : ModuleNames) (o : Option ModuleNames) → option_map declared (cond b (Some x) o) ≡ cond b (Some (declared x)) (option_map declared o)
chosen true x o = refl
chosen false x o = refl

-- what is looked up is the first module of the name
pub looked_up : (n : ℕ) (test : NameId → Bool) → ((k : NameId) → test k ≡ (n == k.0)) → (es : Entries) → AreNamed es
    → option_map declared (lookup test es) ≡ module_named n (map entry_of es)
looked_up n test same [] named = refl
looked_up n test same (e ∷ es) named =
    chosen (test e.0) e.1 (lookup test es)
    ∙ ap₂ (λ (b : Bool) (o : Option ModuleDeclaration). cond b (Some (declared e.1)) o)
    (same e.0 ∙ ap (λ (m : ℕ). n == m) (same_first (key_of e) (name_of e) (map key_of es) (map name_of es) named)) (looked_up n test same es (same_others (key_of e) (name_of e) (map key_of es) (map name_of es) named))

-- ---- one module more

-- where no module of the name stands there, it goes behind the others
pub put_last : (E : NameId → NameId → Bool) → ((x y : NameId) → E x y ≡ (x.0 == y.0)) → (es : Entries) (k : NameId) (v : ModuleNames) → AreNamed es
    → module_named k.0 (map entry_of es) ≡ None → insert_entry E es k v ≡ es ++ (k, v) ∷ []
put_last E same [] k v named none = refl
put_last E same (e ∷ es) k v named none =
    let apart = not_first (k.0 == name_of e) (entry_of e) (module_named k.0 (map entry_of es)) none in
    cond-false (E k e.0) ((e.0, v) ∷ es) (e ∷ insert_entry E es k v) (same k e.0 ∙ ap (λ (m : ℕ). k.0 == m) (same_first (key_of e) (name_of e) (map key_of es) (map name_of es) named) ∙ apart.0)
    ∙ ap (λ (xs : Entries). e ∷ xs) (put_last E same es k v (same_others (key_of e) (name_of e) (map key_of es) (map name_of es) named) apart.1)

-- the modules are those that were, and then this one
pub one_more : (E : NameId → NameId → Bool) → ((x y : NameId) → E x y ≡ (x.0 == y.0)) → (old new : Entries) (k : NameId) (v : ModuleNames) (m : ModuleDeclaration)
    → new ≡ insert_entry E old k v → AreNamed old → module_named k.0 (map entry_of old) ≡ None → declared v ≡ m → map entry_of new ≡ map entry_of old ++ m ∷ []
one_more E same old new k v m is named none own =
    ap (λ (xs : Entries). map entry_of xs) (is ∙ put_last E same old k v named none)
    ∙ map_push entry_of old (k, v)
    ∙ ap (λ (d : ModuleDeclaration). map entry_of old ++ d ∷ []) own

-- and each stands under its own name, also where memory ran out
pub still_named : {V A : Type 0} (E : NameId → NameId → Bool) → ((x y : NameId) → E x y ≡ (x.0 == y.0)) → (r : Result V A) (old new : Entries) (k : NameId) (v : ModuleNames)
    → OnOk r (new ≡ insert_entry E old k v) → OnErr r (new ≡ old) → AreNamed old → module_named k.0 (map entry_of old) ≡ None
    → k.0 ≡ v.body.now.name.name.0 → AreNamed new
still_named E same (Ok x) old new k v is stays named none own =
    let all = is ∙ put_last E same old k v named none in
    ap (λ (xs : Entries). map key_of xs) all
    ∙ map_push key_of old (k, v)
    ∙ ap₂ (λ (ns : List ℕ) (n : ℕ). ns ++ n ∷ []) named own
    ∙ sym (map_push name_of old (k, v))
    ∙ sym (ap (λ (xs : Entries). map name_of xs) all)
still_named E same (Err a) old new k v is stays named none own =
    ap (λ (xs : Entries). map key_of xs) stays ∙ named ∙ sym (ap (λ (xs : Entries). map name_of xs) stays)
