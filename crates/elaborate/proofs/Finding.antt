-- Names in the table of declarations.
use Rattle.std.proofs.Common.{◌≡◌, Bool, true, false, ◌==◌, ◌&&◌, List, [], ◌∷◌, map, refl, ◌∙◌, ap, ap₂, cond}
use Rattle.std.specs.Prelude.{Option, Some, None}
use Rattle.std.specs.Option.{option_map}
use Rattle.std.specs.Map.{lookup}
use Rattle.indexmap.specs.IndexMap.{insert_entry}
use Rattle.gen_unroll.specs.declared.block_id.BlockId.{BlockId}
use Rattle.gen_unroll.specs.Views.{here_of}
use Rattle.elaborate.specs.declared.declared_name.DeclaredName.{DeclaredName}
use Rattle.elaborate.specs.declared.declaration.Declaration.{Declaration as Declared}
use Rattle.gen_unroll.specs.Reaches.{same_block}
use Rattle.elaborate.specs.Tables.{NameIn, Declaration, Table, is_same_name, declared_as, with_declaration}
use Rattle.elaborate.specs.Views.{declaration_of, key_of, entry_of}

-- two keys of the code are compared as they are by the definition
abbrev pub same_ids : Option BlockId → Option BlockId → Bool
same_ids None None = true
same_ids None (Some n) = false
same_ids (Some m) None = false
same_ids (Some m) (Some n) = m.0 == n.0

ids_are : (a b : Option BlockId) → same_ids a b ≡ same_block (here_of a) (here_of b)
ids_are None None = refl
ids_are None (Some n) = refl
ids_are (Some m) None = refl
ids_are (Some m) (Some n) = refl

pub keys_are : (x y : DeclaredName) → (same_ids x.block y.block && (x.name.0 == y.name.0)) ≡ is_same_name (key_of x) (key_of y)
keys_are x y = ap (λ b. b && (x.name.0 == y.name.0)) (ids_are x.block y.block)

chosen : (b : Bool) (x : Declared) (o : Option Declared) → option_map declaration_of (cond b (Some x) o) ≡ cond b (Some (declaration_of x)) (option_map declaration_of o)
chosen true x o = refl
chosen false x o = refl

-- what is looked up is what is declared
pub looked_up : (n : NameIn) (test : DeclaredName → Bool) → ((k : DeclaredName) → test k ≡ is_same_name n (key_of k)) → (es : List (DeclaredName × Declared))
    → option_map declaration_of (lookup test es) ≡ declared_as n (map entry_of es)
looked_up n test same [] = refl
looked_up n test same (e ∷ es) =
    chosen (test e.0) e.1 (lookup test es)
    ∙ ap₂ (λ (b : Bool) (o : Option Declaration). cond b (Some (declaration_of e.1)) o) (same e.0) (looked_up n test same es)

mapped : (b : Bool) (xs ys : List (DeclaredName × Declared)) → map entry_of (cond b xs ys) ≡ cond b (map entry_of xs) (map entry_of ys)
mapped true xs ys = refl
mapped false xs ys = refl

-- one declaration more
pub inserted : (E : DeclaredName → DeclaredName → Bool) → ((x y : DeclaredName) → E x y ≡ is_same_name (key_of x) (key_of y)) → (es : List (DeclaredName × Declared)) (k : DeclaredName) (v : Declared)
    → map entry_of (insert_entry E es k v) ≡ with_declaration (key_of k) (declaration_of v) (map entry_of es)
inserted E same [] k v = refl
inserted E same (e ∷ es) k v =
    mapped (E k e.0) ((e.0, v) ∷ es) (e ∷ insert_entry E es k v)
    ∙ ap₂ (λ (b : Bool) (t : Table). cond b ((key_of e.0, declaration_of v) ∷ map entry_of es) (entry_of e ∷ t)) (same k e.0) (inserted E same es k v)
