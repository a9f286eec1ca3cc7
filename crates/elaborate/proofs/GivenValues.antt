-- Parameters that are given values, in the map of the code.
use Rattle.std.proofs.Common.{◌≡◌, ℕ, Bool, true, false, ◌==◌, List, [], ◌∷◌, ◌++◌, map, refl, ◌∙◌, ap, ap₂, cond, true≢false}
use Rattle.std.specs.Prelude.{Option, Some, None}
use Rattle.std.specs.Map.{lookup}
use Rattle.indexmap.specs.IndexMap.{insert_entry}
use Rattle.ls_text.specs.declared.name_id.NameId.{NameId}
use Rattle.ls_text.proofs.Options.{not_first}
use Rattle.typed_ir.specs.declared.constant.Const.{Const}
use Rattle.gen_unroll.specs.Values.{ConstantValue, constant_of}
use Rattle.gen_unroll.specs.Views.{override_view}
use Rattle.elaborate.specs.Overrides.{given_to}
use Rattle.elaborate.specs.Views.{given_entry}

chosen : (b : Bool) (x : Const) (o : Option Const) → override_view (cond b (Some x) o) ≡ cond b (Some (constant_of x)) (override_view o)
chosen true x o = refl
chosen false x o = refl

-- what is looked up is what is given
pub found_given : (n : ℕ) (test : NameId → Bool) → ((k : NameId) → test k ≡ (n == k.0)) → (es : List (NameId × Const)) → override_view (lookup test es) ≡ given_to n (map given_entry es)
found_given n test same [] = refl
found_given n test same (e ∷ es) =
    chosen (test e.0) e.1 (lookup test es)
    ∙ ap₂ (λ (b : Bool) (o : Option ConstantValue). cond b (Some (constant_of e.1)) o) (same e.0) (found_given n test same es)

kept : (b : Bool) (xs ys : List (NameId × Const)) → b ≡ false → map given_entry (cond b xs ys) ≡ map given_entry ys
kept true xs ys h = absurd (true≢false h)
kept false xs ys h = refl

-- one value more, of a parameter that has none
pub given_more : (E : NameId → NameId → Bool) → ((x y : NameId) → E x y ≡ (x.0 == y.0)) → (es : List (NameId × Const)) (k : NameId) (v : Const) → given_to k.0 (map given_entry es) ≡ None
    → map given_entry (insert_entry E es k v) ≡ map given_entry es ++ given_entry (k, v) ∷ []
given_more E same [] k v new = refl
given_more E same (e ∷ es) k v new =
    let ends = not_first (k.0 == e.0.0) (constant_of e.1) (given_to k.0 (map given_entry es)) new in
    kept (E k e.0) ((e.0, v) ∷ es) (e ∷ insert_entry E es k v) (same k e.0 ∙ ends.0)
    ∙ ap (λ zs. given_entry e ∷ zs) (given_more E same es k v ends.1)
