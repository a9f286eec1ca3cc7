-- Names in reach that differ at one name alone.
use Rattle.std.proofs.Common.{◌≡◌, ℕ, ◌+◌, ◌<◌, ◌==◌, Bool, true, false, if◌then◌else◌, List, map, length, get_or, drop, refl, sym, ◌∙◌, ap, ap₂}
use Rattle.std.proofs.Math.Path.{fun_ext}
use Rattle.verilog_ast.specs.declared.identifier.Identifier.{Identifier}
use Rattle.width_rules.specs.Scopes.{Meaning, Unknown, Scope}
use Rattle.gen_unroll.specs.Declarations.{declared, all_declared}
use Rattle.gen_unroll.specs.Unrolled.{nowhere}
use Rattle.typed_ir.proofs.Lists.{drop_read, drop_split}

covered : (b : Bool) (x y z : Meaning) → (if b then y else (if b then x else z)) ≡ (if b then y else z)
covered true x y z = refl
covered false x y z = refl

-- a name that is declared twice
pub declared_twice : (scope : Scope) (n : Identifier) (x y : Meaning) → declared (declared scope n x) n y ≡ declared scope n y
declared_twice scope n x y = fun_ext (λ (other : ℕ). covered (n.name.0 == other) x y (scope other))

-- whatever the name stands for, the names in reach are the same
pub record DiffersAt (n : Identifier) (scope other : Scope) : Type 0 where
  pub same : (m : Meaning) → declared other n m ≡ declared scope n m

pub differs_none : (n : Identifier) (scope : Scope) → DiffersAt n scope scope
differs_none n scope = record { same = λ m. refl }

pub differs_more : (n : Identifier) (scope other new : Scope) (x : Meaning) → DiffersAt n scope other → new ≡ declared other n x → DiffersAt n scope new
differs_more n scope other new x h is = record {
  same = λ m. ap (λ (s : Scope). declared s n m) is ∙ declared_twice other n x m ∙ h.same m;
}

-- ---- names that are declared one by one

-- a copied name
pub names_split : (m x : Meaning) (ns : List Identifier) (k : ℕ) (d : Identifier) (scope new : Scope) → k < length ns → x ≡ m → new ≡ declared scope (get_or ns k d) x
    → all_declared m (drop (k + 1) ns) new ≡ all_declared m (drop k ns) scope
names_split m x ns k d scope new h kind is =
    ap (all_declared m (drop (k + 1) ns)) (is ∙ ap (declared scope (get_or ns k d)) kind)
    ∙ sym (ap (λ zs. all_declared m zs scope) (drop_split ns k d h))

-- the name of an item
pub names_next : {A B : Type 0} (f : A → Identifier) (g : B → A) (m x : Meaning) (ys : List B) (k : ℕ) (y : B) (n : Identifier) (scope new : Scope)
    → k < length ys → y ≡ get_or ys k y → n ≡ f (g y) → x ≡ m → new ≡ declared scope n x
    → all_declared m (map f (map g (drop (k + 1) ys))) new ≡ all_declared m (map f (map g (drop k ys))) scope
names_next f g m x ys k y n scope new h item name kind is =
    ap (all_declared m (map f (map g (drop (k + 1) ys)))) (is ∙ ap₂ (declared scope) name kind)
    ∙ sym (ap (λ zs. all_declared m (map f (map g zs)) scope) (drop_read ys k y h item))

-- no name is in reach
pub is_nowhere : (scope : Scope) → ((name : ℕ) → scope name ≡ Unknown) → scope ≡ nowhere
is_nowhere scope h = fun_ext h

pub ruleset scoping = (differs_none, differs_more)
