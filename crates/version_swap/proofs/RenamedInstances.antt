-- Instances under other names that have the same texts are listed as elaboration finds them under these names; and each is told by how it is
-- listed.
use Rattle.std.proofs.Common.{◌≡◌, ◌∙◌, ℕ, ◌<◌, List, [], ◌∷◌, All, length, map, refl, sym, ap, ap₂}
use Rattle.std.specs.Prelude.{Option, Some, None, Ok}
use Rattle.std.specs.Option.{option_map}
use Rattle.std.proofs.lemmas.List.Elements.{All-head, All-tail}
use Rattle.ls_text.specs.declared.name_id.NameId.{NameId}
use Rattle.ls_text.specs.Texts.{HasEachOnce, text_at}
use Rattle.ls_text.proofs.Tables.{same_id}
use Rattle.ls_text.proofs.Lists.{same_first, same_others}
use Rattle.typed_ir.specs.declared.constant.Const.{Const}
use Rattle.verilog_ast.specs.Items.{ModuleDeclaration}
use Rattle.verilog_ast.specs.Renaming.{declaration_as}
use Rattle.typed_ir.specs.declared.instance.Instance.{Instance}
use Rattle.typed_ir.specs.declared.port_shape.PortShape.{PortShape}
use Rattle.gen_unroll.specs.Values.{ConstantValue, constant_of}
use Rattle.gen_unroll.proofs.Answered.{ok_same}
use Rattle.clock_rules.specs.Views.{clock_view}
use Rattle.elaborate.specs.Elaborated.{Standing, elaborated}
use Rattle.elaborate.specs.Ports.{PortOutline}
use Rattle.elaborate.specs.Trees.{TreeInstance, all_seen}
use Rattle.elaborate.specs.TreeViews.{instance_view, language_limits}
use Rattle.elaborate.specs.Views.{port_of}
use Rattle.elaborate.specs.Findings.{clock_as, outline_as, standing_as, seen_instance_as}
use Rattle.elaborate.specs.Renaming.{KeepsApart, SpellsSame, number_as, found_as}
use Rattle.elaborate.proofs.RenamedDesigns.{same_elaborated}
use Rattle.elaborate.proofs.RenamedTrees.{same_tree}
use Rattle.version_swap.specs.RenamedFindings.{port_shape_as}
use Rattle.version_swap.specs.Jobs.{instance_as}
use Rattle.version_swap.proofs.OneDesign.{clock_same, ports_same}
use Rattle.version_swap.proofs.Parts.{constant_same}
use Rattle.version_swap.proofs.GrownFound.{tree_of}

-- ---- views of instances under other names

clock_so : (f : NameId → NameId) (clock : Option NameId) → clock_as f (clock_view clock) ≡ clock_view (option_map f clock)
clock_so f None = refl
clock_so f (Some n) = refl

ports_so : (f : NameId → NameId) (ps : List PortShape) → map (outline_as f) (map port_of ps) ≡ map port_of (map (port_shape_as f) ps)
ports_so f [] = refl
ports_so f (p ∷ ps) = ap (λ (os : List PortOutline). outline_as f (port_of p) ∷ os) (ports_so f ps)

view_so : (f : NameId → NameId) (texts others : List (List ℕ)) (x : Instance) → SpellsSame f texts others
    → seen_instance_as f (instance_view texts x) ≡ instance_view others (instance_as f x)
view_so f texts others x same =
    let name : text_at texts x.place.name.0 ≡ text_at others (f x.place.name).0 = sym (same x.place.name) in
    let clock = clock_so f x.clock in
    let ports = ports_so f x.ports in
    λ i. record {
      parent = x.place.parent;
      name = name i;
      instantiated = number_as f x.of_module.0;
      parameters = map constant_of x.parameters;
      clock = clock i;
      ports = ports i;
    }

views_so : (f : NameId → NameId) (texts others : List (List ℕ)) (xs : List Instance) → SpellsSame f texts others
    → map (seen_instance_as f) (map (instance_view texts) xs) ≡ map (instance_view others) (map (instance_as f) xs)
views_so f texts others [] same = refl
views_so f texts others (x ∷ xs) same =
    ap₂ (λ (i : TreeInstance) (is : List TreeInstance). i ∷ is) (view_so f texts others x same) (views_so f texts others xs same)

-- ---- instances that are listed

module _ (f : NameId → NameId) (texts others : List (List ℕ)) (apart : KeepsApart f) (spells : SpellsSame f texts others)
    (ds : List ModuleDeclaration) (top clock : ℕ) (all : List Standing) (found : elaborated language_limits ds top clock ≡ Ok all) where
  pub found_as_so : elaborated language_limits (map (declaration_as f) ds) (number_as f top) (number_as f clock) ≡ Ok (map (standing_as f) all)
  found_as_so = same_elaborated f language_limits ds top clock apart ∙ ap (found_as f (map (standing_as f))) found

  pub listed_as : (xs : List Instance) → map (instance_view texts) xs ≡ all_seen texts all
      → map (instance_view others) (map (instance_as f) xs) ≡ all_seen others (map (standing_as f) all)
  listed_as xs listed =
      sym (views_so f texts others xs spells)
      ∙ sym (ok_same (all_seen others (map (standing_as f) all)) (map (seen_instance_as f) (map (instance_view texts) xs))
      (sym (tree_of others (map (declaration_as f) ds) (number_as f top) (number_as f clock) (map (standing_as f) all) found_as_so)
      ∙ same_tree f language_limits texts others ds top clock apart spells
      ∙ ap (found_as f (map (seen_instance_as f))) (tree_of texts ds top clock all found ∙ ap Ok (sym listed))))

-- ---- an instance is told by its view, where its name is in the table

constants_same : (cs ds : List Const) → map constant_of cs ≡ map constant_of ds → cs ≡ ds
constants_same [] [] is = refl
constants_same [] (d ∷ ds) is = absurd cc
constants_same (c ∷ cs) [] is = absurd cc
constants_same (c ∷ cs) (d ∷ ds) is =
    let here = same_first (constant_of c) (constant_of d) (map constant_of cs) (map constant_of ds) is in
    ap₂ (λ (e : Const) (es : List Const). e ∷ es)
    (constant_same c d (ap (λ (v : ConstantValue). v.width) here) (ap (λ (v : ConstantValue). v.value) here)
    (ap (λ (v : ConstantValue). v.signed) here))
    (constants_same cs ds (same_others (constant_of c) (constant_of d) (map constant_of cs) (map constant_of ds) is))

module _ (names : List (List ℕ)) (once : HasEachOnce names) where
  abbrev HasName : Instance → Type 0
  HasName x = x.place.name.0 < length names

  instance_same : (x y : Instance) → HasName x → HasName y → instance_view names x ≡ instance_view names y → x ≡ y
  instance_same x y here there same =
      let parent : x.place.parent ≡ y.place.parent = ap (λ (i : TreeInstance). i.parent) same in
      let name = same_id x.place.name y.place.name
      (once x.place.name.0 y.place.name.0 here there (ap (λ (i : TreeInstance). i.name) same)) in
      let of_module = same_id x.of_module y.of_module (ap (λ (i : TreeInstance). i.instantiated) same) in
      let parameters = constants_same x.parameters y.parameters (ap (λ (i : TreeInstance). i.parameters) same) in
      let clock = clock_same x.clock y.clock (ap (λ (i : TreeInstance). i.clock) same) in
      let ports = ports_same x.ports y.ports (ap (λ (i : TreeInstance). i.ports) same) in
      λ i. record {
        place = record { parent = parent i; name = name i };
        of_module = of_module i;
        parameters = parameters i;
        clock = clock i;
        ports = ports i;
      }

  pub instances_same : (xs ys : List Instance) → All HasName xs → All HasName ys → map (instance_view names) xs ≡ map (instance_view names) ys
      → xs ≡ ys
  instances_same [] [] here there same = refl
  instances_same [] (y ∷ ys) here there same = absurd cc
  instances_same (x ∷ xs) [] here there same = absurd cc
  instances_same (x ∷ xs) (y ∷ ys) here there same =
      let first = same_first (instance_view names x) (instance_view names y) (map (instance_view names) xs) (map (instance_view names) ys) same in
      let rest = same_others (instance_view names x) (instance_view names y) (map (instance_view names) xs) (map (instance_view names) ys) same in
      ap₂ (λ (z : Instance) (zs : List Instance). z ∷ zs) (instance_same x y (All-head HasName x xs here) (All-head HasName y ys there) first)
      (instances_same xs ys (All-tail HasName x xs here) (All-tail HasName y ys there) rest)
