-- The paths of the instances of a tree, by their table.
use Rattle.std.proofs.Common.{◌≡◌, ℕ, suc, ◌+◌, ◌<◌, List, [], ◌∷◌, ◌++◌, map, length, Option, Some, None, append_assoc, append-nil, refl, sym, ◌∙◌, ap, subst, arith}
use Rattle.std.specs.Prelude.{slice_index_or}
use Rattle.std.proofs.lemmas.List.{length-append, map-append, get_or-append-add}
use Rattle.ls_text.specs.Texts.{Grows}
use Rattle.ls_text.proofs.Growth.{grows_none, grows_on, grown_text}
use Rattle.typed_ir.specs.declared.instance_name.InstanceName.{InstanceName}
use Rattle.typed_ir.specs.Paths.{path_above, path_next, paths_from}
use Rattle.typed_ir.specs.Trees.{Instances, Nothing, One}
use Rattle.link.specs.Listings.{Entry, instances_in, listed}

abbrev pub row_of : Entry → InstanceName
row_of x = record { parent = x.parent; name = record { 0 = x.name } }

abbrev pub HasPaths : (ℕ → List ℕ) → List ℕ → ℕ → Instances → Type 0
HasPaths at path index Nothing = Unit {0}
HasPaths at path index (One name u within after) =
    (at index ≡ path ++ name ∷ []) × HasPaths at (path ++ name ∷ []) (suc index) within × HasPaths at path (suc index + instances_in within) after

pub paths_grow : (paths : List (List ℕ)) (rows : List InstanceName) → Grows paths (paths_from paths rows)
paths_grow paths [] = grows_none paths
paths_grow paths (x ∷ xs) =
    let one = path_next paths x.parent x.name.0 ∷ [] in
    grows_on paths (paths ++ one) (paths_from (paths ++ one) xs) (record { more = one; begins = refl }) (paths_grow (paths ++ one) xs)

IsThere : ℕ → Option ℕ → Type 0
IsThere n None = Unit {0}
IsThere n (Some p) = p < n

above_kept : (old new : List (List ℕ)) (parent : Option ℕ) → Grows old new → IsThere (length old) parent → path_above new parent ≡ path_above old parent
unfolding IsThere
above_kept old new None g h = refl
above_kept old new (Some p) g h = grown_text old new p g h

there_kept : (m n : ℕ) (parent : Option ℕ) → IsThere m parent → (m < suc n) → IsThere n parent
unfolding IsThere
there_kept m n None h k = tt
there_kept m n (Some p) h k = omega (arith, h, k)

record Walked (paths : List (List ℕ)) (parent : Option ℕ) (index : ℕ) (path : List ℕ) (tree : Instances) (rest : List InstanceName) (final : List (List ℕ)) : Type 0 where
  behind : List (List ℕ)
  left : final ≡ paths_from behind rest
  longer : Grows paths behind
  long : length behind ≡ index + instances_in tree
  has : HasPaths (λ k. slice_index_or final k []) path index tree

walked : (paths : List (List ℕ)) (parent : Option ℕ) (index : ℕ) (path : List ℕ) (tree : Instances) (rest : List InstanceName) (final : List (List ℕ))
    → length paths ≡ index → path_above paths parent ≡ path → IsThere index parent
    → final ≡ paths_from paths (map row_of (listed parent index tree) ++ rest)
    → Walked paths parent index path tree rest final
unfolding IsThere
walked paths parent index path Nothing rest final long above there is = record {
  behind = paths;
  left = is;
  longer = grows_none paths;
  long = omega (arith, long);
  has = tt;
}
walked paths parent index path (One name u within after) rest final long above there is =
    let here = path ++ name ∷ [] in
    let w = map row_of (listed (Some index) (suc index) within) in
    let a = map row_of (listed parent (suc index + instances_in within) after) in
    let second = paths ++ here ∷ [] in
    let more : Grows paths second = record { more = here ∷ []; begins = refl } in
    let second_long : length second ≡ suc index = length-append paths (here ∷ []) ∙ omega (arith, long) in
    let mine : slice_index_or second index [] ≡ here =
    ap (λ n. slice_index_or second n []) (sym long ∙ omega arith) ∙ get_or-append-add paths (here ∷ []) 0 [] in
    let one : final ≡ paths_from second (w ++ (a ++ rest)) =
    is
    ∙ ap (λ p. paths_from (paths ++ (p ++ name ∷ []) ∷ []) (map row_of (listed (Some index) (suc index) within ++ listed parent (suc index + instances_in within) after) ++ rest)) above
    ∙ ap (λ zs. paths_from second (zs ++ rest)) (map-append row_of (listed (Some index) (suc index) within) (listed parent (suc index + instances_in within) after))
    ∙ ap (paths_from second) (append_assoc w a rest) in
    let inner = walked second (Some index) (suc index) here within (a ++ rest) final second_long mine (omega arith) one in
    let third = inner.behind in
    let grown : Grows paths third = grows_on paths second third more inner.longer in
    let later = walked third parent (suc index + instances_in within) path after rest final inner.long
    (above_kept paths third parent grown (subst (λ n. IsThere n parent) (sym long) there) ∙ above)
    (there_kept index (suc index + instances_in within) parent there (omega arith)) inner.left in
    let whole : Grows second final = subst (Grows second) (sym one) (paths_grow second (w ++ (a ++ rest))) in
    let inside : index < length second = omega (arith, second_long) in
    record {
      behind = later.behind;
      left = later.left;
      longer = grows_on paths third later.behind grown later.longer;
      long = omega (arith, later.long);
      has = (grown_text second final index whole inside ∙ mine, inner.has, later.has);
    }

pub has_paths : (tree : Instances) → HasPaths (λ k. slice_index_or (paths_from [] (map row_of (listed None 0 tree))) k []) [] 0 tree
unfolding IsThere
has_paths tree =
    (walked [] None 0 [] tree [] (paths_from [] (map row_of (listed None 0 tree))) refl refl tt
    (ap (paths_from []) (sym (append-nil (map row_of (listed None 0 tree)))))).has
