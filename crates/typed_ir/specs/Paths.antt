-- Tables of instances, and the paths that they give: the hierarchical names (IEEE Std 1364-2005, 12.4).
use Rattle.std.specs.Prelude.{ℕ, suc, Bool, true, false, ◌&&◌, ◌==◌, nat_lt, List, [], ◌∷◌, ◌++◌, map, codes, Option, Some, None, slice_index_or}
use Rattle.ls_text.specs.Texts.{text_at}
use Rattle.typed_ir.specs.declared.instance_name.InstanceName.{InstanceName}

-- ---- tables

abbrev pub parents_of : List InstanceName → List (Option ℕ)
parents_of rows = map (λ (x : InstanceName). x.parent) rows

-- of the k-th instance: the top alone stands in none, and each other behind the one that it stands in
abbrev pub stands : ℕ → Option ℕ → Bool
stands k None = k == 0
stands k (Some p) = nat_lt p k

abbrev pub parents_before : ℕ → List (Option ℕ) → Bool
parents_before k [] = true
parents_before k (p ∷ ps) = stands k p && parents_before (suc k) ps

-- ---- paths

-- the path of what an instance stands in, by the paths of those before it: nothing stands above the top
abbrev pub path_above : List (List ℕ) → Option ℕ → List ℕ
path_above paths None = []
path_above paths (Some p) = slice_index_or paths p []

-- the path of one more instance
abbrev pub path_next : List (List ℕ) → Option ℕ → ℕ → List ℕ
path_next paths parent name = path_above paths parent ++ name ∷ []

-- the paths of these instances join those of the ones before them
abbrev pub paths_from : List (List ℕ) → List InstanceName → List (List ℕ)
paths_from paths [] = paths
paths_from paths (x ∷ xs) = paths_from (paths ++ path_next paths x.parent x.name.0 ∷ []) xs

-- the paths of the instances of a table
abbrev pub paths_of : List InstanceName → List (List ℕ)
paths_of rows = paths_from [] rows

-- a name in an instance
abbrev pub path_in : List InstanceName → ℕ → ℕ → List ℕ
path_in rows instance name = slice_index_or (paths_of rows) instance [] ++ name ∷ []

abbrev pub same_path : List ℕ → List ℕ → Bool
same_path [] [] = true
same_path [] (y ∷ ys) = false
same_path (x ∷ xs) [] = false
same_path (x ∷ xs) (y ∷ ys) = (x == y) && same_path xs ys

-- ---- their texts

-- names with dots between
abbrev pub joined : List (List ℕ) → List ℕ → List ℕ
joined texts [] = []
joined texts (n ∷ []) = text_at texts n
joined texts (n ∷ m ∷ ns) = text_at texts n ++ (codes "." ++ joined texts (m ∷ ns))

-- names, each with a dot behind it
abbrev pub dotted : List (List ℕ) → List ℕ → List ℕ
dotted texts [] = []
dotted texts (n ∷ ns) = text_at texts n ++ (codes "." ++ dotted texts ns)
