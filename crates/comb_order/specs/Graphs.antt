-- A graph by rows: row a lists the nodes that come after a.
use Rattle.std.specs.Prelude.{ℕ, zero, suc, ◌+◌, ◌-◌, ◌<◌, ◌==◌, Bool, false, List, [], ◌∷◌, ◌++◌, map, slice_index, if◌then◌else◌}
use Rattle.std.specs.declared.vec.Vec.{Vec}
use Rattle.std.specs.Global.{Global}
use Rattle.typed_ir.specs.Valuations.{put}

-- how often t stands in a list
abbrev pub times : ℕ → List ℕ → ℕ
times t [] = 0
times t (x ∷ xs) = (if t == x then 1 else 0) + times t xs

abbrev pub row_at : List (List ℕ) → ℕ → List ℕ
row_at [] k = []
row_at (r ∷ rs) zero = r
row_at (r ∷ rs) (suc k) = row_at rs k

abbrev pub rows_of : List (Vec ℕ Global) → List (List ℕ)
rows_of graph = map (λ (r : Vec ℕ Global). r.items) graph

-- b stands in the row of a
abbrev pub HasEdge : List (List ℕ) → ℕ → ℕ → Type 0
HasEdge rows a b = 0 < times b (row_at rows a)

-- the counts after the nodes of a row have lost one predecessor each
abbrev pub lowered : List ℕ → (ℕ → ℕ) → ℕ → ℕ
lowered [] c = c
lowered (t ∷ ts) c = put (lowered ts c) t (lowered ts c t - 1)

-- the nodes of the row that have none left then, the last one first
abbrev pub released : List ℕ → (ℕ → ℕ) → List ℕ
released [] c = []
released (t ∷ ts) c = released ts c ++ (if lowered ts c t == 1 then t ∷ [] else [])

abbrev pub flag_at : List Bool → ℕ → Bool
flag_at [] k = false
flag_at (f ∷ fs) zero = f
flag_at (f ∷ fs) (suc k) = flag_at fs k

-- how many edges come to t from nodes that aren't placed
abbrev pub waiting : List (List ℕ) → List Bool → ℕ → ℕ
waiting [] flags t = 0
waiting (r ∷ rs) [] t = times t r + waiting rs [] t
waiting (r ∷ rs) (f ∷ fs) t = (if f then 0 else times t r) + waiting rs fs t

-- how many aren't placed
abbrev pub unplaced : List Bool → ℕ
unplaced [] = 0
unplaced (f ∷ fs) = (if f then 0 else 1) + unplaced fs

abbrev pub count_of : List ℕ → ℕ → ℕ
count_of counts = λ x. slice_index counts x

-- the places from `a` on at which a count is 0, the last one first
abbrev pub zeros : ℕ → List ℕ → List ℕ
zeros a [] = []
zeros a (c ∷ cs) = zeros (a + 1) cs ++ (if c == 0 then a ∷ [] else [])
