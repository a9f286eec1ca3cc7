-- What the instances of a table give is what the tree gives.
use Rattle.std.proofs.Common.{◌≡◌, ℕ, suc, ◌+◌, ◌<◌, ◌≤◌, List, [], ◌∷◌, ◌++◌, map, length, Option, Some, None, append_assoc, append-nil, refl, sym, ◌∙◌, ap, ap₂, arith}
use Rattle.std.specs.Prelude.{slice_index}
use Rattle.std.proofs.lemmas.List.{length-append, length-map, map-append}
use Rattle.typed_ir.specs.Trees.{SizedUnit, Standing, Instances, Nothing, One, signals_in, firsts, copied_out, node_there, nodes_at}
use Rattle.link.specs.Copies.{kids_in, copied_from, nodes_in}
use Rattle.link.specs.Listings.{Entry, instances_in, listed}
use Rattle.link.proofs.Listed.{HasKids, first_alone, firsts_are, kids_are, has_kids}
use Rattle.link.proofs.Paths.{HasPaths}

abbrev pub unit_of : Entry → SizedUnit
unit_of x = x.unit

abbrev pub units_within : Instances → List SizedUnit
units_within Nothing = []
units_within (One name u within after) = u ∷ (units_within within ++ units_within after)

pub units_listed : (parent : Option ℕ) (index : ℕ) (tree : Instances) → map unit_of (listed parent index tree) ≡ units_within tree
units_listed parent index Nothing = refl
units_listed parent index (One name u within after) =
    ap (λ zs. u ∷ zs)
    (map-append unit_of (listed (Some index) (suc index) within) (listed parent (suc index + instances_in within) after)
    ∙ ap₂ (λ (xs ys : List SizedUnit). xs ++ ys) (units_listed (Some index) (suc index) within)
    (units_listed parent (suc index + instances_in within) after))

pub listed_long : (parent : Option ℕ) (index : ℕ) (tree : Instances) → length (listed parent index tree) ≡ instances_in tree
listed_long parent index Nothing = refl
listed_long parent index (One name u within after) =
    ap suc
    (length-append (listed (Some index) (suc index) within) (listed parent (suc index + instances_in within) after)
    ∙ ap₂ (λ a b. a + b) (listed_long (Some index) (suc index) within) (listed_long parent (suc index + instances_in within) after))

-- ---- rows of first signals

abbrev pub HasRows : (ℕ → List ℕ) → ℕ → ℕ → Instances → Type 0
HasRows kids index first Nothing = Unit {0}
HasRows kids index first (One name u within after) =
    (kids index ≡ firsts (first + length u.signals) within)
    × HasRows kids (suc index) (first + length u.signals) within
    × HasRows kids (suc index + instances_in within) (first + length u.signals + signals_in within) after

rows_from : (kids : ℕ → List ℕ) (all : List Entry) (bound index first : ℕ) (tree : Instances)
    → ((i : ℕ) → i < bound → kids i ≡ kids_in i 0 all) → index + instances_in tree ≤ bound → HasKids first_alone all index first tree
    → HasRows kids index first tree
rows_from kids all bound index first Nothing same few has = tt
rows_from kids all bound index first (One name u within after) same few has = (
  same index (omega (arith, few)) ∙ kids_are index 0 all ∙ has.0 ∙ firsts_are (Some index) (first + length u.signals) within,
  rows_from kids all bound (suc index) (first + length u.signals) within same (omega (arith, few)) has.1,
  rows_from kids all bound (suc index + instances_in within) (first + length u.signals + signals_in within) after same (omega (arith, few)) has.2,
)

-- ---- all that is given

copied_listed : {A : Type 0} (own : Standing → SizedUnit → List A) (at kids : ℕ → List ℕ) (path : List ℕ) (index first : ℕ) (tree : Instances) (rest : List SizedUnit)
    → HasPaths at path index tree → HasRows kids index first tree
    → copied_from own at kids index first (units_within tree ++ rest)
    ≡ copied_out own path first tree ++ copied_from own at kids (index + instances_in tree) (first + signals_in tree) rest
copied_listed own at kids path index first Nothing rest paths rows = ap₂ (λ i f. copied_from own at kids i f rest) (omega arith) (omega arith)
copied_listed {A = A} own at kids path index first (One name u within after) rest paths rows =
    let here = path ++ name ∷ [] in
    let second = first + length u.signals in
    let third = first + length u.signals + signals_in within in
    let next = suc index + instances_in within in
    let front = own (record { path = here; first = first; kids = firsts second within }) u in
    let last = copied_from own at kids (index + suc (instances_in within + instances_in after)) (first + (length u.signals + signals_in within + signals_in after)) rest in
    ap₂ (λ p ks. own (record { path = p; first = first; kids = ks }) u ++ copied_from own at kids (suc index) second ((units_within within ++ units_within after) ++ rest))
    paths.0 rows.0
    ∙ ap (λ zs. front ++ zs)
    (ap (copied_from own at kids (suc index) second) (append_assoc (units_within within) (units_within after) rest)
    ∙ copied_listed own at kids here (suc index) second within (units_within after ++ rest) paths.1 rows.1
    ∙ ap (λ zs. copied_out own here second within ++ zs)
    (copied_listed own at kids path next third after rest paths.2 rows.2
    ∙ ap₂ (λ i f. copied_out own path third after ++ copied_from own at kids i f rest) (omega arith) (omega arith))
    ∙ sym (append_assoc (copied_out own here second within) (copied_out own path third after) last))
    ∙ sym (append_assoc front (copied_out own here second within ++ copied_out own path third after) last)

pub copied_all : {A : Type 0} (own : Standing → SizedUnit → List A) (at kids : ℕ → List ℕ) (tree : Instances)
    → HasPaths at [] 0 tree → ((i : ℕ) → i < instances_in tree → kids i ≡ kids_in i 0 (listed None 0 tree))
    → copied_from own at kids 0 0 (units_within tree) ≡ copied_out own [] 0 tree
copied_all own at kids tree paths same =
    ap (copied_from own at kids 0 0) (sym (append-nil (units_within tree)))
    ∙ copied_listed own at kids [] 0 0 tree [] paths (rows_from kids (listed None 0 tree) (instances_in tree) 0 0 tree same (omega arith) (has_kids first_alone tree))
    ∙ append-nil (copied_out own [] 0 tree)

-- ---- nodes

nodes_append : (us vs : List SizedUnit) → nodes_in (us ++ vs) ≡ nodes_in us + nodes_in vs
nodes_append [] vs = omega arith
nodes_append (u ∷ us) vs = ap (λ n. length u.nodes + n) (nodes_append us vs) ∙ omega arith

nodes_long : (path : List ℕ) (first : ℕ) (tree : Instances) → length (copied_out nodes_at path first tree) ≡ nodes_in (units_within tree)
nodes_long path first Nothing = refl
nodes_long path first (One name u within after) =
    let here = path ++ name ∷ [] in
    let second = first + length u.signals in
    let third = first + length u.signals + signals_in within in
    length-append (nodes_at (record { path = here; first = first; kids = firsts second within }) u) (copied_out nodes_at here second within ++ copied_out nodes_at path third after)
    ∙ ap₂ (λ a b. a + b) (length-map u.nodes (node_there first (slice_index (firsts second within))))
    (length-append (copied_out nodes_at here second within) (copied_out nodes_at path third after)
    ∙ ap₂ (λ a b. a + b) (nodes_long here second within) (nodes_long path third after)
    ∙ sym (nodes_append (units_within within) (units_within after)))

pub nodes_counted : (tree : Instances) → length (copied_out nodes_at [] 0 tree) ≡ nodes_in (units_within tree)
nodes_counted tree = nodes_long [] 0 tree
