-- Instances as the designs above see them, under a table of names that grows.
use Rattle.std.proofs.Common.{◌≡◌, ℕ, ◌+◌, ◌<◌, ◌≤◌, List, [], ◌∷◌, ◌++◌, map, length, drop, get_or, All, refl, sym, ◌∙◌, ap, ap₂, subst, append_assoc, append-nil, Global, Vec, arith}
use Rattle.std.specs.Prelude.{zero, suc, true, Option, Result, Ok}
use Rattle.std.proofs.lemmas.List.{map_push, at_drop_all, length-map}
use Rattle.std.proofs.lemmas.List.Elements.{All-head, All-tail, All-push}
use Rattle.ls_text.specs.declared.fault.Fault.{Fault}
use Rattle.ls_text.specs.declared.name_id.NameId.{NameId}
use Rattle.ls_text.specs.Texts.{Grows, IsIdOf, text_at}
use Rattle.ls_text.proofs.Growth.{grown_text, grown_id, grows_on}
use Rattle.typed_ir.proofs.Lists.{drop_read}
use Rattle.typed_ir.specs.declared.instance.Instance.{Instance}
use Rattle.gen_unroll.specs.Views.{block_of}
use Rattle.ls_text.specs.Answers.{◌>>=◌}
use Rattle.gen_unroll.specs.Values.{constant_of}
use Rattle.verilog_ast.specs.Items.{ModuleDeclaration}
use Rattle.typed_ir.specs.Instances.{parent_of, is_depth_first}
use Rattle.elaborate.specs.declared.limits.Limits.{Limits}
use Rattle.elaborate.proofs.DepthFirst.{depth_first}
use Rattle.elaborate.specs.declared.standing.StandingInstance.{StandingInstance}
use Rattle.elaborate.specs.Elaborated.{Standing, elaborated}
use Rattle.elaborate.specs.Jobs.{standing_of}
use Rattle.elaborate.specs.Trees.{TreeInstance, blocks_of, seen_as, seen_under, called, all_seen}
use Rattle.elaborate.specs.TreeViews.{instance_view, IsSeen}
use Rattle.clock_rules.specs.Views.{clock_view}
use Rattle.elaborate.specs.Views.{port_of}

-- the name of an instance is one of so many
abbrev pub IsNamed : ℕ → Instance → Type 0
IsNamed n i = i.place.name.0 < n

-- ---- an instance

abbrev under : List ℕ → Instance → TreeInstance
under name i = record {
  parent = i.place.parent;
  name = name;
  instantiated = i.of_module.0;
  parameters = map constant_of i.parameters;
  clock = clock_view i.clock;
  ports = map port_of i.ports;
}

-- all but the name
pub is_seen : (name : NameId) (s : Standing) (i : Instance) → i.place.name ≡ name → i.place.parent ≡ s.parent → i.of_module.0 ≡ s.instantiated
    → map constant_of i.parameters ≡ s.visited.checks.parameters → clock_view i.clock ≡ s.clock → map port_of i.ports ≡ s.visited.ports → IsSeen name s i
is_seen name s i is above of values clock ports = record {
  named = is;
  same = λ texts. let text = text_at texts i.place.name.0 in
      ap (λ z. record { parent = z; name = text; instantiated = i.of_module.0; parameters = map constant_of i.parameters; clock = clock_view i.clock; ports = map port_of i.ports }) above
      ∙ ap (λ z. record { parent = s.parent; name = text; instantiated = z; parameters = map constant_of i.parameters; clock = clock_view i.clock; ports = map port_of i.ports }) of
      ∙ ap (λ z. record { parent = s.parent; name = text; instantiated = s.instantiated; parameters = z; clock = clock_view i.clock; ports = map port_of i.ports }) values
      ∙ ap (λ z. record { parent = s.parent; name = text; instantiated = s.instantiated; parameters = s.visited.checks.parameters; clock = z; ports = map port_of i.ports }) clock
      ∙ ap (λ z. record { parent = s.parent; name = text; instantiated = s.instantiated; parameters = s.visited.checks.parameters; clock = s.clock; ports = z }) ports;
}

-- ---- a table that grows

seen_grown : (old new : List (List ℕ)) (i : Instance) → Grows old new → IsNamed (length old) i → instance_view new i ≡ instance_view old i
seen_grown old new i g named = ap (λ (text : List ℕ). under text i) (grown_text old new i.place.name.0 g named)

all_seen_grown : (old new : List (List ℕ)) (is : List Instance) → Grows old new → All (IsNamed (length old)) is → map (instance_view new) is ≡ map (instance_view old) is
all_seen_grown old new [] g all = refl
all_seen_grown old new (i ∷ is) g all =
    ap₂ (λ (x : TreeInstance) (xs : List TreeInstance). x ∷ xs) (seen_grown old new i g (All-head (IsNamed (length old)) i is all))
    (all_seen_grown old new is g (All-tail (IsNamed (length old)) i is all))

-- one instance more, of which the table has the name
pub named_more : (old new : List (List ℕ)) (before now : List Instance) (i : Instance) (name : NameId) (text : List ℕ) (s : Standing) → Grows old new → All (IsNamed (length old)) before
    → now ≡ before ++ i ∷ [] → IsSeen name s i → IsIdOf new text name.0 → All (IsNamed (length new)) now
named_more old new before now i name text s g all is seen id =
    subst (All (IsNamed (length new))) (sym is)
    (All-push (IsNamed (length new)) before i (λ k d within. grown_id old new _ g (all k d within)) (subst (λ (n : NameId). n.0 < length new) (sym seen.named) id.within))

-- and what it is seen as
seen_more : (old new : List (List ℕ)) (before now : List Instance) (i : Instance) (name : NameId) (text : List ℕ) (s : Standing) → Grows old new → All (IsNamed (length old)) before
    → now ≡ before ++ i ∷ [] → IsSeen name s i → IsIdOf new text name.0 → map (instance_view new) now ≡ map (instance_view old) before ++ seen_as text s ∷ []
seen_more old new before now i name text s g all is seen id =
    ap (map (instance_view new)) is
    ∙ map_push (instance_view new) before i
    ∙ ap₂ (λ (xs : List TreeInstance) (x : TreeInstance). xs ++ x ∷ []) (all_seen_grown old new before g all)
    (seen.same new ∙ ap (λ (t : List ℕ). seen_as t s) (ap (λ (n : NameId). text_at new n.0) seen.named ∙ id.same))

-- ---- all of them

-- one more of what is left
pub left_more : (view : StandingInstance → Standing) (old new : List (List ℕ)) (before now : List Instance) (i : Instance) (name : NameId) (text : List ℕ) (rest behind : List (List ℕ))
    (all : List StandingInstance) (k : ℕ) (one : StandingInstance) (whole : List TreeInstance)
    → Grows old new → All (IsNamed (length old)) before → now ≡ before ++ i ∷ [] → IsSeen name (view one) i → IsIdOf new text name.0
    → rest ≡ text ∷ behind → k < length all → one ≡ get_or all k one
    → map (instance_view old) before ++ seen_under rest (map view (drop k all)) ≡ whole
    → map (instance_view new) now ++ seen_under behind (map view (drop (k + 1) all)) ≡ whole
left_more view old new before now i name text rest behind all k one whole g named is seen id split h at so_far =
    let left = seen_under behind (map view (drop (k + 1) all)) in
    ap (λ (xs : List TreeInstance). xs ++ left) (seen_more old new before now i name text (view one) g named is seen id)
    ∙ append_assoc (map (instance_view old) before) (seen_as text (view one) ∷ []) left
    ∙ ap (λ (xs : List TreeInstance). map (instance_view old) before ++ xs)
    (sym (ap (λ (zs : List StandingInstance). seen_under rest (map view zs)) (drop_read all k one h at)
    ∙ ap (λ (ts : List (List ℕ)). seen_under ts (view one ∷ map view (drop (k + 1) all))) split))
    ∙ so_far

under_none : (names : List (List ℕ)) → seen_under names [] ≡ []
under_none [] = refl
under_none (n ∷ ns) = refl

-- no instance is left
pub left_none : (view : StandingInstance → Standing) (texts : List (List ℕ)) (is : List Instance) (rest : List (List ℕ)) (all : List StandingInstance) (k : ℕ) (whole : List TreeInstance)
    → length all ≤ k → map (instance_view texts) is ++ seen_under rest (map view (drop k all)) ≡ whole → map (instance_view texts) is ≡ whole
left_none view texts is rest all k whole h so_far =
    sym (append-nil (map (instance_view texts) is))
    ∙ ap (λ (xs : List TreeInstance). map (instance_view texts) is ++ xs) (sym (under_none rest) ∙ sym (at_drop_all (λ zs. seen_under rest (map view zs)) all k h))
    ∙ so_far

-- no name is left
pub name_none : (view : StandingInstance → Standing) (texts : List (List ℕ)) (is : List Instance) (rest : List (List ℕ)) (all : List StandingInstance) (k : ℕ) (whole : List TreeInstance)
    → rest ≡ [] → map (instance_view texts) is ++ seen_under rest (map view (drop k all)) ≡ whole → map (instance_view texts) is ≡ whole
name_none view texts is rest all k whole none so_far =
    sym (append-nil (map (instance_view texts) is))
    ∙ ap (λ (ts : List (List ℕ)). map (instance_view texts) is ++ seen_under ts (map view (drop k all))) (sym none)
    ∙ so_far

-- names of all instances, as they are called
under_called : (name : Standing → List ℕ) (ss : List Standing) → seen_under (map name ss) ss ≡ map (λ (s : Standing). seen_as (name s) s) ss
under_called name [] = refl
under_called name (s ∷ ss) = ap (λ (xs : List TreeInstance). seen_as (name s) s ∷ xs) (under_called name ss)

all_called : (texts : List (List ℕ)) (names : List (List ℕ)) (all : List Standing) → names ≡ map (called texts all) all → seen_under names all ≡ all_seen texts all
all_called texts names all is = ap (λ (ns : List (List ℕ)). seen_under ns all) is ∙ under_called (called texts all) all

-- ---- what they are called

abbrev texts_in : List (Vec ℕ Global) → List (List ℕ)
texts_in ts = map (λ (t : Vec ℕ Global). t.items) ts

-- one text more
pub text_more : (name : Standing → List ℕ) (view : StandingInstance → Standing) (before now : List (Vec ℕ Global)) (text : Vec ℕ Global) (all : List StandingInstance) (k : ℕ) (one : StandingInstance)
    (whole : List (List ℕ)) → now ≡ before ++ text ∷ [] → text.items ≡ name (view one) → k < length all → one ≡ get_or all k one
    → texts_in before ++ map name (map view (drop k all)) ≡ whole → texts_in now ++ map name (map view (drop (k + 1) all)) ≡ whole
text_more name view before now text all k one whole is says h at so_far =
    let left = map name (map view (drop (k + 1) all)) in
    ap (λ (ts : List (Vec ℕ Global)). texts_in ts ++ left) is
    ∙ ap (λ (xs : List (List ℕ)). xs ++ left) (map_push (λ (t : Vec ℕ Global). t.items) before text)
    ∙ append_assoc (texts_in before) (text.items ∷ []) left
    ∙ ap (λ (t : List ℕ). texts_in before ++ t ∷ left) says
    ∙ sym (ap (λ (zs : List StandingInstance). texts_in before ++ map name (map view zs)) (drop_read all k one h at))
    ∙ so_far

-- no instance is left
pub text_none : (name : Standing → List ℕ) (view : StandingInstance → Standing) (texts : List (Vec ℕ Global)) (all : List StandingInstance) (k : ℕ) (whole : List (List ℕ))
    → length all ≤ k → texts_in texts ++ map name (map view (drop k all)) ≡ whole → texts_in texts ≡ whole
text_none name view texts all k whole h so_far =
    sym (append-nil (texts_in texts))
    ∙ sym (at_drop_all (λ zs. texts_in texts ++ map name (map view zs)) all k h)
    ∙ so_far

-- the blocks around an instance
pub blocks_there : (all : List StandingInstance) (k : ℕ) (x : StandingInstance) → k < length all → x ≡ get_or all k x → blocks_of (map standing_of all) k ≡ map block_of x.job.value.visited.blocks.items
blocks_there [] k x h is = absurd (omega (arith, h))
blocks_there (s ∷ ss) zero x h is = ap (λ (z : StandingInstance). map block_of z.job.value.visited.blocks.items) (sym is)
blocks_there (s ∷ ss) (suc k) x h is = blocks_there ss k x (omega (arith, h)) is

pub blocks_past : (all : List StandingInstance) (k : ℕ) → length all ≤ k → blocks_of (map standing_of all) k ≡ []
blocks_past [] k h = refl
blocks_past (s ∷ ss) zero h = absurd (omega (arith, h))
blocks_past (s ∷ ss) (suc k) h = blocks_past ss k (omega (arith, h))

-- ---- the tree

-- as many texts as instances
pub same_length : (name : Standing → List ℕ) (texts : List (Vec ℕ Global)) (all : List StandingInstance) → texts_in texts ≡ map name (map standing_of all) → length texts ≡ length all
same_length name texts all is =
    sym (length-map texts (λ (t : Vec ℕ Global). t.items))
    ∙ ap (λ (ts : List (List ℕ)). length ts) is
    ∙ length-map (map standing_of all) name
    ∙ length-map all standing_of

abbrev above_of : TreeInstance → Option ℕ
above_of x = x.parent

above_seen : (texts : List (List ℕ)) (is : List Instance) → map above_of (map (instance_view texts) is) ≡ map parent_of is
above_seen texts [] = refl
above_seen texts (i ∷ is) = ap (λ (ps : List (Option ℕ)). i.place.parent ∷ ps) (above_seen texts is)

above_all : (name : Standing → List ℕ) (ss : List Standing) → map above_of (map (λ (s : Standing). seen_as (name s) s) ss) ≡ map (λ (s : Standing). s.parent) ss
above_all name [] = refl
above_all name (s ∷ ss) = ap (λ (ps : List (Option ℕ)). s.parent ∷ ps) (above_all name ss)

-- instances of these names are those of the definition
pub seen_all : (names new texts : List (List ℕ)) (is : List Instance) (all : List Standing) → texts ≡ map (called names all) all
    → map (instance_view new) is ≡ seen_under texts all → map (instance_view new) is ≡ all_seen names all
seen_all names new texts is all says seen = seen ∙ all_called names texts all says

-- they stand depth first
pub tree_depth_first : (l : Limits) (ms : List ModuleDeclaration) (top clock : ℕ) (names new : List (List ℕ)) (is : List Instance) (all : List Standing)
    → elaborated l ms top clock ≡ Ok all → map (instance_view new) is ≡ all_seen names all → is_depth_first (map parent_of is) ≡ true
tree_depth_first l ms top clock names new is all found seen =
    ap is_depth_first (sym (above_seen new is) ∙ ap (map above_of) seen ∙ above_all (called names all) all) ∙ depth_first l ms top clock all found

-- and are the tree
pub tree_seen : (l : Limits) (ms : List ModuleDeclaration) (top clock : ℕ) (names new : List (List ℕ)) (is : List Instance) (all : List Standing)
    → elaborated l ms top clock ≡ Ok all → map (instance_view new) is ≡ all_seen names all → (elaborated l ms top clock >>= λ xs. Ok (all_seen names xs)) ≡ Ok (map (instance_view new) is)
tree_seen l ms top clock names new is all found seen =
    ap (λ (r : Result (List Standing) Fault). r >>= λ xs. Ok (all_seen names xs)) found ∙ ap (λ (xs : List TreeInstance). Ok xs) (sym seen)

pub ruleset around = (blocks_there, blocks_past)

pub ruleset texts = (text_more, text_none)

pub ruleset seen = (named_more, left_more, left_none, name_none, grows_on)
