-- The instances of an elaborated tree are told: the name of each is a word of the table, and its clock, if any, is one of its own ports (IEEE Std
-- 1364-2005, 12.1.2, 12.3 and 12.4).
use Rattle.std.proofs.Common.{◌≡◌, ℕ, zero, suc, ◌<◌, ◌≤◌, ◌==◌, ◌⊎◌, Bool, true, if◌then◌else◌, List, [], ◌∷◌, All, length, map, Option, Some, None, Ok, refl, sym, ◌∙◌, ap, ap₂, subst, inl, inr}
use Rattle.std.specs.List.{AllZip}
use Rattle.std.proofs.lemmas.Bool.{cases_lt}
use Rattle.std.proofs.lemmas.List.{get_or_past}
use Rattle.std.proofs.lemmas.List.Elements.{All-nil, All-cons, All-head, All-tail}
use Rattle.ls_text.specs.declared.name_id.NameId.{NameId}
use Rattle.ls_text.specs.Texts.{Grows, text_at}
use Rattle.ls_text.proofs.Growth.{grown_id, grown_text}
use Rattle.ls_text.proofs.Cases.{turned}
use Rattle.ls_text.proofs.Lists.{same_first, same_others}
use Rattle.verilog_lex.specs.declared.kind.Kind.{Kind}
use Rattle.verilog_lex.specs.declared.kind.Kind.TheVariants as k
use Rattle.verilog_lex.specs.declared.literal.Literal.{Literal}
use Rattle.verilog_lex.specs.declared.token.Token.{Token}
use Rattle.verilog_ast.specs.declared.identifier.Identifier.{Identifier}
use Rattle.verilog_ast.specs.declared.module.Module.{Module}
use Rattle.verilog_ast.specs.Views.{declaration_of, declarations_of}
use Rattle.verilog_expr.specs.Tokens.{identifier_of}
use Rattle.typed_ir.specs.declared.instance.Instance.{Instance}
use Rattle.typed_ir.specs.declared.port_shape.PortShape.{PortShape}
use Rattle.gen_unroll.specs.Steps.{GenerateBlock}
use Rattle.module_names.specs.Listings.{is_listed}
use Rattle.module_names.specs.Modules.{header_ports}
use Rattle.clock_rules.specs.Views.{clock_view}
use Rattle.elaborate.specs.declared.limits.Limits.{Limits}
use Rattle.elaborate.specs.Elaborated.{Standing}
use Rattle.elaborate.specs.Ports.{PortOutline, outline, port_outline, port_outlines}
use Rattle.elaborate.specs.Tables.{Declaration, Table, declared_as}
use Rattle.elaborate.specs.Trees.{TreeInstance, blocks_of, blocks_around, called, seen, tree}
use Rattle.elaborate.specs.TreeViews.{instance_view}
use Rattle.elaborate.specs.Views.{port_of}
use Rattle.version_swap.specs.InstanceModules.{IsVisited}
use Rattle.version_swap.proofs.InstanceModules.{all_visited}
use Rattle.version_swap.proofs.KnownInstances.{side_by_side}
use Rattle.version_swap.proofs.Together.{visit_has}
use Rattle.version_swap.proofs.TreeJobs.{seen_of}
use Rattle.version_swap.specs.InstancesTold.{is_port_name, HasOwnClock, IsInstanceTold}
use Rattle.version_swap.specs.Proper.{text_kind, IsToken, IsProper}
use Rattle.version_swap.specs.Spelled.{IsSpelledUnder}
use Rattle.version_swap.specs.Told.{is_word, IsNamed}
use Rattle.version_swap.proofs.InstanceTexts.{IsNameWord, spoken_word, spoken_some}
use Rattle.version_swap.proofs.OwnChildren.{IsLabelled, visit_own}
use Rattle.version_swap.proofs.OwnClocks.{IsPortOf}
use Rattle.version_swap.proofs.OwnInstances.{module_is, IsOwnStanding, all_own}
use Rattle.version_swap.proofs.ProperWords.{proper_word}
use Rattle.version_swap.proofs.TreeNames.{IsModuleNamed, tree_named}

-- ---- identifiers

-- no word is empty
some_word : (kind : Kind) (text : List ℕ) (l : Literal) → kind ≡ k.Word → IsToken kind text l → text ≡ [] → ⊥
some_word kind text l word (inl h) is = let none : None ≡ Some kind = sym (ap text_kind is) ∙ h.listed in absurd cc
some_word kind text l word (inr (inl h)) is = let same : k.Word ≡ k.Number = sym word ∙ h.number in absurd cc
some_word kind text l word (inr (inr h)) is = let same : k.Word ≡ k.Wild = sym word ∙ h.wild in absurd cc

token_word : (names : List (List ℕ)) (t : Token) → t.kind ≡ k.Word → IsProper names t → IsNameWord names (identifier_of t)
token_word names t word h = record { word = proper_word names t h; some = some_word t.kind (text_at names t.text.0) t.literal word h.1 }

pub modules_named : (texts : List (List ℕ)) (ms : List Module) → All (IsSpelledUnder texts) ms
    → All (IsModuleNamed (IsNameWord texts)) (declarations_of ms)
modules_named texts [] all = All-nil (IsModuleNamed (IsNameWord texts))
modules_named texts (m ∷ ms) all =
    All-cons (IsModuleNamed (IsNameWord texts)) (declaration_of m.body) (declarations_of ms)
    (tree_named texts (IsNameWord texts) (token_word texts) m (All-head (IsSpelledUnder texts) m ms all))
    (modules_named texts ms (All-tail (IsSpelledUnder texts) m ms all))

-- a text that isn't empty stands in the table
pub within_table : (names : List (List ℕ)) (id : ℕ) → (text_at names id ≡ [] → ⊥) → id < length names
within_table names id some = cases (cases_lt id (length names))
  where
    cases : (id < length names) ⊎ (length names ≤ id) → id < length names
    cases (inl h) = h
    cases (inr h) = absurd (some (get_or_past names id [] h))

-- ---- ports

pub outline_name : (n : Identifier) (d : Option Declaration) → (outline n d).name ≡ n.name.0
outline_name n None = refl
outline_name n (Some d) = refl

-- ports as they are outlined have the names of the header
same_listed : (name : ℕ) (table : Table) (ns : List Identifier) (ps : List PortShape) → map port_of ps ≡ port_outlines ns table
    → is_listed name ns ≡ is_port_name name ps
same_listed name table [] [] same = refl
same_listed name table [] (p ∷ ps) same = absurd cc
same_listed name table (n ∷ ns) [] same = absurd cc
same_listed name table (n ∷ ns) (p ∷ ps) same =
    let here = same_first (port_of p) (port_outline table n) (map port_of ps) (port_outlines ns table) same in
    let is : p.name.0 ≡ n.name.0 = ap (λ (o : PortOutline). o.name) here
    ∙ outline_name n (declared_as (record { block = None; name = n.name.0 }) table) in
    ap₂ (λ (b rest : Bool). if b then true else rest) (turned name n.name.0 ∙ ap (λ (m : ℕ). m == name) (sym is))
    (same_listed name table ns ps (same_others (port_of p) (port_outline table n) (map port_of ps) (port_outlines ns table) same))

has_clock : (clock : Option NameId) (ns : List Identifier) (ps : List PortShape) → ((name : ℕ) → is_listed name ns ≡ is_port_name name ps)
    → IsPortOf ns (clock_view clock) → HasOwnClock clock ps
has_clock None ns ps same own = tt
has_clock (Some n) ns ps same own = sym (same n.0) ∙ own

-- ---- instances

module _ (l : Limits) (texts known new : List (List ℕ)) (ms : List Module) (grows : Grows known new)
    (spelled : All (IsSpelledUnder texts) ms) where
  abbrev IsWordBlock : GenerateBlock → Type 0
  IsWordBlock b = IsLabelled (IsNameWord texts) (declarations_of ms) b

  abbrev IsSeen : Standing → Type 0
  IsSeen s = IsVisited l.turns (declarations_of ms) s

  abbrev IsOwned : Standing → Type 0
  IsOwned s = IsOwnStanding (IsNameWord texts) l (declarations_of ms) (modules_named texts ms spelled) s

  -- the labels of the blocks around an instance
  labels_there : (all : List Standing) (k : ℕ) → All IsSeen all → All IsWordBlock (blocks_of all k)
  labels_there [] k all = All-nil IsWordBlock
  labels_there (s ∷ ss) zero all =
      let v = All-head IsSeen s ss all in
      let names = modules_named texts ms spelled in
      (visit_own (IsNameWord texts) (declarations_of ms) l.turns v.most v.declaration s.overrides s.clock s.visited
      (module_is (IsNameWord texts) l (declarations_of ms) names s.instantiated (declarations_of ms) v.declaration names v.named).1 v.found).1
  labels_there (s ∷ ss) (suc k) all = labels_there ss k (All-tail IsSeen s ss all)

  pub labels_around : (all : List Standing) (parent : Option ℕ) → All IsSeen all → All IsWordBlock (blocks_around all parent)
  labels_around all None are = All-nil IsWordBlock
  labels_around all (Some k) are = labels_there all k are

  name_told : (all : List Standing) (x : Instance) (s : Standing) → All IsSeen all → IsOwned s
      → text_at known x.place.name.0 ≡ called texts all s → IsNamed new x.place.name
  name_told all x s are own same =
      let blocks = blocks_around all s.parent in
      let within = within_table known x.place.name.0 (λ is. spoken_some texts blocks s.block s.name own.named (sym same ∙ is)) in
      record {
        within = grown_id known new x.place.name.0 grows within;
        word = ap is_word (grown_text known new x.place.name.0 grows within ∙ same)
            ∙ spoken_word texts blocks s.block s.name (labels_around all s.parent are) own.named;
      }

  clock_told : (x : Instance) (s : Standing) → IsSeen s → IsOwned s → clock_view x.clock ≡ s.clock → map port_of x.ports ≡ s.visited.ports
      → HasOwnClock x.clock x.ports
  clock_told x s v own clock ports =
      let has = visit_has l.turns (declarations_of ms) v.most v.declaration s.overrides s.clock s.visited v.found in
      let header = header_ports v.declaration.ports in
      has_clock x.clock header x.ports (λ name. same_listed name s.visited.checks.declared header x.ports (ports ∙ has.1))
      (subst (IsPortOf header) (sym clock) (own.own v.declaration v.named))

  each_told : (all : List Standing) (xs : List Instance) (ss : List Standing) → All IsSeen all → All IsSeen ss → All IsOwned ss
      → AllZip (λ x s. instance_view known x ≡ seen texts all s) xs ss → All (IsInstanceTold new) xs
  each_told all [] ss are seen own same = All-nil (IsInstanceTold new)
  each_told all (x ∷ xs) [] are seen own same = absurd same
  each_told all (x ∷ xs) (s ∷ ss) are seen own same =
      let mine = All-head IsOwned s ss own in
      All-cons (IsInstanceTold new) x xs
      (record {
        name = name_told all x s are mine (ap (λ (i : TreeInstance). i.name) same.0);
        clock = clock_told x s (All-head IsSeen s ss seen) mine (ap (λ (i : TreeInstance). i.clock) same.0)
            (ap (λ (i : TreeInstance). i.ports) same.0);
      })
      (each_told all xs ss are (All-tail IsSeen s ss seen) (All-tail IsOwned s ss own) same.1)

-- the instances of an elaborated tree
pub instances_told : (l : Limits) (texts known new : List (List ℕ)) (ms : List Module) (top clock : ℕ) (xs : List Instance)
    → All (IsSpelledUnder texts) ms → Grows known new → tree l texts (declarations_of ms) top clock ≡ Ok (map (instance_view known) xs)
    → All (IsInstanceTold new) xs
instances_told l texts known new ms top clock xs spelled grows is =
    let s = seen_of l texts known ms top clock xs is in
    let visits = all_visited l (declarations_of ms) top clock s.all s.elaborates in
    each_told l texts known new ms grows spelled s.all xs s.all visits visits
    (all_own (IsNameWord texts) l (declarations_of ms) (modules_named texts ms spelled) top clock s.all s.elaborates)
    (side_by_side (instance_view known) (seen texts s.all) xs s.all s.same)
