-- The flat design of modules is one: elaboration finds the instances, each of them tells its copy, and a name of the table is told by its text (IEEE
-- Std 1364-2005, 12.1.2 and 12.4).
use Rattle.std.proofs.Common.{◌≡◌, ℕ, suc, Bool, true, false, if◌then◌else◌, List, [], ◌∷◌, All, filter, map, Option, Some, None, Ok}
use Rattle.std.proofs.Common.{refl, sym, ◌∙◌, ap, ap₂, subst}
use Rattle.std.specs.List.{AllZip}
use Rattle.std.proofs.lemmas.List.Elements.{All-head, All-tail, All-weaker}
use Rattle.std.proofs.lemmas.Option.{same_Some}
use Rattle.ls_text.specs.Texts.{HasEachOnce, text_at}
use Rattle.ls_text.specs.declared.name_id.NameId.{NameId}
use Rattle.ls_text.proofs.Tables.{same_id}
use Rattle.ls_text.proofs.Lists.{same_first, same_others}
use Rattle.typed_ir.specs.Cycles.{Flat}
use Rattle.verilog_ast.specs.declared.module.Module.{Module}
use Rattle.verilog_ast.specs.Items.{ModuleDeclaration}
use Rattle.verilog_ast.specs.Views.{declarations_of}
use Rattle.typed_ir.specs.declared.child_shape.ChildShape.{ChildShape}
use Rattle.typed_ir.specs.declared.instance.Instance.{Instance}
use Rattle.typed_ir.specs.declared.port_shape.PortShape.{PortShape}
use Rattle.typed_ir.specs.Shapes.{children_of, shape_of, stands_in}
use Rattle.gen_unroll.specs.Steps.{ModuleStep, blocks_in}
use Rattle.gen_unroll.specs.Unrolled.{unrolled_module}
use Rattle.gen_unroll.proofs.Answered.{ok_same}
use Rattle.clock_rules.specs.Views.{clock_view}
use Rattle.elaborate.specs.Elaborated.{Standing, elaborated}
use Rattle.elaborate.specs.Ports.{PortOutline}
use Rattle.elaborate.specs.Trees.{TreeInstance, blocks_around, called as instance_called, seen, all_seen}
use Rattle.elaborate.specs.TreeViews.{instance_view, language_limits}
use Rattle.elaborate.specs.Views.{port_of}
use Rattle.gen_unroll.specs.Numbers.{SignalTable, module_table}
use Rattle.version_swap.specs.BlockSignals.{is_within_block, called as signal_called}
use Rattle.version_swap.specs.Outer.{are_ports_outside}
use Rattle.version_swap.proofs.BlockNames.{same_names_within}
use Rattle.version_swap.proofs.KnownInstances.{side_by_side}
use Rattle.version_swap.proofs.Rerolled.{ports_stand_outside}
use Rattle.version_swap.specs.Copies.{ModuleCopy, Copies}
use Rattle.version_swap.specs.DesignCopies.{IsCopyIn, AreEntriesIn, AreCopiesIn}
use Rattle.version_swap.specs.Flat.{flat}
use Rattle.version_swap.specs.JobsUnder.{IsIn}
use Rattle.version_swap.specs.Spelled.{IsSpelledUnder}
use Rattle.version_swap.specs.TableCopies.{CopyEntry, copies_listed}
use Rattle.version_swap.specs.TreeJobs.{IsFlatIn, one_table}
use Rattle.version_swap.proofs.InstanceTexts.{IsNameWord, spoken_some}
use Rattle.version_swap.proofs.OneTable.{outer_ports}
use Rattle.version_swap.proofs.OwnInstances.{IsOwnStanding, all_own, module_is}
use Rattle.version_swap.proofs.Parts.{port_same}
use Rattle.version_swap.proofs.SameUnits.{ids_same}
use Rattle.version_swap.proofs.SomeTexts.{IsSome, ids_in, texts_some}
use Rattle.version_swap.proofs.StepNames.{IsStepNamed, told_go}
use Rattle.version_swap.proofs.TableAlone.{same_listed}
use Rattle.version_swap.proofs.ToldInstances.{modules_named, within_table}

-- ---- what is told by numbers

pub clock_same : (c d : Option NameId) → clock_view c ≡ clock_view d → c ≡ d
clock_same None None is = refl
clock_same None (Some n) is = absurd cc
clock_same (Some m) None is = absurd cc
clock_same (Some m) (Some n) is = ap Some (same_id m n (same_Some m.0 n.0 is))

pub ports_same : (ps qs : List PortShape) → map port_of ps ≡ map port_of qs → ps ≡ qs
ports_same [] [] is = refl
ports_same [] (q ∷ qs) is = absurd cc
ports_same (p ∷ ps) [] is = absurd cc
ports_same (p ∷ ps) (q ∷ qs) is =
    let here = same_first (port_of p) (port_of q) (map port_of ps) (map port_of qs) is in
    ap₂ (λ (r : PortShape) (rs : List PortShape). r ∷ rs)
    (port_same p q (same_id p.name q.name (ap (λ (o : PortOutline). o.name) here)) (ap (λ (o : PortOutline). o.input) here)
    (ap (λ (o : PortOutline). o.width) here) (ap (λ (o : PortOutline). o.signed) here))
    (ports_same ps qs (same_others (port_of p) (port_of q) (map port_of ps) (map port_of qs) is))

shape_same : (c d : ChildShape) → c.instance ≡ d.instance → c.clock ≡ d.clock → c.ports ≡ d.ports → c ≡ d
shape_same c d instance clock ports = λ i. record { instance = instance i; clock = clock i; ports = ports i }

copy_same : (c d : ModuleCopy) → c.name ≡ d.name → c.declaration ≡ d.declaration → c.steps ≡ d.steps → c.table ≡ d.table → c.clock ≡ d.clock
    → c.children ≡ d.children → c.names ≡ d.names → c ≡ d
copy_same c d name declaration steps table clock children names = λ i. record {
  name = name i;
  declaration = declaration i;
  steps = steps i;
  table = table i;
  clock = clock i;
  children = children i;
  names = names i;
}

-- ---- what is told by texts

module _ (names : List (List ℕ)) (once : HasEachOnce names) where
  number_same : (m n : ℕ) (text : List ℕ) → IsSome text → text_at names m ≡ text → text_at names n ≡ text → m ≡ n
  number_same m n text some is also =
      once m n (within_table names m (λ none. some (sym is ∙ none))) (within_table names n (λ none. some (sym also ∙ none))) (is ∙ sym also)

  -- ---- the instances that stand in one

  abbrev IsWord : Standing → Type 0
  IsWord s = IsNameWord names s.name

  -- an instance has a name
  called_so : (all : List Standing) (s : Standing) → IsWord s → IsSome (instance_called names all s)
  called_so all s word = spoken_some names (blocks_around all s.parent) s.block s.name word

  instance_shape : (all : List Standing) (x y : Instance) (s : Standing) → IsWord s → instance_view names x ≡ seen names all s
      → instance_view names y ≡ seen names all s → shape_of x ≡ shape_of y
  instance_shape all x y s word is also =
      let same = is ∙ sym also in
      shape_same (shape_of x) (shape_of y)
      (same_id x.place.name y.place.name
      (number_same x.place.name.0 y.place.name.0 (instance_called names all s) (called_so all s word) (ap (λ (i : TreeInstance). i.name) is)
      (ap (λ (i : TreeInstance). i.name) also)))
      (clock_same x.clock y.clock (ap (λ (i : TreeInstance). i.clock) same))
      (ports_same x.ports y.ports (ap (λ (i : TreeInstance). i.ports) same))

  child_first : (b : Bool) (x y : Instance) (xs ys : List Instance) → shape_of x ≡ shape_of y → map shape_of xs ≡ map shape_of ys
      → map shape_of (if b then x ∷ xs else xs) ≡ map shape_of (if b then y ∷ ys else ys)
  child_first true x y xs ys first others = ap₂ (λ (c : ChildShape) (cs : List ChildShape). c ∷ cs) first others
  child_first false x y xs ys first others = others

  abbrev AreSeen : List Standing → List Instance → List Standing → Type 0
  AreSeen all xs ss = AllZip (λ x s. instance_view names x ≡ seen names all s) xs ss

  children_same : (all : List Standing) (k : ℕ) (xs ys : List Instance) (ss : List Standing) → All IsWord ss → AreSeen all xs ss
      → AreSeen all ys ss → map shape_of (children_of k xs) ≡ map shape_of (children_of k ys)
  children_same all k [] [] ss words one other = refl
  children_same all k [] (y ∷ ys) [] words one other = absurd other
  children_same all k [] (y ∷ ys) (s ∷ ss) words one other = absurd one
  children_same all k (x ∷ xs) [] [] words one other = absurd one
  children_same all k (x ∷ xs) [] (s ∷ ss) words one other = absurd other
  children_same all k (x ∷ xs) (y ∷ ys) [] words one other = absurd one
  children_same all k (x ∷ xs) (y ∷ ys) (s ∷ ss) words one other =
      child_first (stands_in k x.place.parent) x y (children_of k xs) (children_of k ys)
      (instance_shape all x y s (All-head IsWord s ss words) one.0 other.0)
      (children_same all k xs ys ss (All-tail IsWord s ss words) one.1 other.1)
      ∙ ap (λ (p : Option ℕ). map shape_of (if stands_in k p then y ∷ children_of k ys else children_of k ys))
      (ap (λ (i : TreeInstance). i.parent) (one.0 ∙ sym other.0))

  -- ---- copies

  module _ (ms : List Module) (spelled : All (IsSpelledUnder names) ms) where
    abbrev IsCopy : List Instance → List Standing → ℕ → CopyEntry → Standing → Type 0
    IsCopy xs all k e s = IsCopyIn language_limits.turns (declarations_of ms) (one_table names) xs all k e s

    abbrev AreEntries : List Instance → List Standing → ℕ → List CopyEntry → List Standing → Type 0
    AreEntries xs all k es ss = AreEntriesIn language_limits.turns (declarations_of ms) (one_table names) xs all k es ss

    -- the names of a copy are in the table
    names_in : (xs : List Instance) (all : List Standing) (k : ℕ) (e : CopyEntry) (s : Standing) → IsCopy xs all k e s
        → All (IsIn names) e.copy.names
    names_in xs all k e s h =
        let steps = e.copy.steps in
        let d = e.copy.declaration in
        let words = modules_named names ms spelled in
        let named = module_is (IsNameWord names) language_limits (declarations_of ms) words s.instantiated (declarations_of ms) d words h.declared in
        let outside = subst (λ (ss : List ModuleStep). are_ports_outside 0 ss ≡ true) (sym h.unrolled)
        (ports_stand_outside language_limits.turns s.overrides d (outer_ports ms s.instantiated d h.declared)) in
        let are = subst (All (IsStepNamed (IsNameWord names))) (sym h.unrolled) (told_go (IsNameWord names) language_limits.turns s.overrides d named.1) in
        ids_in names e.copy.names
        (subst (All IsSome) (same_names_within d steps e.copy.table names outside h.signals ∙ sym h.names)
        (texts_some names (blocks_in steps) [] steps are))

    entry_same : (xs ys : List Instance) (all : List Standing) (k : ℕ) (e f : CopyEntry) (s : Standing) → IsWord s
        → map shape_of (children_of k xs) ≡ map shape_of (children_of k ys) → IsCopy xs all k e s → IsCopy ys all k f s → e ≡ f
    entry_same xs ys all k e f s word children one other =
        let declared = same_Some e.copy.declaration f.copy.declaration (sym one.declared ∙ other.declared) in
        let steps = one.unrolled ∙ ap (λ (d : ModuleDeclaration). (unrolled_module language_limits.turns s.overrides d).said) declared
        ∙ sym other.unrolled in
        let table = ok_same e.copy.table f.copy.table (sym one.signals ∙ ap₂ module_table declared steps ∙ other.signals) in
        let called = one.names
        ∙ ap₂ (λ (ss : List ModuleStep) (t : SignalTable). map (signal_called names (blocks_in ss)) (filter is_within_block t.signals)) steps table
        ∙ sym other.names in
        ap₂ (λ (p : Option ℕ) (c : ModuleCopy). record { parent = p; copy = c }) (one.parent ∙ sym other.parent)
        (copy_same e.copy f.copy
        (number_same e.copy.name f.copy.name (instance_called names all s) (called_so all s word) one.name other.name)
        declared steps table (clock_same e.copy.clock f.copy.clock (one.clock ∙ sym other.clock))
        (one.children ∙ children ∙ sym other.children)
        (ids_same names e.copy.names f.copy.names once (names_in xs all k e s one) (names_in ys all k f s other) called))

    entries_same : (xs ys : List Instance) (all : List Standing) → ((k : ℕ) → map shape_of (children_of k xs) ≡ map shape_of (children_of k ys))
        → (k : ℕ) (es fs : List CopyEntry) (ss : List Standing) → All IsWord ss → AreEntries xs all k es ss → AreEntries ys all k fs ss → es ≡ fs
    entries_same xs ys all children k [] [] ss words one other = refl
    entries_same xs ys all children k [] (f ∷ fs) [] words one other = absurd other
    entries_same xs ys all children k [] (f ∷ fs) (s ∷ ss) words one other = absurd one
    entries_same xs ys all children k (e ∷ es) [] [] words one other = absurd one
    entries_same xs ys all children k (e ∷ es) [] (s ∷ ss) words one other = absurd other
    entries_same xs ys all children k (e ∷ es) (f ∷ fs) [] words one other = absurd one
    entries_same xs ys all children k (e ∷ es) (f ∷ fs) (s ∷ ss) words one other =
        ap₂ (λ (g : CopyEntry) (gs : List CopyEntry). g ∷ gs)
        (entry_same xs ys all k e f s (All-head IsWord s ss words) (children k) one.0 other.0)
        (entries_same xs ys all children (suc k) es fs ss (All-tail IsWord s ss words) one.1 other.1)

    -- ---- designs

    module _ (top clock : ℕ) where
      all_words : (all : List Standing) → elaborated language_limits (declarations_of ms) top clock ≡ Ok all → All IsWord all
      all_words all is =
          let words = modules_named names ms spelled in
          All-weaker (IsOwnStanding (IsNameWord names) language_limits (declarations_of ms) words) IsWord (λ s own. own.named) all
          (all_own (IsNameWord names) language_limits (declarations_of ms) words top clock all is)

      copies_same : (all : List Standing) (xs ys : List Instance) (a b : Copies)
          → elaborated language_limits (declarations_of ms) top clock ≡ Ok all → map (instance_view names) xs ≡ all_seen names all
          → map (instance_view names) ys ≡ all_seen names all
          → AreCopiesIn language_limits.turns (declarations_of ms) (one_table names) xs all a
          → AreCopiesIn language_limits.turns (declarations_of ms) (one_table names) ys all b → a ≡ b
      copies_same all xs ys a b is view also one other =
          let words = all_words all is in
          same_listed a b
          (entries_same xs ys all
          (λ k. children_same all k xs ys all words (side_by_side (instance_view names) (seen names all) xs all view)
          (side_by_side (instance_view names) (seen names all) ys all also))
          0 (copies_listed None 0 a) (copies_listed None 0 b) all words one other)

      pub one_design : (xs ys : List Instance) (a b : Flat) → IsFlatIn names ms top clock xs a → IsFlatIn names ms top clock ys b → a ≡ b
      one_design xs ys a b g h =
          let alls = ok_same g.all h.all (sym g.found ∙ h.found) in
          g.same
          ∙ ap flat (copies_same h.all xs ys g.copies h.copies h.found
          (subst (λ (all : List Standing). map (instance_view names) xs ≡ all_seen names all) alls g.seen) h.seen
          (subst (λ (all : List Standing). AreCopiesIn language_limits.turns (declarations_of ms) (one_table names) xs all g.copies) alls
          g.are_copies)
          h.are_copies)
          ∙ sym h.same
