-- The copies of a design by one table of names: a table that has grown calls instances and signals as they were called before (IEEE Std
-- 1364-2005, 12.4 and 12.5).
use Rattle.std.proofs.Common.{◌≡◌, ℕ, suc, ◌==◌, Bool, true, false, if◌then◌else◌, List, [], ◌∷◌, All, filter, map, Some, None, Ok}
use Rattle.std.proofs.Common.{refl, sym, ◌∙◌, ap, ap₂, subst}
use Rattle.std.specs.List.{AllZip}
use Rattle.std.proofs.lemmas.List.Elements.{All-head, All-map, All-tail, All-weaker}
use Rattle.std.proofs.lemmas.Option.{none-some, same_Some}
use Rattle.ls_text.specs.Texts.{Grows, text_at}
use Rattle.ls_text.proofs.Growth.{grown_text, grows_on}
use Rattle.verilog_ast.specs.declared.identifier.Identifier.{Identifier}
use Rattle.verilog_ast.specs.declared.module.Module.{Module}
use Rattle.verilog_ast.specs.Items.{ModuleDeclaration}
use Rattle.verilog_ast.specs.Views.{declaration_of, declarations_of}
use Rattle.typed_ir.specs.declared.instance.Instance.{Instance}
use Rattle.gen_unroll.specs.Steps.{GenerateBlock, ModuleStep, blocks_in}
use Rattle.gen_unroll.specs.Unrolled.{unrolled_module}
use Rattle.module_names.specs.Modules.{module_named}
use Rattle.elaborate.specs.declared.limits.Limits.{Limits}
use Rattle.elaborate.specs.Elaborated.{Standing, elaborated}
use Rattle.elaborate.specs.Trees.{TreeInstance, blocks_around, called as instance_called, seen_as, seen, all_seen}
use Rattle.elaborate.specs.TreeViews.{instance_view}
use Rattle.version_swap.specs.BlockSignals.{is_within_block, called as signal_called}
use Rattle.version_swap.specs.InstanceModules.{IsVisited}
use Rattle.version_swap.specs.Outer.{are_ports_outside}
use Rattle.version_swap.specs.OuterTrees.{has_outer_ports_alone}
use Rattle.version_swap.proofs.BlockNames.{same_names_within}
use Rattle.version_swap.proofs.CodeTrees.{code_stands}
use Rattle.version_swap.proofs.InstanceModules.{all_visited}
use Rattle.version_swap.proofs.KnownInstances.{side_by_side}
use Rattle.version_swap.proofs.Rerolled.{ports_stand_outside}
use Rattle.version_swap.specs.Copies.{Copies}
use Rattle.version_swap.specs.DesignCopies.{NameTables, IsCopyIn, AreEntriesIn, AreCopiesIn}
use Rattle.version_swap.specs.Spelled.{IsSpelledUnder}
use Rattle.version_swap.specs.TableCopies.{CopyEntry, copies_listed}
use Rattle.version_swap.specs.TreeJobs.{one_table}
use Rattle.version_swap.proofs.GrownJobs.{labels_in, spoken_grown, within_grown}
use Rattle.version_swap.proofs.GrownSpelling.{grown_spelled}
use Rattle.version_swap.proofs.InstanceTexts.{IsNameWord, spoken_some}
use Rattle.version_swap.proofs.OwnInstances.{IsOwnStanding, all_own, module_is}
use Rattle.version_swap.proofs.StepNames.{IsStepNamed, told_go}
use Rattle.version_swap.proofs.ToldInstances.{labels_around, modules_named, within_table}
use Rattle.version_swap.proofs.TreeNames.{IsModuleNamed, IsNameIn, tree_named}

-- modules of the code declare ports outside of generate blocks alone
pub outer_ports : (ms : List Module) (name : ℕ) (d : ModuleDeclaration) → module_named name (declarations_of ms) ≡ Some d
    → has_outer_ports_alone d ≡ true
outer_ports [] name d is = absurd (none-some d is)
outer_ports (m ∷ ms) name d is = cases (name == (declaration_of m.body).name.name.0) (outer_ports ms name d) is
  where
    cases : (b : Bool) → (module_named name (declarations_of ms) ≡ Some d → has_outer_ports_alone d ≡ true)
        → (if b then Some (declaration_of m.body) else module_named name (declarations_of ms)) ≡ Some d → has_outer_ports_alone d ≡ true
    cases true later here =
        subst (λ (e : ModuleDeclaration). has_outer_ports_alone e ≡ true) (same_Some (declaration_of m.body) d here) (code_stands m.body)
    cases false later here = later here

modules_in : (names : List (List ℕ)) (ms : List Module) → All (IsSpelledUnder names) ms
    → All (IsModuleNamed (IsNameIn names)) (declarations_of ms)
modules_in names ms spelled =
    All-map (IsModuleNamed (IsNameIn names)) (λ (m : Module). declaration_of m.body) ms
    (All-weaker (IsSpelledUnder names) (λ (m : Module). IsModuleNamed (IsNameIn names) (declaration_of m.body))
    (λ m h. tree_named names (IsNameIn names) (λ t word proper. proper.0) m h) ms spelled)

module _ (l : Limits) (texts known names : List (List ℕ)) (ms : List Module) (grown : Grows texts known) (grows : Grows known names)
    (spelled : All (IsSpelledUnder texts) ms) where
  abbrev four_tables : NameTables
  four_tables = record { texts = texts; known = known; others = known; words = names }

  abbrev IsSeen : Standing → Type 0
  IsSeen s = IsVisited l.turns (declarations_of ms) s

  word_in : (n : Identifier) → IsNameWord texts n → IsNameIn texts n
  word_in n is = within_table texts n.name.0 is.some

  -- ---- instances

  called_alike : (all : List Standing) (s : Standing) → All IsSeen all → IsNameWord texts s.name
      → instance_called names all s ≡ instance_called texts all s
  called_alike all s are name =
      let blocks = blocks_around all s.parent in
      spoken_grown texts names (grows_on texts known names grown grows) blocks s.block s.name.name
      (All-weaker (λ (b : GenerateBlock). IsNameWord texts b.label) (λ (b : GenerateBlock). IsNameIn texts b.label)
      (λ b is. word_in b.label is) blocks (labels_around l texts known names ms grows spelled all s.parent are))
      (word_in s.name name)

  abbrev named_so : List ℕ → TreeInstance → TreeInstance
  named_so name i = record {
    parent = i.parent;
    name = name;
    instantiated = i.instantiated;
    parameters = i.parameters;
    clock = i.clock;
    ports = i.ports;
  }

  view_by_one : (all : List Standing) (x : Instance) (s : Standing) → All IsSeen all → IsNameWord texts s.name
      → instance_view known x ≡ seen texts all s → instance_view names x ≡ seen names all s
  view_by_one all x s are name is =
      let text : text_at known x.place.name.0 ≡ instance_called texts all s = ap (λ (i : TreeInstance). i.name) is in
      let within = within_table known x.place.name.0
      (λ none. spoken_some texts (blocks_around all s.parent) s.block s.name name (sym text ∙ none)) in
      ap (named_so (text_at names x.place.name.0)) is
      ∙ ap (λ (called : List ℕ). seen_as called s)
      (grown_text known names x.place.name.0 grows within ∙ text ∙ sym (called_alike all s are name))

  views_by_one : (all : List Standing) (xs : List Instance) (ss : List Standing) → All IsSeen all
      → All (λ (s : Standing). IsNameWord texts s.name) ss → AllZip (λ x s. instance_view known x ≡ seen texts all s) xs ss
      → map (instance_view names) xs ≡ map (seen names all) ss
  views_by_one all [] [] are words h = refl
  views_by_one all [] (s ∷ ss) are words h = absurd h
  views_by_one all (x ∷ xs) [] are words h = absurd h
  views_by_one all (x ∷ xs) (s ∷ ss) are words h =
      let P = λ (y : Standing). IsNameWord texts y.name in
      ap₂ (λ (i : TreeInstance) (is : List TreeInstance). i ∷ is) (view_by_one all x s are (All-head P s ss words) h.0)
      (views_by_one all xs ss are (All-tail P s ss words) h.1)

  -- ---- signals within blocks

  steps_in : (name : ℕ) (s : Standing) (d : ModuleDeclaration) (steps : List ModuleStep)
      → module_named name (declarations_of ms) ≡ Some d → steps ≡ (unrolled_module l.turns s.overrides d).said
      → All (IsStepNamed (IsNameIn known)) steps
  steps_in name s d steps declared unrolled =
      let in_known = modules_in known ms
      (All-weaker (IsSpelledUnder texts) (IsSpelledUnder known) (λ m is. grown_spelled texts known grown m is) ms spelled) in
      let named = module_is (IsNameIn known) l (declarations_of ms) in_known name (declarations_of ms) d in_known declared in
      subst (All (IsStepNamed (IsNameIn known))) (sym unrolled) (told_go (IsNameIn known) l.turns s.overrides d named.1)

  signals_alike : (xs : List Instance) (all : List Standing) (k : ℕ) (e : CopyEntry) (s : Standing)
      → IsCopyIn l.turns (declarations_of ms) four_tables xs all k e s
      → map (signal_called names (blocks_in e.copy.steps)) (filter is_within_block e.copy.table.signals)
      ≡ map (signal_called known (blocks_in e.copy.steps)) (filter is_within_block e.copy.table.signals)
  signals_alike xs all k e s h =
      let steps = e.copy.steps in
      let d = e.copy.declaration in
      let outside = subst (λ (ss : List ModuleStep). are_ports_outside 0 ss ≡ true) (sym h.unrolled)
      (ports_stand_outside l.turns s.overrides d (outer_ports ms s.instantiated d h.declared)) in
      let are = steps_in s.instantiated s d steps h.declared h.unrolled in
      sym (same_names_within d steps e.copy.table names outside h.signals)
      ∙ within_grown known names grows (blocks_in steps) [] steps (labels_in known names grows steps are) are
      ∙ same_names_within d steps e.copy.table known outside h.signals

  -- ---- copies

  copy_by_one : (xs : List Instance) (all : List Standing) (k : ℕ) (e : CopyEntry) (s : Standing) → All IsSeen all → IsNameWord texts s.name
      → IsCopyIn l.turns (declarations_of ms) four_tables xs all k e s → IsCopyIn l.turns (declarations_of ms) (one_table names) xs all k e s
  copy_by_one xs all k e s are name h =
      let within = within_table known e.copy.name
      (λ is. spoken_some texts (blocks_around all s.parent) s.block s.name name (sym h.name ∙ is)) in
      record {
        parent = h.parent;
        name = grown_text known names e.copy.name grows within ∙ h.name ∙ sym (called_alike all s are name);
        declared = h.declared;
        unrolled = h.unrolled;
        signals = h.signals;
        clock = h.clock;
        children = h.children;
        names = h.names ∙ sym (signals_alike xs all k e s h);
      }

  copies_by_one : (xs : List Instance) (all : List Standing) (k : ℕ) (es : List CopyEntry) (ss : List Standing) → All IsSeen all
      → All (λ (s : Standing). IsNameWord texts s.name) ss → AreEntriesIn l.turns (declarations_of ms) four_tables xs all k es ss
      → AreEntriesIn l.turns (declarations_of ms) (one_table names) xs all k es ss
  copies_by_one xs all k [] [] are words h = tt
  copies_by_one xs all k [] (s ∷ ss) are words h = absurd h
  copies_by_one xs all k (e ∷ es) [] are words h = absurd h
  copies_by_one xs all k (e ∷ es) (s ∷ ss) are words h =
      let P = λ (x : Standing). IsNameWord texts x.name in
      (copy_by_one xs all k e s are (All-head P s ss words) h.0, copies_by_one xs all (suc k) es ss are (All-tail P s ss words) h.1)

  -- ---- a design

  module _ (top clock : ℕ) (all : List Standing) (xs : List Instance) (is : elaborated l (declarations_of ms) top clock ≡ Ok all) where
    all_words : All (λ (s : Standing). IsNameWord texts s.name) all
    all_words =
        let modules = modules_named texts ms spelled in
        All-weaker (IsOwnStanding (IsNameWord texts) l (declarations_of ms) modules) (λ (s : Standing). IsNameWord texts s.name)
        (λ s own. own.named) all (all_own (IsNameWord texts) l (declarations_of ms) modules top clock all is)

    -- instances that are called so by the tables of each step are called so by the last one
    pub seen_by_one : map (instance_view known) xs ≡ all_seen texts all → map (instance_view names) xs ≡ all_seen names all
    seen_by_one view =
        views_by_one all xs all (all_visited l (declarations_of ms) top clock all is) all_words
        (side_by_side (instance_view known) (seen texts all) xs all view)

    -- copies that stand by the tables of each step stand by the last one
    pub by_one_table : (copies : Copies) → AreCopiesIn l.turns (declarations_of ms) four_tables xs all copies
        → AreCopiesIn l.turns (declarations_of ms) (one_table names) xs all copies
    by_one_table copies h =
        copies_by_one xs all 0 (copies_listed None 0 copies) all (all_visited l (declarations_of ms) top clock all is) all_words h
