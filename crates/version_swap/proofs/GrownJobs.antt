-- A job under a table is one under the table when it has grown.
use Rattle.std.proofs.Common.{◌≡◌, ℕ, ◌==◌, if◌then◌else◌, List, [], ◌∷◌, ◌++◌, All, length, map, reverse, codes, Option, Some, None, Ok, refl, sym, ◌∙◌, ap, ap₂, subst}
use Rattle.std.proofs.lemmas.List.{reverse-append}
use Rattle.std.proofs.lemmas.List.Elements.{All-nil, All-cons, All-head, All-tail, All-append}
use Rattle.ls_text.specs.Texts.{Grows, text_at}
use Rattle.ls_text.specs.declared.name_id.NameId.{NameId}
use Rattle.ls_text.proofs.Growth.{grown_id, grown_text, known_grown, texts_grown}
use Rattle.typed_ir.specs.declared.child_shape.ChildShape.{ChildShape}
use Rattle.typed_ir.specs.declared.port_shape.PortShape.{PortShape}
use Rattle.verilog_ast.specs.declared.identifier.Identifier.{Identifier}
use Rattle.verilog_ast.specs.Items.{ModuleItem}
use Rattle.gen_unroll.specs.Reaches.{innermost, blocks_around}
use Rattle.gen_unroll.specs.Spoken.{index_text, own_text, prefix_in, spoken}
use Rattle.gen_unroll.specs.Steps.{GenerateBlock, ModuleStep, Listed, Port, Parameter, Item, Labelled, Opened, Closed, blocks_in}
use Rattle.module_registry.specs.declared.build_job.BuildJob.{BuildJob}
use Rattle.unit_jobs.specs.BlockNames.{called_in, declared_by, item_texts, texts_within}
use Rattle.ls_text.specs.TextViews.{text_of}
use Rattle.unit_build.specs.Building.{job_steps}
use Rattle.version_swap.proofs.GrownSpelling.{grown_spelled}
use Rattle.version_swap.specs.JobsUnder.{IsIn, IsJobUnder}
use Rattle.version_swap.specs.Told.{is_word, IsNamed, IsPortTold, IsClockTold, IsChildTold}
use Rattle.version_swap.proofs.StepNames.{IsStepNamed, declared_named, steps_named}
use Rattle.version_swap.proofs.TreeNames.{IsNameIn, tree_in}

module _ (old new : List (List ℕ)) (grows : Grows old new) where
  text_grown : (n : NameId) → IsIn old n → text_at new n.0 ≡ text_at old n.0
  text_grown n h = grown_text old new n.0 grows h

  -- ---- what names within blocks are called

  abbrev IsLabelIn : GenerateBlock → Type 0
  IsLabelIn b = IsNameIn old b.label

  abbrev AreStepsIn : List ModuleStep → Type 0
  AreStepsIn steps = All (IsStepNamed (IsNameIn old)) steps

  own_grown : (b : GenerateBlock) → IsLabelIn b → own_text new b ≡ own_text old b
  own_grown b h = ap (λ (text : List ℕ). text ++ (index_text b.turn ++ codes ".")) (text_grown b.label.name h)

  prefix_grown : (bs : List GenerateBlock) (k : Option ℕ) → All IsLabelIn bs → prefix_in new bs k ≡ prefix_in old bs k
  prefix_grown [] None all = refl
  prefix_grown (b ∷ bs) None all = refl
  prefix_grown [] (Some k) all = refl
  prefix_grown (b ∷ bs) (Some k) all =
      let more = All-tail IsLabelIn b bs all in
      ap (λ (own : List ℕ). if k == length bs then prefix_in new bs b.parent ++ own else prefix_in new bs (Some k))
      (own_grown b (All-head IsLabelIn b bs all))
      ∙ ap₂ (λ (above behind : List ℕ). if k == length bs then above ++ own_text old b else behind)
      (prefix_grown bs b.parent more) (prefix_grown bs (Some k) more)

  reverse_all : (bs : List GenerateBlock) → All IsLabelIn bs → All IsLabelIn (reverse bs)
  reverse_all [] all = all
  reverse_all (b ∷ bs) all =
      subst (All IsLabelIn) (sym (reverse-append (b ∷ []) bs))
      (All-append IsLabelIn (reverse bs) (b ∷ []) (reverse_all bs (All-tail IsLabelIn b bs all))
      (All-cons IsLabelIn b [] (All-head IsLabelIn b bs all) (All-nil IsLabelIn)))

  pub spoken_grown : (bs : List GenerateBlock) (k : Option ℕ) (n : NameId) → All IsLabelIn bs → IsIn old n → spoken new bs k n.0 ≡ spoken old bs k n.0
  unfolding spoken
  spoken_grown bs k n all h =
      ap₂ (λ (before own : List ℕ). before ++ own) (prefix_grown (reverse bs) k (reverse_all bs all)) (text_grown n h)

  called_grown : (bs : List GenerateBlock) (block : ℕ) (ns : List Identifier) → All IsLabelIn bs → All (IsNameIn old) ns
      → map (called_in new bs block) ns ≡ map (called_in old bs block) ns
  called_grown bs block [] all in_ns = refl
  called_grown bs block (n ∷ ns) all in_ns =
      ap₂ (λ (t : List ℕ) (ts : List (List ℕ)). t ∷ ts)
      (spoken_grown bs (Some block) n.name all (All-head (IsNameIn old) n ns in_ns))
      (called_grown bs block ns all (All-tail (IsNameIn old) n ns in_ns))

  item_grown : (bs : List GenerateBlock) (block : Option ℕ) (x : ModuleItem) → All IsLabelIn bs → All (IsNameIn old) (declared_by x)
      → item_texts new bs block x ≡ item_texts old bs block x
  item_grown bs None x all in_x = refl
  item_grown bs (Some block) x all in_x = called_grown bs block (declared_by x) all in_x

  rest : (step : ModuleStep) (steps : List ModuleStep) → AreStepsIn (step ∷ steps) → AreStepsIn steps
  rest step steps all = All-tail (IsStepNamed (IsNameIn old)) step steps all

  pub within_grown : (bs : List GenerateBlock) (around : List ℕ) (steps : List ModuleStep) → All IsLabelIn bs → AreStepsIn steps
      → texts_within new bs around steps ≡ texts_within old bs around steps
  within_grown bs around [] all in_steps = refl
  within_grown bs around (Listed n ∷ steps) all in_steps = within_grown bs around steps all (rest (Listed n) steps in_steps)
  within_grown bs around (Port p ∷ steps) all in_steps = within_grown bs around steps all (rest (Port p) steps in_steps)
  within_grown bs around (Parameter s n v ∷ steps) all in_steps = within_grown bs around steps all (rest (Parameter s n v) steps in_steps)
  within_grown bs around (Item x ∷ steps) all in_steps =
      ap₂ (λ (here behind : List (List ℕ)). here ++ behind)
      (item_grown bs (innermost around) x all
      (declared_named (IsNameIn old) x (All-head (IsStepNamed (IsNameIn old)) (Item x) steps in_steps)))
      (within_grown bs around steps all (rest (Item x) steps in_steps))
  within_grown bs around (Labelled n ∷ steps) all in_steps = within_grown bs around steps all (rest (Labelled n) steps in_steps)
  within_grown bs around (Opened b items ∷ steps) all in_steps =
      within_grown bs (b.number ∷ around) steps all (rest (Opened b items) steps in_steps)
  within_grown bs around (Closed ∷ steps) all in_steps = within_grown bs (blocks_around around) steps all (rest Closed steps in_steps)

  pub labels_in : (steps : List ModuleStep) → AreStepsIn steps → All IsLabelIn (blocks_in steps)
  labels_in [] all = All-nil IsLabelIn
  labels_in (Listed n ∷ steps) all = labels_in steps (rest (Listed n) steps all)
  labels_in (Port p ∷ steps) all = labels_in steps (rest (Port p) steps all)
  labels_in (Parameter s n v ∷ steps) all = labels_in steps (rest (Parameter s n v) steps all)
  labels_in (Item x ∷ steps) all = labels_in steps (rest (Item x) steps all)
  labels_in (Labelled n ∷ steps) all = labels_in steps (rest (Labelled n) steps all)
  labels_in (Opened b items ∷ steps) all =
      All-cons IsLabelIn b (blocks_in steps) (All-head (IsStepNamed (IsNameIn old)) (Opened b items) steps all)
      (labels_in steps (rest (Opened b items) steps all))
  labels_in (Closed ∷ steps) all = labels_in steps (rest Closed steps all)

  -- ---- what a job tells

  named_grown : (n : NameId) → IsNamed old n → IsNamed new n
  named_grown n h = record { within = grown_id old new n.0 grows h.within; word = ap is_word (text_grown n h.within) ∙ h.word }

  pub clock_grown : (clock : Option NameId) → IsClockTold old clock → IsClockTold new clock
  clock_grown None h = h
  clock_grown (Some n) h = (named_grown n h.0, λ is. h.1 (sym (text_grown n h.0.within) ∙ is))

  ports_grown : (ps : List PortShape) → All (IsPortTold old) ps → All (IsPortTold new) ps
  ports_grown [] all = All-nil (IsPortTold new)
  ports_grown (p ∷ ps) all =
      All-cons (IsPortTold new) p ps (named_grown p.name (All-head (IsPortTold old) p ps all)) (ports_grown ps (All-tail (IsPortTold old) p ps all))

  child_grown : (c : ChildShape) → IsChildTold old c → IsChildTold new c
  child_grown c h = record {
    instance = named_grown c.instance h.instance;
    clock = clock_grown c.clock h.clock;
    ports = ports_grown c.ports h.ports;
  }

  children_grown : (cs : List ChildShape) → All (IsChildTold old) cs → All (IsChildTold new) cs
  children_grown [] all = All-nil (IsChildTold new)
  children_grown (c ∷ cs) all =
      All-cons (IsChildTold new) c cs (child_grown c (All-head (IsChildTold old) c cs all)) (children_grown cs (All-tail (IsChildTold old) c cs all))

  job_named : (job : BuildJob) → IsJobUnder old job → (steps : List ModuleStep) → job_steps job ≡ Ok steps
      → map (text_of new) job.names ≡ texts_within new (blocks_in steps) [] steps
  job_named job h steps is =
      let all : AreStepsIn steps = steps_named (IsNameIn old) job steps (tree_in old job.module.value h.spelled) is in
      texts_grown old new job.names grows h.within ∙ h.named steps is
      ∙ sym (within_grown (blocks_in steps) [] steps (labels_in steps all) all)

pub grown_under : (old new : List (List ℕ)) (job : BuildJob) → Grows old new → IsJobUnder old job → IsJobUnder new job
grown_under old new job grows h = record {
  spelled = grown_spelled old new grows job.module.value h.spelled;
  values = h.values;
  clock = clock_grown old new grows job.clock h.clock;
  children = children_grown old new grows job.children h.children;
  within = known_grown old new job.names grows h.within;
  named = job_named old new grows job h;
}
