-- Steps one by one, and the names within the blocks of a module.
use Rattle.std.proofs.Common.{◌≡◌, ℕ, ◌+◌, ◌<◌, ◌≤◌, List, [], ◌∷◌, ◌++◌, map, length, get_or, drop, refl, sym, ◌∙◌, ap, append_assoc, append-nil}
use Rattle.std.specs.Prelude.{Option, Some, None, Result, Ok, Err}
use Rattle.std.proofs.lemmas.List.{at_drop_all}
use Rattle.ls_text.specs.declared.fault.Fault.{Fault}
use Rattle.ls_text.specs.declared.place.Place.{Place}
use Rattle.typed_ir.specs.declared.constant.Const.{Const}
use Rattle.typed_ir.proofs.Lists.{drop_read}
use Rattle.verilog_ast.specs.declared.identifier.Identifier.{Identifier}
use Rattle.verilog_ast.specs.declared.port_net.PortNet.{PortNet}
use Rattle.verilog_ast.specs.Declarations.{Kind, Declared}
use Rattle.verilog_ast.specs.Items as i
use Rattle.verilog_ast.specs.Items.{ModuleDeclaration}
use Rattle.gen_unroll.specs.declared.step.Step.{Step}
use Rattle.gen_unroll.specs.Overriding.{constant_sorts, overrides_of}
use Rattle.gen_unroll.specs.Steps.{GenerateBlock, ModuleStep, Listed, Port, Parameter, Item, Labelled, Opened, Closed, blocks_in}
use Rattle.gen_unroll.specs.Told.{Told, fault_in}
use Rattle.gen_unroll.specs.Unrolled.{State, unrolled_module, turn_limit, steps_told}
use Rattle.ls_text.specs.Answers.{◌>>=◌}
use Rattle.gen_unroll.specs.Values.{ConstantValue}
use Rattle.gen_unroll.specs.Views.{step_of}
use Rattle.gen_unroll.proofs.Answered.{ended, stopped}
use Rattle.unit_jobs.specs.BlockNames.{item_texts, texts_within}
use Rattle.unit_jobs.specs.Walks.{module_texts, open_behind, step_texts}

-- ---- ports of the body are no names of a block

pub no_input : (texts : List (List ℕ)) (blocks : List GenerateBlock) (block : Option ℕ) (at : Place) (net : PortNet) (k : Kind)
    (names : List Identifier)
    → item_texts texts blocks block (i.Inputs at net k names) ≡ []
no_input texts blocks None at net k names = refl
no_input texts blocks (Some b) at net k names = refl

pub no_output : (texts : List (List ℕ)) (blocks : List GenerateBlock) (block : Option ℕ) (at : Place) (net : PortNet) (k : Kind)
    (ports : List Declared)
    → item_texts texts blocks block (i.Outputs at net k ports) ≡ []
no_output texts blocks None at net k ports = refl
no_output texts blocks (Some b) at net k ports = refl

-- ---- steps

step_first : (texts : List (List ℕ)) (blocks : List GenerateBlock) (around : List ℕ) (step : ModuleStep) (steps : List ModuleStep)
    → texts_within texts blocks around (step ∷ steps)
    ≡ step_texts texts blocks around step ++ texts_within texts blocks (open_behind around step) steps
step_first texts blocks around (Listed n) steps = refl
step_first texts blocks around (Port p) steps = refl
step_first texts blocks around (Parameter s n v) steps = refl
step_first texts blocks around (Item x) steps = refl
step_first texts blocks around (Labelled n) steps = refl
step_first texts blocks around (Opened b items) steps = refl
step_first texts blocks around Closed steps = refl

-- one step more of what is left
pub step_more : (texts : List (List ℕ)) (blocks : List GenerateBlock) (before now whole : List (List ℕ)) (around after : List ℕ) (all : List Step)
    (k : ℕ) (step : Step)
    → k < length all → step ≡ get_or all k step → now ≡ before ++ step_texts texts blocks around (step_of step)
    → after ≡ open_behind around (step_of step)
    → before ++ texts_within texts blocks around (map step_of (drop k all)) ≡ whole
    → now ++ texts_within texts blocks after (map step_of (drop (k + 1) all)) ≡ whole
step_more texts blocks before now whole around after all k step h at is after_is so_far =
    let left = map step_of (drop (k + 1) all) in
    ap (λ (zs : List (List ℕ)). zs ++ texts_within texts blocks after left) is
    ∙ ap (λ (ns : List ℕ). (before ++ step_texts texts blocks around (step_of step)) ++ texts_within texts blocks ns left) after_is
    ∙ append_assoc before (step_texts texts blocks around (step_of step)) (texts_within texts blocks (open_behind around (step_of step)) left)
    ∙ ap (λ (zs : List (List ℕ)). before ++ zs) (sym (step_first texts blocks around (step_of step) left))
    ∙ sym (ap (λ (zs : List Step). before ++ texts_within texts blocks around (map step_of zs)) (drop_read all k step h at))
    ∙ so_far

-- no step is left
pub step_none : (texts : List (List ℕ)) (blocks : List GenerateBlock) (before whole : List (List ℕ)) (around : List ℕ) (all : List Step) (k : ℕ)
    → length all ≤ k
    → before ++ texts_within texts blocks around (map step_of (drop k all)) ≡ whole → before ≡ whole
step_none texts blocks before whole around all k h so_far =
    sym (append-nil before)
    ∙ sym (at_drop_all (λ (zs : List Step). before ++ texts_within texts blocks around (map step_of zs)) all k h)
    ∙ so_far

-- ---- a module

abbrev texts_told : (texts : List (List ℕ)) → Told State → Result (List (List ℕ)) Fault
texts_told texts t = steps_told t >>= λ steps. Ok (texts_within texts (blocks_in steps) [] steps)

abbrev told_under : ModuleDeclaration → List (Option ConstantValue) → Told State
told_under m os = unrolled_module turn_limit os m

-- its steps without a fault
pub module_named : (texts : List (List ℕ)) (m : ModuleDeclaration) (values : List Const) (os : List (Option ConstantValue))
    (steps : List ModuleStep) (blocks : List GenerateBlock) (ts : List (List ℕ))
    → os ≡ overrides_of (constant_sorts m) values → steps ≡ (unrolled_module turn_limit os m).said
    → blocks ≡ blocks_in (unrolled_module turn_limit os m).said
    → None ≡ fault_in (unrolled_module turn_limit os m).ending → ts ≡ texts_within texts blocks [] steps → module_texts texts m values ≡ Ok ts
module_named texts m values os steps blocks ts given said opened fault is =
    let t = told_under m os in
    ap (λ (zs : List (Option ConstantValue)). texts_told texts (told_under m zs)) (sym given)
    ∙ ap (λ (r : Result (List ModuleStep) Fault). r >>= λ steps. Ok (texts_within texts (blocks_in steps) [] steps)) (ended t.said t.ending fault)
    ∙ ap (λ (zs : List ModuleStep). Ok (texts_within texts (blocks_in t.said) [] zs)) (sym said)
    ∙ ap (λ (bs : List GenerateBlock). Ok (texts_within texts bs [] steps)) (sym opened)
    ∙ ap (λ (zs : List (List ℕ)). Ok zs) (sym is)

-- or its first fault
pub module_refused : (texts : List (List ℕ)) (m : ModuleDeclaration) (values : List Const) (os : List (Option ConstantValue)) (f : Fault)
    → os ≡ overrides_of (constant_sorts m) values → Some f ≡ fault_in (unrolled_module turn_limit os m).ending → module_texts texts m values ≡ Err f
module_refused texts m values os f given fault =
    let t = told_under m os in
    ap (λ (zs : List (Option ConstantValue)). texts_told texts (told_under m zs)) (sym given)
    ∙ ap (λ (r : Result (List ModuleStep) Fault). r >>= λ steps. Ok (texts_within texts (blocks_in steps) [] steps)) (stopped t.said t.ending f fault)
