-- Blocks, loops and branches from their parts.
use Rattle.std.proofs.Common.{◌≡◌, ℕ, ◌-◌, List, [], ◌∷◌, ◌++◌, map, length, append-nil, Option, Some, None, Result, Ok, Err, refl, sym, ◌∙◌, ap, subst}
use Rattle.std.proofs.lemmas.List.{length-map}
use Rattle.ls_text.specs.declared.fault.Fault.{Fault}
use Rattle.ls_text.specs.declared.place.Place.{Place}
use Rattle.ls_text.specs.declared.refusal.Refusal.{Refusal}
use Rattle.ls_text.specs.declared.refusal.Refusal.TheVariants as refusal
use Rattle.typed_ir.specs.declared.constant.Const.{Const}
use Rattle.verilog_ast.specs.declared.identifier.Identifier.{Identifier}
use Rattle.verilog_ast.specs.declared.plain_item.PlainItem.{PlainItem}
use Rattle.verilog_ast.specs.declared.plain_item.PlainItem.TheVariants as node
use Rattle.verilog_ast.specs.declared.generate_loop.Loop.{Loop}
use Rattle.verilog_ast.specs.declared.generate_item.Branch.{Branch}
use Rattle.verilog_ast.specs.declared.generate_item.GenerateItem.{GenerateItem}
use Rattle.verilog_ast.specs.declared.generate_item.GenerateItem.TheVariants as g
use Rattle.verilog_ast.specs.Items.{ModuleItem, LoopHead}
use Rattle.verilog_ast.specs.Views.{plain_item_of, head_of, generate_item_of, branch_of, items_of}
use Rattle.verilog_ast.proofs.Seen.{plain_seen, loop_seen, branches_seen}
use Rattle.width_rules.specs.Scopes.{Scope}
use Rattle.gen_unroll.specs.declared.walk.Walk.{Walk}
use Rattle.gen_unroll.specs.Steps.{LoopTurn, ModuleStep, Labelled, Opened, Closed}
use Rattle.gen_unroll.specs.Told.{Told, ◌>>=◌, done, say, quiet}
use Rattle.gen_unroll.specs.Unrolled.{State, each, loop_turns, labelled, inside, outside, block_with, turn_with, loop_with, taken_with, plain, unrolled, chosen}
use Rattle.gen_unroll.specs.Values.{ConstantValue, constant_of}
use Rattle.gen_unroll.specs.Views.{Comes, Goes, steps_of, state_of}
use Rattle.gen_unroll.proofs.Comings.{then_goes, stop_goes, say_goes, say_then}

-- what was told, and then what goes on
pub goes_through : (old mid new : Walk) (result : Result (Unit {0}) Refusal) (s : State) (t : Told State) (f : State → Told State)
    → Comes (steps_of old) (steps_of mid) (Ok s) t → Goes mid new result (f s) → Goes old new result (t >>= f)
goes_through old mid new (Ok x) s t f first next = then_goes (steps_of old) (steps_of mid) (steps_of new) s t f (Ok (state_of new)) first next
goes_through old mid new (Err (refusal.Fault e)) s t f first next = then_goes (steps_of old) (steps_of mid) (steps_of new) s t f (Err e) first next
goes_through old mid new (Err refusal.NoMemory) s t f first next = tt

-- nothing was told before
pub goes_from : (old mid new : Walk) (result : Result (Unit {0}) Refusal) (t u : Told State)
    → steps_of mid ≡ steps_of old → t ≡ u → Goes mid new result u → Goes old new result t
goes_from old mid new (Ok x) t u same is next =
    subst (λ (zs : List ModuleStep). Comes zs (steps_of new) (Ok (state_of new)) t) same (subst (Comes (steps_of mid) (steps_of new) (Ok (state_of new))) (sym is) next)
goes_from old mid new (Err (refusal.Fault e)) t u same is next =
    subst (λ (zs : List ModuleStep). Comes zs (steps_of new) (Err e) t) same (subst (Comes (steps_of mid) (steps_of new) (Err e)) (sym is) next)
goes_from old mid new (Err refusal.NoMemory) t u same is next = tt

-- the same under another name
pub goes_as : (old new : Walk) (result : Result (Unit {0}) Refusal) (t u : Told State) → t ≡ u → Goes old new result u → Goes old new result t
goes_as old new result t u is next = goes_from old old new result t u refl is next

-- nothing is told at all
pub nothing_told : (old mid : List ModuleStep) (s t : State) (whole : Told State) → mid ≡ old → s ≡ t → whole ≡ done t → Comes old mid (Ok s) whole
nothing_told old mid s t whole same is end = record {
  says = same ∙ sym (append-nil old) ∙ ap (λ (r : Told State). old ++ r.said) (sym end);
  ends = ap (λ (r : Told State). r.ending) end ∙ ap Ok (sym is);
}

-- a loop: its turns are counted, its label is told, and then its blocks
pub loop_through : (old mid new : Walk) (result : Result (Unit {0}) Refusal) (run : Option ℕ → State → Told State) (items : ModuleItem) (at : Place) (h : LoopHead)
    (label : Identifier) (here : Option ℕ) (vs : List ConstantValue)
    → loop_turns at h (state_of old).scope (state_of old).left ≡ Ok vs
    → steps_of mid ≡ steps_of old ++ Labelled label ∷ []
    → state_of mid ≡ labelled label (record (state_of old) { left = (state_of old).left - length vs })
    → Goes mid new result (each (turn_with run items h.start.name label here) vs (state_of mid))
    → Goes old new result (loop_with run items at h label here (state_of old))
loop_through old mid new result run items at h label here vs counted said is next =
    goes_as old new result (loop_with run items at h label here (state_of old))
    (say (Labelled label) (labelled label (record (state_of old) { left = (state_of old).left - length vs })) >>= λ next. each (turn_with run items h.start.name label here) vs next)
    (ap (λ (r : Result (List ConstantValue) Fault). quiet r >>= λ vs. say (Labelled label) (labelled label (record (state_of old) { left = (state_of old).left - length vs })) >>= λ next. each (turn_with run items h.start.name label here) vs next) counted)
    (goes_through old mid new result (state_of mid) (say (Labelled label) (labelled label (record (state_of old) { left = (state_of old).left - length vs })))
    (λ next. each (turn_with run items h.start.name label here) vs next)
    (say_goes (steps_of old) (steps_of mid) (Labelled label) (state_of mid) (labelled label (record (state_of old) { left = (state_of old).left - length vs })) said is) next)

-- the names are as before, and so many turns are gone
pub turns_gone : (label : Identifier) (st : State) (scope : Scope) (vs : List Const) (n : ℕ) → scope ≡ st.scope → n ≡ length vs
    → labelled label (record st { scope = scope; left = st.left - n }) ≡ labelled label (record st { left = st.left - length (map constant_of vs) })
turns_gone label st scope vs n is many =
    ap (λ (s : Scope). labelled label (record st { scope = s; left = st.left - n })) is
    ∙ ap (λ (n : ℕ). labelled label (record st { left = st.left - n })) (many ∙ sym (length-map vs constant_of))

-- a branch that is taken
pub taken_through : (old mid new : Walk) (result : Result (Unit {0}) Refusal) (run : Option ℕ → State → Told State) (items : ModuleItem)
    (label : Identifier) (here : Option ℕ)
    → steps_of mid ≡ steps_of old ++ Labelled label ∷ [] → state_of mid ≡ labelled label (state_of old)
    → Goes mid new result (block_with run items here label None (state_of mid))
    → Goes old new result (taken_with run items label here (state_of old))
taken_through old mid new result run items label here said is next =
    goes_through old mid new result (state_of mid) (say (Labelled label) (labelled label (state_of old))) (λ next. block_with run items here label None next)
    (say_goes (steps_of old) (steps_of mid) (Labelled label) (state_of mid) (labelled label (state_of old)) said is) next

-- a block: it is opened, its items are told with its number, it is closed, and the names outside come back
pub block_goes : (run : Option ℕ → State → Told State) (items : ModuleItem) (here : Option ℕ) (label : Identifier) (turn : Option LoopTurn)
    (st within end out : State) (old mid mids new : List ModuleStep) (number : ℕ)
    → number ≡ st.opened
    → mid ≡ old ++ Opened (record { number = st.opened; parent = here; label = label; turn = turn }) items ∷ []
    → within ≡ inside turn items st → Comes mid mids (Ok end) (run (Some number) within)
    → new ≡ mids ++ Closed ∷ [] → out ≡ outside st end
    → Comes old new (Ok out) (block_with run items here label turn st)
block_goes run items here label turn st within end out old mid mids new number is said in_is next closed out_is =
    say_then old mid new (Opened (record { number = st.opened; parent = here; label = label; turn = turn }) items) within (inside turn items st)
    (λ within. run (Some st.opened) within >>= λ end. say Closed (outside st end)) (Ok out) said in_is
    (then_goes mid mids new end (run (Some st.opened) within) (λ end. say Closed (outside st end)) (Ok out)
    (subst (λ (n : ℕ). Comes mid mids (Ok end) (run (Some n) within)) is next)
    (say_goes mids new Closed out (outside st end) closed out_is))

pub block_refused : (run : Option ℕ → State → Told State) (items : ModuleItem) (here : Option ℕ) (label : Identifier) (turn : Option LoopTurn)
    (old mid new : Walk) (number : ℕ) (r : Refusal)
    → number ≡ (state_of old).opened
    → steps_of mid ≡ steps_of old ++ Opened (record { number = (state_of old).opened; parent = here; label = label; turn = turn }) items ∷ []
    → state_of mid ≡ inside turn items (state_of old) → Goes mid new (Err r) (run (Some number) (state_of mid))
    → Goes old new (Err r) (block_with run items here label turn (state_of old))
block_refused run items here label turn old mid new number refusal.NoMemory is said in_is next = tt
block_refused run items here label turn old mid new number (refusal.Fault e) is said in_is next =
    say_then (steps_of old) (steps_of mid) (steps_of new) (Opened (record { number = (state_of old).opened; parent = here; label = label; turn = turn }) items) (state_of mid) (inside turn items (state_of old))
    (λ within. run (Some (state_of old).opened) within >>= λ end. say Closed (outside (state_of old) end)) (Err e) said in_is
    (stop_goes (steps_of mid) (steps_of new) (run (Some (state_of old).opened) (state_of mid)) (λ end. say Closed (outside (state_of old) end)) e
    (subst (λ (n : ℕ). Comes (steps_of mid) (steps_of new) (Err e) (run (Some n) (state_of mid))) is next))

-- ---- items

pub plain_is : (x : PlainItem) (here : Option ℕ) (st : State) → unrolled (plain_item_of x) here st ≡ plain (plain_item_of x) st
unfolding unrolled
plain_is (node.Wire at x ys) here st = refl
plain_is (node.Reg at x ys) here st = refl
plain_is (node.LocalParameter at x ys) here st = refl
plain_is (node.Genvar at xs) here st = refl
plain_is (node.Assign at xs) here st = refl
plain_is (node.Combinational at x) here st = refl
plain_is (node.Clocked at n x) here st = refl
plain_is (node.Instances n x ys) here st = refl

pub item_plain : (x : PlainItem) (here : Option ℕ) (st : State) → unrolled (generate_item_of (g.Plain x)) here st ≡ plain (plain_item_of x) st
item_plain x here st = ap (λ (y : ModuleItem). unrolled y here st) (plain_seen x) ∙ plain_is x here st

pub item_loop : (at : Place) (h : Loop) (label : Identifier) (xs : List GenerateItem) (here : Option ℕ) (st : State)
    → unrolled (generate_item_of (g.For at h label xs)) here st
    ≡ loop_with (unrolled (items_of (map generate_item_of xs))) (items_of (map generate_item_of xs)) at (head_of h) label here st
unfolding unrolled
item_loop at h label xs here st = ap (λ (y : ModuleItem). unrolled y here st) (loop_seen at h label xs)

pub item_if : (xs : List Branch) (here : Option ℕ) (st : State) → unrolled (generate_item_of (g.If xs)) here st ≡ chosen (items_of (map branch_of xs)) here st
unfolding unrolled
item_if xs here st = ap (λ (y : ModuleItem). unrolled y here st) (branches_seen xs)
