-- What is told under other names, step after step.
use Rattle.std.proofs.Common.{◌≡◌, List, [], ◌∷◌, ◌++◌, map, Some, Result, Ok, Err, refl, sym, ◌∙◌, ap, subst}
use Rattle.std.proofs.lemmas.List.{map-append}
use Rattle.std.specs.Option.{option_map}
use Rattle.ls_text.specs.declared.fault.Fault.{Fault}
use Rattle.ls_text.specs.declared.name_id.NameId.{NameId}
use Rattle.width_rules.specs.Renaming.{MeansSame, fault_as}
use Rattle.width_rules.specs.Scopes.{Scope}
use Rattle.gen_unroll.specs.Steps.{ModuleStep, GenerateBlock, Listed, Port, Parameter, Item, Labelled, Opened, Closed, blocks_in}
use Rattle.gen_unroll.specs.Told.{Told, go_on, ◌>>=◌, done, say, say_all, quiet, fault_in}
use Rattle.gen_unroll.specs.Unrolled.{State, each}
use Rattle.elaborate.specs.Renaming.{answer_as, block_as, step_as}

-- ---- states

-- the same state with other names in reach
abbrev pub under : Scope → State → State
under scope st = record st { scope = scope }

-- the names in reach mean the same, and all else is the same
pub record SameState (f : NameId → NameId) (st after : State) : Type 0 where
  pub names : MeansSame f st.scope after.scope
  pub rest : after ≡ under after.scope st

abbrev pub SameEnd : (NameId → NameId) → Result State Fault → Result State Fault → Type 0
SameEnd f (Ok st) (Ok after) = SameState f st after
SameEnd f (Ok st) (Err e) = ⊥
SameEnd f (Err e) (Ok st) = ⊥
SameEnd f (Err e) (Err d) = d ≡ fault_as f e

-- the same steps under other names, and the same end
pub record SameTold (f : NameId → NameId) (t u : Told State) : Type 0 where
  pub says : u.said ≡ map (step_as f) t.said
  pub ends : SameEnd f t.ending u.ending

-- what goes on from a state tells the same from one that is the same
abbrev pub Follows : (NameId → NameId) → (State → Told State) → (State → Told State) → Type 0
Follows f g h = (st : State) (scope : Scope) → MeansSame f st.scope scope → SameTold f (g st) (h (under scope st))

-- ---- steps

from_state : (f : NameId → NameId) (st after : State) (g h : State → Told State) → SameState f st after → Follows f g h → SameTold f (g st) (h after)
from_state f st after g h same next = subst (λ (s : State). SameTold f (g st) (h s)) (sym same.rest) (next st after.scope same.names)

joined_so : (f : NameId → NameId) (said : List ModuleStep) (t u : Told State) → SameTold f t u
    → SameTold f (record { said = said ++ t.said; ending = t.ending }) (record { said = map (step_as f) said ++ u.said; ending = u.ending })
joined_so f said t u same = record {
  says = ap (λ (zs : List ModuleStep). map (step_as f) said ++ zs) same.says ∙ sym (map-append (step_as f) said t.said);
  ends = same.ends;
}

go_on_so : (f : NameId → NameId) (said : List ModuleStep) (r q : Result State Fault) (g h : State → Told State) → SameEnd f r q → Follows f g h
    → SameTold f (go_on said r g) (go_on (map (step_as f) said) q h)
go_on_so f said (Ok st) (Ok after) g h same next = joined_so f said (g st) (h after) (from_state f st after g h same next)
go_on_so f said (Ok st) (Err e) g h same next = absurd same
go_on_so f said (Err e) (Ok st) g h same next = absurd same
go_on_so f said (Err e) (Err d) g h same next = record { says = refl; ends = same }

-- a step, and what follows it
pub step_so : (f : NameId → NameId) (t u : Told State) (g h : State → Told State) → SameTold f t u → Follows f g h → SameTold f (t >>= g) (u >>= h)
step_so f t u g h first next =
    subst (λ (zs : List ModuleStep). SameTold f (t >>= g) (go_on zs u.ending h)) (sym first.says) (go_on_so f t.said t.ending u.ending g h first.ends next)

quiet_moves : {A : Type 0} (f : NameId → NameId) (r : Result A Fault) (g h : A → Told State) → ((x : A) → SameTold f (g x) (h x))
    → SameTold f (quiet r >>= g) (quiet (answer_as f r) >>= h)
quiet_moves f (Ok x) g h next = joined_so f [] (g x) (h x) (next x)
quiet_moves f (Err e) g h next = record { says = refl; ends = refl }

-- a value without names, which tells nothing
pub quiet_so : {A : Type 0} (f : NameId → NameId) (r q : Result A Fault) (g h : A → Told State) → q ≡ answer_as f r → ((x : A) → SameTold f (g x) (h x))
    → SameTold f (quiet r >>= g) (quiet q >>= h)
quiet_so {A} f r q g h same next =
    subst (λ (p : Result A Fault). SameTold f (quiet r >>= g) (quiet p >>= h)) (sym same) (quiet_moves f r g h next)

pub done_so : (f : NameId → NameId) (st : State) (scope : Scope) → MeansSame f st.scope scope → SameTold f (done st) (done (under scope st))
done_so f st scope same = record { says = refl; ends = record { names = same; rest = refl } }

-- some steps
pub said_so : (f : NameId → NameId) (steps more : List ModuleStep) (st : State) (scope : Scope) → more ≡ map (step_as f) steps → MeansSame f st.scope scope
    → SameTold f (say_all steps st) (say_all more (under scope st))
said_so f steps more st scope is same = record { says = is; ends = record { names = same; rest = refl } }

-- one step
pub say_so : (f : NameId → NameId) (step : ModuleStep) (st : State) (scope : Scope) → MeansSame f st.scope scope
    → SameTold f (say step st) (say (step_as f step) (under scope st))
say_so f step st scope same = record { says = refl; ends = record { names = same; rest = refl } }

-- one after another
pub each_so : {A : Type 0} (f : NameId → NameId) (moved : A → A) (step steps : A → State → Told State) → ((x : A) → Follows f (step x) (steps (moved x)))
    → (xs : List A) → Follows f (each step xs) (each steps (map moved xs))
each_so f moved step steps is [] st scope same = done_so f st scope same
each_so f moved step steps is (x ∷ xs) st scope same =
    step_so f _ _ _ _ (is x st scope same) (each_so f moved step steps is xs)

-- ---- what stands in what is told

pub same_blocks : (f : NameId → NameId) (steps : List ModuleStep) → blocks_in (map (step_as f) steps) ≡ map (block_as f) (blocks_in steps)
same_blocks f [] = refl
same_blocks f (Listed n ∷ steps) = same_blocks f steps
same_blocks f (Port p ∷ steps) = same_blocks f steps
same_blocks f (Parameter s n v ∷ steps) = same_blocks f steps
same_blocks f (Item x ∷ steps) = same_blocks f steps
same_blocks f (Labelled n ∷ steps) = same_blocks f steps
same_blocks f (Opened b items ∷ steps) = ap (λ (bs : List GenerateBlock). block_as f b ∷ bs) (same_blocks f steps)
same_blocks f (Closed ∷ steps) = same_blocks f steps

pub same_fault : (f : NameId → NameId) (r q : Result State Fault) → SameEnd f r q → fault_in q ≡ option_map (fault_as f) (fault_in r)
same_fault f (Ok st) (Ok after) same = refl
same_fault f (Ok st) (Err e) same = absurd same
same_fault f (Err e) (Ok st) same = absurd same
same_fault f (Err e) (Err d) same = ap Some same
