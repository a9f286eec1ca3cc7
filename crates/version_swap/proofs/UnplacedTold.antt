-- What is told without places, step after step.
use Rattle.std.proofs.Common.{◌≡◌, Bool, true, false, if◌then◌else◌, List, [], ◌∷◌, ◌++◌, map, Result, Ok, Err, refl, sym, ◌∙◌, ap}
use Rattle.std.proofs.lemmas.List.{map-append}
use Rattle.ls_text.specs.declared.fault.Fault.{Fault}
use Rattle.gen_unroll.specs.Steps.{ModuleStep}
use Rattle.gen_unroll.specs.Told.{Told, go_on, ◌>>=◌, say, quiet}
use Rattle.gen_unroll.specs.Unrolled.{State, each}
use Rattle.version_swap.specs.UnplacedFindings.{answer_unplaced, step_unplaced, told_unplaced}

on_so : {A B : Type 0} (said : List ModuleStep) (r : Result A Fault) (g h : A → Told B) → ((x : A) → h x ≡ told_unplaced (g x))
    → go_on (map step_unplaced said) (answer_unplaced r) h ≡ told_unplaced (go_on said r g)
on_so {A} {B} said (Ok x) g h next =
    ap (λ (t : Told B). record { said = map step_unplaced said ++ t.said; ending = t.ending }) (next x)
    ∙ ap (λ (steps : List ModuleStep). record { said = steps; ending = answer_unplaced (g x).ending })
    (sym (map-append step_unplaced said (g x).said))
on_so said (Err e) g h next = refl

-- a step, and what follows it
pub step_so : {A B : Type 0} (t u : Told A) (g h : A → Told B) → u ≡ told_unplaced t → ((x : A) → h x ≡ told_unplaced (g x))
    → (u >>= h) ≡ told_unplaced (t >>= g)
step_so {A} t u g h same next = ap (λ (v : Told A). v >>= h) same ∙ on_so t.said t.ending g h next

-- one that is told, and what follows it
pub said_so : {A B : Type 0} (s : ModuleStep) (x y : A) (g h : A → Told B) → y ≡ x → ((z : A) → h z ≡ told_unplaced (g z))
    → (say (step_unplaced s) y >>= h) ≡ told_unplaced (say s x >>= g)
said_so s x y g h same next = step_so (say s x) (say (step_unplaced s) y) g h (ap (say (step_unplaced s)) same) next

-- what tells nothing
pub quiet_so : {A B : Type 0} (r q : Result A Fault) (g h : A → Told B) → q ≡ answer_unplaced r → ((x : A) → h x ≡ told_unplaced (g x))
    → (quiet q >>= h) ≡ told_unplaced (quiet r >>= g)
quiet_so r q g h same next = step_so (quiet r) (quiet q) g h (ap quiet same) next

-- one after another
pub each_so : {A : Type 0} (moved : A → A) (step steps : A → State → Told State)
    → ((x : A) (st : State) → steps (moved x) st ≡ told_unplaced (step x st))
    → (xs : List A) (st : State) → each steps (map moved xs) st ≡ told_unplaced (each step xs st)
each_so moved step steps is [] st = refl
each_so moved step steps is (x ∷ xs) st = step_so _ _ _ _ (is x st) (λ next. each_so moved step steps is xs next)

pub if_told : {A : Type 0} (b : Bool) (t u v w : Told A) → t ≡ told_unplaced v → u ≡ told_unplaced w
    → (if b then t else u) ≡ told_unplaced (if b then v else w)
if_told true t u v w first second = first
if_told false t u v w first second = second
