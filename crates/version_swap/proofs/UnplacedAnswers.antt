-- Steps of which the first with a fault gives it, without places.
use Rattle.std.proofs.Common.{◌≡◌, Bool, true, false, if◌then◌else◌, List, [], ◌∷◌, map, Result, Ok, Err, ◌∙◌, refl, ap, ap₂}
use Rattle.ls_text.specs.declared.fault.Fault.{Fault}
use Rattle.ls_text.specs.Answers.{◌>>=◌}
use Rattle.gen_unroll.specs.Values.{unless}
use Rattle.version_swap.specs.UnplacedFindings.{fault_unplaced, found_unplaced, answer_unplaced}

-- ---- steps

found_moves : {A B : Type 0} (first : A → A) (second : B → B) (r : Result A Fault) (g h : A → Result B Fault)
    → ((x : A) → h (first x) ≡ found_unplaced second (g x)) → (found_unplaced first r >>= h) ≡ found_unplaced second (r >>= g)
found_moves first second (Ok x) g h next = next x
found_moves first second (Err e) g h next = refl

-- a step, and the next one
pub found_so : {A B : Type 0} (first : A → A) (second : B → B) (r q : Result A Fault) (g h : A → Result B Fault)
    → q ≡ found_unplaced first r → ((x : A) → h (first x) ≡ found_unplaced second (g x)) → (q >>= h) ≡ found_unplaced second (r >>= g)
found_so {A} {B} first second r q g h same next = ap (λ (p : Result A Fault). p >>= h) same ∙ found_moves first second r g h next

-- where the first gives a value without places
pub value_so : {A B : Type 0} (second : B → B) (r q : Result A Fault) (g h : A → Result B Fault)
    → q ≡ answer_unplaced r → ((x : A) → h x ≡ found_unplaced second (g x)) → (q >>= h) ≡ found_unplaced second (r >>= g)
value_so second r q g h same next = found_so (λ x. x) second r q g h same next

-- where both do
pub bind_so : {A B : Type 0} (r q : Result A Fault) (g h : A → Result B Fault) → q ≡ answer_unplaced r → ((x : A) → h x ≡ answer_unplaced (g x))
    → (q >>= h) ≡ answer_unplaced (r >>= g)
bind_so r q g h same next = found_so (λ x. x) (λ x. x) r q g h same next

-- ---- tests

pub if_answer : {A : Type 0} (b : Bool) (p q r s : Result A Fault) → p ≡ answer_unplaced r → q ≡ answer_unplaced s
    → (if b then p else q) ≡ answer_unplaced (if b then r else s)
if_answer true p q r s first second = first
if_answer false p q r s first second = second

-- ---- the first of some faults

unless_moves : {A : Type 0} (moved : A → A) (xs : List Fault) (x : A) → unless (map fault_unplaced xs) (moved x) ≡ found_unplaced moved (unless xs x)
unless_moves moved [] x = refl
unless_moves moved (e ∷ es) x = refl

pub unless_so : {A : Type 0} (xs ys : List Fault) (x y : A) → ys ≡ map fault_unplaced xs → y ≡ x → unless ys y ≡ answer_unplaced (unless xs x)
unless_so {A} xs ys x y faults values = ap₂ (λ (zs : List Fault) (z : A). unless zs z) faults values ∙ unless_moves (λ z. z) xs x
