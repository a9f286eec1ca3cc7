-- Steps of which the first with a fault gives it, under other names.
use Rattle.std.proofs.Common.{◌≡◌, Bool, true, false, if◌then◌else◌, Result, Ok, Err, ◌∙◌, refl, ap}
use Rattle.ls_text.specs.declared.fault.Fault.{Fault}
use Rattle.ls_text.specs.declared.name_id.NameId.{NameId}
use Rattle.ls_text.specs.Answers.{◌>>=◌}
use Rattle.elaborate.specs.Renaming.{found_as, answer_as}

-- ---- steps

found_moves : {A B : Type 0} (f : NameId → NameId) (first : A → A) (second : B → B) (r : Result A Fault) (g h : A → Result B Fault)
    → ((x : A) → h (first x) ≡ found_as f second (g x)) → (found_as f first r >>= h) ≡ found_as f second (r >>= g)
found_moves f first second (Ok x) g h next = next x
found_moves f first second (Err e) g h next = refl

-- a step, and the next one, which is given what was found under other names
pub found_so : {A B : Type 0} (f : NameId → NameId) (first : A → A) (second : B → B) (r q : Result A Fault) (g h : A → Result B Fault)
    → q ≡ found_as f first r → ((x : A) → h (first x) ≡ found_as f second (g x)) → (q >>= h) ≡ found_as f second (r >>= g)
found_so {A} {B} f first second r q g h same next = ap (λ (p : Result A Fault). p >>= h) same ∙ found_moves f first second r g h next

-- where the first gives a value without names
pub value_so : {A B : Type 0} (f : NameId → NameId) (second : B → B) (r q : Result A Fault) (g h : A → Result B Fault)
    → q ≡ answer_as f r → ((x : A) → h x ≡ found_as f second (g x)) → (q >>= h) ≡ found_as f second (r >>= g)
value_so f second r q g h same next = found_so f (λ x. x) second r q g h same next

-- where the second does
pub plain_so : {A B : Type 0} (f : NameId → NameId) (first : A → A) (r q : Result A Fault) (g h : A → Result B Fault)
    → q ≡ found_as f first r → ((x : A) → h (first x) ≡ answer_as f (g x)) → (q >>= h) ≡ answer_as f (r >>= g)
plain_so f first r q g h same next = found_so f first (λ x. x) r q g h same next

-- where both do
pub bind_so : {A B : Type 0} (f : NameId → NameId) (r q : Result A Fault) (g h : A → Result B Fault) → q ≡ answer_as f r → ((x : A) → h x ≡ answer_as f (g x))
    → (q >>= h) ≡ answer_as f (r >>= g)
bind_so f r q g h same next = found_so f (λ x. x) (λ x. x) r q g h same next

-- ---- tests

if_moves : {A : Type 0} (f : NameId → NameId) (moved : A → A) (b : Bool) (p q r s : Result A Fault) → p ≡ found_as f moved r → q ≡ found_as f moved s
    → (if b then p else q) ≡ found_as f moved (if b then r else s)
if_moves f moved true p q r s first second = first
if_moves f moved false p q r s first second = second

-- a test that comes out alike
pub if_found : {A : Type 0} (f : NameId → NameId) (moved : A → A) (b c : Bool) (p q r s : Result A Fault) → b ≡ c → p ≡ found_as f moved r → q ≡ found_as f moved s
    → (if b then p else q) ≡ found_as f moved (if c then r else s)
if_found f moved b c p q r s same first second = ap (λ (d : Bool). if d then p else q) same ∙ if_moves f moved c p q r s first second

pub if_answer : {A : Type 0} (f : NameId → NameId) (b c : Bool) (p q r s : Result A Fault) → b ≡ c → p ≡ answer_as f r → q ≡ answer_as f s
    → (if b then p else q) ≡ answer_as f (if c then r else s)
if_answer f b c p q r s same first second = if_found f (λ x. x) b c p q r s same first second
