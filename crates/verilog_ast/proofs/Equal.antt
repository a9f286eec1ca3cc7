-- A function of equal parts gives equal values, for three and four parts.
use Rattle.std.proofs.Common.{◌≡◌}

pub ap₃ : {A B C D : Type 0} {x y : A} {u v : B} {m n : C} (f : A → B → C → D) → x ≡ y → u ≡ v → m ≡ n → f x u m ≡ f y v n
ap₃ f a b c = cc

pub ap₄ : {A B C D E : Type 0} {x y : A} {u v : B} {m n : C} {i j : D} (f : A → B → C → D → E) → x ≡ y → u ≡ v → m ≡ n → i ≡ j
    → f x u m i ≡ f y v n j
ap₄ f a b c d = cc
