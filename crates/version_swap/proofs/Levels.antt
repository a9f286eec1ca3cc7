-- Steps within blocks: which blocks are open behind them, and what stands outside of all.
use Rattle.std.proofs.Common.{◌≡◌, ℕ, zero, suc, ◌-◌, ◌==◌, ◌&&◌, List, [], ◌∷◌, ◌++◌, map, Option, Some, append_assoc, refl, sym, ◌∙◌, ap, ap₂}
use Rattle.std.proofs.Math.Bool.{and_assoc}
use Rattle.typed_ir.specs.declared.constant.Const.{Const}
use Rattle.gen_unroll.specs.declared.parameter_sort.ParameterSort.{ParameterSort}
use Rattle.gen_unroll.specs.declared.parameter_sort.ParameterSort.TheVariants as sort
use Rattle.gen_unroll.specs.Overriding.{override_if, overrides_of}
use Rattle.gen_unroll.specs.Steps.{ModuleStep, Port, Parameter, Item, Opened, Closed}
use Rattle.gen_unroll.specs.Values.{ConstantValue, constant_of}
use Rattle.version_swap.specs.Outer.{outer_values, is_item_outside, are_ports_outside}

-- how many blocks are open behind steps, from so many on
abbrev pub blocks_behind : ℕ → List ModuleStep → ℕ
blocks_behind n [] = n
blocks_behind n (Opened b items ∷ steps) = blocks_behind (suc n) steps
blocks_behind n (Closed ∷ steps) = blocks_behind (n - 1) steps
blocks_behind n (other ∷ steps) = blocks_behind n steps

abbrev outer_sort : ℕ → ParameterSort → List ParameterSort
outer_sort zero s = s ∷ []
outer_sort (suc n) s = []

-- the sorts of the parameters outside of blocks
abbrev pub outer_sorts : ℕ → List ModuleStep → List ParameterSort
outer_sorts n [] = []
outer_sorts n (Parameter s x v ∷ steps) = outer_sort n s ++ outer_sorts n steps
outer_sorts n (Opened b items ∷ steps) = outer_sorts (suc n) steps
outer_sorts n (Closed ∷ steps) = outer_sorts (n - 1) steps
outer_sorts n (other ∷ steps) = outer_sorts n steps

abbrev value_if : ParameterSort → ConstantValue → List (Option ConstantValue)
value_if sort.Overridable v = Some v ∷ []
value_if sort.Local v = []

abbrev outer_override : ℕ → ParameterSort → ConstantValue → List (Option ConstantValue)
outer_override zero s v = value_if s v
outer_override (suc n) s v = []

-- the values of those that can be overridden
abbrev pub outer_overrides : ℕ → List ModuleStep → List (Option ConstantValue)
outer_overrides n [] = []
outer_overrides n (Parameter s x v ∷ steps) = outer_override n s v ++ outer_overrides n steps
outer_overrides n (Opened b items ∷ steps) = outer_overrides (suc n) steps
outer_overrides n (Closed ∷ steps) = outer_overrides (n - 1) steps
outer_overrides n (other ∷ steps) = outer_overrides n steps

-- ---- steps, and then more

pub more_blocks : (n : ℕ) (xs ys : List ModuleStep) → blocks_behind n (xs ++ ys) ≡ blocks_behind (blocks_behind n xs) ys
more_blocks n [] ys = refl
more_blocks n (Opened b items ∷ xs) ys = more_blocks (suc n) xs ys
more_blocks n (Closed ∷ xs) ys = more_blocks (n - 1) xs ys
more_blocks n (other ∷ xs) ys = more_blocks n xs ys

pub more_sorts : (n : ℕ) (xs ys : List ModuleStep) → outer_sorts n (xs ++ ys) ≡ outer_sorts n xs ++ outer_sorts (blocks_behind n xs) ys
more_sorts n [] ys = refl
more_sorts n (Parameter s x v ∷ xs) ys =
    ap (λ (zs : List ParameterSort). outer_sort n s ++ zs) (more_sorts n xs ys)
    ∙ sym (append_assoc (outer_sort n s) (outer_sorts n xs) (outer_sorts (blocks_behind n xs) ys))
more_sorts n (Opened b items ∷ xs) ys = more_sorts (suc n) xs ys
more_sorts n (Closed ∷ xs) ys = more_sorts (n - 1) xs ys
more_sorts n (other ∷ xs) ys = more_sorts n xs ys

pub more_overrides : (n : ℕ) (xs ys : List ModuleStep)
    → outer_overrides n (xs ++ ys) ≡ outer_overrides n xs ++ outer_overrides (blocks_behind n xs) ys
more_overrides n [] ys = refl
more_overrides n (Parameter s x v ∷ xs) ys =
    ap (λ (zs : List (Option ConstantValue)). outer_override n s v ++ zs) (more_overrides n xs ys)
    ∙ sym (append_assoc (outer_override n s v) (outer_overrides n xs) (outer_overrides (blocks_behind n xs) ys))
more_overrides n (Opened b items ∷ xs) ys = more_overrides (suc n) xs ys
more_overrides n (Closed ∷ xs) ys = more_overrides (n - 1) xs ys
more_overrides n (other ∷ xs) ys = more_overrides n xs ys

pub more_ports : (n : ℕ) (xs ys : List ModuleStep)
    → are_ports_outside n (xs ++ ys) ≡ (are_ports_outside n xs && are_ports_outside (blocks_behind n xs) ys)
more_ports n [] ys = refl
more_ports n (Port p ∷ xs) ys =
    ap (λ b. (n == 0) && b) (more_ports n xs ys) ∙ sym (and_assoc (n == 0) (are_ports_outside n xs) (are_ports_outside (blocks_behind n xs) ys))
more_ports n (Item x ∷ xs) ys =
    ap (λ b. is_item_outside n x && b) (more_ports n xs ys)
    ∙ sym (and_assoc (is_item_outside n x) (are_ports_outside n xs) (are_ports_outside (blocks_behind n xs) ys))
more_ports n (Opened b items ∷ xs) ys = more_ports (suc n) xs ys
more_ports n (Closed ∷ xs) ys = more_ports (n - 1) xs ys
more_ports n (other ∷ xs) ys = more_ports n xs ys

-- ---- the overrides that values give

abbrev overrides_among : List ParameterSort → List ConstantValue → List (Option ConstantValue)
overrides_among [] vs = []
overrides_among (s ∷ ss) [] = []
overrides_among (s ∷ ss) (v ∷ vs) = value_if s v ++ overrides_among ss vs

one_given : (s : ParameterSort) (c : Const) → override_if s c ≡ value_if s (constant_of c)
one_given sort.Overridable c = refl
one_given sort.Local c = refl

all_given : (ss : List ParameterSort) (cs : List Const) → overrides_of ss cs ≡ overrides_among ss (map constant_of cs)
all_given [] cs = refl
all_given (s ∷ ss) [] = refl
all_given (s ∷ ss) (c ∷ cs) = ap₂ (λ (xs ys : List (Option ConstantValue)). xs ++ ys) (one_given s c) (all_given ss cs)

same_overrides : (n : ℕ) (steps : List ModuleStep) → overrides_among (outer_sorts n steps) (outer_values n steps) ≡ outer_overrides n steps
same_overrides n [] = refl
same_overrides zero (Parameter s x v ∷ steps) = ap (λ (zs : List (Option ConstantValue)). value_if s v ++ zs) (same_overrides zero steps)
same_overrides (suc n) (Parameter s x v ∷ steps) = same_overrides (suc n) steps
same_overrides n (Opened b items ∷ steps) = same_overrides (suc n) steps
same_overrides n (Closed ∷ steps) = same_overrides (n - 1) steps
same_overrides n (other ∷ steps) = same_overrides n steps

-- the values of all parameters outside of blocks override those that can be
pub overrides_are : (n : ℕ) (steps : List ModuleStep) (cs : List Const) → map constant_of cs ≡ outer_values n steps
    → overrides_of (outer_sorts n steps) cs ≡ outer_overrides n steps
overrides_are n steps cs is =
    all_given (outer_sorts n steps) cs ∙ ap (overrides_among (outer_sorts n steps)) is ∙ same_overrides n steps
