-- Runs stretch by stretch, and the names of inputs.
use Rattle.std.proofs.Common.{◌≡◌, ℕ, zero, suc, ◌+◌, ◌-◌, ◌<◌, ◌≤◌, List, [], ◌∷◌, ◌++◌, length, map, take, drop, get_or, Some, cond, refl, sym, ◌∙◌, ap, arith, add-zero}
use Rattle.std.specs.Prelude.{slice_index}
use Rattle.std.proofs.lemmas.Bool.{eq-eqb, ne_eqb}
use Rattle.machine.specs.Rows.{between}
use Rattle.typed_ir.specs.declared.flat.Flat.{Flat as Flat'}
use Rattle.typed_ir.specs.declared.instance_name.InstanceName.{InstanceName}
use Rattle.typed_ir.specs.declared.signal.Signal.{Signal as Signal'}
use Rattle.typed_ir.specs.Cycles.{Signal, Flat, input, seg, step, width_at}
use Rattle.typed_ir.specs.Flats.{signal_of}
use Rattle.typed_ir.specs.Linkeds.{flat}
use Rattle.typed_ir.specs.Orders.{at_or}
use Rattle.typed_ir.specs.Paths.{paths_of}
use Rattle.typed_ir.proofs.Lists.{drop_split}
use Rattle.cycle_eval.specs.DesignLaws.{driven_first}
use Rattle.cycle_eval.specs.Inputs.{own_name, name_at, row_values, width_among}
use Rattle.cycle_eval.specs.Kits.{driven}
use Rattle.cycle_eval.specs.Paths.{name_in}

-- ---- names

own_last : (path : List ℕ) (name : ℕ) → own_name (path ++ name ∷ []) ≡ name
own_last [] name = refl
own_last (x ∷ []) name = refl
own_last (x ∷ y ∷ ys) name = own_last (y ∷ ys) name

named : (rows : List InstanceName) (xs : List Signal') (s : ℕ)
    → at_or (λ (x : Signal). own_name x.path) 0 (map (signal_of rows) xs) s ≡ name_in xs s
named rows [] s = refl
named rows (x ∷ xs) zero = own_last (get_or (paths_of rows) x.instance []) x.name.0
named rows (x ∷ xs) (suc s) = named rows xs s

-- the own name of a signal of a flat design is the name that the signal has
pub name_is : (f : Flat') (s : ℕ) → name_at (flat f) s ≡ name_in f.signals.items s
name_is f s = named f.instances.rows.items f.signals.items s

-- the name of a signal that was read
pub signal_name : (xs : List Signal') (s : ℕ) (x : Signal') → s < length xs → (get_or xs s x).name.0 ≡ name_in xs s
signal_name [] s x h = absurd (omega (arith, h))
signal_name (y ∷ ys) zero x h = refl
signal_name (y ∷ ys) (suc s) x h = signal_name ys s x (omega (arith, h))

-- the width of a signal that was read
pub signal_width : (f : Flat') (s : ℕ) (x : Signal') → s < length f.signals.items → x ≡ get_or f.signals.items s x → x.width ≡ width_at (flat f) s
signal_width f s x h is = go f.signals.items s h is
  where
    go : (xs : List Signal') (s : ℕ) → s < length xs → x ≡ get_or xs s x
        → x.width ≡ slice_index (map (λ (y : Signal). y.width) (map (signal_of f.instances.rows.items) xs)) s
    go [] s h is = absurd (omega (arith, h))
    go (y ∷ ys) zero h is = ap (λ (z : Signal'). z.width) is
    go (y ∷ ys) (suc s) h is = go ys s (omega (arith, h)) is

pub read_name : (f : Flat') (s : ℕ) (x : Signal') → s < length f.signals.items → x ≡ get_or f.signals.items s x → x.name.0 ≡ name_at (flat f) s
read_name f s x h is = ap (λ (z : Signal'). z.name.0) is ∙ signal_name f.signals.items s x h ∙ sym (name_is f s)

-- ---- the width of an input

-- one more input whose name is another
pub width_step : (design : Flat) (ss : List ℕ) (i name : ℕ) → i < length ss → (name_at design (get_or ss i 0) ≡ name → ⊥)
    → width_among design (drop i ss) name ≡ width_among design (drop (i + 1) ss) name
width_step design ss i name h other =
    ap (λ zs. width_among design zs name) (drop_split ss i 0 h)
    ∙ ap (λ t. cond t (Some (width_at design (get_or ss i 0))) (width_among design (drop (i + 1) ss) name)) (ne_eqb (name_at design (get_or ss i 0)) name other)

-- the first one of that name
pub width_here : (design : Flat) (ss : List ℕ) (i name : ℕ) → i < length ss → name_at design (get_or ss i 0) ≡ name
    → width_among design (drop i ss) name ≡ Some (width_at design (get_or ss i 0))
width_here design ss i name h same =
    ap (λ zs. width_among design zs name) (drop_split ss i 0 h)
    ∙ ap (λ t. cond t (Some (width_at design (get_or ss i 0))) (width_among design (drop (i + 1) ss) name)) (eq-eqb (name_at design (get_or ss i 0)) name same)

-- ---- stretches

-- so many cycles under the row of a stretch, and then the rest
pub driven_stretch : (design : Flat) (rows : ℕ × List (List (ℕ × ℕ))) (row : List (ℕ × ℕ)) (at end b n : ℕ) (values : List ℕ)
    → ((t : ℕ) → at ≤ t → t < end → between rows t b ≡ row ∷ between rows (t + 1) b) → at + n ≤ end
    → driven design (between rows (at + n) b) (seg design (λ t. row_values design row) 0 n values) ≡ driven design (between rows at b) values
driven_stretch design rows row at end b zero values same le = ap (λ t. driven design (between rows t b) values) (add-zero at)
driven_stretch design rows row at end b (suc n) values same le =
    let now = seg design (λ t. row_values design row) 0 n values in
    let next = step design now (input design (row_values design row)) in
    let here : between rows (at + n) b ≡ row ∷ between rows (at + n + 1) b = same (at + n) (omega arith) (omega (arith, le)) in
    let place : at + suc n ≡ at + n + 1 = omega arith in
    ap (λ t. driven design (between rows t b) next) place
    ∙ sym (driven_first design row (between rows (at + n + 1) b) now)
    ∙ ap (λ xs. driven design xs now) (sym here)
    ∙ driven_stretch design rows row at end b n values same (omega (arith, le))

-- no row is left between a cycle and an earlier one
pub nothing_between : {R : Type 0} (rows : ℕ × List R) (a b : ℕ) → b ≤ a → between rows a b ≡ []
nothing_between rows a b le =
    let none : (b - rows.0) - (a - rows.0) ≡ 0 = omega (arith, le) in
    ap (λ n. take n (drop (a - rows.0) rows.1)) none
