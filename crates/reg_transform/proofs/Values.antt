-- Old values by keys, and what new registers take of them.
use Rattle.std.proofs.Common.{◌≡◌, ℕ, ◌+◌, ◌%◌, ◌^◌, ◌<◌, ◌≤◌, zero, suc, nat_lt, Bool, ◌&&◌, ◌==◌, cond, List, [], ◌∷◌, ◌++◌, length, map, get_or, drop, IsTrue, append_assoc, refl, sym, ◌∙◌, ap, ap₂, subst}
use Rattle.std.specs.Prelude.{slice_get, slice_index, Option, Some}
use Rattle.std.proofs.Math.Path.{fun_ext}
use Rattle.std.proofs.lemmas.Bool.{ltb-true}
use Rattle.std.proofs.lemmas.List.{length-map}
use Rattle.std.proofs.lemmas.Option.{slice_get-map, same_Some, none-some}
use Rattle.std.specs.Option.{option_map}
use Rattle.bits.specs.declared.Bits.{Bits}
use Rattle.reg_ops.specs.declared.reg_op.RegOp.{RegOp}
use Rattle.typed_ir.specs.declared.instance_name.InstanceName.{InstanceName}
use Rattle.typed_ir.specs.declared.signal.Signal.{Signal}
use Rattle.typed_ir.specs.Flats.{are_below, are_within}
use Rattle.typed_ir.specs.Paths.{paths_of, same_path}
use Rattle.typed_ir.specs.States.{sized_value}
use Rattle.typed_ir.specs.Views.{widths}
use Rattle.typed_ir.proofs.Cases.{and_left, and_right}
use Rattle.state_layout.specs.Slots.{state_widths}
use Rattle.state_layout.specs.Words.{width_in}
use Rattle.reg_transform.specs.Beginnings.{initial_in}
use Rattle.reg_transform.specs.Carrying.{created, renamed, first_given, taken, value_of, carried_each}
use Rattle.reg_transform.specs.Found.{Key}
use Rattle.reg_transform.specs.Numbers.{number_at, value_by, carried_by}
use Rattle.reg_transform.specs.PathNumbers.{NumberPaths}
use Rattle.reg_transform.specs.Registers.{RegisterName, Register, called, is_same, widths_of}
use Rattle.reg_transform.specs.Regs.{register_of, register_at}
use Rattle.reg_transform.specs.States.{paired, state_values}
use Rattle.reg_transform.proofs.Elements.{dropped, at_signal}

abbrev pub pair : ℕ → ℕ → ℕ × ℕ
pair w x = (w, x)

-- a value of a state
pub got_value : (s : List (ℕ × ℕ)) (i w x : ℕ) → slice_get s i ≡ Some (w, x) → slice_get (state_values s) i ≡ Some x
got_value s i w x e = slice_get-map (λ (p : ℕ × ℕ). p.1) s i ∙ ap (option_map (λ (p : ℕ × ℕ). p.1)) e

-- ---- steps

-- one more register before the others
pub value_step : (ns : List ℕ) (rs : List Register) (xs : List ℕ) (i n : ℕ) (r : Register) (x : ℕ) (key : Key)
    → slice_get ns i ≡ Some n → slice_get rs i ≡ Some r → slice_get xs i ≡ Some x
    → value_by (drop i ns) (drop i rs) (drop i xs) key
    ≡ cond ((n == key.number) && is_same (called r) key.called) (Some x) (value_by (drop (i + 1) ns) (drop (i + 1) rs) (drop (i + 1) xs) key)
value_step ns rs xs i n r x key at_n at_r at_x =
    ap₂ (λ (ks : List ℕ) (bs : List Register). value_by ks bs (drop i xs) key) (dropped ns i n at_n) (dropped rs i r at_r)
    ∙ ap (λ cs. value_by (n ∷ drop (i + 1) ns) (r ∷ drop (i + 1) rs) cs key) (dropped xs i x at_x)

-- what a register of a key takes
abbrev pub taken_by : List RegOp → (Key → Option ℕ) → ℕ → Register → ℕ → ℕ
taken_by ops old n r i = taken ops (λ name. old (record { number = n; called = name })) (called r) i

pub taken_is : (ops : List RegOp) (old : Key → Option ℕ) (creates renames : RegisterName → Option ℕ) (m n : ℕ) (name : RegisterName) (r : Register) (i : ℕ)
    → m ≡ n → name ≡ called r → ((k : RegisterName) → creates k ≡ created ops k) → ((k : RegisterName) → renames k ≡ renamed ops k)
    → first_given (creates name) (renames name) (λ k. old (record { number = m; called = k })) name i ≡ taken_by ops old n r i
taken_is ops old creates renames m n name r i number is created_is renamed_is =
    ap₂ (λ (a : ℕ) (k : RegisterName). first_given (creates k) (renames k) (λ z. old (record { number = a; called = z })) k i) number is
    ∙ ap₂ (λ (c d : Option ℕ). first_given c d (λ z. old (record { number = n; called = z })) (called r) i) (created_is (called r)) (renamed_is (called r))

-- one more register written
pub carried_step : (ops : List RegOp) (old : Key → Option ℕ) (ns : List ℕ) (rs : List Register) (is : List ℕ) (j n : ℕ) (r : Register) (i : ℕ) (was now : List (ℕ × ℕ))
    → slice_get ns j ≡ Some n → slice_get rs j ≡ Some r → slice_get is j ≡ Some i → now ≡ was ++ (r.width, taken_by ops old n r i % 2 ^ r.width) ∷ []
    → now ++ carried_by ops old (drop (j + 1) ns) (drop (j + 1) rs) (drop (j + 1) is) ≡ was ++ carried_by ops old (drop j ns) (drop j rs) (drop j is)
carried_step ops old ns rs is j n r i was now at_n at_r at_i e =
    let rest = carried_by ops old (drop (j + 1) ns) (drop (j + 1) rs) (drop (j + 1) is) in
    ap (λ zs. zs ++ rest) e
    ∙ append_assoc was ((r.width, taken_by ops old n r i % 2 ^ r.width) ∷ []) rest
    ∙ sym (ap (λ zs. was ++ zs)
    (ap₂ (λ (ks : List ℕ) (bs : List Register). carried_by ops old ks bs (drop j is)) (dropped ns j n at_n) (dropped rs j r at_r)
    ∙ ap (λ cs. carried_by ops old (n ∷ drop (j + 1) ns) (r ∷ drop (j + 1) rs) cs) (dropped is j i at_i)))

-- ---- widths

-- the width of a register among those of all
pub width_got : (rs : List Register) (i : ℕ) (r : Register) → slice_get rs i ≡ Some r → get_or (widths_of rs) i 0 ≡ r.width
width_got [] i r e = absurd (none-some r e)
width_got (q ∷ qs) zero r e = ap (λ (x : Register). x.width) (same_Some q r e)
width_got (q ∷ qs) (suc i) r e = width_got qs i r e

-- a state has as many registers as it has widths
state_long : (s : List (ℕ × ℕ)) (paths : List (List ℕ)) (signals : List Signal) (ids : List ℕ)
    → state_widths s ≡ widths_of (map (register_at paths signals) ids) → length s ≡ length ids
state_long s paths signals ids e =
    sym (length-map s (λ (p : ℕ × ℕ). p.0)) ∙ ap length e ∙ length-map (map (register_at paths signals) ids) (λ (r : Register). r.width)
    ∙ length-map ids (register_at paths signals)

pub place_there : (s : List (ℕ × ℕ)) (paths : List (List ℕ)) (signals : List Signal) (ids : List ℕ) (i : ℕ)
    → state_widths s ≡ widths_of (map (register_at paths signals) ids) → i < length ids → i < length s
place_there s paths signals ids i e h = subst (λ n. i < n) (sym (state_long s paths signals ids e)) h

pub place_past : (s : List (ℕ × ℕ)) (paths : List (List ℕ)) (signals : List Signal) (ids : List ℕ) (i : ℕ)
    → state_widths s ≡ widths_of (map (register_at paths signals) ids) → length ids ≤ i → length s ≤ i
place_past s paths signals ids i e h = subst (λ n. n ≤ i) (sym (state_long s paths signals ids e)) h

-- the widths of values are those of their state
pub widths_same : (items : List Bits) → widths items ≡ state_widths (map sized_value items)
widths_same [] = refl
widths_same (b ∷ bs) = ap (λ ws. b.width ∷ ws) (widths_same bs)

-- the values of the beginning
pub begun_values : (signals : List Signal) (ids : List ℕ)
    → state_values (paired (map (width_in signals) ids) (map (initial_in signals) ids)) ≡ map (initial_in signals) ids
begun_values signals [] = refl
begun_values signals (s ∷ ss) = ap (λ xs. initial_in signals s ∷ xs) (begun_values signals ss)

-- ---- by keys and by paths

-- a register is found by its key as by its path
value_tied : (numbers : List ℕ) (paths : List (List ℕ)) (signals : List Signal) (ids xs : List ℕ) (n : ℕ) (p : List ℕ) (name : RegisterName)
    → ((s : ℕ) → s < length signals → (number_at numbers signals s == n) ≡ same_path (register_at paths signals s).path p) → IsTrue (are_below ids (length signals))
    → value_by (map (number_at numbers signals) ids) (map (register_at paths signals) ids) xs (record { number = n; called = name })
    ≡ value_of (map (register_at paths signals) ids) xs p name
value_tied numbers paths signals [] xs n p name same there = refl
value_tied numbers paths signals (s ∷ ss) [] n p name same there = refl
value_tied numbers paths signals (s ∷ ss) (x ∷ xs) n p name same there =
    let small : s < length signals = ltb-true s (length signals) (and_left (nat_lt s (length signals)) (are_below ss (length signals)) there) in
    ap₂ (λ (b : Bool) (o : Option ℕ). cond (b && is_same (called (register_at paths signals s)) name) (Some x) o) (same s small)
    (value_tied numbers paths signals ss xs n p name same (and_right (nat_lt s (length signals)) (are_below ss (length signals)) there))

-- all registers take the same
carried_tied : (ops : List RegOp) (by_key : Key → Option ℕ) (by_path : List ℕ → RegisterName → Option ℕ) (numbers : List ℕ) (paths : List (List ℕ)) (signals : List Signal) (ids is : List ℕ)
    → ((s : ℕ) → s < length signals → (name : RegisterName)
    → by_key (record { number = number_at numbers signals s; called = name }) ≡ by_path (register_at paths signals s).path name)
    → IsTrue (are_below ids (length signals))
    → carried_by ops by_key (map (number_at numbers signals) ids) (map (register_at paths signals) ids) is
    ≡ carried_each ops by_path (map (register_at paths signals) ids) is
carried_tied ops by_key by_path numbers paths signals [] is same there = refl
carried_tied ops by_key by_path numbers paths signals (s ∷ ss) [] same there = refl
carried_tied ops by_key by_path numbers paths signals (s ∷ ss) (i ∷ is) same there =
    let r = register_at paths signals s in
    let small : s < length signals = ltb-true s (length signals) (and_left (nat_lt s (length signals)) (are_below ss (length signals)) there) in
    ap₂ (λ (old : RegisterName → Option ℕ) (rest : List (ℕ × ℕ)). (r.width, taken ops old (called r) i % 2 ^ r.width) ∷ rest)
    (fun_ext (λ (name : RegisterName). same s small name))
    (carried_tied ops by_key by_path numbers paths signals ss is same (and_right (nat_lt s (length signals)) (are_below ss (length signals)) there))

-- what a design's registers are: its rows, its signals and their numbers
pub record Parts : Type 0 where
  pub rows : List InstanceName
  pub signals : List Signal
  pub ids : List ℕ
  pub there : IsTrue (are_below ids (length signals))
  pub within : IsTrue (are_within signals (length rows))

abbrev pub registers : Parts → List Register
registers p = map (register_at (paths_of p.rows) p.signals) p.ids

pub all_carried : (ops : List RegOp) (by_key : Key → Option ℕ) (f g : Parts) (old new xs is : List ℕ) → NumberPaths old f.rows new g.rows
    → ((key : Key) → by_key key ≡ value_by (map (number_at old f.signals) f.ids) (registers f) xs key)
    → carried_by ops by_key (map (number_at new g.signals) g.ids) (registers g) is ≡ carried_each ops (value_of (registers f) xs) (registers g) is
all_carried ops by_key f g old new xs is n held =
    carried_tied ops by_key (value_of (registers f) xs) new new_paths g.signals g.ids is each g.there
  where
    old_paths : List (List ℕ)
    old_paths = paths_of f.rows

    new_paths : List (List ℕ)
    new_paths = paths_of g.rows

    one : (y : Signal) → y.instance < length new → (s : ℕ) → s < length f.signals
        → (number_at old f.signals s == slice_index new y.instance) ≡ same_path (register_at old_paths f.signals s).path (register_of new_paths y).path
    one y k s h =
        at_signal (λ m r. (m == slice_index new y.instance) ≡ same_path r.path (register_of new_paths y).path) old old_paths f.signals s (length old)
        (λ x l. n.same x.instance y.instance l k) (ap (are_within f.signals) n.old_length ∙ f.within) h

    each : (s : ℕ) → s < length g.signals → (name : RegisterName)
        → by_key (record { number = number_at new g.signals s; called = name }) ≡ value_of (registers f) xs (register_at new_paths g.signals s).path name
    each s h name =
        at_signal (λ m r. by_key (record { number = m; called = name }) ≡ value_of (registers f) xs r.path name) new new_paths g.signals s (length new)
        (λ y k. held (record { number = slice_index new y.instance; called = name })
        ∙ value_tied old old_paths f.signals f.ids xs (slice_index new y.instance) (register_of new_paths y).path name (one y k) f.there)
        (ap (are_within g.signals) n.new_length ∙ g.within) h
