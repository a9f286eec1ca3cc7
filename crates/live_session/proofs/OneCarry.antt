-- States are carried alike between designs that are one but for the numbers of their names, under operations that are.
use Rattle.std.proofs.Common.{◌≡◌, ◌∙◌, ℕ, zero, suc, ◌%◌, ◌^◌, ◌<◌, ◌&&◌, IsTrue, Bool, true, false, cond, List, [], ◌∷◌, map, length, All, refl}
use Rattle.std.proofs.Common.{sym, ap, ap₂, subst, arith}
use Rattle.std.specs.Prelude.{Option, Some, None}
use Rattle.std.specs.Option.{option_or, unwrap_or}
use Rattle.std.proofs.lemmas.List.Elements.{All-head, All-tail}
use Rattle.command_read.specs.Asking.{LineOperation}
use Rattle.ls_text.specs.declared.name_id.NameId.{NameId}
use Rattle.ls_text.specs.Texts.{HasEachOnce}
use Rattle.ls_text.proofs.Lists.{none_is_some, same_first, same_others}
use Rattle.reg_ops.specs.Operations.{Operation, Renames, Creates, Deletes, HasNames, operation}
use Rattle.reg_ops.specs.declared.reg_op.RegOp.{RegOp}
use Rattle.reg_ops.specs.declared.reg_op.RegOp.TheVariants.{Rename, Create, Delete}
use Rattle.reg_transform.specs.Carrying.{created_by, renamed_by, created, renamed, value_of, value_under, taken, carried_each, carried}
use Rattle.reg_transform.specs.Registers.{RegisterName, Register, called, is_same}
use Rattle.reg_transform.specs.States.{state_values}
use Rattle.typed_ir.specs.Cycles.{Signal, Flat}
use Rattle.typed_ir.specs.Flats.{are_below}
use Rattle.typed_ir.specs.Orders.{at_or}
use Rattle.cycle_eval.specs.Designs.{design_flat}
use Rattle.cycle_eval.specs.Kits.{register_at, register_of, regs_of, reset_of}
use Rattle.cycle_eval.specs.declared.design.Design.{Design}
use Rattle.live_session.specs.Logs.{State, Ops, kit}
use Rattle.live_session.specs.Scripts.{AreOperations}
use Rattle.live_session.proofs.OneNames.{IsOneName, AreOneNames, IsOneMaybe, both_none, both_some, AreOneSignals, no_signals, more_signals}
use Rattle.live_session.proofs.OneNames.{one_own, one_instance, same_number, same_paths}
use Rattle.live_session.proofs.OneRun.{IsOneDesign, below_first, below_rest, one_registers, registers_below, start_alike}

-- ---- operations

-- two operations of one text
pub data IsOneOperation (names others : List (List ℕ)) : RegOp → RegOp → Type 0 where
  both_rename : {a b c x y z : NameId} → IsOneName names others a.0 x.0 → IsOneName names others b.0 y.0 → IsOneName names others c.0 z.0
      → IsOneOperation names others (Rename a b c) (Rename x y z)
  both_create : {a b x y : NameId} {value : ℕ} → IsOneName names others a.0 x.0 → IsOneName names others b.0 y.0
      → IsOneOperation names others (Create a b value) (Create x y value)
  both_delete : {a b x y : NameId} → IsOneName names others a.0 x.0 → IsOneName names others b.0 y.0
      → IsOneOperation names others (Delete a b) (Delete x y)

pub data AreOneOperations (names others : List (List ℕ)) : Ops → Ops → Type 0 where
  no_operations : AreOneOperations names others [] []
  more_operations : {x y : RegOp} {xs ys : Ops} → IsOneOperation names others x y → AreOneOperations names others xs ys
      → AreOneOperations names others (x ∷ xs) (y ∷ ys)

-- what an operation says, part by part
abbrev kind_of : Operation → ℕ
kind_of (Renames in_module from to) = 0
kind_of (Creates in_module reg value) = 1
kind_of (Deletes in_module reg) = 2

abbrev module_of : Operation → List ℕ
module_of (Renames in_module from to) = in_module
module_of (Creates in_module reg value) = in_module
module_of (Deletes in_module reg) = in_module

abbrev name_of : Operation → List ℕ
name_of (Renames in_module from to) = from
name_of (Creates in_module reg value) = reg
name_of (Deletes in_module reg) = reg

abbrev new_name_of : Operation → List ℕ
new_name_of (Renames in_module from to) = to
new_name_of (Creates in_module reg value) = []
new_name_of (Deletes in_module reg) = []

abbrev value_in : Operation → ℕ
value_in (Renames in_module from to) = 0
value_in (Creates in_module reg value) = value
value_in (Deletes in_module reg) = 0

module _ (names others : List (List ℕ)) where
  -- operations of one list of texts
  one_operation : (x y : RegOp) → operation names x ≡ operation others y → HasNames (length names) x → HasNames (length others) y
      → IsOneOperation names others x y
  one_operation (Rename a b c) (Rename x y z) is here there =
      both_rename (record { here = here.0; there = there.0; text = ap module_of is })
      (record { here = here.1; there = there.1; text = ap name_of is }) (record { here = here.2; there = there.2; text = ap new_name_of is })
  one_operation (Rename a b c) (Create x y value) is here there = let e : 0 ≡ 1 = ap kind_of is in absurd (omega (arith, e))
  one_operation (Rename a b c) (Delete x y) is here there = let e : 0 ≡ 2 = ap kind_of is in absurd (omega (arith, e))
  one_operation (Create a b v) (Rename x y z) is here there = let e : 1 ≡ 0 = ap kind_of is in absurd (omega (arith, e))
  one_operation (Create a b v) (Create x y w) is here there =
      subst (λ (u : ℕ). IsOneOperation names others (Create a b v) (Create x y u)) (ap value_in is)
      (both_create {value = v} (record { here = here.0; there = there.0; text = ap module_of is })
      (record { here = here.1; there = there.1; text = ap name_of is }))
  one_operation (Create a b v) (Delete x y) is here there = let e : 1 ≡ 2 = ap kind_of is in absurd (omega (arith, e))
  one_operation (Delete a b) (Rename x y z) is here there = let e : 2 ≡ 0 = ap kind_of is in absurd (omega (arith, e))
  one_operation (Delete a b) (Create x y value) is here there = let e : 2 ≡ 1 = ap kind_of is in absurd (omega (arith, e))
  one_operation (Delete a b) (Delete x y) is here there =
      both_delete (record { here = here.0; there = there.0; text = ap module_of is })
      (record { here = here.1; there = there.1; text = ap name_of is })

  operations_from : (xs ys : Ops) → map (operation names) xs ≡ map (operation others) ys → All (HasNames (length names)) xs
      → All (HasNames (length others)) ys → AreOneOperations names others xs ys
  operations_from [] [] same here there = no_operations
  operations_from [] (y ∷ ys) same here there =
      none_is_some (operation others y) (map (operation others) ys) same
  operations_from (x ∷ xs) [] same here there =
      none_is_some (operation names x) (map (operation names) xs) (sym same)
  operations_from (x ∷ xs) (y ∷ ys) same here there =
      more_operations
      (one_operation x y (same_first (operation names x) (operation others y) (map (operation names) xs) (map (operation others) ys) same)
      (All-head (HasNames (length names)) x xs here) (All-head (HasNames (length others)) y ys there))
      (operations_from xs ys (same_others (operation names x) (operation others y) (map (operation names) xs) (map (operation others) ys) same)
      (All-tail (HasNames (length names)) x xs here) (All-tail (HasNames (length others)) y ys there))

  -- those of one block
  pub one_operations : (lines : List LineOperation) (xs ys : Ops) → AreOperations names lines xs → AreOperations others lines ys
      → AreOneOperations names others xs ys
  one_operations lines xs ys p q = operations_from xs ys (p.are ∙ sym q.are) p.within q.within

-- ---- registers

-- two registers that are one but for the numbers of their names
pub record IsOneRegister (names others : List (List ℕ)) (r s : Register) : Type 0 where
  pub path : AreOneNames names others r.path s.path
  pub in_module : IsOneName names others r.in_module s.in_module
  pub name : IsOneName names others r.name s.name
  pub width : r.width ≡ s.width

pub data AreOneRegisters (names others : List (List ℕ)) : List Register → List Register → Type 0 where
  no_registers : AreOneRegisters names others [] []
  more_registers : {r s : Register} {rs ss : List Register} → IsOneRegister names others r s → AreOneRegisters names others rs ss
      → AreOneRegisters names others (r ∷ rs) (s ∷ ss)

abbrev no_register : Register
no_register = record { path = []; in_module = 0; name = 0; width = 0 }

module _ (names others : List (List ℕ)) where
  -- registers by the numbers of their signals
  one_register : (s : ℕ) {xs ys : List Signal} → AreOneSignals names others xs ys → s < length xs
      → IsOneRegister names others (at_or register_of no_register xs s) (at_or register_of no_register ys s)
  one_register s no_signals lt = absurd (omega (arith, lt))
  one_register zero (more_signals h hs) lt = record {
    path = one_instance names others h.path;
    in_module = h.in_module;
    name = one_own names others h.path h.called;
    width = h.width;
  }
  one_register (suc s) (more_signals h hs) lt = one_register s hs (omega (arith, lt))

  registers_at : (f g : Flat) → AreOneSignals names others f.signals g.signals → (ss : List ℕ) → IsTrue (are_below ss (length f.signals))
      → AreOneRegisters names others (map (register_at f) ss) (map (register_at g) ss)
  registers_at f g h [] below = no_registers
  registers_at f g h (s ∷ ss) below =
      more_registers (one_register s h (below_first s (length f.signals) ss below))
      (registers_at f g h ss (below_rest s (length f.signals) ss below))

-- two names of a register of one text
record IsOneRegisterName (names others : List (List ℕ)) (x y : RegisterName) : Type 0 where
  in_module : IsOneName names others x.in_module y.in_module
  name : IsOneName names others x.name y.name

module _ (names others : List (List ℕ)) (once : HasEachOnce names) (also : HasEachOnce others) where
  same_name : (x y u v : RegisterName) → IsOneRegisterName names others x y → IsOneRegisterName names others u v → is_same x u ≡ is_same y v
  same_name x y u v h k =
      ap₂ ◌&&◌ (same_number names others once also h.in_module k.in_module) (same_number names others once also h.name k.name)

  -- ---- what operations say of a register

  module _ (x y : RegisterName) (h : IsOneRegisterName names others x y) where
    created_alike : {o p : RegOp} → IsOneOperation names others o p → created_by o x ≡ created_by p y
    created_alike (both_rename k l m) = refl
    created_alike (both_create {a = a} {b = b} {x = c} {y = d} {value = v} k l) =
        ap (λ (t : Bool). cond t (Some v) None)
        (same_name (record { in_module = a.0; name = b.0 }) (record { in_module = c.0; name = d.0 }) x y (record { in_module = k; name = l }) h)
    created_alike (both_delete k l) = refl

    one_maybe : (t : Bool) {m n : ℕ} → IsOneName names others m n → IsOneMaybe names others (cond t (Some m) None) (cond t (Some n) None)
    one_maybe true k = both_some k
    one_maybe false k = both_none

    renamed_alike : {o p : RegOp} → IsOneOperation names others o p → IsOneMaybe names others (renamed_by o x) (renamed_by p y)
    renamed_alike (both_rename {a = a} {b = b} {c = c} {x = u} {y = v} {z = w} k l m) =
        subst (λ (t : Bool). IsOneMaybe names others (renamed_by (Rename a b c) x) (cond t (Some v.0) None))
        (same_name (record { in_module = a.0; name = c.0 }) (record { in_module = u.0; name = w.0 }) x y (record { in_module = k; name = m }) h)
        (one_maybe (is_same (record { in_module = a.0; name = c.0 }) x) l)
    renamed_alike (both_create k l) = both_none
    renamed_alike (both_delete k l) = both_none

    either_one : {a b c d : Option ℕ} → IsOneMaybe names others a b → IsOneMaybe names others c d
        → IsOneMaybe names others (option_or a c) (option_or b d)
    either_one both_none l = l
    either_one (both_some k) l = both_some k

    all_created : {os ps : Ops} → AreOneOperations names others os ps → created os x ≡ created ps y
    all_created no_operations = refl
    all_created (more_operations k ks) = ap₂ option_or (created_alike k) (all_created ks)

    all_renamed : {os ps : Ops} → AreOneOperations names others os ps → IsOneMaybe names others (renamed os x) (renamed ps y)
    all_renamed no_operations = both_none
    all_renamed (more_operations k ks) = either_one (renamed_alike k) (all_renamed ks)

  -- ---- what a register takes

  one_called : (r s : Register) → IsOneRegister names others r s → IsOneRegisterName names others (called r) (called s)
  one_called r s h = record { in_module = h.in_module; name = h.name }

  -- the value that a register had, and the one that it has now
  old_value : {rs ss : List Register} → AreOneRegisters names others rs ss → (values : List ℕ) (path other : List ℕ)
      → AreOneNames names others path other → (x y : RegisterName) → IsOneRegisterName names others x y
      → value_of rs values path x ≡ value_of ss values other y
  old_value no_registers values path other along x y h = refl
  old_value (more_registers k ks) [] path other along x y h = refl
  old_value (more_registers {r = r} {s = s} k ks) (v ∷ values) path other along x y h =
      ap₂ (λ (t : Bool) (rest : Option ℕ). cond t (Some v) rest)
      (ap₂ ◌&&◌ (same_paths names others once also k.path along) (same_name (called r) (called s) x y (one_called r s k) h))
      (old_value ks values path other along x y h)

  -- two functions from names of registers that are one
  abbrev AreOneValues : (RegisterName → Option ℕ) → (RegisterName → Option ℕ) → Type 0
  AreOneValues f g = (x y : RegisterName) → IsOneRegisterName names others x y → f x ≡ g y

  under_alike : (f g : RegisterName → Option ℕ) → AreOneValues f g → (m n : ℕ) → IsOneName names others m n → {a b : Option ℕ}
      → IsOneMaybe names others a b → value_under f m a ≡ value_under g n b
  under_alike f g are m n h both_none = refl
  under_alike f g are m n h (both_some {m = i} {n = j} k) =
      are (record { in_module = m; name = i }) (record { in_module = n; name = j }) (record { in_module = h; name = k })

  taken_alike : (os ps : Ops) → AreOneOperations names others os ps → (f g : RegisterName → Option ℕ) → AreOneValues f g
      → (x y : RegisterName) → IsOneRegisterName names others x y → (initial : ℕ) → taken os f x initial ≡ taken ps g y initial
  taken_alike os ps k f g are x y h initial =
      ap₂ (λ (a b : Option ℕ). unwrap_or (option_or a b) initial) (all_created x y h k)
      (ap₂ option_or (under_alike f g are x.in_module y.in_module h.in_module (all_renamed x y h k)) (are x y h))

  each_alike : (os ps : Ops) → AreOneOperations names others os ps → (f g : List ℕ → RegisterName → Option ℕ)
      → ((path other : List ℕ) → AreOneNames names others path other → AreOneValues (f path) (g other)) → {rs ss : List Register}
      → AreOneRegisters names others rs ss → (initial : List ℕ) → carried_each os f rs initial ≡ carried_each ps g ss initial
  each_alike os ps k f g are no_registers initial = refl
  each_alike os ps k f g are (more_registers h hs) [] = refl
  each_alike os ps k f g are (more_registers {r = r} {s = s} h hs) (i ∷ initial) =
      ap₂ (λ (x : ℕ × ℕ) (xs : State). x ∷ xs)
      (ap₂ (λ (w v : ℕ). (w, v % 2 ^ w)) h.width
      (taken_alike os ps k (f r.path) (g s.path) (are r.path s.path h.path) (called r) (called s) (one_called r s h) i))
      (each_alike os ps k f g are hs initial)

  -- ---- designs

  -- the registers of both, and a state that is carried into both
  one_regs : (m n : Design) → IsOneDesign names others m n → AreOneRegisters names others (regs_of (design_flat m)) (regs_of (design_flat n))
  one_regs m n h =
      subst (λ (ss : List ℕ). AreOneRegisters names others (regs_of (design_flat m)) (map (register_at (design_flat n)) ss))
      (one_registers names others once also m n h)
      (registers_at names others (design_flat m) (design_flat n) h.signals (design_flat m).registers (registers_below names others once also m n h))

  pub carried_alike : (old was new is : Design) → IsOneDesign names others old was → IsOneDesign names others new is → (os ps : Ops)
      → AreOneOperations names others os ps → (s : State) → kit.carried old new os s ≡ kit.carried was is ps s
  carried_alike old was new is h k os ps ops s =
      ap (λ (r : State). carried os (regs_of (design_flat old)) (regs_of (design_flat new)) r s) (start_alike names others once also new is k)
      ∙ each_alike os ps ops (value_of (regs_of (design_flat old)) (state_values s)) (value_of (regs_of (design_flat was)) (state_values s))
      (λ (path other : List ℕ) (along : AreOneNames names others path other) (x y : RegisterName) (j : IsOneRegisterName names others x y).
      old_value (one_regs old was h) (state_values s) path other along x y j) (one_regs new is k) (state_values (reset_of (design_flat is)))
