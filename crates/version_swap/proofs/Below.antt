-- The names in reach stand for numbers of the module's own signals, so its items are the same where two numberings agree on these.
use Rattle.std.proofs.Common.{◌≡◌, ℕ, suc, ◌+◌, ◌<◌, ◌==◌, Bool, true, false, cond, List, [], ◌∷◌, ◌++◌, length, refl, ap, ap₂, arith}
use Rattle.std.proofs.Math.Path.{fun_ext}
use Rattle.std.specs.Prelude.{Option, Some, None}
use Rattle.typed_ir.specs.Orders.{Each}
use Rattle.typed_ir.specs.Items.{PlacedItem}
use Rattle.verilog_ast.specs.declared.identifier.Identifier.{Identifier}
use Rattle.verilog_ast.specs.Items.{ModuleDeclaration}
use Rattle.width_rules.specs.declared.writer.Writer.{Writer}
use Rattle.width_rules.specs.Scopes.{Meaning, Signal, Constant, Turn, Genvar, Unknown, Scope}
use Rattle.statement_rules.specs.Renumbering.{meaning_as, renumbered}
use Rattle.gen_unroll.specs.Declarations.{declared}
use Rattle.gen_unroll.specs.Reaches.{Reach, scope_around, scopes_behind, same_block}
use Rattle.gen_unroll.specs.Steps.{LoopTurn, ModuleStep, Listed, Port, Parameter, Item, Labelled, Opened, Closed}
use Rattle.gen_unroll.specs.Unrolled.{with_turn}
use Rattle.gen_unroll.specs.Numbers.{NumberedSignal, in_block_from, in_block}
use Rattle.gen_unroll.specs.Signals.{NamedSignal}
use Rattle.gen_unroll.specs.UnitReaches.{meaning_of_signal, all_signals, with_signals, unit_reach_in, unit_in_reach}
use Rattle.unit_build.specs.Walks.{Walk, step_items, behind}
use Rattle.version_swap.specs.CopiedWalks.{copied_items}
use Rattle.version_swap.proofs.HiddenNames.{block_so, module_so}

abbrev pub IsBelow : ℕ → Meaning → Type 0
IsBelow n (Signal signal width lsb signed writer) = signal < n
IsBelow n (Constant width value signed) = Unit {0}
IsBelow n (Turn width value signed) = Unit {0}
IsBelow n Genvar = Unit {0}
IsBelow n Unknown = Unit {0}

abbrev pub AreBelow : ℕ → Scope → Type 0
AreBelow n scope = (name : ℕ) → IsBelow n (scope name)

-- the names in reach, and those around
pub record IsReachBelow (n : ℕ) (r : Reach) : Type 0 where
  pub here : AreBelow n r.scope
  pub around : Each (λ (s : Scope). AreBelow n s) r.around

-- ---- signals that get in reach

numbers_below : (b : Option ℕ) (n k : ℕ) (xs : List NamedSignal) → k + length xs ≡ n
    → Each (λ (y : NumberedSignal). y.number < n) (in_block_from k b xs)
numbers_below b n k [] is = tt
numbers_below b n k (x ∷ xs) is = by (same_block b x.block) (numbers_below b n (suc k) xs (omega (arith, is)))
  where
    by : (t : Bool) → Each (λ (y : NumberedSignal). y.number < n) (in_block_from (suc k) b xs)
        → Each (λ (y : NumberedSignal). y.number < n)
        (cond t (record { number = k; signal = x } ∷ in_block_from (suc k) b xs) (in_block_from (suc k) b xs))
    by true rest = (omega (arith, is), rest)
    by false rest = rest

name_below : (n : ℕ) (scope : Scope) (x : Identifier) (m : Meaning) → IsBelow n m → AreBelow n scope → AreBelow n (declared scope x m)
name_below n scope x m one ok name = by (x.name.0 == name)
  where
    by : (b : Bool) → IsBelow n (cond b m (scope name))
    by true = one
    by false = ok name

signals_below : (n : ℕ) (w : ℕ → Writer) (ys : List NumberedSignal) (scope : Scope) → Each (λ (y : NumberedSignal). y.number < n) ys
    → AreBelow n scope
    → AreBelow n (all_signals w ys scope)
signals_below n w [] scope each ok = ok
signals_below n w (y ∷ ys) scope each ok =
    signals_below n w ys (declared scope y.signal.name (meaning_of_signal w y.number y.signal)) each.1
    (name_below n scope y.signal.name (meaning_of_signal w y.number y.signal) each.0 ok)

block_below : (w : ℕ → Writer) (xs : List NamedSignal) (b : Option ℕ) (scope : Scope) → AreBelow (length xs) scope
    → AreBelow (length xs) (with_signals w xs b scope)
block_below w xs b scope ok = signals_below (length xs) w (in_block b xs) scope (numbers_below b (length xs) 0 xs (omega arith)) ok

-- ---- where a module begins, and behind a step

turn_below : (n : ℕ) (t : Option LoopTurn) (scope : Scope) → AreBelow n scope → AreBelow n (with_turn t scope)
turn_below n None scope ok = ok
turn_below n (Some t) scope ok = name_below n scope t.genvar (Turn t.value.width t.value.value t.value.signed) tt ok

outer_below : (n : ℕ) (around : List Scope) (scope : Scope) → Each (λ (s : Scope). AreBelow n s) around → AreBelow n scope
    → AreBelow n (scope_around around scope)
outer_below n [] scope all ok = ok
outer_below n (s ∷ ss) scope all ok = all.0

behind_below : (n : ℕ) (around : List Scope) → Each (λ (s : Scope). AreBelow n s) around → Each (λ (s : Scope). AreBelow n s) (scopes_behind around)
behind_below n [] all = tt
behind_below n (s ∷ ss) all = all.1

pub begins_below : (w : ℕ → Writer) (xs : List NamedSignal) (d : ModuleDeclaration) → IsReachBelow (length xs) (unit_reach_in w xs d)
begins_below w xs d = record {
  here = block_below w xs None _ (module_so (IsBelow (length xs)) tt tt d);
  around = tt;
}

pub goes_below : (w : ℕ → Writer) (xs : List NamedSignal) (s : ModuleStep) (r : Reach) → IsReachBelow (length xs) r
    → IsReachBelow (length xs) (unit_in_reach w xs s r)
goes_below w xs (Listed n) r ok = ok
goes_below w xs (Port p) r ok = ok
goes_below w xs (Parameter s n v) r ok = record {
  here = name_below (length xs) r.scope n (Constant v.width v.value v.signed) tt ok.here;
  around = ok.around;
}
goes_below w xs (Item x) r ok = ok
goes_below w xs (Labelled n) r ok = record { here = name_below (length xs) r.scope n Unknown tt ok.here; around = ok.around }
goes_below w xs (Opened b items) r ok = record {
  here = block_below w xs (Some b.number) _
      (block_so (IsBelow (length xs)) tt tt items (with_turn b.turn r.scope) (turn_below (length xs) b.turn r.scope ok.here));
  around = (ok.here, ok.around);
}
goes_below w xs Closed r ok = record {
  here = outer_below (length xs) r.around r.scope ok.around ok.here;
  around = behind_below (length xs) r.around ok.around;
}

-- ---- two numberings that agree below

abbrev pub Agree : ℕ → (ℕ → ℕ) → (ℕ → ℕ) → Type 0
Agree n g h = (s : ℕ) → s < n → g s ≡ h s

same_meaning : (n : ℕ) (g h : ℕ → ℕ) (m : Meaning) → Agree n g h → IsBelow n m → meaning_as g m ≡ meaning_as h m
same_meaning n g h (Signal signal width lsb signed writer) same below = ap (λ s. Signal s width lsb signed writer) (same signal below)
same_meaning n g h (Constant width value signed) same below = refl
same_meaning n g h (Turn width value signed) same below = refl
same_meaning n g h Genvar same below = refl
same_meaning n g h Unknown same below = refl

same_scope : (n : ℕ) (g h : ℕ → ℕ) (scope : Scope) → Agree n g h → AreBelow n scope → renumbered g scope ≡ renumbered h scope
same_scope n g h scope same below = fun_ext (λ name. same_meaning n g h (scope name) same (below name))

pub same_items : (g h : ℕ → ℕ) (w : ℕ → Writer) (xs : List NamedSignal) (k : Walk) (ss : List ModuleStep) → Agree (length xs) g h
    → IsReachBelow (length xs) k.here
    → copied_items g w xs k ss ≡ copied_items h w xs k ss
same_items g h w xs k [] same below = refl
same_items g h w xs k (s ∷ ss) same below =
    ap₂ (λ (these those : List PlacedItem). these ++ those)
    (ap (λ (scope : Scope). step_items scope k.child k.left s) (same_scope (length xs) g h k.here.scope same below.here))
    (same_items g h w xs (behind w xs s k) ss same (goes_below w xs s k.here below))
