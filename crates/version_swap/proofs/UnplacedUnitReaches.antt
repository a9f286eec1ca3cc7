-- The names in reach at each step of a unit, with the numbers of its signals, without places (IEEE 1364-2005, 12.7).
use Rattle.std.proofs.Common.{◌≡◌, ℕ, suc, Bool, true, false, if◌then◌else◌, List, [], ◌∷◌, map, Option, Some, None, slice_get, refl, ◌∙◌, ap}
use Rattle.std.proofs.Math.Path.{fun_ext}
use Rattle.std.proofs.lemmas.Option.{slice_get-map}
use Rattle.std.specs.Option.{option_map}
use Rattle.verilog_ast.specs.Items.{ModuleDeclaration}
use Rattle.width_rules.specs.declared.writer.Writer.{Writer}
use Rattle.width_rules.specs.Scopes.{Scope}
use Rattle.gen_unroll.specs.Declarations.{declared}
use Rattle.gen_unroll.specs.Reaches.{Reach, reach_in, in_reach, same_block}
use Rattle.gen_unroll.specs.Steps.{ModuleStep, Opened}
use Rattle.gen_unroll.specs.Signals.{NamedSignal}
use Rattle.gen_unroll.specs.Numbers.{NumberedSignal, in_block_from}
use Rattle.gen_unroll.specs.UnitReaches.{meaning_of_signal, all_signals, with_signals, hidden, hidden_module, unit_reach_in, with_opened, unit_in_reach, writer_at, writer_of}
use Rattle.version_swap.specs.Unplaced.{unplaced_declaration}
use Rattle.version_swap.specs.UnplacedFindings.{step_unplaced, signal_unplaced}
use Rattle.version_swap.proofs.UnplacedNames.{same_hidden, same_hidden_module, same_beginning, same_reach}

-- ---- the signals of a block

-- a test that comes out alike
either_so : (w : ℕ → Writer) (b : Bool) (ps qs xs ys : List NumberedSignal) (scope : Scope) → all_signals w ps scope ≡ all_signals w xs scope
    → all_signals w qs scope ≡ all_signals w ys scope → all_signals w (if b then ps else qs) scope ≡ all_signals w (if b then xs else ys) scope
either_so w true ps qs xs ys scope first second = first
either_so w false ps qs xs ys scope first second = second

block_so : (w : ℕ → Writer) (k : ℕ) (b : Option ℕ) (xs : List NamedSignal) (scope : Scope)
    → all_signals w (in_block_from k b (map signal_unplaced xs)) scope ≡ all_signals w (in_block_from k b xs) scope
block_so w k b [] scope = refl
block_so w k b (x ∷ xs) scope =
    either_so w (same_block b x.block) (record { number = k; signal = signal_unplaced x } ∷ in_block_from (suc k) b (map signal_unplaced xs))
    (in_block_from (suc k) b (map signal_unplaced xs)) (record { number = k; signal = x } ∷ in_block_from (suc k) b xs)
    (in_block_from (suc k) b xs) scope
    (block_so w (suc k) b xs (declared scope x.name (meaning_of_signal w k x))) (block_so w (suc k) b xs scope)

signals_so : (w : ℕ → Writer) (xs : List NamedSignal) (b : Option ℕ) (scope : Scope)
    → with_signals w (map signal_unplaced xs) b scope ≡ with_signals w xs b scope
signals_so w xs b scope = block_so w 0 b xs scope

-- ---- at each step

pub same_unit_beginning : (w : ℕ → Writer) (xs : List NamedSignal) (m : ModuleDeclaration)
    → unit_reach_in w (map signal_unplaced xs) (unplaced_declaration m) ≡ unit_reach_in w xs m
same_unit_beginning w xs m =
    ap (λ (r : Reach). record r { scope = with_signals w (map signal_unplaced xs) None (hidden_module (unplaced_declaration m) r.scope) })
    (same_beginning m)
    ∙ ap (λ (scope : Scope). record (reach_in m) { scope = with_signals w (map signal_unplaced xs) None scope })
    (same_hidden_module m (reach_in m).scope)
    ∙ ap (λ (scope : Scope). record (reach_in m) { scope = scope }) (signals_so w xs None (hidden_module m (reach_in m).scope))

opened_so : (w : ℕ → Writer) (xs : List NamedSignal) (s : ModuleStep) (r : Reach)
    → with_opened w (map signal_unplaced xs) (step_unplaced s) r ≡ with_opened w xs s r
opened_so w xs (Opened b items) r =
    ap (λ (scope : Scope). record r { scope = scope })
    (ap (with_signals w (map signal_unplaced xs) (Some b.number)) (same_hidden items r.scope)
    ∙ signals_so w xs (Some b.number) (hidden items r.scope))
opened_so w xs other r = refl

pub same_unit_reach : (w : ℕ → Writer) (xs : List NamedSignal) (s : ModuleStep) (r : Reach)
    → unit_in_reach w (map signal_unplaced xs) (step_unplaced s) r ≡ unit_in_reach w xs s r
same_unit_reach w xs s r = ap (with_opened w (map signal_unplaced xs) (step_unplaced s)) (same_reach s r) ∙ opened_so w xs s (in_reach s r)

-- ---- what may write a signal

writer_so : (settled : Bool) (x : Option NamedSignal) → writer_at settled (option_map signal_unplaced x) ≡ writer_at settled x
writer_so settled None = refl
writer_so settled (Some x) = refl

pub same_writer : (settled : ℕ → Bool) (xs : List NamedSignal) → writer_of settled (map signal_unplaced xs) ≡ writer_of settled xs
same_writer settled xs =
    fun_ext (λ k. ap (writer_at (settled k)) (slice_get-map signal_unplaced xs k) ∙ writer_so (settled k) (slice_get xs k))
