-- What is made of a linked design is its program.
use Rattle.std.proofs.Common.{true, ◌≡◌, ℕ, ◌+◌, ◌-◌, ◌*◌, ◌<◌, ◌≤◌, List, [], ◌∷◌, ◌++◌, map, length, replicate, refl, sym, ap, ◌∙◌, subst, arith}
use Rattle.typed_ir.specs.declared.linked.Linked.{Linked}
use Rattle.typed_ir.specs.Nodes.{FlatNode}
use Rattle.typed_ir.specs.Orders.{Each}
use Rattle.design_steps.specs.declared.layout.Layout.{Layout}
use Rattle.typed_ir.specs.Statements.{stmt_of, sequence_of}
use Rattle.typed_ir.specs.Cycles.{IsReady as IsBased}
use Rattle.typed_ir.specs.Linkeds.{flat}
use Rattle.design_steps.specs.Plans.{IsReady, signals, width_at}
use Rattle.design_steps.specs.Right.{IsLaidNode}
use Rattle.design_steps.specs.Statements.{stmt_code}
use Rattle.design_steps.specs.Nodes.{as_statement, nodes_code}
use Rattle.design_steps.specs.Sizes.{are_sized}
use Rattle.design_steps.specs.Views.{plan_of}
use Rattle.design_steps.proofs.Sizing.{stmt_sized, sized_append}
use Rattle.design_steps.proofs.Passing.{node_legal}
use Rattle.design_steps.specs.declared.program.Program.{Program}
use Rattle.design_steps.specs.Layings.{LaysOut, own_plan, clocking_plan, view_of, mark_of, signals_of}
use Rattle.design_steps.specs.Places.{are_placed}
use Rattle.design_steps.specs.Programs.{IsProgramOf, AreNext, kept_nodes}
use Rattle.design_steps.proofs.Apart.{apart}
use Rattle.design_steps.proofs.Laid.{nodes_laid, blocks_laid}
use Rattle.design_steps.proofs.Beginning.{begins, begins_next, begins_based, all_long}
use Rattle.design_steps.proofs.Placing.{sound_from}
use Rattle.design_steps.specs.Moves.{moved_step, env_by, gathered}
use Rattle.design_steps.proofs.Moved.{moved_sized}
use Rattle.design_steps.proofs.Gathered.{IsTable, all_table}

-- the steps of nodes fit the words that they take, where each is laid out by a plan of its own
nodes_sized : (l : Layout) → ((s : ℕ) → width_at (plan_of l) s ≤ 128) → (rs : List ℕ) (ks : List FlatNode) (mark : ℕ) → Each (λ k. IsLaidNode (view_of l k) rs k) ks
    → are_sized (nodes_code (plan_of l) ks mark) ≡ true
nodes_sized l few rs [] mark h = refl
nodes_sized l few rs (k ∷ ks) mark h =
    sized_append (stmt_code (plan_of l) (as_statement k) mark) (nodes_code (plan_of l) ks mark)
    (stmt_sized (plan_of l) few (as_statement k) mark (node_legal k l.widths.items h.0.legal)) (nodes_sized l few rs ks mark h.1)

pub made : (p : Program) (l : Linked) (mark last : ℕ) → LaysOut p.layout l.design → mark ≡ mark_of p.layout
    → p.places.items ≡ gathered (length l.design.signals.items) l.design.registers.items
    → p.settling.items ≡ map (moved_step p.places.items) (nodes_code (plan_of p.layout) (kept_nodes p.layout l) mark)
    → p.clocking.items ≡ map (moved_step p.places.items) (stmt_code (clocking_plan p.layout) (sequence_of (map stmt_of l.design.clocked.items)) mark)
    → ((n : ℕ) → last < n → are_placed n p.settling.items ≡ true) → ((n : ℕ) → last < n → are_placed n p.clocking.items ≡ true) → mark ≤ last
    → p.beginning.items ≡ (replicate p.layout.constants.first 0 ++ p.layout.constants.values.keys)
    ++ replicate (last + 1 - p.layout.constants.first - length p.layout.constants.values.keys) 0
    → IsProgramOf p l
made p l mark last lays at places nodes blocks placed_nodes placed_blocks few words =
    let pl = plan_of p.layout in
    let rs = signals_of l.design in
    let first = p.layout.constants.first in
    let keys = p.layout.constants.values.keys in
    let rest = last + 1 - first - length keys in
    let left = kept_nodes p.layout l in
    let st = sequence_of (map stmt_of l.design.clocked.items) in
    let free = apart p.layout l.design lays in
    let m : mark_of p.layout ≡ first + length keys + 1 = refl in
    let long : length p.beginning.items ≡ last + 1 = (let a = ap length words ∙ all_long first rest keys in omega (arith, a, at, m, few)) in
    let more : last < length p.beginning.items = omega (arith, long) in
    let table = p.places.items in
    let is : IsTable table first = subst (IsTable table) (sym lays.first)
    (subst (λ t. IsTable t (3 * length l.design.signals.items + 2 * length l.design.registers.items + 1)) (sym places)
    (all_table (length l.design.signals.items) l.design.registers.items l.design.registers_there)) in
    let settles = nodes ∙ ap (λ m. map (moved_step table) (nodes_code pl left m)) at in
    let clocks = blocks ∙ ap (λ m. map (moved_step table) (stmt_code (clocking_plan p.layout) st m)) at in
    record {
      lays = lays;
      places = places;
      settles = settles;
      clocks = clocks;
      sound_nodes = sound_from (length p.beginning.items) p.settling.items (placed_nodes (length p.beginning.items) more)
          (ap are_sized settles ∙ moved_sized table (nodes_code pl left (mark_of p.layout)) ∙ nodes_sized p.layout free.few rs left (mark_of p.layout) (nodes_laid p.layout l.design lays l.order.items));
      sound_blocks = sound_from (length p.beginning.items) p.clocking.items (placed_blocks (length p.beginning.items) more)
          (ap are_sized clocks ∙ moved_sized table (stmt_code (clocking_plan p.layout) st (mark_of p.layout)) ∙ stmt_sized (clocking_plan p.layout) free.few st (mark_of p.layout) (blocks_laid p.layout l.design lays).legal);
      room = omega (arith, long, at, few);
      begins = record {
        ready = record {
          ready = subst (λ ws. IsReady (own_plan p.layout) rs (env_by table ws)) (sym words) (begins p.layout l.design lays rest table is);
          nexts = subst (λ ws. AreNext p.layout l.design (env_by table ws)) (sym words) (begins_next p.layout l.design lays rest table is);
        };
        based = subst (λ ws. IsBased (flat l.design) [] [] (signals (own_plan p.layout) (env_by table ws))) (sym words) (begins_based p.layout l.design lays rest table is l refl);
      };
    }
