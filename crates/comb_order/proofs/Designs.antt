-- What is so of the graph is so of the nodes.
use Rattle.std.proofs.Common.{◌≡◌, ℕ, zero, suc, ◌<◌, ◌≤◌, ◌^◌, true, ◌&&◌, List, [], ◌∷◌, length, map, refl, sym, ◌∙◌, subst, arith, true≢false, get_or, inl, inr}
use Rattle.std.specs.Prelude.{All, slice_index, Result, Ok, Err, IfOk, IfErr, MatchResult}
use Rattle.std.specs.declared.vec.Vec.{Vec}
use Rattle.std.specs.Global.{Global}
use Rattle.std.proofs.Math.Logic.{∥∥₁_elim}
use Rattle.std.proofs.Props.{props}
use Rattle.typed_ir.specs.declared.flat.Flat.{Flat as Flat'}
use Rattle.typed_ir.specs.declared.signal.Signal.{Signal as Signal'}
use Rattle.typed_ir.specs.declared.stmt.Stmt.{Stmt}
use Rattle.typed_ir.specs.Cycles.{writes_at}
use Rattle.typed_ir.specs.Flats.{signal_widths, are_clocked}
use Rattle.typed_ir.specs.Statements.{stmt_of}
use Rattle.typed_ir.specs.Stmts.{is_legal, is_clocked}
use Rattle.typed_ir.proofs.Cases.{and_left, and_right}
use Rattle.typed_ir.proofs.Mentions.{later_small}
use Rattle.typed_ir.specs.Linkeds.{flat}
use Rattle.typed_ir.specs.Nodes.{FlatNode, drives_at, reads_at, IsOrder, are_legal}
use Rattle.typed_ir.specs.Orders.{Member, EachAfter, IsOrderOf, Precedes}
use Rattle.typed_ir.specs.Rows.{row_in}
use Rattle.typed_ir.proofs.Widths.{widths_long, at_most_a_word}
use Rattle.comb_order.specs.declared.drivers.Driver.{Driver}
use Rattle.comb_order.specs.declared.refusing.OrderRefusal.{OrderRefusal}
use Rattle.comb_order.specs.declared.refusing.OrderRefusal.TheVariants.{Loop, NoMemory}
use Rattle.comb_order.specs.Graphs.{HasEdge, waiting}
use Rattle.comb_order.specs.Kahn.{IsClosed}
use Rattle.comb_order.specs.Loops.{Placeable, Place, IsStuck, Next, IsWalk, IsLoop, HasNoLoop}
use Rattle.comb_order.specs.Refusals.{NodeBefore, IsRefusal, is_loop}
use Rattle.comb_order.specs.Driving.{drives_in, AreRows, IsTableOf, IsTable, IsPlain, IsGraph}
use Rattle.comb_order.proofs.Loops.{no_loop}
use Rattle.comb_order.proofs.Stuck.{no_stuck}
use Rattle.comb_order.proofs.Rows.{few_edges}
use Rattle.comb_order.proofs.Edging.{at_apart, at_small, reader_there}

-- ---- the same before, by another word

placeable_to : {P Q : ℕ → ℕ → Type 0} → ((a b : ℕ) → P a b → Q a b) → (k : ℕ) → Placeable Q k → Placeable P k
placeable_to f k (Place t before) = Place t (λ a p. placeable_to f a (before a (f a t p)))

stuck_to : {P Q : ℕ → ℕ → Type 0} (count k : ℕ) → ((a b : ℕ) → P a b → Q a b) → IsStuck P count k → IsStuck Q count k
stuck_to count k f s = (s.0, λ q. s.1 (placeable_to f k q))

next_to : {P Q : ℕ → ℕ → Type 0} (count k a : ℕ) → ((a b : ℕ) → P a b → Q a b) → ((a b : ℕ) → Q a b → P a b) → Next P count k a → Next Q count k a
next_to count k a f g n = (
  (stuck_to count a f n.0.0, f a k n.0.1),
  λ j l q. n.1 j l (stuck_to count j g q.0, g j k q.1),
)

walk_to : {P Q : ℕ → ℕ → Type 0} (count a : ℕ) (xs : List ℕ) (b : ℕ) → ((a b : ℕ) → P a b → Q a b) → ((a b : ℕ) → Q a b → P a b)
    → IsWalk P count a xs b → IsWalk Q count a xs b
walk_to count a [] b f g w = w
walk_to count a (x ∷ xs) b f g w = (w.0, (w.1.0, next_to count x w.1.0 f g w.1.1, walk_to count w.1.0 xs b f g w.1.2))

loop_to : {P Q : ℕ → ℕ → Type 0} (count first : ℕ) (rest : List ℕ) → ((a b : ℕ) → P a b → Q a b) → ((a b : ℕ) → Q a b → P a b)
    → IsLoop P count first rest → IsLoop Q count first rest
loop_to count first rest f g l = record {
  start = l.start;
  lead = l.lead;
  enters = l.enters;
  starts = (stuck_to count l.start f l.starts.0, λ j h q. l.starts.1 j h (stuck_to count j g q));
  walks = walk_to count l.start l.lead l.enters f g l.walks;
  on = l.on;
  circle = walk_to count first (first ∷ rest) first f g l.circle;
  once = l.once;
  least = l.least;
}

after_to : {P Q : ℕ → ℕ → Type 0} (done ks : List ℕ) → ((a b : ℕ) → Q a b → P a b) → EachAfter P done ks → EachAfter Q done ks
after_to done [] g h = tt
after_to done (k ∷ ks) g h = (λ a q. h.0 a (g a k q), after_to (k ∷ done) ks g h.1)

order_to : {P Q : ℕ → ℕ → Type 0} (m n : ℕ) (order : List ℕ) → m ≡ n → ((a b : ℕ) → Q a b → P a b) → IsOrderOf P m order → IsOrderOf Q n order
order_to m n order e g o = record {
  size = o.size ∙ e;
  all = λ k h. o.all k (omega (arith, h, e));
  in_range = λ k h. (let s : k < m = o.in_range k h in omega (arith, s, e));
  once = o.once;
  after = after_to [] order g o.after;
}

-- ---- graphs

pub order_of : (nodes : List FlatNode) (rows : List (List ℕ)) (order : List ℕ) → IsGraph nodes rows → IsOrderOf (HasEdge rows) (length rows) order → IsOrder nodes order
order_of nodes rows order g o = order_to (length rows) (length nodes) order g.size g.whole o

pub refusal_of : (nodes : List FlatNode) (rows : List (List ℕ)) (r : OrderRefusal) → IsGraph nodes rows → IsRefusal (HasEdge rows) (length rows) r
    → IsRefusal (Precedes (drives_at nodes) (reads_at nodes)) (length nodes) r
refusal_of nodes rows (Loop circle) g h = (
  h.0,
  h.1,
  h.2,
  loop_to (length nodes) h.0 h.1 g.sound g.whole (subst (λ n. IsLoop (HasEdge rows) n h.0 h.1) g.size h.3),
)
refusal_of nodes rows NoMemory g h = tt

pub no_order : (nodes : List FlatNode) (rows : List (List ℕ)) (r : OrderRefusal) (order : List ℕ) → IsGraph nodes rows → IsRefusal (HasEdge rows) (length rows) r
    → is_loop r ≡ true → IsOrder nodes order → ⊥
no_order nodes rows (Loop circle) order g h is o =
    no_stuck (HasEdge rows) (length rows) order (order_to (length nodes) (length rows) order (sym g.size) g.sound o) h.3.start h.3.starts.0
no_order nodes rows NoMemory order g h is o = true≢false (sym is)

-- an order just where there is no loop
pub exactly : (nodes : List FlatNode) (rows : List (List ℕ)) (r : Result (Vec ℕ Global) OrderRefusal) → IsGraph nodes rows
    → IfOk r (λ (order : Vec ℕ Global). IsOrderOf (HasEdge rows) (length rows) order.items) → IfErr r (λ refusal. IsRefusal (HasEdge rows) (length rows) refusal)
    → MatchResult r (λ _. HasNoLoop (NodeBefore nodes) (length nodes)) (λ refusal. IsRefusal (NodeBefore nodes) (length nodes) refusal)
exactly nodes rows (Ok order) g o h = no_loop (NodeBefore nodes) (length nodes) order.items (order_of nodes rows order.items g o)
exactly nodes rows (Err refusal) g o h = refusal_of nodes rows refusal g h

pub graph_closed : (nodes : List FlatNode) (rows : List (List ℕ)) → IsGraph nodes rows → IsClosed rows
graph_closed nodes rows g a t e =
    let p = g.sound a t e in
    let h : t < length nodes = reader_there nodes t p.0 p.1 p.3 in
    let size : length rows ≡ length nodes = g.size in
    omega (arith, h, size)

pub graph_few : (nodes : List FlatNode) (rows : List (List ℕ)) (b : ℕ) → AreRows b rows → IsGraph nodes rows → length nodes < 2 ^ 32 → (t : ℕ) → waiting rows [] t < 2 ^ 32
graph_few nodes rows b are g few t =
    let most : waiting rows [] t ≤ length rows = few_edges rows t (λ a. (are a).once t) in
    let size : length rows ≡ length nodes = g.size in
    omega (arith, most, size, few)

-- ---- designs

pub design_plain : (design : Flat') → IsPlain (flat design).nodes
design_plain design = record {
  one = λ a b s i x y. ∥∥₁_elim design.sound (hlevel props) (λ f. f.sound.one_driver a b s i x y);
  apart = λ b s i block r. ∥∥₁_elim design.sound (hlevel props) (λ f. at_apart (flat design).nodes f.first b s i block r);
}

pub parts_table : (signals : List Signal') (nodes : List FlatNode) (table : List (Vec Driver Global)) → are_legal nodes (signal_widths signals) ≡ true
    → length table ≡ length signals
    → ((a s i : ℕ) → s < length signals → i < 128 → drives_in (row_in table s) a i ≡ drives_at nodes a s i)
    → IsTable nodes table
parts_table signals nodes table legal long drives = record {
  inside = λ a s i d.
      (let h : (s < length (signal_widths signals)) × (i < 128) = at_small nodes (signal_widths signals) (at_most_a_word signals) legal a s i d in
      let e : length (signal_widths signals) ≡ length signals = widths_long signals in
      let there : s < length (signal_widths signals) = h.0 in
      (omega (arith, there, e, long), h.1));
  drives = λ a s i h low. drives a s i (omega (arith, h, long)) low;
}

block_small : (blocks : List Stmt) (widths : List ℕ) → ((k : ℕ) → slice_index widths k ≤ 128) → are_clocked blocks widths ≡ true
    → (a s i : ℕ) → writes_at (map stmt_of blocks) a s i ≡ true → (s < length widths) × (i < 128)
block_small [] widths most legal a s i d = absurd (true≢false (sym d))
block_small (b ∷ bs) widths most legal zero s i d =
    let one = is_legal (stmt_of b) widths && is_clocked (stmt_of b) in
    later_small (stmt_of b) widths s i most
    (and_left (is_legal (stmt_of b) widths) (is_clocked (stmt_of b)) (and_left one (are_clocked bs widths) legal)) d
block_small (b ∷ bs) widths most legal (suc a) s i d =
    block_small bs widths most (and_right (is_legal (stmt_of b) widths && is_clocked (stmt_of b)) (are_clocked bs widths) legal) a s i d

-- the table of what clocked blocks write
pub blocks_table : (signals : List Signal') (blocks : List Stmt) (table : List (Vec Driver Global)) → are_clocked blocks (signal_widths signals) ≡ true
    → length table ≡ length signals
    → ((a s i : ℕ) → s < length signals → i < 128 → drives_in (row_in table s) a i ≡ writes_at (map stmt_of blocks) a s i)
    → IsTableOf (writes_at (map stmt_of blocks)) table
blocks_table signals blocks table legal long drives = record {
  inside = λ a s i d.
      (let h : (s < length (signal_widths signals)) × (i < 128) = block_small blocks (signal_widths signals) (at_most_a_word signals) legal a s i d in
      let e : length (signal_widths signals) ≡ length signals = widths_long signals in
      let there : s < length (signal_widths signals) = h.0 in
      (omega (arith, there, e, long), h.1));
  drives = λ a s i h low. drives a s i (omega (arith, h, long)) low;
}

pub design_table : (design : Flat') (table : List (Vec Driver Global)) → length table ≡ length design.signals.items
    → ((a s i : ℕ) → s < length design.signals.items → i < 128 → drives_in (row_in table s) a i ≡ drives_at (flat design).nodes a s i)
    → IsTable (flat design).nodes table
design_table design table long drives = parts_table design.signals.items (flat design).nodes table design.legal long drives

-- what an order lists is in range
pub all_of : (P : ℕ → Type 0) (xs : List ℕ) → ((k : ℕ) → Member k xs → P k) → All P xs
all_of P xs h k d small = h (get_or xs k d) (member_at xs k d small)
  where
    member_at : (xs : List ℕ) (k d : ℕ) → k < length xs → Member (get_or xs k d) xs
    member_at [] k d small = omega (arith, small)
    member_at (x ∷ xs) zero d small = inl refl
    member_at (x ∷ xs) (suc k) d small = inr (member_at xs k d (omega (arith, small)))
