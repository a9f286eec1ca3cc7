-- The steps of nodes do what the nodes do in place, one after another.
use Rattle.std.proofs.Common.{◌≡◌, ℕ, ◌≤◌, true, ◌&&◌, nat_lt, List, [], ◌∷◌, refl, sym, ap, ◌∙◌, subst}
use Rattle.typed_ir.specs.declared.lane.Lane.{Lane}
use Rattle.typed_ir.specs.Valuations.{Valuation}
use Rattle.typed_ir.specs.Orders.{Each, pass}
use Rattle.typed_ir.specs.Sized.{value_of, is_span}
use Rattle.typed_ir.specs.Stmts.{exec, pending, written, are_targets, is_legal, is_sized}
use Rattle.typed_ir.specs.Nodes.{FlatNode, Drive, Block, drive, spread, are_lanes, is_legal_node}
use Rattle.typed_ir.proofs.Locals.{block_in_place}
use Rattle.design_steps.specs.Plans.{Plan, IsApart, IsReady, signals}
use Rattle.design_steps.specs.Statements.{stmt_code}
use Rattle.design_steps.specs.Nodes.{parts_of, as_statement, nodes_code, all_later}
use Rattle.design_steps.specs.Right.{IsLaid, IsLaidNode}
use Rattle.design_steps.proofs.Doing.{Does, does, does_none, does_both, now_is}

lanes_spread : (lanes : List Lane) (x : ℕ) (env : Valuation) → written (parts_of lanes) x env ≡ spread lanes x env
lanes_spread [] x env = refl
lanes_spread (lane ∷ lanes) x env = lanes_spread lanes x _

lanes_legal : (lanes : List Lane) (ws : List ℕ) → are_targets (parts_of lanes) ws ≡ are_lanes lanes ws
lanes_legal [] ws = refl
lanes_legal (lane ∷ lanes) ws = ap (λ b. (nat_lt lane.shift 128 && is_span lane.span ws) && b) (lanes_legal lanes ws)

in_place : (k : FlatNode) (env : Valuation) → exec (as_statement k) env ≡ drive k env env
unfolding drive
in_place (Drive form lanes e) env = lanes_spread lanes (value_of e env) env
in_place (Block shown body) env = sym (block_in_place shown body env)

pub node_legal : (k : FlatNode) (ws : List ℕ) → is_legal_node k ws ≡ true → is_legal (as_statement k) ws ≡ true
unfolding is_legal_node
node_legal (Drive form lanes e) ws h = ap (λ b. b && is_sized e ws) (lanes_legal lanes ws) ∙ h
node_legal (Block shown body) ws h = h

module _ (l : Plan) (rs : List ℕ) (n : ℕ) (apart : IsApart l rs n) where
  pub does_nodes : (nodes : List FlatNode) (mark : ℕ) (w : Valuation) → n ≤ mark → Each (IsLaidNode l rs) nodes → IsReady l rs w
      → Does l rs n apart (nodes_code l nodes mark) w mark (pass drive nodes (signals l w)) (all_later nodes (signals l w))
  does_nodes [] mark w few f r = does_none l rs n apart w mark r
  does_nodes (k ∷ ks) mark w few f r =
      let env = signals l w in
      let st = as_statement k in
      let fk : IsLaid l rs st = record { legal = node_legal k l.widths f.0.legal; alone = f.0.alone; among = f.0.among; known = f.0.known } in
      let one = does l rs n apart st mark w few fk r in
      let two = does_nodes ks mark one.after few f.1 one.ready in
      let is = now_is l rs n apart (stmt_code l st mark) w mark (exec st env) (pending st env) one ∙ in_place k env in
      does_both l rs n apart (stmt_code l st mark) (nodes_code l ks mark) w mark (exec st env) (pass drive ks (drive k env env)) (pending st env) (all_later ks (drive k env env)) one
      (subst (λ E. Does l rs n apart (nodes_code l ks mark) one.after mark (pass drive ks E) (all_later ks E)) is two)
