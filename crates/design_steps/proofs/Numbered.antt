-- Nodes that are taken by their numbers.
use Rattle.std.proofs.Common.{◌≡◌, ℕ, zero, suc, ◌+◌, ◌<◌, List, [], ◌∷◌, ◌++◌, map, length, get_or, drop, append_assoc, sym, ap, ◌∙◌, arith}
use Rattle.word_steps.specs.declared.step.Step.{Step}
use Rattle.typed_ir.specs.declared.node.Node.{Node}
use Rattle.typed_ir.specs.FlatNodes.{node_of}
use Rattle.typed_ir.proofs.Lists.{drop_split}
use Rattle.design_steps.specs.Plans.{Plan}
use Rattle.design_steps.specs.Statements.{stmt_code}
use Rattle.design_steps.specs.Nodes.{as_statement, nodes_code, node_at, in_order}

node_read : (nodes : List Node) (k : ℕ) (x : Node) → k < length nodes → x ≡ get_or nodes k x → node_at (map node_of nodes) k ≡ node_of x ∷ []
node_read [] k x h is = absurd (omega (arith, h))
node_read (y ∷ ys) zero x h is = ap (λ z. node_of z ∷ []) (sym is)
node_read (y ∷ ys) (suc k) x h is = node_read ys k x (omega (arith, h)) is

-- one more node of an order
pub node_more : (l : Plan) (nodes : List Node) (order : List ℕ) (k : ℕ) (x : Node) (mark : ℕ) (old mid new : List Step) → k < length order
    → get_or order k 0 < length nodes → x ≡ get_or nodes (get_or order k 0) x
    → new ≡ stmt_code l (as_statement (node_of x)) mark ++ mid
    → mid ≡ nodes_code l (in_order (map node_of nodes) (drop (k + 1) order)) mark ++ old
    → new ≡ nodes_code l (in_order (map node_of nodes) (drop k order)) mark ++ old
node_more l nodes order k x mark old mid new h there is one rest =
    let own = stmt_code l (as_statement (node_of x)) mark in
    let others = in_order (map node_of nodes) (drop (k + 1) order) in
    one
    ∙ ap (λ t. own ++ t) rest
    ∙ sym (append_assoc own (nodes_code l others mark) old)
    ∙ ap (λ ns. nodes_code l (ns ++ others) mark ++ old) (sym (node_read nodes (get_or order k 0) x there is))
    ∙ ap (λ ks. nodes_code l (in_order (map node_of nodes) ks) mark ++ old) (sym (drop_split order k 0 h))
