use Rattle.std.proofs.Common.{◌≡◌, ◌++◌, ◌<◌, ◌≤◌, [], List, Option, map, length, get_or, sym, ◌∙◌, ap, ap₂, arith}
use Rattle.typed_ir.specs.declared.instance_name.InstanceName.{InstanceName}
use Rattle.typed_ir.specs.declared.node.Node.{Node}
use Rattle.typed_ir.specs.declared.signal.Signal.{Signal}
use Rattle.typed_ir.specs.declared.span.Span.{Span}
use Rattle.typed_ir.specs.declared.target_form.TargetForm.{TargetForm}
use Rattle.typed_ir.specs.Flats.{signal_of}
use Rattle.typed_ir.specs.FlatNodes.{node_of}
use Rattle.typed_ir.specs.Linkeds.{flat}
use Rattle.typed_ir.specs.Nodes.{FlatNode}
use Rattle.typed_ir.specs.Orders.{at_or}
use Rattle.typed_ir.proofs.Lists.{at_map, at_beyond}
use Rattle.link.specs.Names.{first_target, form_of, node_text, target_text}
use Rattle.link.proofs.naming.text_of_node.Goals as goal

pub returns-then-at-nodes : goal.returns-then-at-nodes
unfolding node_text
returns-then-at-nodes c =
    let nodes = c.args.design.now.nodes.items in
    let same : length c.deref-nodes.result.now ≡ length nodes = ap (λ (zs : List Node). length zs) c.deref-nodes.ensures.value in
    let far : length nodes ≤ c.index-at.result = omega (arith, same, c.if-at-nodes.true) in
    let F = λ (n : FlatNode). target_text c.args.names.now (flat c.args.design.now).signals (form_of n) (first_target n) in
    c.new-text.ensures.items ∙ sym (ap (at_or F [] (map node_of nodes)) (sym c.index-at.ensures) ∙ at_beyond F [] node_of nodes c.index-at.result far)

pub returns : goal.returns
unfolding node_text
returns c =
    let design = c.args.design.now in
    let texts = c.args.names.now in
    let nodes = design.nodes.items in
    let at = c.index-at.result in
    let x = c.index-nodes-at.result in
    let same : length c.deref-nodes.result.now ≡ length nodes = ap (λ (zs : List Node). length zs) c.deref-nodes.ensures.value in
    let near : at < length nodes = omega (arith, same, c.if-at-nodes.false) in
    let is : x ≡ get_or nodes at x = c.index-nodes-at.is ∙ ap (λ (zs : List Node). get_or zs at x) c.deref-nodes.ensures.value in
    let F = λ (n : FlatNode). target_text texts (flat design).signals (form_of n) (first_target n) in
    c.in_ok-push_target.ensures
    ∙ ap (λ zs. zs ++ target_text texts (map (signal_of c.deref.result.now) c.deref-2.result.now) c.form_of.result c.first_target.result) c.new-text.ensures.items
    ∙ ap₂ (λ (rows : List InstanceName) (signals : List Signal). target_text texts (map (signal_of rows) signals) c.form_of.result c.first_target.result)
    c.deref.ensures.value c.deref-2.ensures.value
    ∙ ap₂ (λ (f : TargetForm) (s : Option Span). target_text texts (flat design).signals f s) c.form_of.ensures c.first_target.ensures
    ∙ sym (ap (at_or F [] (map node_of nodes)) (sym c.index-at.ensures) ∙ at_map F [] node_of nodes at x near is)
