use Rattle.std.proofs.Common.{◌≡◌, ◌<◌, List, length, sym, ◌∙◌, ap, subst}
use Rattle.std.proofs.Math.Logic.{∥∥₁_elim, ∥∥₁_map}
use Rattle.std.proofs.Props.{props}
use Rattle.typed_ir.specs.Rows.{row_in}
use Rattle.typed_ir.specs.declared.instance.Instance.{Instance}
use Rattle.link.specs.Copies.{kids_in, places_of}
use Rattle.link.specs.Listings.{all_parts, entries_of}
use Rattle.link.proofs.Forests.{rooted}
use Rattle.link.proofs.Making.{Given, flat_is, keeps, few_nodes, signals_there}
use Rattle.link.proofs.flattening.flattened.Goals as goal

pub invariant_of-result : goal.invariant_of-result
invariant_of-result c =
    record { rooted = rooted c.args.tree.now.instances.items c.in_ok-rows.rows.items (c.in_ok-rows.ensures ∙ ap places_of c.deref.ensures.value) c.args.tree.now.depth_first }

pub invariant_of-result-2 : goal.invariant_of-result-2
invariant_of-result-2 c =
    let xs = c.args.tree.now.instances.items in
    let copies = c.in_ok-copies.copies in
    let g : Given xs c.args.units.now c.in_ok-rows.rows.items c.deref-3.result.now copies.signals.items copies.registers.items c.in_ok-inputs.inputs.items copies.nodes.items copies.clocked.items =
    record {
      are = c.requires;
      first = c.args.tree.now.depth_first;
      rows_is = c.in_ok-rows.ensures ∙ ap places_of c.deref.ensures.value;
      kids_is = λ k h.
          ap (λ rows. row_in rows k) c.deref-3.ensures.value
          ∙ subst (λ (zs : List Instance). row_in c.in_ok-kids.kids.items k ≡ kids_in k 0 (entries_of zs (all_parts c.args.units.now))) c.deref-2.ensures.value
          (c.in_ok-kids.ensures k (subst (λ (zs : List Instance). k < length zs) (sym c.deref-2.ensures.value) h));
      few = sym c.are_few.ensures ∙ c.if-not-are_few.false;
      signals_is = c.in_ok-copies.ensures.signals;
      there = c.in_ok-copies.ensures.there;
      registers_is = c.in_ok-copies.ensures.registers;
      inputs_is = c.in_ok-inputs.ensures;
      nodes_is = c.in_ok-copies.ensures.nodes;
      clocked_is = c.in_ok-copies.ensures.clocked;
    } in
    record {
      signals_there = signals_there g;
      legal = ∥∥₁_elim (keeps g) (hlevel props) (λ k. k.legal);
      blocks = ∥∥₁_elim (keeps g) (hlevel props) (λ k. k.blocks);
      registers_there = ∥∥₁_elim (keeps g) (hlevel props) (λ k. k.registers_there);
      inputs_there = ∥∥₁_elim (keeps g) (hlevel props) (λ k. k.inputs_there);
      few = few_nodes g;
      sound = ∥∥₁_map (keeps g) (λ k. k.sound);
    }

pub returns : goal.returns
returns c = λ t is.
    let xs = c.args.tree.now.instances.items in
    let copies = c.in_ok-copies.copies in
    let g : Given xs c.args.units.now c.in_ok-rows.rows.items c.deref-3.result.now copies.signals.items copies.registers.items c.in_ok-inputs.inputs.items copies.nodes.items copies.clocked.items =
    record {
      are = c.requires;
      first = c.args.tree.now.depth_first;
      rows_is = c.in_ok-rows.ensures ∙ ap places_of c.deref.ensures.value;
      kids_is = λ k h.
          ap (λ rows. row_in rows k) c.deref-3.ensures.value
          ∙ subst (λ (zs : List Instance). row_in c.in_ok-kids.kids.items k ≡ kids_in k 0 (entries_of zs (all_parts c.args.units.now))) c.deref-2.ensures.value
          (c.in_ok-kids.ensures k (subst (λ (zs : List Instance). k < length zs) (sym c.deref-2.ensures.value) h));
      few = sym c.are_few.ensures ∙ c.if-not-are_few.false;
      signals_is = c.in_ok-copies.ensures.signals;
      there = c.in_ok-copies.ensures.there;
      registers_is = c.in_ok-copies.ensures.registers;
      inputs_is = c.in_ok-inputs.ensures;
      nodes_is = c.in_ok-copies.ensures.nodes;
      clocked_is = c.in_ok-copies.ensures.clocked;
    } in
    flat_is g t is
