use Rattle.std.proofs.Common.{◌≡◌, ◌++◌, ◌∷◌, [], ℕ, false, List, OnOk, refl, ap₂, sym, ◌∙◌, subst, arith}
use Rattle.std.proofs.lemmas.List.{length-map}
use Rattle.typed_ir.specs.declared.signal_kind.SignalKind.{SignalKind}
use Rattle.gen_unroll.specs.Views.{bit_range_of, here_of}
use Rattle.std.specs.Option.{option_map}
use Rattle.gen_unroll.specs.Signals.{NamedSignal, completes}
use Rattle.gen_unroll.specs.SignalViews.{signal_of}
use Rattle.gen_unroll.specs.TableViews.{signals_of}
use Rattle.gen_unroll.proofs.Searching.{place_within, put_last}
use Rattle.gen_unroll.proofs.Completing.{completed_there, completed_kept}
use Rattle.gen_unroll.proofs.declaring.declare_net.Goals as goal

pub index-requires : goal.index-requires
index-requires c =
    let below = place_within (completes (here_of c.args.here) c.args.name.name.0) (signals_of c.args.table.now) c.in-Some.place (sym c.port_at.ensures ∙ c.in-Some.is) in
    let same = length-map c.args.table.now.signals.items signal_of in
    omega (arith, below, same)

pub index_mut-requires : goal.index_mut-requires
index_mut-requires c =
    let below = place_within (completes (here_of c.args.here) c.args.name.name.0) (signals_of c.args.table.now) c.in-Some.place (sym c.port_at.ensures ∙ c.in-Some.is) in
    let same = length-map c.args.table.now.signals.items signal_of in
    omega (arith, below, same)

pub returns-in-Some-clause-signals : goal.returns-in-Some-clause-signals
returns-in-Some-clause-signals c =
    completed_there c.args.table.now.signals.items c.in-Some.place c.index.result.now c.completed-port.result c.args.net _
    (sym c.port_at.ensures ∙ c.in-Some.is) c.index.ensures c.completed-port.ensures refl

pub returns-in-Some-clause-placed : goal.returns-in-Some-clause-placed
returns-in-Some-clause-placed c = record {
  found = λ q. c.requires.found q
      ∙ sym (completed_kept c.args.table.now.signals.items c.in-Some.place c.index.result.now c.completed-port.result c.args.net q
      (place_within (completes (here_of c.args.here) c.args.name.name.0) (signals_of c.args.table.now) c.in-Some.place (sym c.port_at.ensures ∙ c.in-Some.is))
      c.index.ensures c.completed-port.ensures);
}

pub returns-in_ok-order-in-None-clause-signals : goal.returns-in_ok-order-in-None-clause-signals
returns-in_ok-order-in-None-clause-signals c =
    let old = signals_of c.args.table.now in
    subst (λ (zs : List NamedSignal). OnOk c.push.result (signals_of c.push.new.table ≡ zs))
    (ap₂ (λ (k : SignalKind) (n : ℕ). old ++ record {
      block = here_of c.args.here;
      name = c.args.name;
      kind = k;
      range = option_map bit_range_of c.args.range;
      signed = c.args.signed;
      port = false;
      net = c.args.net;
      order = n;
    } ∷ []) c.kind_of_net-kind.ensures c.in_ok-order-in-None.ensures
    ∙ sym (put_last _ old (sym c.in-None.is ∙ c.port_at.ensures)))
    c.push.ensures.signals
