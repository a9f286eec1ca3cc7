use Rattle.std.proofs.Common.{◌≡◌, ◌++◌, ap, sym, ◌∙◌, append-nil, OnOk, subst, arith}
use Rattle.std.specs.Prelude.{Option}
use Rattle.std.specs.Option.{option_to_list}
use Rattle.std.proofs.lemmas.List.{length-map}
use Rattle.gen_unroll.specs.NumberingViews.{numbered_in}
use Rattle.gen_unroll.specs.Signals.{NamedSignal, is_port_named}
use Rattle.gen_unroll.specs.SignalViews.{signal_of}
use Rattle.gen_unroll.specs.TableViews.{signals_of}
use Rattle.gen_unroll.proofs.Searching.{place_within, first_nowhere}
use Rattle.gen_unroll.proofs.Completing.{port_there}
use Rattle.gen_unroll.proofs.heading.add_first.Goals as goal

pub index-requires : goal.index-requires
index-requires c =
    let q = c.args.name.name.0 in
    let below = place_within (is_port_named q) (signals_of c.args.table.now) c.in-Some.place (sym (c.requires.placed.found q) ∙ sym c.find.ensures ∙ c.in-Some.is) in
    let same = length-map c.args.table.now.signals.items signal_of in
    omega (arith, below, same)

pub returns-in-Some-clause-signals : goal.returns-in-Some-clause-signals
returns-in-Some-clause-signals c =
    let q = c.args.name.name.0 in
    subst (λ (o : Option NamedSignal). OnOk c.add.result (numbered_in c.add.new.numbering ≡ numbered_in c.args.numbering.now ++ option_to_list o))
    (sym (port_there c.args.table.now.signals.items c.in-Some.place c.index.result.now q (sym (c.requires.placed.found q) ∙ sym c.find.ensures ∙ c.in-Some.is) c.index.ensures))
    c.add.ensures.signals

pub returns-in-None-clause-signals : goal.returns-in-None-clause-signals
returns-in-None-clause-signals c =
    let q = c.args.name.name.0 in
    sym (append-nil (numbered_in c.args.numbering.now))
    ∙ ap (λ (o : Option NamedSignal). numbered_in c.args.numbering.now ++ option_to_list o)
    (sym (first_nowhere (is_port_named q) (signals_of c.args.table.now) (sym c.in-None.is ∙ c.find.ensures ∙ c.requires.placed.found q)))
