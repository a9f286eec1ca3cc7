use Rattle.std.proofs.Common.{◌≡◌, ◌++◌, ◌∷◌, [], map, ap, sym, ◌∙◌}
use Rattle.std.proofs.lemmas.List.{map-append}
use Rattle.gen_unroll.specs.Signals.{is_port_named}
use Rattle.gen_unroll.specs.Numbers.{place_where}
use Rattle.gen_unroll.specs.SignalViews.{signal_of}
use Rattle.gen_unroll.specs.TableViews.{signals_of}
use Rattle.gen_unroll.proofs.Searching.{found_port, found_none}
use Rattle.gen_unroll.proofs.declaring.push.Goals as goal

pub returns-in_ok-note-clause-placed : goal.returns-in_ok-note-clause-placed
returns-in_ok-note-clause-placed c =
    let old = c.args.table.now in
    let all : map signal_of c.push.new.self.items ≡ signals_of old ++ signal_of c.args.signal ∷ [] =
    ap (map signal_of) c.in_ok-push.ensures.items ∙ map-append signal_of old.signals.items (c.args.signal ∷ []) in
    record {
      found = λ q. found_port old.ports c.note.new.self (signals_of old) (signal_of c.args.signal) c.args.signal.order c.requires.placed.found c.in_ok-note.ensures
          c.requires.last (sym c.is_port.ensures ∙ c.if-is_port.true) q
          ∙ ap (place_where (is_port_named q)) (sym all);
    }

pub returns-else-is_port-clause-placed : goal.returns-else-is_port-clause-placed
returns-else-is_port-clause-placed c =
    let old = c.args.table.now in
    let all : map signal_of c.push.new.self.items ≡ signals_of old ++ signal_of c.args.signal ∷ [] =
    ap (map signal_of) c.in_ok-push.ensures.items ∙ map-append signal_of old.signals.items (c.args.signal ∷ []) in
    record {
      found = λ q. found_none old.ports (signals_of old) (signal_of c.args.signal) c.requires.placed.found (sym c.is_port.ensures ∙ c.if-is_port.false) q
          ∙ ap (place_where (is_port_named q)) (sym all);
    }
