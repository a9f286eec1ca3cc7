use Rattle.std.proofs.Common.{◌≡◌, ◌<◌, ◌^◌, ◌+◌, ◌++◌, ◌∷◌, [], map, length, ap, ◌∙◌, arith}
use Rattle.std.proofs.lemmas.List.{map-append, length-map}
use Rattle.gen_unroll.specs.SignalViews.{signal_of}
use Rattle.gen_unroll.specs.NumberingViews.{numbered_in}
use Rattle.gen_unroll.proofs.Growth.{numbered_more}
use Rattle.gen_unroll.proofs.adding.add.Goals as goal

pub returns-clause-numbered : goal.returns-clause-numbered
returns-clause-numbered c =
    let items = c.args.numbering.now.signals.items in
    let same = length-map items signal_of in
    let last : c.len-count.result ≡ length (numbered_in c.args.numbering.now) = omega (arith, same, c.len-count.ensures) in
    let few : c.len-count.result + 1 < 2 ^ 32 = omega (arith, c.if-count.false) in
    let all : map signal_of c.push.new.self.items ≡ map signal_of items ++ signal_of c.args.signal ∷ [] =
    ap (map signal_of) c.in_ok-push.ensures.items ∙ map-append signal_of items (c.args.signal ∷ []) in
    numbered_more c.args.numbering.now _ (signal_of c.args.signal) c.len-count.result c.requires last few all
    c.in_ok-note_own.ensures c.in_ok-note.ensures c.in_ok-note_block.ensures
