use Rattle.std.proofs.Common.{◌≡◌, ℕ, ◌∙◌, sym, arith, ap, List, [], refl, length}
use Rattle.book_history.specs.declared.segment.Segment.{Segment}
use Rattle.book_history.specs.Book.{takes, with_segs, slice}
use Rattle.book_history.specs.Law.{record_of}
use Rattle.checkpoint_book.specs.Opened.{core_of}
use Rattle.checkpoint_book.proofs.Draws.{At, place_at, slice_length, between_zero, when_err}
use Rattle.checkpoint_book.proofs.draw.draw.Goals as goal

pub rows-requires-clause-covers : goal.rows-requires-clause-covers
rows-requires-clause-covers g c κs within =
    let o = c.args.o.now in
    let here : At (takes c.args.by) o.first o.segs.items c.in-Some.i c.in-Some.a c.in-Some.start.now c.index.result.now =
    place_at _ _ _ _ _ _ _ _ c.deref.ensures.value c.in-Some.ensures.some c.index.ensures in
    let may = c.requires.drawable (c.in-Some.a, c.index.result.now.to, c.in-Some.start.now) here.found in
    record { begins = omega arith; rises = omega (arith, may.rises); ends = omega (arith, may.within) }

pub invariant_of-result : goal.invariant_of-result
invariant_of-result g c =
    let o = c.args.o.now in
    let here : At (takes c.args.by) o.first o.segs.items c.in-Some.i c.in-Some.a c.in-Some.start.now c.index.result.now =
    place_at _ _ _ _ _ _ _ _ c.deref.ensures.value c.in-Some.ensures.some c.index.ensures in
    let may = c.requires.drawable (c.in-Some.a, c.index.result.now.to, c.in-Some.start.now) here.found in
    let rows = record_of c.args.history.now.events in
    let a = c.in-Some.a in
    let b = c.index.result.now.to in
    let shared : c.in_ok-rows.rows ≡ (a, slice rows a b) =
    c.in_ok-rows.ensures ∙ ap (λ (l : List g.row.M-Row.Denot). (a, l)) (between_zero rows a b) in
    record {
      rises = omega (arith, may.rises);
      begins = ap (λ (x : ℕ × List g.row.M-Row.Denot). x.0) shared;
      ends = omega (arith, ap (λ (x : ℕ × List g.row.M-Row.Denot). length x.1) shared, slice_length rows a b (omega (arith, may.rises)) may.within, may.rises);
      fit = rw (c.in_ok-version.ensures, c.in_ok-start.ensures) may.fit;
    }

pub returns-clause-some : goal.returns-clause-some
returns-clause-some g c =
    let o = c.args.o.now in
    let here : At (takes c.args.by) o.first o.segs.items c.in-Some.i c.in-Some.a c.in-Some.start.now c.index.result.now =
    place_at _ _ _ _ _ _ _ _ c.deref.ensures.value c.in-Some.ensures.some c.index.ensures in
    let rows = record_of c.args.history.now.events in
    let a = c.in-Some.a in
    let b = c.index.result.now.to in
    let shared : c.in_ok-rows.rows ≡ (a, slice rows a b) =
    c.in_ok-rows.ensures ∙ ap (λ (l : List g.row.M-Row.Denot). (a, l)) (between_zero rows a b) in
    record {
      place = (a, b, c.in-Some.start.now);
      found = here.found;
      book = ap (λ (x : List (Segment g.row.M-State.Denot)). with_segs (core_of o rows [] []) x) (sym (here.marks c.args.number c.index_mut.result.now c.index_mut.ensures.value));
      number_is = refl;
      ticket = rw (c.in_ok-version.ensures, c.in_ok-start.ensures, shared) refl;
    }

pub returns-in_err-start-clause-err : goal.returns-in_err-start-clause-err
returns-in_err-start-clause-err g c =
    let o = c.args.o.now in
    let here : At (takes c.args.by) o.first o.segs.items c.in-Some.i c.in-Some.a c.in-Some.start.now c.index.result.now =
    place_at _ _ _ _ _ _ _ _ c.deref.ensures.value c.in-Some.ensures.some c.index.ensures in
    when_err c.from_residual.result (refl, ((c.in-Some.a, c.index.result.now.to, c.in-Some.start.now), here.found))

pub returns-in_err-rows-clause-err : goal.returns-in_err-rows-clause-err
returns-in_err-rows-clause-err g c =
    let o = c.args.o.now in
    let here : At (takes c.args.by) o.first o.segs.items c.in-Some.i c.in-Some.a c.in-Some.start.now c.index.result.now =
    place_at _ _ _ _ _ _ _ _ c.deref.ensures.value c.in-Some.ensures.some c.index.ensures in
    when_err c.from_residual-in_err-rows.result (refl, ((c.in-Some.a, c.index.result.now.to, c.in-Some.start.now), here.found))

pub returns-in_err-version-clause-err : goal.returns-in_err-version-clause-err
returns-in_err-version-clause-err g c =
    let o = c.args.o.now in
    let here : At (takes c.args.by) o.first o.segs.items c.in-Some.i c.in-Some.a c.in-Some.start.now c.index.result.now =
    place_at _ _ _ _ _ _ _ _ c.deref.ensures.value c.in-Some.ensures.some c.index.ensures in
    when_err c.from_residual-in_err-version.result (refl, ((c.in-Some.a, c.index.result.now.to, c.in-Some.start.now), here.found))
