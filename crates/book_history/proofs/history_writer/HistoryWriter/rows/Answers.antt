use Rattle.std.proofs.Common.{◌≡◌, List, IfOk, sym, ap, ◌∙◌, subst}
use Rattle.machine.specs.declared.row_run.RowRun.{RowRun}
use Rattle.book_history.specs.Law.{record_of}
use Rattle.machine.specs.Rows.{expanded, between, Covers}
use Rattle.machine.proofs.Runs.{gapless_whole}
use Rattle.book_history.proofs.Writings.{record_kept}
use Rattle.book_history.proofs.history_writer.HistoryWriter.rows.Goals as goal

pub share_between-requires-clause-gapless : goal.share_between-requires-clause-gapless
share_between-requires-clause-gapless g c = gapless_whole _ _ _ _ c.deref.ensures.value c.self.invariant.0.gapless

pub share_between-requires-clause-covers : goal.share_between-requires-clause-covers
share_between-requires-clause-covers g c =
    let m = g.M.Machine in
    let w = c.self.inside.written in
    let kept = record_kept m.kit m.valid w c.args.self.now c.self.view_is c.self.invariant.0 in
    let given : Covers (0, record_of c.args.self.now.events) c.args.a c.args.b = c.requires.covers in
    let here : Covers (0, expanded w.runs.items) c.args.a c.args.b = subst (λ (l : List g.row.M-Row.Denot). Covers (0, l) c.args.a c.args.b) (sym kept) given in
    subst (λ (l : List (RowRun g.row.M-Row.Denot)). Covers (0, expanded l) c.args.a c.args.b) (sym c.deref.ensures.value) here

pub returns : goal.returns
returns g c =
    let m = g.M.Machine in
    let w = c.self.inside.written in
    let kept = record_kept m.kit m.valid w c.args.self.now c.self.view_is c.self.invariant.0 in
    let same : expanded c.deref.result.now ≡ record_of c.args.self.now.events = ap (λ (l : List (RowRun g.row.M-Row.Denot)). expanded l) c.deref.ensures.value ∙ kept in
    subst (λ (l : List g.row.M-Row.Denot). IfOk c.share_between.result (λ r. r ≡ (c.args.a, between (0, l) c.args.a c.args.b))) same c.share_between.ensures
