use Rattle.std.proofs.Common.{◌≡◌, ◌∙◌, ◌+◌, ◌≤◌, ◌<◌, ◌^◌, ℕ, List, ◌++◌, length, replicate, refl, sym, ap, subst, arith}
use denote.Param.Send.{sendable}
use Rattle.std.specs.List.{All}
use Rattle.std.proofs.Crossing.{crosses}
use Rattle.std.proofs.lemmas.List.Elements.{All-append, All-replicate}
use Rattle.command_read.specs.Asking.{Runs}
use Rattle.module_registry.specs.Entries.{Entry}
use Rattle.stimulus.specs.Records.{limit_of, rows_of}
use Rattle.stimulus.specs.Rows.{AreAscending, names_set, are_same as same_numbers}
use Rattle.wave_report.specs.Replies.{run_text}
use Rattle.live_session.specs.Logs.{InputRow, book_in}
use Rattle.live_session.specs.Runs.{rows_behind}
use Rattle.live_session.specs.Turns.{Accepts}
use Rattle.live_session.specs.declared.running.Running.{Running}
use Rattle.live_session.proofs.AscendingRows.{AreWithin}
use Rattle.cycle_eval.proofs.DesignsShared.{design_send, design_sync}
use Rattle.checkpoint_book.proofs.Draws.{when_err}
use Rattle.live_session.proofs.Judged.{stops_still, world_with}
use Rattle.live_session.proofs.JudgedRuns.{RunsOn, no_code, ran_on, room_there, run_accepted, run_refused, run_stands}
use Rattle.live_session.proofs.KeptRuns.{kept_on}
use Rattle.live_session.proofs.RefusedRuns.{refused_late, refused_long, refused_none}
use Rattle.live_session.proofs.RefusedShows.{refused_stops}
use Rattle.live_session.proofs.RunRows.{cut_back, length_run}
use Rattle.live_session.proofs.ShownTables.{cycle_there, opened_there}
use Rattle.live_session.proofs.Standing.{adds_none, adds_nothing, stands_back, stands_still}
use Rattle.live_session.proofs.running.Running.run.Goals as goal

pub legal-requires-send-M : goal.legal-requires-send-M
legal-requires-send-M g c κs = search (design_send, sendable, crosses) depth 40

pub legal-requires-sync-M : goal.legal-requires-sync-M
legal-requires-sync-M g c κs = search (design_sync, sendable, crosses) depth 40

pub returns-then-cycles-eq0-clause-answers : goal.returns-then-cycles-eq0-clause-answers
returns-then-cycles-eq0-clause-answers g c =
    let r = c.args.self.now in
    let n = c.args.cycles in
    let names = c.args.names.now in
    refused_none names c.has_each_once.ensures c.args.limits r c.args.book.now c.args.line n c.refused_line.result
    (omega (arith, c.if-cycles-eq0.true))
    c.refused_line.ensures

pub returns-then-cycles-eq0-clause-stops : goal.returns-then-cycles-eq0-clause-stops
returns-then-cycles-eq0-clause-stops g c =
    refused_stops c.args.names.now c.args.limits (Runs c.args.line c.args.cycles) c.args.self.now c.args.book.now c.refused_line.result

pub returns-then-cycles-gt-MAX_RUN-clause-answers : goal.returns-then-cycles-gt-MAX_RUN-clause-answers
returns-then-cycles-gt-MAX_RUN-clause-answers g c =
    let r = c.args.self.now in
    let n = c.args.cycles in
    let names = c.args.names.now in
    refused_long names c.has_each_once.ensures c.args.limits r c.args.book.now c.args.line n c.refused_line-then-cycles-gt-MAX_RUN.result
    (omega (arith, c.if-cycles-gt-MAX_RUN.true)) c.refused_line-then-cycles-gt-MAX_RUN.ensures

pub returns-then-cycles-gt-MAX_RUN-clause-stops : goal.returns-then-cycles-gt-MAX_RUN-clause-stops
returns-then-cycles-gt-MAX_RUN-clause-stops g c =
    refused_stops c.args.names.now c.args.limits (Runs c.args.line c.args.cycles) c.args.self.now c.args.book.now
    c.refused_line-then-cycles-gt-MAX_RUN.result

pub returns-then-from-cycles-clause-answers : goal.returns-then-from-cycles-clause-answers
returns-then-from-cycles-clause-answers g c =
    let r = c.args.self.now in
    let n = c.args.cycles in
    let names = c.args.names.now in
    let some : 1 ≤ n = omega (arith, c.if-cycles-eq0.false) in
    let over : c.args.limits.cycles < length (rows_of r.record_) + n = omega (arith, c.if-from-cycles.true, c.len-from.ensures) in
    refused_late names c.has_each_once.ensures c.args.limits r c.args.book.now c.args.line n c.refused_line-then-from-cycles.result some
    c.if-cycles-gt-MAX_RUN.false over c.refused_line-then-from-cycles.ensures

pub returns-then-from-cycles-clause-stops : goal.returns-then-from-cycles-clause-stops
returns-then-from-cycles-clause-stops g c =
    refused_stops c.args.names.now c.args.limits (Runs c.args.line c.args.cycles) c.args.self.now c.args.book.now
    c.refused_line-then-from-cycles.result

pub returns-in_err-reply-clause-stops : goal.returns-in_err-reply-clause-stops
returns-in_err-reply-clause-stops g c =
    refused_stops c.args.names.now c.args.limits (Runs c.args.line c.args.cycles) c.args.self.now c.args.book.now c.from_residual.result

pub returns-in_err-code-clause-stops : goal.returns-in_err-code-clause-stops
returns-in_err-code-clause-stops g c =
    let r = c.args.self.now in
    let before : rows_of c.recorded.new.record_ ≡ rows_of r.record_ = c.in_err-code.ensures.before in
    let new : Running = record r {
      record_ = c.recorded.new.record_;
      in_range = subst (λ (rs : List InputRow). length rs ≤ 2 ^ 40) (sym before) r.in_range;
      rows_ascend = subst (All AreAscending) (sym before) r.rows_ascend;
    } in
    when_err c.from_residual-in_err-code.result
    (stops_still c.args.names.now c.args.limits (Runs c.args.line c.args.cycles) r new c.args.book.now c.args.book.now (adds_nothing c.args.book.now)
    (λ (entries : List Entry) (grid : List ℕ). ap (world_with c.args.names.now entries grid r) c.in_err-code.ensures.before))

pub returns-in_err-code-clause-stands : goal.returns-in_err-code-clause-stands
returns-in_err-code-clause-stands g c =
    let s = c.requires.stands.outline in
    stands_still c.args.limits c.args.self.now _ c.args.book.now
    (record { version = s.version; machine = s.machine; rows = s.rows ∙ sym c.in_err-code.ensures.before }) (omega arith) c.requires.stands

pub returns-in-Some-clause-answers : goal.returns-in-Some-clause-answers
returns-in-Some-clause-answers g c =
    let r = c.args.self.now in
    let n = c.args.cycles in
    let names = c.args.names.now in
    let some : 1 ≤ n = omega (arith, c.if-cycles-eq0.false) in
    let below : length (rows_of r.record_) + n ≤ c.args.limits.cycles = omega (arith, c.if-from-cycles.false, c.len-from.ensures) in
    let more = replicate n r.row.value in
    let rows : rows_of c.recorded.new.record_ ≡ rows_of r.record_ =
    c.in_ok-code.ensures.rows ∙ ap (λ o. rows_behind o (rows_of r.record_) more) c.in-Some.is in
    let new : Running = record r {
      record_ = c.recorded.new.record_;
      in_range = subst (λ (rs : List InputRow). length rs ≤ 2 ^ 40) (sym rows) r.in_range;
      rows_ascend = subst (All AreAscending) (sym rows) r.rows_ascend;
    } in
    run_refused names c.has_each_once.ensures c.args.limits r c.requires.kept c.args.line n some c.if-cycles-gt-MAX_RUN.false below
    _ refl c.in_ok-code.field-0 c.in_ok-code.ensures.code new c.in-Some.code c.refused_line-in-Some.result
    c.args.book.now c.in-Some.is
    (λ (entries : List Entry) (grid : List ℕ). ap (world_with names entries grid r) rows) c.refused_line-in-Some.ensures

pub returns-in-Some-clause-stops : goal.returns-in-Some-clause-stops
returns-in-Some-clause-stops g c =
    let r = c.args.self.now in
    let n = c.args.cycles in
    let names = c.args.names.now in
    let more = replicate n r.row.value in
    let rows : rows_of c.recorded.new.record_ ≡ rows_of r.record_ =
    c.in_ok-code.ensures.rows ∙ ap (λ o. rows_behind o (rows_of r.record_) more) c.in-Some.is in
    let new : Running = record r {
      record_ = c.recorded.new.record_;
      in_range = subst (λ (rs : List InputRow). length rs ≤ 2 ^ 40) (sym rows) r.in_range;
      rows_ascend = subst (All AreAscending) (sym rows) r.rows_ascend;
    } in
    when_err c.refused_line-in-Some.result
    (stops_still names c.args.limits (Runs c.args.line c.args.cycles) r new c.args.book.now c.args.book.now (adds_nothing c.args.book.now)
    (λ (entries : List Entry) (grid : List ℕ). ap (world_with names entries grid r) rows))

pub returns-in-Some-clause-stands : goal.returns-in-Some-clause-stands
returns-in-Some-clause-stands g c =
    let r = c.args.self.now in
    let n = c.args.cycles in
    let names = c.args.names.now in
    let more = replicate n r.row.value in
    let rows : rows_of c.recorded.new.record_ ≡ rows_of r.record_ =
    c.in_ok-code.ensures.rows ∙ ap (λ o. rows_behind o (rows_of r.record_) more) c.in-Some.is in
    let s = c.requires.stands.outline in
    stands_still c.args.limits r _ c.args.book.now (record { version = s.version; machine = s.machine; rows = s.rows ∙ sym rows }) (omega arith)
    c.requires.stands

pub advance_or_cut-requires-clause-opened : goal.advance_or_cut-requires-clause-opened
advance_or_cut-requires-clause-opened g c =
    opened_there c.args.self.now (book_in c.args.book.now) c.requires.stands.outline

pub advance_or_cut-requires-clause-starts : goal.advance_or_cut-requires-clause-starts
advance_or_cut-requires-clause-starts g c =
    c.len-from.ensures ∙ sym (cycle_there c.args.self.now (book_in c.args.book.now) c.requires.stands.outline)

pub returns-in-Ok-clause-answers : goal.returns-in-Ok-clause-answers
returns-in-Ok-clause-answers g c =
    let r = c.args.self.now in
    let n = c.args.cycles in
    let names = c.args.names.now in
    let rows = rows_of r.record_ in
    let more = replicate n r.row.value in
    let none = no_code c.in_ok-code.field-0 c.in_default.not-Some in
    let some : 1 ≤ n = omega (arith, c.if-cycles-eq0.false) in
    let below : length rows + n ≤ c.args.limits.cycles = omega (arith, c.if-from-cycles.false, c.len-from.ensures) in
    let all : rows_of c.recorded.new.record_ ≡ rows ++ more = c.in_ok-code.ensures.rows ∙ ap (λ o. rows_behind o rows more) none in
    let behind : rows_of c.advance_or_cut.new.record_ ≡ rows ++ more = c.in-Ok.ensures.rows ∙ all in
    let many : length (rows ++ more) ≤ 2 ^ 40 = omega (arith, length_run rows r.row.value n, below, c.requires.most) in
    let new : Running = record r {
      record_ = c.advance_or_cut.new.record_;
      charge = r.charge + 1;
      in_range = subst (λ (rs : List InputRow). length rs ≤ 2 ^ 40) (sym behind) many;
      rows_ascend = subst (All AreAscending) (sym behind)
          (All-append AreAscending rows more r.rows_ascend (All-replicate AreAscending n r.row.value r.row_ascends));
    } in
    let on : RunsOn r new more =
    record { version = refl; machine = refl; record_ = c.in-Ok.ensures.rows ∙ all; charge = refl; world = λ ns es grid. refl } in
    let adds = ran_on c.args.book.now c.advance_or_cut.new.book rows r.row.value n c.len-from.result (rows_of c.recorded.new.record_)
    c.len-from.ensures all c.advance_or_cut.ensures.settings c.in-Ok.ensures.ok in
    let says = subst (λ (k : ℕ). Accepts (run_text (k + n)) c.in_ok-reply.reply) c.len-from.ensures c.in_ok-reply.ensures in
    run_accepted names c.has_each_once.ensures c.args.limits r c.requires.kept c.args.line n some c.if-cycles-gt-MAX_RUN.false below
    _ refl c.in_ok-code.field-0 c.in_ok-code.ensures.code new c.args.book.now c.advance_or_cut.new.book more none on refl adds
    c.legal.ensures c.requires.stands c.in_ok-reply.reply says

pub returns-in-Ok-clause-stands : goal.returns-in-Ok-clause-stands
returns-in-Ok-clause-stands g c =
    let r = c.args.self.now in
    let n = c.args.cycles in
    let names = c.args.names.now in
    let rows = rows_of r.record_ in
    let more = replicate n r.row.value in
    let none = no_code c.in_ok-code.field-0 c.in_default.not-Some in
    let some : 1 ≤ n = omega (arith, c.if-cycles-eq0.false) in
    let below : length rows + n ≤ c.args.limits.cycles = omega (arith, c.if-from-cycles.false, c.len-from.ensures) in
    let all : rows_of c.recorded.new.record_ ≡ rows ++ more = c.in_ok-code.ensures.rows ∙ ap (λ o. rows_behind o rows more) none in
    let adds = ran_on c.args.book.now c.advance_or_cut.new.book rows r.row.value n c.len-from.result (rows_of c.recorded.new.record_)
    c.len-from.ensures all c.advance_or_cut.ensures.settings c.in-Ok.ensures.ok in
    run_stands names c.has_each_once.ensures c.args.limits r c.requires.kept c.args.line n some c.if-cycles-gt-MAX_RUN.false below
    _ refl c.in_ok-code.field-0 c.in_ok-code.ensures.code _ c.args.book.now c.advance_or_cut.new.book more none
    (record { version = refl; machine = refl; record_ = c.in-Ok.ensures.rows ∙ all; charge = refl; world = λ ns es grid. refl }) refl adds
    c.legal.ensures c.requires.stands

pub returns-in-Ok-clause-kept : goal.returns-in-Ok-clause-kept
returns-in-Ok-clause-kept g c =
    let r = c.args.self.now in
    let n = c.args.cycles in
    let names = c.args.names.now in
    let rows = rows_of r.record_ in
    let more = replicate n r.row.value in
    let kept = c.requires.kept in
    let within = AreWithin (length names) in
    let none = no_code c.in_ok-code.field-0 c.in_default.not-Some in
    let all : rows_of c.advance_or_cut.new.record_ ≡ rows ++ more =
    c.in-Ok.ensures.rows ∙ c.in_ok-code.ensures.rows ∙ ap (λ o. rows_behind o rows more) none in
    let still : All within (rows ++ more) = All-append within rows more kept.named.rows (All-replicate within n r.row.value kept.named.row) in
    let room = room_there (limit_of r.record_) (names_set same_numbers length (rows ++ more)) r.charge c.args.limits.rooms.session
    c.in_ok-code.field-0
    c.in_ok-code.ensures.code none in
    kept_on names c.args.limits r _ kept (record { texts = refl; machine = refl; keys = refl }) kept.named.row
    (subst (All within) (sym all) still) room (c.in-Ok.ensures.limit ∙ c.in_ok-code.ensures.limit ∙ kept.stimulus)

pub returns-in-Err-clause-stops : goal.returns-in-Err-clause-stops
returns-in-Err-clause-stops g c =
    let r = c.args.self.now in
    let n = c.args.cycles in
    let names = c.args.names.now in
    let rows = rows_of r.record_ in
    let more = replicate n r.row.value in
    let none = no_code c.in_ok-code.field-0 c.in_default.not-Some in
    let all : rows_of c.recorded.new.record_ ≡ rows ++ more = c.in_ok-code.ensures.rows ∙ ap (λ o. rows_behind o rows more) none in
    let back : rows_of c.advance_or_cut.new.record_ ≡ rows =
    cut_back rows more (rows_of c.recorded.new.record_) (rows_of c.advance_or_cut.new.record_) c.len-from.result c.len-from.ensures all
    c.in-Err.ensures.before in
    let new : Running = record r {
      record_ = c.advance_or_cut.new.record_;
      in_range = subst (λ (rs : List InputRow). length rs ≤ 2 ^ 40) (sym back) r.in_range;
      rows_ascend = subst (All AreAscending) (sym back) r.rows_ascend;
    } in
    stops_still names c.args.limits (Runs c.args.line c.args.cycles) r new c.args.book.now c.advance_or_cut.new.book
    (adds_none c.args.book.now c.advance_or_cut.new.book c.advance_or_cut.ensures.settings c.in-Err.ensures.err)
    (λ (entries : List Entry) (grid : List ℕ). ap (world_with names entries grid r) back)

pub returns-in-Err-clause-stands : goal.returns-in-Err-clause-stands
returns-in-Err-clause-stands g c =
    let r = c.args.self.now in
    let n = c.args.cycles in
    let names = c.args.names.now in
    let rows = rows_of r.record_ in
    let more = replicate n r.row.value in
    let none = no_code c.in_ok-code.field-0 c.in_default.not-Some in
    let all : rows_of c.recorded.new.record_ ≡ rows ++ more = c.in_ok-code.ensures.rows ∙ ap (λ o. rows_behind o rows more) none in
    let back : rows_of c.advance_or_cut.new.record_ ≡ rows =
    cut_back rows more (rows_of c.recorded.new.record_) (rows_of c.advance_or_cut.new.record_) c.len-from.result c.len-from.ensures all
    c.in-Err.ensures.before in
    stands_back c.args.limits r _ c.args.book.now c.advance_or_cut.new.book c.advance_or_cut.ensures.settings c.in-Err.ensures.err
    (record { version = refl; machine = refl; rows = back }) (omega arith) c.requires.stands

pub returns-in-Err-clause-kept : goal.returns-in-Err-clause-kept
returns-in-Err-clause-kept g c =
    let r = c.args.self.now in
    let n = c.args.cycles in
    let names = c.args.names.now in
    let rows = rows_of r.record_ in
    let more = replicate n r.row.value in
    let none = no_code c.in_ok-code.field-0 c.in_default.not-Some in
    let all : rows_of c.recorded.new.record_ ≡ rows ++ more = c.in_ok-code.ensures.rows ∙ ap (λ o. rows_behind o rows more) none in
    let back : rows_of c.advance_or_cut.new.record_ ≡ rows =
    cut_back rows more (rows_of c.recorded.new.record_) (rows_of c.advance_or_cut.new.record_) c.len-from.result c.len-from.ensures all
    c.in-Err.ensures.before in
    let kept = c.requires.kept in
    kept_on names c.args.limits r _ kept (record { texts = refl; machine = refl; keys = refl }) kept.named.row
    (subst (All (AreWithin (length names))) (sym back) kept.named.rows) kept.charge
    (c.in-Err.ensures.limit ∙ c.in_ok-code.ensures.limit ∙ kept.stimulus)
