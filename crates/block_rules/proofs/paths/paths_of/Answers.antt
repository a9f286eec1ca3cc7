use Rattle.std.proofs.Common.{◌≡◌, ◌<◌, ◌||◌, ◌&&◌, not, ◌++◌, ◌∙◌, ℕ, [], List, Bool, length, ap, sym, subst}
use Rattle.typed_ir.specs.declared.touch.Touch.{Touch}
use Rattle.typed_ir.specs.Valuations.{any_within}
use Rattle.typed_ir.specs.Stmts.{targets, known_after}
use Rattle.typed_ir.specs.Statements.{stmt_of}
use Rattle.typed_ir.specs.Touches.{touched}
use Rattle.block_rules.specs.Paths.{places_of_true, reads_early, is_open}
use Rattle.block_rules.specs.Tables.{bits_of, is_named, Leads}
use Rattle.block_rules.proofs.Leading.{back}
use Rattle.block_rules.proofs.Called.{written_is, flags_are, latches_are, emptied}
use Rattle.block_rules.proofs.paths.paths_of.Goals as goal

-- what the walk over the targets and the walk through the block lead to, from the call on
pub written_leads : (c : goal.After-drop-spans-2) → Leads c.args.tables.now.written c.learn_spans.new.table [] c.learn_spans.new.learned.items (bits_of c.learn_spans.new.table)
    (λ s i. bits_of c.args.tables.now.written s i || any_within (targets (stmt_of c.args.body.now)) s i)
written_leads c =
    let w0 = c.args.tables.now.written in
    let w1 = c.learn_spans.new.table in
    let touches = c.learn_spans.new.learned.items in
    subst (λ spans. Leads w0 w1 [] touches (bits_of w1) (λ s i. bits_of w0 s i || any_within spans s i)) (c.deref.ensures.value ∙ c.in_ok-spans.ensures)
    (subst (λ ts. Leads w0 w1 ts touches (bits_of w1) (λ s i. bits_of w0 s i || any_within c.deref.result.now s i)) c.new-touches.ensures.items c.in_ok-learn_spans.ensures)

pub known_leads : (c : goal.After-drop-spans-2) → Leads c.args.tables.now.known c.walk.new.known [] c.walk.new.learned.items (bits_of c.walk.new.known)
    (known_after (stmt_of c.args.body.now) (bits_of c.args.tables.now.known))
known_leads c =
    let k0 = c.args.tables.now.known in
    let k1 = c.walk.new.known in
    subst (λ ts. Leads k0 k1 ts c.walk.new.learned.items (bits_of k1) (known_after (stmt_of c.args.body.now) (bits_of k0))) c.new-learned.ensures.items c.in_ok-walk.ensures.known

pub writes : (c : goal.After-drop-spans-2) → (s i : ℕ) → i < 128 → bits_of c.learn_spans.new.table s i ≡ any_within (targets (stmt_of c.args.body.now)) s i
writes c =
    written_is c.args.tables.now.written c.learn_spans.new.table c.learn_spans.new.learned.items (length c.args.tables.now.known.masks.items) (stmt_of c.args.body.now)
    c.requires.blank.written c.requires.blank.same c.requires.here (written_leads c)

pub returns-clause-early : goal.returns-clause-early
returns-clause-early c =
    let st = stmt_of c.args.body.now in
    let w1 = c.learn_spans.new.table in
    let k0 = c.args.tables.now.known in
    c.in_ok-early.ensures
    ∙ ap places_of_true
    (c.deref-2.ensures.value ∙ c.in_ok-walk.ensures.flags
    ∙ ap (λ (fs : List Bool). fs ++ reads_early (bits_of w1) st (bits_of k0)) c.new-flags.ensures.items
    ∙ flags_are w1 k0 st (writes c) c.requires.blank.known)

pub returns-clause-unwritten : goal.returns-clause-unwritten
returns-clause-unwritten c = λ s.
    let st = stmt_of c.args.body.now in
    let w0 = c.args.tables.now.written in
    let w1 = c.learn_spans.new.table in
    let k0 = c.args.tables.now.known in
    let k1 = c.walk.new.known in
    let touches = c.learn_spans.new.learned.items in
    c.in_ok-unwritten.ensures.found s
    ∙ ap (λ (ts : List Touch). is_named ts s && is_open (bits_of w1) (bits_of k1) s) c.deref-3.ensures.value
    ∙ latches_are w0 w1 k0 k1 touches c.walk.new.learned.items (bits_of w1) (λ s i. bits_of w0 s i || any_within (targets st) s i) st
    ((written_leads c).size ∙ c.requires.blank.same) (writes c) c.requires.blank.written c.requires.blank.known (written_leads c) (known_leads c) s

pub returns-clause-blank : goal.returns-clause-blank
returns-clause-blank c =
    let st = stmt_of c.args.body.now in
    let w0 = c.args.tables.now.written in
    let w1 = c.learn_spans.new.table in
    let k0 = c.args.tables.now.known in
    let k1 = c.walk.new.known in
    let w2 = c.take_signals.new.written in
    let k2 = c.forget.new.table in
    record {
      written = emptied w0 w1 w2 c.learn_spans.new.learned.items (bits_of w1) (λ s i. bits_of w0 s i || any_within (targets st) s i) c.requires.blank.written
          (written_leads c)
          (λ s i. c.in_ok-unwritten.ensures.bits s i ∙ ap (λ (ts : List Touch). bits_of w1 s i && not (is_named ts s)) c.deref-3.ensures.value);
      known = back k0 k1 k2 c.walk.new.learned.items (bits_of k1) (known_after st (bits_of k0)) (known_leads c)
          (λ s i. c.forget.ensures.bits s i ∙ ap (λ (ts : List Touch). bits_of k1 s i && not (touched ts s i)) c.deref-4.ensures.value)
          ∙ c.requires.blank.known;
      same = c.in_ok-unwritten.ensures.size ∙ (written_leads c).size ∙ c.requires.blank.same ∙ sym (c.forget.ensures.size ∙ (known_leads c).size);
    }
