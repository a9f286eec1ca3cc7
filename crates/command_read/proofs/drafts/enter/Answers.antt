use Rattle.std.proofs.Common.{sym, ap, ◌∙◌, Ok, Some}
use Rattle.ls_text.specs.Texts.{text_at}
use Rattle.command_read.specs.Spoken.{drafted}
use Rattle.command_read.proofs.Refusing.{refuses}
use Rattle.command_read.proofs.Entering.{given_twice, given_once, loaded_twice, loaded_once, load_added}
use Rattle.command_read.proofs.drafts.enter.Goals as goal

pub returns-then-has-clause-gives : goal.returns-then-has-clause-gives
returns-then-has-clause-gives c = λ names once all within.
    refuses names c.naming.result _ _ (c.naming.ensures.fault names)
    (given_twice names once c.args.draft.now c.args.line c.in-File.name c.args.said c.has.result all c.has.ensures c.in-File.is within c.if-has.true)

pub returns-then-has-2-clause-gives : goal.returns-then-has-2-clause-gives
returns-then-has-2-clause-gives c = λ names once all within.
    refuses names c.naming-then-has-2.result _ _ (c.naming-then-has-2.ensures.fault names)
    (loaded_twice names once c.args.draft.now c.args.line c.in-Load.name c.args.said c.has-in-Load.result all c.has-in-Load.ensures c.in-Load.is within c.if-has-2.true)

pub returns-else-has-clause-gives : goal.returns-else-has-clause-gives
returns-else-has-clause-gives c = λ names once all within.
    given_once names once c.args.draft.now c.args.line c.in-File.name c.args.said c.has.result all c.has.ensures c.in-File.is within c.if-has.false
    ∙ ap (λ t. Ok (record { block = drafted names c.args.draft.now; file = Some (record { line = c.args.line; name = text_at names c.in-File.name.0; text = t }) })) (sym c.new.ensures.items)

pub returns-in_ok-load-in-Load-clause-gives : goal.returns-in_ok-load-in-Load-clause-gives
returns-in_ok-load-in-Load-clause-gives c = λ names once all within.
    loaded_once names once c.args.draft.now c.args.line c.in-Load.name c.args.said c.has-in-Load.result all c.has-in-Load.ensures c.in-Load.is within c.if-has-2.false
    ∙ ap Ok (load_added names c.args.draft.now c.load.new.self _ c.in_ok-load-in-Load.ensures.loaded c.in_ok-load-in-Load.ensures.given c.requires)
