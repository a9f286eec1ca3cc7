use Rattle.std.proofs.Common.{length, sym, ◌∙◌}
use Rattle.command_read.proofs.Grown.{grown_within}
use Rattle.command_read.proofs.Taking.{take_entry, without_text}
use Rattle.command_read.proofs.drafts.take.Goals as goal

pub returns-in_ok-said-in-None-clause-gives : goal.returns-in_ok-said-in-None-clause-gives
returns-in_ok-said-in-None-clause-gives c =
    let new = c.read_block_line.new.names in
    let told = c.in_ok-said-in-None.ensures in
    let within = without_text _ c.args.draft.now c.take.new.self (grown_within _ new told.grows c.args.draft.now c.requires) c.take.ensures.after in
    take_entry c.args.names.now new c.args.draft.now c.args.number c.args.line.now c.in_ok-said-in-None.said _ _ told.grows c.requires (sym c.take.ensures.value ∙ c.in-None.is) told.gives
    (c.enter.ensures.gives new c.text-text.ensures.once within told.within)

pub returns-in_ok-said-in-None-clause-within : goal.returns-in_ok-said-in-None-clause-within
returns-in_ok-said-in-None-clause-within c =
    let new = c.read_block_line.new.names in
    let told = c.in_ok-said-in-None.ensures in
    c.enter.ensures.within (length new) (without_text _ c.args.draft.now c.take.new.self (grown_within _ new told.grows c.args.draft.now c.requires) c.take.ensures.after) told.within

pub returns-in_ok-said-in-None-clause-named : goal.returns-in_ok-said-in-None-clause-named
returns-in_ok-said-in-None-clause-named c = c.enter.ensures.named (length c.read_block_line.new.names) c.in_ok-said-in-None.ensures.within
