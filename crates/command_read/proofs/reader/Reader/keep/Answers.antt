use Rattle.std.proofs.Common.{[], take, refl, sym, subst, append-nil, arith}
use Rattle.std.proofs.lemmas.Grind.{common_steps}
use Rattle.command_read.specs.Readers.{AreKept}
use Rattle.command_read.proofs.Pieces.{single, left_more}
use Rattle.command_read.proofs.reader.Reader.keep.Goals as goal

pub returns-then-self-gt-MAX_INPUT-clause-kept : goal.returns-then-self-gt-MAX_INPUT-clause-kept
returns-then-self-gt-MAX_INPUT-clause-kept c =
    let full = c.args.self.now.sound.piece in
    ([], sym (append-nil _), single c.args.count c.args.self.now.piece.items (c.requires.one c.if-self-gt-MAX_INPUT.true) (omega (arith, c.requires.piece, full, c.args.self.now.piece.ok)), λ stopped. refl)

pub returns-else-is_err-clause-kept : goal.returns-else-is_err-clause-kept
returns-else-is_err-clause-kept c =
    let some = take c.args.count c.args.self.now.piece.items in (
      some,
      left_more c.args.self.now.at c.args.self.now.held.items c.extend_from_slice.new.self.items some (omega (arith, c.args.self.now.sound.within, c.args.self.now.held.ok)) (grind (arith, common_steps)),
      subst (λ s. AreKept s some some) (sym c.requires.going) refl,
      λ stopped. absurd (stopped c.requires.going),
    )
