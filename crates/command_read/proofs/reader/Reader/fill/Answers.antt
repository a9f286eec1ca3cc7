use Rattle.std.proofs.Common.{◌<◌, [], length, refl, sym, append-nil, ◌∙◌, arith}
use Rattle.command_read.proofs.Sources.{takes_end, takes_failed}
use Rattle.command_read.proofs.reader.Reader.fill.Goals as goal

pub returns-in-Ok-eq0-clause-takes : goal.returns-in-Ok-eq0-clause-takes
returns-in-Ok-eq0-clause-takes g c =
    let told = c.in-Ok-eq0.ensures in
    let some : 0 < length c.read_piece.new.piece.items = omega (arith, c.read_piece.new.piece.ok, told.len, c.compact.new.self.sound.piece) in (
      [],
      [],
      takes_end _ _ _ _ _ _ c.read_piece.new.piece.items c.in-Ok-eq0.field-0 c.in-Ok-eq0.field-0-test told.bytes.0 told.bytes.1 some told.cause.kept
          c.compact.ensures.taken (c.compact.ensures.stop ∙ c.requires.going) c.requires.more,
      c.compact.ensures.held ∙ sym (append-nil _),
      λ stopped. refl,
      omega arith,
    )

pub returns-in-Err-clause-takes : goal.returns-in-Err-clause-takes
returns-in-Err-clause-takes g c =
    let told = c.in-Err.ensures in (
      [],
      [],
      takes_failed _ _ _ _ _ _ told.bytes told.cause.failed refl c.compact.ensures.taken c.compact.ensures.ended c.requires.more,
      c.compact.ensures.held ∙ sym (append-nil _),
      λ stopped. refl,
      omega arith,
    )
