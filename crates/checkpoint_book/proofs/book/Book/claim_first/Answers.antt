use Rattle.book_history.specs.declared.who.Who.TheVariants.{Session}
use Rattle.checkpoint_book.specs.Views.{book_of, none_free, shown_in, is_none}
use Rattle.checkpoint_book.proofs.FirstLinks.{none_where_settled, as_shown}
use Rattle.checkpoint_book.proofs.book.Book.claim_first.Goals as goal

pub returns-clause-settled : goal.returns-clause-settled
returns-clause-settled g c =
    let b = book_of g.M.Machine.kit c.args.self.now in
    as_shown _ c.take.result (none_free Session b) (is_none (shown_in b)) (none_where_settled b) c.take.ensures.none c.take.ensures.free
