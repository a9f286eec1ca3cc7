use Rattle.state_pages.proofs.Paging.{count_is}
use Rattle.state_pages.proofs.pages.Pages.len.Goals as goal

pub returns : goal.returns
returns c = count_is _ _ _ c.self.view_is c.self.invariant
