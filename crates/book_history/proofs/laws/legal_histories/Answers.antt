use Rattle.std.specs.Prelude.{None}
use Rattle.book_history.proofs.Law.{legal_true, legal_outs}
use Rattle.book_history.proofs.Currents.{legal_installs}
use Rattle.book_history.proofs.Lead.{legal_falls_not}
use Rattle.book_history.proofs.Leading.{legal_leading, legal_ends}
use Rattle.book_history.proofs.Settled.{legal_settled}
use Rattle.book_history.proofs.Settle.{legal_settles}
use Rattle.book_history.proofs.Prefixes.{legal_first, legal_rooms, replay_record}
use Rattle.book_history.proofs.laws.legal_histories.Goals as goal

pub returns-clause-prefixes : goal.returns-clause-prefixes
returns-clause-prefixes g c = let m = g.M.Machine in λ st xs ys l. legal_first m.kit st m.valid xs ys l

pub returns-clause-is_true : goal.returns-clause-is_true
returns-clause-is_true g c = let m = g.M.Machine in λ st h l. legal_true m.kit m.fits m.valid (g.met.M.Machine g.world.𝓛 g.world.𝓜 g.world.𝓡 ((λ s x. x), (λ x. x), (λ x. x), λ x. x)).laws st h l.follows

pub returns-clause-ends : goal.returns-clause-ends
returns-clause-ends g c = let m = g.M.Machine in λ st h l. legal_ends m.kit m.fits m.valid (g.met.M.Machine g.world.𝓛 g.world.𝓜 g.world.𝓡 ((λ s x. x), (λ x. x), (λ x. x), λ x. x)).laws st h l.follows

pub returns-clause-leading : goal.returns-clause-leading
returns-clause-leading g c = let m = g.M.Machine in λ st h l. legal_leading m.kit m.fits m.valid (g.met.M.Machine g.world.𝓛 g.world.𝓜 g.world.𝓡 ((λ s x. x), (λ x. x), (λ x. x), λ x. x)).laws st h l.follows

pub returns-clause-settled : goal.returns-clause-settled
returns-clause-settled g c = let m = g.M.Machine in λ st h l. legal_settled m.kit m.fits m.valid (g.met.M.Machine g.world.𝓛 g.world.𝓜 g.world.𝓡 ((λ s x. x), (λ x. x), (λ x. x), λ x. x)).laws st h l.follows

pub returns-clause-record : goal.returns-clause-record
returns-clause-record g c = let m = g.M.Machine in λ st h l. replay_record m.kit m.valid st None h l.follows

pub returns-clause-rooms : goal.returns-clause-rooms
returns-clause-rooms g c = let m = g.M.Machine in λ st h l. legal_rooms m.kit st m.valid h l

pub returns-clause-outs : goal.returns-clause-outs
returns-clause-outs g c = let m = g.M.Machine in λ st h l. legal_outs m.kit m.fits m.valid (g.met.M.Machine g.world.𝓛 g.world.𝓜 g.world.𝓡 ((λ s x. x), (λ x. x), (λ x. x), λ x. x)).laws st h l.follows

pub returns-clause-installs : goal.returns-clause-installs
returns-clause-installs g c = let m = g.M.Machine in λ st xs ys n j by l. legal_installs m.kit m.fits m.valid (g.met.M.Machine g.world.𝓛 g.world.𝓜 g.world.𝓡 ((λ s x. x), (λ x. x), (λ x. x), λ x. x)).laws st xs ys n j by l.follows

pub returns-clause-leads : goal.returns-clause-leads
returns-clause-leads g c = let m = g.M.Machine in λ st xs ys e l. legal_falls_not m.kit m.fits m.valid (g.met.M.Machine g.world.𝓛 g.world.𝓜 g.world.𝓡 ((λ s x. x), (λ x. x), (λ x. x), λ x. x)).laws st xs ys e l.follows

pub returns-clause-settles : goal.returns-clause-settles
returns-clause-settles g c = let m = g.M.Machine in λ st xs es ys n a b j calm l. legal_settles m.kit m.fits m.valid (g.met.M.Machine g.world.𝓛 g.world.𝓜 g.world.𝓡 ((λ s x. x), (λ x. x), (λ x. x), λ x. x)).laws st xs es ys n a b j calm l.follows
