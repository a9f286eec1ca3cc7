use Rattle.std.proofs.Common.{refl, None, arith}
use Rattle.book_history.specs.Rooms.{no_entry}
use Rattle.book_history.proofs.Lead.{legal_falls_not}
use Rattle.book_history.proofs.Outlines.{legal_outline, outline_more, legal_version, owned_counts}
use Rattle.book_history.proofs.Others.{others_calm, links_among, lead_among, owned_length}
use Rattle.book_history.proofs.laws.outlines_of_histories.Goals as goal

pub returns-clause-owned : goal.returns-clause-owned
returns-clause-owned g c = let m = g.M.Machine in λ st h l. legal_outline m.kit m.valid st h l

pub returns-clause-more : goal.returns-clause-more
returns-clause-more g c = let m = g.M.Machine in λ st h es l. outline_more m.kit m.valid st h es l

pub returns-clause-versions : goal.returns-clause-versions
returns-clause-versions g c = let m = g.M.Machine in λ st h l. legal_version m.kit st m.valid h l

pub returns-clause-counts : goal.returns-clause-counts
returns-clause-counts g c = let m = g.M.Machine in λ st h l. omega (arith, owned_length m.kit st no_entry None h l.in_rooms)

pub returns-clause-owned_counts : goal.returns-clause-owned_counts
returns-clause-owned_counts g c = λ h. owned_counts no_entry no_entry h refl refl

pub returns-clause-others_calm : goal.returns-clause-others_calm
returns-clause-others_calm g c = λ zs own. others_calm zs own

pub returns-clause-others_links : goal.returns-clause-others_links
returns-clause-others_links g c = let m = g.M.Machine in λ st h zs own l. links_among m.kit st m.valid h zs own l

pub returns-clause-others_lead : goal.returns-clause-others_lead
returns-clause-others_lead g c =
    let m = g.M.Machine in
    λ st h zs own l. lead_among m.kit st m.valid (λ xs ys e i. legal_falls_not m.kit m.fits m.valid (g.met.M.Machine g.world.𝓛 g.world.𝓜 g.world.𝓡 ((λ s x. x), (λ x. x), (λ x. x), λ x. x)).laws st xs ys e i.follows) h zs own l
