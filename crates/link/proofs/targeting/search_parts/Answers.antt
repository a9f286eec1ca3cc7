use Rattle.std.proofs.Common.{◌∙◌, ap}
use Rattle.link.specs.declared.search.Search.TheVariants.{Found}
use Rattle.link.proofs.Searching.{part_found, parts_passed}
use Rattle.link.proofs.targeting.search_parts.Goals as goal

pub returns-in-Some : goal.returns-in-Some
returns-in-Some c =
    let item = c.in-Some.ensures.lookup in
    ap Found c.span_of.ensures ∙ part_found c.args.parts.now c.args.skip c.in-Some.part.now item.3.0 item.1

pub returns-in-None : goal.returns-in-None
returns-in-None c = parts_passed c.args.parts.now c.args.skip c.in-None.ensures.lookup.3
