-- Bits that are driven or written twice (34): a bit has at most one driver or writing block. The second one is at fault.
use Rattle.std.specs.Prelude.{Bool, ◌&&◌, ◌||◌, List, [], ◌∷◌, ◌++◌, map}
use Rattle.ls_text.specs.declared.fault.Fault.{Fault}
use Rattle.typed_ir.specs.declared.span.Span.{Span}
use Rattle.typed_ir.specs.Valuations.{Places, within}
use Rattle.typed_ir.specs.Items.{PlacedItem}
use Rattle.width_rules.specs.declared.writer.Writer.{Writer}
use Rattle.width_rules.specs.declared.writer.Writer.TheVariants as writer
use Rattle.block_rules.specs.Paths.{places_of_true, some_below}
use Rattle.driver_rules.specs.Mentioned.{earliest, shown_faults}
use Rattle.driver_rules.specs.Writes.{spans_of, writes}
use Rattle.driver_rules.specs.Targets.{writer_of}

-- a part has one of these bits, of the 128 that a signal can have
abbrev pub meets : Places → Span → Bool
meets taken p = some_below 128 (λ i. within p p.signal i && taken p.signal i)

-- of each part, whether it has one of these bits or one of a part before it
abbrev pub overlaps : Places → List Span → List Bool
overlaps taken [] = []
overlaps taken (p ∷ ps) = meets taken p ∷ overlaps (λ s i. taken s i || within p s i) ps

-- within one block a bit may be written often, left of one assignment or within a connection only once
abbrev pub doubles : Places → Writer → List Span → List Bool
doubles taken writer.Nothing spans = map (meets taken) spans
doubles taken writer.Continuous spans = overlaps taken spans
doubles taken writer.Clocked spans = map (meets taken) spans
doubles taken writer.Combinational spans = map (meets taken) spans

-- of an item after others that have these bits, at its earliest part
abbrev pub item_doubles : Places → PlacedItem → List Fault
item_doubles taken x = shown_faults 34 (earliest (places_of_true (doubles taken (writer_of x.body) (spans_of x.body))) x.targets x.at)

abbrev pub double_faults : Places → List PlacedItem → List Fault
double_faults taken [] = []
double_faults taken (x ∷ xs) = item_doubles taken x ++ double_faults (λ s i. taken s i || writes x s i) xs
