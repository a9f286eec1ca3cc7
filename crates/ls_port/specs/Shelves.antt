-- What the shelves in memory have answered, and what their next read gives.
use Rattle.std.specs.Prelude.{ℕ, Bool, true, false, nat_eq, List, Option, None}
use Rattle.std.specs.List.{list_any}
use Rattle.ls_port.specs.declared.shelf_answer.ShelfAnswer.{ShelfAnswer}
use Rattle.ls_port.specs.declared.mem_shelf.MemShelf.{MemShelf}
use Rattle.ls_port.specs.declared.solid_shelf.SolidShelf.{SolidShelf}
use Rattle.ls_port.specs.Texts.{given_of}

abbrev pub solid_answers : SolidShelf → List ShelfAnswer
solid_answers s = s.answered.items

-- what the next read of this name gives, if there is memory
abbrev pub solid_next : SolidShelf → List ℕ → Option (List ℕ)
solid_next s name = given_of name s.texts.items

abbrev pub mem_answers : MemShelf → List ShelfAnswer
mem_answers s = solid_answers s.shelf

-- nothing where it fails, else this
abbrev pub unless : Bool → Option (List ℕ) → Option (List ℕ)
unless true given = None
unless false given = given

-- what the next read of this name gives, if there is memory: nothing at a call that it was told to fail
abbrev pub mem_next : MemShelf → List ℕ → Option (List ℕ)
mem_next s name = unless (list_any (nat_eq s.calls) s.fails.items) (solid_next s.shelf name)
