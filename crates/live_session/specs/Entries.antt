-- Entries of a history without what has numbers of names: designs, rows and operations.
use Rattle.std.specs.Prelude.{⊤, map}
use Rattle.book_history.specs.Book.{Event, Opens, Runs, Reloads, Claims, Installs, Releases, Shows, Closes}

abbrev pub bare : {D R O : Type 0} → Event D R O → Event ⊤ ⊤ ⊤
bare (Opens version machine) = Opens version tt
bare (Runs n rows) = Runs n (map (λ _. tt) rows)
bare (Reloads version machine ops from) = Reloads version tt tt from
bare (Claims ticket a b by) = Claims ticket a b by
bare (Installs ticket joined by) = Installs ticket joined by
bare (Releases ticket by) = Releases ticket by
bare (Shows answer) = Shows answer
bare Closes = Closes
