-- What a reader holds, and what a call of it takes and hands out.
use Rattle.std.specs.Prelude.{◌≡◌, ◌⊎◌, ℕ, ◌+◌, ◌-◌, ◌<◌, ◌≤◌, Bool, true, false, List, [], ◌∷◌, ◌++◌, length, drop, Option, Some, None, Result, Ok, Err, ⊤}
use Rattle.std.specs.Io.KnownBytes.{Consumes, IsAtEnd}
use Rattle.ls_port.specs.Causes.{Rose}
use Rattle.ls_text.specs.Readings.{TextFault, fault_view}
use Rattle.command_read.specs.declared.reader.Reader.{Reader}
use Rattle.command_read.specs.declared.stop.Stop.{Stop}
use Rattle.command_read.specs.declared.stop.Stop.TheVariants as stop
use Rattle.command_read.specs.declared.read_end.ReadEnd.{ReadEnd}
use Rattle.command_read.specs.declared.read_end.ReadEnd.TheVariants as read_end
use Rattle.command_read.specs.Lines.{script_lines}
use Rattle.command_read.specs.Asking.{Asked}
use Rattle.command_read.specs.Scripts.{asks}
use Rattle.command_read.specs.Leading.{MayFollow}
use Rattle.command_read.specs.Spoken.{spoken, IsCommandWithin}
use Rattle.std.specs.List.{All}
use Rattle.ls_text.specs.declared.name_id.NameId.{NameId}

-- the bytes that a reader has taken and not handed out
abbrev pub left : Reader → List ℕ
left r = drop r.at r.held.items

-- the line that they begin
abbrev pub next_number : Reader → ℕ
next_number r = r.number

-- whether it has seen the input's end
abbrev pub has_ended : Reader → Bool
has_ended r = r.ended

-- how many bytes it has taken
abbrev pub count_taken : Reader → ℕ
count_taken r = r.taken

-- how many bytes it may hand out yet: those that it may take, and those that it holds
abbrev pub still_of : Reader → ℕ
still_of r = (67108865 - count_taken r) + length (left r)

-- why it hands nothing out any more
abbrev pub stopped : Reader → Option Stop
stopped r = r.stop

-- what is still asked for, where those bytes come behind what it holds, and the input ends there or not
abbrev pub asked_of : Reader → (more : List ℕ) → (end : Bool) → List (Result Asked TextFault)
asked_of r more end = asks end (next_number r) (left r ++ more)

-- which of the bytes that came a reader has kept: all, but for the one above the limit; where memory ran out a front of them
abbrev pub AreKept : Option Stop → (came kept : List ℕ) → Type 0
AreKept None came kept = came ≡ kept
AreKept (Some stop.End) came kept = came ≡ kept
AreKept (Some stop.Fault) came kept = came ≡ kept
AreKept (Some stop.TooMuch) came kept = (last : ℕ) × (came ≡ kept ++ last ∷ [])
AreKept (Some stop.NoMemory) came kept = (lost : List ℕ) × (came ≡ kept ++ lost)

-- A call took those bytes of a source, which has what it has left before and behind the call and a count of faults, and the reader has kept
-- those. The count rises where the source failed and nowhere else. Where the input's end was seen nothing is left, and nothing is taken
-- from then on. Where it is seen, all that came is kept, and neither a fault nor the limit has stopped the reader.
pub record Takes (before behind : Option (List ℕ)) (faults count : ℕ) (old new : Reader) (came kept : List ℕ) : Type 0 where
  pub consumed : Consumes before behind came
  pub counted : count_taken new ≡ count_taken old + length came
  pub holds : AreKept (stopped new) came kept
  pub failed : stopped new ≡ Some stop.Fault → Rose faults count
  pub unfailed : (stopped new ≡ Some stop.Fault → ⊥) → count ≡ faults
  pub ended : has_ended new ≡ true → (has_ended old ≡ true) ⊎ IsAtEnd behind
  pub quiet : has_ended old ≡ true → (came ≡ []) × (kept ≡ []) × (has_ended new ≡ true) × (behind ≡ before)
  pub whole : has_ended new ≡ true → came ≡ kept
  pub faultless : has_ended new ≡ true → stopped new ≡ Some stop.Fault → ⊥
  pub few : has_ended new ≡ true → stopped new ≡ Some stop.TooMuch → ⊥

-- what was asked for is what is told, and then what is still asked for, whatever comes behind the bytes that were kept
abbrev pub HandsOut : (old new : Reader) → (told : List (Result Asked TextFault)) → (kept : List ℕ) → Type 0
HandsOut old new told kept = (more : List ℕ) → (end : Bool) → MayFollow (has_ended new) more end → asked_of old (kept ++ more) end
    ≡ told ++ asked_of new more end

-- Of the bytes that came those of the last read, at most 65,536, are behind others with which no line from that place on was complete.
abbrev pub IsSoonAt : (from : ℕ) → Reader → (came : List ℕ) → Type 0
IsSoonAt from old came =
    (came ≡ []) ⊎ ((early : List ℕ) × (last : List ℕ) × (came ≡ early ++ last) × (length last ≤ 65536) × (has_ended old ≡ false)
    × (script_lines false (drop from (left old ++ early)) ≡ []))

-- Of the bytes that came those of the last read, at most 65,536, are behind others with which nothing was asked for: once something is
-- complete, nothing is read.
abbrev pub IsSoon : Reader → (came : List ℕ) → Type 0
IsSoon old came =
    (came ≡ []) ⊎ ((early : List ℕ) × (last : List ℕ) × (came ≡ early ++ last) × (length last ≤ 65536) × (has_ended old ≡ false)
    × (asked_of old early false ≡ []))

-- what an answer tells
abbrev pub told : List (List ℕ) → ReadEnd → List (Result Asked TextFault)
told names (read_end.Command command) = Ok (spoken names command) ∷ []
told names (read_end.Refused fault) = Err (fault_view names fault) ∷ []
told names read_end.End = []
told names read_end.Fault = []
told names read_end.TooMuch = []
told names read_end.NoMemory = []

-- why a reader that gave that answer hands nothing out any more
abbrev pub stop_of : ReadEnd → Option Stop
stop_of (read_end.Command command) = None
stop_of (read_end.Refused fault) = None
stop_of read_end.End = Some stop.End
stop_of read_end.Fault = Some stop.Fault
stop_of read_end.TooMuch = Some stop.TooMuch
stop_of read_end.NoMemory = Some stop.NoMemory

-- what a reader answers that has stopped
abbrev pub end_of : Stop → ReadEnd
end_of stop.End = read_end.End
end_of stop.Fault = read_end.Fault
end_of stop.TooMuch = read_end.TooMuch
end_of stop.NoMemory = read_end.NoMemory

-- the names that an answer tells are among so many
abbrev pub IsReadEndWithin : ℕ → ReadEnd → Type 0
IsReadEndWithin count (read_end.Command command) = IsCommandWithin count command
IsReadEndWithin count (read_end.Refused fault) = All (λ (id : NameId). id.0 < count) fault.names
IsReadEndWithin count read_end.End = ⊤
IsReadEndWithin count read_end.Fault = ⊤
IsReadEndWithin count read_end.TooMuch = ⊤
IsReadEndWithin count read_end.NoMemory = ⊤
