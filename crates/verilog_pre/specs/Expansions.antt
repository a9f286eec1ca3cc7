-- The use of a macro (IEEE 1364-2005, clause 19.3.1): the pieces that its body gives, or the first fault.
use Rattle.std.specs.Prelude.{◌≡◌, ◌<◌, ℕ, zero, suc, ◌-◌, Bool, true, nat_lt, ◌==◌, if◌then◌else◌, List, [], ◌∷◌, ◌++◌, length, take, drop, map, slice_index, Option, Some, None, Result, Ok, Err}
use Rattle.std.specs.List.{list_any}
use Rattle.ls_text.specs.declared.place.Place.{Place}
use Rattle.ls_text.specs.declared.refusal.Refusal.{Refusal}
use Rattle.ls_text.specs.Readings.{TextFault, fault_at, Refuses, ◌>>=◌}
use Rattle.ls_text.specs.declared.piece.Piece.{Piece}
use Rattle.verilog_pre.specs.declared.stretch.Stretch.{Stretch}
use Rattle.verilog_pre.specs.declared.macro_body.Macro.{Macro}
use Rattle.verilog_pre.specs.declared.output.Output as code
use Rattle.verilog_pre.specs.Conditionals.{but_last}
use Rattle.verilog_pre.specs.Parts.{Part, Text, Use, Open, Item, Read, Leave}
use Rattle.verilog_pre.specs.Views.{parts_of}
use Rattle.verilog_pre.specs.declared.macros.Macros.{Macros}
use Rattle.verilog_pre.specs.Tables.{Table, table_of}

-- the pieces so far, and how many uses and bytes the limits leave
pub record Output : Type 0 where
  pub uses : ℕ
  pub bytes : ℕ
  pub pieces : List Piece

abbrev pub output : code.Output → Output
output o = record { uses = o.uses; bytes = o.bytes; pieces = o.pieces.items }

-- one more piece; 10 at a place where its bytes would pass the limit
unfoldable pub emitted : Place → Piece → ℕ → Output → Result Output TextFault
emitted at piece len out =
    if nat_lt out.bytes len then Err (fault_at 10 at [])
    else Ok (record { uses = out.uses; bytes = out.bytes - len; pieces = out.pieces ++ piece ∷ [] })

-- what the uses of a text's macros rest on
pub record Context : Type 0 where
  pub table : Table
  pub parts : List Part
  -- the place of the use in the text, which all its pieces have
  pub at : Place

abbrev pub stretch_piece : Place → Stretch → Piece
stretch_piece at s = record { file = s.file; start = s.start; end = s.end; at = at; fixed = true }

abbrev pub part_with : (List ℕ → Result Output TextFault) → (Output → Result Output TextFault) → Context → Output → Part → Result Output TextFault
part_with enter next c out (Text s) = emitted c.at (stretch_piece c.at s) (s.end - s.start) out >>= next
part_with enter next c out (Use word) = enter word
part_with enter next c out Open = Err (fault_at 12 c.at [])

-- What work gives, item by item: parts of bodies, and the ends of uses. `open` has the numbers of the uses that are
-- open, and `use` says what the use of a word gives before the rest of the work.
abbrev pub work_with : (List ℕ → List ℕ → Output → List Item → Result Output TextFault) → Context → List ℕ → Output → List Item → Result Output TextFault
work_with enter c nest out [] = Ok out
work_with enter c nest out (Leave ∷ work) = work_with enter c (but_last nest) out work
work_with enter c nest out (Read p ∷ work) = part_with (λ word. enter word nest out work) (λ o. work_with enter c nest o work) c out p

abbrev pub is_open : List ℕ → ℕ → Bool
is_open nest number = list_any (λ k. k == number) nest

abbrev pub body_items : List Part → Macro → List Item
body_items parts m = map Read (take (m.last - m.first) (drop m.first parts))

-- a word that no macro has, or one that is being expanded, is refused with 12
abbrev pub entered : Context → List ℕ → List ℕ → (Macro → Result Output TextFault) → Option Macro → Result Output TextFault
entered c word nest inside None = Err (fault_at 12 c.at (word ∷ []))
entered c word nest inside (Some m) = if is_open nest m.number then Err (fault_at 12 c.at (word ∷ [])) else inside m

-- what the use of a word gives before the rest of the work, where the limit leaves so many uses
abbrev pub use_with : ℕ → Context → List ℕ → List ℕ → Output → List Item → Result Output TextFault
use_with zero c word nest out work = Err (fault_at 10 c.at [])
use_with (suc n) c word nest out work =
    entered c word nest
    (λ m. work_with (use_with n c) c (nest ++ m.number ∷ []) (record { uses = n; bytes = out.bytes; pieces = out.pieces }) (body_items c.parts m ++ Leave ∷ work))
    (c.table word)

unfoldable pub work_on : Context → List ℕ → Output → List Item → Result Output TextFault
work_on c nest out work = work_with (use_with out.uses c) c nest out work

unfoldable pub used : Context → List ℕ → List ℕ → Output → List Item → Result Output TextFault
used c word nest out work = use_with out.uses c word nest out work

-- the use of a macro in a text
unfoldable pub expanded : Context → List ℕ → Output → Result Output TextFault
expanded c word out = used c word [] out []

-- a step leads from one reading to another that gives the same, or refuses with the fault of the first
abbrev pub Leads : {A : Type 0} → List (List ℕ) → Result (Unit {0}) Refusal → Result A TextFault → Result A TextFault → Type 0
Leads names (Ok u) before after = before ≡ after
Leads names (Err e) before after = Refuses names e before

-- each open use has its place in the nest
pub record Placed (places nest : List ℕ) : Type 0 where
  pub listed : (i : ℕ) → i < length nest → slice_index nest i < length places
  pub placed : (i : ℕ) → i < length nest → slice_index places (slice_index nest i) ≡ i

abbrev pub context : Macros → Place → Context
context m at = record { table = table_of m; parts = parts_of m; at = at }

-- looking words up and using macros keeps what the words name
pub record Keeps (old new : Macros) : Type 0 where
  pub table : table_of new ≡ table_of old
  pub parts : parts_of new ≡ parts_of old
  pub kept : new.parts ≡ old.parts
  pub count : length new.places.items ≡ length old.places.items
