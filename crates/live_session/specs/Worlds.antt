-- A session as the commands alone decide it.
use Rattle.std.specs.Prelude.{ℕ, List, [], length, codes, map, slice_index_or, Option, None}
use Rattle.ls_text.specs.declared.at.At.{At}
use Rattle.ls_text.specs.declared.at.At.TheVariants.{Text, Line, Edit}
use Rattle.ls_text.specs.Readings.{TextFault}
use Rattle.live_session.specs.Files.{TextFile}
use Rattle.live_session.specs.Rows.{Row}
use Rattle.live_session.specs.Spelled.{Spelled}

-- It knows no state at a mark, no link and no worker.
pub record World : Type 0 where
  -- the texts, in the order in which their files were first named, and the names of top and clock
  pub files : List TextFile
  pub top : Option (List ℕ)
  pub clock : List ℕ
  -- how many edits were accepted, and the design of the last one
  pub version : ℕ
  pub design : Option Spelled
  -- what the inputs are set to, and what they were set to in each cycle that was run
  pub row : Row
  pub record_ : List Row
  -- the cycles of the marks behind the one at cycle 0
  pub grid : List ℕ
  -- the key texts of the units that are held, as they came in
  pub held : List (List ℕ)
  -- how much of the session's room is charged
  pub charge : ℕ

-- a session without a design
abbrev pub fresh : World
fresh = record {
  files = [];
  top = None;
  clock = codes "clk";
  version = 0;
  design = None;
  row = [];
  record_ = [];
  grid = [];
  held = [];
  charge = 0;
}

-- the current cycle: that many were run
abbrev pub cycle : World → ℕ
cycle w = length w.record_

-- where a fault is shown: at a line and a column of a file, or at a line of the script
pub data Where : Type 0 where
  InText : (file : List ℕ) (line col : ℕ) → Where
  OnLine : (line : ℕ) → Where

-- a refusal: its code, its place and the names that it shows
pub record Refused : Type 0 where
  pub code : ℕ
  pub place : Where
  pub names : List (List ℕ)

-- a refusal at a line of the script
abbrev pub refused_at : (code line : ℕ) → (names : List (List ℕ)) → Refused
refused_at code line names = record { code = code; place = OnLine line; names = names }

-- where a fault of these files is shown, in the block whose `edit` has that line
abbrev pub where_of : List TextFile → (line : ℕ) → At → Where
where_of files line (Text p) = InText (slice_index_or (map (λ (f : TextFile). f.name) files) p.file []) p.line p.col
where_of files line (Line n) = OnLine n
where_of files line Edit = OnLine line

-- a fault of these files
abbrev pub refused_text : List TextFile → (line : ℕ) → TextFault → Refused
refused_text files line fault = record { code = fault.code; place = where_of files line fault.at; names = fault.words }
