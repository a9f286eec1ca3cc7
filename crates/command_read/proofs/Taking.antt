-- One line more of a block.
use Rattle.std.proofs.Common.{◌≡◌, ℕ, ◌+◌, ◌<◌, List, ◌∷◌, length, Option, None, IfSome, Result, Ok, sym, ap, ◌∙◌, subst}
use Rattle.std.specs.Option.{option_map}
use Rattle.ls_text.specs.Texts.{Grows}
use Rattle.ls_text.specs.Readings.{TextFault, Gives, Refuses, ◌>>=◌}
use Rattle.ls_text.specs.declared.refusal.Refusal.{Refusal}
use Rattle.ls_text.proofs.Refused.{refused_on}
use Rattle.command_read.specs.declared.block_line.BlockLine.{BlockLine}
use Rattle.command_read.specs.declared.draft.Draft.{Draft}
use Rattle.command_read.specs.declared.open_text.OpenText.{OpenText}
use Rattle.command_read.specs.Lines.{words}
use Rattle.command_read.specs.Blocks.{Reading, block_entry, with_entry, reading_behind, reading_of}
use Rattle.command_read.specs.Spoken.{drafted, entry, open_file, reading, IsDraftWithin}
use Rattle.command_read.proofs.Grown.{grown_drafted, grown_text_read}

-- a line outside of texts, whose entry is added by a table that has grown
pub take_entry : {A : Type 0} (old new : List (List ℕ)) (d : Draft) (number : ℕ) (line : List ℕ) (said : BlockLine) (view : A → Reading) (result : Result A Refusal)
    → Grows old new → IsDraftWithin (length old) d → d.text ≡ None → block_entry number (words line) ≡ Ok (entry new said)
    → Gives new view result (with_entry (drafted new d) number (entry new said))
    → Gives new view result (reading_behind (drafted old d) (option_map (open_file old) d.text) number line)
take_entry old new d number line said view result g within none reads gives =
    let here : with_entry (drafted new d) number (entry new said) ≡ reading_behind (drafted old d) (option_map (open_file old) d.text) number line
    = ap (λ b. with_entry b number (entry new said)) (grown_drafted old new g d within)
    ∙ sym (ap (λ r. r >>= λ e. with_entry (drafted old d) number e) reads)
    ∙ sym (ap (λ t. reading_behind (drafted old d) (option_map (open_file old) t) number line) none) in
    subst (λ r. Gives new view result r) here gives

-- the names of a block whose text is taken out
pub without_text : (count : ℕ) (d : Draft) (text : Option OpenText) → IsDraftWithin count d → text ≡ None → IsDraftWithin count (record d { text = text })
without_text count d text all none = record {
  tops = all.tops;
  clocks = all.clocks;
  given = all.given;
  loaded = all.loaded;
  operations = all.operations;
  named = subst (λ t. IfSome t (λ (x : OpenText). x.name.0 < count)) (sym none) tt;
}

-- one line more of those that are left
pub line_taken : (names : List (List ℕ)) (before : Reading) (d : Draft) (number : ℕ) (lines : List (List ℕ)) (line : List ℕ) (rest : List (List ℕ)) (all : Result Reading TextFault)
    → lines ≡ line ∷ rest → reading_behind before.block before.file number line ≡ Ok (reading names d) → reading_of before number lines ≡ all
    → reading_of (reading names d) (number + 1) rest ≡ all
line_taken names before d number lines line rest all cut reads so_far =
    sym (ap (λ r. r >>= λ next. reading_of next (number + 1) rest) reads) ∙ sym (ap (reading_of before number) cut) ∙ so_far

pub line_refused : (names : List (List ℕ)) (e : Refusal) (before : Reading) (number : ℕ) (lines : List (List ℕ)) (line : List ℕ) (rest : List (List ℕ)) (all : Result Reading TextFault)
    → lines ≡ line ∷ rest → Refuses names e (reading_behind before.block before.file number line) → reading_of before number lines ≡ all → Refuses names e all
line_refused names e before number lines line rest all cut refused so_far =
    subst (Refuses names e) (sym (ap (reading_of before number) cut) ∙ so_far)
    (refused_on names e (reading_behind before.block before.file number line) (λ next. reading_of next (number + 1) rest) refused)

-- what is read of a block, by a table that has grown
pub grown_reading : (old new : List (List ℕ)) (d : Draft) → Grows old new → IsDraftWithin (length old) d → reading new d ≡ reading old d
grown_reading old new d g within =
    ap (λ b. record { block = b; file = option_map (open_file new) d.text }) (grown_drafted old new g d within)
    ∙ ap (λ f. record { block = drafted old d; file = f }) (grown_text_read old new g d.text within.named)
