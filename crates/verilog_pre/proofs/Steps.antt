-- One step of an expansion.
use Rattle.std.proofs.Common.{◌≡◌, ℕ, ◌-◌, List, [], ◌∷◌, map, Result, Ok, Err, refl, sym, ap, subst, ◌∙◌, arith}
use Rattle.std.specs.List.{All}
use Rattle.ls_text.specs.declared.place.Place.{Place}
use Rattle.ls_text.specs.declared.refusal.Refusal.{Refusal}
use Rattle.ls_text.specs.Readings.{TextFault, Refuses, Gives, ◌>>=◌}
use Rattle.ls_text.proofs.Refused.{refused_on}
use Rattle.verilog_pre.specs.declared.stretch.Stretch.{Stretch}
use Rattle.verilog_pre.specs.Parts.{Text, Item, Read}
use Rattle.verilog_pre.specs.declared.item.Item as work
use Rattle.verilog_pre.specs.Views.{item_of, parts_of}
use Rattle.verilog_pre.specs.declared.macros.Macros.{Macros}
use Rattle.verilog_pre.specs.Tables.{table_of}
use Rattle.verilog_pre.specs.Expansions.{Context, Output, Leads, Keeps, context, emitted, stretch_piece, work_with, use_with, work_on, used, expanded}

-- a part that is text is a piece
at_text : (c : Context) (nest : List ℕ) (out : Output) (s : Stretch) (work : List Item)
    → work_on c nest out (Read (Text s) ∷ work) ≡ (emitted c.at (stretch_piece c.at s) (s.end - s.start) out >>= λ o. work_with (use_with out.uses c) c nest o work)
unfolding work_on
at_text c nest out s work = refl

text_step : (c : Context) (nest : List ℕ) (out new : Output) (s : Stretch) (work : List Item)
    → emitted c.at (stretch_piece c.at s) (s.end - s.start) out ≡ Ok new → new.uses ≡ out.uses
    → work_on c nest out (Read (Text s) ∷ work) ≡ work_on c nest new work
unfolding work_on
text_step c nest out new s work adds uses =
    ap (λ r. r >>= λ o. work_with (use_with out.uses c) c nest o work) adds
    ∙ ap (λ n. work_with (use_with n c) c nest new work) (sym uses)

text_refused : (names : List (List ℕ)) (e : Refusal) (c : Context) (nest : List ℕ) (out : Output) (s : Stretch) (work : List Item)
    → Refuses names e (emitted c.at (stretch_piece c.at s) (s.end - s.start) out)
    → Refuses names e (work_on c nest out (Read (Text s) ∷ work))
text_refused names e c nest out s work refused =
    let R : Result Output TextFault → Type 0 = λ r. Refuses names e r in
    subst R (sym (at_text c nest out s work)) (refused_on names e _ (λ o. work_with (use_with out.uses c) c nest o work) refused)

pub text_leads : (names : List (List ℕ)) (r : Result (Unit {0}) Refusal) (c : Context) (nest : List ℕ) (out new : Output) (s : Stretch) (work : List Item)
    → Gives names (λ (u : Unit {0}). new) r (emitted c.at (stretch_piece c.at s) (s.end - s.start) out) → new.uses ≡ out.uses
    → Leads names r (work_on c nest out (Read (Text s) ∷ work)) (work_on c nest new work)
text_leads names (Ok u) c nest out new s work gives uses = text_step c nest out new s work gives uses
text_leads names (Err e) c nest out new s work gives uses = text_refused names e c nest out s work gives

pub same_context : (old new : Macros) (at : Place) → Keeps old new → context new at ≡ context old at
same_context old new at keeps =
    ap (λ t. record { table = t; parts = parts_of new; at = at }) keeps.table
    ∙ ap (λ ps. record { table = table_of old; parts = ps; at = at }) keeps.parts

pub keeps_on : (a b c : Macros) → Keeps a b → Keeps b c → Keeps a c
keeps_on a b c g h = record { table = h.table ∙ g.table; parts = h.parts ∙ g.parts; kept = h.kept ∙ g.kept; count = h.count ∙ g.count }

-- ---- the work by what parts stand for

-- the work that is left, by a table of words that stays
pub moved_on : (old new : Macros) (at : Place) (nest : List ℕ) (out : Output) (now : List work.Item) → Keeps old new → new.words ≡ old.words
    → work_on (context new at) nest out (map (item_of new.words) now) ≡ work_on (context old at) nest out (map (item_of old.words) now)
moved_on old new at nest out now keeps words =
    ap (λ c. work_on c nest out (map (item_of new.words) now)) (same_context old new at keeps)
    ∙ ap (λ ws. work_on (context old at) nest out (map (item_of ws) now)) words

-- one item is carried out
pub stepped : (old new : Macros) (at : Place) (nest nest_new : List ℕ) (out out_new : Output) (next : work.Item) (rest before now : List work.Item) (all : Result Output TextFault)
    → Keeps old new → new.words ≡ old.words → before ≡ next ∷ rest
    → work_on (context old at) nest out (item_of old.words next ∷ map (item_of old.words) rest) ≡ work_on (context old at) nest_new out_new (map (item_of old.words) now)
    → work_on (context old at) nest out (map (item_of old.words) before) ≡ all
    → work_on (context new at) nest_new out_new (map (item_of new.words) now) ≡ all
stepped old new at nest nest_new out out_new next rest before now all keeps words is step so_far =
    moved_on old new at nest_new out_new now keeps words
    ∙ sym step
    ∙ ap (λ items. work_on (context old at) nest out (map (item_of old.words) items)) (sym is)
    ∙ so_far

pub step_refused : (names : List (List ℕ)) (e : Refusal) (m : Macros) (at : Place) (nest : List ℕ) (out : Output) (next : work.Item) (rest before : List work.Item) (all : Result Output TextFault)
    → before ≡ next ∷ rest → Refuses names e (work_on (context m at) nest out (item_of m.words next ∷ map (item_of m.words) rest))
    → work_on (context m at) nest out (map (item_of m.words) before) ≡ all → Refuses names e all
step_refused names e m at nest out next rest before all is refused so_far =
    let R : Result Output TextFault → Type 0 = λ r. Refuses names e r in
    subst R (ap (λ items. work_on (context m at) nest out (map (item_of m.words) items)) (sym is) ∙ so_far) refused

-- the use of a word by its number
pub use_is : (old new : Macros) (at : Place) (word text nest : List ℕ) (out : Output) (items : List work.Item)
    → table_of new ≡ table_of old → parts_of new ≡ parts_of old → text ≡ word → nest ≡ [] → items ≡ []
    → used (context new at) text nest out (map (item_of new.words) items) ≡ expanded (context old at) word out
unfolding expanded
use_is old new at word text nest out items table parts same none no_work =
    ap (λ ns. used (context new at) text ns out (map (item_of new.words) items)) none
    ∙ ap (λ is. used (context new at) text [] out (map (item_of new.words) is)) no_work
    ∙ ap (λ t. used (context new at) t [] out []) same
    ∙ ap (λ t. used (record { table = t; parts = parts_of new; at = at }) word [] out []) table
    ∙ ap (λ ps. used (record { table = table_of old; parts = ps; at = at }) word [] out []) parts

pub head_of : {A : Type 0} (P : A → Type 0) (x : A) (xs all : List A) → all ≡ x ∷ xs → All P all → P x
head_of P x xs all is has = (subst (All P) is has) 0 x (omega arith)
