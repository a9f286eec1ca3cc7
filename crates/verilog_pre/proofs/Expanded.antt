-- The use of a macro gives what the relation on uses says, and nothing else.
use Rattle.std.proofs.Common.{◌≡◌, ℕ, zero, suc, ◌+◌, ◌-◌, ◌<◌, ◌≤◌, Bool, true, false, cond, ltb, List, [], ◌∷◌, ◌++◌, length, take, map, Option, Some, None, Result, Ok, Err, refl, sym, ap, subst, ◌∙◌, arith}
use Rattle.std.proofs.Math.Seq.{take-append_seam}
use Rattle.std.proofs.lemmas.List.{length-append}
use Rattle.ls_text.specs.Readings.{TextFault, fault_at, ◌>>=◌}
use Rattle.ls_text.specs.declared.place.Place.{Place}
use Rattle.ls_text.specs.declared.piece.Piece.{Piece}
use Rattle.verilog_pre.specs.declared.stretch.Stretch.{Stretch}
use Rattle.verilog_pre.specs.declared.macro_body.Macro.{Macro}
use Rattle.verilog_pre.specs.Conditionals.{but_last}
use Rattle.verilog_pre.specs.Parts.{Part, Text, Use, Open, Item, Read, Leave}
use Rattle.verilog_pre.specs.Expansions.{Output, Context, emitted, stretch_piece, is_open, entered, work_with, use_with, work_on, used, expanded}
use Rattle.verilog_pre.specs.Uses.{macro_parts, with_uses, Expands, AtEnd, Bytes, TooLong, Unclosed, TooMany, Unknown, Within, Body, BodyFails}

emitted_uses : (at : Place) (piece : Piece) (len : ℕ) (out new : Output) → emitted at piece len out ≡ Ok new → new.uses ≡ out.uses
unfolding emitted
emitted_uses at piece len out new is = told (ltb out.bytes len) is
  where
    uses_of : Result Output TextFault → ℕ
    uses_of (Ok o) = o.uses
    uses_of (Err e) = out.uses

    told : (t : Bool) → cond t (Err (fault_at 10 at [])) (Ok (record { uses = out.uses; bytes = out.bytes - len; pieces = out.pieces ++ piece ∷ [] })) ≡ Ok new → new.uses ≡ out.uses
    told true e = sym (ap uses_of e)
    told false e = sym (ap uses_of e)

-- ---- what is related is what is given

abbrev onward : Context → List ℕ → List Item → Output → Result Output TextFault
onward c nest work o = work_on c nest o work

left : (nest : List ℕ) (k : ℕ) → but_last (nest ++ k ∷ []) ≡ nest
left nest k =
    let size : length (nest ++ k ∷ []) ≡ length nest + 1 = length-append nest (k ∷ []) in
    let one : length (nest ++ k ∷ []) - 1 ≡ length nest = omega (arith, size) in
    ap (λ n. take n (nest ++ k ∷ [])) one ∙ take-append_seam nest (k ∷ [])

bytes_is : (c : Context) (nest : List ℕ) (out : Output) (s : Stretch) (work : List Item) (r : Result Output TextFault)
    → emitted c.at (stretch_piece c.at s) (s.end - s.start) out ≡ r
    → work_on c nest out (Read (Text s) ∷ work) ≡ (r >>= λ o. work_with (use_with out.uses c) c nest o work)
unfolding work_on
bytes_is c nest out s work r is = ap (λ x. x >>= λ o. work_with (use_with out.uses c) c nest o work) is

same_uses : (c : Context) (nest : List ℕ) (out next : Output) (work : List Item) → next.uses ≡ out.uses → work_with (use_with out.uses c) c nest next work ≡ work_on c nest next work
unfolding work_on
same_uses c nest out next work is = ap (λ n. work_with (use_with n c) c nest next work) (sym is)

none_left : (c : Context) (nest : List ℕ) (out : Output) (word : List ℕ) (work : List Item) → out.uses ≡ 0 → work_on c nest out (Read (Use word) ∷ work) ≡ Err (fault_at 10 c.at [])
unfolding work_on
none_left c nest out word work none = ap (λ n. use_with n c word nest out work) none

abbrev body_gives : Context → List ℕ → Output → ℕ → List Item → Macro → Result Output TextFault
body_gives c nest out n work m = work_on c (nest ++ m.number ∷ []) (with_uses n out) (map Read (macro_parts c.parts m) ++ Leave ∷ work)

some_left : (c : Context) (nest : List ℕ) (out : Output) (word : List ℕ) (work : List Item) (n : ℕ) (o : Option Macro) → out.uses ≡ suc n → c.table word ≡ o
    → work_on c nest out (Read (Use word) ∷ work)
    ≡ entered c word nest (body_gives c nest out n work) o
unfolding work_on
some_left c nest out word work n o some named =
    ap (λ k. use_with k c word nest out work) some
    ∙ ap (entered c word nest (λ m. work_with (use_with n c) c (nest ++ m.number ∷ []) (with_uses n out) (map Read (macro_parts c.parts m) ++ Leave ∷ work))) named

entered_if : (c : Context) (nest : List ℕ) (word : List ℕ) (inside : Macro → Result Output TextFault) (m : Macro) (t : Bool) → is_open nest m.number ≡ t
    → entered c word nest inside (Some m) ≡ cond t (Err (fault_at 12 c.at (word ∷ []))) (inside m)
entered_if c nest word inside m t is = ap (λ b. cond b (Err (fault_at 12 c.at (word ∷ []))) (inside m)) is

left_work : (c : Context) (nest : List ℕ) (k : ℕ) (out : Output) (work : List Item) → work_on c (nest ++ k ∷ []) out (Leave ∷ work) ≡ work_on c nest out work
unfolding work_on
left_work c nest k out work = ap (λ ns. work_with (use_with out.uses c) c ns out work) (left nest k)

unclosed_is : (c : Context) (nest : List ℕ) (out : Output) (work : List Item) → work_on c nest out (Read Open ∷ work) ≡ Err (fault_at 12 c.at [])
unfolding work_on
unclosed_is c nest out work = refl

none_is : (c : Context) (nest : List ℕ) (out : Output) (work : List Item) → work_on c nest out work ≡ (Ok out >>= onward c nest work)
none_is c nest out work = refl

pub given : (c : Context) (nest : List ℕ) (out : Output) (parts : List Part) (r : Result Output TextFault) → Expands c nest out parts r
    → (work : List Item) → work_on c nest out (map Read parts ++ work) ≡ (r >>= onward c nest work)
given c nest out parts r (AtEnd ns o) work = none_is c ns o work
given c nest out parts r (Bytes ns o s more next q is behind) work =
    bytes_is c ns o s (map Read more ++ work) (Ok next) is
    ∙ same_uses c ns o next (map Read more ++ work) (emitted_uses c.at (stretch_piece c.at s) (s.end - s.start) o next is)
    ∙ given c ns next more q behind work
given c nest out parts r (TooLong ns o s more e is) work = bytes_is c ns o s (map Read more ++ work) (Err e) is
given c nest out parts r (Unclosed ns o more) work = unclosed_is c ns o (map Read more ++ work)
given c nest out parts r (TooMany ns o word more none) work = none_left c ns o word (map Read more ++ work) none
given c nest out parts r (Unknown ns o word more n some named) work = some_left c ns o word (map Read more ++ work) n None some named
given c nest out parts r (Within ns o word more n m some named open_) work =
    some_left c ns o word (map Read more ++ work) n (Some m) some named ∙ entered_if c ns word (body_gives c ns o n (map Read more ++ work)) m true open_
given c nest out parts r (Body ns o word more n m next q some named shut body behind) work =
    some_left c ns o word (map Read more ++ work) n (Some m) some named
    ∙ entered_if c ns word (body_gives c ns o n (map Read more ++ work)) m false shut
    ∙ given c (ns ++ m.number ∷ []) (with_uses n o) (macro_parts c.parts m) (Ok next) body (Leave ∷ (map Read more ++ work))
    ∙ left_work c ns m.number next (map Read more ++ work)
    ∙ given c ns next more q behind work
given c nest out parts r (BodyFails ns o word more n m e some named shut body) work =
    some_left c ns o word (map Read more ++ work) n (Some m) some named
    ∙ entered_if c ns word (body_gives c ns o n (map Read more ++ work)) m false shut
    ∙ given c (ns ++ m.number ∷ []) (with_uses n o) (macro_parts c.parts m) (Err e) body (Leave ∷ (map Read more ++ work))

-- ---- something is always related

abbrev AtMost : ℕ → Result Output TextFault → Type 0
AtMost n (Ok o) = o.uses ≤ n
AtMost n (Err e) = Unit {0}

record Made (c : Context) (nest : List ℕ) (out : Output) (parts : List Part) : Type 0 where
  gives : Result Output TextFault
  is : Expands c nest out parts gives
  less : AtMost out.uses gives

fewer : (n k : ℕ) (r : Result Output TextFault) → k ≤ n → AtMost k r → AtMost n r
fewer n k (Ok o) h less = omega (arith, h, less)
fewer n k (Err e) h less = tt

abbrev Inside : Context → ℕ → Type 0
Inside c n = (nest : List ℕ) (out : Output) (parts : List Part) → out.uses < n → Made c nest out parts

use_made : (c : Context) (n : ℕ) (nest : List ℕ) (out : Output) (word : List ℕ) (parts : List Part) → out.uses ≤ n → Inside c n
    → ((next : Output) → next.uses ≤ n → Made c nest next parts) → (k : ℕ) → out.uses ≡ k → Made c nest out (Use word ∷ parts)
use_made c n nest out word parts h inside more zero none = record { gives = Err (fault_at 10 c.at []); is = TooMany nest out word parts none; less = tt }
use_made c n nest out word parts h inside more (suc k) some = at (c.table word) refl
  where
    behind : (m : Macro) → c.table word ≡ Some m → is_open nest m.number ≡ false → (r : Result Output TextFault)
        → Expands c (nest ++ m.number ∷ []) (with_uses k out) (macro_parts c.parts m) r → AtMost k r → Made c nest out (Use word ∷ parts)
    behind m named shut (Err e) body less = record { gives = Err e; is = BodyFails nest out word parts k m e some named shut body; less = tt }
    behind m named shut (Ok next) body less =
        let rest : Made c nest next parts = more next (omega (arith, less, some, h)) in
        record { gives = rest.gives; is = Body nest out word parts k m next rest.gives some named shut body rest.is; less = fewer out.uses next.uses rest.gives (omega (arith, less, some)) rest.less }

    enter : (m : Macro) → c.table word ≡ Some m → (t : Bool) → is_open nest m.number ≡ t → Made c nest out (Use word ∷ parts)
    enter m named true open_ = record { gives = Err (fault_at 12 c.at (word ∷ [])); is = Within nest out word parts k m some named open_; less = tt }
    enter m named false shut =
        let body : Made c (nest ++ m.number ∷ []) (with_uses k out) (macro_parts c.parts m) =
        inside (nest ++ m.number ∷ []) (with_uses k out) (macro_parts c.parts m) (omega (arith, some, h)) in
        behind m named shut body.gives body.is body.less

    at : (o : Option Macro) → c.table word ≡ o → Made c nest out (Use word ∷ parts)
    at None none = record { gives = Err (fault_at 12 c.at (word ∷ [])); is = Unknown nest out word parts k some none; less = tt }
    at (Some m) named = enter m named (is_open nest m.number) refl

bytes_made : (c : Context) (nest : List ℕ) (out : Output) (s : Stretch) (parts : List Part) → ((next : Output) → next.uses ≤ out.uses → Made c nest next parts)
    → (r : Result Output TextFault) → emitted c.at (stretch_piece c.at s) (s.end - s.start) out ≡ r → Made c nest out (Text s ∷ parts)
bytes_made c nest out s parts more (Err e) is = record { gives = Err e; is = TooLong nest out s parts e is; less = tt }
bytes_made c nest out s parts more (Ok next) is =
    let same : next.uses ≡ out.uses = emitted_uses c.at (stretch_piece c.at s) (s.end - s.start) out next is in
    let rest : Made c nest next parts = more next (omega (arith, same)) in
    record { gives = rest.gives; is = Bytes nest out s parts next rest.gives is rest.is; less = fewer out.uses next.uses rest.gives (omega (arith, same)) rest.less }

parts_made : (c : Context) (n : ℕ) → Inside c n → (nest : List ℕ) (parts : List Part) (out : Output) → out.uses ≤ n → Made c nest out parts
parts_made c n inside nest [] out h = record { gives = Ok out; is = AtEnd nest out; less = omega arith }
parts_made c n inside nest (Text s ∷ parts) out h =
    bytes_made c nest out s parts (λ next less. parts_made c n inside nest parts next (omega (arith, less, h))) (emitted c.at (stretch_piece c.at s) (s.end - s.start) out) refl
parts_made c n inside nest (Open ∷ parts) out h = record { gives = Err (fault_at 12 c.at []); is = Unclosed nest out parts; less = tt }
parts_made c n inside nest (Use word ∷ parts) out h =
    use_made c n nest out word parts h inside (λ next less. parts_made c n inside nest parts next less) out.uses refl

made : (c : Context) (n : ℕ) → Inside c n
made c zero nest out parts h = absurd (omega (arith, h))
made c (suc n) nest out parts h = parts_made c n (made c n) nest parts out (omega (arith, h))

-- ---- the use of a word in a text

pub only_use : (c : Context) (word : List ℕ) (out : Output) (r : Result Output TextFault) → Expands c [] out (Use word ∷ []) r → r ≡ expanded c word out
unfolding expanded used work_on
only_use c word out r is = whole r (given c [] out (Use word ∷ []) r is [])
  where
    whole : (r : Result Output TextFault) → expanded c word out ≡ (r >>= onward c [] []) → r ≡ expanded c word out
    whole (Ok o) e = sym e
    whole (Err x) e = sym e

pub whole_use : (c : Context) (word : List ℕ) (out : Output) → Expands c [] out (Use word ∷ []) (expanded c word out)
whole_use c word out =
    let m : Made c [] out (Use word ∷ []) = made c (suc out.uses) [] out (Use word ∷ []) (omega arith) in
    subst (Expands c [] out (Use word ∷ [])) (only_use c word out m.gives m.is) m.is
