-- The uses that are refused.
use Rattle.std.proofs.Common.{◌≡◌, ◌<◌, ◌-◌, ℕ, zero, suc, true, false, cond, List, [], ◌∷◌, ◌++◌, Some, None, Result, Err, sym, ap, ◌∙◌, arith}
use Rattle.ls_text.specs.Readings.{TextFault, fault_at}
use Rattle.verilog_pre.specs.Parts.{Item, Leave}
use Rattle.verilog_pre.specs.declared.macro_body.Macro.{Macro}
use Rattle.verilog_pre.specs.Expansions.{Context, Output, entered, is_open, body_items, work_with, use_with, work_on, used}

-- where some uses are left, a word is refused with 12 where what its macro comes to is
refused_with : (n : ℕ) (c : Context) (word : List ℕ) (nest : List ℕ) (out : Output) (work : List Item) (fault : TextFault) → 0 < n
    → ((inside : Macro → Result Output TextFault) → entered c word nest inside (c.table word) ≡ Err fault) → use_with n c word nest out work ≡ Err fault
refused_with zero c word nest out work fault some refused = absurd (omega arith)
refused_with (suc n) c word nest out work fault some refused = refused _

-- a word that no macro has
pub unknown_word : (c : Context) (word : List ℕ) (nest : List ℕ) (out : Output) (work : List Item) (fault : TextFault) → 0 < out.uses
    → c.table word ≡ None → fault ≡ fault_at 12 c.at (word ∷ []) → used c word nest out work ≡ Err fault
unfolding used
unknown_word c word nest out work fault some none is =
    refused_with out.uses c word nest out work fault some (λ inside. ap (entered c word nest inside) none ∙ ap Err (sym is))

-- one whose macro is being expanded
pub open_word : (c : Context) (word : List ℕ) (nest : List ℕ) (out : Output) (work : List Item) (fault : TextFault) (m : Macro) → 0 < out.uses
    → c.table word ≡ Some m → is_open nest m.number ≡ true → fault ≡ fault_at 12 c.at (word ∷ []) → used c word nest out work ≡ Err fault
unfolding used
open_word c word nest out work fault m some known open_ is =
    refused_with out.uses c word nest out work fault some
    (λ inside. ap (entered c word nest inside) known ∙ ap (λ b. cond b (Err (fault_at 12 c.at (word ∷ []))) (inside m)) open_ ∙ ap Err (sym is))

-- one whose macro isn't being expanded
pub entered_word : (c : Context) (word nest nest_new : List ℕ) (out : Output) (work now : List Item) (m : Macro) (n : ℕ) → 0 < out.uses → n ≡ out.uses - 1
    → c.table word ≡ Some m → is_open nest m.number ≡ false → nest_new ≡ nest ++ m.number ∷ [] → now ≡ body_items c.parts m ++ Leave ∷ work
    → used c word nest out work ≡ work_on c nest_new (record { uses = n; bytes = out.bytes; pieces = out.pieces }) now
unfolding used work_on
entered_word c word nest nest_new out work now m n some less known shut nest_is now_is =
    let one : out.uses ≡ suc n = omega (arith, some, less) in
    let left : Output = record { uses = n; bytes = out.bytes; pieces = out.pieces } in
    let inside : Macro → Result Output TextFault = λ k. work_with (use_with n c) c (nest ++ k.number ∷ []) left (body_items c.parts k ++ Leave ∷ work) in
    ap (λ k. use_with k c word nest out work) one
    ∙ ap (entered c word nest inside) known
    ∙ ap (λ b. cond b (Err (fault_at 12 c.at (word ∷ []))) (inside m)) shut
    ∙ ap (λ ns. work_with (use_with n c) c ns left (body_items c.parts m ++ Leave ∷ work)) (sym nest_is)
    ∙ ap (work_with (use_with n c) c nest_new left) (sym now_is)
