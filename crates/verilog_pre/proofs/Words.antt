-- What words and their macros say of a word.
use Rattle.std.proofs.Common.{◌≡◌, ℕ, zero, suc, ◌<◌, ◌≤◌, Bool, true, false, cond, List, [], ◌∷◌, ◌++◌, length, get_or, set, Option, None, refl, sym, ap, ◌∙◌, subst, arith}
use Rattle.std.proofs.Math.Path.{fun_ext}
use Rattle.std.specs.List.{All}
use Rattle.std.specs.Option.{IfSome}
use Rattle.std.proofs.lemmas.List.Elements.{All-push}
use Rattle.std.specs.Str.{bytes_eq}
use Rattle.std.specs.Cmp.Lexicographic.{bytes_decides}
use Rattle.ls_text.specs.Texts.{Grows, IsIdOf, text_at}
use Rattle.ls_text.proofs.Tables.{same_bytes}
use Rattle.verilog_pre.specs.declared.macro_body.Macro.{Macro}
use Rattle.verilog_pre.specs.Tables.{found, with_macro}

-- words behind those that are listed say nothing
found_more : (words more : List (List ℕ)) (known : List (Option Macro)) (word : List ℕ) → length known ≤ length words → found (words ++ more) known word ≡ found words known word
found_more [] [] [] word h = refl
found_more [] (w ∷ ws) [] word h = refl
found_more [] more (m ∷ ms) word h = absurd (omega arith)
found_more (w ∷ ws) more [] word h = refl
found_more (w ∷ ws) more (m ∷ ms) word h = ap (cond (bytes_eq w word) m) (found_more ws more ms word (omega arith))

pub same_table : (old new : List (List ℕ)) (known : List (Option Macro)) → Grows old new → length known ≤ length old → found new known ≡ found old known
same_table old new known g h = fun_ext (λ word. ap (λ ws. found ws known word) g.begins ∙ found_more old g.more known word h)

-- and nor does one that names nothing
found_none : (words : List (List ℕ)) (known : List (Option Macro)) (word : List ℕ) → found words (known ++ None ∷ []) word ≡ found words known word
found_none [] [] word = refl
found_none [] (m ∷ ms) word = refl
found_none (w ∷ ws) [] word = at (bytes_eq w word) ws
  where
    none : (ws : List (List ℕ)) → found ws [] word ≡ None
    none [] = refl
    none (w ∷ ws) = refl

    at : (b : Bool) (ws : List (List ℕ)) → cond b None (found ws [] word) ≡ None
    at true ws = refl
    at false ws = none ws
found_none (w ∷ ws) (m ∷ ms) word = ap (cond (bytes_eq w word) m) (found_none ws ms word)

pub table_none : (words : List (List ℕ)) (known : List (Option Macro)) → found words (known ++ None ∷ []) ≡ found words known
table_none words known = fun_ext (found_none words known)

abbrev IsOnly : List (List ℕ) → List ℕ → ℕ → Type 0
IsOnly words text id = (other : ℕ) → other < length words → text_at words other ≡ text → other ≡ id

only_behind : (w : List ℕ) (ws : List (List ℕ)) (text : List ℕ) (id : ℕ) → IsOnly (w ∷ ws) text (suc id) → IsOnly ws text id
only_behind w ws text id only = λ other within same. let one : suc other ≡ suc id = only (suc other) (omega arith) same in omega (arith, one)

differs : (w : List ℕ) (ws : List (List ℕ)) (text : List ℕ) (id : ℕ) → IsOnly (w ∷ ws) text (suc id) → bytes_eq w text ≡ true → ⊥
differs w ws text id only same = let one : 0 ≡ suc id = only 0 (omega arith) ((bytes_decides w text).0 same) in absurd (omega (arith, one))

found_id : (words : List (List ℕ)) (known : List (Option Macro)) (text : List ℕ) (id : ℕ) → id < length words → text_at words id ≡ text → IsOnly words text id → found words known text ≡ get_or known id None
found_id [] known text id within is only = absurd (omega arith)
found_id (w ∷ ws) [] text zero within is only = refl
found_id (w ∷ ws) [] text (suc id) within is only = refl
found_id (w ∷ ws) (m ∷ ms) text zero within is only = ap (λ b. cond b m (found ws ms text)) (ap (λ t. bytes_eq t text) is ∙ same_bytes text)
found_id (w ∷ ws) (m ∷ ms) text (suc id) within is only =
    at (bytes_eq w text) refl (found_id ws ms text id (omega arith) is (only_behind w ws text id only))
  where
    at : (b : Bool) → bytes_eq w text ≡ b → found ws ms text ≡ get_or ms id None → cond (bytes_eq w text) m (found ws ms text) ≡ get_or ms id None
    at true e more = absurd (differs w ws text id only e)
    at false e more = ap (λ b. cond b m (found ws ms text)) e ∙ more

pub found_at : (words : List (List ℕ)) (known : List (Option Macro)) (text : List ℕ) (id : ℕ) → IsIdOf words text id → found words known text ≡ get_or known id None
found_at words known text id is = found_id words known text id is.within is.same is.only

found_set : (words : List (List ℕ)) (known : List (Option Macro)) (text : List ℕ) (id : ℕ) (m : Option Macro) (word : List ℕ)
    → id < length words → id < length known → text_at words id ≡ text → IsOnly words text id
    → found words (set known id m) word ≡ cond (bytes_eq text word) m (found words known word)
found_set [] known text id m word within listed is only = absurd (omega arith)
found_set (w ∷ ws) [] text id m word within listed is only = absurd (omega arith)
found_set (w ∷ ws) (k ∷ ks) text zero m word within listed is only =
    ap (λ t. cond (bytes_eq t word) m (found ws ks word)) is ∙ sym (at (bytes_eq text word)) ∙ ap (λ t. cond (bytes_eq text word) m (cond (bytes_eq t word) k (found ws ks word))) (sym is)
  where
    at : (b : Bool) → cond b m (cond b k (found ws ks word)) ≡ cond b m (found ws ks word)
    at true = refl
    at false = refl
found_set (w ∷ ws) (k ∷ ks) text (suc id) m word within listed is only =
    ap (cond (bytes_eq w word) k) (found_set ws ks text id m word (omega arith) (omega arith) is (only_behind w ws text id only))
    ∙ at (bytes_eq w word) (bytes_eq text word) refl refl
  where
    at : (a b : Bool) → bytes_eq w word ≡ a → bytes_eq text word ≡ b
        → cond (bytes_eq w word) k (cond (bytes_eq text word) m (found ws ks word)) ≡ cond (bytes_eq text word) m (cond (bytes_eq w word) k (found ws ks word))
    at true true p q = absurd (differs w ws text id only ((bytes_decides w text).1 ((bytes_decides w word).0 p ∙ sym ((bytes_decides text word).0 q))))
    at true false p q =
        ap (λ c. cond c k (cond (bytes_eq text word) m (found ws ks word))) p
        ∙ sym (ap (λ c. cond c m (cond (bytes_eq w word) k (found ws ks word))) q ∙ ap (λ c. cond c k (found ws ks word)) p)
    at false b p q = ap (λ c. cond c k (cond (bytes_eq text word) m (found ws ks word))) p ∙ ap (cond (bytes_eq text word) m) (sym (ap (λ c. cond c k (found ws ks word)) p))

pub table_set : (words : List (List ℕ)) (known : List (Option Macro)) (text : List ℕ) (id : ℕ) (m : Option Macro)
    → IsIdOf words text id → id < length known → found words (set known id m) ≡ with_macro text m (found words known)
table_set words known text id m is listed = fun_ext (λ word. found_set words known text id m word is.within listed is.same is.only)

pub push_none : (P : Macro → Type 0) (before now : List (Option Macro)) → now ≡ before ++ None ∷ [] → All (λ o. IfSome o P) before → All (λ o. IfSome o P) now
push_none P before now is all =
    let Each : List (Option Macro) → Type 0 = λ os. All (λ o. IfSome o P) os in
    subst Each (sym is) (All-push (λ o. IfSome o P) before None all tt)
