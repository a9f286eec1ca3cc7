-- The modules of tokens as reading gives them are spelled by these.
use Rattle.std.proofs.Common.{◌≡◌, ◌≢◌, ◌∙◌, ℕ, List, [], ◌∷◌, ◌++◌, refl, ap, subst}
use Rattle.std.specs.List.{All}
use Rattle.std.proofs.lemmas.List.Elements.{All-nil, All-cons, All-head, All-tail}
use Rattle.verilog_lex.specs.declared.token.Token.{Token}
use Rattle.verilog_lex.specs.declared.kind.Kind.TheVariants as k
use Rattle.verilog_lex.specs.Ends.{EndsOnce}
use Rattle.verilog_ast.specs.declared.module.Module.{Module}
use Rattle.verilog_expr.specs.Tokens.{next, Takes, taken}
use Rattle.verilog_expr.proofs.Endings.{ends_from}
use Rattle.verilog_parse.specs.Files.{SpellsAll, no_module, another_module, Stands}
use Rattle.version_swap.specs.Proper.{IsProper, IsRead}
use Rattle.version_swap.specs.Spelled.{IsSpelledUnder}

-- ---- tokens before the end

first_no_end : (t : Token) (s : List Token) → s ≢ [] → EndsOnce (t ∷ s) → (t.kind ≢ k.End) × EndsOnce s
first_no_end t [] some e = absurd (some refl)
first_no_end t (u ∷ s) some e = e

some_behind : (own r : List Token) → r ≢ [] → own ++ r ≢ []
some_behind [] r some = some
some_behind (t ∷ own) r some = λ none. cc

front_proper : (names : List (List ℕ)) (own r : List Token) → r ≢ [] → EndsOnce (own ++ r) → All (IsRead names) (own ++ r) → All (IsProper names) own
front_proper names [] r some e all = All-nil (IsProper names)
front_proper names (t ∷ own) r some e all =
    let h = first_no_end t (own ++ r) (some_behind own r some) e in
    All-cons (IsProper names) t own (All-head (IsRead names) t (own ++ r) all h.0)
    (front_proper names own r some h.1 (All-tail (IsRead names) t (own ++ r) all))

back_read : (names : List (List ℕ)) (own r : List Token) → All (IsRead names) (own ++ r) → All (IsRead names) r
back_read names [] r all = all
back_read names (t ∷ own) r all = back_read names own r (All-tail (IsRead names) t (own ++ r) all)

-- ---- modules

rest_some : {names : List (List ℕ)} {xs : List Module} {s r : List Token} → SpellsAll names xs s r → r ≢ [] → s ≢ []
rest_some (no_module free) some = some
rest_some (another_module is x xs) some = λ none. let two : k.Module ≡ k.End = is ∙ ap next none in cc

spelled_all : {names : List (List ℕ)} {xs : List Module} {s r : List Token} → SpellsAll names xs s r → r ≢ [] → EndsOnce s → All (IsRead names) s
    → All (IsSpelledUnder names) xs
spelled_all {names} (no_module free) some e all = All-nil (IsSpelledUnder names)
spelled_all {names} (another_module {x = x} {xs = xs} {s = s} {a = a} is h more) some e all =
    let left = rest_some more some in
    let once = subst EndsOnce h.cut e in
    let read = subst (λ (l : List Token). All (IsRead names) l) h.cut all in
    All-cons (IsSpelledUnder names) x xs
    (record { tokens = s; rest = a; spelled = h; proper = front_proper names h.own a left once read })
    (spelled_all more some (ends_from h.own a once left) (back_read names h.own a read))

last_some : {s r : List Token} {t : Token} → Takes k.End s r t → s ≢ []
last_some (taken cut is) none = cc

pub modules_spelled : (names : List (List ℕ)) (xs : List Module) (s : List Token) → EndsOnce s → All (IsRead names) s → Stands names xs s
    → All (IsSpelledUnder names) xs
modules_spelled names xs s e all h = spelled_all h.tree (last_some h.ends) e all
