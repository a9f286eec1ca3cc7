-- Macros stay sound where parts and places are added.
use Rattle.std.proofs.Common.{◌≡◌, ℕ, ◌<◌, ◌≤◌, List, length, Option, Some, None, sym, ap, subst, ◌∙◌, arith}
use Rattle.std.specs.List.{All}
use Rattle.std.specs.Option.{IfSome}
use Rattle.verilog_pre.specs.declared.macro_body.Macro.{Macro}
use Rattle.verilog_pre.specs.declared.macros.Macros.{Macros}
use Rattle.verilog_pre.specs.Tables.{Sound, Table, with_macro}
use Rattle.verilog_pre.specs.Views.{IsListed}

weaker : (P Q : Macro → Type 0) → ((m : Macro) → P m → Q m) → (o : Option Macro) → IfSome o P → IfSome o Q
weaker P Q f None h = tt
weaker P Q f (Some m) h = f m h

pub sound_more : (old new : Macros) → Sound old → new.words ≡ old.words → new.known ≡ old.known → All (IsListed (length new.words)) new.parts.items
    → length old.parts.items ≤ length new.parts.items → length old.places.items ≤ length new.places.items → Sound new
sound_more old new sound words known uses parts places = record {
  words = omega (arith, sound.words, ap length words, ap (λ k. length k.items) known);
  bodies =
      let Bodies : List (Option Macro) → Type 0 = λ os. All (λ (o : Option Macro). IfSome o (λ (k : Macro). k.last ≤ length new.parts.items)) os in
      subst Bodies (sym (ap (λ k. k.items) known)) (λ k d within.
      weaker (λ m. m.last ≤ length old.parts.items) (λ m. m.last ≤ length new.parts.items) (λ m h. omega (arith, h, parts)) _ (sound.bodies k d within));
  places =
      let Places : List (Option Macro) → Type 0 = λ os. All (λ (o : Option Macro). IfSome o (λ (k : Macro). k.number < length new.places.items)) os in
      subst Places (sym (ap (λ k. k.items) known)) (λ k d within.
      weaker (λ m. m.number < length old.places.items) (λ m. m.number < length new.places.items) (λ m h. omega (arith, h, places)) _ (sound.places k d within));
  uses = uses;
}

pub added : (name : List ℕ) (n n_new f f_new l l_new : ℕ) (t t_new : Table) → n_new ≡ n → f_new ≡ f → l_new ≡ l → t_new ≡ t
    → with_macro name (Some (record { number = n_new; first = f_new; last = l_new })) t_new ≡ with_macro name (Some (record { number = n; first = f; last = l })) t
added name n n_new f f_new l l_new t t_new a b c d =
    ap (λ x. with_macro name (Some (record { number = x; first = f_new; last = l_new })) t_new) a
    ∙ ap (λ x. with_macro name (Some (record { number = n; first = x; last = l_new })) t_new) b
    ∙ ap (λ x. with_macro name (Some (record { number = n; first = f; last = x })) t_new) c
    ∙ ap (with_macro name (Some (record { number = n; first = f; last = l }))) d
