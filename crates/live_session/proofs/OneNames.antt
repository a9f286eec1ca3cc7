-- Numbers of names in two tables in which each text stands once: what compares the numbers of the one says the same of those of the other.
use Rattle.std.proofs.Common.{◌≡◌, ◌∙◌, ℕ, ◌<◌, ◌&&◌, eqb, List, [], ◌∷◌, map, length, All, refl, sym, ap, ap₂, arith}
use Rattle.std.specs.Prelude.{Option, Some, None}
use Rattle.std.specs.Str.{bytes_eq}
use Rattle.std.proofs.lemmas.List.Elements.{All-head, All-tail}
use Rattle.ls_text.specs.Texts.{HasEachOnce, text_at}
use Rattle.ls_text.proofs.Tables.{one_text}
use Rattle.ls_text.proofs.Lists.{none_is_some, same_first, same_others}
use Rattle.typed_ir.specs.Cycles.{Signal}
use Rattle.cycle_eval.specs.Inputs.{own_name}
use Rattle.cycle_eval.specs.Kits.{instance_path}
use Rattle.typed_ir.specs.Paths.{same_path}
use Rattle.version_swap.specs.OnePlan.{nameless, module_text, path_texts}
use Rattle.live_session.specs.Scripts.{IsNamedIn}

-- two numbers of one text
pub record IsOneName (names others : List (List ℕ)) (m n : ℕ) : Type 0 where
  pub here : m < length names
  pub there : n < length others
  pub text : text_at names m ≡ text_at others n

-- two lists of such
pub data AreOneNames (names others : List (List ℕ)) : List ℕ → List ℕ → Type 0 where
  no_names : AreOneNames names others [] []
  more_names : {m n : ℕ} {ms ns : List ℕ} → IsOneName names others m n → AreOneNames names others ms ns → AreOneNames names others (m ∷ ms) (n ∷ ns)

-- none, or two of one text
pub data IsOneMaybe (names others : List (List ℕ)) : Option ℕ → Option ℕ → Type 0 where
  both_none : IsOneMaybe names others None None
  both_some : {m n : ℕ} → IsOneName names others m n → IsOneMaybe names others (Some m) (Some n)

module _ (names others : List (List ℕ)) where
  -- names of one list of texts
  pub one_names : (xs ys : List ℕ) → map (text_at names) xs ≡ map (text_at others) ys → All (λ (n : ℕ). n < length names) xs
      → All (λ (n : ℕ). n < length others) ys → AreOneNames names others xs ys
  one_names [] [] same here there = no_names
  one_names [] (y ∷ ys) same here there = none_is_some (text_at others y) (map (text_at others) ys) same
  one_names (x ∷ xs) [] same here there = none_is_some (text_at names x) (map (text_at names) xs) (sym same)
  one_names (x ∷ xs) (y ∷ ys) same here there =
      more_names
      (record {
        here = All-head (λ (n : ℕ). n < length names) x xs here;
        there = All-head (λ (n : ℕ). n < length others) y ys there;
        text = same_first (text_at names x) (text_at others y) (map (text_at names) xs) (map (text_at others) ys) same;
      })
      (one_names xs ys (same_others (text_at names x) (text_at others y) (map (text_at names) xs) (map (text_at others) ys) same)
      (All-tail (λ (n : ℕ). n < length names) x xs here) (All-tail (λ (n : ℕ). n < length others) y ys there))

  -- ---- paths

  -- the last name of a path, and the path without it
  pub one_own : {xs ys : List ℕ} → AreOneNames names others xs ys → 0 < length xs → IsOneName names others (own_name xs) (own_name ys)
  one_own no_names some = absurd (omega (arith, some))
  one_own (more_names h no_names) some = h
  one_own (more_names h (more_names k hs)) some = one_own (more_names k hs) (omega arith)

  pub one_instance : {xs ys : List ℕ} → AreOneNames names others xs ys → AreOneNames names others (instance_path xs) (instance_path ys)
  one_instance no_names = no_names
  one_instance (more_names h no_names) = no_names
  one_instance (more_names h (more_names k hs)) = more_names h (one_instance (more_names k hs))

  -- ---- tests

  -- whether two numbers are equal, and two paths
  module _ (once : HasEachOnce names) (also : HasEachOnce others) where
    pub same_number : {m n i j : ℕ} → IsOneName names others m n → IsOneName names others i j → eqb m i ≡ eqb n j
    same_number {m} {n} {i} {j} h k =
        sym (one_text names once m i h.here k.here) ∙ ap₂ bytes_eq h.text k.text ∙ one_text others also n j h.there k.there

    pub same_paths : {ms ns is js : List ℕ} → AreOneNames names others ms ns → AreOneNames names others is js → same_path ms is ≡ same_path ns js
    same_paths no_names no_names = refl
    same_paths no_names (more_names k ks) = refl
    same_paths (more_names h hs) no_names = refl
    same_paths (more_names h hs) (more_names k ks) = ap₂ ◌&&◌ (same_number h k) (same_paths hs ks)

-- ---- signals

-- two signals that are one but for the numbers of their names
pub record IsOneSignal (names others : List (List ℕ)) (x y : Signal) : Type 0 where
  pub width : x.width ≡ y.width
  pub in_module : IsOneName names others x.in_module y.in_module
  pub path : AreOneNames names others x.path y.path
  pub called : 0 < length x.path

pub data AreOneSignals (names others : List (List ℕ)) : List Signal → List Signal → Type 0 where
  no_signals : AreOneSignals names others [] []
  more_signals : {x y : Signal} {xs ys : List Signal} → IsOneSignal names others x y → AreOneSignals names others xs ys
      → AreOneSignals names others (x ∷ xs) (y ∷ ys)

-- signals that have one list of texts
module _ (names others : List (List ℕ)) where
  one_signal : (x y : Signal) → nameless x ≡ nameless y → path_texts names x ≡ path_texts others y → module_text names x ≡ module_text others y
      → IsNamedIn (length names) x → IsNamedIn (length others) y → 0 < length x.path → IsOneSignal names others x y
  one_signal x y signal path in_module here there called = record {
    width = ap (λ (z : Signal). z.width) signal;
    in_module = record { here = here.0; there = there.0; text = in_module };
    path = one_names names others x.path y.path path here.1 there.1;
    called = called;
  }

  pub one_signals : (xs ys : List Signal) → map nameless xs ≡ map nameless ys → map (path_texts names) xs ≡ map (path_texts others) ys
      → map (module_text names) xs ≡ map (module_text others) ys → All (IsNamedIn (length names)) xs → All (IsNamedIn (length others)) ys
      → All (λ (x : Signal). 0 < length x.path) xs → AreOneSignals names others xs ys
  one_signals [] [] signals paths modules here there called = no_signals
  one_signals [] (y ∷ ys) signals paths modules here there called =
      none_is_some (nameless y) (map nameless ys) signals
  one_signals (x ∷ xs) [] signals paths modules here there called =
      none_is_some (nameless x) (map nameless xs) (sym signals)
  one_signals (x ∷ xs) (y ∷ ys) signals paths modules here there called =
      more_signals
      (one_signal x y (same_first (nameless x) (nameless y) (map nameless xs) (map nameless ys) signals)
      (same_first (path_texts names x) (path_texts others y) (map (path_texts names) xs) (map (path_texts others) ys) paths)
      (same_first (module_text names x) (module_text others y) (map (module_text names) xs) (map (module_text others) ys) modules)
      (All-head (IsNamedIn (length names)) x xs here) (All-head (IsNamedIn (length others)) y ys there)
      (All-head (λ (z : Signal). 0 < length z.path) x xs called))
      (one_signals xs ys (same_others (nameless x) (nameless y) (map nameless xs) (map nameless ys) signals)
      (same_others (path_texts names x) (path_texts others y) (map (path_texts names) xs) (map (path_texts others) ys) paths)
      (same_others (module_text names x) (module_text others y) (map (module_text names) xs) (map (module_text others) ys) modules)
      (All-tail (IsNamedIn (length names)) x xs here) (All-tail (IsNamedIn (length others)) y ys there)
      (All-tail (λ (z : Signal). 0 < length z.path) x xs called))
