-- Lists of lines, read back line by line up to what begins otherwise.
use Rattle.std.proofs.Common.{◌≡◌, ℕ, Bool, true, false, List, [], ◌∷◌, ◌++◌, flat_map, refl, sym, ap, ap₂, ◌∙◌, append_assoc, true≢false}
use Rattle.std.specs.List.{All}
use Rattle.std.proofs.lemmas.List.Elements.{All-head, All-tail}
use Rattle.ls_text.proofs.Lists.{first_of}
use Rattle.version_swap.proofs.Lines.{IsRead}

-- each line begins with a byte that one test knows, and is read back where what follows begins with a byte that the other test knows
pub record AreLines {A : Type 0} (Told : A → Type 0) (line : A → List ℕ) (begins follows : ℕ → Bool) : Type 0 where
  pub starts : (a : A) (xs : List ℕ) → begins (first_of (line a ++ xs)) ≡ true
  pub again : (a : A) (xs : List ℕ) → follows (first_of (line a ++ xs)) ≡ true
  pub reads : (a b : A) (xs ys : List ℕ) → Told a → Told b → follows (first_of xs) ≡ true → follows (first_of ys) ≡ true
      → line a ++ xs ≡ line b ++ ys → IsRead a b xs ys

-- what stands behind the last line
pub record IsEnd (begins follows : ℕ → Bool) (xs : List ℕ) : Type 0 where
  pub other : begins (first_of xs) ≡ false
  pub free : follows (first_of xs) ≡ true

module _ {A : Type 0} (Told : A → Type 0) (line : A → List ℕ) (begins follows : ℕ → Bool) (lines : AreLines Told line begins follows) where
  follows_so : (ls : List A) (xs : List ℕ) → IsEnd begins follows xs → follows (first_of (flat_map line ls ++ xs)) ≡ true
  follows_so [] xs end = end.free
  follows_so (l ∷ ls) xs end = ap (λ z. follows (first_of z)) (append_assoc (line l) (flat_map line ls) xs) ∙ lines.again l (flat_map line ls ++ xs)

  no_line : {P : Type 0} (l : A) (xs ys : List ℕ) → IsEnd begins follows xs → xs ≡ line l ++ ys → P
  no_line l xs ys end e = absurd (true≢false (sym (lines.starts l ys) ∙ ap (λ z. begins (first_of z)) (sym e) ∙ end.other))

  pub lines_read : (ls ms : List A) (xs ys : List ℕ) → All Told ls → All Told ms → IsEnd begins follows xs → IsEnd begins follows ys
      → flat_map line ls ++ xs ≡ flat_map line ms ++ ys → IsRead ls ms xs ys
  lines_read [] [] xs ys told_l told_m end_x end_y e = record { same = refl; after = e }
  lines_read [] (m ∷ ms) xs ys told_l told_m end_x end_y e =
      no_line m xs (flat_map line ms ++ ys) end_x (e ∙ append_assoc (line m) (flat_map line ms) ys)
  lines_read (l ∷ ls) [] xs ys told_l told_m end_x end_y e =
      no_line l ys (flat_map line ls ++ xs) end_y (sym e ∙ append_assoc (line l) (flat_map line ls) xs)
  lines_read (l ∷ ls) (m ∷ ms) xs ys told_l told_m end_x end_y e =
      let one : IsRead l m (flat_map line ls ++ xs) (flat_map line ms ++ ys) =
      lines.reads l m (flat_map line ls ++ xs) (flat_map line ms ++ ys) (All-head Told l ls told_l) (All-head Told m ms told_m)
      (follows_so ls xs end_x) (follows_so ms ys end_y)
      (sym (append_assoc (line l) (flat_map line ls) xs) ∙ e ∙ append_assoc (line m) (flat_map line ms) ys) in
      let more : IsRead ls ms xs ys = lines_read ls ms xs ys (All-tail Told l ls told_l) (All-tail Told m ms told_m) end_x end_y one.after in
      record { same = ap₂ (λ z zs. z ∷ zs) one.same more.same; after = more.after }
