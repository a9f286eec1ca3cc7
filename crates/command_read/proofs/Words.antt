-- The first word of a line, and the words after it.
use Rattle.std.proofs.Common.{◌≡◌, ℕ, suc, ◌+◌, ◌<◌, Bool, true, false, not, cond, List, [], ◌∷◌, ◌++◌, length, take, drop, refl, sym, ap, ◌∙◌, append-nil, append_assoc, length-append, get_or, lit<, true≢false, arith}
use Rattle.std.proofs.lemmas.List.{nil_from_length, length-drop}
use Rattle.std.specs.List.{prefix_len}
use Rattle.command_read.specs.Lines.{with_any, parts_words, words_behind, words}

-- blanks before a word don't count
pub behind_blanks : (line : List ℕ) → words_behind [] line ≡ words_behind [] (drop (prefix_len parts_words line) line)
behind_blanks [] = refl
behind_blanks (c ∷ cs) =
    by (behind_blanks cs) (parts_words c) refl
  where
    by : words_behind [] cs ≡ words_behind [] (drop (prefix_len parts_words cs) cs) → (b : Bool) → parts_words c ≡ b
        → words_behind [] (c ∷ cs) ≡ words_behind [] (drop (cond b (1 + prefix_len parts_words cs) 0) (c ∷ cs))
    by rest false h = refl
    by rest true h =
        let one : 1 + prefix_len parts_words cs ≡ suc (prefix_len parts_words cs) = omega arith in
        ap (λ b. cond b (words_behind [] cs) (words_behind (c ∷ []) cs)) h ∙ rest ∙ sym (ap (λ k. words_behind [] (drop k (c ∷ cs))) one)

some_word : (begun : List ℕ) (rest : List (List ℕ)) → 0 < length begun → with_any begun rest ≡ begun ∷ rest
some_word [] rest some = absurd (omega (arith, some))
some_word (b ∷ bs) rest some = refl

-- how many bytes stand before the first blank
abbrev pub word_length : List ℕ → ℕ
word_length line = prefix_len (λ c. not (parts_words c)) line

-- a word that has begun goes on up to the next blank
pub whole_word : (begun line : List ℕ) → 0 < length begun → words_behind begun line ≡ (begun ++ take (word_length line) line) ∷ words_behind [] (drop (word_length line) line)
whole_word begun [] some = some_word begun [] some ∙ ap (λ w. w ∷ []) (sym (append-nil begun))
whole_word begun (c ∷ cs) some =
    by (whole_word (begun ++ c ∷ []) cs (omega (arith, length-append begun (c ∷ [])))) (parts_words c) refl
  where
    by : words_behind (begun ++ c ∷ []) cs ≡ ((begun ++ c ∷ []) ++ take (word_length cs) cs) ∷ words_behind [] (drop (word_length cs) cs) → (b : Bool) → parts_words c ≡ b
        → words_behind begun (c ∷ cs) ≡ (begun ++ take (cond (not b) (1 + word_length cs) 0) (c ∷ cs)) ∷ words_behind [] (drop (cond (not b) (1 + word_length cs) 0) (c ∷ cs))
    by rest true h =
        ap (λ b. cond b (with_any begun (words_behind [] cs)) (words_behind (begun ++ c ∷ []) cs)) h
        ∙ some_word begun (words_behind [] cs) some
        ∙ ap (λ w. w ∷ words_behind [] cs) (sym (append-nil begun))
        ∙ ap (λ b. (begun ++ []) ∷ cond b (words_behind [] cs) (words_behind (c ∷ []) cs)) (sym h)
    by rest false h =
        let one : 1 + word_length cs ≡ suc (word_length cs) = omega arith in
        ap (λ b. cond b (with_any begun (words_behind [] cs)) (words_behind (begun ++ c ∷ []) cs)) h ∙ rest
        ∙ ap (λ w. w ∷ words_behind [] (drop (word_length cs) cs)) (append_assoc begun (c ∷ []) (take (word_length cs) cs))
        ∙ sym (ap (λ k. (begun ++ take k (c ∷ cs)) ∷ words_behind [] (drop k (c ∷ cs))) one)

not_blank : (line : List ℕ) (c : ℕ) (cs : List ℕ) → c ∷ cs ≡ drop (prefix_len parts_words line) line → parts_words c ≡ false
not_blank [] c cs is = absurd (omega (arith, ap length is))
not_blank (d ∷ ds) c cs is =
    by (not_blank ds c cs) (parts_words d) refl is
  where
    by : (c ∷ cs ≡ drop (prefix_len parts_words ds) ds → parts_words c ≡ false) → (b : Bool) → parts_words d ≡ b
        → c ∷ cs ≡ drop (cond b (1 + prefix_len parts_words ds) 0) (d ∷ ds) → parts_words c ≡ false
    by rest true h here =
        let one : 1 + prefix_len parts_words ds ≡ suc (prefix_len parts_words ds) = omega arith in
        rest (here ∙ ap (λ k. drop k (d ∷ ds)) one)
    by rest false h here = ap (λ l. parts_words (get_or l 0 c)) here ∙ h

pub no_word : (line rest : List ℕ) (n : ℕ) → n ≡ prefix_len parts_words line → rest ≡ drop n line → length rest ≡ 0 → words line ≡ []
unfolding words
no_word line rest n blanks is none =
    behind_blanks line ∙ ap (λ k. words_behind [] (drop k line)) (sym blanks) ∙ ap (words_behind []) (sym is ∙ nil_from_length rest none)

first_word : (line rest : List ℕ) → rest ≡ drop (prefix_len parts_words line) line → 0 < length rest
    → words line ≡ take (word_length rest) rest ∷ words (drop (word_length rest) rest)
unfolding words
first_word line [] is some = absurd (omega (arith, some))
first_word line (c ∷ cs) is some =
    behind_blanks line ∙ ap (words_behind []) (sym is) ∙ by (parts_words c) refl (not_blank line c cs is)
  where
    by : (b : Bool) → parts_words c ≡ b → b ≡ false
        → words_behind [] (c ∷ cs) ≡ take (cond (not b) (1 + word_length cs) 0) (c ∷ cs) ∷ words_behind [] (drop (cond (not b) (1 + word_length cs) 0) (c ∷ cs))
    by true h nb = absurd (true≢false nb)
    by false h nb =
        let one : 1 + word_length cs ≡ suc (word_length cs) = omega arith in
        ap (λ b. cond b (words_behind [] cs) (words_behind (c ∷ []) cs)) h ∙ whole_word (c ∷ []) cs (lit< tt)
        ∙ sym (ap (λ k. take k (c ∷ cs) ∷ words_behind [] (drop k (c ∷ cs))) one)

some_length : (line rest : List ℕ) → rest ≡ drop (prefix_len parts_words line) line → 0 < length rest → 0 < word_length rest
some_length line [] is some = absurd (omega (arith, some))
some_length line (c ∷ cs) is some =
    let one : word_length (c ∷ cs) ≡ 1 + word_length cs = ap (λ b. cond (not b) (1 + word_length cs) 0) (not_blank line c cs is) in
    omega (arith, one)

module _ (line rest first after : List ℕ) (n m : ℕ) (blanks : n ≡ prefix_len parts_words line) (is : rest ≡ drop n line) (some : 0 < length rest)
    (word : m ≡ word_length rest) (front : first ≡ take m rest) (back : after ≡ drop m rest) where
  here : rest ≡ drop (prefix_len parts_words line) line
  here = is ∙ ap (λ k. drop k line) blanks

  -- the first word, and the words behind it
  pub first_of : words line ≡ first ∷ words after
  first_of =
      first_word line rest here some ∙ ap (λ k. take k rest ∷ words (drop k rest)) (sym word)
      ∙ ap (λ w. w ∷ words (drop m rest)) (sym front) ∙ ap (λ r. first ∷ words r) (sym back)

  -- what follows is shorter
  pub after_shorter : length after < length line
  after_shorter =
      let some_word = some_length line rest here some in
      omega (arith, some_word, word, ap length back, length-drop m rest, ap length is, length-drop n line, some)
