-- Workers' passes are joined one by one.
use Rattle.std.proofs.Common.{◌≡◌, ◌+◌, ℕ, List, [], ◌∷◌, ◌++◌, length, length-append, refl, sym, ap, ◌∙◌, subst, append_assoc, append-nil, arith}
use Rattle.book_history.specs.declared.who.Who.TheVariants.{Worker}
use Rattle.book_history.specs.Owned.{IsPrefix}
use Rattle.book_turn.specs.Known.{Known, joined}
use Rattle.book_turn.proofs.Histories.{prefix_refl, prefix_trans}
use Rattle.segment_verify.specs.Entries.{AreTurns}
use Rattle.worker_scope.specs.Scope.{AreNumbered, HasJoinedOne, HasJoined}
use Rattle.worker_scope.proofs.Numbers.{one_list_more}

module _ {D R O : Type 0} where
  pub joined_none : (v : Known D R O) → HasJoined 0 v v
  joined_none v = record {
    lists = [];
    crew = sym (append-nil v.crew);
    all = refl;
    turns = tt;
    own = refl;
    splits = refl;
    settings = refl;
    alone = refl;
    begins = prefix_refl v.seen;
  }

  -- the pass u of the next worker is joined in
  pub joined_more : (n : ℕ) (v w x u : Known D R O) → HasJoined n v w → x ≡ joined w u → IsPrefix w.seen x.seen → AreTurns (Worker n) u.own → HasJoined (n + 1) v x
  joined_more n v w x u h is begins turns = record {
    lists = h.lists ++ u.own ∷ [];
    crew = ap (λ (y : Known D R O). y.crew) is ∙ ap (λ l. l ++ u.own ∷ []) h.crew ∙ append_assoc v.crew h.lists (u.own ∷ []);
    all = length-append h.lists (u.own ∷ []) ∙ ap (λ m. m + 1) h.all;
    turns = let next : n ≡ 0 + length h.lists = omega (arith, h.all) in one_list_more 0 h.lists u.own (subst (λ (m : ℕ). AreTurns (Worker m) u.own) next turns) h.turns;
    own = ap (λ (y : Known D R O). y.own) is ∙ h.own;
    splits = ap (λ (y : Known D R O). y.splits) is ∙ h.splits;
    settings = ap (λ (y : Known D R O). y.settings) is ∙ h.settings;
    alone = ap (λ (y : Known D R O). y.alone) is ∙ h.alone;
    begins = prefix_trans v.seen w.seen x.seen h.begins begins;
  }

  pub joined_one : (n : ℕ) (v w u : Known D R O) → w ≡ joined v u → IsPrefix v.seen w.seen → AreTurns (Worker n) u.own → HasJoinedOne n v w
  joined_one n v w u is begins turns = record { worker = u; turns = turns; is = is; begins = begins }

  -- some were joined in, and so many are left of all
  pub record IsJoining {A : Type 0} (number : A → ℕ) (total : ℕ) (v w : Known D R O) (left : ℕ) (rest : List A) : Type 0 where
    pub count : ℕ
    pub joined_in : HasJoined count v w
    pub are_left : count + left ≡ total
    pub numbered : AreNumbered number count rest

  module _ {A : Type 0} (number : A → ℕ) where
    pub joining_none : (v : Known D R O) (total left : ℕ) (xs rest : List A) → left ≡ total → rest ≡ xs → AreNumbered number 0 xs → IsJoining number total v v left rest
    joining_none v total left xs rest same are numbered = record {
      count = 0;
      joined_in = joined_none v;
      are_left = omega (arith, same);
      numbered = subst (λ l. AreNumbered number 0 l) (sym are) numbered;
    }

    pub joining_more : (total : ℕ) (v w x : Known D R O) (left more : ℕ) (y : A) (xs rest : List A) → IsJoining number total v w left rest → rest ≡ y ∷ xs → more + 1 ≡ left
        → HasJoinedOne (number y) w x → IsJoining number total v x more xs
    joining_more total v w x left more y xs rest j next fewer one =
        let here : AreNumbered number j.count (y ∷ xs) = subst (λ l. AreNumbered number j.count l) next j.numbered in record {
          count = j.count + 1;
          joined_in = joined_more j.count v w x one.worker j.joined_in one.is one.begins (subst (λ (m : ℕ). AreTurns (Worker m) one.worker.own) here.0 one.turns);
          are_left = omega (arith, j.are_left, fewer);
          numbered = here.1;
        }

    pub joining_all : (total : ℕ) (v w : Known D R O) (left : ℕ) (rest : List A) → IsJoining number total v w left rest → left ≡ 0 → HasJoined total v w
    joining_all total v w left rest j none = let all : j.count ≡ total = omega (arith, j.are_left, none) in subst (λ (m : ℕ). HasJoined m v w) all j.joined_in
