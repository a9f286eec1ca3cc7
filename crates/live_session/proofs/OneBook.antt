-- Two books that have the same states, marks and links go on with the same, where what an edit or a run adds is one but for the numbers of names.
use Rattle.std.proofs.Common.{◌≡◌, ◌∙◌, ℕ, ◌+◌, ◌-◌, leb, cond, List, [], ◌∷◌, ◌++◌, length, refl, ap, ap₂}
use Rattle.std.specs.Prelude.{Option, Some, None}
use Rattle.ls_text.specs.Texts.{HasEachOnce}
use Rattle.machine.specs.Kit.{Kit}
use Rattle.machine.specs.Rows.{slice}
use Rattle.book_history.specs.declared.link.Link.TheVariants.{Open, Joined}
use Rattle.book_history.specs.declared.segment.Segment.{Segment}
use Rattle.book_history.specs.Book.{Book, Settings, add_mark, cycles, extend, grid, last_state, opened, reload_to, reloaded, run_by, simulated}
use Rattle.cycle_eval.specs.declared.design.Design.{Design}
use Rattle.live_session.specs.Logs.{InputRow, State, Ops, kit}
use Rattle.live_session.proofs.OneRun.{IsOneDesign, AreOneRows, between_alike, rows_append, rows_many, start_alike}
use Rattle.live_session.proofs.OneCarry.{AreOneOperations, carried_alike}

abbrev pub SessionBook : Type 0
SessionBook = Book Design State InputRow

-- the same versions, states, marks and links, and as many tickets
pub record IsOneBook (b c : SessionBook) : Type 0 where
  pub version : b.version ≡ c.version
  pub first : b.first ≡ c.first
  pub segs : b.segs ≡ c.segs
  pub tickets : length b.tickets ≡ length c.tickets

-- none, or two that have the same
pub data AreOneBooks : Option SessionBook → Option SessionBook → Type 0 where
  no_books : AreOneBooks None None
  one_books : {b c : SessionBook} → IsOneBook b c → AreOneBooks (Some b) (Some c)

-- ---- marks by two machines and two records that run alike between any two cycles

module _ {D S R O : Type 0} (k : Kit D S R O) (m n : D) (rows others : List R)
    (runs : (a b : ℕ) (s : S) → k.seg m (slice rows a b) s ≡ k.seg n (slice others a b) s) where
  -- of a run, and of an edit
  extend_alike : (segs : List (Segment S)) (a : ℕ) (s : S) (cs : List ℕ) → extend k m rows segs a s cs ≡ extend k n others segs a s cs
  extend_alike segs a s [] = refl
  extend_alike segs a s (c ∷ cs) =
      ap (λ (t : S). extend k m rows (add_mark segs (record { link = Joined; to = c; state = t })) c t cs) (runs a c s)
      ∙ extend_alike (add_mark segs (record { link = Joined; to = c; state = k.seg n (slice others a c) s })) c (k.seg n (slice others a c) s) cs

  simulated_alike : (a : ℕ) (s : S) (cs : List ℕ) → simulated k m rows a s cs ≡ simulated k n others a s cs
  simulated_alike a s [] = refl
  simulated_alike a s (c ∷ cs) =
      ap (λ (t : S). record { link = Joined; to = c; state = t } ∷ simulated k m rows c t cs) (runs a c s)
      ∙ ap (λ (gs : List (Segment S)). record { link = Joined; to = c; state = k.seg n (slice others a c) s } ∷ gs)
      (simulated_alike c (k.seg n (slice others a c) s) cs)

  module _ (old was : D) (ops done : O) (carries : (s : S) → k.carried old m ops s ≡ k.carried was n done s) where
    reloaded_alike : (limit a : ℕ) (s : S) (segs : List (Segment S))
        → reloaded k old m ops rows limit a s segs ≡ reloaded k was n done others limit a s segs
    reloaded_alike limit a s [] = refl
    reloaded_alike limit a s (g ∷ gs) =
        ap₂ (cond (leb g.to limit))
        (ap (λ (t : S). record { link = Open; to = g.to; state = t } ∷ reloaded k old m ops rows limit g.to t gs) (carries g.state)
        ∙ ap (λ (hs : List (Segment S)). record { link = Open; to = g.to; state = k.carried was n done g.state } ∷ hs)
        (reloaded_alike limit g.to (k.carried was n done g.state) gs))
        (simulated_alike a s (g.to ∷ cycles gs))

-- ---- entries

module _ (names others : List (List ℕ)) (once : HasEachOnce names) (also : HasEachOnce others) (st : Settings) where
  -- an open, a run and a reload
  pub opens_alike : (m n : Design) → IsOneDesign names others m n → IsOneBook (opened kit m) (opened kit n)
  opens_alike m n h = record { version = refl; first = start_alike names others once also m n h; segs = refl; tickets = refl }

  module _ (b c : SessionBook) (one : IsOneBook b c) (machine : IsOneDesign names others b.machine c.machine)
      (record_ : AreOneRows names others b.rows c.rows) where
    pub runs_alike : (rows more : List InputRow) → AreOneRows names others rows more → IsOneBook (run_by kit st b rows) (run_by kit st c more)
    runs_alike rows more h = record {
      version = one.version;
      first = one.first;
      segs =
          extend_alike kit b.machine c.machine (b.rows ++ rows) (c.rows ++ more)
          (between_alike names others once also b.machine c.machine machine (b.rows ++ rows) (c.rows ++ more) (rows_append names others record_ h))
          b.segs (length b.rows) (last_state b.first b.segs) (grid st.interval (length b.rows) (length rows))
          ∙ ap₂ (λ (s : State) (gs : List (Segment State)). extend kit c.machine (c.rows ++ more) gs (length b.rows) (last_state s gs)
          (grid st.interval (length b.rows) (length rows))) one.first one.segs
          ∙ ap₂ (λ (n i : ℕ). extend kit c.machine (c.rows ++ more) c.segs n (last_state c.first c.segs) (grid st.interval n i))
          (rows_many names others record_) (rows_many names others h);
      tickets = one.tickets;
    }

    pub reloads_alike : (m n : Design) → IsOneDesign names others m n → (ops done : Ops) → AreOneOperations names others ops done
        → IsOneBook (reload_to kit st b m ops) (reload_to kit st c n done)
    reloads_alike m n h ops done k = record {
      version = ap (λ (v : ℕ). v + 1) one.version;
      first = start_alike names others once also m n h;
      segs =
          reloaded_alike kit m n b.rows c.rows (between_alike names others once also m n h b.rows c.rows record_) b.machine c.machine ops done
          (carried_alike names others once also b.machine c.machine m n machine h ops done k) (length b.rows - st.lookback) 0 (kit.start m) b.segs
          ∙ ap₂ (λ (i : ℕ) (s : State). reloaded kit c.machine n done c.rows (i - st.lookback) 0 s b.segs) (rows_many names others record_)
          (start_alike names others once also m n h)
          ∙ ap (reloaded kit c.machine n done c.rows (length c.rows - st.lookback) 0 (kit.start n)) one.segs;
      tickets = one.tickets;
    }
