-- A run over a made script: its commands are those of the whole script, though reading stops at its `quit`.
use Rattle.std.proofs.Common.{◌≡◌, ◌≢◌, ◌⊎◌, ⊎_elim, inl, inr, ℕ, zero, suc, ◌≤◌, Bool, true, false, cond, List, [], ◌∷◌, ◌++◌, length, length-append, Option, Some, Result, Ok, Err, refl, sym, ap, ◌∙◌, subst, append-nil, append_assoc, true≢false, arith}
use Rattle.std.specs.Prelude.{IfSome}
use Rattle.std.proofs.lemmas.List.{take_all}
use Rattle.ls_text.specs.Readings.{TextFault}
use Rattle.command_read.specs.Asking.{Asked}
use Rattle.command_read.specs.Scripts.{asks, commands, is_quit, up_to_quit}
use Rattle.command_read.proofs.Cutting.{asks_begin, commands_begin}
use Rattle.live_options.specs.Bounds.{AreWithin, AskWithin}
use Rattle.live_options.specs.Words.{OptionsOf, options}
use Rattle.load_maker.specs.Scripts.{script_of}
use Rattle.load_maker.proofs.Lengths.{scripts_short}
use Rattle.ls_port.specs.Causes.{Rose}
use Rattle.ls_port.specs.declared.shelf_answer.ShelfAnswer.{ShelfAnswer}
use Rattle.live_session.specs.Loads.{AreToFirst}
use Rattle.live_session.specs.Logs.{Log}
use Rattle.live_session.specs.Replies.{asked_of}
use Rattle.live_session.specs.Settings.{Settings}
use Rattle.livesim.specs.Runs.{HasRun, Lived, end_with_quit, loads_first}
use Rattle.livesim.specs.Turns.{Shelves, source_at}
use Rattle.livesim.proofs.Histories.{entries_further}
use Rattle.livesim.proofs.Over.{nothing_lived}

-- behind a command that is no `quit` the last one stays the last one
later_quits : (x : Result Asked TextFault) (us : List (Result Asked TextFault)) → is_quit x ≡ false → end_with_quit (x ∷ us) ≡ true → end_with_quit us ≡ true
later_quits x [] none ends = absurd (true≢false (sym ends ∙ none))
later_quits x (u ∷ us) none ends = ends

-- nothing counts behind commands of which the last is `quit`
nothing_behind : (xs ys : List (Result Asked TextFault)) → end_with_quit (up_to_quit xs) ≡ true → up_to_quit (xs ++ ys) ≡ up_to_quit xs
nothing_behind [] ys quits = absurd (true≢false (sym quits))
nothing_behind (x ∷ xs) ys quits = by (is_quit x) refl quits (nothing_behind xs ys)
  where
    by : (q : Bool) → is_quit x ≡ q → end_with_quit (x ∷ cond q [] (up_to_quit xs)) ≡ true
        → (end_with_quit (up_to_quit xs) ≡ true → up_to_quit (xs ++ ys) ≡ up_to_quit xs) → x ∷ cond q [] (up_to_quit (xs ++ ys)) ≡ x ∷ cond q [] (up_to_quit xs)
    by true is ends later = refl
    by false is ends later = ap (λ t. x ∷ t) (later (later_quits x (up_to_quit xs) is ends))

-- so the commands of a script that is cut behind its `quit` are those of the whole script
quits_whole : (bytes more : List ℕ) (end : Bool) → length (bytes ++ more) ≤ 67108864 → end_with_quit (commands bytes false) ≡ true
    → commands (bytes ++ more) end ≡ commands bytes false
unfolding commands
quits_whole bytes more end few quits =
    let same = take_all 67108864 bytes (omega (arith, few, length-append bytes more)) in
    let all = take_all 67108864 (bytes ++ more) few in
    let begins = asks_begin end 1 bytes more in
    let ends : end_with_quit (up_to_quit (asks false 1 bytes)) ≡ true = ap (λ b. end_with_quit (up_to_quit (asks false 1 b))) (sym same) ∙ quits in
    ap (λ b. up_to_quit (asks end 1 b)) all ∙ ap up_to_quit begins.1 ∙ nothing_behind (asks false 1 bytes) begins.0 ends
    ∙ ap (λ b. up_to_quit (asks false 1 b)) (sym same)

whole_or_one : (status : ℕ) → status ≤ 6 → status ≢ 2 → status ≢ 3 → status ≢ 4 → status ≢ 5 → status ≢ 6 → (status ≡ 0) ⊎ (status ≡ 1)
whole_or_one zero known a b c d e = inl refl
whole_or_one (suc zero) known a b c d e = inr refl
whole_or_one (suc (suc zero)) known a b c d e = absurd (a refl)
whole_or_one (suc (suc (suc zero))) known a b c d e = absurd (b refl)
whole_or_one (suc (suc (suc (suc zero)))) known a b c d e = absurd (c refl)
whole_or_one (suc (suc (suc (suc (suc zero))))) known a b c d e = absurd (d refl)
whole_or_one (suc (suc (suc (suc (suc (suc zero)))))) known a b c d e = absurd (e refl)
whole_or_one (suc (suc (suc (suc (suc (suc (suc n))))))) known a b c d e = absurd (omega (arith, known))

-- answers to the first loads of the first of these, whatever comes behind them
lost_later : (xs ys : List (Result Asked TextFault)) (lost : List ShelfAnswer) → AreToFirst (loads_first xs) lost → AreToFirst (loads_first (xs ++ ys)) lost
lost_later xs ys [] first = tt
lost_later [] ys (a ∷ lost) first = absurd first
lost_later (Ok asked ∷ xs) ys (a ∷ lost) first = first
lost_later (Err fault ∷ xs) ys (a ∷ lost) first = absurd first

-- these begin all of those, with others behind them that begin so, and the shelf answered that to the first of the others
record Leads (told before all : List (Result Asked TextFault)) (lost : List ShelfAnswer) : Type 0 where
  rest : List (Result Asked TextFault)
  begins : all ≡ told ++ rest
  more : List (Result Asked TextFault)
  further : rest ≡ before ++ more
  first : AreToFirst (loads_first rest) lost

-- a script of which the first bytes were taken
module _ (script bytes left : List ℕ) (cut : script ≡ bytes ++ left) (fits : length script ≤ 67108864) where
  whole_fits : length (bytes ++ left) ≤ 67108864
  whole_fits = omega (arith, fits, ap length cut)

  part_fits : length bytes ≤ 67108864
  part_fits = omega (arith, whole_fits, length-append bytes left)

  all_read : left ≡ [] → script ≡ bytes
  all_read none = cut ∙ ap (λ l. bytes ++ l) none ∙ append-nil bytes

  -- all commands, where it was read to its end or to its `quit`
  all_commands : (ended : Bool) → (ended ≡ true → left ≡ []) → (ended ≡ true) ⊎ (end_with_quit (commands bytes ended) ≡ true)
      → commands bytes ended ≡ commands script true
  all_commands true at_end whole = ap (λ b. commands b true) (sym (all_read (at_end refl)))
  all_commands false at_end (inl is) = absurd (true≢false (sym is))
  all_commands false at_end (inr quits) = sym (ap (λ b. commands b true) cut ∙ quits_whole bytes left true whole_fits quits)

  -- the first commands
  first_commands : (ended : Bool) → (ended ≡ true → left ≡ []) → (told : List (Result Asked TextFault)) (lost : List ShelfAnswer)
      → (rest : List (Result Asked TextFault)) → commands bytes ended ≡ told ++ rest → AreToFirst (loads_first rest) lost
      → Leads told rest (commands script true) lost
  first_commands true at_end told lost rest begins first =
      record {
        rest = rest;
        begins = ap (λ b. commands b true) (all_read (at_end refl)) ∙ begins;
        more = [];
        further = sym (append-nil rest);
        first = first;
      }
  first_commands false at_end told lost rest begins first =
      let more = commands_begin bytes left true part_fits in
      record {
        rest = rest ++ more.0;
        begins = ap (λ b. commands b true) cut ∙ more.1 ∙ ap (λ (t : List (Result Asked TextFault)). t ++ more.0) begins ∙ append_assoc told rest more.0;
        more = more.0;
        further = refl;
        first = lost_later rest more.0 lost first;
      }

-- a run over a whole script that took some bytes of it, of which reading doesn't fail
script_run : (st : Settings) (script left : List ℕ) (written_old written_new : Option (List ℕ)) (answers_old answers_new : Option (List ShelfAnswer))
    (faults_old faults_new : ℕ) (bytes : List ℕ) (ended : Bool) (status : ℕ) (h : Log) → length script ≤ 67108864 → status ≤ 6 → status ≢ 2 → status ≢ 3
    → Lived st (Some script) (Some left) written_old written_new answers_old answers_new faults_old faults_new bytes ended status h
    → HasRun st written_old written_new answers_old answers_new faults_old faults_new script true status h
script_run st script left written_old written_new answers_old answers_new faults_old faults_new bytes ended status h fits known words no_fault lived =
    let ran = lived.ran in
    let short : status ≢ 6 = λ is. absurd (omega (arith, ran.too_much is, part_fits script bytes left lived.consumed fits)) in
    let leads = first_commands script bytes left lived.consumed fits ended lived.at_end (asked_of ran.told) ran.lost ran.begins.0 ran.begins.1 ran.lost_first in
    record {
      told = ran.told;
      right = ran.right;
      all = λ not_sink enough. ran.all not_sink enough
          ∙ all_commands script bytes left lived.consumed fits ended lived.at_end
          (ran.whole (whole_or_one status known words no_fault not_sink enough short));
      begins = (leads.rest, leads.begins);
      begins_all = (leads.rest, leads.begins);
      whole = λ which. inl refl;
      judged = ran.judged;
      cut = λ which. absurd (⊎_elim no_fault short which);
      lost = ran.lost;
      answered = ran.answered;
      none_lost = ran.none_lost;
      lost_first = leads.first;
      none_reached = ran.none_reached;
      failed = ran.failed;
      written = ran.written;
      front = ran.front;
      most = ran.most;
      settings = ran.settings;
      legal = ran.legal;
      entries = entries_further st ran.told ran.begins.0 leads.more leads.rest status _ _ leads.further ran.entries;
      settled = ran.settled;
      too_much = λ is. absurd (short is);
      not_too_much = λ much. absurd (omega (arith, much, fits));
    }

script_fits : (stages : ℕ) → stages ≤ 4096 → length (script_of stages) ≤ 67108864
script_fits stages few = omega (arith, scripts_short stages few, few)

-- the same of a made script, with the source that it is read from
pub made_run : (st : Settings) (stages : ℕ) (script left : List ℕ) (written_old written_new : Option (List ℕ)) (answers_old answers_new : Option (List ShelfAnswer))
    (faults_old faults_new : ℕ) (taken status : ℕ) (h : Log) → script ≡ script_of stages → stages ≤ 4096 → status ≤ 6 → status ≢ 2 → status ≢ 3
    → (bytes : List ℕ) × (ended : Bool) × (length bytes ≡ taken)
    × Lived st (Some script) (Some left) written_old written_new answers_old answers_new faults_old faults_new bytes ended status h
    → HasRun st written_old written_new answers_old answers_new faults_old faults_new (script_of stages) true status h
made_run st stages script left written_old written_new answers_old answers_new faults_old faults_new taken status h is few known words no_fault lived =
    subst (λ (s : List ℕ). HasRun st written_old written_new answers_old answers_new faults_old faults_new s true status h) is
    (script_run st script left written_old written_new answers_old answers_new faults_old faults_new lived.0 lived.1 status h
    (subst (λ (s : List ℕ). length s ≤ 67108864) (sym is) (script_fits stages few)) known words no_fault lived.3)

-- memory ran out before anything was touched
pub unmade : (st : Settings) (stages : ℕ) (shelf : Shelves) (old : Option (List ℕ)) (status : ℕ) (h : Log) → stages ≤ 4096 → status ≡ 5 → h.events ≡ []
    → HasRun st old old shelf.answers shelf.answers shelf.faults shelf.faults (script_of stages) true status h
unmade st stages shelf old status h few five blank =
    subst (λ (n : ℕ). HasRun st old old shelf.answers shelf.answers shelf.faults shelf.faults (script_of stages) true n h) (sym five)
    (made_run st stages (script_of stages) (script_of stages) old old shelf.answers shelf.answers shelf.faults shelf.faults 0 5 h refl few
    (omega arith) (λ is. omega (arith, is)) (λ is. omega (arith, is))
    (nothing_lived st (source_at (Some (script_of stages)) 0) shelf old h blank))

-- the input ends with it, so it isn't too long
pub made_short : (st : Settings) (script : List ℕ) (written_old written_new : Option (List ℕ)) (answers_old answers_new : Option (List ShelfAnswer))
    (faults_old faults_new : ℕ) (status : ℕ) (h : Log)
    → HasRun st written_old written_new answers_old answers_new faults_old faults_new script true status h → status ≢ 6
made_short st script written_old written_new answers_old answers_new faults_old faults_new status h ran = λ is. true≢false (ran.cut (inr is))

-- words ask for at most 4,096 stages
pub few_asked : AskWithin → (words : List (List ℕ)) (o : OptionsOf) (stages : ℕ) → options words ≡ Some o → o.load ≡ Some stages → stages ≤ 4096
few_asked within words o stages is load =
    let bounds : AreWithin o = subst (λ (x : Option OptionsOf). IfSome x AreWithin) is (within words) in
    subst (λ (x : Option ℕ). IfSome x (λ n. n ≤ 4096)) load bounds.stages

-- a source that never fails hasn't failed
pub never_rose : (status : ℕ) → (status ≡ 3 → Rose 0 0) → status ≢ 3
never_rose status rose is =
    let one : 0 ≡ 1 = rose is in
    omega (arith, one)
