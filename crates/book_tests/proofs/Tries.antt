-- What one call of a case keeps of its book.
use Rattle.std.proofs.Common.{◌≡◌, ℕ, ◌+◌, ◌≤◌, List, [], ◌∷◌, ◌++◌, ◌∙◌, ap, sym, subst, refl, arith, eqb, ◌||◌}
use Rattle.std.proofs.lemmas.Bool.{ne_eqb}
use Rattle.std.specs.Prelude.{Option, Some, None, IfSome, Bool, true, false}
use Rattle.machine.specs.declared.tally.TallyMachine.{TallyMachine}
use Rattle.book_history.specs.declared.who.Who.{Who}
use Rattle.book_history.specs.declared.who.Who.TheVariants.{Session, Worker}
use Rattle.book_history.specs.Book.{DrawnTicket, Settings, Event, Opens, Runs, Reloads, Claims, Installs, Releases, Shows, Closes, replay}
use Rattle.book_history.specs.Rooms.{Counts, count, counted, count_all, no_entry}
use Rattle.book_history.specs.Outs.{IsOutFor}
use Rattle.book_history.specs.Tickets.{is_used}
use Rattle.book_history.proofs.Bridge.{still_out}
use Rattle.book_history.proofs.Prefixes.{count-snoc}
use Rattle.checkpoint_book.specs.Views.{book_of, counts_of, HasRoomFor}
use Rattle.book_tests.specs.Held.{tally_kit, Tallied, IsHeld, AreHeld, StayOut, Keeps, KeepsOthers}

-- an entry of the machine that adds
abbrev pub Tally : Type 0
Tally = Event TallyMachine ℕ (Unit {0})

abbrev pub closes : Tally → Bool
closes (Opens v m) = false
closes (Runs n rows) = false
closes (Reloads v m ops from) = false
closes (Claims n a b by) = false
closes (Installs n j by) = false
closes (Releases n by) = false
closes (Shows s) = false
closes Closes = true

counted_same : (n : Counts) (by : Who) → (counted n by).closed ≡ n.closed
counted_same n Session = refl
counted_same n (Worker w) = refl

count_same : (n : Counts) (e : Tally) → closes e ≡ false → (count n e).closed ≡ n.closed
count_same n (Opens v m) c = refl
count_same n (Runs x rows) c = refl
count_same n (Reloads v m ops from) c = refl
count_same n (Claims i a b by) c = counted_same n by
count_same n (Installs i j by) c = counted_same n by
count_same n (Releases i by) c = counted_same n by
count_same n (Shows s) c = refl
count_same n Closes c = absurd cc

closed_after : (j j' : Tallied) (e : Tally) → j'.events ≡ j.events ++ e ∷ [] → closes e ≡ false → (counts_of j').closed ≡ (counts_of j).closed
closed_after j j' e events c =
    ap (λ (x : List Tally). (count_all no_entry x).closed) events ∙ ap (λ (x : Counts). x.closed) (count-snoc no_entry j.events e) ∙ count_same (counts_of j) e c

pub closed_now : (j j' : Tallied) → j'.events ≡ j.events ++ Closes ∷ [] → (counts_of j').closed ≡ true
closed_now j j' events = ap (λ (x : List Tally). (count_all no_entry x).closed) events ∙ ap (λ (x : Counts). x.closed) (count-snoc no_entry j.events Closes)

-- a ticket is out after one entry more, which doesn't use it up
out_after : (j j' : Tallied) (e : Tally) → j'.settings ≡ j.settings → j'.events ≡ j.events ++ e ∷ [] → (n : ℕ) (t : DrawnTicket TallyMachine ℕ ℕ) (by : Who)
    → is_used n (e ∷ []) ≡ false → IsOutFor (book_of tally_kit j) n t by → IsOutFor (book_of tally_kit j') n t by
out_after j j' e settings events n t by unused out =
    let here : IsOutFor (replay tally_kit j.settings (j.events ++ e ∷ [])) n t by = still_out tally_kit j.settings j.events (e ∷ []) n t by out unused in
    subst (λ (h : List Tally). IsOutFor (replay tally_kit j'.settings h) n t by) (sym events)
    (subst (λ (st : Settings). IsOutFor (replay tally_kit st (j.events ++ e ∷ [])) n t by) (sym settings) here)

pub stay_after : (j j' : Tallied) (e : Tally) → j'.settings ≡ j.settings → j'.events ≡ j.events ++ e ∷ [] → ((n : ℕ) → is_used n (e ∷ []) ≡ false) → StayOut j j'
stay_after j j' e settings events unused = λ n t by out. out_after j j' e settings events n t by (unused n) out

-- one entry more, which isn't a Close and uses no ticket up
pub keeps_one : (j j' : Tallied) (e : Tally) → j'.settings ≡ j.settings → j'.events ≡ j.events ++ e ∷ [] → closes e ≡ false → ((n : ℕ) → is_used n (e ∷ []) ≡ false) → Keeps j j'
keeps_one j j' e settings events c unused = record { outs = stay_after j j' e settings events unused; closed = closed_after j j' e events c }

pub keeps_none : (j j' : Tallied) → j'.settings ≡ j.settings → j'.events ≡ j.events → Keeps j j'
keeps_none j j' settings events = record {
  outs = λ n t by out.
      subst (λ (h : List Tally). IsOutFor (replay tally_kit j'.settings h) n t by) (sym events)
      (subst (λ (st : Settings). IsOutFor (replay tally_kit st j.events) n t by) (sym settings) out);
  closed = ap (λ (x : List Tally). (count_all no_entry x).closed) events;
}

pub keeps_same : (j : Tallied) → Keeps j j
keeps_same j = keeps_none j j refl refl

-- the end of the ticket v, which is t
pub keeps_others : (j j' : Tallied) (e : Tally) (v t : ℕ × DrawnTicket TallyMachine ℕ ℕ) → v ≡ t → j'.settings ≡ j.settings → j'.events ≡ j.events ++ e ∷ [] → closes e ≡ false
    → ((n : ℕ) → is_used n (e ∷ []) ≡ (eqb n v.0 || false)) → KeepsOthers t.0 j j'
keeps_others j j' e v t same settings events c uses = record {
  outs = λ n u by other out.
      out_after j j' e settings events n u by
      (uses n ∙ ap (λ (x : ℕ × DrawnTicket TallyMachine ℕ ℕ). eqb n x.0 || false) same ∙ ap (λ (b : Bool). b || false) (ne_eqb n t.0 other)) out;
  closed = closed_after j j' e events c;
}

pub keeps_all_others : (m : ℕ) (j j' : Tallied) → Keeps j j' → KeepsOthers m j j'
keeps_all_others m j j' keeps = record { outs = λ n t by other out. keeps.outs n t by out; closed = keeps.closed }

-- one entry more has its room
pub room_for : (j : Tallied) (by : Who) (left : ℕ) → (counts_of j).session + left ≡ j.settings.rooms.session → 1 ≤ left → HasRoomFor j by
room_for j Session left room some = omega (arith, room, some)
room_for j (Worker w) left room some = tt

module _ {A : Type 0} (ticket : A → ℕ × DrawnTicket TallyMachine ℕ ℕ) (by : A → Who) where
  pub held_still : (j j' : Tallied) (h : Option A) → StayOut j j' → IsHeld ticket by j h → IsHeld ticket by j' h
  held_still j j' None stay held = tt
  held_still j j' (Some h) stay held = stay (ticket h).0 (ticket h).1 (by h) held

  -- its number is another one than n, which is m
  pub held_beside : (m n : ℕ) (j j' : Tallied) (h : Option A) → KeepsOthers m j j' → IfSome h (λ x. (ticket x).0 ≡ n → ⊥) → n ≡ m → IsHeld ticket by j h → IsHeld ticket by j' h
  held_beside m n j j' None keeps other same held = tt
  held_beside m n j j' (Some h) keeps other same held = keeps.outs (ticket h).0 (ticket h).1 (by h) (λ e. other (e ∙ sym same)) held

  pub all_held : (j j' : Tallied) (one two : Option A) (shut : Bool) → Keeps j j' → AreHeld ticket by j one two shut → AreHeld ticket by j' one two shut
  all_held j j' one two shut keeps held = record {
    first = held_still j j' one keeps.outs held.first;
    second = held_still j j' two keeps.outs held.second;
    closed = keeps.closed ∙ held.closed;
  }
