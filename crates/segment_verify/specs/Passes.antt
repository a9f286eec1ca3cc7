-- The entries of a settle, and of one for which memory ran out.
use Rattle.std.specs.Prelude.{◌≡◌, ℕ, ◌+◌, ◌≤◌, ◌<◌, List, [], ◌∷◌, ◌++◌, Bool, Option, None}
use Rattle.book_history.specs.declared.who.Who.TheVariants.{Session}
use Rattle.book_history.specs.Book.{Event, Claims, Installs, Releases, Shows}

-- so many claims of the session, each with its install right behind it
pub data ArePasses {D R O : Type 0} : ℕ → List (Event D R O) → Type 0 where
  no_pass : ArePasses 0 []
  one_more : (m n t a b : ℕ) (j : Bool) (es : List (Event D R O)) → ArePasses m es → n ≡ m + 1
      → ArePasses n (es ++ Claims t a b Session ∷ Installs t j Session ∷ [])

-- At most n passes over so many links, and then a show. There are fewer only where the show says that all links are joined,
-- and with a pass for each link it says so.
pub record IsSettle {D R O : Type 0} (n links : ℕ) (es : List (Event D R O)) : Type 0 where
  pub passes : List (Event D R O)
  pub count : ℕ
  pub answer : Option ℕ
  pub split : es ≡ passes ++ Shows answer ∷ []
  pub are : ArePasses count passes
  pub few : count ≤ n
  pub stops : count < n → answer ≡ None
  pub all : links ≤ n → answer ≡ None

-- no entry, or a claim of the session and the release of its ticket
pub data IsGivenUp {D R O : Type 0} : List (Event D R O) → Type 0 where
  no_ticket : IsGivenUp []
  one_ticket : (t a b : ℕ) → IsGivenUp (Claims t a b Session ∷ Releases t Session ∷ [])

-- passes of a settle that didn't come to its show, and then what it gave up
pub record IsUnfinished {D R O : Type 0} (es : List (Event D R O)) : Type 0 where
  pub passes : List (Event D R O)
  pub count : ℕ
  pub last : List (Event D R O)
  pub split : es ≡ passes ++ last
  pub are : ArePasses count passes
  pub gave_up : IsGivenUp last
