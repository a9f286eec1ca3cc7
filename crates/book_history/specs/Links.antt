-- What stands between two marks.
use Rattle.std.specs.Prelude.{ℕ, Bool, true, false, if◌then◌else◌, eqb}
use Rattle.book_history.specs.declared.link.Link.{Link}
use Rattle.book_history.specs.declared.link.Link.TheVariants.{Open, Out, Joined}
use Rattle.book_history.specs.declared.who.Who.{Who}
use Rattle.book_history.specs.declared.who.Who.TheVariants.{Session, Worker}

abbrev pub is_open : Link → Bool
is_open Open = true
is_open (Out n) = false
is_open Joined = false

abbrev pub is_joined : Link → Bool
is_joined Open = false
is_joined (Out n) = false
is_joined Joined = true

-- which links a claim takes
abbrev pub takes : Who → Link → Bool
takes Session Open = true
takes Session (Out n) = true
takes Session Joined = false
takes (Worker w) Open = true
takes (Worker w) (Out n) = false
takes (Worker w) Joined = false

abbrev pub both : Link → Link → Link
both Open l = Open
both (Out n) l = Open
both Joined l = if is_joined l then Joined else Open

abbrev pub free_link : ℕ → Link → Link
free_link n Open = Open
free_link n (Out m) = if eqb m n then Open else Out m
free_link n Joined = Joined
