-- How far a host has come in its script.
use Rattle.std.specs.Prelude.{◌≡◌, Bool, List, Option, Some, None}
use Rattle.channel_program.specs.Items.{EndsScript}
use Rattle.channel_program.specs.Script.{ItemData, Follows}
use Rattle.seen_book.specs.Books.{PassData}
use Rattle.script_places.specs.Places.{StandsAt}
use Rattle.script_places.specs.Scripts.{Plays, left_after, not_begun}
use Rattle.script_places.specs.declared.place.Place.{Place}
use Rattle.mss_run.specs.Owns.{asked_by, exchanges_by}

-- its calls came next in its script one by one, it was told of each, and its place is behind them
pub record HasWalked (items : List ItemData) (p : PassData) (place : Place) : Type 0 where
  pub told : exchanges_by p ≡ asked_by p
  pub plays : Plays (not_begun items) (exchanges_by p)
  pub stands : StandsAt items (left_after (not_begun items) (exchanges_by p)) place

-- it came to the end of its script, or it didn't
pub record EndsWalk (items : List ItemData) (p : PassData) (finished : Bool) : Type 0 where
  pub ends : EndsScript items (exchanges_by p) finished
  pub asks : Follows items (asked_by p)

-- it goes on, or that was its way
abbrev pub WalksOn : List ItemData → PassData → Place → Option Bool → Type 0
WalksOn items p place None = HasWalked items p place
WalksOn items p place (Some finished) = EndsWalk items p finished
