-- Which accessor serves a move, and what each does.
use Rattle.std.specs.Prelude.{◌≡◌, ◌⊎◌, ℕ, ◌+◌, ◌-◌, ◌<◌, ◌≤◌, nat_le, min, max, Bool, if◌then◌else◌, Option, Some, None}
use Rattle.mss_base.specs.Firsts.{where_so}
use Rattle.accessors.specs.declared.rail.Accessor.{Accessor}
use Rattle.accessors.specs.declared.rail.Accessor.TheVariants.{Left, Right}
use Rattle.accessors.specs.declared.rail.MovePlan.{MovePlan}
use Rattle.accessors.specs.Rails.{RailData, IsServed}

abbrev pub distance : ℕ → ℕ → ℕ
distance a b = (a - b) + (b - a)

-- the nearer accessor serves; a tie goes to the left one
abbrev pub is_left_nearer : RailData → ℕ → Bool
is_left_nearer rail from = nat_le (distance rail.left from) (distance rail.right from)

-- the left one serves; the right one first goes right of the way, where it stands in it
abbrev pub left_plan : RailData → ℕ → ℕ → MovePlan
left_plan rail from to = record {
  serving = Left;
  other_to = where_so (nat_le rail.right (max from to)) (max from to + 1);
  from = from;
  to = to;
}

-- the right one serves; the left one first goes left of the way, where it stands in it
abbrev pub right_plan : RailData → ℕ → ℕ → MovePlan
right_plan rail from to = record {
  serving = Right;
  other_to = where_so (nat_le (min from to) rail.left) (min from to - 1);
  from = from;
  to = to;
}

-- the plan of a move
abbrev pub plan_of : RailData → ℕ → ℕ → MovePlan
plan_of rail from to = if is_left_nearer rail from then left_plan rail from to else right_plan rail from to

-- it is the plan that the rule gives for its move
pub record IsPlan (rail : RailData) (plan : MovePlan) : Type 0 where
  pub rule : plan ≡ plan_of rail plan.from plan.to
  pub from : IsServed plan.from
  pub to : IsServed plan.to

abbrev pub place_or : ℕ → Option ℕ → ℕ
place_or place None = place
place_or place (Some other) = other

-- the rail with the accessor that doesn't serve out of the way
abbrev pub cleared_for : Accessor → Option ℕ → RailData → RailData
cleared_for Left other_to rail = record rail { right = place_or rail.right other_to }
cleared_for Right other_to rail = record rail { left = place_or rail.left other_to }

-- the place of the serving accessor, and that of the other one
abbrev pub place_served : Accessor → RailData → ℕ
place_served Left rail = rail.left
place_served Right rail = rail.right

abbrev pub place_other : Accessor → RailData → ℕ
place_other Left rail = rail.right
place_other Right rail = rail.left

-- the rail with the serving accessor at a place, and with the other one
abbrev pub served_at : Accessor → ℕ → RailData → RailData
served_at Left place rail = record rail { left = place }
served_at Right place rail = record rail { right = place }

abbrev pub other_at : Accessor → ℕ → RailData → RailData
other_at Left place rail = record rail { right = place }
other_at Right place rail = record rail { left = place }

-- the rail after a move
abbrev pub rail_after : MovePlan → RailData → RailData
rail_after plan rail = served_at plan.serving plan.to (cleared_for plan.serving plan.other_to rail)

-- the rail after a move from one place to another
abbrev pub moved_from_to : ℕ → ℕ → RailData → RailData
moved_from_to from to rail = rail_after (plan_of rail from to) rail

-- a place on the way from one to another
abbrev pub IsOnWay : ℕ → ℕ → ℕ → Type 0
IsOnWay from to place = ((from ≤ place) × (place ≤ to)) ⊎ ((to ≤ place) × (place ≤ from))

abbrev pub IsApart : RailData → Type 0
IsApart rail = rail.left < rail.right

-- at each place on its way: first the other accessor gives way, then the serving one goes to where the cartridge is,
-- and on to where it is brought
pub record NeverMeets (rail : RailData) (plan : MovePlan) : Type 0 where
  pub giving_way : (place : ℕ)
      → IsOnWay (place_other plan.serving rail) (place_other plan.serving (cleared_for plan.serving plan.other_to rail)) place
      → IsApart (other_at plan.serving place rail)
  pub fetching : (place : ℕ) → IsOnWay (place_served plan.serving rail) plan.from place
      → IsApart (served_at plan.serving place (cleared_for plan.serving plan.other_to rail))
  pub bringing : (place : ℕ) → IsOnWay plan.from plan.to place
      → IsApart (served_at plan.serving place (cleared_for plan.serving plan.other_to rail))
