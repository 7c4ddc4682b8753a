-- One call after another: what each leaves of a site.
use Rattle.std.proofs.Common.{◌≡◌, ◌≤◌, ℕ, refl, ◌∙◌, arith}
use Rattle.mss_base.specs.Sound.{StaysSound}
use Rattle.mss_base.specs.Sites.{OnlyReads, MayWrite}
use Rattle.mss_base.specs.declared.place.UnitNo.{UnitNo}
use Rattle.mss_base.specs.declared.site.Site.{Ghosts}
use Rattle.table_pair.specs.Reads.{IsReadable, CanReadTracks}
use Rattle.table_pair.specs.Repairs.{GotRoom, LeavesSite}

-- what can be read goes on so
pub readable_on : {S : Type 0} (g : Ghosts S) (old new : S) → StaysSound g.never_fails_but old new → (unit : UnitNo) → IsReadable g old unit → IsReadable g new unit
readable_on g old new sound unit can = (can.0, sound can.0 can.1, can.2)

pub tracks_on : {S : Type 0} (g : Ghosts S) (old new : S) → StaysSound g.never_fails_but old new → CanReadTracks g old → CanReadTracks g new
tracks_on g old new sound can unit outside = readable_on g old new sound unit (can unit outside)

module _ {S : Type 0} (g : Ghosts S) where
  pub sound_then : (s r t : S) → StaysSound g.never_fails_but s r → StaysSound g.never_fails_but r t → StaysSound g.never_fails_but s t
  sound_then s r t first second = λ but never. second but (first but never)

  -- no read, and reads one after the other
  pub reads_none : (s : S) → OnlyReads g s s
  reads_none s = record { log = λ _. refl; room = refl; unwritten = refl; later = omega arith; sound = λ but so. so }

  pub reads_then : (s r t : S) → OnlyReads g s r → OnlyReads g r t → OnlyReads g s t
  reads_then s r t first second = record {
    log = λ yes. second.log yes ∙ first.log yes;
    room = second.room ∙ first.room;
    unwritten = second.unwritten ∙ first.unwritten;
    later = omega (arith, first.later, second.later);
    sound = sound_then s r t first.sound second.sound;
  }

  -- reads of a site that got room at most
  pub got_room : (s t : S) → (g.tells → g.told t ≡ g.told s) → g.spare s ≤ g.spare t → g.writes t ≡ g.writes s → g.faults t ≡ g.faults s → StaysSound g.never_fails_but s t → GotRoom g s t
  got_room s t log room unwritten unfailed sound = record { log = log; room = room; unwritten = unwritten; later = omega (arith, unfailed); sound = sound }

  pub room_read : (s r t : S) → GotRoom g s r → OnlyReads g r t → GotRoom g s t
  room_read s r t first second = record {
    log = λ yes. second.log yes ∙ first.log yes;
    room = omega (arith, first.room, second.room);
    unwritten = second.unwritten ∙ first.unwritten;
    later = omega (arith, first.later, second.later);
    sound = sound_then s r t first.sound second.sound;
  }

  pub room_leaves : (s t : S) → GotRoom g s t → g.faults t ≡ g.faults s → LeavesSite g s t
  room_leaves s t got same = record { log = got.log; room = got.room; unwritten = got.unwritten; unfailed = same }

  pub room_may : (most : ℕ) (s t : S) → GotRoom g s t → MayWrite g most s t
  room_may most s t got = record { room = omega (arith, got.room); written = omega (arith, got.unwritten); later = got.later; sound = got.sound }

  pub room_write : (most : ℕ) (s r t : S) → GotRoom g s r → MayWrite g most r t → MayWrite g most s t
  room_write most s r t first second = record {
    room = omega (arith, first.room, second.room);
    written = omega (arith, first.unwritten, second.written);
    later = omega (arith, first.later, second.later);
    sound = sound_then s r t first.sound second.sound;
  }
