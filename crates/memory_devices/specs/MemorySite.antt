-- What a site in memory means.
use Rattle.std.specs.Prelude.{◌≡◌, ℕ, true, min, vec_len, Bool, List, All, Any, Option}
use Rattle.indexmap.specs.IndexMap.{spare as map_spare}
use Rattle.mss_base.specs.Content.{SiteLog}
use Rattle.memory_devices.specs.Memory.{content_in}
use Rattle.mss_base.specs.Counts.{next_count}
use Rattle.memory_devices.specs.SiteFaults.{strikes, IsReadOf}
use Rattle.mss_base.specs.declared.place.UnitNo.{UnitNo}
use Rattle.memory_devices.specs.declared.memory_site.SiteFault.{SiteFault}
use Rattle.memory_devices.specs.declared.memory_site.MemorySite.{MemorySite}

abbrev pub told_of : MemorySite → SiteLog
told_of s = record { start = content_in s.start; log = s.log.items }

-- how many writes and syncs it has room for
abbrev pub room_of : MemorySite → ℕ
room_of s = min (vec_len s.room) (min (map_spare s.blocks) s.log.room)

abbrev pub faults_of : MemorySite → ℕ
faults_of s = s.faults

-- how many reads, writes and syncs were made since the last `fail`
abbrev pub calls_of : MemorySite → ℕ
calls_of s = s.calls

-- the failures to come
abbrev pub failing_of : MemorySite → List SiteFault
failing_of s = s.failing.items

-- the next call fails, which reads this unit, writes or syncs
abbrev pub FailsNext : Option UnitNo → MemorySite → Type 0
FailsNext read_of s = Any (λ fault. strikes (next_count s.calls) read_of fault ≡ true) s.failing.items

-- all failures to come strike reads of units for which the test holds
abbrev pub FailsOnly : MemorySite → (UnitNo → Bool) → Type 0
FailsOnly s but = All (IsReadOf but) s.failing.items
