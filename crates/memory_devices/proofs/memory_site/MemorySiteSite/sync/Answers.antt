use Rattle.std.proofs.Common.{◌∙◌, refl}
use Rattle.mss_base.specs.Content.{synced, unsynced}
use Rattle.memory_devices.specs.Memory.{content_in}
use Rattle.memory_devices.proofs.LoggedLemmas.{kept_after}
use Rattle.memory_devices.proofs.memory_site.MemorySiteSite.sync.Goals as goal

pub invariant_of-self : goal.invariant_of-self
invariant_of-self c =
    let s = c.fails.new.self in
    let same = kept_after (content_in s.start) s.log.items c.push_sync.new.self.items unsynced (λ d. refl) c.push_sync.ensures.items in
    record { whole = s.whole; kept = λ unit block. s.kept unit block ∙ (λ i. same i unit block); zeros_ = s.zeros_ }

pub invariant_of-self-2 : goal.invariant_of-self-2
invariant_of-self-2 c =
    let s = c.fails.new.self in
    let same = kept_after (content_in s.start) s.log.items c.push_sync-2.new.self.items (synced c.args.unit) (λ d. refl) c.push_sync-2.ensures.items in
    record { whole = s.whole; kept = λ unit block. s.kept unit block ∙ (λ i. same i unit block); zeros_ = s.zeros_ }
