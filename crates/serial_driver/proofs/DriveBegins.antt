-- A serial run begins.
use Rattle.std.proofs.Common.{◌≡◌, List, [], ◌∷◌, Some, None, sym, ◌∙◌, ap, subst}
use Rattle.std.specs.List.{AllByRecursion}
use Rattle.std.proofs.lemmas.Bool.{false≢true}
use Rattle.mss_base.specs.Configs.{VolumeData}
use Rattle.job_text.specs.Jobs.{ScriptData, JobData, IsJob}
use Rattle.job_text.specs.Jobs.{IsScript as IsJobScript}
use Rattle.ckd_plain.specs.History.{EntryData}
use Rattle.core_state.specs.CoreValue.{CoreValue}
use Rattle.fault_queue.specs.Requests.{RequestsData, request_of}
use Rattle.script_places.specs.declared.place.Place.{Place}
use Rattle.script_places.specs.Scripts.{not_begun, Plays, script_of, exchanges_of}
use Rattle.serial_driver.specs.Drives.{IsScript, AllStand, IsDriven, IsUnused}

all_scripts : (volumes : List VolumeData) (ss : List ScriptData) → AllByRecursion (IsJobScript volumes) ss → AllByRecursion IsScript ss
all_scripts volumes [] all = tt
all_scripts volumes (s ∷ ss) all = (record { low = all.0.low; high = all.0.high }, all_scripts volumes ss all.1)

pub begun_driven : {S C : Type 0} (v : CoreValue S C) (job : JobData) (places : List Place) → IsUnused v job → IsJob job → AllStand [] job.hosts places → IsDriven v job.hosts places
begun_driven v job places unused whole stand = record {
  scripts_ = record { differ = whole.hosts_differ; each = all_scripts job.config.volumes job.hosts whole.scripts };
  stand = subst (λ (l : List EntryData). AllStand l job.hosts places) (sym unused.no_entries) stand;
  plays = λ h. subst (λ (l : List EntryData). Plays (not_begun (script_of job.hosts h)) (exchanges_of h l)) (sym unused.no_entries) tt;
  more = λ going h. record {
    chained = λ open_. absurd (false≢true (sym (unused.no_chains h) ∙ open_));
    asked = λ r is. absurd (let e : None ≡ Some r = ap (λ (rs : RequestsData). request_of rs h) (sym unused.no_requests) ∙ is in cc);
  };
}
