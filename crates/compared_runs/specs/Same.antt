-- Jobs in which hosts can't tell which frames are taken.
use Rattle.std.specs.Prelude.{◌≡◌, false, List, [], ◌∷◌, map}
use Rattle.std.specs.List.{AllByRecursion}
use Rattle.channel_program.specs.Script.{Exchange, ItemData, mounting, demounting, program}
use Rattle.ckd_plain.specs.History.{EntryData}
use Rattle.core_state.specs.declared.session.Session.{Session}
use Rattle.job_text.specs.Jobs.{JobData, ScriptData}

-- the item binds no volume
abbrev pub BindsNone : ItemData → Type 0
BindsNone (mounting volume bind) = bind ≡ false
BindsNone demounting = Unit {0}
BindsNone (program words) = Unit {0}

-- the job has one host, which binds no volume
pub record IsOfOneHost (job : JobData) : Type 0 where
  pub host : ScriptData
  pub alone : job.hosts ≡ host ∷ []
  pub unbound : AllByRecursion BindsNone host.items

-- the calls of a history, with their replies
abbrev pub exchanges_of_all : List EntryData → List Exchange
exchanges_of_all history = map (λ e. (e.call, e.reply)) history

-- all of these sessions have the same calls and replies
abbrev pub AreAlike : List Session → Type 0
AreAlike [] = Unit {0}
AreAlike (s ∷ []) = Unit {0}
AreAlike (s ∷ t ∷ sessions) =
    (exchanges_of_all s.history.items ≡ exchanges_of_all t.history.items) × AreAlike (t ∷ sessions)
