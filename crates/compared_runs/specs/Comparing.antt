-- What a comparison of choosers promises.
use Rattle.std.specs.Prelude.{◌≡◌, ◌⊎◌, ℕ, List, [], ◌∷◌, ◌++◌}
use Rattle.victim_choice.specs.declared.choose.Candidate.{Candidate}
use Rattle.victim_rules.specs.Rules.{RulesMay}
use Rattle.victim_rules.specs.declared.rule.Rule.TheVariants.{Clean, Quota}
use Rattle.job_text.specs.Jobs.{JobData}
use Rattle.core_state.specs.Sessions.{session_data}
use Rattle.core_state.specs.declared.session.Session.{Session}
use Rattle.serial_driver.specs.declared.answer.DriveAnswer.{DriveAnswer}
use Rattle.serial_driver.specs.declared.answer.DriveAnswer.TheVariants as ended
use Rattle.compared_runs.specs.Alone.{IsAlone, IsOver}

-- which place of a list of candidates a chooser may answer
abbrev pub Chooses : Type 1
Chooses = List Candidate → ℕ → Type 0

-- ---- the choosers

-- the least recently touched page, a clean one before it, one of a volume with two or more, or one
-- by a test that is handed in
pub data Named : Type 0 where
  lru : Named
  clean : Named
  quota : Named
  other : Named

abbrev pub may_of : Chooses → Named → Chooses
may_of given lru = RulesMay []
may_of given clean = RulesMay (Clean ∷ [])
may_of given quota = RulesMay (Quota 1 ∷ [])
may_of given other = given

-- all of them, in their order
abbrev pub every_name : List Named
every_name = lru ∷ clean ∷ quota ∷ other ∷ []

-- ---- their sessions

module _ (tells : Type 0) (given : Chooses) (job : JobData) where
  -- a session that came to the limit of entries, behind which there is none
  pub record IsLast (name : Named) (s : Session) (behind : List Session) (end : DriveAnswer)
      : Type 0 where
    pub alone : IsAlone tells (may_of given name) job ended.CommandLimit (session_data s)
    pub none : behind ≡ []
    pub limit : end ≡ ended.CommandLimit

  -- The sessions of these choosers, one each, and how the last ended: each followed every script to
  -- its end, unless it came to the limit, behind which there is none, or memory ran out.
  abbrev pub Compares : List Named → List Session → DriveAnswer → Type 0
  Compares [] [] end = end ≡ ended.Done
  Compares [] (s ∷ sessions) end = ⊥
  Compares (name ∷ names) [] end = end ≡ ended.Memory
  Compares (name ∷ names) (s ∷ sessions) end =
      (IsAlone tells (may_of given name) job ended.Done (session_data s)
      × Compares names sessions end)
      ⊎ IsLast name s sessions end

-- ---- one more

module _ (tells : Type 0) (may : Chooses) (job : JobData) where
  -- a session was played behind these, and kept
  pub record Adds (sessions left : List Session) (end : DriveAnswer) : Type 0 where
    pub session : Session
    pub behind : left ≡ sessions ++ session ∷ []
    pub alone : IsAlone tells may job end (session_data session)
    pub over : IsOver end

  -- or memory ran out
  abbrev pub MayAdd : List Session → List Session → DriveAnswer → Type 0
  MayAdd sessions left end = Adds sessions left end ⊎ ((left ≡ sessions) × (end ≡ ended.Memory))

  -- or these were the last
  abbrev pub GoesOn : List Session → DriveAnswer → List Session → DriveAnswer → Type 0
  GoesOn sessions last left end =
      ((last ≡ ended.Done) × MayAdd sessions left end)
      ⊎ ((last ≡ ended.Done → ⊥) × (left ≡ sessions) × (end ≡ last))
