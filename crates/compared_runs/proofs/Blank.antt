-- Blank devices are refused for want of memory alone.
use Rattle.std.proofs.Common.{◌≡◌, ◌<◌, ℕ, Bool, true, false, List, Option, Some, None, Err, refl, sym, ap, subst, ◌∙◌, cond, arith}
use Rattle.std.specs.Prelude.{nat_lt}
use Rattle.mss_base.specs.Configs.{ConfigData}
use Rattle.mss_base.specs.Content.{Content, content}
use Rattle.mss_base.specs.Zeros.{zeros}
use Rattle.mss_base.specs.declared.place.UnitNo.{UnitNo}
use Rattle.table_pair.specs.Pair.{row_of}
use Rattle.table_pair.proofs.PairFacts.{closed_row, zeros_are_closed}
use Rattle.shown_volumes.specs.Faults.{first_fault}
use Rattle.shown_volumes.specs.Shown.{RowsOf, rows_of, told_row}
use Rattle.shown_volumes.specs.Sound.{AreSound, HasSerialsAsked, IsSound, IsSpelled}
use Rattle.shown_volumes.specs.declared.refused.Refused.{Refused}
use Rattle.shown_volumes.specs.declared.refused.Refused.TheVariants as refused
use Rattle.shown_volumes.proofs.FaultFacts.{none_from_sound}
use Rattle.mss_restart.specs.Answers.{OpensExactly}
use Rattle.mss_restart.specs.declared.opening.Opened.{Opened}
use Rattle.core_restart.specs.Opening.{Restarts}
use Rattle.core_restart.proofs.Syncing.{restarts_exactly}
use Rattle.core_state.specs.CoreValue.{DevicesSeen}
use Rattle.compared_runs.specs.Alone.{AreBlank}

module _ (c : Content) (all : (unit : UnitNo) (block : ℕ) → c unit block ≡ zeros) where
  row_none : (volume : ℕ) → rows_of c volume ≡ None
  row_none volume = elim (nat_lt volume 32) as (λ (b : Bool). cond b (told_row (row_of c volume)) None ≡ None) [
    | true ↦ ap told_row (closed_row volume c (zeros_are_closed volume c all))
    | false ↦ refl
  ]

  abbrev no_rows : RowsOf
  no_rows volume = None

  none_there : rows_of c ≡ no_rows
  none_there i volume = row_none volume i

  none_are_sound : (frames : ℕ) → AreSound frames no_rows c
  none_are_sound frames = record {
    cartridges_once = λ v w s t cartridge a b. absurd (let e : None ≡ Some cartridge = a in cc);
    frames_below = λ volume page low frame is. absurd (let e : None ≡ Some frame = is in cc);
    frames_once = λ v w p q frame low low' a b. absurd (let e : None ≡ Some frame = a in cc);
    tracks = λ volume cylinder head low low' row is. absurd (let e : None ≡ Some row = is in cc);
  }

  sound : (frames : ℕ) → IsSound frames c
  sound frames = record {
    spelled = λ volume low. subst IsSpelled (sym (closed_row volume c (zeros_are_closed volume c all))) tt;
    agree = subst (λ (rows : RowsOf). AreSound frames rows c) (sym none_there) (none_are_sound frames);
  }

  serials : (asked : ℕ → Option (List ℕ)) → HasSerialsAsked asked (rows_of c)
  serials asked = subst (λ (rows : RowsOf). HasSerialsAsked asked rows) (sym none_there) (λ volume row is. absurd (let e : None ≡ Some row = is in cc))

  faultless : (frames : ℕ) (asked : ℕ → Option (List ℕ)) → first_fault frames asked c ≡ None
  faultless frames asked = none_from_sound frames asked c (sound frames, serials asked)

  exactly_memory : (config : ConfigData) (why : Refused) → OpensExactly {T = Opened} config c (Err why) → why ≡ refused.Memory
  exactly_memory config refused.Memory is = refl
  exactly_memory config (refused.RowUnread volume fault) is = absurd is
  exactly_memory config (refused.Stopped fault) is = absurd is
  exactly_memory config why is = absurd (let both : None ≡ Some why = sym (faultless _ _) ∙ is in cc)

pub only_memory : (tells : Type 0) (config : ConfigData) (was now : DevicesSeen) (why : Refused) → tells → AreBlank was → now.faults ≡ 0 → Restarts tells config was now (Err why) → why ≡ refused.Memory
only_memory tells config was now why can_see blank none opens =
    let low : was.faults < 18446744073709551615 = omega (arith, blank.faults_) in
    exactly_memory (content was.told) blank.zeros_ config why (restarts_exactly tells config was now (Err why) opens can_see (none ∙ sym blank.faults_) low)
