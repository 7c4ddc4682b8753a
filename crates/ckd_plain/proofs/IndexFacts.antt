-- One look of the search for the next record.
use Rattle.std.proofs.Common.{◌≡◌, ℕ, suc, ◌+◌, Bool, Option, Some, None, Result, Ok, Err, refl, sym, ap, ◌∙◌, arith}
use Rattle.ckd_track.specs.Data.{RecordData}
use Rattle.ckd_plain.specs.declared.host.HostState.{HostState}
use Rattle.ckd_plain.specs.declared.unit_check.Refusal.{Refusal}
use Rattle.ckd_plain.specs.declared.unit_check.UnitCheck.TheVariants as check
use Rattle.ckd_plain.specs.Checks.{◌>>=◌}
use Rattle.ckd_plain.specs.declared.found.FoundRecord.{FoundRecord}
use Rattle.ckd_plain.specs.Views.{item_of, found_of, IsFound}
use Rattle.ckd_plain.specs.Index.{Tracks, Found, candidate, pass_index, record_at, look_or_past, next_within}

pub next_within-suc : (looks : ℕ) (tracks : Tracks) (host : HostState) (m : ℕ) (multi : Bool)
    → next_within (suc looks) tracks host m multi
    ≡ look_or_past (candidate host.position m) host multi (record_at (tracks host.head) host (candidate host.position m)) (λ passed. next_within looks tracks passed m multi)
unfolding next_within
next_within-suc looks tracks host m multi = refl

abbrev found_as : FoundRecord → ℕ → HostState → Result Found Refusal
found_as f k host = Ok (record { number = k; item = item_of f; host = host })

-- One look, with as many left as looks + 1: at the place number, where the record is or isn't.
module _ (left looks number : ℕ) (tracks : Tracks) (host : HostState) (m : ℕ) (multi : Bool)
    (falls : left ≡ looks + 1) (place : number ≡ candidate host.position m) where
  looks_at : next_within left tracks host m multi ≡ look_or_past number host multi (record_at (tracks host.head) host number) (λ passed. next_within looks tracks passed m multi)
  looks_at =
      let e : left ≡ suc looks = omega arith in
      ap (λ (n : ℕ). next_within n tracks host m multi) e ∙ next_within-suc looks tracks host m multi
      ∙ ap (λ (k : ℕ). look_or_past k host multi (record_at (tracks host.head) host k) (λ passed. next_within looks tracks passed m multi)) (sym place)

  looks_there : (o : Option RecordData) → record_at (tracks host.head) host number ≡ o → next_within left tracks host m multi ≡ look_or_past number host multi o (λ passed. next_within looks tracks passed m multi)
  looks_there o e = looks_at ∙ ap (λ (o : Option RecordData). look_or_past number host multi o (λ passed. next_within looks tracks passed m multi)) e

  pub look_finds : (f : FoundRecord) → IsFound number host f (record_at (tracks host.head) host number) → next_within left tracks host m multi ≡ Ok (found_of f)
  look_finds f is = looks_there (Some (item_of f)) is.item ∙ ap (λ (k : ℕ). found_as f k host) (sym is.number_) ∙ ap (λ (h : HostState). found_as f f.number h) (sym is.host_)

  pub look_passes : (passed : HostState) → record_at (tracks host.head) host number ≡ None → pass_index host multi ≡ Ok passed → next_within left tracks host m multi ≡ next_within looks tracks passed m multi
  look_passes passed e p = looks_there None e ∙ ap (λ (r : Result HostState Refusal). r >>= λ passed. next_within looks tracks passed m multi) p

  pub look_fails : (refusal : Refusal) → record_at (tracks host.head) host number ≡ None → pass_index host multi ≡ Err refusal → next_within left tracks host m multi ≡ Err refusal
  look_fails refusal e p = looks_there None e ∙ ap (λ (r : Result HostState Refusal). r >>= λ passed. next_within looks tracks passed m multi) p

-- no look is left
pub none_left : (left : ℕ) (tracks : Tracks) (host : HostState) (m : ℕ) (multi : Bool) → left ≡ 0 → next_within left tracks host m multi ≡ Err (record { check = check.NoRecordFound; host = host })
unfolding next_within
none_left left tracks host m multi e = ap (λ (n : ℕ). next_within n tracks host m multi) e
