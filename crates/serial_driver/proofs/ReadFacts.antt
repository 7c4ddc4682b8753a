-- Behind the reads of a copy, if one is taken: the same core, but for its devices.
use Rattle.std.proofs.Common.{◌≡◌, Bool, true, false, refl, sym, ◌∙◌, arith}
use Rattle.core_state.specs.Chains.{Reading, WereRead}
use Rattle.core_state.specs.CoreValue.{CoreData, DevicesSeen}
use Rattle.core_state.specs.IsCore.{IsCore}

module _ (tells : Type 0) (core : CoreData) where
  pub not_read : WereRead tells core.site core.site
  not_read = record { told = λ _. refl; unwritten = refl; later = omega arith }

  pub read_of : (copies : Bool) (P : CoreData → Type 0) → Reading copies tells core P → (site : DevicesSeen) × WereRead tells core.site site × P (record core { site = site })
  read_of false P it = (core.site, not_read, it)
  read_of true P it = it

  pub reading_on : (copies : Bool) (P Q : CoreData → Type 0) → ((read : CoreData) → P read → Q read) → Reading copies tells core P → Reading copies tells core Q
  reading_on false P Q on it = on core it
  reading_on true P Q on it = (it.0, it.1, on (record core { site = it.0 }) it.2)

  pub unread : (copies : Bool) (P : CoreData → Type 0) → P core → Reading copies tells core P
  unread false P it = it
  unread true P it = (core.site, not_read, it)

  pub read_same : (copies : Bool) (read : CoreData) → Reading copies tells core (λ r. read ≡ r) → read ≡ record core { site = read.site }
  read_same copies read it =
      let at = read_of copies (λ r. read ≡ r) it in
      at.2 ∙ (λ i. record core { site = (sym at.2 i).site })

pub core_read : (core : CoreData) (site : DevicesSeen) → IsCore core → IsCore (record core { site = site })
core_read core site is = record {
  places = is.places;
  are_rows = is.are_rows;
  used_ = is.used_;
  hosts_ = is.hosts_;
  requests_ = is.requests_;
  owners_ = is.owners_;
  moving_ = is.moving_;
  few = is.few;
  marked = is.marked;
  alone = is.alone;
  on_mounted = is.on_mounted;
  framed = is.framed;
  owned = is.owned;
  waiting = is.waiting;
  fit = is.fit;
  beside = is.beside;
  tasks_ = is.tasks_;
}
