-- Repairs, migrations and opening changes, one after the other, and the site that they leave.
use Rattle.std.proofs.Common.{◌≡◌, inl, inr, ℕ, ◌<◌, false, List, [], ◌∷◌, ◌++◌, append_assoc, length, Option, Some, None, Result, Ok, Err, refl, sym, ◌∙◌, ap, subst, arith}
use Rattle.std.specs.Prelude.{OnOk}
use Rattle.std.proofs.lemmas.Bool.{cases_lt}
use Rattle.std.proofs.lemmas.List.{get_or_past}
use Rattle.mss_base.specs.Configs.{ConfigData, VolumeData}
use Rattle.mss_base.specs.Content.{Content, SiteLog, Settles, content, Writes}
use Rattle.mss_base.proofs.Moments.{then_firm, weaker, ended_with}
use Rattle.mss_base.specs.Configs.{serial_in}
use Rattle.ckd_track.specs.Data.{Volumes}
use Rattle.volume_table.specs.Row.{RowValue}
use Rattle.table_pair.specs.Pair.{known, row_of}
use Rattle.table_pair.specs.Repairs.{HoldsToldRow}
use Rattle.table_pair.specs.declared.copy.SlotsUsed.{SlotsUsed}
use Rattle.shown_volumes.specs.Shown.{RowsOf, rows_of, volumes_shown}
use Rattle.shown_volumes.specs.Sound.{IsSound, SoundAs}
use Rattle.shown_volumes.specs.Faults.{first_fault}
use Rattle.shown_volumes.proofs.FaultFacts.{sound_from_none}
use Rattle.volume_table.specs.Listed.{row_in_list}
use Rattle.mss_restart.specs.Opening.{OpeningChange, volume_of, opened_by, opened_all, opening_changes, RowsAre, AreHeld, AreKnown, ShowsFront, OpensRows, AreOpened, IsOpened}
use Rattle.mss_restart.specs.Creations.{AreEqual, RepairsOthers, AreTold, AreWritten, ChangesWhole}
use Rattle.mss_restart.specs.declared.steps.OpeningStep.{OpeningStep}
use Rattle.shown_volumes.specs.Changing.{with_row}
use Rattle.shown_volumes.specs.declared.refused.Refused.{Refused}
use Rattle.shown_volumes.specs.declared.refused.Refused.TheVariants.{Memory}
use Rattle.mss_restart.proofs.OtherRows.{others_then, others_of, front_holds, rest_holds}
use Rattle.mss_restart.proofs.Finishing.{told_since}
use Rattle.mss_restart.proofs.Creating.{AreRising}
use Rattle.mss_restart.proofs.KnownRows.{rows_listed}
use Rattle.mss_restart.proofs.OpenedRows.{opens_kept, opens_asked, opens_marked}

pub on_ok_too : {T E : Type 0} (P Q : Type 0) → (P → Q) → (r : Result T E) → OnOk r P → OnOk r Q
on_ok_too P Q more (Ok value) holds = more holds
on_ok_too P Q more (Err e) holds = tt

-- no change is shown yet
pub no_front : (frames : ℕ) (changes : List OpeningChange) (volumes : Volumes) (s t : SiteLog) → Writes (SoundAs frames volumes) s t → Writes (ShowsFront frames changes volumes) s t
no_front frames changes volumes s t w =
    weaker (SoundAs frames volumes) (ShowsFront frames changes volumes) (λ d is. record { sound = is.sound; done_ = []; later = changes; order = refl; same = is.same }) s t w

module _ (rows : List (Option RowValue)) (s mid : SiteLog) (long : length rows ≡ 32) (are : RowsAre rows (content s)) where
  -- each row stands in both copies after the repair
  rows_held : ((v : ℕ) → v < 32 → HoldsToldRow v (content s) (content mid)) → AreHeld (row_in_list rows) (content mid)
  rows_held held v row at = elim (cases_lt v 32) [
    | inl low ↦ held v low row (are v low ∙ ap (λ (o : Option RowValue). known o false) at)
    | inr past ↦ (let e : ◌≡◌ {A = Option RowValue} None (Some row) = sym (get_or_past rows v None (omega (arith, long, past))) ∙ at in absurd cc)
  ]

  -- and the rows are known then
  pub rows_known : (used : List SlotsUsed) → ((v : ℕ) → row_of (content mid) v ≡ row_of (content s) v) → AreEqual used (content s) (content mid) → AreKnown rows used (content mid)
  rows_known used same equal = record {
    told = λ v low. same v ∙ are v low;
    held = rows_held equal.held;
    slots_ = equal.slots_;
  }

-- ---- one run after another

opened_append : (xs ys : List OpeningChange) (volumes : Volumes) → opened_all (xs ++ ys) volumes ≡ opened_all ys (opened_all xs volumes)
opened_append [] ys volumes = refl
opened_append (x ∷ xs) ys volumes = opened_append xs ys (opened_by x volumes)

opens_append : (xs ys : List OpeningChange) (start mid last : RowsOf) → OpensRows xs start mid → OpensRows ys mid last → OpensRows (xs ++ ys) start last
opens_append [] ys start mid last first second = subst (λ (x : RowsOf). OpensRows ys x last) first second
opens_append (x ∷ xs) ys start mid last first second = (first.0, (first.1.0, opens_append xs ys (with_row (volume_of x) first.0 start) mid last first.1.1 second))

pub told_append : (xs ys : List OpeningChange) (a b : List OpeningStep) (start mid last : RowsOf) (before between now : ℕ) → AreTold xs a start mid before between → AreTold ys b mid last between now → AreTold (xs ++ ys) (a ++ b) start last before now
told_append [] ys [] b start mid last before between now first second = subst (λ (x : RowsOf). AreTold ys b x last before now) first.0 (told_since ys b mid last before between now first.1 second)
told_append [] ys (x ∷ a) b start mid last before between now first second = absurd first
told_append (w ∷ xs) ys [] b start mid last before between now first second = absurd first
told_append (w ∷ xs) ys (x ∷ a) b start mid last before between now first second =
    (first.0, first.1, first.2, first.3, told_append xs ys a b (with_row (volume_of w) first.0 start) mid last x.writes between now first.4 second)

written_append : (xs ys : List OpeningChange) (a b : List OpeningStep) (start mid last : RowsOf) (s r t : SiteLog) → AreWritten xs a start mid s r → AreWritten ys b mid last r t → AreWritten (xs ++ ys) (a ++ b) start last s t
written_append [] ys [] b start mid last s r t first second = subst (λ (x : RowsOf). AreWritten ys b x last s t) first.0 (subst (λ (x : SiteLog). AreWritten ys b mid last x t) first.1 second)
written_append [] ys (x ∷ a) b start mid last s r t first second = absurd first
written_append (w ∷ xs) ys [] b start mid last s r t first second = absurd first
written_append (w ∷ xs) ys (x ∷ a) b start mid last s r t first second =
    (first.0, (first.1.0, first.1.1, written_append xs ys a b first.1.0 mid last first.0 r t first.1.2 second))

-- a front of the first ones is one of all
front_more : (frames : ℕ) (xs ys : List OpeningChange) (volumes : Volumes) (c : Content) → ShowsFront frames xs volumes c → ShowsFront frames (xs ++ ys) volumes c
front_more frames xs ys volumes c is = record {
  sound = is.sound;
  done_ = is.done_;
  later = is.later ++ ys;
  order = sym (append_assoc is.done_ is.later ys) ∙ ap (λ (l : List OpeningChange). l ++ ys) is.order;
  same = is.same;
}

-- so is one of the others behind all the first
front_behind : (frames : ℕ) (xs ys : List OpeningChange) (volumes between : Volumes) (c : Content) → between ≡ opened_all xs volumes → ShowsFront frames ys between c → ShowsFront frames (xs ++ ys) volumes c
front_behind frames xs ys volumes between c at is = record {
  sound = is.sound;
  done_ = xs ++ is.done_;
  later = is.later;
  order = append_assoc xs is.done_ is.later ∙ ap (λ (l : List OpeningChange). xs ++ l) is.order;
  same = is.same ∙ ap (opened_all is.done_) at ∙ sym (opened_append xs is.done_ volumes);
}

pub moments_more : (frames : ℕ) (xs ys : List OpeningChange) (s t : SiteLog) → Writes (ShowsFront frames xs (volumes_shown (content s))) s t → Writes (ShowsFront frames (xs ++ ys) (volumes_shown (content s))) s t
moments_more frames xs ys s t w =
    weaker (ShowsFront frames xs (volumes_shown (content s))) (ShowsFront frames (xs ++ ys) (volumes_shown (content s))) (λ d is. front_more frames xs ys (volumes_shown (content s)) d is) s t w

pub others_more : (xs ys : List OpeningChange) (s t : SiteLog) → RepairsOthers xs s t → RepairsOthers (xs ++ ys) s t
others_more xs ys s t others = others_of xs (xs ++ ys) s t (λ P holds. front_holds P xs ys holds) others

-- all of the first were made, and then some of the others
module _ (xs ys : List OpeningChange) (s mid t : SiteLog) (before between rows : List (Option RowValue)) (used_mid used : List SlotsUsed) (firm : Settles s mid) (opened : AreOpened xs (content s) (content mid) before between used_mid) where
  pub moments_behind : ((frames : ℕ) → IsSound frames (content s) → Writes (ShowsFront frames xs (volumes_shown (content s))) s mid) → ((frames : ℕ) → IsSound frames (content mid) → Writes (ShowsFront frames ys (volumes_shown (content mid))) mid t)
      → (frames : ℕ) → IsSound frames (content s) → Writes (ShowsFront frames (xs ++ ys) (volumes_shown (content s))) s t
  moments_behind first second frames sound =
      let at = opened.shows frames sound in
      then_firm (ShowsFront frames (xs ++ ys) (volumes_shown (content s))) s mid t firm (moments_more frames xs ys s mid (first frames sound))
      (weaker (ShowsFront frames ys (volumes_shown (content mid))) (ShowsFront frames (xs ++ ys) (volumes_shown (content s)))
      (λ d is. front_behind frames xs ys (volumes_shown (content s)) (volumes_shown (content mid)) d at.same is) mid t (second frames at.sound))

  pub others_behind : RepairsOthers xs s mid → RepairsOthers ys mid t → RepairsOthers (xs ++ ys) s t
  others_behind first second =
      others_then (xs ++ ys) s mid t firm (others_more xs ys s mid first) (others_of ys (xs ++ ys) mid t (λ P holds. rest_holds P xs ys holds) second)

  pub opened_behind : AreOpened ys (content mid) (content t) between rows used → AreOpened (xs ++ ys) (content s) (content t) before rows used
  opened_behind second = record {
    opens = opens_append xs ys (row_in_list before) (row_in_list between) (row_in_list rows) opened.opens second.opens;
    known = second.known;
    renewed = second.renewed;
    shows = λ frames sound.
        let at = opened.shows frames sound in
        let then_ = second.shows frames at.sound in
        record { sound = then_.sound; same = then_.same ∙ ap (opened_all ys) at.same ∙ sym (opened_append xs ys (volumes_shown (content s))) };
  }

-- each of them to its end
pub changes_behind : (xs ys : List OpeningChange) (a b : List OpeningStep) (start mid last : RowsOf) (s r t : SiteLog) (result : Result (Unit {0}) Refused) → AreWritten xs a start mid s r
    → ChangesWhole (record { changes = ys; before = mid; after = last; steps = b }) r t result → ChangesWhole (record { changes = xs ++ ys; before = start; after = last; steps = a ++ b }) s t result
changes_behind xs ys a b start mid last s r t (Ok value) first second = written_append xs ys a b start mid last s r t first second
changes_behind xs ys a b start mid last s r t (Err Memory) first second = record {
  done_ = xs ++ second.done_;
  later = second.later;
  order = append_assoc xs second.done_ second.later ∙ ap (λ (l : List OpeningChange). xs ++ l) second.order;
  steps = a ++ second.steps;
  last = second.last;
  each = written_append xs second.done_ a second.steps start mid second.last s r t first second.each;
}
changes_behind xs ys a b start mid last s r t (Err e) first second = tt

pub changes_more : (xs ys : List OpeningChange) (a b : List OpeningStep) (start last other : RowsOf) (s t : SiteLog) (e : Refused) → ChangesWhole (record { changes = xs; before = start; after = last; steps = a }) s t (Err e)
    → ChangesWhole (record { changes = xs ++ ys; before = start; after = other; steps = b }) s t (Err e)
changes_more xs ys a b start last other s t Memory is = record {
  done_ = is.done_;
  later = is.later ++ ys;
  order = sym (append_assoc is.done_ is.later ys) ∙ ap (λ (l : List OpeningChange). l ++ ys) is.order;
  steps = is.steps;
  last = is.last;
  each = is.each;
}
changes_more xs ys a b start last other s t _ is = tt

-- ---- behind repairs and migrations

module _ (s mid t : SiteLog) (changes : List OpeningChange) (firm : Settles s mid) (same : (frames : ℕ) → IsSound frames (content s) → Writes (SoundAs frames (volumes_shown (content s))) s mid) where
  at_mid : (frames : ℕ) → IsSound frames (content s) → SoundAs frames (volumes_shown (content s)) (content mid)
  at_mid frames sound = ended_with (SoundAs frames (volumes_shown (content s))) s mid (same frames sound)

  pub then_opened : ((frames : ℕ) → IsSound frames (content mid) → Writes (ShowsFront frames changes (volumes_shown (content mid))) mid t) → (frames : ℕ) → IsSound frames (content s) → Writes (ShowsFront frames changes (volumes_shown (content s))) s t
  then_opened opens frames sound =
      let is = at_mid frames sound in
      then_firm (ShowsFront frames changes (volumes_shown (content s))) s mid t firm (no_front frames changes (volumes_shown (content s)) s mid (same frames sound))
      (subst (λ (x : Volumes). Writes (ShowsFront frames changes x) mid t) is.same (opens frames is.sound))

  pub opened_since : (before rows : List (Option RowValue)) (used : List SlotsUsed) → AreOpened changes (content mid) (content t) before rows used → AreOpened changes (content s) (content t) before rows used
  opened_since before rows used is = record {
    opens = is.opens;
    known = is.known;
    renewed = is.renewed;
    shows = λ frames sound.
        let was = at_mid frames sound in
        subst (λ (x : Volumes). SoundAs frames (opened_all changes x) (content t)) was.same (is.shows frames was.sound);
  }

-- what is opened
pub opened : (config : ConfigData) (c d : Content) (before rows : List (Option RowValue)) (used : List SlotsUsed) → AreRising config.volumes → length before ≡ 32 → RowsAre before c → first_fault config.frames (serial_in config.volumes) c ≡ None
    → length rows ≡ 32 → AreOpened (opening_changes (row_in_list before) config.volumes) c d before rows used → IsOpened config c d rows used
opened config c d before rows used rising long are none rows_long made_ =
    let was : row_in_list before ≡ rows_of c = rows_listed before c long are in
    let is : row_in_list rows ≡ rows_of d = rows_listed rows d rows_long made_.known.told in
    let sound = sound_from_none config.frames (serial_in config.volumes) c none in
    let opens : OpensRows (opening_changes (rows_of c) config.volumes) (rows_of c) (rows_of d) =
    subst (λ (x : RowsOf). OpensRows (opening_changes (rows_of c) config.volumes) (rows_of c) x) is (subst (λ (x : RowsOf). OpensRows (opening_changes x config.volumes) x (row_in_list rows)) was made_.opens) in
    record {
      faultless = none;
      shows = subst (λ (x : RowsOf). SoundAs config.frames (opened_all (opening_changes x config.volumes) (volumes_shown c)) d) was (made_.shows config.frames sound.0);
      rows_are = is;
      held = subst (λ (x : RowsOf). AreHeld x d) is made_.known.held;
      renewed = made_.renewed;
      slots_ = made_.known.slots_;
      opens = opens;
      asked = opens_asked config.volumes (rows_of c) (rows_of d) rising opens sound.1;
      kept = opens_kept config.volumes (rows_of c) (rows_of d) rising opens;
      marks = opens_marked config.volumes (rows_of c) (rows_of d) rising opens;
    }

-- the same moments, by the rows of the content
pub moments_at : (s mid now : SiteLog) (rows : List (Option RowValue)) (volumes : List VolumeData) → mid ≡ s → length rows ≡ 32 → RowsAre rows (content s)
    → ((frames : ℕ) → IsSound frames (content mid) → Writes (ShowsFront frames (opening_changes (row_in_list rows) volumes) (volumes_shown (content mid))) mid now)
    → (frames : ℕ) → IsSound frames (content s) → Writes (ShowsFront frames (opening_changes (rows_of (content s)) volumes) (volumes_shown (content s))) s now
moments_at s mid now rows volumes same long are moments frames sound =
    subst (λ (x : RowsOf). Writes (ShowsFront frames (opening_changes x volumes) (volumes_shown (content s))) s now) (rows_listed rows (content s) long are)
    (subst (λ (x : SiteLog). (n : ℕ) → IsSound n (content x) → Writes (ShowsFront n (opening_changes (row_in_list rows) volumes) (volumes_shown (content x))) x now) same moments frames sound)

-- so are the other rows
pub others_at : (s mid now : SiteLog) (rows : List (Option RowValue)) (volumes : List VolumeData) → mid ≡ s → length rows ≡ 32 → RowsAre rows (content s)
    → RepairsOthers (opening_changes (row_in_list rows) volumes) mid now → RepairsOthers (opening_changes (rows_of (content s)) volumes) s now
others_at s mid now rows volumes same long are others =
    subst (λ (x : RowsOf). RepairsOthers (opening_changes x volumes) s now) (rows_listed rows (content s) long are) (subst (λ (x : SiteLog). RepairsOthers (opening_changes (row_in_list rows) volumes) x now) same others)
