-- One opening change after another.
use Rattle.std.proofs.Common.{◌≡◌, inl, inr, ℕ, suc, ◌+◌, ◌<◌, cond, List, [], ◌∷◌, ◌++◌, length, map, drop, get_or, append_assoc, Option, refl, sym, ◌∙◌, ap, subst, arith}
use Rattle.std.specs.Prelude.{is_some}
use Rattle.std.proofs.lemmas.List.{append-nil}
use Rattle.std.specs.List.{AllByRecursion}
use Rattle.std.specs.List.Sorted.{IsStrictlySortedBy}
use Rattle.std.specs.Ordering.{nat_cmp}
use Rattle.std.specs.declared.cmp.Ordering.TheVariants.{Less}
use Rattle.std.proofs.lemmas.Cmp.{ranked}
use Rattle.std.proofs.lemmas.Bool.{cond-false, ne_eqb}
use Rattle.mss_base.specs.Configs.{VolumeData}
use Rattle.mss_base.specs.Content.{Content, SiteLog, Settles, content, Writes}
use Rattle.mss_base.proofs.Moments.{started, then_firm, weaker}
use Rattle.mss_base.proofs.Settling.{settles_none, settles_then}
use Rattle.ckd_track.specs.Data.{Volumes}
use Rattle.volume_table.specs.Row.{RowValue}
use Rattle.table_pair.specs.declared.copy.SlotsUsed.{SlotsUsed}
use Rattle.table_pair.specs.Slots.{AreUsed}
use Rattle.shown_volumes.specs.Shown.{RowsOf, volumes_shown}
use Rattle.shown_volumes.specs.Sound.{IsSound, SoundAs}
use Rattle.shown_volumes.specs.Changing.{with_row}
use Rattle.std.proofs.Math.Seq.{drop-cons}
use Rattle.volume_table.specs.Listed.{row_in_list}
use Rattle.mss_restart.specs.Creations.{RepairsOthers}
use Rattle.mss_restart.proofs.OtherRows.{nothing_else, others_then, others_of, one_holds}
use Rattle.mss_restart.specs.Opening.{OpeningChange, made, marked, volume_of, opened_by, opened_all, BeforeOrAfter, to_make, to_mark, is_marked_as, AreKnown, AreRowsNew, ShowsFront, IsRowAfter, OpensRows, IsOpeningDone, AreOpened, used_by}

abbrev pub AreRising : List VolumeData → Type 0
AreRising vs = IsStrictlySortedBy nat_cmp (map (λ v. v.0) vs)

-- no change is shown yet, since nothing was written
pub none_shown : (frames : ℕ) (changes : List OpeningChange) (s t : SiteLog) → t ≡ s → IsSound frames (content s) → Writes (ShowsFront frames changes (volumes_shown (content s))) s t
none_shown frames changes s t same sound =
    subst (λ (u : SiteLog). Writes (ShowsFront frames changes (volumes_shown (content s))) s u) (sym same)
    (started (ShowsFront frames changes (volumes_shown (content s))) s (record { sound = sound; done_ = []; later = changes; order = refl; same = refl }))

pub none_made : (frames : ℕ) (change : OpeningChange) (s t : SiteLog) → t ≡ s → IsSound frames (content s)
    → Writes (λ d. IsSound frames d × BeforeOrAfter change (volumes_shown (content s)) (volumes_shown d)) s t
none_made frames change s t same sound =
    let Shows : Content → Type 0 = λ d. IsSound frames d × BeforeOrAfter change (volumes_shown (content s)) (volumes_shown d) in
    subst (λ (u : SiteLog). Writes Shows s u) (sym same) (started Shows s (sound, inl refl))

-- the last of these changes are to come, those before them are done, and firm
pub record IsOpening (all : List OpeningChange) (start : RowsOf) (begun now : SiteLog) (rows : List (Option RowValue)) (used : List SlotsUsed) (rest : List OpeningChange) : Type 0 where
  pub done_ : List OpeningChange
  pub order : done_ ++ rest ≡ all
  pub moments : (frames : ℕ) → IsSound frames (content begun) → Writes (ShowsFront frames all (volumes_shown (content begun))) begun now
  pub shows : (frames : ℕ) → IsSound frames (content begun) → SoundAs frames (opened_all done_ (volumes_shown (content begun))) (content now)
  pub known : AreKnown rows used (content now)
  pub renewed : AreRowsNew (content now)
  pub opens : OpensRows done_ start (row_in_list rows)
  pub others : RepairsOthers all begun now
  pub firm : Settles begun now

pub nothing_opened : (all : List OpeningChange) (s : SiteLog) (rows : List (Option RowValue)) (used : List SlotsUsed) → AreKnown rows used (content s) → AreRowsNew (content s) → IsOpening all (row_in_list rows) s s rows used all
nothing_opened all s rows used known renewed = record {
  done_ = [];
  order = refl;
  moments = λ frames sound. none_shown frames all s s refl sound;
  shows = λ frames sound. record { sound = sound; same = refl };
  known = known;
  renewed = renewed;
  opens = refl;
  others = nothing_else all s s refl;
  firm = settles_none s;
}

all_above : (n : ℕ) (vs : List VolumeData) → AllByRecursion (λ m. nat_cmp n m ≡ Less) (map (λ v. v.0) vs) → AllByRecursion (λ v. n < v.0) vs
all_above n [] h = tt
all_above n (v ∷ vs) h = (ranked n v.0 Less (sym h.0), all_above n vs h.1)

pub rising_first : (v : VolumeData) (vs : List VolumeData) → AreRising (v ∷ vs) → AllByRecursion (λ w. v.0 < w.0) vs × AreRising vs
unfolding IsStrictlySortedBy
rising_first v vs rising = (all_above v.0 vs rising.0, rising.1)

-- another row of an earlier volume tells nothing of later ones
row_past : (n : ℕ) (row : RowValue) (rows : RowsOf) (w : VolumeData) → n < w.0 → with_row n row rows w.0 ≡ rows w.0
row_past n row rows w above = cond-false _ _ _ (ne_eqb w.0 n (λ (e : w.0 ≡ n). omega arith))

pub to_make_past : (n : ℕ) (row : RowValue) (rows : RowsOf) (vs : List VolumeData) → AllByRecursion (λ w. n < w.0) vs → to_make (with_row n row rows) vs ≡ to_make rows vs
to_make_past n row rows [] above = refl
to_make_past n row rows (w ∷ vs) above =
    let e = row_past n row rows w above.0 in
    let later = to_make_past n row rows vs above.1 in
    (λ i. cond (is_some (e i)) (later i) (made w.0 w.1 ∷ later i))

pub to_mark_past : (n : ℕ) (row : RowValue) (rows : RowsOf) (vs : List VolumeData) → AllByRecursion (λ w. n < w.0) vs → to_mark (with_row n row rows) vs ≡ to_mark rows vs
to_mark_past n row rows [] above = refl
to_mark_past n row rows (w ∷ vs) above =
    let e = row_past n row rows w above.0 in
    let later = to_mark_past n row rows vs above.1 in
    (λ i. cond (is_marked_as w.2 (e i)) (later i) (marked w.0 w.2 ∷ later i))

opened_last : (changes : List OpeningChange) (change : OpeningChange) (volumes : Volumes) → opened_all (changes ++ change ∷ []) volumes ≡ opened_by change (opened_all changes volumes)
opened_last [] change volumes = refl
opened_last (w ∷ changes) change volumes = opened_last changes change (opened_by w volumes)

opens_last : (changes : List OpeningChange) (change : OpeningChange) (start mid last : RowsOf) (row : RowValue) → OpensRows changes start mid → IsRowAfter mid change row → last ≡ with_row (volume_of change) row mid
    → OpensRows (changes ++ change ∷ []) start last
opens_last [] change start mid last row opens is_row now = (row, (subst (λ (x : RowsOf). IsRowAfter x change row) opens is_row, now ∙ ap (with_row (volume_of change) row) opens))
opens_last (w ∷ changes) change start mid last row opens is_row now =
    (opens.0, (opens.1.0, opens_last changes change (with_row (volume_of w) opens.0 start) mid last row opens.1.1 is_row now))

-- the changes to come, said in another way
pub opening_as : {all : List OpeningChange} {start : RowsOf} {begun now : SiteLog} {rows : List (Option RowValue)} {used : List SlotsUsed} {rest other : List OpeningChange} → IsOpening all start begun now rows used rest → rest ≡ other
    → IsOpening all start begun now rows used other
opening_as {all} {start} {begun} {now} {rows} {used} is same = subst (IsOpening all start begun now rows used) same is

module _ (all : List OpeningChange) (start : RowsOf) (begun mid : SiteLog) (rows : List (Option RowValue)) (used : List SlotsUsed) (change : OpeningChange) (rest : List OpeningChange)
    (so_far : IsOpening all start begun mid rows used (change ∷ rest)) where
  front_with : (so_far.done_ ++ change ∷ []) ++ rest ≡ all
  front_with = append_assoc so_far.done_ (change ∷ []) rest ∙ so_far.order

  -- it leaves the others
  pub others_on : (now : SiteLog) → RepairsOthers (change ∷ []) mid now → RepairsOthers all begun now
  others_on now one =
      others_then all begun mid now so_far.firm so_far.others (others_of (change ∷ []) all mid now (λ P holds.
      (one_holds P so_far.done_ change rest (subst (AllByRecursion P) (sym so_far.order) holds), tt)) one)

  within : (frames : ℕ) → IsSound frames (content begun) → (d : Content) → IsSound frames d × BeforeOrAfter change (volumes_shown (content mid)) (volumes_shown d) → ShowsFront frames all (volumes_shown (content begun)) d
  within frames sound d is =
      let at_mid = (so_far.shows frames sound).same in
      elim is.1 [
        | inl before ↦ record { sound = is.0; done_ = so_far.done_; later = change ∷ rest; order = so_far.order; same = before ∙ at_mid }
        | inr after ↦ record {
          sound = is.0;
          done_ = so_far.done_ ++ change ∷ [];
          later = rest;
          order = front_with;
          same = after ∙ ap (opened_by change) at_mid ∙ sym (opened_last so_far.done_ change (volumes_shown (content begun)));
        }
      ]

  module _ (now : SiteLog) (moments : (frames : ℕ) → IsSound frames (content mid) → Writes (λ d. IsSound frames d × BeforeOrAfter change (volumes_shown (content mid)) (volumes_shown d)) mid now) where
    pub moments_on : (frames : ℕ) → IsSound frames (content begun) → Writes (ShowsFront frames all (volumes_shown (content begun))) begun now
    moments_on frames sound =
        then_firm (ShowsFront frames all (volumes_shown (content begun))) begun mid now so_far.firm (so_far.moments frames sound)
        (weaker (λ d. IsSound frames d × BeforeOrAfter change (volumes_shown (content mid)) (volumes_shown d)) (ShowsFront frames all (volumes_shown (content begun))) (within frames sound) mid now
        (moments frames (so_far.shows frames sound).sound))

    pub opened_too : RepairsOthers (change ∷ []) mid now → Settles mid now → (after : List (Option RowValue)) (used_after : List SlotsUsed) → IsOpeningDone change (content mid) (content now) rows after → length used ≡ 32 → used_after ≡ used_by change used
        → IsOpening all start begun now after used_after rest
    opened_too others firm after used_after one places used_is = record {
      done_ = so_far.done_ ++ change ∷ [];
      order = front_with;
      moments = moments_on;
      shows = λ frames sound.
          let at_mid = so_far.shows frames sound in
          let done = one.shows frames at_mid.sound in
          record { sound = done.sound; same = done.same ∙ ap (opened_by change) at_mid.same ∙ sym (opened_last so_far.done_ change (volumes_shown (content begun))) };
      known = record {
        told = one.are;
        held = one.held so_far.known.held;
        slots_ = subst (λ (xs : List SlotsUsed). AreUsed xs (content now)) (sym used_is) (one.slots_ used places so_far.known.slots_);
      };
      renewed = one.renewed so_far.renewed;
      opens = opens_last so_far.done_ change start (row_in_list rows) (row_in_list after) one.row so_far.opens one.is_row one.now;
      others = others_on now others;
      firm = settles_then begun mid now so_far.firm firm;
    }

-- none are to come
pub all_opened : (all : List OpeningChange) (s t : SiteLog) (before rows : List (Option RowValue)) (used : List SlotsUsed) → IsOpening all (row_in_list before) s t rows used [] → AreOpened all (content s) (content t) before rows used
all_opened all s t before rows used is =
    let whole : is.done_ ≡ all = sym (append-nil is.done_) ∙ is.order in
    record {
      opens = subst (λ (xs : List OpeningChange). OpensRows xs (row_in_list before) (row_in_list rows)) whole is.opens;
      known = is.known;
      renewed = is.renewed;
      shows = λ frames sound. subst (λ (xs : List OpeningChange). SoundAs frames (opened_all xs (volumes_shown (content s))) (content t)) whole (is.shows frames sound);
    }

-- what is to come: this one, and those behind it
pub rest_is : (vs : List VolumeData) (i : ℕ) (v : VolumeData) → i < length vs → v ≡ get_or vs i v → drop i vs ≡ v ∷ drop (i + 1) vs
rest_is vs i v lt item = let e : suc i ≡ i + 1 = omega arith in drop-cons vs i v lt ∙ (λ k. sym item k ∷ drop (e k) vs)
