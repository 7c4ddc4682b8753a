-- Opening changes as they are told, and each written to its end.
use Rattle.std.proofs.Common.{◌≡◌, ℕ, ◌≤◌, List, [], ◌∷◌, ◌++◌, append_assoc, None, Some, Err, refl, sym, ◌∙◌, ap, subst, arith}
use Rattle.std.proofs.lemmas.List.{append-nil}
use Rattle.mss_base.specs.Content.{SiteLog}
use Rattle.volume_table.specs.Row.{RowValue, blank_row}
use Rattle.shown_volumes.specs.Shown.{RowsOf}
use Rattle.shown_volumes.specs.Changing.{with_row}
use Rattle.shown_volumes.specs.declared.refused.Refused.{Refused}
use Rattle.shown_volumes.specs.declared.refused.Refused.TheVariants.{Memory}
use Rattle.mss_restart.specs.Cartridges.{IsLowestFree}
use Rattle.mss_restart.specs.Opening.{OpeningChange, volume_of, IsNewRow, IsRowAfter}
use Rattle.mss_restart.specs.Creations.{AreTold, MakesRow, IsWritten, AreWritten, IsFrontWritten, ChangesWhole}
use Rattle.mss_restart.specs.declared.steps.OpeningStep.{OpeningStep}

-- a blank row on the two lowest cartridges that are free
pub new_row : (rows : RowsOf) (first second : ℕ) (serial : List ℕ) (row : RowValue) → IsLowestFree rows None first → IsLowestFree rows (Some first) second → row ≡ blank_row serial first second → IsNewRow rows serial row
new_row rows first second serial row one two is =
    let first_is : first ≡ row.first = sym (ap (λ (r : RowValue). r.first) is) in
    let second_is : second ≡ row.second = sym (ap (λ (r : RowValue). r.second) is) in
    record {
      blank = is ∙ (λ i. blank_row serial (first_is i) (second_is i));
      first = subst (λ (n : ℕ). IsLowestFree rows None n) first_is one;
      second = subst (λ (n : ℕ). IsLowestFree rows (Some n) row.second) first_is (subst (λ (n : ℕ). IsLowestFree rows (Some first) n) second_is two);
    }

-- one more is told
told_on : (changes : List OpeningChange) (steps : List OpeningStep) (rows mid last : RowsOf) (before writes now : ℕ) (change : OpeningChange) (step : OpeningStep) → AreTold changes steps rows mid before writes
    → MakesRow change step mid last now → writes ≤ now → AreTold (changes ++ change ∷ []) (steps ++ step ∷ []) rows last before now
told_on [] [] rows mid last before writes now change step told one later =
    let a = told.1 in
    let b = one.count in (
      one.row,
      subst (λ (x : RowsOf). IsRowAfter x change one.row) told.0 one.is_row,
      one.tells,
      omega (arith, a, b, later),
      (one.now ∙ ap (with_row (volume_of change) one.row) told.0, omega (arith, b)),
    )
told_on [] (s ∷ steps) rows mid last before writes now change step told one later = absurd told
told_on (w ∷ changes) [] rows mid last before writes now change step told one later = absurd told
told_on (w ∷ changes) (s ∷ steps) rows mid last before writes now change step told one later =
    (told.0, told.1, told.2, told.3, told_on changes steps (with_row (volume_of w) told.0 rows) mid last s.writes writes now change step told.4 one later)

written_on : (changes : List OpeningChange) (steps : List OpeningStep) (rows last after : RowsOf) (old mid new : SiteLog) (change : OpeningChange) (step : OpeningStep) → AreWritten changes steps rows last old mid
    → IsWritten last after change step mid new → AreWritten (changes ++ change ∷ []) (steps ++ step ∷ []) rows after old new
written_on [] [] rows last after old mid new change step before one =
    (new, (after, subst (λ (x : RowsOf). IsWritten x after change step old new) before.0 (subst (λ (x : SiteLog). IsWritten last after change step x new) before.1 one), (refl, refl)))
written_on [] (s ∷ steps) rows last after old mid new change step before one = absurd before
written_on (w ∷ changes) [] rows last after old mid new change step before one = absurd before
written_on (w ∷ changes) (s ∷ steps) rows last after old mid new change step before one =
    (before.0, (before.1.0, before.1.1, written_on changes steps before.1.0 last after before.0 mid new change step before.1.2 one))

-- these changes are to come, and those before them were told
pub record AreComing (all : List OpeningChange) (start : RowsOf) (written writes : ℕ) (rows : RowsOf) (steps : List OpeningStep) (rest : List OpeningChange) : Type 0 where
  pub done_ : List OpeningChange
  pub order : done_ ++ rest ≡ all
  pub told : AreTold done_ steps start rows written writes

-- and each was written to its end
pub record AreLogged (all : List OpeningChange) (start : RowsOf) (begun now : SiteLog) (rows : RowsOf) (steps : List OpeningStep) (rest : List OpeningChange) : Type 0 where
  pub done_ : List OpeningChange
  pub order : done_ ++ rest ≡ all
  pub each : AreWritten done_ steps start rows begun now

pub none_coming : (all : List OpeningChange) (rows : RowsOf) (written : ℕ) (steps : List OpeningStep) → steps ≡ [] → AreComing all rows written written rows steps all
none_coming all rows written steps none = subst (λ (x : List OpeningStep). AreComing all rows written written rows x all) (sym none) (record { done_ = []; order = refl; told = (refl, omega arith) })

pub none_logged : (all : List OpeningChange) (rows : RowsOf) (s : SiteLog) (steps : List OpeningStep) → steps ≡ [] → AreLogged all rows s s rows steps all
none_logged all rows s steps none = subst (λ (x : List OpeningStep). AreLogged all rows s s rows x all) (sym none) (record { done_ = []; order = refl; each = (refl, refl) })

module _ (all : List OpeningChange) (start rows : RowsOf) (steps : List OpeningStep) (change : OpeningChange) (rest : List OpeningChange) where
  pub coming_on : (written writes : ℕ) → AreComing all start written writes rows steps (change ∷ rest) → (after : RowsOf) (more : List OpeningStep) (now : ℕ) (one : OpeningStep) → more ≡ steps ++ one ∷ []
      → MakesRow change one rows after now → writes ≤ now → AreComing all start written now after more rest
  coming_on written writes so_far after more now one pushed makes later = subst (λ (x : List OpeningStep). AreComing all start written now after x rest) (sym pushed) (record {
    done_ = so_far.done_ ++ change ∷ [];
    order = append_assoc so_far.done_ (change ∷ []) rest ∙ so_far.order;
    told = told_on so_far.done_ steps start rows after written writes now change one so_far.told makes later;
  })

  pub logged_on : (begun mid : SiteLog) → AreLogged all start begun mid rows steps (change ∷ rest) → (after : RowsOf) (more : List OpeningStep) (now : SiteLog) (one : OpeningStep) → more ≡ steps ++ one ∷ []
      → IsWritten rows after change one mid now → AreLogged all start begun now after more rest
  logged_on begun mid so_far after more now one pushed is = subst (λ (x : List OpeningStep). AreLogged all start begun now after x rest) (sym pushed) (record {
    done_ = so_far.done_ ++ change ∷ [];
    order = append_assoc so_far.done_ (change ∷ []) rest ∙ so_far.order;
    each = written_on so_far.done_ steps start rows after begun mid now change one so_far.each is;
  })

-- said in another way
pub coming_as : {all : List OpeningChange} {start : RowsOf} {written writes : ℕ} {rows : RowsOf} {steps : List OpeningStep} {rest other : List OpeningChange} → AreComing all start written writes rows steps rest → rest ≡ other
    → AreComing all start written writes rows steps other
coming_as {all} {start} {written} {writes} {rows} {steps} is same = subst (AreComing all start written writes rows steps) same is

pub logged_as : {all : List OpeningChange} {start : RowsOf} {begun now : SiteLog} {rows : RowsOf} {steps : List OpeningStep} {rest other : List OpeningChange} → AreLogged all start begun now rows steps rest → rest ≡ other
    → AreLogged all start begun now rows steps other
logged_as {all} {start} {begun} {now} {rows} {steps} is same = subst (AreLogged all start begun now rows steps) same is

-- none are to come
pub all_come : (all : List OpeningChange) (start rows : RowsOf) (written writes : ℕ) (steps : List OpeningStep) → AreComing all start written writes rows steps [] → AreTold all steps start rows written writes
all_come all start rows written writes steps is =
    subst (λ (xs : List OpeningChange). AreTold xs steps start rows written writes) (sym (append-nil is.done_) ∙ is.order) is.told

pub all_logged : (all : List OpeningChange) (start rows : RowsOf) (begun now : SiteLog) (steps : List OpeningStep) → AreLogged all start begun now rows steps [] → AreWritten all steps start rows begun now
all_logged all start rows begun now steps is =
    subst (λ (xs : List OpeningChange). AreWritten xs steps start rows begun now) (sym (append-nil is.done_) ∙ is.order) is.each

-- want of memory leaves the changes that were made
pub memory_changes : (all : List OpeningChange) (start rows last : RowsOf) (begun mid now : SiteLog) (steps told : List OpeningStep) (rest : List OpeningChange) (e : Refused) → AreLogged all start begun mid rows steps rest
    → (e ≡ Memory → now ≡ mid) → ChangesWhole (record { changes = all; before = start; after = last; steps = told }) begun now (Err e)
memory_changes all start rows last begun mid now steps told rest Memory is same =
    subst (IsFrontWritten all start begun) (sym (same refl)) (record { done_ = is.done_; later = rest; order = is.order; steps = steps; last = rows; each = is.each })
memory_changes all start rows last begun mid now steps told rest _ is same = tt
