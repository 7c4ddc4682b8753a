-- The messages of opening changes: they are allowed one after the other, and lead from the rows before to the rows now.
use Rattle.std.proofs.Common.{◌≡◌, ◌≢◌, inl, inr, ℕ, ◌+◌, ◌*◌, ◌<◌, ◌≤◌, ◌==◌, Bool, true, false, not, cond, List, [], ◌∷◌, ◌++◌, length, map, Option, Some, None, refl, sym, ◌∙◌, ap, subst, arith}
use Rattle.std.specs.Prelude.{is_some}
use Rattle.std.specs.Option.{option_map}
use Rattle.std.specs.List.{AllByRecursion}
use Rattle.std.proofs.lemmas.Bool.{cases_Bool, cond-true, cond-false, eqb-true, ne_eqb, false≢true}
use Rattle.mss_base.specs.Configs.{VolumeData}
use Rattle.volume_table.specs.Row.{RowValue, blank_row}
use Rattle.volume_table.specs.Changes.{effect, with_mark}
use Rattle.volume_table.specs.declared.changes.Change.{Change}
use Rattle.volume_table.specs.declared.changes.Change.TheVariants.{Protect}
use Rattle.shown_volumes.specs.Shown.{RowsOf}
use Rattle.shown_volumes.specs.Sound.{cartridge_of}
use Rattle.shown_volumes.specs.Changing.{with_row}
use Rattle.mss_restart.specs.declared.steps.OpeningStep.{OpeningStep}
use Rattle.mss_restart.specs.Opening.{OpeningChange, made, marked, volume_of, to_make, to_mark, opening_changes, is_marked_as, IsRowAfter}
use Rattle.mss_restart.specs.Creations.{AreTold, TellsStep, change_made}
use Rattle.mss_restart.proofs.Creating.{AreRising, rising_first}
use Rattle.mss_restart.proofs.FreshFacts.{named_from}
use Rattle.mss_restart.proofs.OpenedRows.{AreMarks, to_mark_marks}
use Rattle.mss_restart.proofs.UsableFacts.{AreFew}
use Rattle.core_state.specs.declared.session.Message.{Message}
use Rattle.core_state.specs.Agrees.{changed_row, with_change, rows_after, freed_by, IsAllowedIn, AllAllowed, handed_rows, undone}
use Rattle.core_state.specs.IsCore.{AllDone}
use Rattle.core_restart.specs.Console.{message_in, step_in, steps_in, FreeNone}

-- ---- messages of steps

pub steps_back : (steps : List OpeningStep) → steps_in (map message_in steps) ≡ steps
steps_back [] = refl
steps_back (x ∷ steps) = λ i. x ∷ steps_back steps i

pub free_none : (steps : List OpeningStep) → FreeNone (map message_in steps)
free_none [] = tt
free_none (x ∷ steps) = (refl, free_none steps)

pub messages_append : (a b : List OpeningStep) → map message_in a ++ map message_in b ≡ map message_in (a ++ b)
messages_append [] b = refl
messages_append (x ∷ a) b = λ i. message_in x ∷ messages_append a b i

-- ---- the volumes that are made

-- this number is below those of all that are made
abbrev pub MadeAbove : ℕ → List OpeningChange → Type 0
MadeAbove n [] = Unit {0}
MadeAbove n (made volume serial ∷ changes) = (n < volume) × MadeAbove n changes
MadeAbove n (marked volume on ∷ changes) = MadeAbove n changes

-- they rise, and marks come behind them
abbrev pub AreApart : List OpeningChange → Type 0
AreApart [] = Unit {0}
AreApart (made volume serial ∷ changes) = MadeAbove volume changes × AreApart changes
AreApart (marked volume on ∷ changes) = AreMarks changes × AreApart changes

-- they have no row yet
abbrev pub HaveNone : RowsOf → List OpeningChange → Type 0
HaveNone rows [] = Unit {0}
HaveNone rows (made volume serial ∷ changes) = (rows volume ≡ None) × HaveNone rows changes
HaveNone rows (marked volume on ∷ changes) = HaveNone rows changes

marks_above : (n : ℕ) (changes : List OpeningChange) → AreMarks changes → MadeAbove n changes
marks_above n [] marks = tt
marks_above n (made volume serial ∷ changes) marks = absurd marks
marks_above n (marked volume on ∷ changes) marks = marks_above n changes marks

marks_apart : (changes : List OpeningChange) → AreMarks changes → AreApart changes
marks_apart [] marks = tt
marks_apart (made volume serial ∷ changes) marks = absurd marks
marks_apart (marked volume on ∷ changes) marks = (marks, marks_apart changes marks)

marks_none : (rows : RowsOf) (changes : List OpeningChange) → AreMarks changes → HaveNone rows changes
marks_none rows [] marks = tt
marks_none rows (made volume serial ∷ changes) marks = absurd marks
marks_none rows (marked volume on ∷ changes) marks = marks_none rows changes marks

is_none : (o : Option RowValue) → is_some o ≡ false → o ≡ None
is_none None is = refl
is_none (Some r) is = absurd (false≢true (sym is))

module _ (rows : RowsOf) (marks : List OpeningChange) (are : AreMarks marks) where
  made_above : (n : ℕ) (vs : List VolumeData) → AllByRecursion (λ w. n < w.0) vs → MadeAbove n (to_make rows vs ++ marks)
  made_above n [] above = marks_above n marks are
  made_above n (v ∷ vs) above = elim (cases_Bool (is_some (rows v.0))) [
    | inl has ↦ subst (λ (xs : List OpeningChange). MadeAbove n (xs ++ marks)) (sym (cond-true _ _ _ has)) (made_above n vs above.1)
    | inr none ↦ subst (λ (xs : List OpeningChange). MadeAbove n (xs ++ marks)) (sym (cond-false _ _ _ none)) (above.0, made_above n vs above.1)
  ]

  made_apart : (vs : List VolumeData) → AreRising vs → AreApart (to_make rows vs ++ marks)
  made_apart [] rising = marks_apart marks are
  made_apart (v ∷ vs) rising =
      let first = rising_first v vs rising in
      elim (cases_Bool (is_some (rows v.0))) [
        | inl has ↦ subst (λ (xs : List OpeningChange). AreApart (xs ++ marks)) (sym (cond-true _ _ _ has)) (made_apart vs first.1)
        | inr none ↦ subst (λ (xs : List OpeningChange). AreApart (xs ++ marks)) (sym (cond-false _ _ _ none)) (made_above v.0 vs first.0, made_apart vs first.1)
      ]

  made_none : (vs : List VolumeData) → HaveNone rows (to_make rows vs ++ marks)
  made_none [] = marks_none rows marks are
  made_none (v ∷ vs) = elim (cases_Bool (is_some (rows v.0))) [
    | inl has ↦ subst (λ (xs : List OpeningChange). HaveNone rows (xs ++ marks)) (sym (cond-true _ _ _ has)) (made_none vs)
    | inr none ↦ subst (λ (xs : List OpeningChange). HaveNone rows (xs ++ marks)) (sym (cond-false _ _ _ none)) (is_none (rows v.0) none, made_none vs)
  ]

  few_made : (vs : List VolumeData) → length (to_make rows vs ++ marks) ≤ length vs + length marks
  few_made [] = omega arith
  few_made (v ∷ vs) =
      let rest = few_made vs in
      elim (cases_Bool (is_some (rows v.0))) [
        | inl has ↦ let l = ap (λ (xs : List OpeningChange). length (xs ++ marks)) (cond-true (is_some (rows v.0)) (to_make rows vs) (made v.0 v.1 ∷ to_make rows vs) has) in omega (arith, l, rest)
        | inr none ↦ let l = ap (λ (xs : List OpeningChange). length (xs ++ marks)) (cond-false (is_some (rows v.0)) (to_make rows vs) (made v.0 v.1 ∷ to_make rows vs) none) in omega (arith, l, rest)
      ]

few_marks : (rows : RowsOf) (vs : List VolumeData) → length (to_mark rows vs) ≤ length vs
few_marks rows [] = omega arith
few_marks rows (v ∷ vs) =
    let rest = few_marks rows vs in
    elim (cases_Bool (is_marked_as v.2 (rows v.0))) [
      | inl has ↦ let l = ap (λ (xs : List OpeningChange). length xs) (cond-true (is_marked_as v.2 (rows v.0)) (to_mark rows vs) (marked v.0 v.2 ∷ to_mark rows vs) has) in omega (arith, l, rest)
      | inr other ↦ let l = ap (λ (xs : List OpeningChange). length xs) (cond-false (is_marked_as v.2 (rows v.0)) (to_mark rows vs) (marked v.0 v.2 ∷ to_mark rows vs) other) in omega (arith, l, rest)
    ]

pub opening_apart : (rows : RowsOf) (vs : List VolumeData) → AreRising vs → AreApart (opening_changes rows vs)
opening_apart rows vs rising = made_apart rows (to_mark rows vs) (to_mark_marks rows vs) vs rising

pub opening_none : (rows : RowsOf) (vs : List VolumeData) → HaveNone rows (opening_changes rows vs)
opening_none rows vs = made_none rows (to_mark rows vs) (to_mark_marks rows vs) vs

pub few_changes : (rows : RowsOf) (vs : List VolumeData) → length (opening_changes rows vs) ≤ 2 * length vs
few_changes rows vs =
    let a = few_made rows (to_mark rows vs) (to_mark_marks rows vs) vs in
    let b = few_marks rows vs in
    omega (arith, a, b)

pub as_many : (changes : List OpeningChange) (steps : List OpeningStep) (rows last : RowsOf) (from now : ℕ) → AreTold changes steps rows last from now → length steps ≡ length changes
as_many [] [] rows last from now told = refl
as_many [] (x ∷ steps) rows last from now told = absurd told
as_many (c ∷ changes) [] rows last from now told = absurd told
as_many (c ∷ changes) (x ∷ steps) rows last from now told = let rest = as_many changes steps (with_row (volume_of c) told.0 rows) last x.writes now told.4 in omega (arith, rest)

-- ---- what one change leaves

none_past : (n : ℕ) (row : RowValue) (rows : RowsOf) (changes : List OpeningChange) → MadeAbove n changes → HaveNone rows changes → HaveNone (with_row n row rows) changes
none_past n row rows [] above none = tt
none_past n row rows (made volume serial ∷ changes) above none =
    (cond-false _ _ _ (ne_eqb volume n (λ (e : volume ≡ n). (let past = above.0 in omega (arith, past, e)))) ∙ none.0, none_past n row rows changes above.1 none.1)
none_past n row rows (marked volume on ∷ changes) above none = none_past n row rows changes above none

none_behind : (change : OpeningChange) (row : RowValue) (rows : RowsOf) (changes : List OpeningChange) → AreApart (change ∷ changes) → HaveNone rows (change ∷ changes) → HaveNone (with_row (volume_of change) row rows) changes
none_behind (made volume serial) row rows changes apart none = none_past volume row rows changes apart.0 none.1
none_behind (marked volume on) row rows changes apart none = marks_none (with_row volume row rows) changes apart.0

apart_behind : (change : OpeningChange) (changes : List OpeningChange) → AreApart (change ∷ changes) → AreApart changes
apart_behind (made volume serial) changes apart = apart.1
apart_behind (marked volume on) changes apart = apart.1

-- who has a row keeps one
some_kept : (changes : List OpeningChange) (steps : List OpeningStep) (rows last : RowsOf) (from now : ℕ) → AreTold changes steps rows last from now → (n : ℕ) (r : RowValue) → rows n ≡ Some r → (q : RowValue) × (last n ≡ Some q)
some_kept [] [] rows last from now told n r at = (r, ap (λ (x : RowsOf). x n) told.0 ∙ at)
some_kept [] (x ∷ steps) rows last from now told n r at = absurd told
some_kept (c ∷ changes) [] rows last from now told n r at = absurd told
some_kept (c ∷ changes) (x ∷ steps) rows last from now told n r at = elim (cases_Bool (n == volume_of c)) [
  | inl same ↦ some_kept changes steps (with_row (volume_of c) told.0 rows) last x.writes now told.4 n told.0 (cond-true _ _ _ same)
  | inr other ↦ some_kept changes steps (with_row (volume_of c) told.0 rows) last x.writes now told.4 n r (cond-false _ _ _ other ∙ at)
]

few_before : (changes : List OpeningChange) (steps : List OpeningStep) (rows last : RowsOf) (from now : ℕ) → AreTold changes steps rows last from now → AreFew last → AreFew rows
few_before changes steps rows last from now told few n r at = let kept = some_kept changes steps rows last from now told n r at in few n kept.0 kept.1

other_mark : (mark on : Bool) → mark ≢ on → not on ≡ mark
other_mark true true ne = absurd (ne refl)
other_mark true false ne = refl
other_mark false true ne = refl
other_mark false false ne = absurd (ne refl)

-- the change of a row, seen in the rows
row_changes : (change : OpeningChange) (rows : RowsOf) (row : RowValue) → IsRowAfter rows change row → changed_row (change_made change row) (rows (volume_of change)) ≡ Some row
row_changes (made volume serial) rows row is =
    ap (λ (r : RowValue). Some r) (ap (λ (s : List ℕ). blank_row s row.first row.second) (ap (λ (r : RowValue). r.serial) is.blank) ∙ sym is.blank)
row_changes (marked volume on) rows row is = ap (option_map (effect (Protect on))) is.there ∙ ap (λ (r : RowValue). Some r) (sym is.becomes)

row_undone : (change : OpeningChange) (rows : RowsOf) (row : RowValue) → IsRowAfter rows change row → HaveNone rows (change ∷ []) → undone (change_made change row) (Some row) ≡ rows (volume_of change)
row_undone (made volume serial) rows row is none = sym none.0
row_undone (marked volume on) rows row is none =
    ap (λ (r : RowValue). Some (with_mark (not on) r)) is.becomes ∙ ap (λ (b : Bool). Some (with_mark b is.old)) (other_mark is.old.read_only on is.other) ∙ sym is.there

here_none : (change : OpeningChange) (rows : RowsOf) (changes : List OpeningChange) → HaveNone rows (change ∷ changes) → HaveNone rows (change ∷ [])
here_none (made volume serial) rows changes none = (none.0, tt)
here_none (marked volume on) rows changes none = tt

named : (rows : RowsOf) → AreFew rows → (u : ℕ) (half : Bool) (n : ℕ) → cartridge_of rows u half ≡ Some n → (o : Option RowValue) → rows u ≡ o → u < 32
named rows few u half n at None is = let e : ◌≡◌ {A = Option ℕ} None (Some n) = sym (ap (λ (o : Option RowValue). option_map (λ (r : RowValue). cond half r.second r.first) o) is) ∙ at in absurd cc
named rows few u half n at (Some r) is = few u r is

row_allowed : (change : OpeningChange) (rows : RowsOf) (row : RowValue) → IsRowAfter rows change row → HaveNone rows (change ∷ []) → AreFew rows → IsAllowedIn rows (volume_of change) (change_made change row) (rows (volume_of change))
row_allowed (made volume serial) rows row is none few = (
  none.0,
  λ u half. (
    λ at. is.first.free (named_from rows u half row.first (named rows few u half row.first at (rows u) refl) at),
    λ at. is.second.free (named_from rows u half row.second (named rows few u half row.second at (rows u) refl) at),
  ),
)
row_allowed (marked volume on) rows row is none few = subst (λ (o : Option RowValue). IsAllowedIn rows volume (Protect on) o) (sym is.there) (is.other, tt)

none_freed : (change : OpeningChange) (rows : RowsOf) (row : RowValue) → freed_by rows (volume_of change) (change_made change row) ≡ None
none_freed (made volume serial) rows row = refl
none_freed (marked volume on) rows row = refl

module _ (change : OpeningChange) (rows : RowsOf) (row : RowValue) (is : IsRowAfter rows change row) (m : Message) (tells : TellsStep change row (step_in m)) where
  changes : with_change rows m ≡ with_row (volume_of change) row rows
  changes =
      (λ i u. cond (u == tells.volume_ i) (changed_row (tells.change_ i) (rows u)) (rows u))
      ∙ (λ i u. at u i)
    where
      at : (u : ℕ) → cond (u == volume_of change) (changed_row (change_made change row) (rows u)) (rows u) ≡ with_row (volume_of change) row rows u
      at u = elim (cases_Bool (u == volume_of change)) [
        | inl same ↦ cond-true _ _ _ same ∙ ap (λ (n : ℕ). changed_row (change_made change row) (rows n)) (eqb-true u (volume_of change) same) ∙ row_changes change rows row is ∙ sym (cond-true _ _ _ same)
        | inr other ↦ cond-false _ _ _ other ∙ sym (cond-false _ _ _ other)
      ]

  allowed : HaveNone rows (change ∷ []) → AreFew rows → IsAllowedIn rows m.volume m.change (rows m.volume)
  allowed none few = subst (λ (x : ℕ × Change). IsAllowedIn rows x.0 x.1 (rows x.0)) (λ i. (sym tells.volume_ i, sym tells.change_ i)) (row_allowed change rows row is none few)

  freed : m.freed ≡ None → m.freed ≡ freed_by rows m.volume m.change
  freed none = none ∙ sym (none_freed change rows row) ∙ (λ i. freed_by rows (sym tells.volume_ i) (sym tells.change_ i))

-- ---- all of them

pub all_done : (cs : List OpeningChange) (console : List Message) (rows last : RowsOf) (from now : ℕ) → AreTold cs (steps_in console) rows last from now → (from ≤ now) × AllDone now console
all_done [] [] rows last from now told = (told.1, tt)
all_done [] (m ∷ ms) rows last from now told = absurd told
all_done (c ∷ cs) [] rows last from now told = absurd told
all_done (c ∷ cs) (m ∷ ms) rows last from now told =
    let rest = all_done cs ms (with_row (volume_of c) told.0 rows) last m.mark now told.4 in
    ((let a = told.3 in let b = rest.0 in omega (arith, a, b)), (rest.0, rest.1))

pub leads : (cs : List OpeningChange) (console : List Message) (rows last : RowsOf) (from now : ℕ) → AreTold cs (steps_in console) rows last from now → rows_after rows console ≡ last
leads [] [] rows last from now told = sym told.0
leads [] (m ∷ ms) rows last from now told = absurd told
leads (c ∷ cs) [] rows last from now told = absurd told
leads (c ∷ cs) (m ∷ ms) rows last from now told =
    ap (λ (r : RowsOf). rows_after r ms) (changes c rows told.0 told.1 m told.2) ∙ leads cs ms (with_row (volume_of c) told.0 rows) last m.mark now told.4

pub all_allowed : (cs : List OpeningChange) (console : List Message) (rows last : RowsOf) (from now : ℕ) → AreTold cs (steps_in console) rows last from now → FreeNone console → AreApart cs → HaveNone rows cs → AreFew last → AllAllowed rows console
all_allowed [] [] rows last from now told free apart none few = tt
all_allowed [] (m ∷ ms) rows last from now told free apart none few = absurd told
all_allowed (c ∷ cs) [] rows last from now told free apart none few = absurd told
all_allowed (c ∷ cs) (m ∷ ms) rows last from now told free apart none few = (
  (allowed c rows told.0 told.1 m told.2 (here_none c rows cs none) (few_before (c ∷ cs) (steps_in (m ∷ ms)) rows last from now told few), freed c rows told.0 told.1 m told.2 free.0),
  subst (λ (r : RowsOf). AllAllowed r ms) (sym (changes c rows told.0 told.1 m told.2))
      (all_allowed cs ms (with_row (volume_of c) told.0 rows) last m.mark now told.4 free.1 (apart_behind c cs apart) (none_behind c told.0 rows cs apart none) few),
)

-- the rows before the first of them, where those before the others are known
first_undone : (c : OpeningChange) (m : Message) (rows after : RowsOf) (row : RowValue) → IsRowAfter rows c row → TellsStep c row (step_in m) → HaveNone rows (c ∷ []) → after ≡ with_row (volume_of c) row rows
    → (λ (u : ℕ). cond (u == m.volume) (undone m.change (after u)) (after u)) ≡ rows
first_undone c m rows after row is tells none behind =
    (λ i u. cond (u == tells.volume_ i) (undone (tells.change_ i) (behind i u)) (behind i u))
    ∙ (λ i u. at u i)
  where
    at : (u : ℕ) → cond (u == volume_of c) (undone (change_made c row) (with_row (volume_of c) row rows u)) (with_row (volume_of c) row rows u) ≡ rows u
    at u = elim (cases_Bool (u == volume_of c)) [
      | inl same ↦
          cond-true _ _ _ same ∙ ap (undone (change_made c row)) (cond-true _ _ _ same) ∙ row_undone c rows row is none
          ∙ ap rows (sym (eqb-true u (volume_of c) same))
      | inr other ↦ cond-false _ _ _ other ∙ cond-false _ _ _ other
    ]

-- the rows before
pub handed_are : (cs : List OpeningChange) (console : List Message) (rows last : RowsOf) (from now : ℕ) → AreTold cs (steps_in console) rows last from now → AreApart cs → HaveNone rows cs → handed_rows last console ≡ rows
handed_are [] [] rows last from now told apart none = told.0
handed_are [] (m ∷ ms) rows last from now told apart none = absurd told
handed_are (c ∷ cs) [] rows last from now told apart none = absurd told
handed_are (c ∷ cs) (m ∷ ms) rows last from now told apart none =
    first_undone c m rows (handed_rows last ms) told.0 told.1 told.2 (here_none c rows cs none)
    (handed_are cs ms (with_row (volume_of c) told.0 rows) last m.mark now told.4 (apart_behind c cs apart) (none_behind c told.0 rows cs apart none))
