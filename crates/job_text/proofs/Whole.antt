-- The job of a text keeps what jobs keep.
use Rattle.std.proofs.Common.{◌≡◌, ℕ, zero, suc, ◌+◌, ◌<◌, ◌≤◌, true, false, List, [], ◌∷◌, map, length, Option, Some, None, Ok, Err, Result, refl, sym, ap, subst, ◌∙◌, arith, inl, inr}
use Rattle.std.specs.Prelude.{◌==◌, nat_lt, IsSome}
use Rattle.std.specs.Ordering.{nat_cmp}
use Rattle.std.specs.declared.cmp.Ordering.TheVariants.{Less}
use Rattle.std.specs.Cmp.{nat_cmp_is}
use Rattle.std.specs.List.{find, filter_map, cons_option, range_with_len, AllByRecursion, IsDistinct}
use Rattle.std.specs.List.Sorted.{IsStrictlySortedBy}
use Rattle.std.specs.Str.{bytes_eq}
use Rattle.std.proofs.lemmas.Bool.{cases_Bool, eqb-true, eqb-false, ne_eqb}
use Rattle.channel_program.specs.Script.{ItemData, mounting, demounting, program as running}
use Rattle.job_text.specs.Words.{lines_of}
use Rattle.mss_base.specs.Configs.{VolumeData, IsVolume, IsConfig}
use Rattle.job_text.specs.Jobs.{ScriptData, JobData, by_number, IsItem, IsScript, IsJob}
use Rattle.job_text.specs.Grammar.{SoFar, BadLine, TEXT_LIMIT, nothing, lines_after, job, job_of, job_of_reading}
use Rattle.job_text.proofs.Lists.{all_weaker, all_of_map, cons_all, found_test, found_in, bytes_eq-is}
use Rattle.job_text.proofs.Volumes.{has_number, number, is_found}
use Rattle.job_text.proofs.Kept.{IsBase, IsClosed, end_whole}

-- the volumes of rising numbers
abbrev taken : List VolumeData → ℕ → ℕ → List VolumeData
taken vs low count = filter_map (λ n. find (has_number n) vs) (range_with_len low count)

-- a volume of a number from low on
abbrev IsTaken : List VolumeData → ℕ → VolumeData → Type 0
IsTaken vs low v = (n : ℕ) × (low ≤ n) × (find (has_number n) vs ≡ Some v)

all_taken : (count low : ℕ) (vs : List VolumeData) → AllByRecursion (IsTaken vs low) (taken vs low count)
all_taken zero low vs = tt
all_taken (suc count) low vs =
    cons_all (IsTaken vs low) (find (has_number low) vs) (taken vs (low + 1) count) (λ v is. (low, omega arith, is))
    (all_weaker (IsTaken vs (low + 1)) (IsTaken vs low) (λ v (n, more, is). (n, omega arith, is)) (taken vs (low + 1) count) (all_taken count (low + 1) vs))

number_found : (n : ℕ) (vs : List VolumeData) (v : VolumeData) → find (has_number n) vs ≡ Some v → v.0 ≡ n
number_found n vs v h = eqb-true v.0 n (found_test (has_number n) vs v h)

-- volumes of different numbers have different serials
apart : (vs : List VolumeData) (n m : ℕ) (v w : VolumeData) → AllByRecursion IsVolume vs → IsDistinct bytes_eq (map (λ u. u.1) vs)
    → find (has_number n) vs ≡ Some v → find (has_number m) vs ≡ Some w → (n ≡ m → ⊥) → bytes_eq v.1 w.1 ≡ false
apart vs n m v w each differ a b other = elim (cases_Bool (bytes_eq v.1 w.1)) [
  | inr no_ ↦ no_
  | inl yes_ ↦
      let same : v.1 ≡ w.1 = bytes_eq-is v.1 w.1 yes_ in
      let p = is_found vs n v each differ a in
      let q = is_found vs m w each differ b in
      let one : find (λ x. bytes_eq x.1 w.1) vs ≡ Some v = subst (λ (s : List ℕ). find (λ x. bytes_eq x.1 s) vs ≡ Some v) same p.2 in
      let two : find (λ x. bytes_eq x.1 w.1) vs ≡ Some w = q.2 in
      let equal : v ≡ w = (let e : Some v ≡ Some w = sym one ∙ two in cc) in
      absurd (other (sym p.0 ∙ ap number equal ∙ q.0))
]

rising_taken : (count low : ℕ) (vs : List VolumeData) → IsStrictlySortedBy nat_cmp (map number (taken vs low count))
unfolding IsStrictlySortedBy
rising_taken zero low vs = tt
rising_taken (suc count) low vs = first (find (has_number low) vs) refl (rising_taken count (low + 1) vs) where
  first : (o : Option VolumeData) → find (has_number low) vs ≡ o → IsStrictlySortedBy nat_cmp (map number (taken vs (low + 1) count))
      → IsStrictlySortedBy nat_cmp (map number (cons_option o (taken vs (low + 1) count)))
  first None is rest = rest
  first (Some v) is rest = (
    all_of_map (λ (m : ℕ). nat_cmp v.0 m ≡ Less) number (taken vs (low + 1) count)
        (all_weaker (IsTaken vs (low + 1)) (λ w. nat_cmp v.0 w.0 ≡ Less)
        (λ w (n, more, found). (let a = number_found low vs v is in let b = number_found n vs w found in let below : v.0 < w.0 = omega arith in sym (nat_cmp_is v.0 w.0 Less below)))
        (taken vs (low + 1) count) (all_taken count (low + 1) vs)),
    rest,
  )

serials_taken : (count low : ℕ) (vs : List VolumeData) → AllByRecursion IsVolume vs → IsDistinct bytes_eq (map (λ u. u.1) vs) → IsDistinct bytes_eq (map (λ u. u.1) (taken vs low count))
unfolding IsDistinct
serials_taken zero low vs each differ = tt
serials_taken (suc count) low vs each differ = first (find (has_number low) vs) refl (serials_taken count (low + 1) vs each differ) where
  first : (o : Option VolumeData) → find (has_number low) vs ≡ o → IsDistinct bytes_eq (map (λ u. u.1) (taken vs (low + 1) count))
      → IsDistinct bytes_eq (map (λ u. u.1) (cons_option o (taken vs (low + 1) count)))
  first None is rest = rest
  first (Some v) is rest = (
    all_of_map (λ (s : List ℕ). bytes_eq v.1 s ≡ false) (λ (u : VolumeData). u.1) (taken vs (low + 1) count)
        (all_weaker (IsTaken vs (low + 1)) (λ w. bytes_eq v.1 w.1 ≡ false)
        (λ w (n, more, found). apart vs low n v w each differ is found (λ (e : low ≡ n). omega arith))
        (taken vs (low + 1) count) (all_taken count (low + 1) vs)),
    rest,
  )

none_taken : (n : ℕ) (xs vs : List VolumeData) → AllByRecursion (IsTaken vs (n + 1)) xs → find (has_number n) xs ≡ None
none_taken n [] vs h = refl
none_taken n (x ∷ xs) vs h =
    let m = h.0.0 in
    let more : n + 1 ≤ m = h.0.1 in
    let at : x.0 ≡ m = number_found m vs x h.0.2 in
    let other : (x.0 == n) ≡ false = ne_eqb x.0 n (λ (e : x.0 ≡ n). omega arith) in
    rw other (none_taken n xs vs h.1)

-- the volume of the lowest number is first, where there is one
first_taken : (low : ℕ) (vs rest : List VolumeData) (o : Option VolumeData) → find (has_number low) vs ≡ o → AllByRecursion (IsTaken vs (low + 1)) rest
    → find (has_number low) (cons_option o rest) ≡ o
first_taken low vs rest None is all = none_taken low rest vs all
first_taken low vs rest (Some v) is all =
    let same : (v.0 == low) ≡ true = found_test (has_number low) vs v is in
    rw same refl

later_taken : (low n : ℕ) (vs rest : List VolumeData) (o : Option VolumeData) → find (has_number low) vs ≡ o → low < n
    → find (has_number n) (cons_option o rest) ≡ find (has_number n) rest
later_taken low n vs rest None is more = refl
later_taken low n vs rest (Some v) is more =
    let at : v.0 ≡ low = number_found low vs v is in
    let other : (v.0 == n) ≡ false = ne_eqb v.0 n (λ (e : v.0 ≡ n). omega arith) in
    rw other refl

find_taken : (count low n : ℕ) (vs : List VolumeData) → low ≤ n → n < low + count → find (has_number n) (taken vs low count) ≡ find (has_number n) vs
find_taken zero low n vs more less = absurd (omega arith)
find_taken (suc count) low n vs more less = elim (cases_Bool (low == n)) [
  | inl is ↦
      subst (λ (m : ℕ). find (has_number m) (taken vs low (suc count)) ≡ find (has_number m) vs) (eqb-true low n is)
      (first_taken low vs (taken vs (low + 1) count) (find (has_number low) vs) refl (all_taken count (low + 1) vs))
  | inr isnt ↦
      let ne = eqb-false low n isnt in
      let past : low < n = omega (arith, ne) in
      later_taken low n vs (taken vs (low + 1) count) (find (has_number low) vs) refl past ∙ find_taken count (low + 1) n vs (omega arith) (omega arith)
]

-- a mounted volume stays configured where the volumes are put in order
found_low : (vs : List VolumeData) (n : ℕ) (o : Option VolumeData) → AllByRecursion IsVolume vs → find (has_number n) vs ≡ o → IsSome o → n ≤ 31
found_low vs n None each is some = absurd (cc)
found_low vs n (Some v) each is some = (let low = found_in IsVolume (has_number n) vs v each is in let at = number_found n vs v is in omega (arith, low.0))

item_ordered : (vs : List VolumeData) → AllByRecursion IsVolume vs → (item : ItemData) → IsItem vs item → IsItem (by_number vs) item
item_ordered vs each (mounting n bind) is =
    let low = found_low vs n (find (has_number n) vs) each refl is in
    subst (λ (o : Option VolumeData). IsSome o) (sym (find_taken 32 0 n vs (omega arith) (omega arith))) is
item_ordered vs each demounting is = tt
item_ordered vs each (running words) is = is

script_ordered : (vs : List VolumeData) → AllByRecursion IsVolume vs → (x : ScriptData) → IsScript vs x → IsScript (by_number vs) x
script_ordered vs each x is = record {
  low = is.low;
  high = is.high;
  few = is.few;
  each = all_weaker (IsItem vs) (IsItem (by_number vs)) (item_ordered vs each) x.items is.each;
}

volumes_taken : (count low : ℕ) (vs : List VolumeData) → AllByRecursion IsVolume vs → AllByRecursion IsVolume (taken vs low count)
volumes_taken count low vs each =
    all_weaker (IsTaken vs low) IsVolume (λ v is. found_in IsVolume (has_number is.0) vs v each is.2) (taken vs low count) (all_taken count low vs)

config_whole : (s : SoFar) → IsBase s → IsConfig (job s).config
config_whole s base = record {
  some_frames = base.some_frames;
  few_frames = base.few_frames;
  some_recorders = base.some_recorders;
  few_recorders = base.few_recorders;
  volumes_ = volumes_taken 32 0 s.volumes base.volumes_;
  rising = rising_taken 32 0 s.volumes;
  serials = serials_taken 32 0 s.volumes base.volumes_ base.serials;
}

whole : (s : SoFar) → IsBase s → IsClosed s.closed s.total → IsJob (job s)
whole s base closed = record {
  config_ = config_whole s base;
  scripts = all_weaker (IsScript s.volumes) (IsScript (by_number s.volumes)) (script_ordered s.volumes base.volumes_) s.closed base.closed_;
  hosts_differ = closed.differ;
  small = (let a = closed.size in let b = base.small in omega arith);
}

of_reading : (r : Result SoFar BadLine) (lines : List (List ℕ)) (j : JobData) → lines_after nothing 1 lines ≡ r → job_of_reading r ≡ Ok j → IsJob j
of_reading (Err bad) lines j is h = absurd (cc)
of_reading (Ok s) lines j is h =
    let kept = end_whole lines s 1 is in
    let same : job s ≡ j = cc in
    subst IsJob same (whole s kept.0 kept.1)

pub job_whole : (text : List ℕ) (j : JobData) → job_of text ≡ Ok j → IsJob j
job_whole text j h = elim (cases_Bool (nat_lt TEXT_LIMIT (length text))) [
  | inl long ↦ absurd (let err = rw long at h in cc)
  | inr short ↦ of_reading (lines_after nothing 1 (lines_of text)) (lines_of text) j refl (rw short at h)
]

-- the job of a reading at its end
pub read_whole : (lines : List (List ℕ)) (s : SoFar) (before volumes : List VolumeData) → lines_after nothing 1 lines ≡ Ok s → before ≡ s.volumes → volumes ≡ by_number before
    → IsJob (record { config = record { frames = s.frames; recorders = s.recorders; volumes = volumes }; hosts = s.closed })
read_whole lines s before volumes is same ordered =
    let kept = end_whole lines s 1 is in
    subst (λ (vs : List VolumeData). IsJob (record { config = record { frames = s.frames; recorders = s.recorders; volumes = vs }; hosts = s.closed }))
    (sym (ordered ∙ ap by_number same)) (whole s kept.0 kept.1)
