-- Volumes in order of number, and the volume of a serial.
use Rattle.std.proofs.Common.{◌≡◌, ℕ, zero, suc, ◌+◌, ◌<◌, ◌≤◌, Bool, true, false, List, [], ◌∷◌, map, Option, Some, None, refl, sym, ap, subst, ◌∙◌, arith, inl, inr}
use Rattle.std.specs.Prelude.{◌==◌, IsSome}
use Rattle.std.specs.Ordering.{nat_cmp}
use Rattle.std.specs.declared.cmp.Ordering.TheVariants.{Less}
use Rattle.std.specs.List.{find, filter_map, range_with_len, AllByRecursion, IsDistinct}
use Rattle.std.specs.List.Sorted.{IsStrictlySortedBy}
use Rattle.std.specs.Option.{option_map}
use Rattle.std.specs.Str.{bytes_eq}
use Rattle.std.proofs.lemmas.Bool.{cases_Bool, eqb-true, eqb-false, ne_eqb}
use Rattle.std.proofs.lemmas.Cmp.{ranked}
use Rattle.job_text.proofs.Lists.{all_weaker, found_has, bytes_eq-same}
use Rattle.job_text.specs.Words.{is_serial}
use Rattle.job_text.proofs.Serials.{from_serial}
use Rattle.mss_base.specs.Configs.{VolumeData, IsVolume}
use Rattle.job_text.specs.Jobs.{by_number}
use Rattle.job_text.specs.Canonical.{serial_of}

-- the test by which a volume is looked up
abbrev pub has_number : ℕ → VolumeData → Bool
has_number n v = v.0 == n

abbrev pub number : VolumeData → ℕ
number v = v.0

all_above : (n : ℕ) (vs : List VolumeData) → AllByRecursion (λ m. nat_cmp n m ≡ Less) (map number vs) → AllByRecursion (λ v. n < v.0) vs
all_above n [] h = tt
all_above n (v ∷ vs) h = (ranked n v.0 Less (sym h.0), all_above n vs h.1)

none_with : (n : ℕ) (vs : List VolumeData) → AllByRecursion (λ v. n < v.0) vs → find (has_number n) vs ≡ None
none_with n [] h = refl
none_with n (v ∷ vs) h = rw (ne_eqb v.0 n (λ (e : v.0 ≡ n). omega (arith, h.0))) (none_with n vs h.1)

-- rising numbers, taken one after the other, are all of them
numbered : (count low : ℕ) (vs : List VolumeData) (h : ℕ → Option VolumeData)
    → ((n : ℕ) → low ≤ n → h n ≡ find (has_number n) vs) → IsStrictlySortedBy nat_cmp (map number vs)
    → AllByRecursion (λ v. low ≤ v.0) vs → AllByRecursion (λ v. v.0 < low + count) vs → filter_map h (range_with_len low count) ≡ vs
unfolding IsStrictlySortedBy
numbered zero low [] h same rising above below = refl
numbered zero low (v ∷ vs) h same rising above below = absurd (omega (arith, above.0, below.0))
numbered (suc count) low [] h same rising above below =
    rw (same low (omega arith)) (numbered count (low + 1) [] h (λ n more. same n (omega arith)) tt tt tt)
numbered (suc count) low (v ∷ vs) h same rising above below =
    let higher : AllByRecursion (λ w. v.0 < w.0) vs = all_above v.0 vs rising.0 in
    let next : AllByRecursion (λ w. w.0 < low + 1 + count) (v ∷ vs) = all_weaker (λ w. w.0 < low + suc count) (λ w. w.0 < low + 1 + count) (λ w small. omega arith) (v ∷ vs) below in
    elim (cases_Bool (v.0 == low)) [
      | inl is ↦
          let at : v.0 ≡ low = eqb-true v.0 low is in
          let first : h low ≡ Some v = same low (omega arith) ∙ rw is refl in
          let later : (n : ℕ) → low + 1 ≤ n → h n ≡ find (has_number n) vs =
          λ n more. same n (omega arith) ∙ (let not_first : (v.0 == n) ≡ false = ne_eqb v.0 n (λ (e : v.0 ≡ n). omega arith) in rw not_first refl) in
          let rest = numbered count (low + 1) vs h later rising.1 (all_weaker (λ w. v.0 < w.0) (λ w. low + 1 ≤ w.0) (λ w more. omega arith) vs higher) next.1 in
          rw first (ap (λ (ws : List VolumeData). v ∷ ws) rest)
      | inr isnt ↦
          let past : low < v.0 = (let ne = eqb-false v.0 low isnt in omega (arith, ne, above.0)) in
          let none : h low ≡ None = same low (omega arith) ∙ none_with low (v ∷ vs) (past, all_weaker (λ w. v.0 < w.0) (λ w. low < w.0) (λ w more. omega arith) vs higher) in
          let later : AllByRecursion (λ w. low + 1 ≤ w.0) (v ∷ vs) = (omega arith, all_weaker (λ w. v.0 < w.0) (λ w. low + 1 ≤ w.0) (λ w more. omega arith) vs higher) in
          rw none (numbered count (low + 1) (v ∷ vs) h (λ n more. same n (omega arith)) rising later next)
    ]

pub by_number-rising : (vs : List VolumeData) → IsStrictlySortedBy nat_cmp (map number vs) → AllByRecursion IsVolume vs → by_number vs ≡ vs
by_number-rising vs rising each =
    numbered 32 0 vs (λ n. find (has_number n) vs) (λ n more. refl) rising (all_weaker IsVolume (λ v. 0 ≤ v.0) (λ v is. omega arith) vs each)
    (all_weaker IsVolume (λ v. v.0 < 0 + 32) (λ v is. omega (arith, is.0)) vs each)

-- rising numbers differ
pub distinct_rising : (ns : List ℕ) → IsStrictlySortedBy nat_cmp ns → IsDistinct ◌==◌ ns
unfolding IsStrictlySortedBy IsDistinct
distinct_rising [] rising = tt
distinct_rising (n ∷ ns) rising = (
  all_weaker (λ m. nat_cmp n m ≡ Less) (λ m. (n == m) ≡ false) (λ m less. ne_eqb n m (λ (e : n ≡ m). (let below = ranked n m Less (sym less) in omega arith))) ns rising.0,
  distinct_rising ns rising.1,
)

-- the volume of a number is the first with its serial
abbrev pub IsFound : List VolumeData → ℕ → VolumeData → Type 0
IsFound vs n v = (v.0 ≡ n) × (is_serial v.1 ≡ true) × (find (λ w. bytes_eq w.1 v.1) vs ≡ Some v)

pub is_found : (vs : List VolumeData) (n : ℕ) (v : VolumeData) → AllByRecursion IsVolume vs → IsDistinct bytes_eq (map (λ w. w.1) vs)
    → find (has_number n) vs ≡ Some v → IsFound vs n v
unfolding IsDistinct
is_found [] n v each differ e = absurd (cc)
is_found (w ∷ vs) n v each differ e = elim (cases_Bool (w.0 == n)) [
  | inl is ↦
      let same : w ≡ v = (let this : Some w ≡ Some v = rw is at e in cc) in
      subst (λ (u : VolumeData). (u.0 ≡ n) × (is_serial u.1 ≡ true) × (find (λ x. bytes_eq x.1 u.1) (w ∷ vs) ≡ Some u)) same
      (eqb-true w.0 n is, from_serial w.1 each.0.1, rw (bytes_eq-same w.1) refl)
  | inr isnt ↦
      let later : find (has_number n) vs ≡ Some v = rw isnt at e in
      let rest = is_found vs n v each.1 differ.1 later in
      let other : bytes_eq w.1 v.1 ≡ false = found_has (λ (s : List ℕ). bytes_eq w.1 s ≡ false) (λ (x : VolumeData). x.1) (has_number n) vs v differ.0 later in
      (rest.0, rest.1, rw other rest.2)
]

-- a mounted volume is read back from its serial
pub mount_back : (vs : List VolumeData) (n : ℕ) → AllByRecursion IsVolume vs → IsDistinct bytes_eq (map (λ w. w.1) vs) → IsSome (find (has_number n) vs)
    → (is_serial (serial_of vs n) ≡ true) × (option_map (λ v. v.0) (find (λ v. bytes_eq v.1 (serial_of vs n)) vs) ≡ Some n)
mount_back vs n each differ some = known (find (has_number n) vs) refl some where
  known : (o : Option VolumeData) → find (has_number n) vs ≡ o → IsSome o
      → (is_serial (serial_of vs n) ≡ true) × (option_map (λ v. v.0) (find (λ v. bytes_eq v.1 (serial_of vs n)) vs) ≡ Some n)
  known None e some_ = absurd (cc)
  known (Some v) e some_ =
      let found = is_found vs n v each differ e in
      let serial : serial_of vs n ≡ v.1 = rw e refl in
      rw serial (found.1, ap (option_map (λ (w : VolumeData). w.0)) found.2 ∙ ap (λ (m : ℕ). Some m) found.0)
