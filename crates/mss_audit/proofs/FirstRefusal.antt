-- The first refusal of a list of findings.
use Rattle.std.proofs.Common.{◌≡◌, ℕ, zero, suc, Bool, true, false, List, [], ◌∷◌, ◌++◌, Option, Some, None, Ok, Err, refl, sym, ◌∙◌, ap}
use Rattle.mss_base.specs.Content.{Content}
use Rattle.mss_base.specs.Firsts.{◌or◌, first_below, where_so}
use Rattle.mss_base.specs.declared.numbers.TheConstants.{CYLINDERS, HEADS}
use Rattle.mss_base.specs.declared.place.UnitNo.TheVariants.{TableA, TableB}
use Rattle.volume_table.specs.declared.layout.TheConstants.{BODY_BYTES}
use Rattle.volume_table.specs.Grammar.{spelling}
use Rattle.table_pair.specs.Copies.{copy_at}
use Rattle.table_pair.specs.Pair.{CopyRead, unread, closed, opened, read_of, row_of, reading}
use Rattle.shown_volumes.specs.Shown.{RowsOf, rows_of}
use Rattle.shown_volumes.specs.Faults.{read_fault, row_fault, half_fault, halves_fault, page_fault, pages_fault, track_fault, cylinder_fault, tracks_fault, first_fault_of, first_fault}
use Rattle.shown_volumes.specs.declared.refused.Refused.{Refused}
use Rattle.mss_audit.specs.declared.finding.Finding.{Finding}
use Rattle.mss_audit.specs.declared.finding.Finding.TheVariants.{CopyDiffers}
use Rattle.mss_audit.specs.Listing.{one, joined_below}
use Rattle.mss_audit.specs.Findings.{refusal, refusal_in, first_refusal, difference, copies_finding, row_findings, half_findings, page_findings, cylinder_findings, track_findings, rest_findings, findings}

or_assoc : {A : Type 0} (a b c : Option A) → ((a or b) or c) ≡ (a or (b or c))
or_assoc None b c = refl
or_assoc (Some x) b c = refl

first_of_both : (xs ys : List Finding) → first_refusal (xs ++ ys) ≡ (first_refusal xs or first_refusal ys)
first_of_both [] ys = refl
first_of_both (x ∷ xs) ys = ap (λ o. refusal_in x or o) (first_of_both xs ys) ∙ sym (or_assoc (refusal_in x) (first_refusal xs) (first_refusal ys))

first_of_refusal : (o : Option Refused) → first_refusal (one (refusal o)) ≡ o
first_of_refusal None = refl
first_of_refusal (Some refused) = refl

first_of_joined : (n : ℕ) (g : ℕ → List Finding) (f : ℕ → Option Refused) → ((i : ℕ) → first_refusal (g i) ≡ f i) → first_refusal (joined_below n g) ≡ first_below n f
unfolding joined_below first_below
first_of_joined zero g f each = refl
first_of_joined (suc n) g f each = first_of_both (joined_below n g) (g n) ∙ (λ i. first_of_joined n g f each i or each n i)

-- ---- what the copies of a row say is no refusal

either_none : (a b : Option Finding) → first_refusal (one a) ≡ None → first_refusal (one b) ≡ None → first_refusal (one (a or b)) ≡ None
either_none None b first second = second
either_none (Some x) b first second = first

below_none : (n : ℕ) (f : ℕ → Option Finding) → ((i : ℕ) → first_refusal (one (f i)) ≡ None) → first_refusal (one (first_below n f)) ≡ None
unfolding first_below
below_none zero f each = refl
below_none (suc n) f each = either_none (first_below n f) (f n) (below_none n f each) (each n)

differs_none : (so : Bool) (volume place a b : ℕ) → first_refusal (one (where_so so (CopyDiffers volume place a b))) ≡ None
differs_none true volume place a b = refl
differs_none false volume place a b = refl

a_none : (volume : ℕ) (a b : CopyRead) → first_refusal (one (copies_finding volume a b)) ≡ None
a_none volume (opened (Ok row)) unread = refl
a_none volume (opened (Ok row)) (closed made) = refl
a_none volume (opened (Ok row)) (opened (Err fault)) = refl
a_none volume (opened (Ok row)) (opened (Ok other)) = below_none BODY_BYTES (difference volume (spelling row) (spelling other)) (λ i. differs_none _ volume _ _ _)
a_none volume (opened (Err fault)) b = refl
a_none volume (closed made) unread = refl
a_none volume (closed made) (closed other) = refl
a_none volume (closed made) (opened (Ok row)) = refl
a_none volume (closed made) (opened (Err fault)) = refl
a_none volume unread b = refl

-- ---- the four walks

module _ (asked : ℕ → Option (List ℕ)) (c : Content) where
  row_first : (volume : ℕ) → first_refusal (row_findings asked c volume) ≡ row_fault asked (row_of c) volume
  row_first volume =
      let a = read_of (copy_at (c TableA volume)) in
      let b = read_of (copy_at (c TableB volume)) in
      let fault = read_fault volume (asked volume) (reading a b) in
      first_of_both (one (copies_finding volume a b)) (one (refusal fault)) ∙ (λ i. a_none volume a b i or first_of_refusal fault i)

half_first : (rows : RowsOf) (volume : ℕ) → first_refusal (half_findings rows volume) ≡ halves_fault rows volume
half_first rows volume =
    let first = half_fault rows volume false in
    let second = half_fault rows volume true in
    first_of_both (one (refusal first)) (one (refusal second)) ∙ (λ i. first_of_refusal first i or first_of_refusal second i)

page_first : (frames : ℕ) (rows : RowsOf) (volume : ℕ) → first_refusal (page_findings frames rows volume) ≡ pages_fault frames rows volume
page_first frames rows volume = first_of_joined 51 _ (page_fault frames rows volume) (λ page. first_of_refusal (page_fault frames rows volume page))

cylinder_first : (rows : RowsOf) (c : Content) (volume cylinder : ℕ) → first_refusal (cylinder_findings rows c volume cylinder) ≡ cylinder_fault rows c volume cylinder
cylinder_first rows c volume cylinder = first_of_joined HEADS _ (track_fault rows c volume cylinder) (λ head. first_of_refusal (track_fault rows c volume cylinder head))

track_first : (rows : RowsOf) (c : Content) (volume : ℕ) → first_refusal (track_findings rows c volume) ≡ tracks_fault rows c volume
track_first rows c volume = first_of_joined CYLINDERS (cylinder_findings rows c volume) (cylinder_fault rows c volume) (cylinder_first rows c volume)

rest_first : (frames : ℕ) (rows : RowsOf) (c : Content) → first_refusal (rest_findings frames rows c) ≡ (first_below 32 (halves_fault rows) or first_below 32 (pages_fault frames rows) or first_below 32 (tracks_fault rows c))
rest_first frames rows c =
    let halves = joined_below 32 (half_findings rows) in
    let pages = joined_below 32 (page_findings frames rows) in
    let tracks = joined_below 32 (track_findings rows c) in
    first_of_both (halves ++ pages) tracks
    ∙ ap (λ o. o or first_refusal tracks) (first_of_both halves pages)
    ∙ or_assoc (first_refusal halves) (first_refusal pages) (first_refusal tracks)
    ∙ (λ i. first_of_joined 32 (half_findings rows) (halves_fault rows) (half_first rows) i
    or (first_of_joined 32 (page_findings frames rows) (pages_fault frames rows) (page_first frames rows) i
    or first_of_joined 32 (track_findings rows c) (tracks_fault rows c) (track_first rows c) i))

pub first_is_first : (frames : ℕ) (asked : ℕ → Option (List ℕ)) (c : Content) → first_refusal (findings frames asked c) ≡ first_fault frames asked c
unfolding findings first_fault_of
first_is_first frames asked c =
    first_of_both (joined_below 32 (row_findings asked c)) (rest_findings frames (rows_of c) c)
    ∙ (λ i. first_of_joined 32 (row_findings asked c) (row_fault asked (row_of c)) (row_first asked c) i or rest_first frames (rows_of c) c i)
