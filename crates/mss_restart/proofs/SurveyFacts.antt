-- The walks one after the other.
use Rattle.std.proofs.Common.{◌≡◌, ℕ, zero, suc, Bool, true, false, not, nat_lt, Option, Some, None, refl, sym, ◌∙◌, ap}
use Rattle.std.specs.Option.{option_map, option_and_then, ForSome}
use Rattle.mss_base.specs.Content.{Content}
use Rattle.shown_volumes.specs.declared.refused.Refused.{Refused}
use Rattle.shown_volumes.specs.declared.refused.Refused.TheVariants.{RowDamaged, RowUnread, SerialDiffers, CartridgeTwice, FrameGone, FrameTwice, TornTrack, StagedDiffers, Stopped, Memory}
use Rattle.shown_volumes.specs.Shown.{RowsOf}
use Rattle.shown_volumes.specs.Sound.{cartridge_of, frame_in}
use Rattle.mss_base.specs.Firsts.{◌or◌, first_below, where_so}
use Rattle.shown_volumes.specs.Faults.{half, earlier_half, half_fault, halves_fault, earlier_page, frame_fault, page_fault, pages_fault, tracks_fault}
use Rattle.mss_base.proofs.FirstFacts.{or_first, or_second}
use Rattle.std.specs.Prelude.{Result, Ok, Err, IfErr}
use Rattle.mss_restart.specs.Survey.{is_of_content, CountsCause, IsNoFailure, FindsFault, StandApart, StopsBehind}
use Rattle.mss_restart.specs.Walks.{rest_fault}

-- faults of the content alone
abbrev pub OfContent : Option Refused → Type 0
OfContent o = ForSome o (λ e. is_of_content e ≡ true)

pub content_counts : (before : ℕ) (e : Refused) → is_of_content e ≡ true → CountsCause before before e × IsNoFailure e
content_counts before (RowUnread v f) is = absurd cc
content_counts before (Stopped f) is = absurd cc
content_counts before Memory is = absurd cc
content_counts before (RowDamaged v copy fault) is = (refl, tt)
content_counts before (SerialDiffers v kept asked) is = (refl, tt)
content_counts before (CartridgeTwice n first second) is = (refl, tt)
content_counts before (FrameGone f) is = (refl, tt)
content_counts before (FrameTwice f first second) is = (refl, tt)
content_counts before (TornTrack v y h) is = (refl, tt)
content_counts before (StagedDiffers v y h) is = (refl, tt)

either : (a b : Option Refused) → OfContent a → OfContent b → OfContent (a or b)
either None b first second = second
either (Some x) b first second = first

below : (n : ℕ) (f : ℕ → Option Refused) → ((i : ℕ) → OfContent (f i)) → OfContent (first_below n f)
unfolding first_below
below zero f each = λ e is. absurd cc
below (suc n) f each = either (first_below n f) (f n) (below n f each) (each n)

one : (e : Refused) → is_of_content e ≡ true → OfContent (Some e)
one e good x is = let same : e ≡ x = cc in ap is_of_content (sym same) ∙ good

none : OfContent None
none e is = absurd cc

where_one : (b : Bool) (e : Refused) → is_of_content e ≡ true → OfContent (where_so b e)
where_one true e good = one e good
where_one false e good = none

mapped : {A : Type 0} (f : A → Refused) → ((x : A) → is_of_content (f x) ≡ true) → (o : Option A) → OfContent (option_map f o)
mapped f good None = none
mapped f good (Some x) = one (f x) (good x)

chained : {A : Type 0} (f : A → Option Refused) → ((x : A) → OfContent (f x)) → (o : Option A) → OfContent (option_and_then f o)
chained f good None = none
chained f good (Some x) = good x

pub halves_content : (rows : RowsOf) → OfContent (first_below 32 (halves_fault rows))
halves_content rows = below 32 (halves_fault rows) (λ v. either (half_fault rows v false) (half_fault rows v true) (at v false) (at v true))
  where
    at : (v : ℕ) (s : Bool) → OfContent (half_fault rows v s)
    at v s =
        chained (λ cartridge. option_map (λ first. CartridgeTwice cartridge first (half v s)) (earlier_half rows cartridge v s))
        (λ cartridge. mapped (λ first. CartridgeTwice cartridge first (half v s)) (λ _. refl) (earlier_half rows cartridge v s)) (cartridge_of rows v s)

pub pages_content : (frames : ℕ) (rows : RowsOf) → OfContent (first_below 32 (pages_fault frames rows))
pages_content frames rows =
    below 32 (pages_fault frames rows) (λ v. below 51 (page_fault frames rows v) (λ p. chained (frame_fault frames rows v p)
    (λ f. either (where_so (not (nat_lt f frames)) (FrameGone f)) (option_map (λ first. FrameTwice f first (v, p)) (earlier_page rows f v p)) (where_one (not (nat_lt f frames)) (FrameGone f) refl)
    (mapped (λ first. FrameTwice f first (v, p)) (λ _. refl) (earlier_page rows f v p))) (frame_in rows v p)))

-- the walks over halves and pages found nothing
pub rest_is : (frames : ℕ) (rows : RowsOf) (c : Content) → first_below 32 (halves_fault rows) ≡ None → first_below 32 (pages_fault frames rows) ≡ None → rest_fault frames rows c ≡ first_below 32 (tracks_fault rows c)
rest_is frames rows c halves pages =
    ap (λ o. o or first_below 32 (pages_fault frames rows) or first_below 32 (tracks_fault rows c)) halves ∙ ap (λ o. o or first_below 32 (tracks_fault rows c)) pages

-- neither does a fault of the content, nor one behind walks that found nothing
pub content_behind : (frames : ℕ) (rows : RowsOf) (e : Refused) → is_of_content e ≡ true → StopsBehind frames rows e
content_behind frames rows (Stopped f) is = absurd cc
content_behind frames rows _ is = tt

pub any_behind : {T : Type 0} (frames : ℕ) (rows : RowsOf) (r : Result T Refused) → StandApart frames rows → IfErr r (StopsBehind frames rows)
any_behind frames rows (Ok value) apart = tt
any_behind frames rows (Err e) apart = by e
  where
    by : (e : Refused) → StopsBehind frames rows e
    by (Stopped f) = apart
    by _ = tt

pub found_content : (e : Refused) (o : Option Refused) → is_of_content e ≡ true → o ≡ Some e → FindsFault e o
found_content (RowUnread v f) o good is = absurd cc
found_content e o good is = λ _. is

pub halves_rest : (frames : ℕ) (rows : RowsOf) (c : Content) (e : Refused) → first_below 32 (halves_fault rows) ≡ Some e → rest_fault frames rows c ≡ Some e
halves_rest frames rows c e is = or_first (first_below 32 (halves_fault rows)) _ e is

pub pages_rest : (frames : ℕ) (rows : RowsOf) (c : Content) (e : Refused) → first_below 32 (halves_fault rows) ≡ None → first_below 32 (pages_fault frames rows) ≡ Some e → rest_fault frames rows c ≡ Some e
pages_rest frames rows c e none is =
    or_second (first_below 32 (halves_fault rows)) (first_below 32 (pages_fault frames rows) or first_below 32 (tracks_fault rows c)) e none (or_first (first_below 32 (pages_fault frames rows)) _ e is)
