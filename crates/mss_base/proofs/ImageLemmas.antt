-- Images of a log that goes on behind another one, and of one whose items were all made. Layers above cite these lemmas.
use Rattle.std.proofs.Common.{◌≡◌, ℕ, zero, suc, ◌+◌, ◌<◌, List, [], ◌∷◌, ◌++◌, length, take, slice_get, None, refl, ap, arith}
use Rattle.std.proofs.lemmas.List.{take-append-le, take_all}
use Rattle.std.proofs.lemmas.Option.{slice_get_past}
use Rattle.mss_base.specs.Content.{Content, Item, with_item, after, Places, nowhere, loose_with, loose_after, loose_places, SiteLog, content, Tear, with_tear, open_with, image}
use Rattle.mss_base.proofs.ContentLemmas.{image_front}

-- an image over a content with some loose places
abbrev pub image_from : Content → Places → List Item → ℕ → Tear → Content
image_from c p items k tear = with_tear (after c (take k items)) (open_with (loose_after p (take k items)) (slice_get items k)) tear

-- where the first items were made it is one of the others
pub from_append : (c : Content) (p : Places) (a b : List Item) (j k : ℕ) (tear : Tear) → k ≡ length a + j → image_from c p (a ++ b) k tear ≡ image_from (after c a) (loose_after p a) b j tear
from_append c p [] b j k tear e = let f : k ≡ j = omega (arith, e) in ap (λ (n : ℕ). image_from c p b n tear) f
from_append c p (x ∷ a) b j zero tear e = absurd (omega (arith, e))
from_append c p (x ∷ a) b j (suc k) tear e = from_append (with_item c x) (loose_with p x) a b j k tear (omega (arith, e))

-- while the first items are made, the others count for nothing
pub front_append : (start : Content) (a b : List Item) (k : ℕ) → k < length a → (tear : Tear) → image (record { start = start; log = a ++ b }) k tear ≡ image (record { start = start; log = a }) k tear
front_append start a b k lt tear = image_front (record { start = start; log = a ++ b }) (record { start = start; log = a }) k tear refl (take-append-le (suc k) a b (omega arith))

-- where all items were made a stop opens what is loose
pub rest_image : (s : SiteLog) (k : ℕ) (tear : Tear) → k ≡ length s.log → image s k tear ≡ with_tear (content s) (loose_places s) tear
rest_image s k tear e =
    let whole : take k s.log ≡ s.log = take_all k s.log (omega (arith, e)) in
    let past : slice_get s.log k ≡ None = slice_get_past s.log k (omega (arith, e)) in
    λ i. with_tear (after s.start (whole i)) (open_with (loose_after nowhere (whole i)) (past i)) tear
