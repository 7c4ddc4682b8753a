-- One more item joins a log.
use Rattle.std.proofs.Common.{◌≡◌, ℕ, suc, ◌+◌, ◌≤◌, List, [], ◌∷◌, ◌++◌, length, take, drop, Bool, ◌||◌, refl, sym, ◌∙◌, ap, arith, length-drop}
use Rattle.std.proofs.lemmas.List.{take_all, length-take-le, take-append-le, drop-append-le, nil_from_length}
use Rattle.mss_base.specs.Content.{Content, Item, with_item, after}
use Rattle.mss_base.proofs.ContentLemmas.{after-append}
use Rattle.std.specs.Prelude.{zero, slice_get, None, MatchOption}
use Rattle.std.specs.List.{AllByRecursion}
use Rattle.memory_devices.specs.Logged.{IsInside, IsLogged, span, item_of, items_of, sync_as, sync_of, syncs_unit, has_sync, total_length}
use Rattle.memory_devices.specs.Tears.{syncs, is_synced}
use Rattle.memory_devices.specs.Redone.{redone, redone_from, redone_item}
use Rattle.memory_devices.specs.declared.tearing.Loose.{Loose}
use Rattle.memory_devices.specs.declared.write_log.SyncKind.{SyncKind}
use Rattle.memory_devices.specs.declared.write_log.SyncKind.TheVariants.{OfUnit, OfAll, Failed}
use Rattle.mss_base.specs.declared.place.UnitNo.{UnitNo}
use Rattle.memory_devices.specs.declared.write_log.LoggedItem.{LoggedItem}
use Rattle.memory_devices.specs.declared.write_log.LoggedItem.TheVariants.{Wrote, Synced, SyncedAll, Unsynced}

pub length-items_of : (es : List LoggedItem) (bytes : List ℕ) → length (items_of es bytes) ≡ length es
length-items_of [] bytes = refl
length-items_of (e ∷ es) bytes = ap suc (length-items_of es (drop (span e) bytes))

pub total_length-push : (es : List LoggedItem) (e : LoggedItem) → total_length (es ++ e ∷ []) ≡ total_length es + span e
total_length-push [] e = omega arith
total_length-push (x ∷ es) e = omega (arith, total_length-push es e)

pub items_of-push : (es : List LoggedItem) (bytes : List ℕ) (e : LoggedItem) (new : List ℕ) → total_length es ≡ length bytes → length new ≡ span e
    → items_of (es ++ e ∷ []) (bytes ++ new) ≡ items_of es bytes ++ item_of e new ∷ []
items_of-push [] bytes e new whole long =
    let none : bytes ≡ [] = nil_from_length bytes (sym whole) in
    let all : take (span e) (bytes ++ new) ≡ new = ap (λ (l : List ℕ). take (span e) (l ++ new)) none ∙ take_all (span e) new (omega (arith, long)) in
    ap (λ (l : List ℕ). item_of e l ∷ []) all
items_of-push (x ∷ es) bytes e new whole long =
    let inside : span x ≤ length bytes = omega arith in
    let front : take (span x) (bytes ++ new) ≡ take (span x) bytes = take-append-le (span x) bytes new inside in
    let back : drop (span x) (bytes ++ new) ≡ drop (span x) bytes ++ new = drop-append-le (span x) bytes new inside in
    let rest = items_of-push es (drop (span x) bytes) e new (omega (arith, length-drop (span x) bytes)) long in
    (λ i. item_of x (front i) ∷ items_of (es ++ e ∷ []) (back i)) ∙ ap (λ (l : List Item). item_of x (take (span x) bytes) ∷ l) rest

pub total_length-take : (n : ℕ) (es : List LoggedItem) → total_length (take n es) ≤ total_length es
total_length-take zero es = omega arith
total_length-take (suc n) [] = omega arith
total_length-take (suc n) (e ∷ es) = omega (arith, total_length-take n es)

pub items_of-take : (n : ℕ) (es : List LoggedItem) (bytes : List ℕ) → items_of (take n es) bytes ≡ take n (items_of es bytes)
items_of-take zero es bytes = refl
items_of-take (suc n) [] bytes = refl
items_of-take (suc n) (e ∷ es) bytes = ap (λ (xs : List Item). item_of e (take (span e) bytes) ∷ xs) (items_of-take n es (drop (span e) bytes))

-- a logged item by its number
abbrev IsKept : List Item → ℕ → LoggedItem → Type 0
IsKept xs n e = IsInside e × IsLogged e (slice_get xs n)

pub items_of-get : (n : ℕ) (es : List LoggedItem) (bytes : List ℕ) → total_length es ≤ length bytes → AllByRecursion IsInside es
    → MatchOption (slice_get es n) (slice_get (items_of es bytes) n ≡ None) (IsKept (items_of es bytes) n)
items_of-get n [] bytes whole each = refl
items_of-get zero (e ∷ es) bytes whole each = (each.0, (take (span e) bytes, length-take-le (span e) bytes (omega arith), refl))
items_of-get (suc n) (e ∷ es) bytes whole each = items_of-get n es (drop (span e) bytes) (omega (arith, length-drop (span e) bytes)) each.1

-- an item that changes nothing that is read
pub kept_after : (start : Content) (items more : List Item) (x : Item) → ((c : Content) → with_item c x ≡ c) → more ≡ items ++ x ∷ [] → after start items ≡ after start more
kept_after start items more x same grown = sym (same (after start items)) ∙ sym (after-append start items (x ∷ [])) ∙ ap (λ (xs : List Item). after start xs) (sym grown)

-- a sync has no bytes
pub span_of_sync : (how : SyncKind) (unit : UnitNo) → span (sync_as how unit) ≡ 0
span_of_sync OfUnit unit = refl
span_of_sync OfAll unit = refl
span_of_sync Failed unit = refl

pub inside_of_sync : (how : SyncKind) (unit : UnitNo) → IsInside (sync_as how unit)
inside_of_sync OfUnit unit = tt
inside_of_sync OfAll unit = tt
inside_of_sync Failed unit = tt

pub item_of_sync : (how : SyncKind) (unit : UnitNo) → item_of (sync_as how unit) [] ≡ sync_of how unit
item_of_sync OfUnit unit = refl
item_of_sync OfAll unit = refl
item_of_sync Failed unit = refl

-- which units are synced behind items doesn't depend on their bytes
syncs_same : (unit : UnitNo) (e : LoggedItem) (bytes : List ℕ) → syncs unit (item_of e bytes) ≡ syncs_unit unit e
syncs_same unit (Wrote place offset length) bytes = refl
syncs_same unit (Synced u) bytes = refl
syncs_same unit SyncedAll bytes = refl
syncs_same unit Unsynced bytes = refl

pub synced_same : (unit : UnitNo) (es : List LoggedItem) (bytes : List ℕ) → is_synced unit (items_of es bytes) ≡ has_sync unit es
synced_same unit [] bytes = refl
synced_same unit (e ∷ es) bytes = λ i. syncs_same unit e (take (span e) bytes) i || synced_same unit es (drop (span e) bytes) i

pub redone_items : (how : Loose) (c : Content) (es : List LoggedItem) (bytes : List ℕ) → redone_from how c es bytes ≡ redone how c (items_of es bytes)
redone_items how c [] bytes = refl
redone_items how c (e ∷ es) bytes =
    let rest = drop (span e) bytes in
    let x = item_of e (take (span e) bytes) in
    ap (λ (f : UnitNo → Bool). redone_from how (redone_item how f c x) es rest) (λ i unit. sym (synced_same unit es rest) i)
    ∙ redone_items how (redone_item how (λ unit. is_synced unit (items_of es rest)) c x) es rest
