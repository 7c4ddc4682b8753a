-- The writes behind a closed gate, and their sync: the track ends there whatever they leave.
use Rattle.std.proofs.Common.{◌≡◌, ◌⊎◌, inl, inr, ℕ, ◌+◌, ◌≤◌, ◌<◌, Bool, true, false, ◌==◌, nat_lt, List, [], ◌∷◌, ◌++◌, length, get_or, Result, OnOk, refl, sym, ◌∙◌, ap, subst, arith}
use Rattle.std.proofs.lemmas.Bool.{lt-ltb, le-ltb, and_from, and_left, and_right, or_from, or_left, or_right, not_from_true, not_from_false}
use Rattle.std.proofs.lemmas.List.{append-nil}
use Rattle.std.proofs.lemmas.Result.{on_ok_weaker}
use Rattle.mss_base.specs.declared.place.BlockPlace.{BlockPlace}
use Rattle.mss_base.specs.Blocks.{WritesBlock, block_of}
use Rattle.mss_base.specs.Content.{Content, Item, wrote, synced, unsynced, SiteLog, content, Got, Settles, ChangesBlock, AreWithin, write_at}
use Rattle.mss_base.proofs.Moments.{content_grown, ended_with}
use Rattle.mss_base.proofs.BlindMoments.{block_blind}
use Rattle.mss_base.proofs.Settling.{got_then}
use Rattle.ckd_track.specs.Track.{place_after}
use Rattle.ckd_track.specs.Formatting.{EndsAfter, Holds, LaterGates, StandsShut, WritesBehind, is_behind}
use Rattle.ckd_track.proofs.FrontLemmas.{place_after-ge}
use Rattle.ckd_track.proofs.LogLemmas.{settles_within}
use Rattle.ckd_track.proofs.StepLemmas.{later_stays, holds_after}

within-append : (at : BlockPlace) (places : ℕ → Bool) (xs ys : List Item) → AreWithin at.unit at.block places xs → AreWithin at.unit at.block places ys → AreWithin at.unit at.block places (xs ++ ys)
within-append at places [] ys first second = second
within-append at places (x ∷ xs) ys first second = (first.0, within-append at places xs ys first.1 second)

module _ (n : ℕ) (a : List ℕ) where
  -- which places are behind the gate
  gates_behind : (i : ℕ) → 129 + n < i → i < 256 → is_behind n a i ≡ true
  gates_behind i from to = and_from (nat_lt (129 + n) i) _ (lt-ltb (129 + n) i from) (or_left (nat_lt i 256) _ (lt-ltb i 256 to))

  places_behind : (i : ℕ) → 129 + n < i → place_after n 256 a ≤ i → is_behind n a i ≡ true
  places_behind i low from = and_from (nat_lt (129 + n) i) _ (lt-ltb (129 + n) i low) (or_right (nat_lt i 256) _ (not_from_false (nat_lt i (place_after n 256 a)) (le-ltb i (place_after n 256 a) from)))

  ahead_of_gate : (i : ℕ) → i ≤ 129 + n → is_behind n a i ≡ false
  ahead_of_gate i to = and_left (nat_lt (129 + n) i) _ (le-ltb (129 + n) i to)

  ahead_of_place : (i : ℕ) → 256 ≤ i → i < place_after n 256 a → is_behind n a i ≡ false
  ahead_of_place i from to = and_right (nat_lt (129 + n) i) _ (or_from (nat_lt i 256) _ (le-ltb i 256 from) (not_from_true (nat_lt i (place_after n 256 a)) (lt-ltb i (place_after n 256 a) to)))

  -- a block that differs there alone
  ends_blind : n ≤ 96 → (b c : List ℕ) → length c ≡ length b → ((i : ℕ) → is_behind n a i ≡ false → get_or c i 0 ≡ get_or b i 0) → EndsAfter n a b → EndsAfter n a c
  ends_blind few b c long same ends = record {
    front = record {
      long = long ∙ ends.front.long;
      gates = λ i from to. same i (ahead_of_gate i (omega arith)) ∙ ends.front.gates i from to;
      places = λ i from to. same i (ahead_of_place i from to) ∙ ends.front.places i from to;
    };
    closed = ap (λ (x : ℕ). x == 193) (same (128 + (n + 1)) (ahead_of_gate (128 + (n + 1)) (omega arith))) ∙ ends.closed;
  }

  module _ (at : BlockPlace) where
    -- no write, one write, or writes one after another
    pub behind_none : (s : SiteLog) → WritesBehind n a at s s
    behind_none s = record { items = []; grown = λ i. record { start = s.start; log = sym (append-nil s.log) i }; within = tt }

    pub gates_written : (s t : SiteLog) (offset : ℕ) (bytes : List ℕ) → 130 + n ≤ offset → offset + length bytes ≤ 256 → Got (wrote (write_at at offset bytes) ∷ []) s t → WritesBehind n a at s t
    gates_written s t offset bytes from to got = record {
      items = wrote (write_at at offset bytes) ∷ [];
      grown = got;
      within = ((refl, refl, λ i low high. gates_behind i (omega (arith, low)) (omega (arith, high))), tt);
    }

    pub record_written : (s t : SiteLog) (place : ℕ) (bytes : List ℕ) → n ≤ 96 → place ≡ place_after n 256 a → Got (wrote (write_at at place bytes) ∷ []) s t → WritesBehind n a at s t
    record_written s t place bytes few is got = record {
      items = wrote (write_at at place bytes) ∷ [];
      grown = got;
      within = ((refl, refl, λ i low high. places_behind i (let high_place = place_after-ge n 256 a in omega (arith, low, is, high_place)) (omega (arith, low, is))), tt);
    }

    pub behind_then : (s t u : SiteLog) → WritesBehind n a at s t → WritesBehind n a at t u → WritesBehind n a at s u
    behind_then s t u first second = record {
      items = first.items ++ second.items;
      grown = got_then first.items second.items s t u first.grown second.grown;
      within = within-append at (is_behind n a) first.items second.items first.within second.within;
    }

    -- a sync, done or failed
    behind_synced : (s t : SiteLog) → Got (synced at.unit ∷ []) s t ⊎ Got (unsynced ∷ []) s t → WritesBehind n a at s t
    behind_synced s t (inl done) = record { items = synced at.unit ∷ []; grown = done; within = (tt, tt) }
    behind_synced s t (inr failed) = record { items = unsynced ∷ []; grown = failed; within = (tt, tt) }

    -- at each moment the track ends there
    pub behind_moments : n ≤ 96 → (s t : SiteLog) → EndsAfter n a (block_of s at) → WritesBehind n a at s t → WritesBlock at (EndsAfter n a) s t
    behind_moments few s t ends run =
        block_blind at.unit at.block (EndsAfter n a) (is_behind n a) run.items s t run.grown run.within (λ b long same. ends_blind few (block_of s at) b long same ends)

    pub synced_moments : n ≤ 96 → (s t u : SiteLog) → EndsAfter n a (block_of s at) → WritesBehind n a at s t → Got (synced at.unit ∷ []) t u ⊎ Got (unsynced ∷ []) t u → WritesBlock at (EndsAfter n a) s u
    synced_moments few s t u ends run sync = behind_moments few s u ends (behind_then s t u run (behind_synced t u sync))

    behind_ends : n ≤ 96 → (s t : SiteLog) → EndsAfter n a (block_of s at) → WritesBehind n a at s t → EndsAfter n a (block_of t at)
    behind_ends few s t ends run = (ended_with (ChangesBlock at.unit at.block (EndsAfter n a) (content s)) s t (behind_moments few s t ends run)).here

    -- behind a sync nothing of the run is loose
    pub behind_firm : {T E : Type 0} (r : Result T E) (s t u : SiteLog) → WritesBehind n a at s t → OnOk r (Got (synced at.unit ∷ []) t u) → OnOk r (Settles s u)
    behind_firm r s t u run sync = on_ok_weaker r (λ got. settles_within at.unit at.block (is_behind n a) run.items s u run.within (got_then run.items (synced at.unit ∷ []) s t u run.grown got)) sync

    -- the record, written behind closed gates, stands there
    pub stands_behind : n ≤ 96 → length a ≡ 16384 → (place : ℕ) (bytes : List ℕ) → place ≡ place_after n 256 a → place + length bytes ≤ 16384 → (s t u : SiteLog) → EndsAfter n a (block_of s at)
        → WritesBehind n a at s t → LaterGates (n + 1) a (block_of t at) → Got (wrote (write_at at place bytes) ∷ []) t u → StandsShut n bytes a (block_of u at)
    stands_behind few long place bytes is inside s t u ends run later put =
        let high = place_after-ge n 256 a in
        let mid : EndsAfter n a (block_of t at) = behind_ends few s t ends run in
        record {
          ends = behind_ends few t u mid (record_written t u place bytes few is put);
          later = later_stays at.unit at.block t u n a place bytes (inr (omega (arith, is, high))) later (inl put);
          holds = subst (λ (p : ℕ). Holds p bytes (block_of u at)) is (holds_after at.unit at.block t u place bytes (omega (arith, inside, long, mid.front.long)) (inl put));
        }

    -- a sync changes nothing that is read
    pub stands_synced : {T E : Type 0} (r : Result T E) (bytes : List ℕ) (s t : SiteLog) → StandsShut n bytes a (block_of s at) → OnOk r (Got (synced at.unit ∷ []) s t) → OnOk r (StandsShut n bytes a (block_of t at))
    stands_synced r bytes s t stands sync =
        on_ok_weaker r (λ got. subst (StandsShut n bytes a) (sym (ap (λ (c : Content). c at.unit at.block) (content_grown s t _ got))) stands) sync
