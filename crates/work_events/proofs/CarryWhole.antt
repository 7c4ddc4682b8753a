-- A core is kept where a cartridge is carried: it is brought to a place where no other one is.
use Rattle.std.proofs.Common.{◌≡◌, inl, inr, ℕ, ◌<◌, List, [], ◌∷◌, ◌++◌, length, Option, Some, None, sym, ◌∙◌, ap, arith}
use Rattle.std.specs.Prelude.{slice_set}
use Rattle.std.proofs.lemmas.List.{length-set}
use Rattle.mss_base.specs.Content.{SiteLog}
use Rattle.accessors.specs.Rails.{RailData}
use Rattle.cartridge_store.specs.declared.store.Place.{Place}
use Rattle.cartridge_store.specs.declared.store.Place.TheVariants.{Cell, Recorder}
use Rattle.cartridge_store.specs.Places.{home_of, with_place, IsFreeFor}
use Rattle.core_state.specs.declared.session.Event.TheVariants.{Work}
use Rattle.core_state.specs.Beside.{IsBeside, held_at}
use Rattle.core_state.specs.CoreValue.{CoreValue}
use Rattle.core_state.specs.TheCore.{IsKept}
use Rattle.core_state.proofs.BesideFacts.{beside_given_back, beside_fetched}
use Rattle.core_state.proofs.RuleWalks.{none_some}
use Rattle.work_events.proofs.KeptFacts.{kept_beside}
use Rattle.work_events.proofs.RuleFacts.{HoldsCartridge, MayFetch}

no_cell : (i n : ℕ) → Recorder i ≡ Cell n → ⊥
no_cell i n is = cc

module _ (frames count : ℕ) (recency : List ℕ) (recorders : List (Option ℕ)) (store : List Place) (is : IsBeside frames count recency recorders store) (cartridge : ℕ) where
  -- a cell has no other cartridge than its own
  pub cell_is_free : IsFreeFor store cartridge (home_of cartridge)
  cell_is_free other low at = elim (is.lies other) [
    | inl home ↦ let same : Cell other ≡ Cell cartridge = sym home ∙ at in cc
    | inr there ↦ absurd (no_cell there.0 cartridge (sym there.1 ∙ at))
  ]

  -- nor has a recorder that holds none
  pub recorder_is_free : (recorder : ℕ) → held_at recorders recorder ≡ None → IsFreeFor store cartridge (Recorder recorder)
  recorder_is_free recorder bare other low at = elim (is.lies other) [
    | inl home ↦ absurd (no_cell recorder other (sym at ∙ home))
    | inr there ↦
        let places : Recorder there.0 ≡ Recorder recorder = sym there.1 ∙ at in
        let same : there.0 ≡ recorder = cc in
        absurd (none_some other (sym bare ∙ ap (held_at recorders) (sym same) ∙ there.2))
  ]

module _ {S C : Type 0} (tells : Type 0) (site : SiteLog) (writes faults : ℕ) (v : CoreValue S C) (kept : IsKept tells site writes faults v) (recorder cartridge : ℕ) (known : cartridge < length v.store) (fits : recorder < v.config.recorders) (rail : RailData) where
  within : recorder < length v.recorders
  within = let long = kept.whole.shaped.recorders_ in omega (arith, long, fits)

  pub kept_given_back : HoldsCartridge v recorder cartridge
      → IsKept tells site writes faults (record v {
        recorders = slice_set v.recorders recorder None;
        store = with_place cartridge (home_of cartridge) v.store;
        rail = rail;
        events = v.events ++ Work recorder ∷ [];
      })
  kept_given_back holds =
      kept_beside tells site writes faults v v.recency (slice_set v.recorders recorder None) (with_place cartridge (home_of cartridge) v.store) rail (v.events ++ Work recorder ∷ []) kept
      (length-set v.recorders recorder None ∙ kept.whole.shaped.recorders_)
      (λ none. beside_given_back v.config.frames v.config.recorders v.recency v.recorders v.store (kept.whole.kept none).beside recorder cartridge known within holds.held)

  pub kept_fetched : MayFetch v recorder cartridge
      → IsKept tells site writes faults (record v {
        recorders = slice_set v.recorders recorder (Some cartridge);
        store = with_place cartridge (Recorder recorder) v.store;
        rail = rail;
        events = v.events ++ Work recorder ∷ [];
      })
  kept_fetched may =
      kept_beside tells site writes faults v v.recency (slice_set v.recorders recorder (Some cartridge)) (with_place cartridge (Recorder recorder) v.store) rail (v.events ++ Work recorder ∷ []) kept
      (length-set v.recorders recorder (Some cartridge) ∙ kept.whole.shaped.recorders_)
      (λ none. beside_fetched v.config.frames v.config.recorders v.recency v.recorders v.store (kept.whole.kept none).beside recorder cartridge known within may.empty may.in_cell)
