-- What is loose behind items, and runs behind which nothing is. Layers above cite these lemmas.
use Rattle.std.proofs.Common.{◌≡◌, inl, inr, List, [], ◌∷◌, ◌++◌, refl, sym, ◌∙◌, ap, subst, append_assoc}
use Rattle.std.proofs.lemmas.List.{append-nil, append_cancel_left}
use Rattle.std.proofs.lemmas.Bool.{false≢true}
use Rattle.mss_base.specs.declared.place.UnitNo.{UnitNo}
use Rattle.mss_base.specs.Content.{Write, Item, wrote, synced, synced_all, SiteLog, Places, nowhere, loose_with, loose_after, loose_places, NoLooser, Got, AreSettled, Settles}
use Rattle.mss_base.proofs.Splitting.{split_after, split_none}
use Rattle.mss_base.proofs.WriteMoments.{firm_behind}

pub loose-append : (p : Places) (a b : List Item) → loose_after p (a ++ b) ≡ loose_after (loose_after p a) b
loose-append p [] b = refl
loose-append p (x ∷ a) b = loose-append (loose_with p x) a b

-- items, and others behind them
pub got_then : (a b : List Item) (old mid new : SiteLog) → Got a old mid → Got b mid new → Got (a ++ b) old new
got_then a b old mid new first second =
    second ∙ (λ i. record { start = (first i).start; log = (first i).log ++ b }) ∙ (λ i. record { start = old.start; log = append_assoc old.log a b i })

-- no item at all
pub settles_none : (s : SiteLog) → Settles s s
settles_none s = record { items = []; grown = λ i. record { start = s.start; log = sym (append-nil s.log) i }; settled = λ unit block place. refl }

-- whatever items the log is said to have got, they are the same
pub are_settled : (items : List Item) (old new : SiteLog) → Got items old new → Settles old new → AreSettled items
are_settled items old new grown s =
    subst AreSettled (append_cancel_left old.log s.items items (ap (λ (t : SiteLog). t.log) (sym s.grown ∙ grown))) s.settled

-- one run after another
pub settles_then : (old mid new : SiteLog) → Settles old mid → Settles mid new → Settles old new
settles_then old mid new first second = record {
  items = first.items ++ second.items;
  grown = got_then first.items second.items old mid new first.grown second.grown;
  settled =
      let firm : loose_after nowhere first.items ≡ nowhere = λ i unit block place. first.settled unit block place i in
      λ unit block place. ap (λ (p : Places). p unit block place) (loose-append nowhere first.items second.items ∙ ap (λ (p : Places). loose_after p second.items) firm) ∙ second.settled unit block place;
}

-- a write and a sync of its unit
pub adds_firm : (w : Write) (old new : SiteLog) → Got (wrote w ∷ synced w.unit ∷ []) old new → Settles old new
adds_firm w old new got = record {
  items = wrote w ∷ synced w.unit ∷ [];
  grown = got;
  settled = firm_behind w;
}

-- a sync alone, of a unit or of all
pub settles_sync : (u : UnitNo) (old new : SiteLog) → Got (synced u ∷ []) old new → Settles old new
settles_sync u old new got = record { items = synced u ∷ []; grown = got; settled = λ unit block place. refl }

pub settles_sync_all : (old new : SiteLog) → Got (synced_all ∷ []) old new → Settles old new
settles_sync_all old new got = record { items = synced_all ∷ []; grown = got; settled = λ unit block place. refl }

pub settles_no_looser : (old new : SiteLog) → Settles old new → NoLooser old new
settles_no_looser old new s = λ unit block is_loose.
    let place = is_loose.0 in
    let all : loose_places new ≡ loose_after (loose_places old) s.items = ap loose_places s.grown ∙ loose-append nowhere old.log s.items in
    elim ((split_after (loose_places old) (loose_places old) nowhere s.items (split_none (loose_places old))).parts unit block place (sym (ap (λ (p : Places). p unit block place) all) ∙ is_loose.1)) [
      | inl was ↦ (place, was)
      | inr since ↦ absurd (false≢true (sym (s.settled unit block place) ∙ since))
    ]
