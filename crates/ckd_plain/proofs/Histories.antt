-- A history grows at its end.
use Rattle.std.proofs.Common.{◌≡◌, List, [], ◌∷◌, ◌++◌, refl, sym, subst, append_assoc}
use Rattle.std.proofs.lemmas.List.{append-nil}
use Rattle.ckd_plain.specs.Data.{State}
use Rattle.ckd_plain.specs.History.{EntryData, state_after, after, count_of_host, IsNextEntry, IsLegalAfter, IsLegal, IsStopped, HasNoStop}

pub after-append : (s : State) (xs ys : List EntryData) → after s (xs ++ ys) ≡ after (after s xs) ys
after-append s [] ys = refl
after-append s (x ∷ xs) ys = after-append (state_after s x) xs ys

pub IsLegalAfter-push : (before : List EntryData) (s : State) (xs : List EntryData) (e : EntryData)
    → IsLegalAfter before s xs → HasNoStop xs → IsNextEntry (after s xs) (count_of_host e.host (before ++ xs)) e
    → IsLegalAfter before s (xs ++ e ∷ [])
IsLegalAfter-push before s [] e legal going h =
    (subst (λ (b : List EntryData). IsNextEntry s (count_of_host e.host b) e) (append-nil before) h, (λ _. refl), tt)
IsLegalAfter-push before s (x ∷ xs) e legal going h = (
  legal.0,
  (λ stops. absurd (going.0 stops)),
  IsLegalAfter-push (before ++ x ∷ []) (state_after s x) xs e legal.2 going.1
      (subst (λ (b : List EntryData). IsNextEntry (after (state_after s x) xs) (count_of_host e.host b) e) (sym (append_assoc before (x ∷ []) xs)) h),
)

-- what has been legal stays legal when a legal entry is put at its end
pub IsLegal-push : (s : State) (xs : List EntryData) (e : EntryData)
    → IsLegal s xs → HasNoStop xs → IsNextEntry (after s xs) (count_of_host e.host xs) e → IsLegal s (xs ++ e ∷ [])
IsLegal-push s xs e legal going h = IsLegalAfter-push [] s xs e legal going h

nil_front : (xs ys : List EntryData) → xs ++ ys ≡ [] → xs ≡ []
nil_front [] ys e = refl
nil_front (x ∷ xs) ys e = absurd cc

IsLegalAfter-front : (before : List EntryData) (s : State) (xs ys : List EntryData) → IsLegalAfter before s (xs ++ ys) → IsLegalAfter before s xs
IsLegalAfter-front before s [] ys legal = tt
IsLegalAfter-front before s (x ∷ xs) ys legal =
    (legal.0, (λ stops. nil_front xs ys (legal.1 stops)), IsLegalAfter-front (before ++ x ∷ []) (state_after s x) xs ys legal.2)

pub IsLegal-front : (s : State) (xs ys : List EntryData) → IsLegal s (xs ++ ys) → IsLegal s xs
IsLegal-front s xs ys legal = IsLegalAfter-front [] s xs ys legal

pub HasNoStop-push : (xs : List EntryData) (e : EntryData) → HasNoStop xs → (IsStopped e.reply → ⊥) → HasNoStop (xs ++ e ∷ [])
HasNoStop-push [] e going goes = (goes, tt)
HasNoStop-push (x ∷ xs) e going goes = (going.0, HasNoStop-push xs e going.1 goes)
