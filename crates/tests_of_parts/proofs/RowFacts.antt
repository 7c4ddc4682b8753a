-- The row of two hosts is a legal history.
use Rattle.std.proofs.Common.{◌≡◌, ℕ, false, List, [], ◌∷◌, refl, sym, subst, Some, None}
use Rattle.channel_commands.specs.Data.{CallData, ReplyData, mount, demount, mounted, demounted}
use Rattle.ckd_plain.specs.Data.{State}
use Rattle.ckd_plain.specs.Plain.{plain, response_to, start_of}
use Rattle.ckd_plain.specs.History.{EntryData, IsLegal, state_after}
use Rattle.seen_book.specs.Openings.{OpeningData, IsLegalFrom}

-- each volume is there, with blank tracks, and no host has called
abbrev pub blank_volumes : State
blank_volumes = start_of (record { serial = λ v. Some []; read_only = λ v. false; track = λ v c h. [] })

abbrev pub told : ℕ → ℕ → CallData → ReplyData → EntryData
told host number call reply = record { host = host; number = number; call = call; reply = reply; fault = None }

abbrev pub row : ℕ → List EntryData
row v = told 1 1 (mount v false) mounted ∷ told 1 2 demount demounted ∷ told 2 1 (mount v false) mounted ∷ []

one_is_legal : (v : ℕ) → IsLegal blank_volumes (told 1 1 (mount v false) mounted ∷ [])
unfolding plain response_to
one_is_legal v = (record { number = refl; answered = refl; fault = ((λ f. f), (λ f. f)); alone = tt }, (λ stop. absurd stop), tt)

two_are_legal : (v : ℕ) → IsLegal blank_volumes (told 1 1 (mount v false) mounted ∷ told 1 2 demount demounted ∷ [])
unfolding state_after plain response_to
two_are_legal v = (
  (one_is_legal v).0,
  (λ stop. absurd stop),
  (record { number = refl; answered = refl; fault = ((λ f. f), (λ f. f)); alone = tt }, (λ stop. absurd stop), tt),
)

three_are_legal : (v : ℕ) → IsLegal blank_volumes (row v)
unfolding state_after plain response_to
three_are_legal v = (
  (one_is_legal v).0,
  (λ stop. absurd stop),
  (
    (two_are_legal v).2.0,
    (λ stop. absurd stop),
    (record { number = refl; answered = refl; fault = ((λ f. f), (λ f. f)); alone = tt }, (λ stop. absurd stop), tt),
  ),
)

pub row_is_legal : (opening : OpeningData) (v one two : ℕ) → opening.state ≡ blank_volumes → one ≡ 1 → two ≡ 2
    → IsLegalFrom opening (told one 1 (mount v false) mounted ∷ [])
    × IsLegalFrom opening (told one 1 (mount v false) mounted ∷ told one 2 demount demounted ∷ [])
    × IsLegalFrom opening (told one 1 (mount v false) mounted ∷ told one 2 demount demounted ∷ told two 1 (mount v false) mounted ∷ [])
row_is_legal opening v one two state is_one is_two =
    subst (λ (x : State × ℕ × ℕ).
    (opening.tells → IsLegal x.0 (told x.1 1 (mount v false) mounted ∷ []))
    × (opening.tells → IsLegal x.0 (told x.1 1 (mount v false) mounted ∷ told x.1 2 demount demounted ∷ []))
    × (opening.tells → IsLegal x.0 (told x.1 1 (mount v false) mounted ∷ told x.1 2 demount demounted ∷ told x.2 1 (mount v false) mounted ∷ [])))
    (λ i. (sym state i, sym is_one i, sym is_two i)) ((λ t. one_is_legal v), (λ t. two_are_legal v), (λ t. three_are_legal v))
