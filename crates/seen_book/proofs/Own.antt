-- The entries of one host in a list that grows.
use Rattle.std.proofs.Common.{◌≡◌, ◌≢◌, ℕ, Bool, cond, List, [], ◌∷◌, ◌++◌, eqb, eq-eqb, ne_eqb, refl, ap, ◌∙◌, subst, All, Contains}
use Rattle.std.proofs.lemmas.List.{append-nil}
use Rattle.std.proofs.lemmas.List.Elements.{filter-append, All-head, All-tail}
use Rattle.ckd_plain.specs.History.{EntryData}
use Rattle.seen_book.specs.Entries.{entries_of}

pub own_grows : (h : ℕ) (log : List EntryData) (e : EntryData) → e.host ≡ h
    → entries_of h (log ++ e ∷ []) ≡ entries_of h log ++ e ∷ []
own_grows h log e is =
    filter-append (λ (x : EntryData). eqb x.host h) log (e ∷ []) ∙ ap (λ (b : Bool). entries_of h log ++ cond b (e ∷ []) []) (eq-eqb e.host h is)

pub own_stays : (h : ℕ) (log : List EntryData) (e : EntryData) → e.host ≢ h → entries_of h (log ++ e ∷ []) ≡ entries_of h log
own_stays h log e ne =
    filter-append (λ (x : EntryData). eqb x.host h) log (e ∷ [])
    ∙ (ap (λ (b : Bool). entries_of h log ++ cond b (e ∷ []) []) (ne_eqb e.host h ne) ∙ append-nil (entries_of h log))

-- a host that is none of these has no entry
pub own_none : (made : List ℕ) (h : ℕ) (log : List EntryData) → (Contains made h → ⊥)
    → All (λ (e : EntryData). Contains made e.host) log → entries_of h log ≡ []
own_none made h [] out all = refl
own_none made h (e ∷ es) out all =
    let ne : e.host ≢ h = λ same. out (subst (Contains made) same (All-head (λ (x : EntryData). Contains made x.host) e es all)) in
    ap (λ (b : Bool). cond b (e ∷ entries_of h es) (entries_of h es)) (ne_eqb e.host h ne) ∙ own_none made h es out (All-tail (λ (x : EntryData). Contains made x.host) e es all)
