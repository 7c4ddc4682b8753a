-- Of numbered entries, the last one of a host has as its number how many the host has.
use Rattle.std.proofs.Common.{◌≡◌, ℕ, ◌+◌, Bool, true, false, cond, ◌==◌, List, [], ◌∷◌, ◌++◌, reverse, Option, Some, None, Bor, refl, sym, ◌∙◌, ap, arith, append_assoc}
use Rattle.std.specs.List.{find}
use Rattle.std.specs.Option.{option_map, option_or}
use Rattle.std.proofs.lemmas.Bool.{eqb-true}
use Rattle.std.proofs.lemmas.List.{append-nil, reverse-append}
use Rattle.std.proofs.lemmas.List.Folds.{find-append}
use Rattle.std.proofs.lemmas.List.Sums.{sum_by-append, sum_by-cons}
use Rattle.ckd_plain.specs.History.{EntryData, count_of_host}
use Rattle.core_state.specs.Counted.{IsEntryBehind, AreEntriesBehind, AreEntries}

-- the number of an entry, or this one where there is none
abbrev pub number_or : ℕ → Option EntryData → ℕ
number_or none None = none
number_or none (Some e) = e.number

-- a host's last entry
abbrev pub last_of : ℕ → List EntryData → Option EntryData
last_of h es = find (λ (e : EntryData). e.host == h) (reverse es)

either : (none : ℕ) (o p : Option EntryData) → number_or none (option_or o p) ≡ number_or (number_or none p) o
either none None p = refl
either none (Some e) p = refl

-- one entry more, by whether it is the host's
chosen : (b : Bool) (n : ℕ) (e : EntryData) → (b ≡ true → e.number ≡ n + 1) → number_or n (cond b (Some e) None) ≡ n + cond b 1 0
chosen true n e own = own refl
chosen false n e own = omega arith

-- the last number is the count: of one entry behind others, then of all behind others
count_more : (h : ℕ) (before : List EntryData) (e : EntryData) → IsEntryBehind before e → number_or (count_of_host h before) (last_of h (e ∷ [])) ≡ count_of_host h (before ++ e ∷ [])
count_more h before e is =
    let counts : EntryData → ℕ = λ x. cond (x.host == h) 1 0 in
    let both = sum_by-append counts before (e ∷ []) in
    let one = sum_by-cons counts e [] in
    let own = chosen (e.host == h) (count_of_host h before) e (λ same. is.number ∙ ap (λ (k : ℕ). count_of_host k before + 1) (eqb-true e.host h same)) in
    omega (arith, own, both, one)

last_behind : (h : ℕ) (before es : List EntryData) → AreEntriesBehind before es → number_or (count_of_host h before) (last_of h es) ≡ count_of_host h (before ++ es)
last_behind h before [] are = ap (count_of_host h) (sym (append-nil before))
last_behind h before (e ∷ es) are =
    ap (λ (l : List EntryData). number_or (count_of_host h before) (find (λ (x : EntryData). x.host == h) l)) (reverse-append (e ∷ []) es)
    ∙ ap (number_or (count_of_host h before)) (find-append (λ (x : EntryData). x.host == h) (reverse es) (e ∷ []))
    ∙ either (count_of_host h before) (last_of h es) (last_of h (e ∷ []))
    ∙ ap (λ (n : ℕ). number_or n (last_of h es)) (count_more h before e are.0)
    ∙ last_behind h (before ++ e ∷ []) es are.2
    ∙ ap (count_of_host h) (append_assoc before (e ∷ []) es)

-- the same of an entry that was found, or of none
pub last_counts : (h : ℕ) (es : List EntryData) → AreEntries es → (found : Option (Bor EntryData)) → option_map (λ (e : Bor EntryData). e.now) found ≡ last_of h es
    → (o : Option (Bor EntryData)) → found ≡ o → number_or 0 (option_map (λ (e : Bor EntryData). e.now) o) ≡ count_of_host h es
last_counts h es are found is o o_is =
    ap (λ (x : Option (Bor EntryData)). number_or 0 (option_map (λ (e : Bor EntryData). e.now) x)) (sym o_is) ∙ ap (number_or 0) is ∙ last_behind h [] es are
