-- Which entries count as answered, as one more comes.
use Rattle.std.proofs.Common.{◌≡◌, ◌≤◌, ◌<◌, ℕ, ◌+◌, Bool, true, false, nat_le, List, [], ◌∷◌, ◌++◌, length, refl, ◌∙◌, ap, arith}
use Rattle.std.specs.Prelude.{◌&&◌}
use Rattle.std.proofs.lemmas.Bool.{cond-true, cond-false, and_from}
use Rattle.std.proofs.lemmas.Bool.Decides.{nat_tests}
use Rattle.channel_commands.specs.Data.{ReplyData, stopped}
use Rattle.ckd_plain.specs.History.{EntryData, IsStopped}
use Rattle.core_state.specs.StopRule.{is_answered, answered_count}
use Rattle.core_state.proofs.StopsLemmas.{one, answered-append, not_stopped}

stop_is_not : (r : ReplyData) → IsStopped r → is_answered r ≡ false
stop_is_not stopped stops = refl
stop_is_not _ stops = absurd stops

pub stop_adds_none : (k : ℕ) (history : List EntryData) (marks : List ℕ) (e : EntryData) (mark : ℕ) → length marks ≡ length history → IsStopped e.reply
    → answered_count k (history ++ e ∷ []) (marks ++ mark ∷ []) ≡ answered_count k history marks
stop_adds_none k history marks e mark long stops =
    let all = answered-append k history marks e mark long in
    let none : one k e mark ≡ 0 = cond-false _ _ _ (ap (λ b. b && nat_le mark k) (stop_is_not e.reply stops)) in
    omega (arith, all, none)

pub later_adds_none : (k : ℕ) (history : List EntryData) (marks : List ℕ) (e : EntryData) (mark : ℕ) → length marks ≡ length history → k < mark
    → answered_count k (history ++ e ∷ []) (marks ++ mark ∷ []) ≡ answered_count k history marks
later_adds_none k history marks e mark long late =
    let all = answered-append k history marks e mark long in
    let test : nat_le mark k ≡ false = grind (arith, nat_tests) in
    let none : one k e mark ≡ 0 = cond-false _ _ _ (ap (λ b. is_answered e.reply && b) test ∙ by (is_answered e.reply)) in
    omega (arith, all, none)
  where
    by : (b : Bool) → (b && false) ≡ false
    by true = refl
    by false = refl

pub entry_adds_one : (k : ℕ) (history : List EntryData) (marks : List ℕ) (e : EntryData) (mark : ℕ) → length marks ≡ length history → (IsStopped e.reply → ⊥) → mark ≤ k
    → answered_count k (history ++ e ∷ []) (marks ++ mark ∷ []) ≡ answered_count k history marks + 1
entry_adds_one k history marks e mark long goes since =
    let all = answered-append k history marks e mark long in
    let test : nat_le mark k ≡ true = grind (arith, nat_tests) in
    let counts : one k e mark ≡ 1 = cond-true _ _ _ (and_from _ _ (not_stopped e.reply goes) test) in
    omega (arith, all, counts)
