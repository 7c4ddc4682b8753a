-- Programs and scripts go on.
use Rattle.std.proofs.Common.{◌≡◌, ◌⊎◌, ℕ, ◌+◌, ◌≤◌, Bool, true, false, cond, List, [], ◌∷◌, ◌++◌, append_assoc, append-nil, Option, Some, None, refl, sym, ap, subst, ◌∙◌, inl, inr, arith, option_map}
use Rattle.std.proofs.lemmas.Bool.Decides.{leb_tells}
use Rattle.std.proofs.lemmas.List.Sums.{sum_by-cons}
use Rattle.channel_commands.specs.Data.{CallData, is_command, ReplyData, CcwData}
use Rattle.channel_program.specs.Script.{ItemData, mounting, demounting, program, Exchange, Standing, Reached, word_reached, call_for, word_from, next_call, standing_after, RunsWords, at_start, Gives, Follows, FollowsToEnd, commands, CHAIN_LIMIT}

pub Runs-push : (words : List CcwData) (from to : Standing) (xs : List Exchange) (x : Exchange)
    → RunsWords words from xs to → next_call words to ≡ Some x.0 → RunsWords words from (xs ++ x ∷ []) (standing_after words to x.1)
Runs-push words from to [] x run next =
    subst (λ (at : Standing). (next_call words at ≡ Some x.0) × (standing_after words at x.1 ≡ standing_after words to x.1)) (sym run) (next, refl)
Runs-push words from to (y ∷ ys) x run next = (run.0, Runs-push words (standing_after words from y.1) to ys x run.1 next)

pub FollowsToEnd-follows : (items : List ItemData) (xs : List Exchange) → FollowsToEnd items xs → Follows items xs
FollowsToEnd-follows [] xs all = all
FollowsToEnd-follows (item ∷ items) xs (front, rest, is, given, all) = inr (front, rest, is, given, FollowsToEnd-follows items rest all)

pub FollowsToEnd-push : (items : List ItemData) (item : ItemData) (xs ys : List Exchange)
    → FollowsToEnd items xs → Gives item ys true → FollowsToEnd (items ++ item ∷ []) (xs ++ ys)
FollowsToEnd-push [] item xs ys all given = rw all (ys, [], sym (append-nil ys), given, refl)
FollowsToEnd-push (first ∷ items) item xs ys (front, rest, is, gives, all) given =
    (front, rest ++ ys, rw (is, append_assoc) refl, gives, FollowsToEnd-push items item rest ys all given)

-- an item gives nothing at first
gives_nothing : (item : ItemData) → Gives item [] false
gives_nothing (mounting volume bind) = refl
gives_nothing demounting = refl
gives_nothing (program words) = (at_start, refl, refl)

follows_nothing : (items : List ItemData) → Follows items []
follows_nothing [] = refl
follows_nothing (item ∷ items) = inl (gives_nothing item)

pub Follows-begun : (front rest : List ItemData) (item : ItemData) (xs ys : List Exchange) (finished : Bool)
    → FollowsToEnd front xs → Gives item ys finished → Follows (front ++ item ∷ rest) (xs ++ ys)
Follows-begun [] rest item xs ys false all given = rw all (inl given)
Follows-begun [] rest item xs ys true all given = rw all (inr (ys, [], sym (append-nil ys), given, follows_nothing rest))
Follows-begun (first ∷ items) rest item xs ys finished (front, behind, is, gives, all) given =
    inr (front, behind ++ ys, rw (is, append_assoc) refl, gives, Follows-begun items rest item behind ys finished all given)

-- with no word to go to there is no further call
none_after : (words : List CcwData) (from to : Standing) (xs : List Exchange) → from.word ≡ None → RunsWords words from xs to → commands xs ≡ 0
none_after words from to [] finished run = refl
none_after words from to (x ∷ xs) finished run =
    let no : next_call words from ≡ None = ap (option_map (λ w. call_for words from.executed (word_reached words w))) finished in
    let some : next_call words from ≡ Some x.0 = run.0 in absurd (cc)

-- the call for what a word leads to is a command, of which there may be one more, or breaks the program off
abbrev IsCounted : List CcwData → ℕ → Option Reached → CallData → ReplyData → Type 0
IsCounted words executed at call reply =
    ((is_command call ≡ true) × (executed + 1 ≤ CHAIN_LIMIT)) ⊎ ((is_command call ≡ false) × (word_from words executed at reply ≡ None))

is_counted : (words : List CcwData) (executed : ℕ) (at : Option Reached) (reply : ReplyData)
    → IsCounted words executed at (call_for words executed at) reply
is_counted words executed None reply = inr (refl, refl)
is_counted words executed (Some at) reply =
    elim (leb_tells CHAIN_LIMIT executed) [
      | inl (past, _) ↦ inr (rw past refl, rw past refl)
      | inr (few, below) ↦ inl (rw few refl, omega arith)
    ]

commands-cons : (x : Exchange) (xs : List Exchange) → commands (x ∷ xs) ≡ cond (is_command x.0) 1 0 + commands xs
commands-cons x xs = sum_by-cons (λ (y : Exchange). cond (is_command y.0) 1 0) x xs

-- the count goes on over one exchange
counted : (words : List CcwData) (from to : Standing) (x : Exchange) (xs : List Exchange) (word : Option ℕ) → from.word ≡ word
    → option_map (λ w. call_for words from.executed (word_reached words w)) word ≡ Some x.0 → from.executed ≤ CHAIN_LIMIT
    → ((standing_after words from x.1).executed ≤ CHAIN_LIMIT → (standing_after words from x.1).executed + commands xs ≤ CHAIN_LIMIT)
    → RunsWords words (standing_after words from x.1) xs to → from.executed + commands (x ∷ xs) ≤ CHAIN_LIMIT
counted words from to x xs None is next few more run = absurd (cc)
counted words from to x xs (Some w) is next few more run =
    let same : call_for words from.executed (word_reached words w) ≡ x.0 = cc in
    rw commands-cons (elim (is_counted words from.executed (word_reached words w) x.1) [
      | inl (command_, below) ↦
          let yes_ : is_command x.0 ≡ true = sym (ap is_command same) ∙ command_ in
          rw yes_ (omega (arith, more below))
      | inr (broken, finished) ↦
          let no_ : is_command x.0 ≡ false = sym (ap is_command same) ∙ broken in
          let end_ : (standing_after words from x.1).word ≡ None = rw is finished in
          rw (no_, none_after words (standing_after words from x.1) to xs end_ run) (omega arith)
    ])

pub commands-few : (words : List CcwData) (from to : Standing) (xs : List Exchange)
    → from.executed ≤ CHAIN_LIMIT → RunsWords words from xs to → from.executed + commands xs ≤ CHAIN_LIMIT
commands-few words from to [] few run = omega arith
commands-few words from to (x ∷ xs) few run =
    counted words from to x xs from.word refl run.0 few (λ below. commands-few words (standing_after words from x.1) to xs below run.1) run.1
