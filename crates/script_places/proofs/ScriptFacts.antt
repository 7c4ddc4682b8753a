-- What is left of a script, and which lists of calls follow it.
use Rattle.std.proofs.Common.{◌≡◌, ◌⊎◌, inl, inr, ℕ, Bool, true, false, cond, List, [], ◌∷◌, ◌++◌, Option, Some, None, refl, sym, ◌∙◌, ap, subst}
use Rattle.std.specs.Prelude.{◌==◌, option_map, is_some, not}
use Rattle.std.proofs.lemmas.Bool.{false≢true}
use Rattle.channel_commands.specs.Data.{CallData, ReplyData, CcwData, mount, demount}
use Rattle.channel_program.specs.Script.{ItemData, mounting, demounting, program, Exchange, Standing, at_start, next_call, call_for, word_reached, standing_after, RunsWords, Gives, Follows, FollowsToEnd}
use Rattle.ckd_plain.specs.History.{EntryData}
use Rattle.script_places.specs.Scripts.{Left, not_begun, next_of, program_left, left_by, left_after, Plays, exchanges_of}

-- ---- one exchange more

pub left_after-push : (left : Left) (xs : List Exchange) (x : Exchange)
    → left_after left (xs ++ x ∷ []) ≡ left_by (left_after left xs).items (left_after left xs).at x.1
left_after-push left [] x = refl
left_after-push left (y ∷ ys) x = left_after-push (left_by left.items left.at y.1) ys x

pub Plays-push : (left : Left) (xs : List Exchange) (x : Exchange) → Plays left xs
    → next_of (left_after left xs).items (left_after left xs).at ≡ Some x.0 → Plays left (xs ++ x ∷ [])
Plays-push left [] x plays next = (next, tt)
Plays-push left (y ∷ ys) x plays next = (plays.0, Plays-push (left_by left.items left.at y.1) ys x plays.1 next)

-- an entry is one of its host's, and of no other
first_of : (mine : Bool) (x : Exchange) (xs ys : List Exchange) → cond mine (x ∷ xs) xs ++ ys ≡ cond mine (x ∷ (xs ++ ys)) (xs ++ ys)
first_of true x xs ys = refl
first_of false x xs ys = refl

pub exchanges_of-append : (h : ℕ) (es fs : List EntryData) → exchanges_of h (es ++ fs) ≡ exchanges_of h es ++ exchanges_of h fs
exchanges_of-append h [] fs = refl
exchanges_of-append h (e ∷ es) fs =
    (λ i. cond (e.host == h) ((e.call, e.reply) ∷ exchanges_of-append h es fs i) (exchanges_of-append h es fs i))
    ∙ sym (first_of (e.host == h) (e.call, e.reply) (exchanges_of h es) (exchanges_of h fs))

-- ---- a program under way isn't finished

abbrev pub IsLive : List ItemData → Standing → Type 0
IsLive (program words ∷ more) at = is_some at.word ≡ true
IsLive _ at = Unit {0}

begun_live : (items : List ItemData) → IsLive items at_start
begun_live [] = tt
begun_live (mounting volume bind ∷ more) = tt
begun_live (demounting ∷ more) = tt
begun_live (program words ∷ more) = refl

left_live : (words : List CcwData) (more : List ItemData) (at : Standing) (word : Option ℕ) → at.word ≡ word
    → IsLive (program_left words more at word).items (program_left words more at word).at
left_live words more at None is = begun_live more
left_live words more at (Some word) is = ap is_some is

by_live : (items : List ItemData) (at : Standing) (reply : ReplyData) → IsLive (left_by items at reply).items (left_by items at reply).at
by_live [] at reply = tt
by_live (mounting volume bind ∷ more) at reply = begun_live more
by_live (demounting ∷ more) at reply = begun_live more
by_live (program words ∷ more) at reply = left_live words more (standing_after words at reply) (standing_after words at reply).word refl

after_live : (left : Left) (xs : List Exchange) → IsLive left.items left.at → IsLive (left_after left xs).items (left_after left xs).at
after_live left [] live = live
after_live left (x ∷ xs) live = after_live (left_by left.items left.at x.1) xs (by_live left.items left.at x.1)

pub script_live : (items : List ItemData) (xs : List Exchange) → IsLive (left_after (not_begun items) xs).items (left_after (not_begun items) xs).at
script_live items xs = after_live (not_begun items) xs (begun_live items)

-- a program under way has a call
pub live_calls : (words : List CcwData) (at : Standing) → is_some at.word ≡ true → (call : CallData) × (next_call words at ≡ Some call)
live_calls words at live = by_word at.word live refl
  where
    by_word : (w : Option ℕ) → is_some w ≡ true → at.word ≡ w → (call : CallData) × (next_call words at ≡ Some call)
    by_word None is same = absurd (let e : false ≡ true = is in cc)
    by_word (Some w) is same = (call_for words at.executed (word_reached words w), ap (option_map (λ (x : ℕ). call_for words at.executed (word_reached words x))) same)

-- ---- following

-- the exchanges are those of what is left, the last item finished or not
abbrev FollowsOn : List ItemData → Standing → List Exchange → Type 0
FollowsOn (program words ∷ more) at xs =
    ((to : Standing) × RunsWords words at xs to × (is_some to.word ≡ true))
    ⊎ ((front : List Exchange) × (rest : List Exchange) × (xs ≡ front ++ rest) × ((to : Standing) × RunsWords words at front to × (to.word ≡ None)) × Follows more rest)
FollowsOn items at xs = Follows items xs

whole_follows : (items : List ItemData) (xs : List Exchange) → FollowsOn items at_start xs → Follows items xs
whole_follows [] xs on = on
whole_follows (mounting volume bind ∷ more) xs on = on
whole_follows (demounting ∷ more) xs on = on
whole_follows (program words ∷ more) xs (inl run) = inl (run.0, run.1, sym (ap not run.2))
whole_follows (program words ∷ more) xs (inr (front, rest, is, run, follows)) =
    inr (front, rest, is, (run.0, run.1, sym (ap (λ (w : Option ℕ). not (is_some w)) run.2)), follows)

-- one exchange of a program, where it is known of those behind it
program_follows : (words : List CcwData) (more : List ItemData) (at to : Standing) (x : Exchange) (xs : List Exchange) → next_call words at ≡ Some x.0
    → standing_after words at x.1 ≡ to → (word : Option ℕ) → to.word ≡ word
    → ((items : List ItemData) (at' : Standing) → IsLive items at' → Plays (record { items = items; at = at' }) xs → FollowsOn items at' xs)
    → Plays (program_left words more to word) xs → FollowsOn (program words ∷ more) at (x ∷ xs)
program_follows words more at to x xs next is None ended known plays =
    inr (x ∷ [], xs, refl, (to, (next, is), ended), whole_follows more xs (known more at_start (begun_live more) plays))
program_follows words more at to x xs next is (Some word) goes known plays = by_rest (known (program words ∷ more) to (ap is_some goes) plays)
  where
    by_rest : FollowsOn (program words ∷ more) to xs → FollowsOn (program words ∷ more) at (x ∷ xs)
    by_rest (inl run) = inl (run.0, (next, subst (λ (s : Standing). RunsWords words s xs run.0) (sym is) run.1), run.2)
    by_rest (inr (front, rest, same, run, follows)) =
        inr (x ∷ front, rest, ap (λ (l : List Exchange). x ∷ l) same, (run.0, (next, subst (λ (s : Standing). RunsWords words s front run.0) (sym is) run.1), run.2), follows)

follows_on : (xs : List Exchange) (items : List ItemData) (at : Standing) → IsLive items at → Plays (record { items = items; at = at }) xs → FollowsOn items at xs
follows_on [] [] at live plays = refl
follows_on [] (mounting volume bind ∷ more) at live plays = inl refl
follows_on [] (demounting ∷ more) at live plays = inl refl
follows_on [] (program words ∷ more) at live plays = inl (at, refl, live)
follows_on (x ∷ xs) [] at live plays = absurd (let e : None ≡ Some x.0 = plays.0 in cc)
follows_on (x ∷ xs) (mounting volume bind ∷ more) at live plays =
    let e : Some (mount volume bind) ≡ Some x.0 = plays.0 in
    let same : x.0 ≡ mount volume bind = cc in
    inr (x ∷ [], xs, refl, (same, refl, refl), whole_follows more xs (follows_on xs more at_start (begun_live more) plays.1))
follows_on (x ∷ xs) (demounting ∷ more) at live plays =
    let e : Some demount ≡ Some x.0 = plays.0 in
    let same : x.0 ≡ demount = cc in
    inr (x ∷ [], xs, refl, (same, refl, refl), whole_follows more xs (follows_on xs more at_start (begun_live more) plays.1))
follows_on (x ∷ xs) (program words ∷ more) at live plays =
    program_follows words more at (standing_after words at x.1) x xs plays.0 refl (standing_after words at x.1).word refl (follows_on xs) plays.1

pub plays_follows : (items : List ItemData) (xs : List Exchange) → Plays (not_begun items) xs → Follows items xs
plays_follows items xs plays = whole_follows items xs (follows_on xs items at_start (begun_live items) plays)

-- ---- following to the end

-- the exchanges are those of what is left, and every item is finished
abbrev EndsOn : List ItemData → Standing → List Exchange → Type 0
EndsOn (program words ∷ more) at xs =
    (front : List Exchange) × (rest : List Exchange) × (xs ≡ front ++ rest) × ((to : Standing) × RunsWords words at front to × (to.word ≡ None)) × FollowsToEnd more rest
EndsOn items at xs = FollowsToEnd items xs

whole_ends : (items : List ItemData) (xs : List Exchange) → EndsOn items at_start xs → FollowsToEnd items xs
whole_ends [] xs on = on
whole_ends (mounting volume bind ∷ more) xs on = on
whole_ends (demounting ∷ more) xs on = on
whole_ends (program words ∷ more) xs (front, rest, is, run, follows) = (front, rest, is, (run.0, run.1, sym (ap (λ (w : Option ℕ). not (is_some w)) run.2)), follows)

-- no call comes next
NoneNext : Left → List Exchange → Type 0
NoneNext left xs = next_of (left_after left xs).items (left_after left xs).at ≡ None

program_ends : (words : List CcwData) (more : List ItemData) (at to : Standing) (x : Exchange) (xs : List Exchange) → next_call words at ≡ Some x.0
    → standing_after words at x.1 ≡ to → (word : Option ℕ) → to.word ≡ word
    → ((items : List ItemData) (at' : Standing) → IsLive items at' → Plays (record { items = items; at = at' }) xs → NoneNext (record { items = items; at = at' }) xs → EndsOn items at' xs)
    → Plays (program_left words more to word) xs → NoneNext (program_left words more to word) xs → EndsOn (program words ∷ more) at (x ∷ xs)
program_ends words more at to x xs next is None ended known plays none =
    (x ∷ [], xs, refl, (to, (next, is), ended), whole_ends more xs (known more at_start (begun_live more) plays none))
program_ends words more at to x xs next is (Some word) goes known plays none = by_rest (known (program words ∷ more) to (ap is_some goes) plays none)
  where
    by_rest : EndsOn (program words ∷ more) to xs → EndsOn (program words ∷ more) at (x ∷ xs)
    by_rest (front, rest, same, run, follows) =
        (x ∷ front, rest, ap (λ (l : List Exchange). x ∷ l) same, (run.0, (next, subst (λ (s : Standing). RunsWords words s front run.0) (sym is) run.1), run.2), follows)

ends_on : (xs : List Exchange) (items : List ItemData) (at : Standing) → IsLive items at → Plays (record { items = items; at = at }) xs → NoneNext (record { items = items; at = at }) xs → EndsOn items at xs
unfolding NoneNext
ends_on [] [] at live plays none = refl
ends_on [] (mounting volume bind ∷ more) at live plays none = absurd (let e : Some (mount volume bind) ≡ None = none in cc)
ends_on [] (demounting ∷ more) at live plays none = absurd (let e : Some demount ≡ None = none in cc)
ends_on [] (program words ∷ more) at live plays none = absurd (let call = live_calls words at live in let e : Some call.0 ≡ None = sym call.1 ∙ none in cc)
ends_on (x ∷ xs) [] at live plays none = absurd (let e : None ≡ Some x.0 = plays.0 in cc)
ends_on (x ∷ xs) (mounting volume bind ∷ more) at live plays none =
    let e : Some (mount volume bind) ≡ Some x.0 = plays.0 in
    let same : x.0 ≡ mount volume bind = cc in
    (x ∷ [], xs, refl, (same, refl, refl), whole_ends more xs (ends_on xs more at_start (begun_live more) plays.1 none))
ends_on (x ∷ xs) (demounting ∷ more) at live plays none =
    let e : Some demount ≡ Some x.0 = plays.0 in
    let same : x.0 ≡ demount = cc in
    (x ∷ [], xs, refl, (same, refl, refl), whole_ends more xs (ends_on xs more at_start (begun_live more) plays.1 none))
ends_on (x ∷ xs) (program words ∷ more) at live plays none =
    program_ends words more at (standing_after words at x.1) x xs plays.0 refl (standing_after words at x.1).word refl (ends_on xs) plays.1 none

pub plays_to_end : (items : List ItemData) (xs : List Exchange) → Plays (not_begun items) xs → next_of (left_after (not_begun items) xs).items (left_after (not_begun items) xs).at ≡ None → FollowsToEnd items xs
unfolding NoneNext
plays_to_end items xs plays none = whole_ends items xs (ends_on xs items at_start (begun_live items) plays none)

-- and then no call comes next

finished_next : (words : List CcwData) (at : Standing) → at.word ≡ None → next_call words at ≡ None
finished_next words at ended = ap (option_map (λ (x : ℕ). call_for words at.executed (word_reached words x))) ended

-- behind a program that ran to its end the items behind it are left
left_by_run : (words : List CcwData) (more : List ItemData) (at to : Standing) (front rest : List Exchange) → is_some at.word ≡ true → RunsWords words at front to → to.word ≡ None
    → left_after (record { items = program words ∷ more; at = at }) (front ++ rest) ≡ left_after (not_begun more) rest
left_by_run words more at to [] rest live runs ended = absurd (false≢true (sym (ap (λ (s : Standing). is_some s.word) runs ∙ ap is_some ended) ∙ live))
left_by_run words more at to (x ∷ front) rest live runs ended =
    by_word (λ on. left_by_run words more (standing_after words at x.1) to front rest on runs.1 ended) front runs.1 refl (standing_after words at x.1).word refl
  where
    by_word : (is_some (standing_after words at x.1).word ≡ true → left_after (record { items = program words ∷ more; at = standing_after words at x.1 }) (front ++ rest) ≡ left_after (not_begun more) rest)
        → (xs : List Exchange) → RunsWords words (standing_after words at x.1) xs to → xs ≡ front
        → (word : Option ℕ) → (standing_after words at x.1).word ≡ word → left_after (program_left words more (standing_after words at x.1) word) (xs ++ rest) ≡ left_after (not_begun more) rest
    by_word again xs on same (Some w) is = ap (λ (l : List Exchange). left_after (record { items = program words ∷ more; at = standing_after words at x.1 }) (l ++ rest)) same ∙ again (ap is_some is)
    by_word again [] on same None is = refl
    by_word again (y ∷ ys) on same None is = absurd (let e : None ≡ Some y.0 = sym (finished_next words (standing_after words at x.1) is) ∙ on.0 in cc)

no_word : (word : Option ℕ) → true ≡ not (is_some word) → word ≡ None
no_word None is = refl
no_word (Some w) is = absurd (false≢true (sym is))

-- so it is behind an item that is finished
left_behind_item : (item : ItemData) (more : List ItemData) (front rest : List Exchange) → Gives item front true → left_after (not_begun (item ∷ more)) (front ++ rest) ≡ left_after (not_begun more) rest
left_behind_item (mounting volume bind) more [] rest gives = absurd (false≢true (sym gives))
left_behind_item (mounting volume bind) more (x ∷ xs) rest gives = ap (λ (l : List Exchange). left_after (not_begun more) (l ++ rest)) gives.1
left_behind_item demounting more [] rest gives = absurd (false≢true (sym gives))
left_behind_item demounting more (x ∷ xs) rest gives = ap (λ (l : List Exchange). left_after (not_begun more) (l ++ rest)) gives.1
left_behind_item (program words) more front rest gives = left_by_run words more at_start gives.0 front rest refl gives.1 (no_word gives.0.word gives.2)

abbrev next_in : Left → Option CallData
next_in left = next_of left.items left.at

pub ended_has_none : (items : List ItemData) (xs : List Exchange) → FollowsToEnd items xs → next_of (left_after (not_begun items) xs).items (left_after (not_begun items) xs).at ≡ None
ended_has_none [] xs follows = ap (λ (l : List Exchange). next_in (left_after (not_begun []) l)) follows
ended_has_none (item ∷ more) xs (front, rest, is, gives, ends) =
    ap (λ (l : List Exchange). next_in (left_after (not_begun (item ∷ more)) l)) is ∙ ap next_in (left_behind_item item more front rest gives) ∙ ended_has_none more rest ends
