-- A script that is followed to its end is played call by call, in one way if the replies are a machine's.
use Rattle.std.proofs.Common.{◌≡◌, ◌≤◌, inl, inr, ℕ, Bool, true, false, List, [], ◌∷◌, ◌++◌, length, Option, Some, None, refl, sym, ap, subst, ◌∙◌, option_map, arith}
use Rattle.std.specs.Prelude.{not, is_some, nat_le, if◌then◌else◌}
use Rattle.std.specs.List.{AllByRecursion}
use Rattle.channel_commands.specs.declared.call.BreakCause.TheVariants as cause
use Rattle.channel_commands.specs.Data.{CallData, mount, demount, command, break, ReplyData, CcwData}
use Rattle.channel_program.specs.Script.{ItemData, mounting, demounting, program, Exchange, Reached, Standing, at_start, next_call, call_for, is_last, word_reached, standing_after, RunsWords, Gives, Follows, FollowsToEnd, CHAIN_LIMIT}
use Rattle.script_places.specs.Scripts.{Left, Plays, left_after, left_by, next_of, not_begun, program_left}
use Rattle.compared_runs.specs.Same.{BindsNone}

-- a list of calls was played, and what is left then has Q
pub record PlaysInto (Q : Left → Type 0) (left : Left) (xs : List Exchange) : Type 0 where
  pub plays : Plays left xs
  pub into : Q (left_after left xs)

-- no call is left
abbrev pub IsAtEnd : Left → Type 0
IsAtEnd left = next_of left.items left.at ≡ None

abbrev pub IsAnywhere : Left → Type 0
IsAnywhere left = Unit {0}

-- ---- from a script that is followed

-- a program that is finished asks for nothing
finished_asks : (words : List CcwData) (at : Standing) (call : CallData) → at.word ≡ None → next_call words at ≡ Some call → ⊥
finished_asks words at call finished asks =
    let none : next_call words at ≡ None = ap (option_map (λ w. call_for words at.executed (word_reached words w))) finished in absurd cc

word_none : (w : Option ℕ) → true ≡ not (is_some w) → w ≡ None
word_none None is = refl
word_none (Some w) is = absurd cc

module _ (Q : Left → Type 0) where
  module _ (words : List CcwData) (more : List ItemData) (rest : List Exchange) (follow_on : PlaysInto Q (not_begun more) rest) where
    -- behind a reply: the program has a word to go to, or it is finished, and the items behind it follow
    behind : (at to : Standing) (xs : List Exchange) → RunsWords words at xs to → ((w : ℕ) → at.word ≡ Some w → PlaysInto Q (record { items = program words ∷ more; at = at }) (xs ++ rest))
        → (o : Option ℕ) → at.word ≡ o → PlaysInto Q (program_left words more at o) (xs ++ rest)
    behind at to xs run goes_on (Some w) is = goes_on w is
    behind at to [] run goes_on None is = follow_on
    behind at to (x ∷ xs) run goes_on None is = absurd (finished_asks words at x.0 is run.0)

    program_plays : (at to : Standing) (xs : List Exchange) → RunsWords words at xs to → to.word ≡ None → (w : ℕ) → at.word ≡ Some w
        → PlaysInto Q (record { items = program words ∷ more; at = at }) (xs ++ rest)
    program_plays at to [] run end w goes = absurd (let e : None ≡ Some w = sym end ∙ sym (ap (λ (s : Standing). s.word) run) ∙ goes in cc)
    program_plays at to (x ∷ xs) run end w goes =
        let next = behind (standing_after words at x.1) to xs run.1 (program_plays (standing_after words at x.1) to xs run.1 end) (standing_after words at x.1).word refl in
        record { plays = (run.0, next.plays); into = next.into }

  item_plays : (item : ItemData) (more : List ItemData) (front rest : List Exchange) → Gives item front true → PlaysInto Q (not_begun more) rest
      → PlaysInto Q (not_begun (item ∷ more)) (front ++ rest)
  item_plays (mounting volume bind) more [] rest gives follow_on = absurd cc
  item_plays (mounting volume bind) more (x ∷ front) rest gives follow_on =
      subst (λ (f : List Exchange). PlaysInto Q (not_begun (mounting volume bind ∷ more)) (x ∷ (f ++ rest))) (sym gives.1)
      (record { plays = (ap (λ (c : CallData). Some c) (sym gives.0), follow_on.plays); into = follow_on.into })
  item_plays demounting more [] rest gives follow_on = absurd cc
  item_plays demounting more (x ∷ front) rest gives follow_on =
      subst (λ (f : List Exchange). PlaysInto Q (not_begun (demounting ∷ more)) (x ∷ (f ++ rest))) (sym gives.1)
      (record { plays = (ap (λ (c : CallData). Some c) (sym gives.0), follow_on.plays); into = follow_on.into })
  item_plays (program words) more front rest (to, run, end) follow_on = program_plays words more rest follow_on at_start to front run (word_none to.word end) 0 refl

pub plays_of : (items : List ItemData) (xs : List Exchange) → FollowsToEnd items xs → PlaysInto IsAtEnd (not_begun items) xs
plays_of [] xs none = subst (λ (l : List Exchange). PlaysInto IsAtEnd (not_begun []) l) (sym none) (record { plays = tt; into = refl })
plays_of (item ∷ items) xs (front, rest, split, gives, follows) =
    subst (λ (l : List Exchange). PlaysInto IsAtEnd (not_begun (item ∷ items)) l) (sym split) (item_plays IsAtEnd item items front rest gives (plays_of items rest follows))

-- ---- from one that may be left within an item

module _ (words : List CcwData) (more : List ItemData) where
  behind_within : (at to : Standing) (xs : List Exchange) → RunsWords words at xs to → ((w : ℕ) → at.word ≡ Some w → Plays (record { items = program words ∷ more; at = at }) xs)
      → (o : Option ℕ) → at.word ≡ o → Plays (program_left words more at o) xs
  behind_within at to xs run goes_on (Some w) is = goes_on w is
  behind_within at to [] run goes_on None is = tt
  behind_within at to (x ∷ xs) run goes_on None is = absurd (finished_asks words at x.0 is run.0)

  program_within : (at to : Standing) (xs : List Exchange) → RunsWords words at xs to → Plays (record { items = program words ∷ more; at = at }) xs
  program_within at to [] run = tt
  program_within at to (x ∷ xs) run =
      (run.0, behind_within (standing_after words at x.1) to xs run.1 (λ w is. program_within (standing_after words at x.1) to xs run.1) (standing_after words at x.1).word refl)

item_within : (item : ItemData) (more : List ItemData) (xs : List Exchange) → Gives item xs false → Plays (not_begun (item ∷ more)) xs
item_within (mounting volume bind) more [] gives = tt
item_within (mounting volume bind) more (x ∷ xs) gives = absurd (let e : false ≡ true = gives.2 in cc)
item_within demounting more [] gives = tt
item_within demounting more (x ∷ xs) gives = absurd (let e : false ≡ true = gives.2 in cc)
item_within (program words) more xs (to, run, goes_on) = program_within words more at_start to xs run

pub begins_of : (items : List ItemData) (xs : List Exchange) → Follows items xs → PlaysInto IsAnywhere (not_begun items) xs
begins_of [] xs none = subst (λ (l : List Exchange). PlaysInto IsAnywhere (not_begun []) l) (sym none) (record { plays = tt; into = tt })
begins_of (item ∷ items) xs (inl gives) = record { plays = item_within item items xs gives; into = tt }
begins_of (item ∷ items) xs (inr (front, rest, split, gives, follows)) =
    subst (λ (l : List Exchange). PlaysInto IsAnywhere (not_begun (item ∷ items)) l) (sym split) (item_plays IsAnywhere item items front rest gives (begins_of items rest follows))

-- ---- which calls there are

-- the call binds no volume
abbrev pub CallBindsNone : CallData → Type 0
CallBindsNone (mount volume bind) = bind ≡ false
CallBindsNone _ = Unit {0}

program_call : (words : List CcwData) (executed : ℕ) (at : Option Reached) → CallBindsNone (call_for words executed at)
program_call words executed None = tt
program_call words executed (Some at) = limited (nat_le CHAIN_LIMIT executed)
  where
    limited : (b : Bool) → CallBindsNone (if b then break cause.Limit else command at.code at.argument (not (is_last words at.word)))
    limited true = tt
    limited false = tt

next_binds : (items : List ItemData) (at : Standing) (call : CallData) → AllByRecursion BindsNone items → next_of items at ≡ Some call → CallBindsNone call
next_binds [] at call all is = absurd cc
next_binds (mounting volume bind ∷ more) at call all is = subst CallBindsNone (let e : mount volume bind ≡ call = cc in e) all.0
next_binds (demounting ∷ more) at call all is = subst CallBindsNone (let e : demount ≡ call = cc in e) tt
next_binds (program words ∷ more) at call all is = by_word at.word is
  where
    by_word : (o : Option ℕ) → option_map (λ w. call_for words at.executed (word_reached words w)) o ≡ Some call → CallBindsNone call
    by_word None none = absurd cc
    by_word (Some w) some = subst CallBindsNone (let e : call_for words at.executed (word_reached words w) ≡ call = cc in e) (program_call words at.executed (word_reached words w))

left_binds : (items : List ItemData) (at : Standing) (reply : ReplyData) → AllByRecursion BindsNone items → AllByRecursion BindsNone (left_by items at reply).items
left_binds [] at reply all = tt
left_binds (mounting volume bind ∷ more) at reply all = all.1
left_binds (demounting ∷ more) at reply all = all.1
left_binds (program words ∷ more) at reply all = by_word (standing_after words at reply).word
  where
    by_word : (o : Option ℕ) → AllByRecursion BindsNone (program_left words more (standing_after words at reply) o).items
    by_word None = all.1
    by_word (Some w) = all

pub played_binds : (left : Left) (xs : List Exchange) → AllByRecursion BindsNone left.items → Plays left xs → AllByRecursion (λ (x : Exchange). CallBindsNone x.0) xs
played_binds left [] all plays = tt
played_binds left (x ∷ xs) all plays = (next_binds left.items left.at x.0 all plays.0, played_binds (left_by left.items left.at x.1) xs (left_binds left.items left.at x.1 all) plays.1)

-- ---- the replies of a machine

module _ {M : Type 0} (machine : M → CallData → ReplyData × M) where
  -- each reply is what the machine says, where it stands follow_on
  abbrev pub AnsweredBy : M → List Exchange → Type 0
  AnsweredBy m [] = Unit {0}
  AnsweredBy m (x ∷ xs) = (x.1 ≡ (machine m x.0).0) × AnsweredBy (machine m x.0).1 xs

  -- it answers a script to its end in one way, and comes no further by it
  pub played_same : (m : M) (left : Left) (xs ys : List Exchange) → PlaysInto IsAtEnd left xs → Plays left ys → AnsweredBy m xs → AnsweredBy m ys → length xs ≤ length ys → xs ≡ ys
  played_same m left [] [] one plays a b long = refl
  played_same m left [] (y ∷ ys) one plays a b long = absurd (let e : None ≡ Some y.0 = sym one.into ∙ plays.0 in cc)
  played_same m left (x ∷ xs) [] one plays a b long = absurd (omega (arith, long))
  played_same m left (x ∷ xs) (y ∷ ys) one plays a b long =
      let calls : Some x.0 ≡ Some y.0 = sym one.plays.0 ∙ plays.0 in
      let call : x.0 ≡ y.0 = cc in
      let reply : x.1 ≡ y.1 = a.0 ∙ ap (λ (c : CallData). (machine m c).0) call ∙ sym b.0 in
      let plays_on : Plays (left_by left.items left.at x.1) ys = subst (λ (r : ReplyData). Plays (left_by left.items left.at r) ys) (sym reply) plays.1 in
      let answered : AnsweredBy (machine m x.0).1 ys = subst (λ (c : CallData). AnsweredBy (machine m c).1 ys) (sym call) b.1 in
      let less : length xs ≤ length ys = omega (arith, long) in
      let rest = played_same (machine m x.0).1 (left_by left.items left.at x.1) xs ys (record { plays = one.plays.1; into = one.into }) plays_on a.1 answered less in
      λ i. (call i, reply i) ∷ rest i
