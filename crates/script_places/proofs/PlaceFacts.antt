-- A place in a script goes on.
use Rattle.std.proofs.Common.{◌≡◌, ◌≢◌, ◌≤◌, ◌<◌, ℕ, zero, suc, ◌+◌, Bool, true, false, nat_lt, List, [], ◌∷◌, length, map, drop, get_or, Option, Some, None, refl, sym, ◌∙◌, ap, subst, arith}
use Rattle.std.proofs.lemmas.Bool.{ltb-true, ltb-false, lt-ltb, le-ltb}
use Rattle.std.specs.Prelude.{is_some, not, nat_le, cond, option_map, Result, Ok, Err, OnErr, IfSome}
use Rattle.channel_commands.specs.declared.call.BreakCause.{BreakCause}
use Rattle.channel_commands.specs.declared.call.BreakCause.TheVariants as cause
use Rattle.channel_commands.specs.declared.call.Call.{Call}
use Rattle.channel_commands.specs.Data.{command, break, ReplyData, CcwData}
use Rattle.channel_commands.specs.Views.{call_of}
use Rattle.channel_program.specs.Script.{ItemData, mounting, demounting, program, Standing, Reached, at_start, next_call, standing_after, call_for, word_reached, word_from, word_from_standing, word_after, is_last, CHAIN_LIMIT}
use Rattle.channel_program.specs.Views.{standing_of, Says, Moves}
use Rattle.channel_program.specs.declared.cursor.Cursor.{Cursor}
use Rattle.channel_program.specs.declared.cursor.NextCall.{NextCall}
use Rattle.channel_program.specs.declared.cursor.NextCall.TheVariants.{Command, Ended, ProgramCheck, ChainLimit}
use Rattle.script_places.specs.declared.place.Place.{Place}
use Rattle.script_places.specs.Places.{GoesOnFrom, HoldsNext, KnowsNext, KnowsItem, StandsAt, IsWithin, IsAt, IsPassed}
use Rattle.script_places.specs.Scripts.{Left, not_begun, next_of, program_left, left_by}
use Rattle.script_places.proofs.ScriptFacts.{live_calls}

-- ---- lists from a place on

pub drop_at : {A B : Type 0} (f : A → B) (xs : List A) (i : ℕ) (x : A) → i < length xs → x ≡ get_or xs i x → drop i (map f xs) ≡ f x ∷ drop (i + 1) (map f xs)
drop_at f [] i x below is = absurd (omega (arith, below))
drop_at f (y ∷ ys) zero x below is = λ i. f (sym is i) ∷ map f ys
drop_at f (y ∷ ys) (suc n) x below is =
    let e : suc n + 1 ≡ suc (n + 1) = omega arith in
    drop_at f ys n x (omega (arith, below)) is ∙ ap (λ (k : ℕ). f x ∷ drop k (f y ∷ map f ys)) (sym e)

-- an item that was looked up, which is this one
pub found : {A B : Type 0} (f : A → B) (xs : List A) (i : ℕ) (x y : A) → true ≡ nat_lt i (length xs) → x ≡ get_or xs i x → x ≡ y → drop i (map f xs) ≡ f y ∷ drop (i + 1) (map f xs)
found f xs i x y below at same = drop_at f xs i x (ltb-true i (length xs) (sym below)) at ∙ (λ k. f (same k) ∷ drop (i + 1) (map f xs))

-- ---- a program's next call

goes_on_of : (words : List CcwData) (at : Standing) (next : NextCall) (old new : Cursor) → Moves words at next old new → GoesOnFrom words at next new
goes_on_of words at (Command word chained) old new moves = moves
goes_on_of words at Ended old new moves = tt
goes_on_of words at ProgramCheck old new moves = tt
goes_on_of words at ChainLimit old new moves = tt

-- a program under way doesn't say that it has ended
never_ended : (words : List CcwData) (at : Standing) (next : NextCall) → is_some at.word ≡ true → Says words at next → next ≢ Ended
never_ended words at next live says ended =
    let none : next_call words at ≡ None = subst (λ (n : NextCall). Says words at n) ended says in
    let some = live_calls words at live in
    let is : next_call words at ≡ Some some.0 = some.1 in
    absurd cc

pub knows_next : (words : List CcwData) (at : Standing) (item : ℕ) (next : NextCall) (old new : Cursor) → is_some at.word ≡ true → Says words at next → Moves words at next old new
    → KnowsNext words at (record { item = item; next = next; cursor = new; call = None })
knows_next words at item next old new live says moves = record { call = says; some = never_ended words at next live says; goes_on = goes_on_of words at next old new moves }

pub holds_next : (words : List CcwData) (at : Standing) (next : NextCall) → Says words at next → HoldsNext words next
holds_next words at (Command word chained) says = says.held
holds_next words at Ended says = tt
holds_next words at ProgramCheck says = tt
holds_next words at ChainLimit says = tt

-- where it doesn't say so, it has a call
pub says_call : (words : List CcwData) (at : Standing) (next : NextCall) → next ≢ Ended → Says words at next → is_some (next_call words at) ≡ true
says_call words at (Command word chained) some says = ap is_some says.call
says_call words at Ended some says = absurd (some refl)
says_call words at ProgramCheck some says = ap is_some says
says_call words at ChainLimit some says = ap is_some says

-- ---- the call that waits at a place

-- none does at a place that was just come to
pub none_waits : (left : Left) (p : Place) → p.call ≡ None → IfSome p.call (λ call. next_of left.items left.at ≡ Some (call_of call))
none_waits left p fresh = subst (λ (o : Option Call). IfSome o (λ call. next_of left.items left.at ≡ Some (call_of call))) (sym fresh) tt

knows_still : (items : List ItemData) (at : Standing) (p : Place) (call : Option Call) → KnowsItem items at p → KnowsItem items at (record p { call = call })
knows_still [] at p call knows = tt
knows_still (mounting volume bind ∷ more) at p call knows = tt
knows_still (demounting ∷ more) at p call knows = tt
knows_still (program words ∷ more) at p call knows = record { call = knows.call; some = knows.some; goes_on = knows.goes_on }

module _ (script : List ItemData) (left : Left) (p : Place) (stands : StandsAt script left p) where
  -- it was taken
  pub stands_taken : StandsAt script left (record p { call = None })
  stands_taken = record { within = stands.within; items = stands.items; knows = knows_still left.items left.at p None stands.knows; waits = tt }

  -- another one waits
  pub stands_waiting : (call : Call) → next_of left.items left.at ≡ Some (call_of call) → StandsAt script left (record p { call = Some call })
  stands_waiting call next = record { within = stands.within; items = stands.items; knows = knows_still left.items left.at p (Some call) stands.knows; waits = next }

  -- it comes next
  pub waiting_next : (call : Call) → p.call ≡ Some call → Some (call_of call) ≡ next_of left.items left.at
  waiting_next call is = sym (subst (λ (o : Option Call). IfSome o (λ call. next_of left.items left.at ≡ Some (call_of call))) is stands.waits)

-- ---- at the start of an item

module _ (script : List ItemData) (i : ℕ) (p : Place) (within : i ≤ length script) (item : p.item ≡ i) (fresh : p.call ≡ None) where
  stands_by : (l : List ItemData) → drop i script ≡ l → KnowsItem l at_start p → StandsAt script (not_begun (drop i script)) p
  stands_by l is knows = record {
    within = subst (λ (n : ℕ). n ≤ length script) (sym item) within;
    items = ap (λ (n : ℕ). drop n script) (sym item);
    knows = subst (λ (m : List ItemData). KnowsItem m at_start p) (sym is) knows;
    waits = none_waits (not_begun (drop i script)) p fresh;
  }

  pub stands_begun : (words : List CcwData) (more : List ItemData) → drop i script ≡ program words ∷ more → KnowsNext words at_start p → StandsAt script (not_begun (drop i script)) p
  stands_begun words more is knows = stands_by (program words ∷ more) is knows

  pub stands_mount : (volume : ℕ) (bind : Bool) (more : List ItemData) → drop i script ≡ mounting volume bind ∷ more → StandsAt script (not_begun (drop i script)) p
  stands_mount volume bind more is = stands_by (mounting volume bind ∷ more) is tt

  pub stands_demount : (more : List ItemData) → drop i script ≡ demounting ∷ more → StandsAt script (not_begun (drop i script)) p
  stands_demount more is = stands_by (demounting ∷ more) is tt

  pub stands_behind : drop i script ≡ [] → StandsAt script (not_begun (drop i script)) p
  stands_behind is = stands_by [] is tt

-- ---- behind a reply

drop_next : {A : Type 0} (xs : List A) (i : ℕ) (x : A) (more : List A) → drop i xs ≡ x ∷ more → drop (i + 1) xs ≡ more
drop_next [] zero x more is = absurd cc
drop_next [] (suc n) x more is = absurd cc
drop_next (y ∷ ys) zero x more is = cc
drop_next (y ∷ ys) (suc n) x more is =
    let e : suc n + 1 ≡ suc (n + 1) = omega arith in
    (λ i. drop (e i) (y ∷ ys)) ∙ drop_next ys n x more is

module _ (script : List ItemData) (p : Place) (reply : ReplyData) (q : Place) where
  -- from the start of the next item on
  pub stands_next : (item : ItemData) (more : List ItemData) → drop p.item script ≡ item ∷ more → StandsAt script (not_begun (drop (p.item + 1) script)) q → StandsAt script (not_begun more) q
  stands_next item more is stands = subst (λ (l : List ItemData). StandsAt script (not_begun l) q) (drop_next script p.item item more is) stands

  pub passed_mount : (volume : ℕ) (bind : Bool) (rest : List ItemData) (left : Left) → drop p.item script ≡ mounting volume bind ∷ rest → left.items ≡ drop p.item script
      → StandsAt script (not_begun (drop (p.item + 1) script)) q → StandsAt script (left_by left.items left.at reply) q
  passed_mount volume bind rest left is at stands =
      subst (λ (l : List ItemData). StandsAt script (left_by l left.at reply) q) (sym (at ∙ is)) (stands_next (mounting volume bind) rest is stands)

  pub passed_demount : (rest : List ItemData) (left : Left) → drop p.item script ≡ demounting ∷ rest → left.items ≡ drop p.item script
      → StandsAt script (not_begun (drop (p.item + 1) script)) q → StandsAt script (left_by left.items left.at reply) q
  passed_demount rest left is at stands =
      subst (λ (l : List ItemData). StandsAt script (left_by l left.at reply) q) (sym (at ∙ is)) (stands_next demounting rest is stands)

  pub passed_program : (words : List CcwData) (rest : List ItemData) (left : Left) → drop p.item script ≡ program words ∷ rest → left.items ≡ drop p.item script
      → KnowsItem left.items left.at p → ((at : Standing) (more : List ItemData) → IsWithin script words at more p → IsPassed script words at more reply q) → StandsAt script (left_by left.items left.at reply) q
  passed_program words rest left is at knows passes =
      subst (λ (l : List ItemData). StandsAt script (left_by l left.at reply) q) (sym (at ∙ is))
      (passes left.at rest (record { items = is; knows = subst (λ (l : List ItemData). KnowsItem l left.at p) (at ∙ is) knows }))

  -- nothing was left
  pub passed_nothing : (left : Left) → drop p.item script ≡ [] → StandsAt script left p → q.item ≡ p.item → q.call ≡ None → StandsAt script (left_by left.items left.at reply) q
  passed_nothing left is stands same fresh =
      subst (λ (l : List ItemData). StandsAt script (left_by l left.at reply) q) (sym (stands.items ∙ is))
      (record {
        within = subst (λ (n : ℕ). n ≤ length script) (sym same) stands.within;
        items = sym is ∙ ap (λ (n : ℕ). drop n script) (sym same);
        knows = tt;
        waits = none_waits (not_begun []) q fresh;
      })

  module _ (words : List CcwData) (at : Standing) (more : List ItemData) (is : IsWithin script words at more p) where
    -- the program is finished
    pub passed_end : (standing_after words at reply).word ≡ None → StandsAt script (not_begun (drop (p.item + 1) script)) q → IsPassed script words at more reply q
    passed_end ended stands =
        subst (λ (w : Option ℕ). StandsAt script (program_left words more (standing_after words at reply) w) q) (sym ended)
        (stands_next (program words) more is.items stands)

    -- it goes on
    pub passed_on : p.item ≤ length script → q.item ≡ p.item → q.call ≡ None → (word : Option ℕ) → (standing_after words at reply).word ≡ word → is_some word ≡ true → KnowsNext words (standing_after words at reply) q
        → IsPassed script words at more reply q
    passed_on within same fresh None goes live knows = absurd (let e : false ≡ true = live in cc)
    passed_on within same fresh (Some word) goes live knows =
        subst (λ (w : Option ℕ). StandsAt script (program_left words more (standing_after words at reply) w) q) (sym goes)
        (record {
          within = subst (λ (n : ℕ). n ≤ length script) (sym same) within;
          items = sym is.items ∙ ap (λ (n : ℕ). drop n script) (sym same);
          knows = knows;
          waits = none_waits (record { items = program words ∷ more; at = standing_after words at reply }) q fresh;
        })

-- ---- which call comes next

pub next_program : (script : List ItemData) (p : Place) (words : List CcwData) (rest : List ItemData) (left : Left) → drop p.item script ≡ program words ∷ rest → StandsAt script left p → KnowsNext words left.at p
next_program script p words rest left is stands = subst (λ (l : List ItemData). KnowsItem l left.at p) (stands.items ∙ is) stands.knows

pub next_is : (script : List ItemData) (p : Place) (items : List ItemData) (left : Left) → drop p.item script ≡ items → StandsAt script left p → next_of items left.at ≡ next_of left.items left.at
next_is script p items left is stands = ap (λ (l : List ItemData). next_of l left.at) (sym (stands.items ∙ is))

-- ---- programs that are finished

no_word : (words : List CcwData) (at : Standing) → next_call words at ≡ None → at.word ≡ None
no_word words at none = by_word at.word none
  where
    by_word : (w : Option ℕ) → option_map (λ (x : ℕ). call_for words at.executed (word_reached words x)) w ≡ None → w ≡ None
    by_word None is = refl
    by_word (Some w) is = absurd cc

broken_there : (words : List CcwData) (executed : ℕ) (r : Option Reached) (why : BreakCause) (reply : ReplyData) → call_for words executed r ≡ break why → word_from words executed r reply ≡ None
broken_there words executed None why reply is = refl
broken_there words executed (Some r) why reply is = by_limit (nat_le CHAIN_LIMIT executed) is
  where
    by_limit : (full : Bool) → cond full (break cause.Limit) (command r.code r.argument (not (is_last words r.word))) ≡ break why → cond full None (word_after words r.word reply) ≡ None
    by_limit true same = refl
    by_limit false same = absurd cc

broken_ends : (words : List CcwData) (at : Standing) (why : BreakCause) (reply : ReplyData) → next_call words at ≡ Some (break why) → (standing_after words at reply).word ≡ None
broken_ends words at why reply next = by_word at.word next
  where
    by_word : (w : Option ℕ) → option_map (λ (x : ℕ). call_for words at.executed (word_reached words x)) w ≡ Some (break why) → word_from_standing words at.executed w reply ≡ None
    by_word None is = absurd cc
    by_word (Some w) is = let same : call_for words at.executed (word_reached words w) ≡ break why = cc in broken_there words at.executed (word_reached words w) why reply same

-- ---- after a reply, by what was to come

pub goes_where : (words : List CcwData) (at : Standing) (p : Place) (word : ℕ) (chained : Bool) → p.next ≡ Command word chained → KnowsNext words at p → (reply : ReplyData) → IsAt words at p.cursor reply
goes_where words at p word chained is knows = subst (λ (n : NextCall). GoesOnFrom words at n p.cursor) is knows.goes_on

pub ends_by_check : (words : List CcwData) (at : Standing) (p : Place) → p.next ≡ ProgramCheck → KnowsNext words at p → (reply : ReplyData) → (standing_after words at reply).word ≡ None
ends_by_check words at p is knows reply = broken_ends words at cause.Program reply (subst (λ (n : NextCall). Says words at n) is knows.call)

pub ends_by_limit : (words : List CcwData) (at : Standing) (p : Place) → p.next ≡ ChainLimit → KnowsNext words at p → (reply : ReplyData) → (standing_after words at reply).word ≡ None
ends_by_limit words at p is knows reply = broken_ends words at cause.Limit reply (subst (λ (n : NextCall). Says words at n) is knows.call)

pub ended_there : (words : List CcwData) (at : Standing) (cursor : Cursor) (reply : ReplyData) → IsAt words at cursor reply → next_call words (standing_of words cursor (Some reply)) ≡ None → (standing_after words at reply).word ≡ None
ended_there words at cursor reply same none = no_word words (standing_after words at reply) (ap (next_call words) (sym same) ∙ none)

pub on_err : {T E : Type 0} {P : Type 0} (r : Result T E) → P → OnErr r P
on_err (Ok x) p = tt
on_err (Err e) p = p

some_items : (item : ItemData) (more : List ItemData) → nat_lt 0 (length (item ∷ more)) ≡ true
some_items item more = lt-ltb 0 (length (item ∷ more)) (omega arith)

has_call_by : (items : List ItemData) (at : Standing) (p : Place) → KnowsItem items at p → nat_lt 0 (length items) ≡ is_some (next_of items at)
has_call_by [] at p knows = refl
has_call_by (mounting volume bind ∷ more) at p knows = some_items (mounting volume bind) more
has_call_by (demounting ∷ more) at p knows = some_items demounting more
has_call_by (program words ∷ more) at p knows = some_items (program words) more ∙ sym (says_call words at p.next knows.some knows.call)

left_below : {A : Type 0} (xs : List A) (i : ℕ) → nat_lt i (length xs) ≡ nat_lt 0 (length (drop i xs))
left_below [] zero = refl
left_below {A = A} [] (suc n) = le-ltb (suc n) 0 (omega arith)
left_below (x ∷ xs) zero = refl
left_below (x ∷ xs) (suc n) = same_less n (length xs) ∙ left_below xs n
  where
    same_less : (a b : ℕ) → nat_lt (suc a) (suc b) ≡ nat_lt a b
    same_less a b = by_less (nat_lt a b) refl
      where
        by_less : (less : Bool) → nat_lt a b ≡ less → nat_lt (suc a) (suc b) ≡ nat_lt a b
        by_less true is = (let e = ltb-true a b is in lt-ltb (suc a) (suc b) (omega (arith, e))) ∙ sym is
        by_less false is = (let e = ltb-false a b is in le-ltb (suc a) (suc b) (omega (arith, e))) ∙ sym is

pub call_left : (script : List ItemData) (p : Place) (left : Left) → StandsAt script left p → nat_lt p.item (length script) ≡ is_some (next_of left.items left.at)
call_left script p left stands = left_below script p.item ∙ ap (λ (l : List ItemData). nat_lt 0 (length l)) (sym stands.items) ∙ has_call_by left.items left.at p stands.knows
