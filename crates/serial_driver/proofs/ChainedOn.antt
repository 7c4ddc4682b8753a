-- A chain that is open behind a reply is that of a program, which goes on.
use Rattle.std.proofs.Common.{◌≡◌, ℕ, ◌+◌, Bool, true, false, cond, List, [], ◌∷◌, Option, Some, None, refl, sym, ap, subst}
use Rattle.std.specs.Prelude.{is_some, not, ◌||◌, nat_le, option_map}
use Rattle.std.proofs.lemmas.Bool.{cond_both, false≢true}
use Rattle.channel_commands.specs.declared.call.BreakCause.TheVariants as cause
use Rattle.channel_commands.specs.Data.{CallData, mount, demount, command, break, ReplyData, done, has_trouble, CcwData}
use Rattle.channel_program.specs.Script.{ItemData, mounting, demounting, program, Standing, Reached, next_call, call_for, word_reached, standing_after, word_from, word_from_standing, word_after, is_last, has_modifier, CHAIN_LIMIT}
use Rattle.ckd_plain.specs.declared.host.HostState.{HostState}
use Rattle.ckd_plain.specs.Plain.{IsSmooth}
use Rattle.script_places.specs.Scripts.{next_of, program_left, left_by}
use Rattle.serial_driver.specs.Drives.{IsInProgram}

-- the host's chain was open already, or the call kept it open
abbrev pub ChainsOn : HostState → CallData → ReplyData → Type 0
ChainsOn host (command code argument chained) reply = (chained ≡ true) × IsSmooth reply
ChainsOn host (break why) reply = ⊥
ChainsOn host _ reply = host.chain_open ≡ true

-- ---- a program makes no mount and no demount

abbrev IsNoCall : CallData → Type 0
IsNoCall (mount volume bind) = Unit {0}
IsNoCall demount = Unit {0}
IsNoCall _ = ⊥

never_for : (words : List CcwData) (executed : ℕ) (r : Option Reached) → IsNoCall (call_for words executed r) → ⊥
never_for words executed None is = is
never_for words executed (Some r) is =
    cond_both (nat_le CHAIN_LIMIT executed) (break cause.Limit) (command r.code r.argument (not (is_last words r.word))) (λ (k : CallData). IsNoCall k → ⊥) (λ _ isnt. isnt) (λ _ isnt. isnt) is

never : (words : List CcwData) (at : Standing) (call : CallData) → next_call words at ≡ Some call → IsNoCall call → ⊥
never words at call next isnt = by_word at.word next
  where
    by_word : (w : Option ℕ) → option_map (λ (x : ℕ). call_for words at.executed (word_reached words x)) w ≡ Some call → ⊥
    by_word None is = absurd cc
    by_word (Some w) is =
        let same : call_for words at.executed (word_reached words w) ≡ call = cc in
        never_for words at.executed (word_reached words w) (subst IsNoCall (sym same) isnt)

-- ---- a chain that is open behind a reply

-- behind a command that isn't the last word, and ended well, there is a word to go to
word_behind : (words : List CcwData) (w status : ℕ) (bytes : List ℕ) → is_last words w ≡ false → has_trouble status ≡ false → is_some (word_after words w (done status bytes)) ≡ true
word_behind words w status bytes more smooth =
    ap (λ (b : Bool). is_some (cond b None (Some (cond (has_modifier status) (w + 2) (w + 1))))) (both (has_trouble status) (is_last words w) smooth more)
  where
    both : (a b : Bool) → a ≡ false → b ≡ false → (a || b) ≡ false
    both true b is more' = absurd (false≢true (sym is))
    both false b is more' = more'

chained_on : (words : List CcwData) (executed : ℕ) (r : Option Reached) (code : ℕ) (argument : List ℕ) (reply : ReplyData)
    → call_for words executed r ≡ command code argument true → IsSmooth reply → is_some (word_from words executed r reply) ≡ true
chained_on words executed None code argument reply is smooth = absurd cc
chained_on words executed (Some r) code argument reply is smooth = by_limit (nat_le CHAIN_LIMIT executed) is
  where
    smooth_word : (reply' : ReplyData) → IsSmooth reply' → is_last words r.word ≡ false → is_some (word_after words r.word reply') ≡ true
    smooth_word (done status bytes) well more = word_behind words r.word status bytes more well
    smooth_word _ well more = absurd well

    by_limit : (full : Bool) → cond full (break cause.Limit) (command r.code r.argument (not (is_last words r.word))) ≡ command code argument true
        → is_some (cond full None (word_after words r.word reply)) ≡ true
    by_limit true same = absurd cc
    by_limit false same = smooth_word reply smooth (let e : not (is_last words r.word) ≡ true = cc in not_true (is_last words r.word) e)
      where
        not_true : (b : Bool) → not b ≡ true → b ≡ false
        not_true true e = absurd (false≢true e)
        not_true false e = refl

program_on : (words : List CcwData) (at : Standing) (code : ℕ) (argument : List ℕ) (reply : ReplyData) → next_call words at ≡ Some (command code argument true) → IsSmooth reply
    → is_some (standing_after words at reply).word ≡ true
program_on words at code argument reply next smooth = by_word at.word next
  where
    by_word : (w : Option ℕ) → option_map (λ (x : ℕ). call_for words at.executed (word_reached words x)) w ≡ Some (command code argument true)
        → is_some (word_from_standing words at.executed w reply) ≡ true
    by_word None is = absurd cc
    by_word (Some w) is =
        let same : call_for words at.executed (word_reached words w) ≡ command code argument true = cc in
        chained_on words at.executed (word_reached words w) code argument reply same smooth

goes_on_in : (words : List CcwData) (more : List ItemData) (at : Standing) (word : Option ℕ) → is_some word ≡ true → IsInProgram (program_left words more at word).items
goes_on_in words more at None is = absurd (false≢true is)
goes_on_in words more at (Some word) is = tt

-- a call is none that a script in a program makes
pub open_goes_on : (items : List ItemData) (at : Standing) (host : HostState) (call : CallData) (reply : ReplyData) → next_of items at ≡ Some call
    → (host.chain_open ≡ true → IsInProgram items) → ChainsOn host call reply → IsInProgram (left_by items at reply).items
open_goes_on [] at host call reply next within chains = absurd cc
open_goes_on (mounting volume bind ∷ more) at host call reply next within chains =
    let e : mount volume bind ≡ call = cc in absurd (within (subst (λ (k : CallData). ChainsOn host k reply) (sym e) chains))
open_goes_on (demounting ∷ more) at host call reply next within chains =
    let e : demount ≡ call = cc in absurd (within (subst (λ (k : CallData). ChainsOn host k reply) (sym e) chains))
open_goes_on (program words ∷ more) at host (command code argument chained) reply next within chains =
    goes_on_in words more (standing_after words at reply) (standing_after words at reply).word
    (program_on words at code argument reply (subst (λ (b : Bool). next_call words at ≡ Some (command code argument b)) chains.0 next) chains.1)
open_goes_on (program words ∷ more) at host (break why) reply next within chains = absurd chains
open_goes_on (program words ∷ more) at host (mount volume bind) reply next within chains = absurd (never words at (mount volume bind) next tt)
open_goes_on (program words ∷ more) at host demount reply next within chains = absurd (never words at demount next tt)
