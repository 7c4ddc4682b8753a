-- Which entries may come next, and what they leave.
use Rattle.std.proofs.Common.{◌≡◌, ℕ, ◌+◌, Bool, true, false, cond, List, Option, Some, None, Result, Ok, Err, refl, sym, ap, subst, ◌∙◌}
use Rattle.std.specs.Prelude.{IsSome, is_some}
use Rattle.channel_commands.specs.declared.call.BreakCause.TheVariants as cause
use Rattle.channel_commands.specs.declared.command.Command.{Command}
use Rattle.channel_commands.specs.Data.{CallData, mount, demount, command, break, ReplyData, done, mounted, demounted, already_mounted, not_mounted, no_volume, in_chain, program_check, chain_limit, equipment_check, no_space, stopped}
use Rattle.ckd_plain.specs.declared.host.HostState.{HostState}
use Rattle.ckd_plain.specs.declared.unit_check.UnitCheck.{UnitCheck}
use Rattle.ckd_plain.specs.declared.unit_check.UnitCheck.TheVariants as check
use Rattle.ckd_plain.specs.Data.{State}
use Rattle.ckd_plain.specs.Index.{Tracks}
use Rattle.ckd_plain.specs.Effects.{Outcome}
use Rattle.ckd_plain.specs.Plain.{with_open_chain, outcome_answer, command_answer, answer_by_checks, answer_on_tracks, plain, response_to, mark_for, mounted_by}
use Rattle.ckd_plain.specs.History.{EntryData, IsAnswered, IsNextEntry, IsAlone, IsDataCommand, IsWriteCommand, keeps_fault, state_after_check, left_by, state_after}

-- ---- the plain machine gives no exception

abbrev IsPlain : ReplyData → Bool
IsPlain equipment_check = false
IsPlain no_space = false
IsPlain stopped = false
IsPlain _ = true

chosen : (b : Bool) (x y : ReplyData × HostState) → IsPlain x.0 ≡ true → IsPlain y.0 ≡ true → IsPlain (cond b x y).0 ≡ true
chosen true x y p q = p
chosen false x y p q = q

answered_plain : (c : Command) (chained : Bool) (o : Outcome) → IsPlain (outcome_answer c chained o).reply ≡ true
answered_plain c chained (Ok e) = refl
answered_plain c chained (Err r) = refl

judged_plain : (tracks : Tracks) (host : HostState) (argument : List ℕ) (chained : Bool) (r : Result Command UnitCheck) → IsPlain (answer_by_checks tracks host argument chained r).reply ≡ true
unfolding command_answer
judged_plain tracks host argument chained (Ok c) = answered_plain c chained _
judged_plain tracks host argument chained (Err check) = refl

mounted_plain : (host : HostState) (volume : ℕ) (bind : Bool) (mark : Option Bool) → IsPlain (mounted_by host volume bind mark).0 ≡ true
mounted_plain host volume bind (Some read_only) = refl
mounted_plain host volume bind None = refl

plain_is_plain : (s : State) (h : ℕ) (c : CallData) → IsPlain (plain s h c).0 ≡ true
unfolding plain response_to answer_on_tracks
plain_is_plain s h (mount volume bind) =
    chosen (s.host h).chain_open _ _ refl (chosen (is_some (s.host h).mounted) _ _ refl (mounted_plain (s.host h) volume bind (mark_for s.volumes (mount volume bind))))
plain_is_plain s h demount = chosen (s.host h).chain_open _ _ refl (chosen (is_some (s.host h).mounted) _ _ refl refl)
plain_is_plain s h (command code argument chained) = judged_plain _ (with_open_chain (s.host h)) argument chained _
plain_is_plain s h (break cause.Program) = refl
plain_is_plain s h (break cause.Limit) = refl

-- ---- an entry with the plain reply

-- what a reply that is no exception says of its entry
record Says (s : State) (e : EntryData) (r : ReplyData) : Type 0 where
  answered : r ≡ (plain s e.host e.call).0 → IsAnswered s e r
  leaves : left_by r s e.host e.call ≡ (plain s e.host e.call).1
  no_fault : keeps_fault r ≡ false

says : (s : State) (e : EntryData) (r : ReplyData) → IsPlain r ≡ true → Says s e r
says s e (done status bytes) p = record { answered = λ q. q; leaves = refl; no_fault = refl }
says s e mounted p = record { answered = λ q. q; leaves = refl; no_fault = refl }
says s e demounted p = record { answered = λ q. q; leaves = refl; no_fault = refl }
says s e already_mounted p = record { answered = λ q. q; leaves = refl; no_fault = refl }
says s e not_mounted p = record { answered = λ q. q; leaves = refl; no_fault = refl }
says s e no_volume p = record { answered = λ q. q; leaves = refl; no_fault = refl }
says s e in_chain p = record { answered = λ q. q; leaves = refl; no_fault = refl }
says s e program_check p = record { answered = λ q. q; leaves = refl; no_fault = refl }
says s e chain_limit p = record { answered = λ q. q; leaves = refl; no_fault = refl }
says s e equipment_check p = absurd cc
says s e no_space p = absurd cc
says s e stopped p = absurd cc

pub plain_entry : (s : State) (before : ℕ) (e : EntryData) → e.reply ≡ (plain s e.host e.call).0 → e.number ≡ before + 1 → e.fault ≡ None → IsAlone s e.host e.call
    → IsNextEntry s before e × (state_after s e ≡ (plain s e.host e.call).1)
unfolding state_after
plain_entry s before e q number none alone =
    let facts = says s e e.reply (ap IsPlain q ∙ plain_is_plain s e.host e.call) in
    let fault : is_some e.fault ≡ keeps_fault e.reply = ap is_some none ∙ sym facts.no_fault in
    (record { number = number; answered = facts.answered q; fault = ((λ f. sym fault ∙ f), (λ k. fault ∙ k)); alone = alone }, facts.leaves)

-- ---- an entry with an exception in place of the plain reply

module _ (s : State) (before : ℕ) (e : EntryData) (number : e.number ≡ before + 1) (alone : IsAlone s e.host e.call) where
  exception : (r : ReplyData) → e.reply ≡ r → is_some e.fault ≡ keeps_fault r → IsAnswered s e r → IsNextEntry s before e
  exception r q f answered =
      let fault : is_some e.fault ≡ keeps_fault e.reply = f ∙ ap keeps_fault (sym q) in
      record { number = number; answered = subst (λ (x : ReplyData). IsAnswered s e x) (sym q) answered; fault = ((λ f. sym fault ∙ f), (λ k. fault ∙ k)); alone = alone }

  left : (r : ReplyData) → e.reply ≡ r → state_after s e ≡ left_by r s e.host e.call
  unfolding state_after
  left r q = ap (λ (x : ReplyData). left_by x s e.host e.call) q

  pub equipment_entry : e.reply ≡ equipment_check → IsSome e.fault → IsDataCommand s e.host e.call → IsNextEntry s before e × (state_after s e ≡ state_after_check check.EquipmentCheck s e.host)
  equipment_entry q fault asked = (exception equipment_check q fault asked, left equipment_check q)

  pub no_space_entry : e.reply ≡ no_space → e.fault ≡ None → IsDataCommand s e.host e.call → IsNextEntry s before e × (state_after s e ≡ state_after_check check.NoSpace s e.host)
  no_space_entry q none asked = (exception no_space q (ap is_some none) asked, left no_space q)

  pub stopped_entry : e.reply ≡ stopped → IsSome e.fault → IsWriteCommand s e.host e.call → IsNextEntry s before e × (state_after s e ≡ s)
  stopped_entry q fault asked = (exception stopped q fault asked, left stopped q)
