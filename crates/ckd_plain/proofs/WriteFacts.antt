-- What a write needs and what it is answered.
use Rattle.std.proofs.Common.{◌≡◌, inl, inr, ℕ, Bool, true, false, List, [], ◌∷◌, ◌++◌, take, Result, Ok, Err, refl, sym, ap, ◌∙◌}
use Rattle.std.proofs.lemmas.Bool.{cases_Bool, cond-true, cond-false}
use Rattle.channel_commands.specs.Codes.{is_write}
use Rattle.channel_commands.specs.declared.command.Command.{Command}
use Rattle.channel_commands.specs.declared.command.Command.TheVariants as command
use Rattle.channel_commands.specs.declared.command.WriteKind.{WriteKind}
use Rattle.channel_commands.specs.declared.command.WriteKind.TheVariants as write
use Rattle.ckd_track.specs.Data.{RecordData}
use Rattle.ckd_plain.specs.declared.host.HostState.{HostState}
use Rattle.ckd_plain.specs.declared.host.Prior.{Prior}
use Rattle.ckd_plain.specs.declared.host.Prior.TheVariants as prior
use Rattle.ckd_plain.specs.declared.unit_check.Refusal.{Refusal}
use Rattle.ckd_plain.specs.Checks.{◌>>=◌, is_prior_permitted, Passes}
use Rattle.ckd_plain.specs.Effects.{Outcome, prior_number, new_record, fits, format_outcome, write_, effect}
use Rattle.ckd_plain.specs.Index.{Tracks, Found, same_record}
use Rattle.ckd_plain.specs.Laws.{HasNoBytes}
use Rattle.ckd_plain.specs.Plain.{with_open_chain, outcome_answer, command_answer}

-- ---- the reply has no bytes

abbrev GivesNone : Outcome → Type 0
GivesNone (Ok e) = e.bytes ≡ []
GivesNone (Err r) = Unit {0}

none_after : (r : Result Found Refusal) (f : Found → Outcome) → ((x : Found) → GivesNone (f x)) → GivesNone (r >>= f)
none_after (Ok x) f each = each x
none_after (Err e) f each = tt

formatted_none : (b : Bool) (track : List RecordData) (found : Found) → GivesNone (format_outcome b track found)
formatted_none true track found = refl
formatted_none false track found = tt

write_none : (track : List RecordData) (host : HostState) (left : Prior) (kind : WriteKind) (argument : List ℕ) → GivesNone (write_ track host left kind argument)
unfolding write_
write_none track host left write.Data argument = none_after (same_record track host (prior_number left)) _ (λ found. refl)
write_none track host left write.KeyData argument = none_after (same_record track host (prior_number left)) _ (λ found. refl)
write_none track host left write.CountKeyData argument =
    none_after (same_record track host (prior_number left)) _ (λ found. let new : List RecordData = take found.number track ++ new_record argument ∷ [] in formatted_none (fits new) new found)

answered_none : (c : Command) (chained : Bool) (o : Outcome) → GivesNone o → HasNoBytes (outcome_answer c chained o).reply
answered_none c chained (Ok e) none = none
answered_none c chained (Err r) none = refl

pub no_bytes : (tracks : Tracks) (host : HostState) (c : Command) (argument : List ℕ) (chained : Bool) → is_write c ≡ true → HasNoBytes (command_answer tracks host c argument chained).reply
unfolding command_answer effect
no_bytes tracks host (command.Write kind) argument chained writes = answered_none (command.Write kind) chained _ (write_none _ _ host.prior kind argument)
no_bytes tracks host command.NoOp argument chained writes = absurd cc
no_bytes tracks host command.Sense argument chained writes = absurd cc
no_bytes tracks host (command.Seek kind) argument chained writes = absurd cc
no_bytes tracks host command.Recalibrate argument chained writes = absurd cc
no_bytes tracks host command.SetMask argument chained writes = absurd cc
no_bytes tracks host command.SetSector argument chained writes = absurd cc
no_bytes tracks host (command.Search field test multi) argument chained writes = absurd cc
no_bytes tracks host (command.Read what multi) argument chained writes = absurd cc

-- ---- the chain is open

-- a host with no chain has nothing for a write to follow
permits_no_write : (c : Command) → is_write c ≡ true → is_prior_permitted prior.Nothing c ≡ true → ⊥
permits_no_write (command.Write write.Data) w p = absurd cc
permits_no_write (command.Write write.KeyData) w p = absurd cc
permits_no_write (command.Write write.CountKeyData) w p = absurd cc
permits_no_write command.NoOp w p = absurd cc
permits_no_write command.Sense w p = absurd cc
permits_no_write (command.Seek kind) w p = absurd cc
permits_no_write command.Recalibrate w p = absurd cc
permits_no_write command.SetMask w p = absurd cc
permits_no_write command.SetSector w p = absurd cc
permits_no_write (command.Search field test multi) w p = absurd cc
permits_no_write (command.Read what multi) w p = absurd cc

pub in_chain : (host : HostState) (c : Command) (argument : List ℕ) → Passes (with_open_chain host) c argument → is_write c ≡ true → with_open_chain host ≡ host
in_chain host c argument passes w = elim (cases_Bool host.chain_open) [
  | inl open_ ↦ cond-true _ _ _ open_
  | inr shut ↦
      let fresh : (with_open_chain host).prior ≡ prior.Nothing = ap (λ (x : HostState). x.prior) (cond-false host.chain_open host _ shut) in
      absurd (permits_no_write c w (ap (λ p. is_prior_permitted p c) (sym fresh) ∙ passes.prior_))
]
