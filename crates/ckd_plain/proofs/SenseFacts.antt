-- A unit check sets the sense, sense tells it, and the next command of another kind clears it.
use Rattle.std.proofs.Common.{◌≡◌, ◌≢◌, ℕ, Bool, true, false, cond, List, [], ◌∷◌, ◌++◌, take, Option, Some, None, Result, Ok, Err, refl, ap, ◌∙◌, arith, length}
use Rattle.std.specs.Prelude.{◌==◌}
use Rattle.channel_commands.specs.Data.{command, done}
use Rattle.channel_commands.specs.declared.command.Command.{Command}
use Rattle.channel_commands.specs.declared.command.Command.TheVariants as ask
use Rattle.channel_commands.specs.declared.command.ReadWhat.{ReadWhat}
use Rattle.channel_commands.specs.declared.command.ReadWhat.TheVariants as what
use Rattle.channel_commands.specs.declared.command.SearchField.TheVariants as field
use Rattle.channel_commands.specs.declared.command.WriteKind.{WriteKind}
use Rattle.channel_commands.specs.declared.command.WriteKind.TheVariants as write
use Rattle.ckd_track.specs.Data.{RecordData}
use Rattle.ckd_plain.specs.declared.host.HostState.{HostState}
use Rattle.ckd_plain.specs.declared.host.Position.TheVariants as position
use Rattle.ckd_plain.specs.declared.host.Prior.{Prior}
use Rattle.ckd_plain.specs.declared.host.Prior.TheVariants as prior
use Rattle.ckd_plain.specs.declared.unit_check.Refusal.{Refusal}
use Rattle.ckd_plain.specs.declared.unit_check.UnitCheck.{UnitCheck}
use Rattle.ckd_plain.specs.Data.{State}
use Rattle.ckd_plain.specs.Checks.{◌>>=◌, admitted_command}
use Rattle.ckd_plain.specs.Index.{Tracks, Found, same_record}
use Rattle.ckd_plain.specs.Effects.{Effect, Outcome, DONE, status_of, search_status, prior_number, with_body, with_key_body, new_record, update_outcome, fits, format_outcome, search, read_outcome, write_, effect}
use Rattle.ckd_plain.specs.Plain.{Answer, UNIT_CHECK, sense_of, no_sense, keeps_sense, with_open_chain, host_for_command, outcome_answer, command_answer, answer_by_checks, answer_on_tracks, plain, tracks_under}
use Rattle.ckd_plain.specs.Laws.{refusal_in, check_of, unit_check_of, IsChecked}
use Rattle.ckd_plain.proofs.CheckFacts.{sense_admitted}
use Rattle.ckd_plain.proofs.CommandFacts.{Holds, after_step, anything, effect-leaves, Leaves}
use Rattle.ckd_plain.proofs.HostFacts.{host_itself}

-- ---- a command that does what it is for has another status than a unit check's

abbrev Ends : Outcome → Type 0
Ends o = Holds (λ (e : Effect). e.status ≢ UNIT_CHECK) (λ (r : Refusal). Unit {0}) o

ends_after : {X : Type 0} (r : Result X Refusal) (f : X → Outcome) → ((x : X) → Ends (f x)) → Ends (r >>= f)
ends_after {X} r f ends = after_step (λ (x : X). Unit {0}) (λ (e : Effect). e.status ≢ UNIT_CHECK) (λ (r : Refusal). Unit {0}) r f (anything r) (λ x u. ends x)

ends_found : (r : Result Found Refusal) (f : Found → Effect) → ((found : Found) → (f found).status ≢ UNIT_CHECK) → Ends (r >>= λ found. Ok (f found))
ends_found r f ends = ends_after r (λ found. Ok (f found)) ends

ends_home : (r : Result HostState Refusal) (f : HostState → Effect) → ((there : HostState) → (f there).status ≢ UNIT_CHECK) → Ends (r >>= λ there. Ok (f there))
ends_home r f ends = ends_after r (λ there. Ok (f there)) ends

search_ends : (met : Bool) → search_status met ≢ UNIT_CHECK
search_ends true is = omega arith
search_ends false is = omega arith

status_ends : (r : RecordData) → status_of r ≢ UNIT_CHECK
status_ends r = elim (length r.body == 0) as (λ (b : Bool). cond b 0x0D 0x0C ≢ UNIT_CHECK) [ true ↦ (λ is. omega arith) | false ↦ (λ is. omega arith) ]

done_ends : DONE ≢ UNIT_CHECK
done_ends is = omega arith

formatted_ends : (b : Bool) (track : List RecordData) (found : Found) → Ends (format_outcome b track found)
formatted_ends true track found = done_ends
formatted_ends false track found = tt

read_ends : (tracks : Tracks) (host : HostState) (kind : ReadWhat) (multi : Bool) → Ends (read_outcome tracks host kind multi)
unfolding read_outcome
read_ends tracks host what.Data multi = ends_found _ _ (λ found. status_ends found.item)
read_ends tracks host what.KeyData multi = ends_found _ _ (λ found. status_ends found.item)
read_ends tracks host what.CountKeyData multi = ends_found _ _ (λ found. status_ends found.item)
read_ends tracks host what.Count multi = ends_found _ _ (λ found. done_ends)
read_ends tracks host what.RecordZero multi = ends_home _ _ (λ there. done_ends)
read_ends tracks host what.Home multi = ends_home _ _ (λ there. done_ends)

write_ends : (track : List RecordData) (host : HostState) (left : Prior) (kind : WriteKind) (argument : List ℕ) → Ends (write_ track host left kind argument)
unfolding write_
write_ends track host left write.Data argument = ends_after (same_record track host (prior_number left)) (λ found. update_outcome track found (with_body found.item argument)) (λ found. status_ends found.item)
write_ends track host left write.KeyData argument = ends_after (same_record track host (prior_number left)) (λ found. update_outcome track found (with_key_body found.item argument)) (λ found. status_ends found.item)
write_ends track host left write.CountKeyData argument =
    ends_after (same_record track host (prior_number left)) (λ found. let new = take found.number track ++ new_record argument ∷ [] in format_outcome (fits new) new found)
    (λ found. formatted_ends _ _ found)

effect_ends : (tracks : Tracks) (host : HostState) (left : Prior) (c : Command) (argument : List ℕ) → Ends (effect tracks host left c argument)
unfolding effect search
effect_ends tracks host left ask.NoOp argument = done_ends
effect_ends tracks host left ask.Sense argument = done_ends
effect_ends tracks host left (ask.Seek kind) argument = done_ends
effect_ends tracks host left ask.Recalibrate argument = done_ends
effect_ends tracks host left ask.SetMask argument = done_ends
effect_ends tracks host left ask.SetSector argument = done_ends
effect_ends tracks host left (ask.Search field.Home test multi) argument = ends_home _ _ (λ there. search_ends _)
effect_ends tracks host left (ask.Search field.Id test multi) argument = ends_found _ _ (λ found. search_ends _)
effect_ends tracks host left (ask.Search field.Key test multi) argument = ends_found _ _ (λ found. search_ends _)
effect_ends tracks host left (ask.Read kind multi) argument = read_ends tracks host kind multi
effect_ends tracks host left (ask.Write kind) argument = write_ends (tracks host.head) host left kind argument

-- ---- the answer to a command that ends with unit check, and to one that doesn't

record IsCheckedAnswer (check : UnitCheck) (a : Answer) : Type 0 where
  reply_ : a.reply ≡ done UNIT_CHECK []
  sense_ : a.host.sense ≡ sense_of check
  chain_ : a.host.chain_open ≡ false

outcome_checked : (check : UnitCheck) (c : Command) (chained : Bool) (o : Outcome) → refusal_in o ≡ Some check → IsCheckedAnswer check (outcome_answer c chained o)
outcome_checked check c chained (Ok e) is = absurd cc
outcome_checked check c chained (Err r) is = let same : r.check ≡ check = cc in record { reply_ = refl; sense_ = ap sense_of same; chain_ = refl }

answer_checked : (check : UnitCheck) (tracks : Tracks) (host : HostState) (argument : List ℕ) (chained : Bool) (r : Result Command UnitCheck)
    → check_of tracks host argument r ≡ Some check → IsCheckedAnswer check (answer_by_checks tracks host argument chained r)
unfolding command_answer
answer_checked check tracks host argument chained (Ok c) is = outcome_checked check c chained _ is
answer_checked check tracks host argument chained (Err why) is = let same : why ≡ check = cc in record { reply_ = refl; sense_ = ap sense_of same; chain_ = refl }

outcome_unchecked : (c : Command) (chained : Bool) (o : Outcome) (bytes : List ℕ) → Ends o → refusal_in o ≡ None → (outcome_answer c chained o).reply ≢ done UNIT_CHECK bytes
outcome_unchecked c chained (Ok e) bytes ends none is = ends cc
outcome_unchecked c chained (Err r) bytes ends none is = absurd cc

answer_unchecked : (tracks : Tracks) (host : HostState) (argument : List ℕ) (chained : Bool) (r : Result Command UnitCheck) (bytes : List ℕ)
    → check_of tracks host argument r ≡ None → (answer_by_checks tracks host argument chained r).reply ≢ done UNIT_CHECK bytes
unfolding command_answer
answer_unchecked tracks host argument chained (Ok c) bytes none = outcome_unchecked c chained _ bytes (effect_ends tracks (host_for_command c host) host.prior c argument) none
answer_unchecked tracks host argument chained (Err why) bytes none = absurd cc

pub checked : (s : State) (h code : ℕ) (argument : List ℕ) (chained : Bool) (check : UnitCheck) → unit_check_of s h code argument ≡ Some check
    → IsChecked check h (plain s h (command code argument chained))
unfolding plain answer_on_tracks
checked s h code argument chained check is =
    let a = answer_checked check (tracks_under s.volumes (s.host h)) (with_open_chain (s.host h)) argument chained (admitted_command (with_open_chain (s.host h)) code argument) is in
    let there : cond (h == h) (answer_on_tracks (tracks_under s.volumes (s.host h)) (s.host h) code argument chained).host (s.host h) ≡ (answer_on_tracks (tracks_under s.volumes (s.host h)) (s.host h) code argument chained).host = host_itself s.host h _ in
    record { reply_ = a.reply_; sense_ = ap (λ (x : HostState). x.sense) there ∙ a.sense_; chain_ = ap (λ (x : HostState). x.chain_open) there ∙ a.chain_ }

pub unchecked : (s : State) (h code : ℕ) (argument : List ℕ) (chained : Bool) (bytes : List ℕ) → unit_check_of s h code argument ≡ None
    → (plain s h (command code argument chained)).0 ≢ done UNIT_CHECK bytes
unfolding plain answer_on_tracks
unchecked s h code argument chained bytes none = answer_unchecked (tracks_under s.volumes (s.host h)) (with_open_chain (s.host h)) argument chained (admitted_command (with_open_chain (s.host h)) code argument) bytes none

-- ---- sense

opened_sense : (host : HostState) → (with_open_chain host).sense ≡ host.sense
opened_sense host =
    elim host.chain_open as (λ (b : Bool). (cond b host (record host { chain_open = true; mask = 0; position = position.Start; passes = 0; prior = prior.Nothing })).sense ≡ host.sense) [ true ↦ refl | false ↦ refl ]

-- sense answers the sense, and leaves it
record IsSensed (host : HostState) (a : Answer) : Type 0 where
  reply_ : a.reply ≡ done DONE host.sense
  sense_ : a.host.sense ≡ host.sense

sense_answers : (tracks : Tracks) (host : HostState) (argument : List ℕ) (chained : Bool) → IsSensed host (answer_on_tracks tracks host 0x04 argument chained)
unfolding answer_on_tracks command_answer effect
sense_answers tracks host argument chained =
    rw (sense_admitted (with_open_chain host) argument) (record { reply_ = ap (λ (bytes : List ℕ). done DONE bytes) (opened_sense host); sense_ = opened_sense host })

sensed : (s : State) (h : ℕ) (argument : List ℕ) (chained : Bool)
    → ((plain s h (command 0x04 argument chained)).0 ≡ done DONE (s.host h).sense) × (((plain s h (command 0x04 argument chained)).1.host h).sense ≡ (s.host h).sense)
unfolding plain
sensed s h argument chained =
    let a = sense_answers (tracks_under s.volumes (s.host h)) (s.host h) argument chained in
    (a.reply_, ap (λ (x : HostState). x.sense) (host_itself s.host h (answer_on_tracks (tracks_under s.volumes (s.host h)) (s.host h) 0x04 argument chained).host) ∙ a.sense_)

-- the next sense of the host tells its unit check, and leaves the sense
pub told : (s : State) (h code : ℕ) (argument : List ℕ) (chained : Bool) (check : UnitCheck) (argument' : List ℕ) (chained' : Bool) → unit_check_of s h code argument ≡ Some check
    → let sensed = plain (plain s h (command code argument chained)).1 h (command 0x04 argument' chained') in
    (sensed.0 ≡ done DONE (sense_of check)) × ((sensed.1.host h).sense ≡ sense_of check)
told s h code argument chained check argument' chained' is =
    let there = (checked s h code argument chained check is).sense_ in
    let p = sensed (plain s h (command code argument chained)).1 h argument' chained' in
    (p.0 ∙ ap (λ (bytes : List ℕ). done DONE bytes) there, p.1 ∙ there)

-- ---- the sense after a command without unit check

outcome_clears : (m : Option (ℕ × Bool)) (sense_ : List ℕ) (mark : Bool) (c : Command) (chained : Bool) (o : Outcome) → Leaves m sense_ mark o → refusal_in o ≡ None → (outcome_answer c chained o).host.sense ≡ sense_
outcome_clears m sense_ mark c chained (Ok e) leaves none = leaves.1
outcome_clears m sense_ mark c chained (Err r) leaves none = absurd cc

judged_clears : (tracks : Tracks) (host : HostState) (argument : List ℕ) (chained : Bool) (c : Command) (r : Result Command UnitCheck)
    → r ≡ Ok c → check_of tracks host argument r ≡ None → (answer_by_checks tracks host argument chained r).host.sense ≡ (host_for_command c host).sense
unfolding command_answer
judged_clears tracks host argument chained c (Ok d) is none =
    let same : d ≡ c = cc in
    outcome_clears host.mounted (host_for_command d host).sense host.protected d chained _
    (effect-leaves host.mounted (host_for_command d host).sense host.protected tracks (host_for_command d host) host.prior d argument (refl, refl, refl)) none
    ∙ ap (λ (x : Command). (host_for_command x host).sense) same
judged_clears tracks host argument chained c (Err check) is none = absurd cc

pub clears : (s : State) (h code : ℕ) (argument : List ℕ) (chained : Bool) (c : Command) → admitted_command (with_open_chain (s.host h)) code argument ≡ Ok c → unit_check_of s h code argument ≡ None
    → ((plain s h (command code argument chained)).1.host h).sense ≡ cond (keeps_sense c) (s.host h).sense no_sense
unfolding plain answer_on_tracks
clears s h code argument chained c is none =
    ap (λ (x : HostState). x.sense) (host_itself s.host h (answer_on_tracks (tracks_under s.volumes (s.host h)) (s.host h) code argument chained).host)
    ∙ judged_clears (tracks_under s.volumes (s.host h)) (with_open_chain (s.host h)) argument chained c (admitted_command (with_open_chain (s.host h)) code argument) is none
    ∙ ap (λ (bytes : List ℕ). cond (keeps_sense c) bytes no_sense) (opened_sense (s.host h))
