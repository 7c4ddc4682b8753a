-- A command that was carried out answers as the plain machine does.
use Rattle.std.proofs.Common.{◌≡◌, ℕ, ◌+◌, ◌≤◌, true, false, List, Option, Some, None, Result, Ok, Err, refl, sym, ap, subst, ◌∙◌, arith}
use Rattle.std.proofs.lemmas.Bool.{cond_both}
use Rattle.mss_base.specs.Sites.{MayWrite}
use Rattle.mss_base.specs.declared.place.UnitNo.{UnitNo}
use Rattle.mss_base.specs.declared.site.Site.{Ghosts}
use Rattle.mss_base.specs.Content.{SiteLog, content}
use Rattle.channel_commands.specs.declared.call.Reply.{Reply}
use Rattle.channel_commands.specs.declared.command.Command.{Command}
use Rattle.channel_commands.specs.declared.command.Command.TheVariants as command
use Rattle.channel_commands.specs.declared.command.WriteKind.TheVariants as write
use Rattle.channel_commands.specs.Codes.{is_write}
use Rattle.channel_commands.specs.Views.{reply_of}
use Rattle.ckd_track.specs.Data.{RecordData}
use Rattle.ckd_track.specs.Track.{reading}
use Rattle.mss_base.specs.Geometry.{format_items}
use Rattle.ckd_plain.specs.declared.done.DoneCommand.{DoneCommand}
use Rattle.ckd_plain.specs.declared.host.HostState.{HostState}
use Rattle.ckd_plain.specs.declared.unit_check.Refusal.{Refusal}
use Rattle.ckd_plain.specs.Index.{Tracks}
use Rattle.ckd_plain.specs.Effects.{Outcome, effect, is_ending, prior_number}
use Rattle.ckd_plain.specs.Plain.{Answer, UNIT_CHECK, with_open_chain, host_for_command, refusal_answer, effect_answer, outcome_answer, command_answer}
use Rattle.ckd_plain.specs.Views.{Responds}
use Rattle.ckd_plain.specs.Views.{effect_of}
use Rattle.track_engine.specs.declared.place.NotDone.{NotDone}
use Rattle.track_engine.specs.declared.place.NotDone.TheVariants.{Refused, Fault}
use Rattle.track_engine.specs.declared.place.EngineFault.{EngineFault}
use Rattle.channel_commands.specs.Data.{ReplyData, done}
use Rattle.track_engine.specs.Faults.{HasUnitCheck, UsesDevices}
use Rattle.track_engine.specs.Answers.{Asked, AsksNothing, ran_for, RunsCommand, LeavesDevices}
use Rattle.track_engine.specs.Tracks.{tracks_on, AreTracksOn}
use Rattle.track_engine.proofs.Steps.{nothing_loose, tracks_stay}
use Rattle.track_engine.specs.Writing.{HoldsWritten, LeavesGates, IsOfNothing, WritesTrack, CarriesOut, target_of, most_writes, written_of}
use Rattle.track_engine.proofs.Unwritten.{performed_written}

head-opened : (host : HostState) → (with_open_chain host).head ≡ host.head
head-opened host = cond_both host.chain_open _ _ (λ (h : HostState). h.head ≡ host.head) (λ _. refl) (λ _. refl)

module _ (a : Asked) (old new : SiteLog) (from ready : HostState) (from_is : from ≡ with_open_chain a.host) (ready_is : ready ≡ host_for_command a.command from) where
  abbrev tracks : Tracks
  tracks = tracks_on old a.place

  abbrev given : Outcome
  given = effect tracks (host_for_command a.command (with_open_chain a.host)) (with_open_chain a.host).prior a.command a.argument

  abbrev answer : Answer
  answer = ran_for a old

  -- the block of the host's head
  abbrev block : ℕ → List ℕ
  block head = content new a.place.unit (a.place.first_block + head)

  -- what was carried out for the host that was made ready
  abbrev pub Carried : Result DoneCommand NotDone → Type 0
  Carried result = CarriesOut (effect tracks ready from.prior a.command a.argument) a.command (target_of old a.place ready from.prior) old new result

  carried_for : (result : Result DoneCommand NotDone) → Carried result
      → CarriesOut given a.command (target_of old a.place (with_open_chain a.host) (with_open_chain a.host).prior) old new result
  carried_for result carried =
      subst (λ (h : HostState). CarriesOut (effect tracks (host_for_command a.command h) h.prior a.command a.argument) a.command (target_of old a.place h h.prior) old new result) from_is
      (subst (λ (h : HostState). CarriesOut (effect tracks h from.prior a.command a.argument) a.command (target_of old a.place h from.prior) old new result) ready_is carried)

  -- the same of the host that was made ready
  pub nothing_for : AsksNothing a old → IsOfNothing a.command (prior_number from.prior) (tracks ready.head)
  nothing_for none =
      let head_is : ready.head ≡ a.host.head = ap (λ (h : HostState). h.head) (ready_is ∙ ap (host_for_command a.command) from_is) ∙ head-opened a.host in
      subst (λ (p : HostState × ℕ). IsOfNothing a.command (prior_number p.0.prior) (tracks p.1)) (λ i. (sym from_is i, sym head_is i)) none

  answer_is : answer ≡ outcome_answer a.command a.chained given
  unfolding command_answer
  answer_is = refl

  written_is : answer.written ≡ written_of given
  written_is = performed_written tracks (with_open_chain a.host) a.command a.argument a.chained

  writes : (result : Result DoneCommand NotDone) → Carried result → WritesTrack a.command (with_open_chain a.host) a.place.unit a.place.first_block old new answer.written
  writes result carried =
      subst (λ (w : Option (List RecordData)). WritesTrack a.command (with_open_chain a.host) a.place.unit a.place.first_block old new w) (sym written_is) (carried_for result carried).moments

  still_tracks : (result : Result DoneCommand NotDone) → Carried result → AreTracksOn old a.place → AreTracksOn new a.place
  still_tracks result carried are = tracks_stay a.command _ _ a.place.unit a.place.first_block ready.head old new _ carried.moments are

  -- a reply and a host are those of an outcome's answer
  responds : (outcome : Outcome) (reply : Reply) (left : HostState) → given ≡ outcome → reply_of reply ≡ (outcome_answer a.command a.chained outcome).reply → left ≡ (outcome_answer a.command a.chained outcome).host
      → Responds answer left reply
  responds outcome reply left gives replies leaves =
      let is = answer_is ∙ ap (outcome_answer a.command a.chained) gives in
      record { reply_ = replies ∙ sym (ap (λ (a : Answer). a.reply) is); host_ = leaves ∙ sym (ap (λ (a : Answer). a.host) is) }

  refuses : (e : NotDone) (refusal : Refusal) → e ≡ Refused refusal → Carried (Err e) → given ≡ Err refusal
  refuses e refusal is carried = (carried_for (Err (Refused refusal)) (subst (λ (e : NotDone). Carried (Err e)) is carried)).outcome

  unwritten_by : (e : NotDone) (refusal : Refusal) → e ≡ Refused refusal → Carried (Err e) → new ≡ old
  unwritten_by e refusal is carried = (carried_for (Err (Refused refusal)) (subst (λ (e : NotDone). Carried (Err e)) is carried)).log

  pub runs_done : (d : DoneCommand) (reply : Reply) (left : HostState) → Carried (Ok d) → reply_of reply ≡ (effect_answer a.command a.chained (effect_of d)).reply → left ≡ (effect_answer a.command a.chained (effect_of d)).host
      → AreTracksOn old a.place → RunsCommand a old new (Ok reply) left
  runs_done d reply left carried replies leaves are = record {
    answer = responds _ reply left (carried_for (Ok d) carried).outcome replies leaves;
    writes = writes (Ok d) carried;
    exact = λ track is.
        ap (λ (head : ℕ). reading (block head)) (sym (head-opened a.host))
        ∙ subst (λ (w : Option (List RecordData)). HoldsWritten w (reading (block (with_open_chain a.host).head))) (sym written_is ∙ is) (carried_for (Ok d) carried).exact;
    gates = λ track is.
        subst (λ (head : ℕ). LeavesGates a.command (prior_number (with_open_chain a.host).prior + 1) (content old a.place.unit (a.place.first_block + head)) (block head)) (head-opened a.host)
        ((carried_for (Ok d) carried).gates track (sym written_is ∙ is));
    firm = (carried_for (Ok d) carried).firm;
    still_tracks = still_tracks (Ok d) carried are;
  }

  pub runs_refused : (e : NotDone) (refusal : Refusal) (reply : Reply) (left : HostState) → e ≡ Refused refusal → Carried (Err e) → reply_of reply ≡ (refusal_answer refusal).reply → left ≡ (refusal_answer refusal).host
      → AreTracksOn old a.place → RunsCommand a old new (Ok reply) left
  runs_refused e refusal reply left ends carried replies leaves are = record {
    answer = responds (Err refusal) reply left (refuses e refusal ends carried) replies leaves;
    writes = writes (Err e) carried;
    exact = λ track is.
        let none : None ≡ Some track = sym (ap written_of (refuses e refusal ends carried)) ∙ sym written_is ∙ is in
        absurd cc;
    gates = λ track is.
        let none : None ≡ Some track = sym (ap written_of (refuses e refusal ends carried)) ∙ sym written_is ∙ is in
        absurd cc;
    firm = nothing_loose old new (unwritten_by e refusal ends carried);
    still_tracks = still_tracks (Err e) carried are;
  }

  pub runs_failed : (e : NotDone) (fault : EngineFault) (left : HostState) → Carried (Err e) → AreTracksOn old a.place → RunsCommand a old new (Err fault) left
  runs_failed e fault left carried are = record { answer = tt; writes = writes (Err e) carried; exact = tt; gates = tt; firm = tt; still_tracks = still_tracks (Err e) carried are }

-- a command that ended otherwise is not told a unit check
pub has_no_unit_check : (status : ℕ) (bytes : List ℕ) (reply : ReplyData) → is_ending status ≡ true → reply ≡ done status bytes → HasUnitCheck reply → ⊥
unfolding is_ending
has_no_unit_check status bytes reply ends is checked =
    let e : status ≡ UNIT_CHECK = subst HasUnitCheck is checked in
    let none : is_ending status ≡ false = ap is_ending e in
    absurd cc

-- ---- what is left of the devices

most_fits : (c : Command) → most_writes c ≤ format_items
most_fits (command.Write write.Data) = omega arith
most_fits (command.Write write.KeyData) = omega arith
most_fits (command.Write write.CountKeyData) = omega arith
most_fits _ = omega arith

module _ {S : Type 0} (g : Ghosts S) (c : Command) (unit : UnitNo) (old new : S) where
  may_write : MayWrite g (most_writes c) old new → MayWrite g format_items old new
  may_write w = record { room = let few = most_fits c in omega (arith, w.room, few); written = w.written; later = w.later; sound = w.sound }

  abbrev Uses : Result DoneCommand NotDone → Type 0
  Uses result = UsesDevices g (most_writes c) (is_write c) unit old new result

  pub leaves_done : (d : DoneCommand) (reply : Reply) → Uses (Ok d) → reply_of reply ≡ done d.status d.bytes.items → LeavesDevices g c unit old new (Ok reply)
  leaves_done d reply uses is = record {
    devices = may_write uses.devices;
    few = uses.few;
    looks = uses.looks;
    unwritten = λ checked. absurd (has_no_unit_check d.status d.bytes.items (reply_of reply) d.ended is checked);
    same = uses.same;
    cause = tt;
    works = λ but holds sound. tt;
    only_reads_fail = λ but holds. tt;
  }

  pub leaves_refused : (e : NotDone) (refusal : Refusal) (reply : Reply) → e ≡ Refused refusal → Uses (Err e) → LeavesDevices g c unit old new (Ok reply)
  leaves_refused e refusal reply ends used =
      let uses = subst (λ (e : NotDone). Uses (Err e)) ends used in
      record {
        devices = may_write uses.devices;
        few = uses.few;
        looks = uses.looks;
        unwritten = λ checked. uses.undone.reads;
        same = uses.undone.same;
        cause = tt;
        works = λ but holds sound. tt;
        only_reads_fail = λ but holds. tt;
      }

  pub leaves_failed : (e : NotDone) (fault : EngineFault) → e ≡ Fault fault → Uses (Err e) → LeavesDevices g c unit old new (Err fault)
  leaves_failed e fault ends used =
      let uses = subst (λ (e : NotDone). Uses (Err e)) ends used in
      record {
        devices = may_write uses.devices;
        few = uses.few;
        looks = uses.looks;
        unwritten = tt;
        same = tt;
        cause = uses.undone;
        works = uses.works;
        only_reads_fail = uses.only_reads_fail;
      }
