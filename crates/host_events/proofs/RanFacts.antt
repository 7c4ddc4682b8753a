-- What a command that was run did, in the words of the events.
use Rattle.std.proofs.Common.{◌≡◌, ℕ, ◌+◌, ◌≤◌, Bool, true, false, cond, List, [], Option, Some, None, Ok, Err, inl, inr, refl, sym, ◌∙◌, ap, subst, arith}
use Rattle.std.specs.Prelude.{Result, IsOk}
use Rattle.std.proofs.lemmas.Bool.{cases_Bool, cond-true}
use Rattle.mss_base.specs.Content.{content}
use Rattle.mss_base.specs.Sites.{OnlyReads}
use Rattle.mss_base.specs.declared.place.BlockPlace.{BlockPlace}
use Rattle.mss_base.specs.declared.place.UnitNo.{UnitNo}
use Rattle.mss_base.specs.declared.site.Site.{Ghosts}
use Rattle.channel_commands.specs.Codes.{is_write}
use Rattle.channel_commands.specs.Data.{CallData, ReplyData, done}
use Rattle.channel_commands.specs.Views.{reply_of}
use Rattle.channel_commands.specs.declared.call.Reply.{Reply}
use Rattle.channel_commands.specs.declared.command.Command.{Command}
use Rattle.ckd_track.specs.Data.{RecordData}
use Rattle.ckd_track.specs.Track.{Reading, reading, reading_of}
use Rattle.ckd_plain.specs.declared.host.HostState.{HostState}
use Rattle.ckd_plain.specs.Effects.{prior_number}
use Rattle.ckd_plain.specs.Laws.{HasNoBytes}
use Rattle.ckd_plain.specs.Plain.{IsDone, IsSmooth, with_open_chain}
use Rattle.ckd_plain.proofs.WriteFacts.{no_bytes}
use Rattle.track_engine.specs.declared.place.CylinderPlace.{CylinderPlace}
use Rattle.track_engine.specs.Answers.{asked_command, ran, AsksNothing, RunsCommand, LeavesHost, LeavesDevices}
use Rattle.track_engine.specs.Faults.{HasUnitCheck, FailsBy, IsNoFailure}
use Rattle.track_engine.specs.declared.place.EngineFault.{EngineFault}
use Rattle.track_engine.specs.declared.place.EngineFault.TheVariants.{ReadFailed, WriteFailed, Memory}
use Rattle.track_engine.specs.Tracks.{tracks_at}
use Rattle.track_engine.specs.Writing.{WritesTrack, HoldsWritten, IsOfNothing}
use Rattle.core_state.specs.Devices.{StillHold, RunOn}
use Rattle.host_events.specs.Runs.{argument_of, is_chained, run_by, bare_write}
use Rattle.host_events.proofs.RunDoes.{look_is_still}
use Rattle.core_state.specs.CoreValue.{seen_site}

-- ---- a reply without the bytes that a write's reply doesn't have

bare_done : (c : Command) (r : ReplyData) → IsDone r → IsDone (bare_write c r)
bare_done c (done status bytes) is = tt
bare_done c _ is = is

bare_smooth : (c : Command) (r : ReplyData) → IsSmooth r → IsSmooth (bare_write c r)
bare_smooth c (done status bytes) is = is
bare_smooth c _ is = is

bare_check : (c : Command) (r : ReplyData) → HasUnitCheck (bare_write c r) → HasUnitCheck r
bare_check c (done status bytes) is = is
bare_check c _ is = is

bare_same : (c : Command) (r : ReplyData) → (is_write c ≡ true → HasNoBytes r) → bare_write c r ≡ r
bare_same c (done status bytes) none = by (is_write c) refl
  where
    by : (b : Bool) → is_write c ≡ b → done status (cond b [] bytes) ≡ done status bytes
    by true writes = ap (done status) (sym (none writes))
    by false reads = refl
bare_same c _ none = refl

holds_written : (w : Option (List RecordData)) (block : Reading) → ((track : List RecordData) → w ≡ Some track → block ≡ reading_of track) → HoldsWritten w block
holds_written None block each = tt
holds_written (Some track) block each = each track refl

err_not_ok : {T E : Type 0} (r : Result T E) (e : E) → r ≡ Err e → IsOk r → ⊥
err_not_ok r e is ok = let z = subst IsOk is ok in cc

bare_none : (c : Command) (r : ReplyData) → IsDone r → is_write c ≡ true → HasNoBytes (bare_write c r)
bare_none c (done status bytes) is writes = cond-true (is_write c) [] bytes writes
bare_none c _ is writes = absurd is

-- want of memory has taken no room
pub lacks_room : {S : Type 0} (g : Ghosts S) (by_write : Bool) (old new : S) (fault : EngineFault)
    → FailsBy g by_write old new fault → IsNoFailure fault → g.spare old ≤ g.spare new
lacks_room g by_write old new Memory fails sound = let e = fails.reads.room in omega (arith, e)
lacks_room g by_write old new (ReadFailed fault) fails sound = absurd sound
lacks_room g by_write old new (WriteFailed fault) fails sound = absurd sound

-- ---- what was done on a cylinder's blocks, by the command of a call with these bytes

module _ {S : Type 0} (g : Ghosts S) (c : Command) (call : CallData)
    (bytes : List ℕ) (bytes_is : bytes ≡ argument_of call) (linked : Bool) (linked_is : linked ≡ is_chained call)
    (place : CylinderPlace) (at : BlockPlace) (unit_is : place.unit ≡ at.unit) (first_is : place.first_block ≡ at.block) (host left : HostState) (old new : S) (reply : Reply)
    (runs : g.tells → RunsCommand (asked_command c bytes linked host place) (g.told old) (g.told new) (Ok reply) left) (leaves : LeavesHost linked host left (Ok reply))
    (site : LeavesDevices g c place.unit old new (Ok reply))
    (untouched : g.tells → AsksNothing (asked_command c bytes linked host place) (g.told old) → OnlyReads g old new) where
  there : (F : List ℕ → Bool → UnitNo → ℕ → Type 0) → F bytes linked place.unit place.first_block → F (argument_of call) (is_chained call) at.unit at.block
  there F f = subst (λ (p : List ℕ × Bool × UnitNo × ℕ). F p.0 p.1 p.2 p.3) (λ i. (bytes_is i, linked_is i, unit_is i, first_is i)) f

  pub run_on : (bare : ReplyData) → bare ≡ bare_write c (reply_of reply) → RunOn g.tells (run_by host at c call) (seen_site g old) (seen_site g new) (bare, left)
  run_on bare is = record {
    done_ = subst IsDone (sym is) (bare_done c (reply_of reply) leaves.done_);
    mounted_ = leaves.mounted_;
    chain = record { asked = λ open_. sym linked_is ∙ leaves.chain.asked open_; smooth = λ open_. subst IsSmooth (sym is) (bare_smooth c (reply_of reply) (leaves.chain.smooth open_)) };
    reply_ = λ tl.
        is ∙ ap (bare_write c) (there (λ a l u b. reply_of reply ≡ (ran (content (g.told old)) u b host c a l).reply) (runs tl).answer.reply_)
        ∙ bare_same c _ (no_bytes (tracks_at (content (g.told old)) at.unit at.block) (with_open_chain host) c (argument_of call) (is_chained call));
    host_ = λ tl. there (λ a l u b. left ≡ (ran (content (g.told old)) u b host c a l).host) (runs tl).answer.host_;
    moments = λ tl. there (λ a l u b. WritesTrack c (with_open_chain host) u b (g.told old) (g.told new) (ran (content (g.told old)) u b host c a l).written) (runs tl).writes;
    exact = λ tl. there (λ a l u b. HoldsWritten (ran (content (g.told old)) u b host c a l).written (reading (content (g.told new) u (b + host.head)))) (holds_written _ _ (runs tl).exact);
    firm = λ tl. (runs tl).firm;
    later = site.devices.written;
    few = site.few;
    looks = λ reads. (site.looks reads).unwritten;
    refused = λ checks. (site.unwritten (bare_check c (reply_of reply) (subst HasUnitCheck is checks))).unwritten;
    untouched = λ tl nothing.
        (untouched tl (subst (λ (p : UnitNo × ℕ). IsOfNothing c (prior_number (with_open_chain host).prior) (tracks_at (content (g.told old)) p.0 p.1 host.head)) (λ i. (sym unit_is i, sym first_is i)) nothing)).unwritten;
    sound = site.same;
  }

  -- a reply without bytes is copied without memory, so one whose copy fails is a search's or a read's
  pub look_reads : {T E : Type 0} (bare : ReplyData) → bare ≡ bare_write c (reply_of reply) → (copy : Result T E) (failure : E) → copy ≡ Err failure → (HasNoBytes bare → IsOk copy)
      → OnlyReads g old new
  look_reads bare is copy failure fails works = elim (cases_Bool (is_write c)) [
    | inl w ↦ absurd (err_not_ok copy failure fails (works (subst HasNoBytes (sym is) (bare_none c (reply_of reply) leaves.done_ w))))
    | inr reads ↦ site.looks reads
  ]

  pub look_still : {T E : Type 0} (bare : ReplyData) → bare ≡ bare_write c (reply_of reply) → (copy : Result T E) (failure : E) → copy ≡ Err failure → (HasNoBytes bare → IsOk copy)
      → StillHold g.tells (seen_site g old) (seen_site g new)
  look_still bare is copy failure fails works = elim (cases_Bool (is_write c)) [
    | inl w ↦ absurd (err_not_ok copy failure fails (works (subst HasNoBytes (sym is) (bare_none c (reply_of reply) leaves.done_ w))))
    | inr reads ↦ look_is_still g.tells (run_by host at c call) (seen_site g old) (seen_site g new) (bare, left) reads (run_on bare is)
  ]
