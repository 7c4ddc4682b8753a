-- Devices that were read at most, one read after another.
use Rattle.std.proofs.Common.{◌≡◌, ℕ, Bool, length, Result, Ok, Err, ◌∙◌, ap, arith, subst}
use Rattle.std.specs.Prelude.{IfErr}
use Rattle.std.proofs.lemmas.Result.{on_ok_weaker}
use Rattle.mss_base.specs.Content.{SiteLog}
use Rattle.mss_base.specs.Counts.{Rises, IsFaultSince}
use Rattle.mss_base.specs.Sites.{OnlyReads}
use Rattle.mss_base.specs.declared.place.UnitNo.{UnitNo}
use Rattle.mss_base.specs.declared.site.Site.{Ghosts}
use Rattle.ckd_plain.specs.declared.done.DoneCommand.{DoneCommand}
use Rattle.track_engine.specs.declared.place.EngineFault.TheVariants.{ReadFailed, WriteFailed, Memory}
use Rattle.track_engine.specs.declared.place.NotDone.{NotDone}
use Rattle.track_engine.specs.declared.place.NotDone.TheVariants.{Refused, Fault}
use Rattle.track_engine.specs.Faults.{IsReadFault, IsUndone, HasNoFailedWrite, ReadsDevices, UsesDevices}

module _ {S : Type 0} (g : Ghosts S) where
  pub reads_then : (a b c : S) → OnlyReads g a b → OnlyReads g b c → OnlyReads g a c
  reads_then a b c first second = record {
    log = λ t. second.log t ∙ first.log t;
    room = second.room ∙ first.room;
    unwritten = second.unwritten ∙ first.unwritten;
    later = omega (arith, first.later, second.later);
    sound = λ but holds. second.sound but (first.sound but holds);
  }

  -- what keeps a search or a read from being done is what may keep any command from it
  pub undone_by_read : (by_write : Bool) (a b : S) → OnlyReads g a b → (e : NotDone) → IsReadFault (g.faults a) (g.faults b) e
      → IsUndone g by_write a b e
  undone_by_read by_write a b reads (Fault (ReadFailed fault)) is = record { reads = reads; cause = is }
  undone_by_read by_write a b reads (Fault (WriteFailed fault)) is = absurd is
  undone_by_read by_write a b reads (Fault Memory) is = record { reads = reads; same = is }
  undone_by_read by_write a b reads (Refused refusal) is = record { reads = reads; same = is }

  -- why it isn't done, where a read came before
  undone_later : (by_write : Bool) (a b c : S) (e : NotDone) → OnlyReads g a b → g.faults b ≡ g.faults a → IsUndone g by_write b c e → IsUndone g by_write a c e
  undone_later by_write a b c (Refused refusal) reads same is = record { reads = reads_then a b c reads is.reads; same = is.same ∙ same }
  undone_later by_write a b c (Fault (ReadFailed fault)) reads same is = record {
    reads = reads_then a b c reads is.reads;
    cause = subst (λ (n : ℕ). IsFaultSince n (g.faults c) fault) same is.cause;
  }
  undone_later by_write a b c (Fault (WriteFailed fault)) reads same is = record {
    asked = is.asked;
    wrote = subst (λ (n : ℕ). Rises n (g.writes c)) reads.unwritten is.wrote;
    cause = subst (λ (n : ℕ). IsFaultSince n (g.faults c) fault) same is.cause;
  }
  undone_later by_write a b c (Fault Memory) reads same is = record { reads = reads_then a b c reads is.reads; same = is.same ∙ same }

-- a fault of the later read is one of both
pub fault_later : (a b c : ℕ) (e : NotDone) → b ≡ a → IsReadFault b c e → IsReadFault a c e
fault_later a b c e same is = subst (λ (n : ℕ). IsReadFault n c e) same is

-- a read that wrote nothing, whatever kept it from being done
no_failed_write : (before now : ℕ) (e : NotDone) → IsReadFault before now e → HasNoFailedWrite e
no_failed_write before now (Fault (ReadFailed fault)) is = tt
no_failed_write before now (Fault (WriteFailed fault)) is = absurd is
no_failed_write before now (Fault Memory) is = tt
no_failed_write before now (Refused refusal) is = tt

module _ {S X : Type 0} (g : Ghosts S) (most : ℕ) (by_write : Bool) (unit : UnitNo) where
  -- a command that a search or a read kept from being done
  pub uses_broken : (a b : S) (e : NotDone) → ReadsDevices {X = X} g unit a b (Err e) → UsesDevices g most by_write unit a b (Err e)
  uses_broken a b e read = record {
    devices = record {
      room = omega (arith, read.reads.room);
      written = omega (arith, read.reads.unwritten);
      later = read.reads.later;
      sound = read.reads.sound;
    };
    few = λ tells. omega (arith, ap (λ (s : SiteLog). length s.log) (read.reads.log tells));
    looks = λ _. read.reads;
    same = tt;
    undone = undone_by_read g by_write a b read.reads e read.cause.failed;
    works = read.works;
    only_reads_fail = λ but so. no_failed_write (g.faults a) (g.faults b) e read.cause.failed;
  }

  -- a read, and behind it what the rest of the command did there
  pub uses_then : (to : UnitNo) (a b c : S) (x : X) (r : Result DoneCommand NotDone) → to ≡ unit → ReadsDevices g unit a b (Ok x) → UsesDevices g most by_write to b c r → UsesDevices g most by_write unit a c r
  uses_then to a b c x r to_is read uses = record {
    devices = record {
      room = omega (arith, read.reads.room, uses.devices.room);
      written = omega (arith, read.reads.unwritten, uses.devices.written);
      later = omega (arith, read.reads.later, uses.devices.later);
      sound = λ but so. uses.devices.sound but (read.reads.sound but so);
    };
    few = λ tells. omega (arith, ap (λ (s : SiteLog). length s.log) (read.reads.log tells), uses.few tells);
    looks = λ none. reads_then g a b c read.reads (uses.looks none);
    same = on_ok_weaker r (λ same. same ∙ read.cause.same) uses.same;
    undone = if_err_weaker r uses.undone;
    works = λ but so away. uses.works but (read.reads.sound but so) (ap but to_is ∙ away);
    only_reads_fail = λ but so. uses.only_reads_fail but (read.reads.sound but so);
  }
    where
      if_err_weaker : (r : Result DoneCommand NotDone) → IfErr r (IsUndone g by_write b c) → IfErr r (IsUndone g by_write a c)
      if_err_weaker (Ok d) is = tt
      if_err_weaker (Err e) is = undone_later g by_write a b c e read.reads read.cause.same is
