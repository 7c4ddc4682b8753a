-- What the writes of a command leave, step by step.
use Rattle.std.proofs.Common.{◌≡◌, inl, inr, ℕ, ◌+◌, ◌-◌, ◌<◌, Bool, List, [], ◌∷◌, ◌++◌, take, Option, Some, None, Result, Ok, Err, sym, ap, ◌∙◌, subst, arith}
use Rattle.std.specs.Prelude.{◌&&◌, ◌==◌, if◌then◌else◌}
use Rattle.mss_base.specs.declared.place.UnitNo.{UnitNo}
use Rattle.mss_base.specs.declared.place.BlockPlace.{BlockPlace}
use Rattle.mss_base.specs.Content.{SiteLog, content, same_unit, Settles, Writes, ChangesBlock}
use Rattle.mss_base.proofs.Moments.{block_started, block_weaker, ended_with}
use Rattle.mss_base.proofs.Settling.{settles_none}
use Rattle.std.proofs.lemmas.Bool.{cases_Bool, and_parts, eqb-true, lt-ltb}
use Rattle.channel_commands.specs.declared.command.Command.{Command}
use Rattle.channel_commands.specs.declared.command.Command.TheVariants as command
use Rattle.channel_commands.specs.declared.command.WriteKind.TheVariants as write
use Rattle.ckd_track.specs.Data.{RecordData}
use Rattle.ckd_track.specs.Track.{reading, reading_of}
use Rattle.ckd_track.specs.Formatting.{IsFormatting, LaterGates, as_it_was, cut_short, completed}
use Rattle.ckd_plain.specs.declared.done.DoneCommand.{DoneCommand}
use Rattle.ckd_plain.specs.declared.host.Position.TheVariants as position
use Rattle.ckd_plain.specs.declared.host.Prior.TheVariants as prior
use Rattle.ckd_plain.specs.declared.unit_check.Refusal.{Refusal}
use Rattle.ckd_plain.specs.Effects.{Effect, Outcome, DONE, effect_with}
use Rattle.ckd_plain.specs.Views.{effect_of}
use Rattle.track_engine.specs.declared.find.RecordPlace.{RecordPlace}
use Rattle.track_engine.specs.declared.place.CylinderPlace.{CylinderPlace}
use Rattle.track_engine.specs.declared.place.NotDone.{NotDone}
use Rattle.track_engine.specs.declared.place.NotDone.TheVariants.{Refused, Fault}
use Rattle.track_engine.specs.declared.place.EngineFault.{EngineFault}
use Rattle.track_engine.specs.declared.place.EngineFault.TheVariants.{ReadFailed, WriteFailed, Memory}
use Rattle.track_engine.specs.Faults.{LeavesSite}
use Rattle.track_engine.specs.Found.{GivesBut}
use Rattle.track_engine.specs.Tracks.{AreTracks, AreTracksOn, IsBlockOn, IsTrackAt, tracks_on}
use Rattle.track_engine.specs.Writing.{IsStep, Target, target_in, WritesBlock, HoldsWritten, CarriesOut, written_of, effect_as, formatted_behind}

-- ---- formatting a record

abbrev format_command : Command
format_command = command.Write write.CountKeyData

-- what was done
abbrev done_with : Option (List RecordData) → DoneCommand → Outcome
done_with written d = Ok (effect_as written d)

-- with a track written
abbrev writes_too : List RecordData → Effect → Outcome
writes_too track e = Ok (record e { written = Some track })

module _ (to : BlockPlace) (s t : SiteLog) (at : RecordPlace) (r : RecordData) (a : List ℕ) (good : (reading a).bad ≡ None) where
  abbrev new_track : List RecordData
  new_track = take at.number (reading a).records ++ r ∷ []

  from_formatting : (b : List ℕ) → IsFormatting at.number r (reading a) (reading b) → IsStep format_command at.number (reading a).records new_track b
  from_formatting b formats = record {
    good = formats.track good;
    step = elim formats.records [ as_it_was is ↦ inl is | cut_short is ↦ inr (inr is) | completed is ↦ inr (inl is) ];
  }

  module _ (number : ℕ) (behind : number ≡ at.number + 1)
      (moments : Writes (ChangesBlock to.unit to.block (λ b. IsFormatting (number - 1) r (reading a) (reading b)) (content s)) s t) where
    before_is : number - 1 ≡ at.number
    before_is = omega arith

    steps : Writes (ChangesBlock to.unit to.block (IsStep format_command at.number (reading a).records new_track) (content s)) s t
    steps =
        block_weaker to.unit to.block (λ b. IsFormatting at.number r (reading a) (reading b)) (IsStep format_command at.number (reading a).records new_track) from_formatting s t
        (subst (λ (n : ℕ). Writes (ChangesBlock to.unit to.block (λ b. IsFormatting n r (reading a) (reading b)) (content s)) s t) before_is moments)

    pub format_carried_out : (d : DoneCommand) → effect_of d ≡ effect_with DONE [] (record at.host { position = position.Done number; prior = prior.Wrote number })
        → reading (content t to.unit to.block) ≡ reading_of (take (number - 1) (reading a).records ++ r ∷ []) → content s to.unit to.block ≡ a → LaterGates number a (content t to.unit to.block) → Settles s t
        → CarriesOut (Ok (formatted_behind (reading a).records r at)) format_command (target_in to a at) s t (Ok d)
    format_carried_out d does holds there later firm = record {
      outcome = ap (λ (n : ℕ). writes_too new_track (effect_with DONE [] (record at.host { position = position.Done n; prior = prior.Wrote n }))) (sym behind) ∙ ap (writes_too new_track) (sym does);
      moments = steps;
      exact = holds ∙ ap (λ (n : ℕ). reading_of (take n (reading a).records ++ r ∷ [])) before_is;
      gates = λ track is. subst (λ (p : ℕ × List ℕ). LaterGates p.0 p.1 (content t to.unit to.block)) (λ i. (behind i, sym there i)) later;
      firm = firm;
      log = tt;
    }

    pub format_failed : (fault : ℕ) → CarriesOut (Ok (formatted_behind (reading a).records r at)) format_command (target_in to a at) s t (Err (Fault (WriteFailed fault)))
    format_failed fault = record { outcome = tt; moments = steps; exact = tt; gates = λ track is. tt; firm = tt; log = tt }

-- ---- a command that wrote nothing

pub nothing_loose : (old new : SiteLog) → new ≡ old → Settles old new
nothing_loose old new same = subst (λ (s : SiteLog). Settles old s) (sym same) (settles_none old)

leaves : (old new : SiteLog) → new ≡ old → (fault : EngineFault) → LeavesSite old new fault
leaves old new same (ReadFailed fault) = same
leaves old new same (WriteFailed fault) = tt
leaves old new same Memory = same

-- a search or a read, whatever kept it from being done
module _ (given : Outcome) (c : Command) (to : Target) (old new : SiteLog) (unwritten : written_of given ≡ None) (same : new ≡ old) where
  moments_of : WritesBlock c to old new (written_of given)
  moments_of = subst (λ (written : Option (List RecordData)). WritesBlock c to old new written) (sym unwritten) same

  settled : Settles old new
  settled = nothing_loose old new same

  pub read_carried_out : (result : Result DoneCommand NotDone) → GivesBut effect_of result given → CarriesOut given c to old new result
  read_carried_out (Ok d) gives = record {
    outcome = gives ∙ ap (λ (written : Option (List RecordData)). done_with written d) (sym unwritten);
    moments = moments_of;
    exact = subst (λ (written : Option (List RecordData)). HoldsWritten written (reading (content new to.block.unit to.block.block))) (sym unwritten) tt;
    gates = λ track is. let none : None ≡ Some track = sym unwritten ∙ is in absurd cc;
    firm = settled;
    log = tt;
  }
  read_carried_out (Err (Refused refusal)) gives = record { outcome = gives; moments = moments_of; exact = tt; gates = λ track is. tt; firm = tt; log = same }
  read_carried_out (Err (Fault fault)) gives = record { outcome = tt; moments = moments_of; exact = tt; gates = λ track is. tt; firm = tt; log = leaves old new same fault }

-- ---- the tracks of a cylinder

-- after one of its blocks was written in steps, they are tracks again
pub tracks_stay : (c : Command) (k : ℕ) (track : List RecordData) (unit : UnitNo) (first head : ℕ) (old new : SiteLog) (w : Option (List RecordData))
    → WritesBlock c (record { block = record { unit = unit; block = first + head }; track = track; number = k }) old new w → AreTracks (content old) unit first → AreTracks (content new) unit first
tracks_stay c k track unit first head old new None same tracks = subst (λ (s : SiteLog). AreTracks (content s) unit first) (sym same) tracks
tracks_stay c k track unit first head old new (Some w) writes tracks = λ other low.
    let now = ended_with (ChangesBlock unit (first + head) (IsStep c k track w) (content old)) old new writes in
    elim (cases_Bool (same_unit unit unit && (first + head == first + other))) [
      | inl same ↦ ap (λ (block : ℕ). (reading (content new unit block)).bad) (sym (eqb-true (first + head) (first + other) (and_parts _ _ same).1)) ∙ now.here.good
      | inr others ↦ ap (λ (block : List ℕ). (reading block).bad) (now.others unit (first + other) others) ∙ tracks other low
    ]

-- ---- writes

-- a write that ended with unit check
pub refused_write : (given : Outcome) (c : Command) (to : Target) (old new : SiteLog) (refusal : Refusal) → given ≡ Err refusal → new ≡ old
    → CarriesOut given c to old new (Err (Refused refusal))
refused_write given c to old new refusal gives same = read_carried_out given c to old new (ap written_of gives) same (Err (Refused refusal)) gives

-- the tracks of a cylinder are those of its blocks
pub track_there : (s : SiteLog) (place : CylinderPlace) (head : ℕ) → head < 19 → (reading (content s place.unit (place.first_block + head))).records ≡ tracks_on s place head
track_there s place head low =
    ap (λ (there : Bool). if there then (reading (content s place.unit (place.first_block + head))).records else []) (sym (lt-ltb head 19 low))

-- a write that a failed read, or want of memory, kept from being begun
pub unbegun : (given : Outcome) (c : Command) (to : Target) (old new : SiteLog) (fault : EngineFault)
    → (reading (content old to.block.unit to.block.block)).bad ≡ None → (reading (content old to.block.unit to.block.block)).records ≡ to.track → new ≡ old
    → CarriesOut given c to old new (Err (Fault fault))
unbegun given c to old new fault good track same =
    record { outcome = tt; moments = begun (written_of given); exact = tt; gates = λ track is. tt; firm = tt; log = leaves old new same fault }
  where
    begun : (written : Option (List RecordData)) → WritesBlock c to old new written
    begun None = same
    begun (Some written) =
        let Step : List ℕ → Type 0 = IsStep c to.number to.track written in
        subst (λ (s : SiteLog). Writes (ChangesBlock to.block.unit to.block.block Step (content old)) old s) (sym same)
        (block_started to.block.unit to.block.block Step old (record { good = good; step = inl track }))

-- a write that was refused, or that such a fault kept from being begun
pub unwritten : {X : Type 0} (view : X → Effect) (given : Outcome) (c : Command) (to : Target) (old new : SiteLog) (why : NotDone) → GivesBut view (Err why) given
    → (reading (content old to.block.unit to.block.block)).bad ≡ None → (reading (content old to.block.unit to.block.block)).records ≡ to.track → new ≡ old
    → CarriesOut given c to old new (Err why)
unwritten view given c to old new (Refused refusal) gives good track same = refused_write given c to old new refusal gives same
unwritten view given c to old new (Fault fault) gives good track same = unbegun given c to old new fault good track same

-- the same said of equal things
pub carried_over : (given given' : Outcome) (c : Command) (to to' : Target) (old old' new : SiteLog) (result : Result DoneCommand NotDone)
    → given' ≡ given → to.number ≡ to'.number → to.track ≡ to'.track → to.block ≡ to'.block → old ≡ old'
    → CarriesOut given c to old new result → CarriesOut given' c to' old' new result
carried_over given given' c to to' old old' new result given_is number_is track_is block_is old_is carried =
    subst (λ (T : Type 0). T) (λ i. CarriesOut (sym given_is i) c (record { block = block_is i; track = track_is i; number = number_is i }) (old_is i) new result) carried

-- the block under a host, once it is brought
pub track_brought : (place : CylinderPlace) (head : ℕ) (to : BlockPlace) (s mid : SiteLog) (bytes : List ℕ) → IsBlockOn s place head bytes → AreTracksOn s place → head < 19
    → to ≡ record { unit = place.unit; block = place.first_block + head } → mid ≡ s → IsTrackAt (content mid) to bytes
track_brought place head to s mid bytes there tracks low to_is same = record {
  block = (λ i. content (same i) (to_is i).unit (to_is i).block) ∙ sym there.block;
  good = ap (λ (b : List ℕ). (reading b).bad) there.block ∙ tracks head low;
}
