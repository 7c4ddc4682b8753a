-- What the code's values stand for, and how what a function returned compares with what the definition gives.
use Rattle.std.specs.Prelude.{◌≡◌, ℕ, Option, Some, Result, Ok, Err}
use Rattle.channel_commands.specs.declared.call.Reply.{Reply}
use Rattle.channel_commands.specs.Views.{reply_of}
use Rattle.ckd_track.specs.Data.{RecordData}
use Rattle.ckd_plain.specs.declared.done.DoneCommand.{DoneCommand}
use Rattle.ckd_plain.specs.declared.found.FoundRecord.{FoundRecord}
use Rattle.ckd_plain.specs.declared.host.HostState.{HostState}
use Rattle.ckd_plain.specs.declared.unit_check.Refusal.{Refusal}
use Rattle.ckd_plain.specs.Index.{Found}
use Rattle.ckd_plain.specs.Effects.{Effect, effect_with}
use Rattle.ckd_plain.specs.Plain.{Answer}

abbrev pub item_of : FoundRecord → RecordData
item_of f = record { id = f.id; key = f.key.now; body = f.body.now }

abbrev pub found_of : FoundRecord → Found
found_of f = record { number = f.number; item = item_of f; host = f.host }

-- the record was found under this number, by a host that stays as it was
pub record IsFound (number : ℕ) (host : HostState) (f : FoundRecord) (given : Option RecordData) : Type 0 where
  pub item : given ≡ Some (item_of f)
  pub number_ : f.number ≡ number
  pub host_ : f.host ≡ host

-- what a function returned, seen by view, is what the definition gives
abbrev pub Gives : {X Y : Type 0} → (X → Y) → Result X Refusal → Result Y Refusal → Type 0
Gives view (Ok x) given = given ≡ Ok (view x)
Gives view (Err e) given = given ≡ Err e

-- a command that wrote nothing
abbrev pub effect_of : DoneCommand → Effect
effect_of d = effect_with d.status d.bytes.items d.host

-- the reply and the host alone
pub record Responds (a : Answer) (host : HostState) (reply : Reply) : Type 0 where
  pub reply_ : reply_of reply ≡ a.reply
  pub host_ : host ≡ a.host
