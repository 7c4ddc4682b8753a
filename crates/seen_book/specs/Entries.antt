-- Lists of entries.
use Rattle.std.specs.Prelude.{ℕ, ◌==◌, List, filter, None}
use Rattle.channel_commands.specs.Data.{demount, demounted}
use Rattle.ckd_plain.specs.History.{EntryData}

-- the entries of a host, in order
abbrev pub entries_of : ℕ → List EntryData → List EntryData
entries_of host log = filter (λ (e : EntryData). e.host == host) log

-- an entry of no host
abbrev pub no_entry : EntryData
no_entry = record { host = 0; number = 0; call = demount; reply = demounted; fault = None }
