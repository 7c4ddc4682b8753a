-- What a session began with, and that each later moment is one of that session.
use Rattle.std.specs.Prelude.{◌≡◌, Bool, [], Option, None, is_some}
use Rattle.mss_base.specs.declared.place.UnitNo.{UnitNo}
use Rattle.accessors.specs.Rails.{rail_start}
use Rattle.seen_book.specs.Openings.{OpeningData}
use Rattle.core_state.specs.CoreValue.{CoreData}
use Rattle.core_state.specs.IsCore.{opening_of}
use Rattle.volume_copy.specs.Copies.{AskedCopy}
use Rattle.mss_run.specs.Led.{LeadsTo}

-- which units' reads may fail, where no other call of the devices does
abbrev pub Failing : Type 1
Failing = (UnitNo → Bool) → Type 0

-- what a session is made of beside its opening: the core that it began with, what of its devices
-- may have failed then, and which copy is asked for, if one is
pub record SetupData : Type 1 where
  pub began : CoreData
  pub never_fails_but : Failing
  pub copy : Option AskedCopy

-- a core of nothing
abbrev pub no_core : CoreData
no_core = record {
  site = record { told = record { start = λ unit block. []; log = [] }; writes = 0; faults = 0 };
  chooser = tt;
  config = record { frames = 0; recorders = 0; volumes = [] };
  rows = [];
  used = [];
  owners = [];
  moving = [];
  recency = [];
  requests = [];
  tasks = [];
  recorders = [];
  store = [];
  rail = rail_start;
  hosts = [];
  history = [];
  marks = [];
  console = [];
  events = [];
  first_write = 0;
  first_faults = 0;
  stopped = None;
}

-- a setup that tells nothing
abbrev pub no_setup : SetupData
no_setup = record { began = no_core; never_fails_but = λ but. ⊥; copy = None }

-- events led from what the session with this opening and this setup began with to the core
pub record OpensWith (opening : OpeningData) (setup : SetupData) (tells : Type 0)
    (never_fails_but : Failing) (core : CoreData) : Type 0 where
  pub to : opening.tells → tells
  pub from : tells → opening.tells
  pub led : LeadsTo tells (is_some setup.copy) setup.began core
  pub state_ : tells → opening_of core.site.told core ≡ opening.state
  pub sound : (but : UnitNo → Bool) → setup.never_fails_but but → never_fails_but but
  pub only_reads_fail : (but : UnitNo → Bool) → setup.never_fails_but but
      → setup.began.stopped ≡ None → core.stopped ≡ None
