-- Two hosts and one frame, by computing: the first host's page has the frame and is held for it, so the second waits.
use Rattle.std.proofs.Common.{◌≡◌, ◌⊎◌, inr, ℕ, zero, suc, ◌+◌, ◌*◌, ◌<◌, true, false, [], ◌∷◌, Option, Some, None, refl, subst, arith}
use Rattle.std.specs.Prelude.{replicate, IsSome}
use Rattle.std.proofs.lemmas.Bool.{both_ways}
use Rattle.channel_commands.specs.Data.{CallData, command as ask}
use Rattle.ckd_plain.specs.Checks.{admitted_command}
use Rattle.ckd_plain.specs.Plain.{fresh_host}
use Rattle.mss_base.specs.Firsts.{first_below}
use Rattle.accessors.specs.Rails.{rail_start}
use Rattle.table_pair.specs.Slots.{no_slots}
use Rattle.volume_table.specs.Row.{RowValue}
use Rattle.fault_queue.specs.declared.queue.RequestState.{RequestState}
use Rattle.fault_queue.specs.declared.queue.RequestState.TheVariants.{Queued, Ready}
use Rattle.core_state.specs.declared.rule.WorkRule.TheVariants.{IsIdle}
use Rattle.core_state.specs.CoreValue.{CoreData}
use Rattle.core_state.specs.Pins.{owner_at, is_bound, is_held}
use Rattle.core_state.specs.HostRules.{host_rule}
use Rattle.core_state.specs.WorkRules.{work_rule}
use Rattle.core_state.specs.Chains.{IsSettled}
use Rattle.core_state.proofs.RuleRows.{no_devices}
use Rattle.core_state.proofs.RuleWalks.{some_is, none_some}
use Rattle.core_progress.specs.Progress.{NextCalls, is_kept_waiting, SomeoneGoesOn}
use Rattle.core_progress.specs.WorkLeft.{is_marked, run_left, settle_left}

-- a volume whose first page has this frame, or none, and whose first cylinder has this state
abbrev row : Option ℕ → ℕ → RowValue
row frame state = record { serial = 0x56 ∷ []; read_only = false; first = 0; second = 1; pages = frame ∷ replicate 50 None; states = state ∷ replicate 403 0 }

-- the hosts 1 and 2 have the volumes 0 and 1 mounted, and asked for their first cylinders
abbrev core : RequestState → CoreData
core state = record {
  site = no_devices;
  chooser = tt;
  config = record { frames = 1; recorders = 1; volumes = [] };
  rows = Some (row (Some 0) 2) ∷ Some (row None 1) ∷ replicate 30 None;
  used = replicate 32 no_slots;
  owners = Some (0, 0) ∷ [];
  moving = false ∷ [];
  recency = 0 ∷ [];
  requests = (1, record { volume = 0; cylinder = 0; state = state }) ∷ (2, record { volume = 1; cylinder = 0; state = Queued }) ∷ [];
  tasks = None ∷ [];
  recorders = None ∷ [];
  store = [];
  rail = rail_start;
  hosts = record fresh_host { mounted = Some (0, false) } ∷ record fresh_host { mounted = Some (1, false) } ∷ replicate 6 fresh_host;
  history = [];
  marks = [];
  console = [];
  events = [];
  first_write = 0;
  first_faults = 0;
  stopped = None;
}

abbrev search : CallData
search = ask 0x31 (0 ∷ 0 ∷ 0 ∷ 0 ∷ 0 ∷ []) true

abbrev both_call : NextCalls
both_call h = Some search

idle : work_rule (core Ready) 0 ≡ IsIdle
unfolding work_rule first_below
idle = refl

settled : IsSettled (core Ready)
settled = record {
  no_tasks = (refl, tt);
  no_cartridges = (refl, tt);
  requests_ = (tt, ((refl, held), tt));
} where
  held : (frame : ℕ) → frame < 1 → IsSome (owner_at (core Ready).owners frame) × ((is_bound (core Ready) frame ≡ true) ⊎ (is_held (core Ready) frame ≡ true))
  held zero low = (refl, inr refl)
  held (suc frame) low = absurd (omega (arith, low))

-- the second host is kept waiting, and the first isn't
waits_for_the_first : (is_kept_waiting (core Ready) 1 search ≡ false) × (is_kept_waiting (core Ready) 2 search ≡ true)
unfolding host_rule admitted_command first_below
waits_for_the_first = (refl, refl)

-- so the first goes on; where it has no call, nobody does
first_goes_on : SomeoneGoesOn (core Ready) both_call
first_goes_on = (1, search, refl, waits_for_the_first.0)

abbrev second_calls : NextCalls
second_calls (suc (suc zero)) = Some search
second_calls _ = None

nobody_goes_on : SomeoneGoesOn (core Ready) second_calls → ⊥
nobody_goes_on (zero, call, is, goes) = none_some call is
nobody_goes_on (suc zero, call, is, goes) = none_some call is
nobody_goes_on (suc (suc (suc h)), call, is, goes) = none_some call is
nobody_goes_on (suc (suc zero), call, is, goes) =
    both_ways (is_kept_waiting (core Ready) 2 call) goes (subst (λ c. is_kept_waiting (core Ready) 2 c ≡ true) (some_is search call is) waits_for_the_first.1)

-- ---- what is left

-- the second host's request, which waits: it may yet be picked, and its task have all to do; no entry is made, no host is
-- marked, and six hosts haven't asked
some_left : (settle_left (core Ready) ≡ 3 * 23) × (run_left (core Ready) ≡ 81 * 4096 + 9 * 8 + 6)
some_left = (refl, refl)

-- where the first host's cylinder is changed, and its request Ready, it is marked
abbrev marked_core : CoreData
marked_core = record (core Ready) { rows = Some (row (Some 0) 4) ∷ Some (row None 1) ∷ replicate 30 None }

one_is_marked : (is_marked (core Ready) 1 ≡ false) × (is_marked marked_core 1 ≡ true) × (run_left marked_core + 9 ≡ run_left (core Ready)) × (settle_left marked_core ≡ settle_left (core Ready) + 3 * 20)
one_is_marked = (refl, refl, refl, refl)
