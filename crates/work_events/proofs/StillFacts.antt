-- What an event that did nothing leaves of a site's room.
use Rattle.std.proofs.Common.{◌≡◌, ℕ, ◌≤◌, Option, Some, None, refl, sym, subst, arith}
use Rattle.std.specs.Option.{option_map, unwrap_or}
use Rattle.mss_base.specs.Firsts.{◌or◌}
use Rattle.mss_base.specs.declared.site.Site.{Ghosts}
use Rattle.core_state.specs.CoreValue.{CoreValue}
use Rattle.core_state.specs.WorkRules.{work_rule}
use Rattle.core_state.specs.declared.rule.WorkAnswer.{WorkAnswer}
use Rattle.core_state.specs.declared.rule.WorkRule.{WorkRule}
use Rattle.core_state.specs.declared.rule.WorkRule.TheVariants.{IsStopped, IsIdle}
use Rattle.work_events.specs.Steps.{DidNothing, IsUntold}

-- a rule other than that of a core that is stopped
abbrev pub GoesOnBy : WorkRule → Type 0
GoesOnBy (IsStopped fault) = ⊥
GoesOnBy _ = Unit {0}

first_stops : (stopped : Option ℕ) (later : Option WorkRule) (rule : WorkRule)
    → unwrap_or (option_map IsStopped stopped or later) IsIdle ≡ rule → GoesOnBy rule → stopped ≡ None
first_stops None later rule e goes = refl
first_stops (Some fault) later rule e goes = absurd (subst GoesOnBy (sym e) goes)

-- only a core that goes on meets another rule
pub going_by : {S C : Type 0} (v : CoreValue S C) (recorder : ℕ) (rule : WorkRule) → work_rule v recorder ≡ rule → GoesOnBy rule → v.stopped ≡ None
unfolding work_rule
going_by v recorder rule e goes = first_stops v.stopped _ rule e goes

-- an event that did nothing in a core that went on has told nothing
pub untold_of : (stopped : Option ℕ) (answer : WorkAnswer) → stopped ≡ None → DidNothing stopped answer → IsUntold answer
untold_of None answer going nothing = nothing
untold_of (Some fault) answer going nothing = absurd (cc)

-- a site that is as it was has the room that it had
pub same_room : {S : Type 0} (g : Ghosts S) {old new : S} → new ≡ old → g.spare old ≤ g.spare new
same_room g {old} same = subst (λ (s : _). g.spare old ≤ g.spare s) (sym same) (omega arith)
