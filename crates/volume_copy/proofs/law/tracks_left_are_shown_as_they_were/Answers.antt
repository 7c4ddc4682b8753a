use Rattle.std.proofs.Common.{sym, subst}
use Rattle.core_state.specs.IsCore.{opening_of}
use Rattle.ckd_plain.specs.History.{after}
use Rattle.std.specs.Prelude.{take}
use Rattle.volume_copy.specs.Copies.{LeavesSame}
use Rattle.volume_copy.proofs.EntryFacts.{left_is}
use Rattle.volume_copy.proofs.law.tracks_left_are_shown_as_they_were.Goals as goal

pub returns : goal.returns
returns c = λ copy core told none taking stands.
    subst (LeavesSame copy (after (opening_of core.site.told core) (take copy.point core.history)).volumes) (sym (told.going none).shows)
    (left_is copy (opening_of core.site.told core) core.history taking (stands none))
