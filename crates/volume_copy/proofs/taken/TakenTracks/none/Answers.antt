use Rattle.std.proofs.Common.{rules, sym, subst}
use Rattle.volume_copy.specs.Copies.{AreNoneTaken}
use Rattle.volume_copy.proofs.TakenFacts.{none_behind}
use Rattle.volume_copy.proofs.taken.TakenTracks.none.Goals as goal

pub loop-init : goal.loop-init
loop-init c = record {
  long = search rules;
  none = λ n. search rules;
}

pub loop-preserved : goal.loop-preserved
loop-preserved c = record {
  long = search rules;
  none = subst AreNoneTaken (sym c.in_ok-push.ensures.items) (none_behind c.loop.tracks.items c.loop.invariant.none);
}
