use Rattle.volume_table.specs.Row.{blank_row}
use Rattle.table_pair.specs.Pair.{NoneOrNew}
use Rattle.shown_volumes.proofs.MomentFacts.{blank_new, creation_moments}
use Rattle.shown_volumes.proofs.law.creations_show_a_blank_volume.Goals as goal

pub returns-clause-moments : goal.returns-clause-moments
returns-clause-moments c = creation_moments

pub returns-clause-created : goal.returns-clause-created
returns-clause-created c = λ frames volume first second serial before now sound fresh within here.
    blank_new frames volume first second serial before now sound fresh (NoneOrNew volume (blank_row serial first second)) within here
