use Rattle.volume_table.specs.Changes.{with_mark}
use Rattle.table_pair.specs.Pair.{OldOrNew}
use Rattle.shown_volumes.proofs.MarkFacts.{marked_new, marking_moments}
use Rattle.shown_volumes.proofs.law.marks_are_shown.Goals as goal

pub returns-clause-moments : goal.returns-clause-moments
returns-clause-moments c = marking_moments

pub returns-clause-marked : goal.returns-clause-marked
returns-clause-marked c = λ frames volume on r before now sound there within here.
    marked_new frames before volume on r sound there now (OldOrNew volume (with_mark on r) before) within here
