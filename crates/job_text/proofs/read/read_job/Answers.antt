use Rattle.job_text.specs.SoFar.{so_far}
use Rattle.job_text.specs.Words.{lines_of}
use Rattle.job_text.proofs.Whole.{read_whole}
use Rattle.job_text.proofs.read.read_job.Goals as goal

pub invariant_of-result : goal.invariant_of-result
invariant_of-result c =
    let job = read_whole (lines_of c.args.text.now) (so_far c.in_ok-reading.reading) c.as_slice.result.now c.in_ok-volumes.volumes.items
    c.in_ok-reading.ensures c.as_slice.ensures c.in_ok-volumes.ensures in
    job.config_

pub invariant_of-result-2 : goal.invariant_of-result-2
invariant_of-result-2 c =
    read_whole (lines_of c.args.text.now) (so_far c.in_ok-reading.reading) c.as_slice.result.now c.in_ok-volumes.volumes.items
    c.in_ok-reading.ensures c.as_slice.ensures c.in_ok-volumes.ensures

pub returns-clause-whole : goal.returns-clause-whole
returns-clause-whole c =
    read_whole (lines_of c.args.text.now) (so_far c.in_ok-reading.reading) c.as_slice.result.now c.in_ok-volumes.volumes.items
    c.in_ok-reading.ensures c.as_slice.ensures c.in_ok-volumes.ensures
