use Rattle.std.proofs.Common.{◌≡◌, length, ap, arith}
use Rattle.mss_top.proofs.Admitting.{few_hosts}
use Rattle.mss_top.proofs.admission.host_count.Goals as goal

pub returns-clause-few : goal.returns-clause-few
returns-clause-few c =
    let few = few_hosts _ c.job.invariant in
    let same : length c.as_slice.result.now ≡ length c.job.inside.hosts.items = ap length c.as_slice.ensures in
    omega (arith, few, same)
