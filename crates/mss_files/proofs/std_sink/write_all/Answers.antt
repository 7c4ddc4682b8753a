use Rattle.std.proofs.Common.{arith}
use Rattle.std.proofs.KnownBytes.{Appends-nil}
use Rattle.mss_files.proofs.Appending.{appends_more}
use Rattle.mss_files.proofs.std_sink.write_all.Goals as goal

pub loop-done-init : goal.loop-done-init
loop-done-init g c = record {
  within = omega arith;
  front = Appends-nil _;
}

pub loop-done-preserved : goal.loop-done-preserved
loop-done-preserved g c = record {
  within = omega (arith, c.loop-done.invariant.within, c.in-Ok.ensures.within, c.split_at.ensures.back_len);
  front = appends_more _ _ _ c.loop-done.done c.in-Ok.count c.args.bytes.now _ c.split_at.ensures.back c.loop-done.invariant.front c.in-Ok.ensures.bytes;
}
