use Rattle.std.proofs.Common.{◌+◌, arith}
use Rattle.mss_files.proofs.Transfers.{bytes_at-none, changes_none, changes_more, write_more}
use Rattle.mss_files.proofs.transfer.write_all.Goals as goal

pub loop-done-init : goal.loop-done-init
loop-done-init g c = record {
  within = omega arith;
  front = λ _. bytes_at-none _ c.args.at c.args.bytes.now;
  only = λ _. changes_none _ c.args.at _ _;
  still = λ sound. sound;
}

pub loop-done-preserved : goal.loop-done-preserved
loop-done-preserved g c = record {
  within = omega (arith, c.loop-done.invariant.within, c.in-Ok.ensures.within, c.split_at.ensures.back_len);
  front = λ told. write_more _ _ _ c.args.at c.loop-done.done c.in-Ok.count c.args.bytes.now _ c.split_at.ensures.back (c.loop-done.invariant.front told) (c.in-Ok.ensures.bytes told) (c.write_once.ensures.only told);
  only = λ told. changes_more _ c.args.at _ (c.args.at + c.loop-done.done) _ _ _ _ (c.loop-done.invariant.only told) (c.write_once.ensures.only told) (omega arith) (omega (arith, c.loop-done.invariant.within, c.split_at.ensures.back_len));
  still = λ sound. c.write_once.ensures.sound (c.loop-done.invariant.still sound);
}
