use Rattle.ckd_plain.proofs.WrittenFacts.{put_behind}
use Rattle.ckd_plain.proofs.laws.write_puts_its_record.Goals as goal

pub returns : goal.returns
returns c = put_behind
