use Rattle.ckd_plain.proofs.WriteFacts.{no_bytes}
use Rattle.ckd_plain.proofs.laws.write_gives_no_bytes.Goals as goal

pub returns : goal.returns
returns c = no_bytes
