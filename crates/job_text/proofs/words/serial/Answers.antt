use Rattle.job_text.proofs.Serials.{serial_of}
use Rattle.job_text.proofs.words.serial.Goals as goal

pub returns : goal.returns
returns c = serial_of c.of.result c.copy_from_slice.new.self c.args.word.now c.copy_from_slice.ensures.after c.of.ensures.in_range c.of.ensures.value
