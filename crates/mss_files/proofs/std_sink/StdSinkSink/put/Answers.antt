use Rattle.std.proofs.Common.{ap}
use Rattle.mss_files.specs.Output.{Output}
use Rattle.mss_files.proofs.Known.{still_known, puts_front}
use Rattle.mss_files.proofs.std_sink.StdSinkSink.put.Goals as goal

pub returns-in-Err-clause-bytes : goal.returns-in-Err-clause-bytes
returns-in-Err-clause-bytes g c = λ told.
    puts_front _ _ _ c.args.bytes.now (ap (λ (s : Output). s.contents) c.self.view_is) (still_known _ _ (told _)) c.in-Err.ensures.front
