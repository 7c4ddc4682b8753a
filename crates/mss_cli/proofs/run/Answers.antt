use Rattle.mss_files.specs.Output.{known_bytes}
use Rattle.mss_cli.proofs.run.Goals as goal

pub returns-clause-does : goal.returns-clause-does
returns-clause-does g c =
    let did = c.obey-ended in
    record {
      put = record { bytes = known_bytes did.new.output.contents; faults = did.new.output.faults };
      due = did.result.status;
      does = did.ensures.does;
      whole = did.ensures.whole;
      flushed = c.finish-status.ensures.flushed;
      kept = c.finish-status.ensures.told;
    }
