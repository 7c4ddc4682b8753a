-- What an answer says of the bytes that were put.
use Rattle.std.specs.Prelude.{◌≡◌, ℕ, List, ◌++◌, Result, Err}
use Rattle.mss_base.specs.Counts.{Rises}
use Rattle.mss_base.specs.Puts.{PutsFront}
use Rattle.report_text.specs.declared.report.ReportFault.{ReportFault as PartFault}
use Rattle.report_text.specs.declared.report.ReportFault.TheVariants as part
use Rattle.session_report.specs.declared.fault.ReportFault.{ReportFault}
use Rattle.session_report.specs.declared.fault.ReportFault.TheVariants as report_fault
use Rattle.session_report.specs.Parties.{Stream}

-- what is answered when a text was put
abbrev pub Answer : Type 0
Answer = Result (Unit {0}) ReportFault

-- why a part wasn't put whole
abbrev pub fault_of : PartFault → ReportFault
fault_of part.Output = report_fault.Output
fault_of part.Memory = report_fault.Memory

-- What an answer tells of a text: that it was put whole, with the answer that is due then, or a
-- front of it, since the sink failed, or memory ran out while none of its calls failed.
pub data IsPut (due : Answer) (text : List ℕ) (sink : Stream) (answer : Answer) : Type 0 where
  whole : answer ≡ due → (sink.tells → sink.now ≡ sink.was ++ text)
      → IsPut due text sink answer
  broken : answer ≡ Err report_fault.Output → Rises sink.faults_was sink.faults_now
      → (sink.tells → PutsFront sink.was sink.now text) → IsPut due text sink answer
  cut : answer ≡ Err report_fault.Memory → sink.faults_now ≡ sink.faults_was
      → (sink.tells → PutsFront sink.was sink.now text) → IsPut due text sink answer

-- the sink is told to have failed only where its count rose; with every other answer it stays
abbrev pub SinkCounts : ℕ → ℕ → Answer → Type 0
SinkCounts before now (Err report_fault.Output) = Rises before now
SinkCounts before now _ = now ≡ before
