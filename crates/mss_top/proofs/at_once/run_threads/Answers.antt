use Rattle.std.proofs.Common.{Some, refl, ap}
use Rattle.command_words.specs.declared.command.Command.TheVariants as command
use Rattle.core_state.specs.CoreValue.{seen_site}
use Rattle.job_runs.specs.Parties.{devices}
use Rattle.session_report.specs.Parties.{sink_between, source_between}
use Rattle.mss_top.proofs.Threading.{ends_kept_out, jobless_threads}
use Rattle.mss_top.proofs.at_once.run_threads.Goals as goal

pub returns-in-Err-clause-ended : goal.returns-in-Err-clause-ended
returns-in-Err-clause-ended g c =
    let put = c.refuse_threads-in-Err in
    let asked = Some (command.Threads c.args.copy) in
    let input = source_between g.I.Source c.args.input.now c.job_of_input.new.input in
    ends_kept_out asked input (devices g.S.Site c.args.site put.result.run.site) (sink_between g.O.Sink c.args.output.now put.new.output) put.result.run.status put.result.hosts.items c.in-Err.line
    put.result.run.session put.ensures.session put.ensures.hosts (jobless_threads asked input c.in-Err.line (record { copy = c.args.copy; command = refl }) c.in-Err.ensures) (ap (seen_site g.S.Site) put.ensures.site) put.ensures.put
