use Rattle.std.proofs.Common.{◌≡◌, List, Option, refl, sym, ◌∙◌, ap, subst, arith}
use Rattle.std.specs.Prelude.{is_some, IfSome}
use Rattle.volume_table.specs.Row.{RowValue}
use Rattle.core_state.specs.Beginning.{IsLater}
use Rattle.core_state.specs.CoreValue.{CoreValue, seen_core, seen_site}
use Rattle.core_state.specs.SessionData.{SessionData, data_of}
use Rattle.core_state.specs.Sessions.{session_data}
use Rattle.core_state.proofs.Later.{later_then}
use Rattle.core_state.proofs.Moved.{told_seen}
use Rattle.mss_restart.specs.Creations.{WritesOn}
use Rattle.volume_copy.specs.Beside.{asked_copy}
use Rattle.job_runs.specs.Copies.{IsCopyOf, job_with}
use Rattle.job_runs.specs.Runs.{AreRowsOf, IsPlayed}
use Rattle.job_runs.proofs.CopyTold.{copies_of}
use Rattle.job_runs.proofs.FinishFacts.{WasRead, halted_finished, later_read, part_same, told_going, was_read, whole_before}
use Rattle.job_runs.proofs.SessionFacts.{halted_by, played_of, promised_of, rows_of_core}
use Rattle.job_runs.proofs.run.play_on.Goals as goal

pub returns : goal.returns
returns g c =
    let ran = c.run_scripts-core.result in
    let leaves = c.run_scripts-core.ensures.leaves in
    let done = c.finish_copy-end in
    let left : CoreValue g.row.S.Denot g.row.C.Denot = done.new.core in
    let ended = c.into_session-site in
    let tells = g.S.Site.tells in
    let told = g.S.Site.told in
    let read : WasRead g.S.Site ran.core left = was_read g.S.Site ran.core left (is_some (asked_copy ran.copier)) done.ensures.core in
    let later : IsLater tells (seen_core g.S.Site c.args.core) (seen_core g.S.Site left) =
    later_then tells (seen_core g.S.Site c.args.core) (seen_core g.S.Site ran.core) (seen_core g.S.Site left) leaves.session (later_read g.S.Site ran.core left read) in
    let site : left.site ≡ ended.result.0 = sym ended.ensures.site in
    let session : data_of left ≡ session_data ended.result.1 = sym ended.ensures.session in
    let stop = part_same g.S.Site ran.core left read (λ (v : CoreValue g.row.S.Denot g.row.C.Denot). v.stopped) refl in
    record {
      devices = subst (λ (x : g.row.S.Denot). WritesOn g.S.Site c.args.core.site x) site
          (record { written = omega (arith, leaves.written, read.site_.unwritten); later = omega (arith, leaves.later, read.site_.later); sound = λ but never. read.site_.sound but (leaves.sound but never) });
      rows = subst (λ (x : g.row.S.Denot × SessionData × List (Option RowValue)). AreRowsOf tells (told x.0) x.1.stopped x.2) (λ i. (site i, session i, sym ended.ensures.rows i))
          (rows_of_core g.S.Site left c.look.ensures.told);
      only_reads_fail = λ but none. ap (λ (x : SessionData). x.stopped) (sym session) ∙ stop ∙ leaves.only_reads_fail but none c.requires.going;
      asked = done.ensures.asked ∙ leaves.copier_;
      session = λ was begun.
          let law = c.sessions_are_plain.ensures in
          subst (λ (x : g.row.S.Denot × SessionData). IsPlayed (g.C.Choose.may c.args.core.chooser) (job_with c.args.job.now c.args.copier) c.args.turns.now (record { tells = tells; was = was; now = seen_site g.S.Site x.0 }) done.result x.1) (λ i. (site i, session i))
          (played_of g.S.Site (g.C.Choose.may c.args.core.chooser) c.args.job.now c.args.turns.now c.args.core ran.core left c.args.copier ran.copier ran.end done.result
          c.run_scripts-core.ensures.goes c.run_scripts-core.ensures.follow c.run_scripts-core.ensures.reach leaves done.ensures.core done.ensures.ended was begun
          (promised_of g.S.Site c.args.core left c.args.job.now.config later c.look.ensures.told c.look.ensures.counted c.look.ensures.marked was begun
          (λ t over later' kept. law.plain c.args.job.now.config was (seen_core g.S.Site c.args.core) (seen_core g.S.Site left) t over later' kept)
          (λ t over later' kept. law.stops c.args.job.now.config was (seen_core g.S.Site c.args.core) (seen_core g.S.Site left) t over later' kept)));
      copy = λ was begun whole.
          let halts = halted_finished ran.copier ran.end done.result done.ensures.ended ran.core.stopped (halted_by ran.end c.args.core.stopped ran.core.stopped begun.begins.going leaves.halts) in
          let none = stop ∙ told_going done.result ran.core.stopped whole halts in
          subst (λ (x : g.row.S.Denot × SessionData). IfSome done.new.copier (IsCopyOf tells c.args.job.now.config was.told (g.S.Site.faults x.0) x.1)) (λ i. (site i, session i))
          (copies_of g.S.Site left c.args.job.now.config was.told none
          (λ t. c.sessions_are_plain.ensures.begins c.args.job.now.config was (seen_core g.S.Site c.args.core) (seen_core g.S.Site left) t (begun.over t) later (told_seen g.S.Site left (c.look.ensures.told t)))
          done.new.copier (done.ensures.copied whole (c.run_scripts-core.ensures.stands (whole_before ran.copier ran.end done.result done.ensures.ended whole))));
    }
