use Rattle.std.proofs.Common.{◌≡◌, ◌≤◌, ◌<◌, ◌+◌, Bool, ◌&&◌, sym, ◌∙◌, ap, subst, arith}
use Rattle.core_state.specs.CoreValue.{CoreValue, seen_core}
use Rattle.serial_driver.specs.Drives.{terms_of}
use Rattle.serial_driver.specs.Answers.{of_work}
use Rattle.serial_driver.specs.declared.answer.DriveAnswer.TheVariants.{Done}
use Rattle.serial_driver.proofs.EventRuns.{leaves_none}
use Rattle.serial_driver.proofs.TurnFacts.{TurnSoFar, turn_begins, one_leaves, one_goes, one_halts, turn_over}
use Rattle.serial_driver.proofs.drive.Drive.turn.Goals as goal

pub loop-number-init : goal.loop-number-init
loop-number-init g c = record {
  so_far = turn_begins (terms_of g.S.Site g.C.Choose.may c.args.self.now) (seen_core g.S.Site c.args.self.now.core);
  leaves = leaves_none g.S.Site c.args.self.now;
}

pub loop-number-preserved : goal.loop-number-preserved
loop-number-preserved g c =
    let low : c.loop-number.number < c.args.self.now.core.config.recorders =
    omega (arith, c.loop-number-test.true, c.recorder_count-recorders.ensures.value, ap (λ (v : CoreValue g.row.S.Denot g.row.C.Denot). v.config.recorders) c.core.ensures.value) in
    let done : of_work c.work_of-told.result ≡ Done = sym c.answer_of.ensures ∙ c.in-Done.is in
    record {
      so_far =
          subst (λ (b : Bool). TurnSoFar (terms_of g.S.Site g.C.Choose.may c.args.self.now) (seen_core g.S.Site c.args.self.now.core) (c.loop-number.number + 1) (c.loop-number.idle && b) (seen_core g.S.Site c.work_of-told.new.self.core)) (sym (c.is_idle-idle.ensures c.loop-number.number))
          (one_goes g.S.Site g.C.Choose.may c.loop-number.number c.loop-number.idle c.args.self.now c.loop-number.self c.work_of-told.new.self low c.loop-number.invariant.so_far c.loop-number.invariant.leaves c.work_of-told.result c.work_of-told.ensures.event c.work_of-told.ensures.leaves done c.work_of-told.ensures.history (c.work_of-told.ensures.less done));
      leaves = one_leaves g.S.Site g.C.Choose.may c.loop-number.number c.loop-number.idle c.args.self.now c.loop-number.self c.work_of-told.new.self low c.loop-number.invariant.so_far c.loop-number.invariant.leaves c.work_of-told.result c.work_of-told.ensures.event c.work_of-told.ensures.leaves Done (sym done);
    }

pub returns-in_default : goal.returns-in_default
returns-in_default g c =
    let low : c.loop-number.number < c.args.self.now.core.config.recorders =
    omega (arith, c.loop-number-test.true, c.recorder_count-recorders.ensures.value, ap (λ (v : CoreValue g.row.S.Denot g.row.C.Denot). v.config.recorders) c.core.ensures.value) in
    record {
      turns = one_halts g.S.Site g.C.Choose.may c.loop-number.number c.loop-number.idle c.args.self.now c.loop-number.self c.work_of-told.new.self low c.loop-number.invariant.so_far c.loop-number.invariant.leaves c.work_of-told.result c.work_of-told.ensures.event c.work_of-told.ensures.leaves (λ done. c.in_default.not-Done (c.answer_of.ensures ∙ done)) c.work_of-told.ensures.history _ c.answer_of.ensures;
      leaves = one_leaves g.S.Site g.C.Choose.may c.loop-number.number c.loop-number.idle c.args.self.now c.loop-number.self c.work_of-told.new.self low c.loop-number.invariant.so_far c.loop-number.invariant.leaves c.work_of-told.result c.work_of-told.ensures.event c.work_of-told.ensures.leaves c.answer_of.result c.answer_of.ensures;
    }

pub returns-clause-turns : goal.returns-clause-turns
returns-clause-turns g c =
    let count : c.recorder_count-recorders.result ≡ c.args.self.now.core.config.recorders =
    c.recorder_count-recorders.ensures.value ∙ ap (λ (v : CoreValue g.row.S.Denot g.row.C.Denot). v.config.recorders) c.core.ensures.value in
    let over : c.loop-number.number ≡ c.args.self.now.core.config.recorders = omega (arith, count, c.loop-number-test.false, c.loop-number.auto.number-end) in
    let some : 1 ≤ c.args.self.now.core.config.recorders = omega (arith, count, c.recorder_count-recorders.ensures.some) in
    turn_over (terms_of g.S.Site g.C.Choose.may c.args.self.now) (seen_core g.S.Site c.args.self.now.core) c.loop-number.number c.loop-number.idle (seen_core g.S.Site c.loop-number.self.core) c.loop-number.invariant.so_far over some
