use Rattle.std.proofs.Common.{◌≡◌, inr, true, false, refl, sym, ◌∙◌, ap, subst, arith}
use Rattle.core_state.specs.CoreValue.{CoreData, seen_core}
use Rattle.quiet_events.specs.Quiet.{HasNoWork}
use Rattle.mss_run.specs.Led.{Works}
use Rattle.mss_run.specs.Sleep.{has_worker}
use Rattle.mss_run.proofs.EventFacts.{same_none, same_then}
use Rattle.mss_run.proofs.NoneLeft.{found_idle, none_yet, passed_by}
use Rattle.mss_run.proofs.held.Held.help.Goals as goal

pub loop-number-init : goal.loop-number-init
loop-number-init g c =
    let core : CoreData = seen_core g.S.Site c.args.self.now.session.core in
    record { present = refl; sleeps = refl; chooser = refl; same = same_none g.S.Site.tells core; nothing = none_yet core c.args.self.now.present }

pub loop-number-preserved-then-has_worker : goal.loop-number-preserved-then-has_worker
loop-number-preserved-then-has_worker g c =
    let core : CoreData = seen_core g.S.Site c.loop-number.self.session.core in
    let works : has_worker c.loop-number.number c.loop-number.self.present ≡ true =
    ap (λ n. has_worker n c.loop-number.self.present) (sym c.in-Some.ensures.value) ∙ sym c.has_worker.ensures ∙ c.if-has_worker.true in
    record {
      present = c.loop-number.invariant.present;
      sleeps = c.loop-number.invariant.sleeps;
      chooser = c.loop-number.invariant.chooser;
      same = c.loop-number.invariant.same;
      nothing = passed_by core c.loop-number.self.present c.loop-number.number works c.loop-number.invariant.nothing;
    }

pub loop-number-preserved : goal.loop-number-preserved
loop-number-preserved g c =
    let tells = g.S.Site.tells in
    let first : CoreData = seen_core g.S.Site c.args.self.now.session.core in
    let before : CoreData = seen_core g.S.Site c.loop-number.self.session.core in
    let after : CoreData = seen_core g.S.Site c.work.new.self.core in
    let same = c.in-Idle.ensures.idle refl in
    let value = c.in-Some.ensures.value in
    let within = c.loop-number-test.true in
    let count = c.recorders-number-end.ensures.count in
    let config : before.config.recorders ≡ first.config.recorders = ap (λ (k : CoreData). k.config.recorders) c.loop-number.invariant.same.1 in
    let idle : HasNoWork after c.loop-number.number = subst (HasNoWork after) value (c.in-Idle.ensures.rests refl (omega (arith, value, within, count, config))) in
    record {
      present = c.loop-number.invariant.present;
      sleeps = c.loop-number.invariant.sleeps;
      chooser = c.work.ensures.chooser ∙ c.loop-number.invariant.chooser;
      same = same_then tells first before after c.loop-number.invariant.same same;
      nothing = found_idle tells before after c.loop-number.self.present c.loop-number.number same idle c.loop-number.invariant.nothing;
    }

pub returns-in_default-work : goal.returns-in_default-work
returns-in_default-work g c =
    let tells = g.S.Site.tells in
    let before : CoreData = seen_core g.S.Site c.loop-number.self.session.core in
    let after : CoreData = seen_core g.S.Site c.work.new.self.core in
    let alone : has_worker c.in-Some.recorder c.args.self.now.present ≡ false =
    ap (has_worker c.in-Some.recorder) (sym c.loop-number.invariant.present) ∙ sym c.has_worker.ensures ∙ c.if-has_worker.false in
    record {
      helps = inr (
        before,
        c.in-Some.recorder,
        alone,
        c.loop-number.invariant.same,
        subst (λ (chooser : g.row.C.Denot). Works tells (g.C.Choose.may chooser) before c.in-Some.recorder c.work.result after) c.loop-number.invariant.chooser c.work.ensures.works,
      );
      present = c.loop-number.invariant.present;
      sleeps = c.loop-number.invariant.sleeps;
      idle = λ is. absurd (c.in_default-work.not-Idle is);
      nothing = λ is. absurd (c.in_default-work.not-Idle is);
    }

pub returns-clause-nothing : goal.returns-clause-nothing
returns-clause-nothing g c = λ _ recorder alone below.
    let first : CoreData = seen_core g.S.Site c.args.self.now.session.core in
    let after : CoreData = seen_core g.S.Site c.loop-number.self.session.core in
    let past = c.loop-number-test.false in
    let count = c.recorders-number-end.ensures.count in
    let config : after.config.recorders ≡ first.config.recorders = ap (λ (k : CoreData). k.config.recorders) c.loop-number.invariant.same.1 in
    c.loop-number.invariant.nothing recorder alone (omega (arith, below, past, count, config))
