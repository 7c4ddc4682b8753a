use Rattle.std.proofs.Common.{rules, ◌≡◌, ◌∙◌, ℕ, false, Err, [], refl, sym, ap, set, subst, arith, Bool, Result}
use Rattle.std.proofs.lemmas.Bool.{or_parts}
use Rattle.std.proofs.lemmas.Result.{err_from_is_err_and}
use Rattle.shown_volumes.specs.declared.refused.Refused.{Refused}
use Rattle.mss_restart.specs.Creations.{AreRepaired, RepairsWhole}
use Rattle.mss_restart.proofs.OtherRows.{nothing_else, others_then, repair_others}
use Rattle.mss_restart.proofs.Repaired.{nothing_repaired, repaired_too, held_too, renewed_too, slots_too, none_repaired, unbegun_repairs, one_repaired, nothing_written, written_on, may_be_written, stop_since, memory_repairs}
use Rattle.mss_restart.proofs.Settling.{repaired_firm}
use Rattle.mss_restart.proofs.repairs.repair_rows.Goals as goal

pub loop-number-init : goal.loop-number-init
loop-number-init g c = record { repaired = λ tells. nothing_repaired (g.S.Site.told c.args.site.now); held = λ tells v lt. absurd (omega arith); slots = λ tells v lt. absurd (omega arith); renewed = λ tells none v lt. absurd (omega arith); places = c.requires.places; complete = λ tells. none_repaired (g.S.Site.told c.args.site.now); others = λ tells. nothing_else [] (g.S.Site.told c.args.site.now) (g.S.Site.told c.args.site.now) refl; count = refl; devices = nothing_written g.S.Site c.args.site.now }

pub returns-in-Err-clause-moments : goal.returns-in-Err-clause-moments
returns-in-Err-clause-moments g c = λ tells.
    (repaired_too (g.S.Site.told c.args.site.now) (g.S.Site.told c.loop-number.site) (g.S.Site.told c.repair.new.site) c.volume_at.result (c.loop-number.invariant.repaired tells) (repaired_firm c.loop-number.number (g.S.Site.told c.args.site.now) (g.S.Site.told c.loop-number.site) (c.loop-number.invariant.complete tells)) (c.repair.ensures.moments tells)).moments

pub returns-in-Err-clause-rows : goal.returns-in-Err-clause-rows
returns-in-Err-clause-rows g c = λ tells.
    (repaired_too (g.S.Site.told c.args.site.now) (g.S.Site.told c.loop-number.site) (g.S.Site.told c.repair.new.site) c.volume_at.result (c.loop-number.invariant.repaired tells) (repaired_firm c.loop-number.number (g.S.Site.told c.args.site.now) (g.S.Site.told c.loop-number.site) (c.loop-number.invariant.complete tells)) (c.repair.ensures.moments tells)).rows

pub returns-in-Err-clause-complete : goal.returns-in-Err-clause-complete
returns-in-Err-clause-complete g c = λ tells.
    memory_repairs c.loop-number.number (g.S.Site.told c.args.site.now) (g.S.Site.told c.loop-number.site) (g.S.Site.told c.repair.new.site) c.refused_repair.result (c.loop-number.invariant.complete tells)
    (λ memory. (c.in-Err.ensures.memory (ap Err (c.refused_repair.ensures.memory memory))).log tells)

pub returns-in-Err-clause-site_ : goal.returns-in-Err-clause-site_
returns-in-Err-clause-site_ g c =
    let before = c.loop-number.invariant.devices in
    record {
      devices = written_on g.S.Site c.args.site.now c.loop-number.site c.repair.new.site before (may_be_written g.S.Site 7 c.loop-number.site c.repair.new.site c.repair.ensures.devices);
      stops =
          stop_since _ (g.S.Site.faults c.loop-number.site) _ c.refused_repair.result c.loop-number.invariant.count
          (c.refused_repair.ensures.kept (g.S.Site.faults c.loop-number.site) (g.S.Site.faults c.repair.new.site) c.in-Err.ensures.kept);
      works = λ never.
          let here = before.sound (λ unit. false) never in
          c.refused_repair.ensures.works (c.in-Err.ensures.works (λ unit. false, here, refl) (λ unit. false, here, refl));
    }

pub loop-number-preserved : goal.loop-number-preserved
loop-number-preserved g c = let place : c.from.result ≡ c.loop-number.number = search rules in record {
  repaired = λ tells.
      repaired_too (g.S.Site.told c.args.site.now) (g.S.Site.told c.loop-number.site) (g.S.Site.told c.repair.new.site) c.volume_at.result (c.loop-number.invariant.repaired tells) (repaired_firm c.loop-number.number (g.S.Site.told c.args.site.now) (g.S.Site.told c.loop-number.site) (c.loop-number.invariant.complete tells)) (c.repair.ensures.moments tells);
  held = λ tells.
      held_too (g.S.Site.told c.args.site.now) (g.S.Site.told c.loop-number.site) (g.S.Site.told c.repair.new.site) c.volume_at.result (c.loop-number.invariant.repaired tells) (repaired_firm c.loop-number.number (g.S.Site.told c.args.site.now) (g.S.Site.told c.loop-number.site) (c.loop-number.invariant.complete tells)) (c.repair.ensures.moments tells)
      c.loop-number.number (c.loop-number.invariant.held tells) c.volume_at.ensures (c.in-Ok.ensures.done tells).held;
  slots = λ tells.
      slots_too (g.S.Site.told c.args.site.now) (g.S.Site.told c.loop-number.site) (g.S.Site.told c.repair.new.site) c.volume_at.result (c.loop-number.invariant.repaired tells) (repaired_firm c.loop-number.number (g.S.Site.told c.args.site.now) (g.S.Site.told c.loop-number.site) (c.loop-number.invariant.complete tells)) (c.repair.ensures.moments tells)
      c.loop-number.number c.loop-number.used.items c.set.new.self.items c.in-Ok.repaired.used (let places = c.loop-number.invariant.places in let low = c.loop-number-test.true in omega (arith, places, low)) (c.loop-number.invariant.slots tells) c.volume_at.ensures
      (c.in-Ok.ensures.done tells).slots_ (c.set.ensures.items ∙ (λ i. set c.loop-number.used.items (place i) c.in-Ok.repaired.used));
  renewed = λ tells none.
      let neither = or_parts c.loop-number.is_old c.in-Ok.repaired.is_old none in
      renewed_too (g.S.Site.told c.args.site.now) (g.S.Site.told c.loop-number.site) (g.S.Site.told c.repair.new.site) c.volume_at.result (c.loop-number.invariant.repaired tells) (repaired_firm c.loop-number.number (g.S.Site.told c.args.site.now) (g.S.Site.told c.loop-number.site) (c.loop-number.invariant.complete tells)) (c.repair.ensures.moments tells)
      c.loop-number.number (c.loop-number.invariant.renewed tells neither.0) c.volume_at.ensures ((c.in-Ok.ensures.done tells).are_new neither.1);
  places = search rules;
  complete = λ tells.
      one_repaired c.loop-number.number c.volume_at.result (g.S.Site.told c.args.site.now) (g.S.Site.told c.loop-number.site) (g.S.Site.told c.repair.new.site) (c.loop-number.invariant.complete tells) c.volume_at.ensures
      (record { moments = c.repair.ensures.moments tells; marks = c.repair.ensures.marks tells; held = (c.in-Ok.ensures.done tells).held; alone = c.repair.ensures.untouched tells; firm = (c.in-Ok.ensures.done tells).firm });
  others = λ tells.
      others_then [] (g.S.Site.told c.args.site.now) (g.S.Site.told c.loop-number.site) (g.S.Site.told c.repair.new.site) (repaired_firm c.loop-number.number (g.S.Site.told c.args.site.now) (g.S.Site.told c.loop-number.site) (c.loop-number.invariant.complete tells)) (c.loop-number.invariant.others tells)
      (repair_others c.volume_at.result (g.S.Site.told c.loop-number.site) (g.S.Site.told c.repair.new.site) (c.repair.ensures.moments tells) (c.repair.ensures.marks tells) (c.repair.ensures.untouched tells));
  count = c.in-Ok.ensures.kept ∙ c.loop-number.invariant.count;
  devices = written_on g.S.Site c.args.site.now c.loop-number.site c.repair.new.site c.loop-number.invariant.devices
      (may_be_written g.S.Site 7 c.loop-number.site c.repair.new.site c.repair.ensures.devices);
}

pub returns-clause-equal : goal.returns-clause-equal
returns-clause-equal g c = λ tells. record {
  held = λ v lt. c.loop-number.invariant.held tells v (omega (arith, lt, c.loop-number-test.false));
  slots_ = λ v lt. c.loop-number.invariant.slots tells v (omega (arith, lt, c.loop-number-test.false));
}

pub returns-clause-renewed : goal.returns-clause-renewed
returns-clause-renewed g c = λ tells none v lt. c.loop-number.invariant.renewed tells none v (omega (arith, lt, c.loop-number-test.false))

pub returns-clause-complete : goal.returns-clause-complete
returns-clause-complete g c = λ tells.
    let n : c.loop-number.number ≡ 32 = search rules in
    subst (λ (k : ℕ). AreRepaired k (g.S.Site.told c.args.site.now) (g.S.Site.told c.loop-number.site)) n (c.loop-number.invariant.complete tells)

pub returns-in-Err-clause-others : goal.returns-in-Err-clause-others
returns-in-Err-clause-others g c = λ tells.
    others_then [] (g.S.Site.told c.args.site.now) (g.S.Site.told c.loop-number.site) (g.S.Site.told c.repair.new.site) (repaired_firm c.loop-number.number (g.S.Site.told c.args.site.now) (g.S.Site.told c.loop-number.site) (c.loop-number.invariant.complete tells)) (c.loop-number.invariant.others tells)
    (repair_others c.volume_at.result (g.S.Site.told c.loop-number.site) (g.S.Site.told c.repair.new.site) (c.repair.ensures.moments tells) (c.repair.ensures.marks tells) (c.repair.ensures.untouched tells))

pub returns-clause-site_ : goal.returns-clause-site_
returns-clause-site_ g c = record { devices = c.loop-number.invariant.devices; stops = c.loop-number.invariant.count; works = λ never. tt }

pub returns-in_err-a-clause-moments : goal.returns-in_err-a-clause-moments
returns-in_err-a-clause-moments g c = λ tells. (nothing_repaired (g.S.Site.told c.args.site.now)).moments

pub returns-in_err-a-clause-complete : goal.returns-in_err-a-clause-complete
returns-in_err-a-clause-complete g c = λ tells.
    let s = g.S.Site.told c.args.site.now in
    let p = err_from_is_err_and c.from_residual.result c.from_residual.ensures.1 in
    subst (λ (r : Result Bool Refused). RepairsWhole s s r) (sym p.1) (unbegun_repairs Bool s p.0)

pub returns-in_err-a-clause-others : goal.returns-in_err-a-clause-others
returns-in_err-a-clause-others g c = λ tells. nothing_else [] (g.S.Site.told c.args.site.now) (g.S.Site.told c.args.site.now) refl

pub returns-in_err-b-clause-moments : goal.returns-in_err-b-clause-moments
returns-in_err-b-clause-moments g c = λ tells. (nothing_repaired (g.S.Site.told c.args.site.now)).moments

pub returns-in_err-b-clause-complete : goal.returns-in_err-b-clause-complete
returns-in_err-b-clause-complete g c = λ tells.
    let s = g.S.Site.told c.args.site.now in
    let p = err_from_is_err_and c.from_residual-in_err-b.result c.from_residual-in_err-b.ensures.1 in
    subst (λ (r : Result Bool Refused). RepairsWhole s s r) (sym p.1) (unbegun_repairs Bool s p.0)

pub returns-in_err-b-clause-others : goal.returns-in_err-b-clause-others
returns-in_err-b-clause-others g c = λ tells. nothing_else [] (g.S.Site.told c.args.site.now) (g.S.Site.told c.args.site.now) refl
