-- Each look finds the record, ends, or leaves one look less.
use Rattle.std.proofs.Common.{◌+◌, ◌-◌, Result, Err, sym, ap, subst, ◌∙◌, arith}
use Rattle.std.proofs.lemmas.Result.{err_from_is_err_and}
use Rattle.mss_base.specs.Content.{SiteLog, content}
use Rattle.ckd_plain.specs.declared.unit_check.Refusal.{Refusal}
use Rattle.ckd_plain.specs.Index.{Found, next_record}
use Rattle.ckd_plain.proofs.IndexFacts.{none_left}
use Rattle.track_engine.specs.Found.{found_at, GivesBut}
use Rattle.track_engine.specs.Tracks.{IsBlockOf}
use Rattle.track_engine.proofs.Finding.{track_in, place_shown, look_finds_there, look_goes_on, look_ends}
use Rattle.track_engine.proofs.Reading.{reads_then}
use Rattle.track_engine.proofs.find.next_record.Goals as goal

pub returns-in-Some-clause-found : goal.returns-in-Some-clause-found
unfolding next_record
returns-in-Some-clause-found g c = λ tells.
    sym (c.loop.invariant.found tells)
    ∙ look_finds_there _ (20 - (c.loop.counter + 1)) c.candidate-number.result _ _ _ _ (g.S.Site.brought c.loop.site) (omega arith) c.candidate-number.ensures (c.loop.invariant.block tells).records c.in-Some.at (place_shown _ _ c.brought.ensures _ _ _ c.in-Some.ensures)

pub returns-in-Some-clause-there : goal.returns-in-Some-clause-there
returns-in-Some-clause-there g c = (place_shown _ _ c.brought.ensures _ _ _ c.in-Some.ensures).stands

pub returns-in_err-host-clause-found : goal.returns-in_err-host-clause-found
unfolding next_record
returns-in_err-host-clause-found g c = λ tells.
    let p = err_from_is_err_and c.from_residual-in_err-host.result c.from_residual-in_err-host.ensures.1 in
    rw (p.1, p.2) (subst (λ (r : Result Found Refusal). GivesBut (found_at (g.S.Site.brought c.pass.new.site)) (Err c.in_err-host.field-0.0) r) (c.loop.invariant.found tells)
    (look_ends _ (20 - (c.loop.counter + 1)) c.candidate-number.result _ _ _ _ c.brought.result.now (omega arith) c.candidate-number.ensures (ap track_in c.brought.ensures ∙ (c.loop.invariant.block tells).records)
    (found_at (g.S.Site.brought c.pass.new.site)) c.in_err-host.field-0.0 c.in_default.ensures c.in_err-host.ensures.passed))

pub loop-preserved : goal.loop-preserved
loop-preserved g c = record {
  found = λ tells.
      sym (look_goes_on _ (20 - (c.loop.counter + 1)) c.candidate-number.result _ _ _ _ c.brought.result.now (omega arith) c.candidate-number.ensures (ap track_in c.brought.ensures ∙ (c.loop.invariant.block tells).records)
      c.in_ok-host.host c.in_default.ensures c.in_ok-host.ensures.passed)
      ∙ c.loop.invariant.found tells;
  block = λ tells.
      let told = c.loop.invariant.reads.log tells in
      subst (λ (s : SiteLog). IsBlockOf (content s) c.args.place.now.unit c.args.place.now.first_block c.in_ok-host.host.head (g.S.Site.brought c.pass.new.site)) told
      (c.in_ok-host.ensures.block tells (subst (λ (s : SiteLog). IsBlockOf (content s) c.args.place.now.unit c.args.place.now.first_block c.loop.host.head (g.S.Site.brought c.loop.site)) (sym told) (c.loop.invariant.block tells)));
  volume = c.in_ok-host.ensures.volume ∙ c.loop.invariant.volume;
  reads = reads_then _ _ _ _ c.loop.invariant.reads c.in_ok-host.ensures.site_.reads;
  same = c.in_ok-host.ensures.site_.cause.same ∙ c.loop.invariant.same;
}

pub returns-clause-found : goal.returns-clause-found
unfolding next_record
returns-clause-found g c = λ tells. sym (c.loop.invariant.found tells) ∙ none_left _ _ _ _ _ (omega arith)
