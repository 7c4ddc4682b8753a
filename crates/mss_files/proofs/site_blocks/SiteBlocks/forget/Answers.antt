use Rattle.std.proofs.Common.{subst, sym}
use Rattle.mss_files.specs.Noted.{IsNoted}
use Rattle.mss_files.proofs.Keeping.{held_failed}
use Rattle.mss_files.proofs.ShortFacts.{short_apart, shown_apart}
use Rattle.mss_files.proofs.site_blocks.SiteBlocks.forget.Goals as goal

pub returns-clause-held : goal.returns-clause-held
returns-clause-held c = λ old new offset count inside changed held.
    let place = c.args.place.now in
    let kept = c.args.self.now in
    record {
      whole = held_failed old new place offset count kept.whole c.forget.new.self inside changed
          c.forget.ensures.here c.forget.ensures.others c.forget.ensures.pieces c.forget.ensures.bytes held.whole;
      fronts = held_failed old new place offset count kept.fronts c.forget-2.new.self inside changed
          c.forget-2.ensures.here c.forget-2.ensures.others c.forget-2.ensures.pieces c.forget-2.ensures.bytes held.fronts;
      short = λ other known. short_apart old new place other offset count inside changed
          (λ e. c.forget-3.ensures.here (subst (IsNoted c.forget-3.new.self.of_slots.items) (sym e) known))
          (held.short other (c.forget-3.ensures.others other known));
      shown = λ other is. shown_apart old new place other offset count c.forget-4.new.self.place _ _ inside changed
          c.forget-4.ensures.here is c.forget-4.ensures.bytes (held.shown other (c.forget-4.ensures.others other is));
    }
