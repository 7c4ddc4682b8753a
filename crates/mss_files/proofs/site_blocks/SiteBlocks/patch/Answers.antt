use Rattle.std.proofs.Common.{◌+◌, ◌≤◌, length, inl, inr, subst, sym, ◌∙◌, arith}
use Rattle.mss_files.specs.KeptBlocks.{IsHeld}
use Rattle.mss_files.specs.ShortBlocks.{IsShort}
use Rattle.mss_files.specs.SiteBlocks.{IsKnownShort, IsShownHeld}
use Rattle.mss_files.proofs.Keeping.{place_cases, held_behind, held_failed}
use Rattle.mss_files.proofs.ShortFacts.{short_in_front, short_apart, short_learned, shown_behind, shown_apart}
use Rattle.mss_files.proofs.site_blocks.SiteBlocks.patch.Goals as goal

pub returns-then-offset-bytes-le-FRONT_BYTES-clause-held : goal.returns-then-offset-bytes-le-FRONT_BYTES-clause-held
returns-then-offset-bytes-le-FRONT_BYTES-clause-held c = λ old new got held.
    let place = c.args.place.now in
    let kept = c.args.self.now in
    let inside : c.args.offset + length c.args.bytes.now ≤ 1024 = c.if-offset-bytes-le-FRONT_BYTES.true in
    let fits : c.args.offset + length c.args.bytes.now ≤ kept.whole.pieces.size = omega (arith, kept.whole_size, c.requires) in
    let fits_front : c.args.offset + length c.args.bytes.now ≤ kept.fronts.pieces.size = omega (arith, kept.front_size, inside) in
    let whole = c.patch.ensures in
    let front = c.patch-then-offset-bytes-le-FRONT_BYTES.ensures in
    let shown = c.patch-then-offset-bytes-le-FRONT_BYTES-2.ensures in
    record {
      whole = held_behind old new place c.args.offset c.args.bytes.now kept.whole c.patch.new.self fits got
          whole.places whole.pieces whole.here whole.elsewhere whole.others held.whole;
      fronts = held_behind old new place c.args.offset c.args.bytes.now kept.fronts c.patch-then-offset-bytes-le-FRONT_BYTES.new.self fits_front got
          front.places front.pieces front.here front.elsewhere front.others held.fronts;
      short = λ other known. short_in_front old new place other c.args.offset _ inside got.only (held.short other known);
      shown = λ other is. shown_behind old new place other c.args.offset kept.shown.place c.args.bytes.now _ _ inside got
          shown.here shown.elsewhere (sym shown.place ∙ is) (held.shown other (sym shown.place ∙ is));
    }

pub returns-clause-held : goal.returns-clause-held
returns-clause-held c = λ old new got held.
    let place = c.args.place.now in
    let kept = c.args.self.now in
    let fits : c.args.offset + length c.args.bytes.now ≤ kept.whole.pieces.size = omega (arith, kept.whole_size, c.requires) in
    let whole = c.patch.ensures in
    record {
      whole = subst (IsHeld new) (sym c.learn.ensures.whole)
          (held_behind old new place c.args.offset c.args.bytes.now kept.whole c.patch.new.self fits got
          whole.places whole.pieces whole.here whole.elsewhere whole.others held.whole);
      fronts = subst (IsHeld new) (sym c.learn.ensures.fronts)
          (held_failed old new place c.args.offset _ kept.fronts c.forget.new.self c.requires got.only
          c.forget.ensures.here c.forget.ensures.others c.forget.ensures.pieces c.forget.ensures.bytes held.fronts);
      short = λ other known. elim (place_cases place other) [
        | inl e ↦ subst (IsShort new) e (short_learned old new place c.args.offset c.args.bytes.now c.requires got
            (c.learn.ensures.known (subst (IsKnownShort c.learn.new.self) (sym e) known)))
        | inr differ ↦ short_apart old new place other c.args.offset _ c.requires got.only differ (held.short other (c.learn.ensures.others other known differ))
      ];
      shown = subst (IsShownHeld new) (sym c.learn.ensures.shown)
          (λ other is. shown_apart old new place other c.args.offset _ c.forget-2.new.self.place _ _ c.requires got.only
          c.forget-2.ensures.here is c.forget-2.ensures.bytes (held.shown other (c.forget-2.ensures.others other is)));
    }
