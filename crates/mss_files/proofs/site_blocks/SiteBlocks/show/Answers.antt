use Rattle.std.proofs.Common.{◌∙◌}
use Rattle.mss_files.proofs.ShortFacts.{front_held, shown_then}
use Rattle.mss_files.proofs.site_blocks.SiteBlocks.show.Goals as goal

pub returns-clause-held : goal.returns-clause-held
returns-clause-held c = λ byte held.
    let place = c.args.place.now in
    let kept = c.args.self.now in
    record {
      whole = held.whole;
      fronts = held.fronts;
      short = held.short;
      shown = λ other is. shown_then byte place other kept.shown.place c.show.new.self.place c.block.result.now _ _ (held.short place c.requires.short)
          (c.block.ensures.bytes ∙ front_held byte kept place held c.requires.kept.stands)
          c.show.ensures.place c.show.ensures.bytes c.show.ensures.same held.shown is;
    }
