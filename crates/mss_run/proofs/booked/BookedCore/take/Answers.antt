use Rattle.std.proofs.Common.{List, Some, sym, ◌∙◌, ap}
use Rattle.std.specs.Prelude.{is_some}
use Rattle.ckd_plain.specs.History.{EntryData}
use Rattle.volume_copy.specs.Beside.{asked_copy}
use Rattle.mss_run.proofs.AnswerFacts.{history_read, opens_read}
use Rattle.mss_run.proofs.booked.BookedCore.take.Goals as goal

pub invariant_of-self : goal.invariant_of-self
invariant_of-self g c =
    let before = c.self.inside.copied.core in
    let after = c.take.new.self.core in
    let copies = is_some (asked_copy c.self.inside.copied.copier) in
    record {
      made = c.self.invariant.made;
      book_ = c.self.invariant.book_ ∙ ap (λ (l : List EntryData). Some record { list = l; made = c.self.invariant.made }) (sym (history_read g.S.Site before after copies c.take.ensures.core));
      opens = opens_read g.S.Site before after g.N.Opening.opening g.N.Setup.setup c.self.invariant.opens c.entries_beside-before.ensures.began copies (ap is_some (sym c.self.invariant.copy)) c.take.ensures.core;
      copy = c.take.ensures.copier ∙ c.self.invariant.copy;
    }
