use Rattle.std.proofs.Common.{refl, sym, ap, ◌∙◌}
use Rattle.mss_base.specs.Content.{content}
use Rattle.shown_volumes.specs.Shown.{track_at}
use Rattle.report_text.proofs.LineLemmas.{no_track_text}
use Rattle.session_report.proofs.Framing.{grows_none}
use Rattle.session_report.proofs.SiteReads.{never_failed}
use Rattle.session_report.proofs.volumes.put_shown.Goals as goal

pub returns-in_default-clause-bytes : goal.returns-in_default-clause-bytes
returns-in_default-clause-bytes g c = λ tells.
    no_track_text (g.O.Sink.told c.args.output.now) c.args.cylinder c.args.head _
    (ap (track_at (content (g.S.Site.told c.args.site.now))) (sym c.shown_place.ensures ∙ c.in_default.is))

pub returns-then-is_err-clause-works : goal.returns-then-is_err-clause-works
returns-then-is_err-clause-works g c = λ reads.
    let can = reads c.args.cylinder c.args.head c.in-Some.place (sym c.shown_place.ensures ∙ c.in-Some.is) in
    never_failed c.read.result (c.read.ensures.works can.0 can.1 can.2) (sym c.is_err.ensures.value ∙ c.if-is_err.true)

pub returns-then-is_err-clause-bytes : goal.returns-then-is_err-clause-bytes
returns-then-is_err-clause-bytes g c = (
  λ tells. refl,
  record {
    place = c.in-Some.place;
    there = sym c.shown_place.ensures ∙ c.in-Some.is;
    fails = λ can. never_failed c.read.result (c.read.ensures.works can.0 can.1 can.2) (sym c.is_err.ensures.value ∙ c.if-is_err.true);
  },
)

pub returns-in_default-clause-grown : goal.returns-in_default-clause-grown
returns-in_default-clause-grown g c = λ told. grows_none (g.O.Sink.told c.args.output.now)

pub returns-then-is_err-clause-grown : goal.returns-then-is_err-clause-grown
returns-then-is_err-clause-grown g c = λ told. grows_none (g.O.Sink.told c.args.output.now)
