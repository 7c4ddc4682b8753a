use Rattle.std.proofs.Common.{sym, ◌∙◌, subst, Option}
use Rattle.mss_base.specs.Content.{content}
use Rattle.shown_volumes.specs.declared.refused.Refused.{Refused}
use Rattle.volume_table.specs.Listed.{row_in_list}
use Rattle.mss_restart.specs.Survey.{Finds}
use Rattle.mss_restart.specs.Walks.{rest_fault}
use Rattle.mss_restart.proofs.SurveyFacts.{content_counts, content_behind, any_behind, found_content, halves_content, pages_content, halves_rest, pages_rest, rest_is}
use Rattle.mss_restart.proofs.UsableFacts.{few_listed, walks_usable, on_ok_any}
use Rattle.mss_restart.proofs.surveying.check_rows.Goals as goal

pub returns-in-Some-clause-counts : goal.returns-in-Some-clause-counts
returns-in-Some-clause-counts g c = (content_counts _ c.in-Some.fault (halves_content (row_in_list c.args.rows.now) c.in-Some.fault (sym c.halves_fault.ensures ∙ c.in-Some.is))).0

pub returns-in-Some-clause-works : goal.returns-in-Some-clause-works
returns-in-Some-clause-works g c = λ never. (content_counts 0 c.in-Some.fault (halves_content (row_in_list c.args.rows.now) c.in-Some.fault (sym c.halves_fault.ensures ∙ c.in-Some.is))).1

pub returns-in-Some-pages_fault-clause-counts : goal.returns-in-Some-pages_fault-clause-counts
returns-in-Some-pages_fault-clause-counts g c =
    (content_counts _ c.in-Some-pages_fault.fault (pages_content c.args.frames (row_in_list c.args.rows.now) c.in-Some-pages_fault.fault (sym c.pages_fault.ensures ∙ c.in-Some-pages_fault.is))).0

pub returns-in-Some-pages_fault-clause-works : goal.returns-in-Some-pages_fault-clause-works
returns-in-Some-pages_fault-clause-works g c = λ never.
    (content_counts 0 c.in-Some-pages_fault.fault (pages_content c.args.frames (row_in_list c.args.rows.now) c.in-Some-pages_fault.fault (sym c.pages_fault.ensures ∙ c.in-Some-pages_fault.is))).1

pub returns-clause-usable : goal.returns-clause-usable
returns-clause-usable g c = λ asked serials.
    let rows = row_in_list c.args.rows.now in
    let is = walks_usable rows (few_listed c.args.rows.now c.look.ensures.places) c.args.frames asked serials (sym c.halves_fault.ensures ∙ c.in_default.is) (sym c.pages_fault.ensures ∙ c.in_default-pages_fault.is) in
    on_ok_any c.check_tracks.result is

pub returns-clause-finds : goal.returns-clause-finds
returns-clause-finds g c = λ tells.
    let rows = row_in_list c.args.rows.now in
    let k = content (g.S.Site.told c.args.site.now) in
    subst (λ (o : Option Refused). Finds c.check_tracks.result o)
    (sym (rest_is c.args.frames rows k (sym c.halves_fault.ensures ∙ c.in_default.is) (sym c.pages_fault.ensures ∙ c.in_default-pages_fault.is))) (c.check_tracks.ensures.finds tells)

pub returns-in-Some-clause-finds : goal.returns-in-Some-clause-finds
returns-in-Some-clause-finds g c = λ tells.
    let rows = row_in_list c.args.rows.now in
    let is = sym c.halves_fault.ensures ∙ c.in-Some.is in
    found_content c.in-Some.fault (rest_fault c.args.frames rows _) (halves_content rows c.in-Some.fault is) (halves_rest c.args.frames rows _ c.in-Some.fault is)

pub returns-in-Some-pages_fault-clause-finds : goal.returns-in-Some-pages_fault-clause-finds
returns-in-Some-pages_fault-clause-finds g c = λ tells.
    let rows = row_in_list c.args.rows.now in
    let is = sym c.pages_fault.ensures ∙ c.in-Some-pages_fault.is in
    found_content c.in-Some-pages_fault.fault (rest_fault c.args.frames rows _) (pages_content c.args.frames rows c.in-Some-pages_fault.fault is)
    (pages_rest c.args.frames rows _ c.in-Some-pages_fault.fault (sym c.halves_fault.ensures ∙ c.in_default.is) is)

pub returns-in-Some-clause-behind : goal.returns-in-Some-clause-behind
returns-in-Some-clause-behind g c =
    content_behind c.args.frames (row_in_list c.args.rows.now) c.in-Some.fault (halves_content (row_in_list c.args.rows.now) c.in-Some.fault (sym c.halves_fault.ensures ∙ c.in-Some.is))

pub returns-in-Some-pages_fault-clause-behind : goal.returns-in-Some-pages_fault-clause-behind
returns-in-Some-pages_fault-clause-behind g c =
    content_behind c.args.frames (row_in_list c.args.rows.now) c.in-Some-pages_fault.fault (pages_content c.args.frames (row_in_list c.args.rows.now) c.in-Some-pages_fault.fault (sym c.pages_fault.ensures ∙ c.in-Some-pages_fault.is))

pub returns-clause-behind : goal.returns-clause-behind
returns-clause-behind g c =
    any_behind c.args.frames (row_in_list c.args.rows.now) c.check_tracks.result (record { halves = sym c.halves_fault.ensures ∙ c.in_default.is; pages = sym c.pages_fault.ensures ∙ c.in_default-pages_fault.is })
