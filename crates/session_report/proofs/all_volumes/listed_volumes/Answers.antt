use Rattle.std.proofs.Common.{rules, ◌≤◌, ◌+◌, ◌++◌, ℕ, Bool, List, Option, sym, ◌∙◌}
use Rattle.std.specs.Option.{option_map}
use Rattle.volume_table.specs.Row.{RowValue}
use Rattle.volume_table.specs.Listed.{row_in_list}
use Rattle.shown_volumes.specs.Shown.{is_marked}
use Rattle.session_report.specs.Reports.{Heading, heading_of}
use Rattle.session_report.proofs.Listings.{none_below, next_below}
use Rattle.session_report.proofs.all_volumes.listed_volumes.Goals as goal

pub loop-number-init : goal.loop-number-init
loop-number-init c =
    let room : 32 ≤ c.reserve.new.self.spare + 0 = search rules in
    (c.in_ok-reserve.ensures.items ∙ c.new-volumes.ensures ∙ sym (none_below _ _), room)

pub loop-number-preserved : goal.loop-number-preserved
loop-number-preserved c =
    let serials : ℕ → Option (List ℕ) = λ volume. option_map (λ (r : RowValue). r.serial) (row_in_list c.args.rows.now volume) in
    let marks : ℕ → Bool = λ volume. is_marked (row_in_list c.args.rows.now volume) in
    let room : 32 ≤ c.push_volume.new.volumes.spare + (c.loop-number.number + 1) = search rules in
    let next : ℕ → List Heading = λ volume. heading_of volume (serials volume) (marks volume) in (
      c.push_volume.ensures.items ∙ (λ i. c.loop-number.invariant.0 i ++ next (c.in-Some.ensures.value i))
          ∙ sym (next_below serials marks c.loop-number.number),
      room,
    )
