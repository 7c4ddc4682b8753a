use Rattle.std.proofs.Common.{◌≡◌, ◌+◌, ℕ, sym, ◌∙◌, subst, rules}
use Rattle.volume_table.specs.Listed.{row_in_list}
use Rattle.core_restart.specs.Owners.{AreOwnersBefore, HaveFrames}
use Rattle.core_restart.proofs.OwnerFacts.{volume_past}
use Rattle.core_restart.proofs.owners.own_pages.Goals as goal

pub own_page-requires-clause-rows : goal.own_page-requires-clause-rows
own_page-requires-clause-rows c = subst (λ (n : ℕ). HaveFrames n c.args.rows.now) (sym c.loop-number.invariant.all_) c.requires.rows

pub own_page-requires-clause-so_far : goal.own_page-requires-clause-so_far
own_page-requires-clause-so_far c = subst (AreOwnersBefore (row_in_list c.args.rows.now) c.loop-number.frames.owners c.args.volume) (sym c.page_at.ensures) c.loop-number.invariant.so_far

pub loop-number-preserved : goal.loop-number-preserved
loop-number-preserved c = record {
  so_far = subst (λ (n : ℕ). AreOwnersBefore (row_in_list c.args.rows.now) c.own_page.new.frames.owners c.args.volume (n + 1)) c.page_at.ensures c.own_page.ensures.so_far;
  all_ = c.own_page.ensures.all ∙ c.loop-number.invariant.all_;
  moving = c.own_page.ensures.moving ∙ c.loop-number.invariant.moving;
}

pub returns-clause-so_far : goal.returns-clause-so_far
returns-clause-so_far c =
    let n : c.loop-number.number ≡ 51 = search rules in
    volume_past _ c.args.rows.now c.requires.rows c.loop-number.frames.owners c.args.volume (subst (AreOwnersBefore (row_in_list c.args.rows.now) c.loop-number.frames.owners c.args.volume) n c.loop-number.invariant.so_far)
