use Rattle.std.proofs.Common.{◌≡◌, ◌+◌, ℕ, length, refl, sym, ◌∙◌, subst, rules}
use Rattle.volume_table.specs.Listed.{row_in_list}
use Rattle.staging_adapter.specs.Frames.{FramesData}
use Rattle.core_restart.specs.Owners.{AreOwnersBefore, HaveFrames}
use Rattle.core_restart.proofs.OwnerFacts.{none_own, all_owned}
use Rattle.core_restart.proofs.owners.own_frames.Goals as goal

pub loop-number-init : goal.loop-number-init
loop-number-init c = record {
  so_far = subst (λ (f : FramesData). AreOwnersBefore (row_in_list c.args.rows.now) f.owners 0 0) (sym c.requires.free) (none_own (row_in_list c.args.rows.now) (length c.args.frames.now.owners));
  all_ = refl;
  moving = refl;
}

pub own_pages-requires-clause-rows : goal.own_pages-requires-clause-rows
own_pages-requires-clause-rows c = subst (λ (n : ℕ). HaveFrames n c.args.rows.now) (sym c.loop-number.invariant.all_) c.requires.rows

pub own_pages-requires-clause-so_far : goal.own_pages-requires-clause-so_far
own_pages-requires-clause-so_far c = subst (λ (n : ℕ). AreOwnersBefore (row_in_list c.args.rows.now) c.loop-number.frames.owners n 0) (sym c.volume_at.ensures) c.loop-number.invariant.so_far

pub loop-number-preserved : goal.loop-number-preserved
loop-number-preserved c = record {
  so_far = subst (λ (n : ℕ). AreOwnersBefore (row_in_list c.args.rows.now) c.own_pages.new.frames.owners (n + 1) 0) c.volume_at.ensures c.own_pages.ensures.so_far;
  all_ = c.own_pages.ensures.all ∙ c.loop-number.invariant.all_;
  moving = c.own_pages.ensures.moving ∙ c.loop-number.invariant.moving;
}

pub returns-clause-owners : goal.returns-clause-owners
returns-clause-owners c =
    let n : c.loop-number.number ≡ 32 = search rules in
    all_owned _ c.args.rows.now c.requires.rows c.loop-number.frames.owners c.loop-number.invariant.all_ (subst (λ (k : ℕ). AreOwnersBefore (row_in_list c.args.rows.now) c.loop-number.frames.owners k 0) n c.loop-number.invariant.so_far)
