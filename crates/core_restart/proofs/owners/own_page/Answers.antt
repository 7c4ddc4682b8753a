use Rattle.std.proofs.Common.{◌+◌, refl, sym, subst}
use Rattle.volume_table.specs.Listed.{row_in_list}
use Rattle.staging_adapter.specs.Frames.{FramesData}
use Rattle.core_restart.specs.Owners.{AreOwnersBefore}
use Rattle.core_restart.proofs.OwnerFacts.{page_owned}
use Rattle.core_restart.proofs.owners.own_page.Goals as goal

pub returns-in-Some-clause-so_far : goal.returns-in-Some-clause-so_far
returns-in-Some-clause-so_far c =
    let rows = c.args.rows.now in
    let owners = c.args.frames.now.owners in
    let volume = c.args.volume in
    let page = c.args.page in
    subst (λ (f : FramesData). AreOwnersBefore (row_in_list rows) f.owners volume (page + 1)) (sym c.set_owner.ensures) (page_owned _ rows c.requires.rows owners volume page c.requires.so_far c.in-Some.frame (sym c.in-Some.ensures) refl)
