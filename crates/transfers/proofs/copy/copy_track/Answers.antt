use Rattle.std.proofs.Common.{◌≡◌, ℕ, Err, IsSome, sym, ◌∙◌, subst}
use Rattle.std.proofs.lemmas.Result.{err_from_is_err_and}
use Rattle.transfers.specs.Copies.{source_place, CopiesTrack}
use Rattle.transfers.proofs.CopyFacts.{adds_at_most, adds_copy}
use Rattle.transfers.proofs.ExitFacts.{unread, unwritten, done}
use Rattle.transfers.proofs.copy.copy_track.Goals as goal

pub returns-in_err-read_source-clause-copies : goal.returns-in_err-read_source-clause-copies
returns-in_err-read_source-clause-copies g c =
    let t = c.args.transfer.now in
    let s = c.args.site.now in
    let head : c.in-Some.head ≡ t.next = c.in-Some.ensures.value in
    let p = err_from_is_err_and c.from_residual.result c.from_residual.ensures.1 in
    let is : c.from_residual.result ≡ Err c.in_err-read_source.field-0.0 = p.1 ∙ (λ i. Err (p.2 i)) in
    subst (λ r. CopiesTrack g.S.Site t s c.read_source.new.site r) (sym is)
    (unread (Unit {0}) g.S.Site t s (λ yes_ u b. g.met.S.Site.whole s u b yes_)
    c.in_err-read_source.field-0.0 c.read_source.new.site
    (subst (λ (h : ℕ). IsSome (source_place t h)) head c.in_err-read_source.ensures.asked) c.read_source.ensures.reads c.in_err-read_source.ensures.cause.failed
    (λ but never readable. c.in_err-read_source.ensures.works but never (λ place at. readable place (sym (λ i. source_place t (head i)) ∙ at))))

pub returns-in_err-write_block-clause-copies : goal.returns-in_err-write_block-clause-copies
returns-in_err-write_block-clause-copies g c =
    let t = c.args.transfer.now in
    let s = c.args.site.now in
    let head : c.in-Some.head ≡ t.next = c.in-Some.ensures.value in
    let p = err_from_is_err_and c.from_residual-in_err-write_block.result c.from_residual-in_err-write_block.ensures.1 in
    let is : c.from_residual-in_err-write_block.result ≡ Err c.in_err-write_block.field-0.0 = p.1 ∙ (λ i. Err (p.2 i)) in
    subst (λ r. CopiesTrack g.S.Site t s c.write_block.new.site r) (sym is)
    (unwritten (Unit {0}) g.S.Site t s (λ yes_ u b. g.met.S.Site.whole s u b yes_)
    c.in_err-write_block.field-0.0 c.read_source.new.site c.write_block.new.site c.read_source.ensures.reads c.in_ok-read_source.ensures.cause.same
    c.write_block.ensures.devices c.write_block.ensures.wrote c.in_err-write_block.ensures.cause.failed c.in_err-write_block.ensures.works
    (λ yes_. adds_at_most t c.in-Some.head c.target.result (g.S.Site.told s) (g.S.Site.told c.read_source.new.site) (g.S.Site.told c.write_block.new.site)
    c.target.ensures head (c.read_source.ensures.reads.log yes_) (c.write_block.ensures.logged yes_)))

pub returns-clause-copies : goal.returns-clause-copies
returns-clause-copies g c =
    let t = c.args.transfer.now in
    let s = c.args.site.now in
    let head : c.in-Some.head ≡ t.next = c.in-Some.ensures.value in
    done (Unit {0}) g.S.Site t s (λ yes_ u b. g.met.S.Site.whole s u b yes_)
    tt c.read_source.new.site c.write_block.new.site c.read_source.ensures.reads c.in_ok-read_source.ensures.cause.same
    c.write_block.ensures.devices c.write_block.ensures.wrote c.in_ok-write_block.ensures.cause.same
    (λ yes_. adds_copy t c.in-Some.head c.target.result (g.S.Site.told s) (g.S.Site.told c.read_source.new.site) (g.S.Site.told c.write_block.new.site)
    c.target.ensures head (c.read_source.ensures.reads.log yes_) c.read_source.new.buffer (c.in_ok-read_source.ensures.bytes yes_) (c.in_ok-write_block.ensures.written yes_))
