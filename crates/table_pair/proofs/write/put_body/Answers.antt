use Rattle.std.proofs.Common.{◌≡◌, ◌∙◌, refl}
use Rattle.mss_base.specs.Content.{Settles}
use Rattle.table_pair.specs.Copies.{byte_on, copy_on, emptied_copy}
use Rattle.table_pair.proofs.FollowLemmas.{on_ok_gives}
use Rattle.table_pair.proofs.WriteLemmas.{puts_then, puts_body, puts_gate, puts_sync, putting, put_firm, puts_firm, put_alone, mark_alone, put_both, mark_both}
use Rattle.table_pair.proofs.write.put_body.Goals as goal

pub returns-in_err-write-clause-moments : goal.returns-in_err-write-clause-moments
returns-in_err-write-clause-moments g c = λ tells.
    let at = c.args.at.now in
    let s = g.S.Site.told c.args.site.now in
    let t = g.S.Site.told c.write.new.self in
    let w = c.write.ensures.logged tells in
    putting at c.args.body.now s t (c.requires.closed tells) (puts_body at w.0 (w.1 ∙ c.requires.long) s t w.2)

pub returns-then-is_clear-clause-moments : goal.returns-then-is_clear-clause-moments
returns-then-is_clear-clause-moments g c = λ tells.
    let at = c.args.at.now in
    let s = g.S.Site.told c.args.site.now in
    let t = g.S.Site.told c.write.new.self in
    let u = g.S.Site.told c.sync.new.self in
    let first = c.in_ok-write.ensures.ok tells in
    putting at c.args.body.now s u (c.requires.closed tells)
    (puts_then at s t u (puts_body at c.args.body.now c.requires.long s t first) (puts_sync at c.sync.result t u (c.sync.ensures.ok tells) (c.sync.ensures.err tells)))

pub returns-then-is_clear-clause-done : goal.returns-then-is_clear-clause-done
returns-then-is_clear-clause-done g c = λ tells.
    let at = c.args.at.now in
    let s = g.S.Site.told c.args.site.now in
    let t = g.S.Site.told c.write.new.self in
    let u = g.S.Site.told c.sync.new.self in
    let first = c.in_ok-write.ensures.ok tells in
    on_ok_gives c.sync.result _ (copy_on u at ≡ emptied_copy c.args.body.now (copy_on s at))
    (put_alone at c.args.body.now c.requires.long s t (g.met.S.Site.whole c.args.site.now at.unit at.block tells) first u (c.requires.clear tells c.if-is_clear.true)) (c.sync.ensures.ok tells)

pub returns-then-is_clear-clause-mark : goal.returns-then-is_clear-clause-mark
returns-then-is_clear-clause-mark g c = λ tells.
    let at = c.args.at.now in
    let s = g.S.Site.told c.args.site.now in
    let t = g.S.Site.told c.write.new.self in
    let u = g.S.Site.told c.sync.new.self in
    let first = c.in_ok-write.ensures.ok tells in
    on_ok_gives c.sync.result _ (byte_on u at 511 ≡ byte_on s at 511)
    (mark_alone at c.args.body.now c.requires.long s t (g.met.S.Site.whole c.args.site.now at.unit at.block tells) first u) (c.sync.ensures.ok tells)

pub returns-then-is_clear-clause-firm : goal.returns-then-is_clear-clause-firm
returns-then-is_clear-clause-firm g c = λ tells.
    let at = c.args.at.now in
    let s = g.S.Site.told c.args.site.now in
    let t = g.S.Site.told c.write.new.self in
    let u = g.S.Site.told c.sync.new.self in
    let first = c.in_ok-write.ensures.ok tells in
    on_ok_gives c.sync.result _ (Settles s u) (put_firm at c.args.body.now s t u first) (c.sync.ensures.ok tells)

pub returns-in_err-write-2-clause-moments : goal.returns-in_err-write-2-clause-moments
returns-in_err-write-2-clause-moments g c = λ tells.
    let at = c.args.at.now in
    let s = g.S.Site.told c.args.site.now in
    let t = g.S.Site.told c.write.new.self in
    let r = g.S.Site.told c.write-2.new.self in
    let first = c.in_ok-write.ensures.ok tells in
    let w = c.write-2.ensures.logged tells in
    putting at c.args.body.now s r (c.requires.closed tells) (puts_then at s t r (puts_body at c.args.body.now c.requires.long s t first) (puts_gate at w.0 w.1 t r w.2))

pub returns-clause-moments : goal.returns-clause-moments
returns-clause-moments g c = λ tells.
    let at = c.args.at.now in
    let s = g.S.Site.told c.args.site.now in
    let t = g.S.Site.told c.write.new.self in
    let r = g.S.Site.told c.write-2.new.self in
    let first = c.in_ok-write.ensures.ok tells in
    let u = g.S.Site.told c.sync-2.new.self in
    let second = c.in_ok-write-2.ensures.ok tells in
    putting at c.args.body.now s u (c.requires.closed tells)
    (puts_then at s r u (puts_then at s t r (puts_body at c.args.body.now c.requires.long s t first) (puts_gate at _ refl t r second))
    (puts_sync at c.sync-2.result r u (c.sync-2.ensures.ok tells) (c.sync-2.ensures.err tells)))

pub returns-clause-done : goal.returns-clause-done
returns-clause-done g c = λ tells.
    let at = c.args.at.now in
    let s = g.S.Site.told c.args.site.now in
    let t = g.S.Site.told c.write.new.self in
    let r = g.S.Site.told c.write-2.new.self in
    let first = c.in_ok-write.ensures.ok tells in
    let u = g.S.Site.told c.sync-2.new.self in
    let second = c.in_ok-write-2.ensures.ok tells in
    on_ok_gives c.sync-2.result _ (copy_on u at ≡ emptied_copy c.args.body.now (copy_on s at))
    (put_both at c.args.body.now c.requires.long s t (g.met.S.Site.whole c.args.site.now at.unit at.block tells) first r u (g.met.S.Site.whole c.write.new.self at.unit at.block tells) second) (c.sync-2.ensures.ok tells)

pub returns-clause-mark : goal.returns-clause-mark
returns-clause-mark g c = λ tells.
    let at = c.args.at.now in
    let s = g.S.Site.told c.args.site.now in
    let t = g.S.Site.told c.write.new.self in
    let r = g.S.Site.told c.write-2.new.self in
    let first = c.in_ok-write.ensures.ok tells in
    let u = g.S.Site.told c.sync-2.new.self in
    let second = c.in_ok-write-2.ensures.ok tells in
    on_ok_gives c.sync-2.result _ (byte_on u at 511 ≡ byte_on s at 511)
    (mark_both at c.args.body.now c.requires.long s t (g.met.S.Site.whole c.args.site.now at.unit at.block tells) first r u (g.met.S.Site.whole c.write.new.self at.unit at.block tells) second) (c.sync-2.ensures.ok tells)

pub returns-clause-firm : goal.returns-clause-firm
returns-clause-firm g c = λ tells.
    let at = c.args.at.now in
    let s = g.S.Site.told c.args.site.now in
    let t = g.S.Site.told c.write.new.self in
    let r = g.S.Site.told c.write-2.new.self in
    let first = c.in_ok-write.ensures.ok tells in
    let u = g.S.Site.told c.sync-2.new.self in
    let second = c.in_ok-write-2.ensures.ok tells in
    on_ok_gives c.sync-2.result _ (Settles s u) (puts_firm at c.args.body.now _ s t r u first second) (c.sync-2.ensures.ok tells)
