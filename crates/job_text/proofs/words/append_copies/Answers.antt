use Rattle.std.proofs.Common.{◌≡◌, ◌+◌, ◌*◌, ◌%◌, ◌≤◌, ℕ, List, subst, arith}
use Rattle.std.specs.Prelude.{OnOk}
use Rattle.job_text.proofs.Copies.{copies_more, copies_end}
use Rattle.job_text.proofs.words.append_copies.Goals as goal

pub loop-preserved : goal.loop-preserved
loop-preserved c =
    copies_more c.args.bytes.now.items c.loop.bytes.items c.append.new.self.items (256 * c.loop.counter) 256 (256 * (c.loop.counter + 1)) c.args.byte (omega arith) c.loop.invariant c.in_ok-append.ensures.ok

pub returns : goal.returns
returns c =
    let end = c.loop.auto.counter-end in
    let out = c.loop-test.false in
    let front : c.args.count % 256 ≤ 256 = omega arith in
    let sum : 256 * c.loop.counter + c.args.count % 256 ≡ c.args.count = omega arith in
    subst (λ (items : List ℕ). OnOk c.append-2.result (c.append-2.new.self.items ≡ items))
    (copies_end c.args.bytes.now.items c.loop.bytes.items (256 * c.loop.counter) 256 (c.args.count % 256) c.args.count c.args.byte front sum c.loop.invariant) c.append-2.ensures.ok
