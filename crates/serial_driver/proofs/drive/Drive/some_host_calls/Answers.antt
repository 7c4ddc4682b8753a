use Rattle.std.proofs.Common.{◌≤◌, ◌<◌, length, arith}
use Rattle.core_state.specs.CoreValue.{seen_core}
use Rattle.serial_driver.proofs.RoundFacts.{nobody, calls_found, calls_later, calls_nowhere}
use Rattle.serial_driver.proofs.drive.Drive.some_host_calls.Goals as goal

pub returns-then-can_call : goal.returns-then-can_call
returns-then-can_call g c =
    let low : c.loop-number.number < length c.args.self.now.scripts = omega (arith, c.loop-number-test.true, c.host_count-count.ensures) in
    calls_found c.args.self.now.scripts (seen_core g.S.Site c.args.self.now.core) c.loop-number.number low c.can_call.result (c.can_call.ensures nobody) c.if-can_call.true c.loop-number.invariant

pub loop-number-preserved : goal.loop-number-preserved
loop-number-preserved g c =
    let low : c.loop-number.number < length c.args.self.now.scripts = omega (arith, c.loop-number-test.true, c.host_count-count.ensures) in
    calls_later c.args.self.now.scripts (seen_core g.S.Site c.args.self.now.core) c.loop-number.number low c.can_call.result (c.can_call.ensures nobody) c.if-can_call.false c.loop-number.invariant

pub returns : goal.returns
returns g c =
    let past : length c.args.self.now.scripts ≤ c.loop-number.number = omega (arith, c.loop-number-test.false, c.host_count-count.ensures) in
    calls_nowhere c.args.self.now.scripts (seen_core g.S.Site c.args.self.now.core) c.loop-number.number past c.loop-number.invariant
