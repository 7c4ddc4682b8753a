-- The volume is the one that the host has mounted, and the cylinder the one that it stands on.
use Rattle.std.proofs.Common.{◌≡◌, ◌<◌, ℕ, ◌∙◌, sym, ap, length, arith, Option, Some, None}
use Rattle.std.specs.Prelude.{Bool}
use Rattle.std.proofs.lemmas.List.{get_or_default}
use Rattle.std.proofs.lemmas.Result.{IfOk-weaker}
use Rattle.plain_machine.specs.StateData.{volume_at}
use Rattle.plain_machine.proofs.StateFacts.{answers_on}
use Rattle.plain_machine.proofs.volume.run_under.Goals as goal

pub returns-in-Some-volumes-clause-answer : goal.returns-in-Some-volumes-clause-answer
returns-in-Some-volumes-clause-answer c =
    let place : c.in-Some.number ≡ c.from.result = sym (c.from.ensures ∙ c.get.ensures.value) in
    let inside : c.from.result < length c.args.volumes.now = omega (arith, c.from.ensures, c.get.ensures.value, c.get.ensures.in_range, c.requires) in
    let mounted : c.args.host.now.mounted ≡ Some (c.from.result, c.in-Some.field-0-1) = c.in-Some.is ∙ ap (λ (v : ℕ). let m : Option (ℕ × Bool) = Some (v, c.in-Some.field-0-1) in m) place in
    let there : volume_at c.args.volumes.now c.from.result ≡ Some c.in-Some-volumes.volume = get_or_default c.args.volumes.now c.from.result None c.index-volumes-from.result inside ∙ c.in-Some-volumes.is in
    IfOk-weaker c.run.result _ _ (λ reply a.
    answers_on c.args.volumes.now c.from.result c.in-Some.field-0-1 c.args.host.now c.in-Some-volumes.volume c.run.new.self
    mounted inside there c.run.ensures.serial c.run.ensures.read_only c.run.ensures.place c.run.ensures.head
    _ _ _ c.run.new.host reply c.run.ensures.cylinders a) c.run.ensures.answer
