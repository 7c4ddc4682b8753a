use Rattle.std.proofs.Common.{◌≡◌, ◌-◌}
use Rattle.ckd_plain.specs.Index.{next_within}
use Rattle.plain_machine.specs.Outcomes.{cylinder_of}
use Rattle.plain_machine.proofs.index.next_record.Given as goal

-- the looks that are left find what all looks find
abbrev pub invariant-loop : goal.invariant-loop
invariant-loop l = next_within (20 - l.counter) (cylinder_of l.tracks) l.host l.first l.multi ≡ next_within 20 (cylinder_of l.tracks) l.fn.from l.first l.multi
