-- One volume is in order, and its serial differs from no other.
use Rattle.std.proofs.Common.{rules, ◌≡◌, ◌≤◌, false, List, [], ◌∷◌, ◌++◌, subst, sym, ap, ◌∙◌, arith}
use Rattle.std.specs.List.{IsDistinct}
use Rattle.std.specs.List.Sorted.{IsStrictlySortedBy}
use Rattle.mss_base.specs.Configs.{VolumeData, IsVolume, IsConfig}
use Rattle.mss_base.specs.Serial.{IsSerial}
use Rattle.tests_of_audits.proofs.told.config_of.Goals as goal

one_volume : (v : VolumeData) → IsVolume v → IsConfig (record { frames = 8; recorders = 1; volumes = v ∷ [] })
unfolding IsStrictlySortedBy IsDistinct
one_volume v good = record {
  some_frames = omega arith;
  few_frames = omega arith;
  some_recorders = omega arith;
  few_recorders = omega arith;
  volumes_ = (good, tt);
  rising = (tt, tt);
  serials = (tt, tt);
}

pub invariant_of-result : goal.invariant_of-result
invariant_of-result c =
    let numbered : c.args.volume ≤ 31 = search rules in
    let spelled : IsSerial c.args.serial = search rules in
    let items : c.push.new.self.items ≡ (c.args.volume, c.args.serial, false) ∷ [] =
    c.push.ensures.items
    ∙ ap (λ (vs : List VolumeData). vs ++ (c.args.volume, c.args.serial, false) ∷ [])
    (c.in_ok-reserve.ensures.items ∙ c.new-volumes.ensures) in
    subst (λ (vs : List VolumeData). IsConfig (record { frames = 8; recorders = 1; volumes = vs })) (sym items)
    (one_volume (c.args.volume, c.args.serial, false) (numbered, spelled))
