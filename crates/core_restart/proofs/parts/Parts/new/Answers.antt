use Rattle.std.proofs.Common.{List, length, ap, arith, rules}
use Rattle.mss_base.specs.Configs.{ConfigData, VolumeData}
use Rattle.core_restart.proofs.parts.Parts.new.Goals as goal

pub returns : goal.returns
returns c = record {
  config_ = search rules;
  frames_ = search rules;
  recency_ = search rules;
  requests_ = search rules;
  tasks_ = search rules;
  at_home = c.in_ok-machine.ensures.at_home;
  recorders_ = search rules;
  hosts_ = search rules;
  console_ = search rules;
  room =
      let room = c.in_ok-hosts.ensures.room in
      let items = ap (λ (vs : List VolumeData). length vs) c.as_slice.ensures in
      let is = ap (λ (k : ConfigData). length k.volumes) c.config.view_is in
      omega (arith, room, items, is);
}
