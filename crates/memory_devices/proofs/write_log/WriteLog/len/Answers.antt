use Rattle.std.proofs.Common.{◌∙◌, sym, ap, length}
use Rattle.memory_devices.specs.Logged.{LogValue}
use Rattle.memory_devices.proofs.LoggedLemmas.{length-items_of}
use Rattle.memory_devices.proofs.write_log.WriteLog.len.Goals as goal

pub returns : goal.returns
returns c = ap length c.as_slice.ensures.value ∙ sym (length-items_of c.self.inside.entries.items c.self.inside.bytes.items) ∙ ap (λ (v : LogValue). length v.items) c.self.view_is
