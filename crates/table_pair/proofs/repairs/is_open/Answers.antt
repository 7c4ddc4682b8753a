use Rattle.std.proofs.Common.{◌∙◌, sym, ap, List, ℕ}
use Rattle.table_pair.specs.Copies.{copy_at}
use Rattle.table_pair.proofs.CopyLemmas.{gate_of}
use Rattle.table_pair.proofs.repairs.is_open.Goals as goal

pub returns : goal.returns
returns c = sym (gate_of c.as_slice.result.now) ∙ ap (λ (b : List ℕ). (copy_at b).is_open) c.as_slice.ensures.bytes
