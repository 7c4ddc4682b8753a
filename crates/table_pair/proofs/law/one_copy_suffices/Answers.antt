use Rattle.std.proofs.Common.{◌∙◌, ap}
use Rattle.table_pair.specs.Pair.{CopyRead, unread, closed, reading}
use Rattle.table_pair.proofs.PairFacts.{row_read, closed_read}
use Rattle.table_pair.proofs.law.one_copy_suffices.Goals as goal

pub returns : goal.returns
returns c = record {
  open_a = λ row a is. ap (λ (k : CopyRead). reading k unread) (row_read row a is);
  open_b = λ row b is. ap (reading unread) (row_read row b is);
  closed_a = λ a shut unmade. ap (λ (k : CopyRead). reading k unread) (closed_read a shut ∙ ap closed unmade);
  closed_b = λ b shut unmade. ap (reading unread) (closed_read b shut ∙ ap closed unmade);
}
