use Rattle.mss_base.specs.Content.{same_unit}
use Rattle.tests_of_tables.proofs.LostTable.{only_that, told_apart}
use Rattle.tests_of_tables.proofs.lost_table.a_memory_site_may_lose_one_table.Goals as goal

pub returns : goal.returns
returns c = λ site lost of_table is. record {
  lost = lost;
  of_table = of_table;
  others = λ unit other. ((λ u. same_unit u lost), only_that site lost is, told_apart unit lost other);
}
