use Rattle.std.proofs.Common.{ap, rules}
use Rattle.table_pair.specs.Copies.{CopyView, copy_on}
use Rattle.table_pair.proofs.ChangingLemmas.{due_slots, one_used, append_moments, append_done, rewrite_moments, rewrite_done}
use Rattle.table_pair.proofs.OrderLemmas.{few_of_slot, few_of_rewriting}
use Rattle.table_pair.proofs.VersionLemmas.{append_new, filled_new}
use Rattle.table_pair.proofs.change.change_copy.Goals as goal

pub append_slot-requires-clause-there : goal.append_slot-requires-clause-there
append_slot-requires-clause-there g c = λ tells. due_slots _ _ _ c.args.at.now (g.S.Site.told c.args.site.now) (c.requires.due tells)

pub returns-in_err-append_slot-clause-changes : goal.returns-in_err-append_slot-clause-changes
returns-in_err-append_slot-clause-changes g c = λ tells. record {
  moments = append_moments _ _ _ c.args.at.now (g.S.Site.told c.args.site.now) (c.requires.due tells) c.encode_slot-slot.ensures.in_range _ c.encode_slot-slot.ensures.bytes _ (c.append_slot.ensures.moments tells);
  done = search rules;
  clear = search rules;
  firm = search rules;
  grown = search rules;
}

pub returns-then-used-lt-SLOTS-clause-changes : goal.returns-then-used-lt-SLOTS-clause-changes
returns-then-used-lt-SLOTS-clause-changes g c = λ tells. record {
  moments = append_moments _ _ _ c.args.at.now (g.S.Site.told c.args.site.now) (c.requires.due tells) c.encode_slot-slot.ensures.in_range _ c.encode_slot-slot.ensures.bytes _ (c.append_slot.ensures.moments tells);
  done = append_done _ _ _ c.args.at.now (g.S.Site.told c.args.site.now) (c.requires.due tells) c.encode_slot-slot.ensures.in_range _ c.encode_slot-slot.ensures.bytes _ (c.append_slot.ensures.moments tells) c.if-used-lt-SLOTS.true (c.in_ok-append_slot.ensures.done tells);
  clear = λ none. one_used c.args.used c.if-used-lt-SLOTS.true none;
  firm = c.in_ok-append_slot.ensures.firm tells;
  grown = c.in_ok-append_slot.ensures.grown tells;
}

pub returns-then-used-lt-SLOTS-clause-new : goal.returns-then-used-lt-SLOTS-clause-new
returns-then-used-lt-SLOTS-clause-new g c = λ tells. append_new _ c.args.at.now (g.S.Site.told c.args.site.now) _ (c.append_slot.ensures.moments tells)

pub returns-in_err-rewrite_copy-clause-changes : goal.returns-in_err-rewrite_copy-clause-changes
returns-in_err-rewrite_copy-clause-changes g c = λ tells. record {
  moments = rewrite_moments _ _ c.encode_row.ensures.again c.args.at.now _ _ (c.rewrite_copy.ensures.moments tells);
  done = search rules;
  clear = search rules;
  firm = search rules;
  grown = search rules;
}

pub returns-clause-changes : goal.returns-clause-changes
returns-clause-changes g c = λ tells. record {
  moments = rewrite_moments _ _ c.encode_row.ensures.again c.args.at.now _ _ (c.rewrite_copy.ensures.moments tells);
  done = rewrite_done _ _ c.encode_row.ensures.again _ (copy_on (g.S.Site.told c.args.site.now) c.args.at.now) (copy_on (g.S.Site.told c.rewrite_copy.new.site) c.args.at.now) c.if-used-lt-SLOTS.false (c.in_ok-rewrite_copy.ensures.done tells);
  clear = λ _. ap (λ (v : CopyView). v.is_clear) (c.in_ok-rewrite_copy.ensures.done tells);
  firm = c.in_ok-rewrite_copy.ensures.firm tells;
  grown = c.in_ok-rewrite_copy.ensures.grown tells;
}

pub returns-in_err-append_slot-clause-few : goal.returns-in_err-append_slot-clause-few
returns-in_err-append_slot-clause-few g c = λ tells. few_of_slot _ _ _ c.if-used-lt-SLOTS.true (c.append_slot.ensures.site_.few tells)

pub returns-then-used-lt-SLOTS-clause-few : goal.returns-then-used-lt-SLOTS-clause-few
returns-then-used-lt-SLOTS-clause-few g c = λ tells. few_of_slot _ _ _ c.if-used-lt-SLOTS.true (c.append_slot.ensures.site_.few tells)

pub returns-in_err-rewrite_copy-clause-few : goal.returns-in_err-rewrite_copy-clause-few
returns-in_err-rewrite_copy-clause-few g c = λ tells. few_of_rewriting _ _ _ c.if-used-lt-SLOTS.false (c.rewrite_copy.ensures.site_.few tells)

pub returns-clause-few : goal.returns-clause-few
returns-clause-few g c = λ tells. few_of_rewriting _ _ _ c.if-used-lt-SLOTS.false (c.rewrite_copy.ensures.site_.few tells)

pub returns-clause-new : goal.returns-clause-new
returns-clause-new g c = λ tells new. filled_new c.args.row.now _ (copy_on (g.S.Site.told c.args.site.now) c.args.at.now) (copy_on (g.S.Site.told c.rewrite_copy.new.site) c.args.at.now) c.encode_row.ensures.body (c.in_ok-rewrite_copy.ensures.done tells)
