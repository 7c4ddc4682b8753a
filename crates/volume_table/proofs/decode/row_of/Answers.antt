use Rattle.std.proofs.Common.{◌≡◌, ◌==◌, ◌∙◌, Option, Some, IfSome, get_or, sym, subst, arith}
use Rattle.mss_base.specs.Serial.{IsSerial}
use Rattle.volume_table.specs.Row.{IsRow}
use Rattle.volume_table.proofs.GrammarLemmas.{six_at, serial_good, first_good, second_good, row_good}
use Rattle.volume_table.proofs.decode.row_of.Goals as goal

-- what an option gives, where its item is known
given : {A : Type 0} (o : Option A) (item wanted : A) → o ≡ Some item → IfSome o (λ x. x ≡ wanted) → item ≡ wanted
given o item wanted is known = subst (λ p. IfSome p (λ x. x ≡ wanted)) is known

pub unwrap-serial-requires : goal.unwrap-serial-requires
unwrap-serial-requires c = c.of.ensures.in_range.1 (subst IsSerial (six_at c.args.body.now (omega arith)) (serial_good c.args.body.now c.requires.long c.requires.good))

pub unwrap-first-requires : goal.unwrap-first-requires
unwrap-first-requires c =
    let f = first_good c.args.body.now c.requires.long c.requires.good in
    c.of-2.ensures.in_range.1 (omega (arith, f, c.two_at.ensures))

pub unwrap-second-requires : goal.unwrap-second-requires
unwrap-second-requires c =
    let f = second_good c.args.body.now c.requires.long c.requires.good in
    c.of-3.ensures.in_range.1 (omega (arith, f, c.two_at-2.ensures))

pub returns : goal.returns
returns c = λ i. record {
  serial = (given _ _ _ c.unwrap-serial.ensures c.of.ensures.value ∙ sym (six_at c.args.body.now (omega arith))) i;
  read_only = get_or c.args.body.now 62 0 == 1;
  first = (given _ _ _ c.unwrap-first.ensures c.of-2.ensures.value ∙ c.two_at.ensures) i;
  second = (given _ _ _ c.unwrap-second.ensures c.of-3.ensures.value ∙ c.two_at-2.ensures) i;
  pages = c.in_ok-pages.ensures i;
  states = c.in_ok-states.ensures i;
}

pub invariant_of-result : goal.invariant_of-result
invariant_of-result c = subst IsRow (sym (returns c)) (row_good c.args.body.now c.requires.long c.requires.good)

pub states_of-requires : goal.states_of-requires
states_of-requires c = λ place lt. (row_good c.args.body.now c.requires.long c.requires.good).numbers place
