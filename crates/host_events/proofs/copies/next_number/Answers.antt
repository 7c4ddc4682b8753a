-- The number of a host's last entry is how many it has.
use Rattle.std.proofs.Common.{◌==◌, ap, arith, rules, tests}
use Rattle.std.proofs.lemmas.Iterator.Adapters.{YieldsList-from_rev_slice}
use Rattle.std.proofs.lemmas.Iterator.Search.{find_from_yields_List}
use Rattle.std.proofs.lemmas.List.Sums.{count_by-le-length}
use Rattle.ckd_plain.specs.History.{EntryData}
use Rattle.host_events.proofs.EntryNumbers.{last_counts}
use Rattle.host_events.proofs.copies.next_number.Goals as goal

pub overflow_add-result : goal.overflow_add-result
overflow_add-result c =
    let found = find_from_yields_List (λ e. e.host == c.args.host) _ _ c.find.result c.find.ensures.ran (YieldsList-from_rev_slice c.args.history.now cc) (λ x b q k. search (rules, tests)) in
    let counts = last_counts c.args.host c.args.history.now c.requires.entries c.find.result found _ c.in-Some.is in
    let few = count_by-le-length (λ (e : EntryData). e.host == c.args.host) c.args.history.now in
    let same = ap (λ (e : EntryData). e.number) c.last.view_is in
    record { fits = omega (arith, counts, few, same, c.requires.few) }

pub returns-in-Some : goal.returns-in-Some
returns-in-Some c =
    let found = find_from_yields_List (λ e. e.host == c.args.host) _ _ c.find.result c.find.ensures.ran (YieldsList-from_rev_slice c.args.history.now cc) (λ x b q k. search (rules, tests)) in
    let counts = last_counts c.args.host c.args.history.now c.requires.entries c.find.result found _ c.in-Some.is in
    let same = ap (λ (e : EntryData). e.number) c.last.view_is in
    omega (arith, counts, same)

pub returns-in-None : goal.returns-in-None
returns-in-None c =
    let found = find_from_yields_List (λ e. e.host == c.args.host) _ _ c.find.result c.find.ensures.ran (YieldsList-from_rev_slice c.args.history.now cc) (λ x b q k. search (rules, tests)) in
    let counts = last_counts c.args.host c.args.history.now c.requires.entries c.find.result found _ c.in-None.is in
    omega (arith, counts)
