use Rattle.std.proofs.Common.{ℕ, ◌+◌, List, [], ◌∷◌, ◌++◌, length, length-append, arith, take, nat_eq, sym, ◌∙◌, ap, subst, Contains}
use Rattle.std.specs.List.{IsDistinct}
use Rattle.job_text.specs.Jobs.{ScriptData}
use Rattle.seen_book.specs.Books.{BookData, PassData}
use Rattle.mss_run.specs.Runs.{AreStarts, hosts_of}
use Rattle.mss_run.proofs.RunFacts.{next_fresh, next_made, next_starts}
use Rattle.mss_run.proofs.run.make_passes.Goals as goal

pub host_pass-grown-requires-clause-fresh : goal.host_pass-grown-requires-clause-fresh
host_pass-grown-requires-clause-fresh g c = λ has.
    let scripts = c.args.scripts.now in
    let i = c.loop-script.script-index in
    next_fresh scripts i c.script-item.result c.loop-script-test.true c.script-item.is (subst (IsDistinct nat_eq) c.requires.hosts c.requires.differ)
    (subst (λ (h : ℕ). Contains (hosts_of (take i scripts)) h) (ap (λ (s : ScriptData). s.host) c.script.view_is)
    (subst (λ (m : List ℕ). Contains m c.script.inside.host) c.loop-script.invariant.made has))

pub loop-script-preserved : goal.loop-script-preserved
loop-script-preserved g c =
    let scripts = c.args.scripts.now in
    let i = c.loop-script.script-index in
    let x = c.script-item.result in
    let inv = c.loop-script.invariant in
    let host = ap (λ (s : ScriptData). s.host) c.script.view_is in
    record {
      list = ap (λ (b : BookData). b.list) c.host_pass-grown.ensures.book ∙ inv.list;
      made = ap (λ (b : BookData). b.made) c.host_pass-grown.ensures.book ∙ (λ j. inv.made j ++ host j ∷ []) ∙ next_made scripts i x c.loop-script-test.true c.script-item.is;
      starts = subst (AreStarts (take (i + 1) scripts)) (sym c.push.ensures.items)
          (next_starts scripts i x c.loop-script-test.true c.script-item.is c.loop-script.passes.items c.host_pass-grown.result.1 inv.starts (record {
            host_ = ap (λ (p : PassData). p.host) c.host_pass-grown.ensures.pass ∙ host;
            fresh = ap (λ (p : PassData). p.seen) c.host_pass-grown.ensures.pass ∙ inv.list;
          }));
      count = ap length c.push.ensures.items ∙ length-append c.loop-script.passes.items (c.host_pass-grown.result.1 ∷ []) ∙ ap (λ (n : ℕ). n + 1) inv.count;
      room = (let spare = c.push.ensures.spare in let before = inv.room in omega (arith, spare, before));
    }
