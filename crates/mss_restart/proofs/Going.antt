-- How walks that only read go on.
use Rattle.std.proofs.Common.{◌≡◌, ℕ, ◌+◌, ◌<◌, Option, Some, None, Result, Err, sym, ◌∙◌, subst}
use Rattle.mss_base.specs.Sites.{OnlyReads}
use Rattle.mss_base.specs.Content.{Content, SiteLog, content}
use Rattle.shown_volumes.specs.declared.refused.Refused.{Refused}
use Rattle.shown_volumes.specs.declared.refused.Refused.TheVariants.{RowUnread}
use Rattle.mss_base.specs.Firsts.{first_below}
use Rattle.mss_base.proofs.FirstFacts.{none_next, found_first}
use Rattle.mss_base.specs.declared.site.Site.{Ghosts}
use Rattle.mss_restart.specs.Survey.{FindsFault, Finds, CountsFaults}

-- what a walk keeps of its site, and what it knows so far
pub record IsGoing {S : Type 0} (g : Ghosts S) (begun now : S) (Known : Content → Type 0) : Type 0 where
  pub known : g.tells → Known (content (g.told begun))
  pub devices : OnlyReads g begun now
  pub count : g.faults now ≡ g.faults begun

-- a fault is told with the count as it was when the walk began
pub counts_since : {T : Type 0} (begun before now : ℕ) (result : Result T Refused) → before ≡ begun → CountsFaults before now result → CountsFaults begun now result
counts_since begun before now result same counts = subst (λ (n : ℕ). CountsFaults n now result) same counts

-- what is found in a part is found in the whole
pub finds_more : (e : Refused) (part whole : Option Refused) → (part ≡ Some e → whole ≡ Some e) → FindsFault e part → FindsFault e whole
finds_more (RowUnread v f) part whole more found = found
finds_more e part whole more found = λ of. more (found of)

-- a walk by number: it goes on, or ends at its fault
module _ (F : Content → ℕ → Option Refused) (begun now : SiteLog) (i at : ℕ) (same : now ≡ begun) (number : at ≡ i) (so_far : first_below i (F (content begun)) ≡ None) where
  here : F (content begun) i ≡ F (content now) at
  here = λ k. F (content (sym same k)) (sym number k)

  pub goes_on : F (content now) at ≡ None → first_below (i + 1) (F (content begun)) ≡ None
  goes_on none = none_next i (F (content begun)) so_far (here ∙ none)

  pub ends_at : {T : Type 0} (n : ℕ) (e : Refused) (result : Result T Refused) → result ≡ Err e → i < n → FindsFault e (F (content now) at) → Finds result (first_below n (F (content begun)))
  ends_at n e result is lt found = subst (λ (r : Result _ Refused). Finds r (first_below n (F (content begun)))) (sym is) (finds_more e (F (content now) at) (first_below n (F (content begun))) (λ at_fault. found_first n (F (content begun)) i e lt so_far (here ∙ at_fault)) found)
