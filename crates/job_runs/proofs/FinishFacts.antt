-- A run whose copy is finished: the core that it left, behind reads at most.
use Rattle.std.proofs.Common.{◌≡◌, ◌⊎◌, inl, inr, ℕ, Bool, true, false, List, Option, None, refl, sym, ◌∙◌, ap, subst}
use Rattle.std.specs.Prelude.{is_some}
use Rattle.mss_base.specs.Content.{SiteLog}
use Rattle.mss_base.specs.Sites.{OnlyReads}
use Rattle.mss_base.specs.declared.site.Site.{Ghosts}
use Rattle.job_text.specs.Jobs.{ScriptData}
use Rattle.core_state.specs.Beginning.{Continues, IsLater}
use Rattle.core_state.specs.Chains.{Reading, Terms}
use Rattle.core_state.specs.CoreValue.{CoreData, CoreValue, seen_core, seen_site}
use Rattle.core_state.proofs.Later.{later_none}
use Rattle.serial_driver.specs.declared.answer.DriveAnswer.{DriveAnswer}
use Rattle.serial_driver.specs.declared.answer.DriveAnswer.TheVariants as ended
use Rattle.serial_driver.specs.Drives.{RunsOn}
use Rattle.serial_driver.proofs.ReadFacts.{reading_on}
use Rattle.serial_driver.proofs.TakeFacts.{reads_seen}
use Rattle.volume_copy.specs.Beside.{ReadsBeside, asked_copy}
use Rattle.volume_copy.specs.Copies.{CopyData}
use Rattle.table_pair.proofs.SiteLemmas.{reads_none}
use Rattle.job_runs.specs.Copies.{EndsForCopy, IsToldWhole}
use Rattle.job_runs.specs.Runs.{Goes, IsHalted}

module _ {S C : Type 0} (g : Ghosts S) (v w : CoreValue S C) where
  pub record WasRead : Type 0 where
    pub same : w ≡ record v { site = w.site }
    pub site_ : OnlyReads g v.site w.site

  pub was_read : (copies : Bool) → ReadsBeside g copies v w → WasRead
  was_read false is = record {
    same = is ∙ (λ i. record v { site = (sym is i).site });
    site_ = subst (λ (x : CoreValue S C). OnlyReads g v.site x.site) (sym is) (reads_none g v.site);
  }
  was_read true reads = record { same = reads.core; site_ = reads.site_ }

  pub devices_read : (copies : Bool) → ReadsBeside g copies v w → Reading copies g.tells (seen_core g v) (λ read. read.site ≡ seen_site g w.site)
  devices_read copies reads =
      reading_on g.tells (seen_core g v) copies (λ read. seen_core g w ≡ read) (λ read. read.site ≡ seen_site g w.site) (λ read is. sym (ap (λ (c : CoreData). c.site) is)) (reads_seen g v w copies reads)

  module _ (read : WasRead) where
    -- what doesn't look at the site is the same
    pub part_same : {A : Type 0} (part : CoreValue S C → A) → part (record v { site = w.site }) ≡ part v → part w ≡ part v
    part_same part same = ap part read.same ∙ same

    pub later_read : IsLater g.tells (seen_core g v) (seen_core g w)
    later_read = subst (λ (x : CoreValue S C). IsLater g.tells (seen_core g v) (seen_core g x)) (sym read.same)
        (record {
          beginning = record { config = refl; first_write = refl; first_faults = refl; handed = λ rows. refl };
          grown = λ t. subst (λ (log : SiteLog). Continues (g.told v.site) log) (sym (read.site_.log t)) ((later_none g.tells (seen_core g v)).grown t);
        })

-- ---- how it ended

whole_going : (end : DriveAnswer) (stopped : Option ℕ) → IsToldWhole end → IsHalted end stopped → stopped ≡ None
whole_going ended.Done stopped whole halts = halts
whole_going ended.CommandLimit stopped whole halts = halts
whole_going (ended.Stopped fault) stopped whole halts = absurd whole
whole_going ended.Memory stopped whole halts = absurd whole

pub told_going : (end : DriveAnswer) (stopped : Option ℕ) → IsToldWhole end → IsHalted end stopped → stopped ≡ None
told_going end stopped whole halts = whole_going end stopped whole halts

module _ (copier : Option CopyData) (end now : DriveAnswer) (ends : (now ≡ end) ⊎ EndsForCopy copier end now) where
  pub halted_finished : (stopped : Option ℕ) → IsHalted end stopped → IsHalted now stopped
  halted_finished stopped halts = by ends
    where
      by : (now ≡ end) ⊎ EndsForCopy copier end now → IsHalted now stopped
      by (inl same) = subst (λ (e : DriveAnswer). IsHalted e stopped) (sym same) halts
      by (inr it) = subst (λ (e : DriveAnswer). IsHalted e stopped) (sym it.memory) (whole_going end stopped it.by_itself halts)

  pub whole_before : IsToldWhole now → IsToldWhole end
  whole_before whole = by ends
    where
      by : (now ≡ end) ⊎ EndsForCopy copier end now → IsToldWhole end
      by (inl same) = subst IsToldWhole same whole
      by (inr it) = it.by_itself

  -- one that ended so did before
  pub ended_before : (other : DriveAnswer) → (ended.Memory ≡ other → ⊥) → now ≡ other → end ≡ other
  ended_before other isn't is = by ends
    where
      by : (now ≡ end) ⊎ EndsForCopy copier end now → end ≡ other
      by (inl same) = sym same ∙ is
      by (inr it) = absurd (isn't (sym it.memory ∙ is))

  module _ (terms : Terms) (copies : terms.copies ≡ is_some (asked_copy copier)) (scripts : List ScriptData) (turns : List ℕ) (began left : CoreData) where
    runs_of : (e : DriveAnswer) → IsToldWhole e → Goes terms scripts turns began e left → RunsOn terms scripts turns began e left
    runs_of ended.Done whole goes = goes
    runs_of ended.CommandLimit whole goes = goes
    runs_of (ended.Stopped fault) whole goes = absurd whole
    runs_of ended.Memory whole goes = absurd whole

    pub goes_finished : Goes terms scripts turns began end left → Goes terms scripts turns began now left
    goes_finished goes = by ends
      where
        by : (now ≡ end) ⊎ EndsForCopy copier end now → Goes terms scripts turns began now left
        by (inl same) = subst (λ (e : DriveAnswer). Goes terms scripts turns began e left) (sym same) goes
        by (inr it) = subst (λ (e : DriveAnswer). Goes terms scripts turns began e left) (sym it.memory)
            (inr (inr (record { copies_ = copies ∙ it.copies_; end = end; runs = runs_of end it.by_itself goes })))
