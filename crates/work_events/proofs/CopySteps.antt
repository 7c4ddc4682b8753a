-- The copy of a track: the core that is left where it is done, and where it fails.
use Rattle.std.proofs.Common.{◌≡◌, ℕ, ◌≤◌, List, Option, Some, None, Result, Ok, Err, refl, sym, ◌∙◌, ap, subst, arith}
use Rattle.std.specs.Prelude.{slice_set}
use Rattle.mss_base.specs.Content.{SiteLog, content}
use Rattle.mss_base.specs.Counts.{Rises}
use Rattle.mss_base.specs.declared.site.Site.{Ghosts}
use Rattle.fault_queue.specs.declared.queue.Request.{Request}
use Rattle.transfers.specs.Copies.{AddsAtMost, AddsCopy, CopiesTrack, moved_on, source, target}
use Rattle.transfers.specs.declared.transfer.Transfer.{Transfer}
use Rattle.victim_choice.specs.declared.choose.Candidate.{Candidate}
use Rattle.core_state.specs.declared.task.Task.{Task}
use Rattle.core_state.specs.declared.rule.WorkAnswer.{WorkAnswer}
use Rattle.core_state.specs.declared.rule.WorkAnswer.TheVariants.{Did}
use Rattle.core_state.specs.declared.rule.WorkKind.TheVariants as kind
use Rattle.core_state.specs.declared.rule.WorkRule.TheVariants.{Copies}
use Rattle.core_state.specs.declared.session.Event.TheVariants.{Work}
use Rattle.core_state.specs.CoreValue.{CoreValue, seen_core, seen_site}
use Rattle.core_state.specs.Devices.{CopyBlock, LeaveBlock}
use Rattle.core_state.specs.SessionData.{SessionData, of_parts, with_last_event}
use Rattle.core_state.specs.WorkEvents.{WorkDoes}
use Rattle.core_state.specs.Working.{MayCopy, Serves}
use Rattle.work_events.proofs.CopyWhole.{kept_copied, kept_uncopied}
use Rattle.work_events.proofs.DoesFacts.{copied, copied_does, uncopied_does}
use Rattle.work_events.proofs.FailedWhole.{failed}
use Rattle.work_events.proofs.RowSteps.{HasRoom, IsKeptOn, kept_as}

module _ {S C : Type 0} (g : Ghosts S) {inside v : CoreValue S C} {site : S} {session : SessionData} (has : HasRoom g inside v site session) (t : Transfer) (x : S) where
  module _ {T E : Type 0} (result : Result T E) (copies : CopiesTrack g t site x result) where
    logged : g.tells → AddsAtMost (target t t.next) (g.told v.site) (g.told x)
    logged tl = subst (λ (z : SiteLog). AddsAtMost (target t t.next) z (g.told x)) (has.reserves.log tl) (copies.blocks tl).logged

    more : g.writes v.site ≤ g.writes x
    more = let w = copies.devices.written in let u = has.reserves.unwritten in omega (arith, w, u)

    le : g.faults v.site ≤ g.faults x
    le = let f = copies.devices.later in let u = has.reserves.same in omega (arith, f, u)

  -- ---- it is done

  module _ {T E : Type 0} (done_ : T) (copies : CopiesTrack {T = T} {E = E} g t site x (Ok done_)) (n : ℕ) (old : Task) where
    pub copied_is : {next : Transfer} → next ≡ moved_on t → {tasks : List (Option Task)} → tasks ≡ slice_set inside.tasks n (Some (record old { transfer = Some next }))
        → {told : SessionData} → told ≡ with_last_event (Work n) session
        → ◌≡◌ {A = CoreValue S C} (of_parts inside x inside.rows inside.owners inside.moving inside.requests tasks inside.hosts told) (copied v n old t x)
    copied_is next_is tasks_is told_is =
        let tasks_ = tasks_is ∙ (λ i. slice_set (has.is i).tasks n (Some (record old { transfer = Some (next_is i) }))) in
        let told_ = told_is ∙ ap (with_last_event (Work n)) has.same in
        λ i. of_parts (has.is i) x (has.is i).rows (has.is i).owners (has.is i).moving (has.is i).requests (tasks_ i) (has.is i).hosts (told_ i)

    pub copy_kept : v.stopped ≡ None → (q : Request) → Serves v n old q → MayCopy v old q t → (w : CoreValue S C) → w ≡ copied v n old t x → IsKeptOn g x w
    copy_kept open_ q serves may w path =
        kept_as g x (copied v n old t x) w
        (kept_copied S g.tells (g.told v.site) (g.told x) (g.writes v.site) (g.faults v.site) (g.writes x) (g.faults x) v has.kept open_ n old q serves x t may (logged (Ok done_) copies) (more (Ok done_) copies) (le (Ok done_) copies)
        (λ tl. (copies.blocks tl).copied ∙ ap (λ (z : SiteLog). source t t.next (content z)) (has.reserves.log tl)))
        path

    copy_leaves : CopyBlock g.tells t (seen_site g v.site) (seen_site g x)
    copy_leaves = record {
      written = λ tl. subst (λ (z : SiteLog). AddsCopy t z (g.told x)) (has.reserves.log tl) (copies.blocks tl).written;
      copied = λ tl. (copies.blocks tl).copied ∙ ap (λ (z : SiteLog). source t t.next (content z)) (has.reserves.log tl);
      later = more (Ok done_) copies;
      sound = copies.cause.same ∙ has.reserves.same;
    }

    pub copy_does : (may : List Candidate → ℕ → Type 0) (q : Request) → Serves v n old q → (answer : WorkAnswer) → answer ≡ Did kind.Copy
        → (w : CoreValue S C) → w ≡ copied v n old t x → WorkDoes g.tells may (seen_core g v) n (Copies t) answer (seen_core g w)
    copy_does may q serves answer told_ w path = copied_does g may v w n old t x answer told_ serves.at copy_leaves path

  -- ---- it fails

  module _ {T E : Type 0} (why : E) (copies : CopiesTrack {T = T} {E = E} g t site x (Err why)) (n : ℕ) (old : Task) where
    rises : Rises (g.faults v.site) (g.faults x)
    rises = subst (λ (k : ℕ). Rises k (g.faults x)) has.reserves.same copies.cause.failed

    pub copy_unkept : v.stopped ≡ None → (q : Request) → Serves v n old q → MayCopy v old q t → (w : CoreValue S C) → w ≡ failed v n old x (g.faults x) → IsKeptOn g x w
    copy_unkept open_ q serves may w path =
        kept_as g x (failed v n old x (g.faults x)) w
        (kept_uncopied S g.tells (g.told v.site) (g.told x) (g.writes v.site) (g.faults v.site) (g.writes x) (g.faults x) v has.kept open_ n old q serves x t may (logged (Err why) copies) (more (Err why) copies) (le (Err why) copies)
        (g.faults x) (record { count = refl; rises = rises }))
        path

    pub copy_undone : (may : List Candidate → ℕ → Type 0) (q : Request) → Serves v n old q → (answer : WorkAnswer) → answer ≡ Did kind.Copy
        → (w : CoreValue S C) → w.site ≡ x → w ≡ failed v n old w.site (g.faults w.site) → WorkDoes g.tells may (seen_core g v) n (Copies t) answer (seen_core g w)
    copy_undone may q serves answer told_ w there path =
        uncopied_does g may v w n old t answer told_ serves.at
        (subst (λ (y : S). LeaveBlock g.tells t (seen_site g v.site) (seen_site g y)) (sym there) (record { left = logged (Err why) copies; later = more (Err why) copies; failed = rises })) path
