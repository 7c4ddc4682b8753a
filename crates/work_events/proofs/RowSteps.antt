-- What the events that change a row have in common: the room that they make, and what the change of the row leaves.
use Rattle.std.proofs.Common.{◌≡◌, ℕ, ◌≤◌, List, length, Option, None, Result, Ok, refl, sym, ◌∙◌, ap, subst, arith}
use Rattle.mss_base.specs.Content.{SiteLog, content}
use Rattle.mss_base.specs.Counts.{Rises}
use Rattle.mss_base.specs.Sites.{MayWrite}
use Rattle.mss_base.specs.declared.site.Site.{Ghosts}
use Rattle.std.specs.Option.{ForSome}
use Rattle.volume_table.specs.Row.{RowValue}
use Rattle.volume_table.specs.Listed.{HasRow, row_in_list, with_changed}
use Rattle.volume_table.specs.Changes.{IsAllowed, effect}
use Rattle.volume_table.specs.declared.changes.Change.{Change}
use Rattle.table_pair.specs.declared.copy.SlotsUsed.{SlotsUsed}
use Rattle.table_pair.specs.Slots.{used_after, used_at, with_used_after}
use Rattle.core_state.specs.declared.session.Event.TheVariants.{Work}
use Rattle.core_state.specs.Agrees.{message_of}
use Rattle.core_state.specs.CoreValue.{CoreValue}
use Rattle.core_state.specs.MakingRoom.{Reserves}
use Rattle.core_state.specs.Rows.{HaveListed, WritesRow}
use Rattle.core_state.specs.SessionData.{SessionData, data_of, of_parts, with_last_event, with_last_message, with_stop}
use Rattle.core_state.specs.TheCore.{IsKept}
use Rattle.core_state.proofs.Moved.{kept_moved}
use Rattle.core_state.proofs.RowOwners.{listed_low}
use Rattle.work_events.proofs.KeptFacts.{kept_at}
use Rattle.work_events.proofs.ChangedRows.{FailsChange, HaveChanged, IsDone, IsDueChange, with_row_stopped, kept_unchanged}

-- what a core keeps, with this site
abbrev pub IsKeptOn : {S C : Type 0} → Ghosts S → S → CoreValue S C → Type 0
IsKeptOn g site v = IsKept g.tells (g.told site) (g.writes site) (g.faults site) v

-- of a core that is this one
pub kept_as : {S C : Type 0} (g : Ghosts S) (x : S) (v w : CoreValue S C) → IsKeptOn g x v → w ≡ v → IsKeptOn g x w
kept_as {S} {C} g x v w kept same = subst (λ (z : CoreValue S C). IsKeptOn g x z) (sym same) kept

-- a core, by what stands in it and by its value; and its site and session, where no more than room was made
pub record HasRoom {S C : Type 0} (g : Ghosts S) (inside v : CoreValue S C) (site : S) (session : SessionData) : Type 0 where
  pub is : inside ≡ v
  pub kept : IsKeptOn g v.site v
  pub same : session ≡ data_of v
  pub reserves : Reserves g v.site site

pub has_room : {S C : Type 0} (g : Ghosts S) {inside : CoreValue S C} (v : CoreValue S C) → inside ≡ v → IsKeptOn g inside.site inside → (site : S) (session : SessionData) → session ≡ data_of inside → Reserves g inside.site site
    → HasRoom g inside v site session
has_room {S} {C} g {inside} v is kept site session same reserves = record {
  is = is;
  kept = kept_at g inside v is kept;
  same = same ∙ ap (λ (z : CoreValue S C). data_of z) is;
  reserves = subst (λ (z : CoreValue S C). Reserves g z.site site) is reserves;
}

-- what a change of a row that is done leaves of the core's parts
pub record Changes {S C : Type 0} (g : Ghosts S) (v : CoreValue S C) (volume : ℕ) (change : Change) (x : S) (rows : List (Option RowValue)) (used : List SlotsUsed) (session : SessionData) : Type 0 where
  pub more : g.writes v.site ≤ g.writes x
  pub le : g.faults v.site ≤ g.faults x
  pub rows_ : rows ≡ with_changed volume change v.rows
  pub used_ : used ≡ with_used_after volume v.used
  pub told : session ≡ with_last_message (message_of (g.writes x) volume change (row_in_list v.rows)) (data_of v)
  pub done_ : IsDone g.tells (g.told v.site) v volume change (g.told x) (g.writes x)
  pub have : HaveChanged g v volume change x

module _ {S C : Type 0} (g : Ghosts S) {inside v : CoreValue S C} {site : S} {session : SessionData} (has : HasRoom g inside v site session) where
  -- a core that did no more is kept
  pub kept_room : IsKeptOn g site (of_parts inside site inside.rows inside.owners inside.moving inside.requests inside.tasks inside.hosts session)
  kept_room =
      kept_as g site (record v { site = site }) _
      (kept_moved S g.tells (g.told v.site) (g.told site) (g.writes v.site) (g.faults v.site) (g.writes site) (g.faults site) v site has.reserves.log has.reserves.unwritten has.reserves.same has.kept)
      (λ i. of_parts (has.is i) site (has.is i).rows (has.is i).owners (has.is i).moving (has.is i).requests (has.is i).tasks (has.is i).hosts (has.same i))

  -- each row has its count of slots
  pub slots_counted : length inside.used ≡ 32
  slots_counted = ap (λ (z : CoreValue S C). length z.used) has.is ∙ has.kept.whole.shaped.used_

  -- ---- a change that is due

  module _ (volume : ℕ) (change : Change) (due : IsDueChange g.tells (g.told v.site) v volume change) (open_ : v.stopped ≡ None) where
    pub row_there : HasRow inside.rows volume (λ r. IsAllowed change r)
    row_there = subst (λ (z : CoreValue S C). HasRow z.rows volume (λ r. IsAllowed change r)) (sym has.is) (due.r, due.there, due.allowed)

    pub row_held : g.tells → HaveListed inside.rows inside.used volume (content (g.told site))
    row_held tl =
        let going = (has.kept.whole.told tl).going open_ in
        subst (λ (z : CoreValue S C). HaveListed z.rows z.used volume (content (g.told site))) (sym has.is)
        (subst (λ (z : SiteLog). HaveListed v.rows v.used volume (content z)) (sym (has.reserves.log tl))
        (record { holds = λ r at. going.copies volume r at; slots_ = going.slots_ volume (listed_low S v (has.kept.whole.kept open_) volume due.r due.there) }))

  -- ---- the change as it was made

  module _ (volume : ℕ) (change : Change) (x : S) {rows : List (Option RowValue)} (rows_is : rows ≡ with_changed volume change inside.rows) {most : ℕ} (devices : MayWrite g most site x)
      {T E : Type 0} (result : Result T E)
      (copies : g.tells → ForSome (row_in_list inside.rows volume) (λ r. WritesRow volume (effect change r) (used_after (used_at inside.used volume)) (g.told site) (g.told x) result)) where
    more_ : g.writes v.site ≤ g.writes x
    more_ = let w = devices.written in let u = has.reserves.unwritten in omega (arith, w, u)

    le_ : g.faults v.site ≤ g.faults x
    le_ = let f = devices.later in let u = has.reserves.same in omega (arith, f, u)

    now_rows : rows ≡ with_changed volume change v.rows
    now_rows = rows_is ∙ ap (λ (z : CoreValue S C). with_changed volume change z.rows) has.is

    written : g.tells → ForSome (row_in_list v.rows volume) (λ r. WritesRow volume (effect change r) (used_after (used_at v.used volume)) (g.told v.site) (g.told x) result)
    written tl =
        subst (λ (z : CoreValue S C). ForSome (row_in_list z.rows volume) (λ r. WritesRow volume (effect change r) (used_after (used_at z.used volume)) (g.told v.site) (g.told x) result)) has.is
        (subst (λ (z : SiteLog). ForSome (row_in_list inside.rows volume) (λ r. WritesRow volume (effect change r) (used_after (used_at inside.used volume)) z (g.told x) result)) (has.reserves.log tl) (copies tl))

    -- it is done
    pub row_changed : (t : T) → result ≡ Ok t → {used : List SlotsUsed} → used ≡ with_used_after volume inside.used
        → {told : SessionData} → told ≡ with_last_message (message_of (g.writes x) volume change (row_in_list inside.rows)) session
        → (g.tells → g.writes x ≡ length (g.told x).log) → g.faults x ≡ g.faults site → Changes g v volume change x rows used told
    row_changed t is used_is told_is counted sound = record {
      more = more_;
      le = le_;
      rows_ = now_rows;
      used_ = used_is ∙ ap (λ (z : CoreValue S C). with_used_after volume z.used) has.is;
      told = told_is ∙ (λ i. with_last_message (message_of (g.writes x) volume change (row_in_list (has.is i).rows)) (has.same i));
      done_ = λ tl r at.
          let w = well tl r at in
          record { writes = w.moments; changed = w.changed; at_end = counted tl; grows = w.grown };
      have = λ r at. record {
        write = record { moments = λ tl. (well tl r at).moments; later = more_ };
        changed = λ tl. (well tl r at).changed;
        grown = λ tl. (well tl r at).grown;
        sound = sound ∙ has.reserves.same;
      };
    }
      where
        well : g.tells → ForSome (row_in_list v.rows volume) (λ r. WritesRow {T = T} {E = E} volume (effect change r) (used_after (used_at v.used volume)) (g.told v.site) (g.told x) (Ok t))
        well tl = subst (λ (z : Result T E). ForSome (row_in_list v.rows volume) (λ r. WritesRow volume (effect change r) (used_after (used_at v.used volume)) (g.told v.site) (g.told x) z)) is (written tl)

    -- a write of it failed, as the event tells it
    pub row_failed : Rises (g.writes site) (g.writes x) → Rises (g.faults site) (g.faults x)
        → FailsChange g v volume change x
    row_failed wrote rises r at = record {
      write = record { moments = λ tl. (written tl r at).moments; later = more_ };
      wrote = subst (λ (k : ℕ). Rises k (g.writes x)) has.reserves.unwritten wrote;
      cause = record { count = refl; rises = subst (λ (k : ℕ). Rises k (g.faults x)) has.reserves.same rises };
    }

    -- the core that stops then, with the slots in use as before
    pub stopped_is : (n : ℕ) {used : List SlotsUsed} → used ≡ inside.used → {stop : SessionData} → stop ≡ with_stop (g.faults x) session → {told : SessionData} → told ≡ with_last_event (Work n) stop
        → ◌≡◌ {A = CoreValue S C} (record (of_parts inside x rows inside.owners inside.moving inside.requests inside.tasks inside.hosts told) { used = used }) (with_row_stopped v n volume change x (g.faults x))
    stopped_is n used_is stop_is told_is =
        let used_ = used_is ∙ ap (λ (z : CoreValue S C). z.used) has.is in
        let now_told = told_is ∙ ap (with_last_event (Work n)) (stop_is ∙ ap (with_stop (g.faults x)) has.same) in
        λ i. record (of_parts (has.is i) x (now_rows i) (has.is i).owners (has.is i).moving (has.is i).requests (has.is i).tasks (has.is i).hosts (now_told i)) { used = used_ i }

    -- it is kept
    pub row_stopped : IsDueChange g.tells (g.told v.site) v volume change → v.stopped ≡ None → (n : ℕ) → Rises (g.faults site) (g.faults x) → {used : List SlotsUsed} → used ≡ inside.used
        → {stop : SessionData} → stop ≡ with_stop (g.faults x) session → {told : SessionData} → told ≡ with_last_event (Work n) stop
        → IsKeptOn g x (record (of_parts inside x rows inside.owners inside.moving inside.requests inside.tasks inside.hosts told) { used = used })
    row_stopped due open_ n rises used_is stop_is told_is =
        kept_as g x (with_row_stopped v n volume change x (g.faults x)) _
        (kept_unchanged S g.tells (g.told v.site) (g.told x) (g.writes v.site) (g.faults v.site) (g.writes x) (g.faults x) v has.kept open_ n x volume change more_ le_ due (λ tl r at. (written tl r at).moments)
        (record { count = refl; rises = subst (λ (k : ℕ). Rises k (g.faults x)) has.reserves.same rises }))
        (stopped_is n used_is stop_is told_is)
