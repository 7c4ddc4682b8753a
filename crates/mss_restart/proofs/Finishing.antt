-- What a whole opening leaves, from what its parts do.
use Rattle.std.proofs.Common.{◌≡◌, inl, inr, ℕ, zero, suc, ◌≤◌, Bool, false, List, [], ◌∷◌, Option, None, Result, Ok, Err, refl, sym, ◌∙◌, subst, arith}
use Rattle.mss_base.specs.Configs.{ConfigData, serial_in}
use Rattle.mss_base.specs.Content.{Content, SiteLog, content}
use Rattle.volume_table.specs.Row.{RowValue}
use Rattle.table_pair.specs.Pair.{known, unknown, row_of}
use Rattle.shown_volumes.specs.declared.refused.Refused.{Refused}
use Rattle.shown_volumes.specs.declared.refused.Refused.TheVariants.{Stopped, Memory}
use Rattle.shown_volumes.specs.Shown.{RowsOf, rows_in, rows_of}
use Rattle.shown_volumes.specs.Faults.{first_fault}
use Rattle.mss_base.proofs.FirstFacts.{or_none}
use Rattle.volume_table.specs.Listed.{row_in_list}
use Rattle.mss_restart.specs.Walks.{rest_fault}
use Rattle.mss_restart.specs.Survey.{AreFaultless}
use Rattle.mss_restart.specs.Opening.{OpeningChange, opening_changes, RowsAre}
use Rattle.mss_restart.specs.Creations.{IsStop, AreRenewed, AreRepaired, AreMigrated, AreRewritten, IsFrontWritten, Account, AreTold, RepairsWhole, MigratesWhole, RewritesWhole, ChangesWhole, CompletesWhole}
use Rattle.mss_restart.specs.Answers.{RefusesAs, KeepsOpening, RefusalLeaves, account_from}
use Rattle.mss_restart.specs.declared.steps.OpeningStep.{OpeningStep}
use Rattle.mss_restart.proofs.ReadRows.{right_readings}
use Rattle.mss_restart.proofs.Surveyed.{row_walk, is_rest, none_apart}
use Rattle.mss_restart.proofs.Repaired.{none_repaired, none_migrated}
use Rattle.mss_restart.proofs.MigratedFacts.{unmigrated}

none_written : (changes : List OpeningChange) (rows : RowsOf) (s : SiteLog) → IsFrontWritten changes rows s s
none_written changes rows s = record { done_ = []; later = changes; order = refl; steps = []; last = rows; each = (refl, refl) }

-- want of memory within the repairs
pub repairs_whole : (old new : SiteLog) (e : Refused) → RepairsWhole {T = Bool} old new (Err e) → RewritesWhole {T = Unit {0}} old new (Err e)
repairs_whole old new Memory is = (is.0, (0, record { mid = new; repaired = is.1; migrated = none_migrated new }))
repairs_whole old new _ is = tt

-- migrations behind all repairs
pub migrates_whole : (old mid new : SiteLog) (result : Result (Unit {0}) Refused) → AreRepaired 32 old mid → MigratesWhole mid new result → RewritesWhole old new result
migrates_whole old mid new (Ok value) repaired is = record { mid = mid; repaired = repaired; migrated = is }
migrates_whole old mid new (Err Memory) repaired is = (32, (is.0, record { mid = mid; repaired = repaired; migrated = is.1 }))
migrates_whole old mid new (Err _) repaired is = tt

-- repairs behind which nothing was migrated, since all copies are of version 2
unmigrated_all : (count : ℕ) (s : SiteLog) → AreRenewed count (content s) → AreMigrated count s s
unfolding AreMigrated
unmigrated_all zero s new = refl
unmigrated_all (suc count) s new = (s, unmigrated_all count s (λ v lt. new v (omega (arith, lt))), unmigrated count s (λ row there. new count (omega arith)))

pub repairs_alone : (old new : SiteLog) → AreRepaired 32 old new → AreRenewed 32 (content new) → AreRewritten 32 32 old new
repairs_alone old new repaired renewed = record { mid = new; repaired = repaired; migrated = unmigrated_all 32 new renewed }

-- want of memory within both
pub rewrites_complete : (a : Account) (old new : SiteLog) (e : Refused) → RewritesWhole {T = Unit {0}} old new (Err e) → CompletesWhole a old new (Err e)
rewrites_complete a old new Memory is = (is.0, (is.1.0, (new, is.1.1, none_written a.changes a.before new)))
rewrites_complete a old new _ is = tt

-- changes behind all repairs and migrations
pub changes_complete : (a : Account) (old mid new : SiteLog) (result : Result (Unit {0}) Refused) → AreRewritten 32 32 old mid → ChangesWhole a mid new result → CompletesWhole a old new result
changes_complete a old mid new (Ok value) rewritten is = (mid, rewritten, is)
changes_complete a old mid new (Err Memory) rewritten is = (32, (32, (mid, rewritten, is)))
changes_complete a old mid new (Err _) rewritten is = tt

-- nothing was written
pub none_complete : (a : Account) (old new : SiteLog) (e : Refused) → new ≡ old → CompletesWhole a old new (Err e)
none_complete a old new Memory same = subst (λ (x : SiteLog). CompletesWhole a old x (Err Memory)) (sym same)
    (0, (0, (old, record { mid = old; repaired = none_repaired old; migrated = none_migrated old }, none_written a.changes a.before old)))
none_complete a old new _ same = tt

-- of a refusal neither the steps nor the last rows are told
other_names : (a : Account) (told : List OpeningStep) (other : RowsOf) (old new : SiteLog) (e : Refused) → CompletesWhole a old new (Err e) → CompletesWhole (record a { after = other; steps = told }) old new (Err e)
other_names a told other old new Memory is = is
other_names a told other old new _ is = tt

abbrev pub told_by : ConfigData → RowsOf → RowsOf → List OpeningStep → Account
told_by config rows last steps = record { changes = opening_changes rows config.volumes; before = rows; after = last; steps = steps }

pub refusal_complete : (config : ConfigData) (steps : List OpeningStep) (rows last : RowsOf) (old mid new : SiteLog) (e : Refused) → mid ≡ old → rows ≡ rows_of (content old) → CompletesWhole (told_by config rows last steps) mid new (Err e)
    → CompletesWhole (account_from config old new []) old new (Err e)
refusal_complete config steps rows last old mid new e same rows_are is =
    subst (λ (r : RowsOf). CompletesWhole (told_by config r (rows_of (content new)) []) old new (Err e)) rows_are
    (subst (λ (x : SiteLog). CompletesWhole (told_by config rows (rows_of (content new)) []) x new (Err e)) same (other_names (told_by config rows last steps) [] (rows_of (content new)) mid new e is))

pub answer_complete : (config : ConfigData) (steps : List OpeningStep) (rows last : RowsOf) (old mid new : SiteLog) → mid ≡ old → rows ≡ rows_of (content old) → last ≡ rows_of (content new) → CompletesWhole (told_by config rows last steps) mid new (Ok tt)
    → CompletesWhole (account_from config old new steps) old new (Ok tt)
answer_complete config steps rows last old mid new same rows_are last_is is =
    subst (λ (r : RowsOf). CompletesWhole (told_by config r (rows_of (content new)) steps) old new (Ok tt)) rows_are
    (subst (λ (x : SiteLog). CompletesWhole (told_by config rows (rows_of (content new)) steps) x new (Ok tt)) same
    (subst (λ (l : RowsOf). CompletesWhole (told_by config rows l steps) mid new (Ok tt)) last_is is))

pub told_since : (changes : List OpeningChange) (steps : List OpeningStep) (rows last : RowsOf) (begun before now : ℕ) → begun ≤ before → AreTold changes steps rows last before now → AreTold changes steps rows last begun now
told_since [] [] rows last begun before now start told = (told.0, (let a = told.1 in omega (arith, start, a)))
told_since [] (x ∷ steps) rows last begun before now start told = absurd told
told_since (w ∷ changes) [] rows last begun before now start told = absurd told
told_since (w ∷ changes) (x ∷ steps) rows last begun before now start told = (told.0, told.1, told.2, (let a = told.3 in omega (arith, start, a)), told.4)

-- what a refusal leaves and keeps
pub unwritten_refusal : (written writes before now : ℕ) (e : Refused) → writes ≡ written → RefusalLeaves written writes before now e
unwritten_refusal written writes before now (Stopped f) same = tt
unwritten_refusal written writes before now Memory same = inl same
unwritten_refusal written writes before now _ same = same

pub stop_leaves : (written writes before now : ℕ) (e : Refused) → IsStop before now e → RefusalLeaves written writes before now e
stop_leaves written writes before now (Stopped f) stops = tt
stop_leaves written writes before now Memory stops = inr stops
stop_leaves written writes before now _ stops = absurd stops

pub stop_keeps : (T : Type 0) (before now : ℕ) (e : Refused) → IsStop before now e → KeepsOpening {T = T} before now (Err e)
stop_keeps T before now (Stopped f) stops = let same : f ≡ now = stops.count in record { rises = omega (arith, same, stops.rises); past = omega (arith, same) }
stop_keeps T before now Memory stops = omega (arith, stops)
stop_keeps T before now _ stops = absurd stops

-- rows that are known, of a content without a fault
faultless_rows : (config : ConfigData) (c : Content) (rows : List (Option RowValue)) → RowsAre rows c → first_fault config.frames (serial_in config.volumes) c ≡ None → AreFaultless (serial_in config.volumes) (row_of c)
faultless_rows config c rows are none =
    let asked = serial_in config.volumes in
    record {
      known = λ v low un. (let is : known (row_in_list rows v) false ≡ unknown = sym (are v low) ∙ un in cc);
      none = (or_none (row_walk config.frames asked (row_of c) c) (rest_fault config.frames (rows_in (row_of c)) c) (sym (is_rest config.frames asked (row_of c) c) ∙ none)).0;
    }

pub stop_refuses : (before now : ℕ) (config : ConfigData) (old new : SiteLog) (rows : List (Option RowValue)) (e : Refused) → RowsAre rows (content old) → first_fault config.frames (serial_in config.volumes) (content old) ≡ None
    → IsStop before now e → RefusesAs before now config old new e
stop_refuses before now config old new rows (Stopped f) are none stops = record { mid = before; readings = right_readings before (content old); faultless = faultless_rows config (content old) rows are none; apart = none_apart config.frames (serial_in config.volumes) (row_of (content old)) (content old) none; cause = inr stops }
stop_refuses before now config old new rows Memory are none stops = tt
stop_refuses before now config old new rows _ are none stops = absurd stops
