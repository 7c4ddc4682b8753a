-- What restart hands on of what opening answers.
use Rattle.std.proofs.Common.{◌≡◌, List, length, Option, Ok, sym, ◌∙◌, subst}
use Rattle.std.proofs.lemmas.List.{append-nil}
use Rattle.mss_base.specs.Configs.{ConfigData}
use Rattle.mss_base.specs.Content.{content}
use Rattle.volume_table.specs.Listed.{row_in_list}
use Rattle.volume_table.specs.Row.{RowValue}
use Rattle.table_pair.specs.declared.copy.SlotsUsed.{SlotsUsed}
use Rattle.mss_restart.specs.declared.opening.Opened.{Opened}
use Rattle.mss_restart.specs.Opening.{IsOpened}
use Rattle.mss_restart.specs.Creations.{CompletesWhole}
use Rattle.mss_restart.specs.declared.steps.OpeningStep.{OpeningStep}
use Rattle.mss_restart.specs.Answers.{TellsChanges, account_from}
use Rattle.core_restart.specs.Console.{steps_in}
use Rattle.mss_restart.specs.Usable.{AreUsableFor}
use Rattle.core_state.specs.CoreValue.{CoreValue, DevicesSeen}
use Rattle.core_restart.specs.Opening.{HasOpened, OpensAny, OpensSynced, OpensTold, opened_in}

module _ {S C : Type 0} (config : ConfigData) (old new : DevicesSeen) (opened : Opened) (core : CoreValue S C) (has : HasOpened opened core) where
  -- so it is of the same rows, slots and steps in the core
  pub told_as : OpensTold config old new (Ok opened) → OpensTold config old new (Ok (opened_in core))
  told_as is = record {
    opens = subst (λ (x : List (Option RowValue) × List SlotsUsed). IsOpened config (content old.told) (content new.told) x.0 x.1) (λ i. (sym has.rows_ i, sym has.used_ i)) is.opens;
    exact = is.exact;
    moments = is.moments;
    complete = subst (λ (xs : List OpeningStep). CompletesWhole (account_from config old.told new.told xs) old.told new.told (Ok tt)) (sym (append-nil (steps_in core.console) ∙ has.steps_)) is.complete;
    others = is.others;
    paired = is.paired;
    untouched = is.untouched;
  }

  pub any_as : OpensAny config old new (Ok opened) → OpensAny config old new (Ok (opened_in core))
  any_as is = record {
    usable = record {
      rows_ = subst (λ (rs : List (Option RowValue)). AreUsableFor config (row_in_list rs)) (sym has.rows_) is.usable.rows_;
      used_ = subst (λ (xs : List SlotsUsed). length xs ≡ 32) (sym has.used_) is.usable.used_;
    };
    counted = subst (λ (x : List (Option RowValue) × List OpeningStep). TellsChanges config old.writes new.writes (row_in_list x.0) x.1)
        (λ i. (sym has.rows_ i, sym (append-nil (steps_in core.console) ∙ has.steps_) i)) is.counted;
    refused = tt;
    kept = is.kept;
  }

-- all was synced, and then opened, as the core has it
pub opened_as : {S C : Type 0} (tells : Type 0) (config : ConfigData) (old new : DevicesSeen) (opened : Opened) (core : CoreValue S C) → HasOpened opened core
    → OpensSynced tells config old new (Ok opened) → OpensSynced tells config old new (Ok (opened_in core))
opened_as tells config old new opened core has is = record {
  synced = is.synced;
  sync = is.sync;
  told = λ t. told_as config is.synced new opened core has (is.told t);
  any = any_as config is.synced new opened core has is.any;
}
