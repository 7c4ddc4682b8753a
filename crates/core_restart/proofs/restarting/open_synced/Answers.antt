use Rattle.std.proofs.Common.{refl}
use Rattle.core_state.specs.CoreValue.{seen_site}
use Rattle.core_restart.specs.Opening as made
use Rattle.core_restart.proofs.restarting.open_synced.Goals as goal

-- the sync failed, or memory ran out before it
pub returns-in-Err-clause-opens : goal.returns-in-Err-clause-opens
returns-in-Err-clause-opens g c = made.not_opened c.in-Err.refused refl c.in-Err.ensures.unsynced

-- what is opened, or refused, is what was synced
pub returns-in-Ok-clause-opens : goal.returns-in-Ok-clause-opens
returns-in-Ok-clause-opens g c = made.opened (record {
  synced = seen_site g.S.Site c.sync_site.new.site;
  sync = c.in-Ok.ensures.synced;
  told = c.open_rows.ensures.told;
  any = c.open_rows.ensures.any;
})
