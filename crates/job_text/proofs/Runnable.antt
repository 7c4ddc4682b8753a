-- The programs of a job can be run.
use Rattle.std.proofs.Common.{List, [], ◌∷◌}
use Rattle.std.specs.List.{AllByRecursion}
use Rattle.mss_base.specs.Configs.{VolumeData}
use Rattle.channel_program.specs.Script.{ItemData, mounting, demounting, program}
use Rattle.channel_program.specs.Items.{IsRunnable, AreRunnable}
use Rattle.job_text.specs.Jobs.{ScriptData, IsItem, IsScript, AreRunnableScripts}

module _ (volumes : List VolumeData) where
  item_runs : (item : ItemData) → IsItem volumes item → IsRunnable item
  item_runs (mounting n bind) is = tt
  item_runs demounting is = tt
  item_runs (program words) is = (is.some, is.few)

  items_run : (items : List ItemData) → AllByRecursion (IsItem volumes) items → AreRunnable items
  items_run [] all = tt
  items_run (item ∷ items) all = (item_runs item all.0, items_run items all.1)

  pub scripts_run : (scripts : List ScriptData) → AllByRecursion (IsScript volumes) scripts → AreRunnableScripts scripts
  scripts_run [] all = tt
  scripts_run (s ∷ ss) all = (items_run s.items all.0.each, scripts_run ss all.1)
