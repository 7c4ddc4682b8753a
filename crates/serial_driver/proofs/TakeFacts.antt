-- What a read for a copy leaves of a serial run.
use Rattle.std.proofs.Common.{◌≡◌, Bool, true, false, List, Option, None, Some, refl, sym, ◌∙◌, ap, subst, arith}
use Rattle.mss_base.specs.Content.{SiteLog}
use Rattle.mss_base.specs.Sites.{OnlyReads}
use Rattle.mss_base.specs.declared.site.Site.{Ghosts}
use Rattle.job_text.specs.Jobs.{ScriptData}
use Rattle.table_pair.proofs.SiteLemmas.{reads_none}
use Rattle.core_state.specs.Beginning.{Continues}
use Rattle.core_state.specs.Chains.{Reading}
use Rattle.core_state.specs.CoreValue.{CoreValue, seen_core, seen_site}
use Rattle.core_state.proofs.Later.{later_none}
use Rattle.script_places.specs.declared.place.Place.{Place}
use Rattle.volume_copy.specs.Beside.{ReadsBeside, asked_copy}
use Rattle.volume_copy.specs.Copies.{CopyData}
use Rattle.serial_driver.specs.declared.answer.DriveAnswer.TheVariants.{Done, CommandLimit}
use Rattle.serial_driver.specs.Drives.{DriveValue, IsDriven, LeavesDrive}

module _ {S C : Type 0} (g : Ghosts S) (v w : CoreValue S C) where
  pub reads_seen : (copies : Bool) → ReadsBeside g copies v w → Reading copies g.tells (seen_core g v) (λ read. seen_core g w ≡ read)
  reads_seen false same = ap (seen_core g) same
  reads_seen true reads = (seen_site g w.site, record { told = reads.site_.log; unwritten = reads.site_.unwritten; later = reads.site_.later }, ap (seen_core g) reads.core)

  module _ (scripts : List ScriptData) where
    moved : (places : List Place) → IsDriven v scripts places → IsDriven (record v { site = w.site }) scripts places
    moved places driven = record {
      scripts_ = driven.scripts_;
      stand = driven.stand;
      plays = driven.plays;
      more = λ going h. let more = driven.more going h in record { chained = more.chained; asked = more.asked };
    }

    pub read_driven : (copies : Bool) → ReadsBeside g copies v w → (places : List Place) → IsDriven v scripts places → IsDriven w scripts places
    read_driven false same places driven = subst (λ (x : CoreValue S C). IsDriven x scripts places) (sym same) driven
    read_driven true reads places driven = subst (λ (x : CoreValue S C). IsDriven x scripts places) (sym reads.core) (moved places driven)

    module _ (was now : Option CopyData) (same_copy : asked_copy now ≡ asked_copy was) where
      abbrev old : DriveValue S C
      old = record { core = v; copier = was; scripts = scripts }

      abbrev new : CoreValue S C → DriveValue S C
      new x = record { core = x; copier = now; scripts = scripts }

      leaves_read : (site : S) → OnlyReads g v.site site → LeavesDrive g old (new (record v { site = site })) Done
      leaves_read site reads = record {
        session = record {
          beginning = record { config = refl; first_write = refl; first_faults = refl; handed = λ rows. refl };
          grown = λ t. subst (λ (log : SiteLog). Continues (g.told v.site) log) (sym (reads.log t)) ((later_none g.tells (seen_core g v)).grown t);
        };
        scripts_ = refl;
        copier_ = same_copy;
        chooser_ = refl;
        written = omega (arith, reads.unwritten);
        later = reads.later;
        sound = reads.sound;
        halts = refl;
        cause = λ none fault is. absurd (let e : None ≡ Some fault = sym none ∙ is in cc);
        only_reads_fail = λ but never none. none;
        full = λ is. absurd (let e : Done ≡ CommandLimit = is in cc);
      }

      pub read_leaves : (copies : Bool) → ReadsBeside g copies v w → LeavesDrive g old (new w) Done
      read_leaves false same = subst (λ (x : CoreValue S C). LeavesDrive g old (new x) Done) (sym same) (leaves_read v.site (reads_none g v.site))
      read_leaves true reads = subst (λ (x : CoreValue S C). LeavesDrive g old (new x) Done) (sym reads.core) (leaves_read w.site reads.site_)
