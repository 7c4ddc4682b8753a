-- The parties of a run, each from one moment to a later one.
use Rattle.std.specs.Prelude.{◌≡◌, ℕ, List}
use Rattle.mss_base.specs.Content.{SiteLog}
use Rattle.mss_base.specs.declared.site.Site as site
use Rattle.mss_base.specs.declared.stream.Sink as sink
use Rattle.mss_base.specs.declared.stream.Source as source

-- what a party tells at both moments, where clauses may speak of that, and its counts of faults
pub record Party (T : Type 0) : Type 1 where
  pub tells : Type 0
  pub was : T
  pub now : T
  pub faults_was : ℕ
  pub faults_now : ℕ

-- it tells what it told, and counted no fault
pub record IsUntouched {T : Type 0} (party : Party T) : Type 0 where
  pub told_ : party.now ≡ party.was
  pub faults_ : party.faults_now ≡ party.faults_was

-- a source, by the bytes that are left, or a sink, by the bytes that were put
abbrev pub Stream : Type 1
Stream = Party (List ℕ)

-- a site, by its log
abbrev pub ToldDevices : Type 1
ToldDevices = Party SiteLog

-- the party of a trait's members, between two of its states
abbrev pub party_between : {P T : Type 0} → Type 0 → (P → T) → (P → ℕ) → P → P → Party T
party_between tells told faults old new = record {
  tells = tells;
  was = told old;
  now = told new;
  faults_was = faults old;
  faults_now = faults new;
}

-- a source, a sink and a site, between two of their states
abbrev pub source_between : {I : Type 0} → source.Ghosts I → I → I → Stream
source_between g = party_between g.tells g.left g.faults

abbrev pub sink_between : {O : Type 0} → sink.Ghosts O → O → O → Stream
sink_between g = party_between g.tells g.told g.faults

abbrev pub site_between : {S : Type 0} → site.Ghosts S → S → S → ToldDevices
site_between g = party_between g.tells g.told g.faults

-- the sink, of which clauses speak where the site tells as well
abbrev pub seen_with : ToldDevices → Stream → Stream
seen_with site sink = record sink { tells = site.tells × sink.tells }
