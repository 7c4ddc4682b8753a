use Rattle.std.proofs.Common.{◌≡◌, ◌∙◌, Bor, Option, sym, ap, subst, take}
use Rattle.std.specs.Prelude.{OnOk, option_map, slice_get}
use Rattle.mss_base.specs.Content.{Content, SiteLog}
use Rattle.memory_devices.specs.Memory.{content_in}
use Rattle.memory_devices.specs.Tears.{left_by_stop}
use Rattle.memory_devices.specs.Redone.{loose_under, redone, covered_content}
use Rattle.memory_devices.specs.declared.tearing.Loose.{Loose}
use Rattle.memory_devices.specs.declared.tearing.Tear.{Tear as TestTear}
use Rattle.memory_devices.proofs.StopLemmas.{stopped_bare, stopped_torn}
use Rattle.memory_devices.proofs.write_log.WriteLog.stop.Goals as goal

pub returns-in_default : goal.returns-in_default
returns-in_default c =
    let s : SiteLog = record { start = content_in c.args.blocks.now; log = c.args.self.now.items } in
    let k = c.args.moment in
    subst (λ (d : Content). OnOk c.replay.result (content_in c.replay.new.blocks ≡ d))
    (stopped_bare s k ∙ ap (λ (o : Option (Bor TestTear)). left_by_stop s k (option_map (λ t. t.now) o)) (sym c.in_default.is))
    c.replay.ensures

pub returns : goal.returns
returns c =
    let s : SiteLog = record { start = content_in c.args.blocks.now; log = c.args.self.now.items } in
    let k = c.args.moment in
    let t = c.in-Some.tear.now in
    let again : content_in c.replay-2.new.blocks ≡ redone (loose_under t) s.start (take k s.log) = c.in_ok-replay.ensures ∙ ap (λ (how : Loose). redone how s.start (take k s.log)) c.loose_under.ensures in
    subst (λ (d : Content). OnOk c.tear.result (content_in c.tear.new.blocks ≡ d))
    (ap (λ (d : Content). covered_content d (slice_get s.log k) t) again ∙ stopped_torn s k t ∙ ap (λ (o : Option (Bor TestTear)). left_by_stop s k (option_map (λ t. t.now) o)) (sym c.in-Some.is))
    c.tear.ensures
