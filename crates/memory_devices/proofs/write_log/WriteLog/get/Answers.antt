use Rattle.std.proofs.Common.{◌≡◌, ℕ, List, Bor, Option, Some, None, subst, length, refl, arith}
use Rattle.std.specs.Prelude.{slice_get, MatchOption}
use Rattle.std.specs.Slice.{IsItemAt}
use Rattle.std.proofs.lemmas.Option.{slice_get_past, slice_get_read}
use Rattle.mss_base.specs.Content.{Item}
use Rattle.memory_devices.specs.Logged.{LogValue, IsInside, IsLogged, items_of}
use Rattle.memory_devices.specs.declared.write_log.LoggedItem.{LoggedItem}
use Rattle.memory_devices.proofs.LoggedLemmas.{items_of-get}
use Rattle.memory_devices.proofs.write_log.WriteLog.get.Goals as goal

-- what holds of an item holds of its loan
lent : (P : LoggedItem → Type 0) (N : Type 0) (es : List LoggedItem) (n : ℕ) (o : Option (Bor LoggedItem)) → IsItemAt es n o
    → MatchOption (slice_get es n) N P → MatchOption o N (λ x. P x.now)
lent P N es n None is holds = subst (λ (o : Option LoggedItem). MatchOption o N P) (slice_get_past es n (omega (arith, is.0))) holds
lent P N es n (Some x) is holds = subst (λ (o : Option LoggedItem). MatchOption o N P) (slice_get_read es (length es) n x.now refl (omega (arith, is.0)) is.1) holds

pub returns : goal.returns
returns c =
    let es = c.self.inside.entries.items in
    let n = c.args.index in
    let K = λ (ws : List Item) (e : LoggedItem). IsInside e × IsLogged e (slice_get ws n) in
    subst (λ (v : LogValue). MatchOption c.get.result (slice_get v.items n ≡ None) (λ e. K v.items e.now)) c.self.view_is
    (let all = items_of es c.self.inside.bytes.items in
    lent (K all) (slice_get all n ≡ None) es n c.get.result (subst (λ (l : List LoggedItem). IsItemAt l n c.get.result) c.deref.ensures.value c.get.ensures.lookup)
    (items_of-get n es c.self.inside.bytes.items (omega (arith, c.self.invariant.whole)) c.self.invariant.inside))
