-- A history of one host that binds no volume, and of which no call of the devices failed, is answered by the plain machine alone.
use Rattle.std.proofs.Common.{◌≡◌, ◌≢◌, ◌<◌, ◌≤◌, inl, inr, ℕ, Bool, true, false, List, [], ◌∷◌, ◌++◌, length, Option, Some, None, refl, sym, ap, subst, ◌∙◌, cond, arith, suc}
use Rattle.std.specs.Prelude.{◌==◌, IsSome, IsTrue, is_some}
use Rattle.std.specs.List.{AllByRecursion}
use Rattle.std.proofs.lemmas.Bool.{cond-true}
use Rattle.std.proofs.lemmas.Bool.Decides.{eqb_tells}
use Rattle.channel_commands.specs.Data.{CallData, mount, demount, command, break, ReplyData, demounted, already_mounted, not_mounted, in_chain, equipment_check, no_space, stopped}
use Rattle.channel_program.specs.Script.{Exchange}
use Rattle.ckd_plain.specs.declared.host.HostState.{HostState}
use Rattle.ckd_plain.specs.Data.{State}
use Rattle.ckd_plain.specs.History.{EntryData, IsAnswered, IsLegalAfter, keeps_fault, left_by, state_after}
use Rattle.ckd_plain.specs.Plain.{mark_for, mounted_by, plain, response_to, tracks_under}
use Rattle.ckd_plain.proofs.CommandFacts.{volume_stays}
use Rattle.ckd_plain.proofs.HostFacts.{host_itself, other_stays}
use Rattle.script_places.specs.Scripts.{exchanges_of}
use Rattle.core_state.specs.Counted.{fault_at}
use Rattle.core_state.specs.Agrees.{AllAgree, EntryAgrees}
use Rattle.shown_volumes.specs.Shown.{RowsOf}
use Rattle.compared_runs.specs.Same.{exchanges_of_all}
use Rattle.compared_runs.proofs.Playing.{AnsweredBy, CallBindsNone}

-- ---- whose entries there are

abbrev pub AllOf : ℕ → List EntryData → Type 0
AllOf h [] = Unit {0}
AllOf h (e ∷ es) = (e.host ≡ h) × AllOf h es

-- where no other host has an entry, all are of this one
module _ (h : ℕ) where
  abbrev pub OthersHaveNone : List EntryData → Type 0
  OthersHaveNone es = (other : ℕ) → other ≢ h → exchanges_of other es ≡ []

  none_put : (b : Bool) (x : Exchange) (xs : List Exchange) → cond b (x ∷ xs) xs ≡ [] → (b ≡ false) × (xs ≡ [])
  none_put true x xs is = absurd cc
  none_put false x xs is = (refl, is)

  pub all_of : (es : List EntryData) → OthersHaveNone es → (exchanges_of h es ≡ exchanges_of_all es) × AllOf h es
  all_of [] none = (refl, tt)
  all_of (e ∷ es) none = elim (eqb_tells e.host h) [
    | inl here ↦
        let rest = all_of es (λ other differ. (none_put (e.host == other) (e.call, e.reply) (exchanges_of other es) (none other differ)).1) in
        (cond-true (e.host == h) _ _ here.0 ∙ ap (λ (xs : List Exchange). (e.call, e.reply) ∷ xs) rest.0, (here.1, rest.1))
    | inr there ↦
        let lost = none_put (e.host == e.host) (e.call, e.reply) (exchanges_of e.host es) (none e.host there.1) in
        absurd (elim (eqb_tells e.host e.host) [ inl itself ↦ (let b : true ≡ false = sym itself.0 ∙ lost.0 in cc) | inr itself ↦ itself.1 refl ])
  ]

-- ---- no host binds a volume

abbrev HostUnbound : HostState → Type 0
HostUnbound host = (v : ℕ) → host.mounted ≡ Some (v, true) → ⊥

abbrev pub Unbound : State → Type 0
Unbound s = (other : ℕ) → HostUnbound (s.host other)

bound_by : (volume v : ℕ) (bind : Bool) → bind ≡ false → ◌≡◌ {A = Option (ℕ × Bool)} (Some (volume, bind)) (Some (v, true)) → ⊥
bound_by volume v bind none is =
    let bound : bind ≡ true = ap (λ (o : Option (ℕ × Bool)). elim o [ Some m ↦ m.1 | None ↦ true ]) is in
    let both : false ≡ true = sym none ∙ bound in cc

module _ (host : HostState) (unbound : HostUnbound host) where
  mounted_unbound : (volume : ℕ) (bind : Bool) → bind ≡ false → (a b : Bool) (mark : Option Bool)
      → HostUnbound (cond {A = ReplyData × HostState} a (in_chain, host) (cond b (already_mounted, host) (mounted_by host volume bind mark))).1
  mounted_unbound volume bind none true b mark = unbound
  mounted_unbound volume bind none false true mark = unbound
  mounted_unbound volume bind none false false (Some read_only) = λ v is. bound_by volume v bind none is
  mounted_unbound volume bind none false false None = unbound

  demounted_unbound : (a b : Bool) → HostUnbound (cond {A = ReplyData × HostState} a (in_chain, host) (cond b (demounted, record host { mounted = None }) (not_mounted, host))).1
  demounted_unbound true b = unbound
  demounted_unbound false true = λ v is. cc
  demounted_unbound false false = unbound

  response_unbound : (mark : Option Bool) (call : CallData) → CallBindsNone call → HostUnbound (response_to host mark call).1
  unfolding response_to
  response_unbound mark (mount volume bind) none = mounted_unbound volume bind none host.chain_open (is_some host.mounted) mark
  response_unbound mark demount none = demounted_unbound host.chain_open (is_some host.mounted)
  response_unbound mark (break cause) none = unbound
  response_unbound mark (command code argument chained) none = λ v is. unbound v (sym (volume_stays (λ head. []) host code argument chained) ∙ is)

module _ (h : ℕ) (s : State) (unbound : Unbound s) where
  itself_unbound : (call : CallData) → CallBindsNone call → HostUnbound ((plain s h call).1.host h)
  unfolding plain
  itself_unbound (mount volume bind) none = subst HostUnbound (sym (host_itself s.host h _)) (response_unbound (s.host h) (unbound h) (mark_for s.volumes (mount volume bind)) (mount volume bind) none)
  itself_unbound demount none = subst HostUnbound (sym (host_itself s.host h _)) (response_unbound (s.host h) (unbound h) (mark_for s.volumes demount) demount none)
  itself_unbound (break cause) none = subst HostUnbound (sym (host_itself s.host h _)) (response_unbound (s.host h) (unbound h) (mark_for s.volumes (break cause)) (break cause) none)
  itself_unbound (command code argument chained) none = subst HostUnbound (sym (host_itself s.host h _))
      (λ v is. unbound h v (sym (volume_stays (tracks_under s.volumes (s.host h)) (s.host h) code argument chained) ∙ is))

  plain_unbound : (call : CallData) → CallBindsNone call → Unbound (plain s h call).1
  plain_unbound call none other = elim (eqb_tells other h) [
    | inl t ↦ subst (λ (k : ℕ). HostUnbound ((plain s h call).1.host k)) (sym t.1) (itself_unbound call none)
    | inr t ↦ subst HostUnbound (sym (other_stays h s other call t.1)) (unbound other)
  ]

suc_same : (a b : ℕ) → suc a ≡ suc b → a ≡ b
suc_same a b is = omega (arith, is)

-- ---- no kept fault

abbrev pub KeepsNoFault : List EntryData → Type 0
KeepsNoFault es = (place fault : ℕ) → fault_at es place ≡ Some fault → ⊥

some_fault : (o : Option ℕ) → ((fault : ℕ) → o ≡ Some fault → ⊥) → IsSome o → ⊥
some_fault None none is = absurd cc
some_fault (Some fault) none is = none fault refl

-- ---- each reply is the plain one

module _ (frames : ℕ) (some : 1 ≤ frames) where
  one_reply : (rows : RowsOf) (s : State) (e : EntryData) (r : ReplyData) → IsAnswered s e r → (IsTrue (keeps_fault r) → ⊥) → EntryAgrees frames rows s e r → Unbound s
      → (r ≡ (plain s e.host e.call).0) × (left_by r s e.host e.call ≡ (plain s e.host e.call).1)
  one_reply rows s e equipment_check is never agrees unbound = absurd (never refl)
  one_reply rows s e no_space is never agrees unbound =
      let first : 0 < frames = omega (arith, some) in
      let owned = agrees.1 0 first in
      absurd (unbound owned.2 owned.0 owned.4)
  one_reply rows s e stopped is never agrees unbound = absurd (never refl)
  one_reply rows s e r is never agrees unbound = (is, refl)

  module _ (h : ℕ) (rows : ℕ → RowsOf) where
    pub answered : (before : List EntryData) (s : State) (es : List EntryData) (marks : List ℕ) → AllOf h es → IsLegalAfter before s es → KeepsNoFault es → AllAgree frames rows s es marks
        → length marks ≡ length es → Unbound s → AllByRecursion (λ (x : Exchange). CallBindsNone x.0) (exchanges_of_all es) → AnsweredBy (λ (t : State) (c : CallData). plain t h c) s (exchanges_of_all es)
    unfolding state_after
    answered before s [] marks all legal none agree long unbound binds = tt
    answered before s (e ∷ es) [] all legal none agree long unbound binds = absurd cc
    answered before s (e ∷ es) (m ∷ marks) all legal none agree long unbound binds =
        let never : IsTrue (keeps_fault e.reply) → ⊥ = λ keeps. some_fault e.fault (none 0) (legal.0.fault.1 keeps) in
        let one = one_reply (rows m) s e e.reply legal.0.answered never agree.0 unbound in
        let reply : e.reply ≡ (plain s h e.call).0 = one.0 ∙ ap (λ (k : ℕ). (plain s k e.call).0) all.0 in
        let state : state_after s e ≡ (plain s h e.call).1 = one.1 ∙ ap (λ (k : ℕ). (plain s k e.call).1) all.0 in
        let still : Unbound (state_after s e) = subst Unbound (sym state) (plain_unbound h s unbound e.call binds.0) in
        let rest = answered (before ++ e ∷ []) (state_after s e) es marks all.1 legal.2 (λ place. none (suc place)) agree.1 (suc_same (length marks) (length es) long) still binds.1 in
        (reply, subst (λ (t : State). AnsweredBy (λ (t : State) (c : CallData). plain t h c) t (exchanges_of_all es)) state rest)
