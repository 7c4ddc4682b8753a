-- A call sees the volumes and its own host, and leaves the other hosts.
use Rattle.std.proofs.Common.{◌≡◌, ◌≢◌, ℕ, cond, refl, sym, ap, ◌∙◌, inl, inr}
use Rattle.std.specs.Prelude.{◌==◌}
use Rattle.std.proofs.lemmas.Bool.Decides.{eqb_tells}
use Rattle.channel_commands.specs.Data.{CallData, mount, demount, command, break, ReplyData}
use Rattle.ckd_plain.specs.declared.host.HostState.{HostState}
use Rattle.ckd_plain.specs.Data.{State}
use Rattle.ckd_plain.specs.Plain.{Replied, Answer, plain, response_to, mark_for, with_response, answer_on_tracks, with_host, tracks_under, written_to}
use Rattle.ckd_plain.specs.Laws.{IsSameFor}

pub host_itself : (hosts : ℕ → HostState) (h : ℕ) (x : HostState) → cond (h == h) x (hosts h) ≡ x
host_itself hosts h x = elim (eqb_tells h h) [ inl t ↦ rw t.0 refl | inr t ↦ absurd (t.1 refl) ]

host_other : (hosts : ℕ → HostState) (h : ℕ) (x : HostState) (other : ℕ) → other ≢ h → cond (other == h) x (hosts other) ≡ hosts other
host_other hosts h x other differ = elim (eqb_tells other h) [ inl t ↦ absurd (differ t.1) | inr t ↦ rw t.0 refl ]

-- ---- two states that are the same for the host

abbrev AreSame : ℕ → Replied → Replied → Type 0
AreSame h x y = (x.0 ≡ y.0) × IsSameFor h x.1 y.1

module _ (h : ℕ) where
  with_same : (s t : State) (x y : HostState) → s.volumes ≡ t.volumes → x ≡ y → IsSameFor h (with_host s h x) (with_host t h y)
  with_same s t x y volumes e = record { volumes = volumes; host = host_itself s.host h x ∙ e ∙ sym (host_itself t.host h y) }

  response_same : (s t : State) (call : CallData) → IsSameFor h s t
      → AreSame h (with_response s h (response_to (s.host h) (mark_for s.volumes call) call)) (with_response t h (response_to (t.host h) (mark_for t.volumes call) call))
  response_same s t call p =
      let same : response_to (s.host h) (mark_for s.volumes call) call ≡ response_to (t.host h) (mark_for t.volumes call) call =
      (λ i. response_to (p.host i) (mark_for (p.volumes i) call) call) in
      (ap (λ (r : ReplyData × HostState). r.0) same, with_same s t _ _ p.volumes (ap (λ (r : ReplyData × HostState). r.1) same))

  pub plain_same : (s t : State) (call : CallData) → IsSameFor h s t → AreSame h (plain s h call) (plain t h call)
  unfolding plain
  plain_same s t (mount volume bind) p = response_same s t (mount volume bind) p
  plain_same s t demount p = response_same s t demount p
  plain_same s t (command code argument chained) p =
      let answer : answer_on_tracks (tracks_under s.volumes (s.host h)) (s.host h) code argument chained ≡ answer_on_tracks (tracks_under t.volumes (t.host h)) (t.host h) code argument chained =
      (λ i. answer_on_tracks (tracks_under (p.volumes i) (p.host i)) (p.host i) code argument chained) in (
        ap (λ (a : Answer). a.reply) answer,
        with_same _ _ _ _ (λ i. written_to (p.volumes i) (p.host i) (answer i).written) (ap (λ (a : Answer). a.host) answer),
      )
  plain_same s t (break cause) p = response_same s t (break cause) p

  -- ---- the other hosts

  abbrev Leaves : ℕ → HostState → Replied → Type 0
  Leaves other host x = x.1.host other ≡ host

  pub other_stays : (s : State) (other : ℕ) (call : CallData) → other ≢ h → Leaves other (s.host other) (plain s h call)
  unfolding plain
  other_stays s other (mount volume bind) differ = host_other s.host h _ other differ
  other_stays s other demount differ = host_other s.host h _ other differ
  other_stays s other (command code argument chained) differ = host_other s.host h _ other differ
  other_stays s other (break cause) differ = host_other s.host h _ other differ
