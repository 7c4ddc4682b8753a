-- When a chain goes on behind a command.
use Rattle.std.proofs.Common.{◌≡◌, ℕ, Bool, true, false, refl, sym, subst, inl, inr}
use Rattle.std.specs.Prelude.{◌==◌, ◌&&◌, not}
use Rattle.std.proofs.lemmas.Bool.Decides.{eqb_tells}
use Rattle.channel_commands.specs.Data.{ReplyData, has_trouble}
use Rattle.channel_commands.specs.declared.command.Command.{Command}
use Rattle.ckd_plain.specs.declared.host.HostState.{HostState}
use Rattle.ckd_plain.specs.Effects.{Effect, END_OF_FILE, is_ending}
use Rattle.ckd_plain.specs.Plain.{effect_answer, KeepsChain}

smooth_status : (s : ℕ) → is_ending s ≡ true → (s == END_OF_FILE) ≡ false → has_trouble s ≡ false
unfolding is_ending
smooth_status s ends goes_on = elim (eqb_tells s 0x0C) [
  | inl t ↦ subst (λ (x : ℕ). has_trouble x ≡ false) (sym t.1) refl
  | inr t ↦ elim (eqb_tells s 0x4C) [
    | inl u ↦ subst (λ (x : ℕ). has_trouble x ≡ false) (sym u.1) refl
    | inr u ↦ let none : is_ending s ≡ false = rw (t.0, u.0, goes_on) refl in absurd cc
  ]
]

both : (chained e : Bool) → (chained && not e) ≡ true → (chained ≡ true) × (e ≡ false)
both true true is = absurd cc
both true false is = (refl, refl)
both false e is = absurd cc

finished_keeps : (command : Command) (chained : Bool) (e : Effect) → is_ending e.status ≡ true
    → KeepsChain chained (effect_answer command chained e).reply (effect_answer command chained e).host
finished_keeps command chained e ends = record {
  asked = λ open_. (both chained (e.status == END_OF_FILE) open_).0;
  smooth = λ open_. smooth_status e.status ends (both chained (e.status == END_OF_FILE) open_).1;
}

-- where the status is one of a command that ended without unit check
pub chain_kept : (command : Command) (chained : Bool) (e : Effect) (reply : ReplyData) (host : HostState)
    → reply ≡ (effect_answer command chained e).reply → host ≡ (effect_answer command chained e).host
    → is_ending e.status ≡ true → KeepsChain chained reply host
chain_kept command chained e reply host reply_is host_is ends =
    subst (λ (p : ReplyData × HostState). KeepsChain chained p.0 p.1) (λ i. (sym reply_is i, sym host_is i)) (finished_keeps command chained e ends)
