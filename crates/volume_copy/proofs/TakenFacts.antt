-- Lists of taken tracks.
use Rattle.std.proofs.Common.{◌≡◌, ◌≢◌, inl, inr, ℕ, zero, suc, ◌+◌, ◌<◌, List, [], ◌∷◌, ◌++◌, length, set, IsSome, refl, sym, ap, subst, arith}
use Rattle.std.proofs.lemmas.Bool.{cases_lt}
use Rattle.std.proofs.lemmas.List.{get_or-set_same, get_or-set_other}
use Rattle.volume_copy.specs.declared.taken.Taken.{Taken}
use Rattle.volume_copy.specs.declared.taken.Taken.TheVariants as taken
use Rattle.volume_copy.specs.Copies.{AreNoneTaken, records_of, taken_at}
use Rattle.volume_copy.specs.Places.{IsReached}

-- a number before the next is before it, or it
pub reached_next : (tracks : List Taken) (n : ℕ) → IsReached tracks n → IsSome (taken_at tracks n) → IsReached tracks (n + 1)
reached_next tracks n reached some m lt = elim (cases_lt m n) [
  | inl t ↦ reached m t
  | inr t ↦ let e : n ≡ m = omega (arith, lt, t) in subst (λ (k : ℕ). IsSome (taken_at tracks k)) e some
]

-- one track is what was put, and the others are as they were
pub put_here : (tracks : List Taken) (n : ℕ) (x : Taken) → n < length tracks → taken_at (set tracks n x) n ≡ records_of x
put_here tracks n x lt = ap records_of (get_or-set_same tracks n x taken.Not lt)

pub put_others : (tracks : List Taken) (n : ℕ) (x : Taken) (m : ℕ) → m ≢ n → taken_at (set tracks n x) m ≡ taken_at tracks m
put_others tracks n x m other = ap records_of (get_or-set_other tracks n m x taken.Not other)

pub reached_put : (tracks : List Taken) (n : ℕ) (x : Taken) (to : ℕ) → n < length tracks → IsSome (records_of x) → IsReached tracks to → IsReached (set tracks n x) to
reached_put tracks n x to there some reached m lt = elim (cases_lt m n) [
  | inl t ↦ subst IsSome (sym (put_others tracks n x m (λ e. omega (arith, e, t)))) (reached m lt)
  | inr t ↦ elim (cases_lt n m) [
    | inl u ↦ subst IsSome (sym (put_others tracks n x m (λ e. omega (arith, e, u)))) (reached m lt)
    | inr u ↦ let e : n ≡ m = omega (arith, t, u) in subst (λ (k : ℕ). IsSome (taken_at (set tracks n x) k)) e (subst IsSome (sym (put_here tracks n x there)) some)
  ]
]

-- a further track, which isn't taken
pub none_behind : (tracks : List Taken) → AreNoneTaken tracks → AreNoneTaken (tracks ++ taken.Not ∷ [])
none_behind [] none zero = refl
none_behind [] none (suc n) = refl
none_behind (x ∷ tracks) none zero = none zero
none_behind (x ∷ tracks) none (suc n) = none_behind tracks (λ m. none (suc m)) n
