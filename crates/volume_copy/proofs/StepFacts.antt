-- Tracks that are taken one after the other.
use Rattle.std.proofs.Common.{◌≡◌, ◌≢◌, ◌⊎◌, inl, inr, false, ℕ, ◌+◌, List, Option, Some, None, IsSome, is_some, Result, Ok, Err, refl, sym, ap, subst, ◌∙◌, arith}
use Rattle.mss_base.specs.Counts.{IsFaultSince}
use Rattle.ckd_track.specs.Data.{RecordData, Volumes}
use Rattle.std.specs.Result.{OnOk}
use Rattle.std.proofs.lemmas.Bool.{cases_lt}
use Rattle.std.proofs.lemmas.Bool.Decides.{eqb_tells}
use Rattle.volume_copy.specs.declared.copier.CopyState.{CopyState}
use Rattle.volume_copy.specs.declared.copier.CopyState.TheVariants.{Armed, NoVolume, Taking, Whole, Failed}
use Rattle.volume_copy.specs.declared.taken.Taken.{Taken}
use Rattle.volume_copy.specs.declared.taken.TheConstants.{TRACKS}
use Rattle.volume_copy.specs.Copies.{CopyData, IsCopier, IsFirstLeft, records_of, taken_at, track_of}
use Rattle.volume_copy.specs.Places.{IsReached}
use Rattle.volume_copy.specs.Steps.{Finishes, IsLeftOrTaken, IsNext, IsOfSame, IsStateOf, TakesNext, TakesOnce, TakesOrFails, TakesTrack, TakesTracks, had, lacked, taken, failed, rests, whole}
use Rattle.volume_copy.proofs.TakenFacts.{reached_next}

some_is : {A : Type 0} (o : Option A) (a : A) → o ≡ Some a → IsSome o
some_is None a is = absurd cc
some_is (Some x) a is = refl

pub none_some : {A : Type 0} (o : Option A) → o ≡ None → IsSome o → ⊥
none_some None is some = absurd cc
none_some (Some a) is some = absurd cc

taking_failed : (state : CopyState) (fault : ℕ) → state ≡ Taking → state ≡ Failed fault → ⊥
taking_failed Armed fault a b = absurd cc
taking_failed NoVolume fault a b = absurd cc
taking_failed Taking fault a b = absurd cc
taking_failed Whole fault a b = absurd cc
taking_failed (Failed x) fault a b = absurd cc

-- ---- one track

left_or_taken : (tells : Type 0) (o o' : Option (List RecordData)) (seen : List RecordData) → o' ≡ o → IsLeftOrTaken tells o o' seen
left_or_taken tells None o' seen same = inl same
left_or_taken tells (Some track) o' seen same = same

pub takes_one : (tells : Type 0) (shown : Volumes) (n : ℕ) (x : Taken) (old new : CopyData) → taken_at old.tracks n ≡ None → IsSome (records_of x) → (tells → records_of x ≡ Some (track_of shown old.volume n))
    → IsOfSame old new → IsStateOf new.tracks new.state → taken_at new.tracks n ≡ records_of x → ((m : ℕ) → m ≢ n → taken_at new.tracks m ≡ taken_at old.tracks m) → TakesTrack tells shown n old new
takes_one tells shown n x old new left_ some told same state here others = record {
  takes = record {
    same = same;
    state_ = elim state [ inl t ↦ inl t.0 | inr t ↦ inr t.0 ];
    tracks_ = λ m. elim (eqb_tells m n) [
      | inl t ↦ subst (λ (k : ℕ). IsLeftOrTaken tells (taken_at old.tracks k) (taken_at new.tracks k) (track_of shown old.volume k)) (sym t.1)
          (subst (λ (o : Option (List RecordData)). IsLeftOrTaken tells o (taken_at new.tracks n) (track_of shown old.volume n)) (sym left_) (inr (subst IsSome (sym here) some, λ tl. here ∙ told tl)))
      | inr t ↦ left_or_taken tells (taken_at old.tracks m) (taken_at new.tracks m) (track_of shown old.volume m) (others m t.1)
    ];
  };
  here = subst IsSome (sym here) some;
  others = others;
}

-- ---- several tracks

moved : (tells : Type 0) (o o' : Option (List RecordData)) (seen other : List RecordData) → (tells → seen ≡ other) → IsLeftOrTaken tells o o' seen → IsLeftOrTaken tells o o' other
moved tells (Some track) o' seen other same is = is
moved tells None o' seen other same (inl none) = inl none
moved tells None o' seen other same (inr some) = inr (some.0, λ tl. some.1 tl ∙ ap Some (same tl))

taken_on : (tells : Type 0) (p q : Option (List RecordData)) (seen : List RecordData) → IsSome p → (tells → p ≡ Some seen) → IsLeftOrTaken tells p q seen → IsSome q × (tells → q ≡ Some seen)
taken_on tells None q seen some told is = absurd cc
taken_on tells (Some track) q seen some told is = (some_is q track is, λ tl. is ∙ told tl)

joined : (tells : Type 0) (o p q : Option (List RecordData)) (seen : List RecordData) → IsLeftOrTaken tells o p seen → IsLeftOrTaken tells p q seen → IsLeftOrTaken tells o q seen
joined tells (Some track) p q seen first second = subst (λ (x : Option (List RecordData)). IsLeftOrTaken tells x q seen) first second
joined tells None p q seen (inl none) second = subst (λ (x : Option (List RecordData)). IsLeftOrTaken tells x q seen) none second
joined tells None p q seen (inr some) second = inr (taken_on tells p q seen some.0 some.1 second)

takes_then : (tells : Type 0) (shown later : Volumes) → (tells → later ≡ shown) → (old mid new : CopyData) → TakesTracks tells shown old mid → TakesTracks tells later mid new → TakesTracks tells shown old new
takes_then tells shown later same old mid new first second =
    let volume : mid.volume ≡ old.volume = first.same.volume_ in
    record {
      same = record { volume_ = second.same.volume_ ∙ volume; time = second.same.time ∙ first.same.time; point_ = second.same.point_ ∙ first.same.point_ };
      state_ = second.state_;
      tracks_ = λ n. joined tells (taken_at old.tracks n) (taken_at mid.tracks n) (taken_at new.tracks n) (track_of shown old.volume n) (first.tracks_ n)
          (moved tells (taken_at mid.tracks n) (taken_at new.tracks n) (track_of later mid.volume n) (track_of shown old.volume n)
          (λ tl i. track_of (same tl i) (volume i) n) (second.tracks_ n));
    }

-- ---- the rest of the tracks

-- so far as all before the number are looked at
pub data Rests (tells : Type 0) (shown : Volumes) (before now : ℕ) (old new : CopyData) (number : ℕ) : Type 0 where
  begins : new ≡ old → now ≡ before → IsReached new.tracks number → Rests tells shown before now old new number
  goes : old.state ≡ Taking → TakesTracks tells shown old new → now ≡ before → IsReached new.tracks number → Rests tells shown before now old new number
  ended : (fault : ℕ) → old.state ≡ Taking → IsFaultSince before now fault → new.state ≡ Failed fault → IsOfSame old new → Rests tells shown before now old new number

module _ (tells : Type 0) (shown : Volumes) (before now : ℕ) (old new : CopyData) (number : ℕ) where
  -- a copy that doesn't take any more is finished
  pub rests_end : (new.state ≡ Taking → ⊥) → Rests tells shown before now old new number → Finishes tells shown before now old new
  rests_end isn't (begins same count reached) = rests (λ is. isn't (ap (λ (c : CopyData). c.state) same ∙ is)) same count
  rests_end isn't (goes taking took count reached) = elim took.state_ [ inl t ↦ absurd (isn't t) | inr t ↦ whole taking t took count ]
  rests_end isn't (ended fault taking since is same) = failed fault taking since is same

  -- where all are looked at, none is left
  pub rests_all : IsCopier new → number ≡ TRACKS → Rests tells shown before now old new number → Finishes tells shown before now old new
  rests_all kept all_ (begins same count reached) = rests_end (λ is. let left = kept.some_left is in none_some (taken_at new.tracks left.0) left.1.left_ (reached left.0 (let lt = left.1.there in omega (arith, lt, all_)))) (begins same count reached)
  rests_all kept all_ (goes taking took count reached) =
      rests_end (λ is. let left = kept.some_left is in none_some (taken_at new.tracks left.0) left.1.left_ (reached left.0 (let lt = left.1.there in omega (arith, lt, all_)))) (goes taking took count reached)
  rests_all kept all_ (ended fault taking since is same) = rests_end (λ takes. absurd (taking_failed new.state fault takes is)) (ended fault taking since is same)

  -- a track that is taken is passed by
  pub rests_pass : IsSome (taken_at new.tracks number) → Rests tells shown before now old new number → Rests tells shown before now old new (number + 1)
  rests_pass some (begins same count reached) = begins same count (reached_next new.tracks number reached some)
  rests_pass some (goes taking took count reached) = goes taking took count (reached_next new.tracks number reached some)
  rests_pass some (ended fault taking since is same) = ended fault taking since is same

  -- another is taken, or its read fails
  module _ (later : Volumes) (same_shown : tells → later ≡ shown) (next : CopyData) (count : ℕ) where
    reached_on : TakesTrack tells later number new next → IsReached new.tracks number → IsReached next.tracks (number + 1)
    reached_on took reached = reached_next next.tracks number (λ m lt. subst IsSome (sym (took.others m (λ e. omega (arith, e, lt)))) (reached m lt)) took.here

    since_then : now ≡ before → (fault : ℕ) → IsFaultSince now count fault → IsFaultSince before count fault
    since_then same fault since = subst (λ (n : ℕ). IsFaultSince n count fault) same since

    pub rests_take : new.state ≡ Taking → TakesOrFails tells later number now count new next → Rests tells shown before now old new number → Rests tells shown before count old next (number + 1)
    rests_take taking (taken took unfailed) (begins same counted reached) =
        goes (sym (ap (λ (c : CopyData). c.state) same) ∙ taking) (subst (λ (c : CopyData). TakesTracks tells shown c next) same (shifted took.takes)) (unfailed ∙ counted) (reached_on took reached)
      where
        shifted : TakesTracks tells later new next → TakesTracks tells shown new next
        shifted t = record { same = t.same; state_ = t.state_; tracks_ = λ n. moved tells (taken_at new.tracks n) (taken_at next.tracks n) (track_of later new.volume n) (track_of shown new.volume n) (λ tl i. track_of (same_shown tl i) new.volume n) (t.tracks_ n) }
    rests_take taking (taken took unfailed) (goes was took' counted reached) = goes was (takes_then tells shown later same_shown old new next took' took.takes) (unfailed ∙ counted) (reached_on took reached)
    rests_take taking (failed fault since is) (begins same counted reached) =
        ended fault (sym (ap (λ (c : CopyData). c.state) same) ∙ taking) (since_then counted fault since) (ap (λ (c : CopyData). c.state) is)
        (record { volume_ = ap (λ (c : CopyData). c.volume) (is ∙ (λ i. record (same i) { state = Failed fault })); time = ap (λ (c : CopyData). c.after_) (is ∙ (λ i. record (same i) { state = Failed fault })); point_ = ap (λ (c : CopyData). c.point) (is ∙ (λ i. record (same i) { state = Failed fault })) })
    rests_take taking (failed fault since is) (goes was took' counted reached) =
        ended fault was (since_then counted fault since) (ap (λ (c : CopyData). c.state) is)
        (record { volume_ = ap (λ (c : CopyData). c.volume) is ∙ took'.same.volume_; time = ap (λ (c : CopyData). c.after_) is ∙ took'.same.time; point_ = ap (λ (c : CopyData). c.point) is ∙ took'.same.point_ })
    rests_take taking told (ended fault was since is same) = absurd (taking_failed new.state fault taking is)

    pub rests_once : new.state ≡ Taking → TakesOnce tells later number now count new next → Rests tells shown before now old new number → Rests tells shown before count old next (number + 1)
    rests_once taking (had some same unfailed) so = subst (λ (c : CopyData). Rests tells shown before count old c (number + 1)) (sym same) (subst (λ (n : ℕ). Rests tells shown before n old new (number + 1)) (sym unfailed) (rests_pass some so))
    rests_once taking (lacked left_ told) so = rests_take taking told so

  -- what is left where memory runs out
  pub rests_short : new.state ≡ Taking → Rests tells shown before now old new number → (new ≡ old ⊎ TakesTracks tells shown old new) × (now ≡ before)
  rests_short taking (begins same counted reached) = (inl same, counted)
  rests_short taking (goes was took counted reached) = (inr took, counted)
  rests_short taking (ended fault was since is same) = absurd (taking_failed new.state fault taking is)

-- ---- answers

pub not_some : {A : Type 0} (o : Option A) → is_some o ≡ false → o ≡ None
not_some None isn't = refl
not_some (Some a) isn't = absurd cc

pub on_ok : {T E : Type 0} (r : Result T E) (P Q : Type 0) → (P → Q) → OnOk r P → OnOk r Q
on_ok (Ok x) P Q f p = f p
on_ok (Err e) P Q f p = tt

-- the first that is left is one
pub first_same : (tracks : List Taken) (n m : ℕ) → IsFirstLeft tracks n → IsFirstLeft tracks m → n ≡ m
first_same tracks n m a b = elim (cases_lt n m) [
  | inl t ↦ absurd (none_some (taken_at tracks n) a.left_ (b.before n t))
  | inr t ↦ elim (cases_lt m n) [
    | inl u ↦ absurd (none_some (taken_at tracks m) b.left_ (a.before m u))
    | inr u ↦ omega (arith, t, u)
  ]
]

pub next_takes : (tells : Type 0) (shown : Volumes) (n before now : ℕ) (old new : CopyData) → IsNext old (Some n) → TakesOrFails tells shown n before now old new → TakesNext tells shown before now old new
next_takes tells shown n before now old new is told = record {
  takes = λ taking m first. subst (λ (k : ℕ). TakesOrFails tells shown k before now old new) (first_same old.tracks n m is.1 first) told;
  rests = λ isn't. absurd (isn't is.0);
}
