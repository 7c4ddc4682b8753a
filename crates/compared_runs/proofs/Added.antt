-- One session more, or none.
use Rattle.std.proofs.Common.{◌≡◌, inl, inr, ℕ, List, [], ◌∷◌, ◌++◌, refl, sym, ◌∙◌, subst}
use Rattle.core_state.specs.Sessions.{session_data}
use Rattle.core_state.specs.declared.session.Session.{Session}
use Rattle.job_text.specs.Jobs.{JobData}
use Rattle.serial_driver.specs.declared.answer.DriveAnswer.{DriveAnswer}
use Rattle.serial_driver.specs.declared.answer.DriveAnswer.TheVariants as ended
use Rattle.compared_runs.specs.Alone.{IsAlone, IsOver}
use Rattle.compared_runs.specs.Comparing.{Chooses, Compares, GoesOn, Named, may_of}

module _ (tells : Type 0) (given : Chooses) (job : JobData) (name : Named) where
  -- the first session, which came to its end or to the limit
  first : (s : Session) (end : DriveAnswer) → IsOver end → IsAlone tells (may_of given name) job end (session_data s)
      → Compares tells given job (name ∷ []) (s ∷ []) end
  first s ended.Done over alone = inl (alone, refl)
  first s ended.CommandLimit over alone = inr (record { alone = alone; none = refl; limit = refl })
  first s (ended.Stopped fault) over alone = absurd over
  first s ended.Memory over alone = absurd over

  -- a session was kept behind these
  kept : (names : List Named) (sessions : List Session) (s : Session) (end : DriveAnswer) → IsOver end → IsAlone tells (may_of given name) job end (session_data s)
      → Compares tells given job names sessions ended.Done → Compares tells given job (names ++ name ∷ []) (sessions ++ s ∷ []) end
  kept [] [] s end over alone is = first s end over alone
  kept [] (x ∷ sessions) s end over alone is = absurd is
  kept (n ∷ names) [] s end over alone is = absurd cc
  kept (n ∷ names) (x ∷ sessions) s end over alone (inl is) = inl (is.0, kept names sessions s end over alone is.1)
  kept (n ∷ names) (x ∷ sessions) s end over alone (inr last) = absurd (let e = last.limit in cc)

  -- memory ran out behind these
  short : (names : List Named) (sessions : List Session) → Compares tells given job names sessions ended.Done
      → Compares tells given job (names ++ name ∷ []) sessions ended.Memory
  short [] [] is = refl
  short [] (x ∷ sessions) is = absurd is
  short (n ∷ names) [] is = refl
  short (n ∷ names) (x ∷ sessions) (inl is) = inl (is.0, short names sessions is.1)
  short (n ∷ names) (x ∷ sessions) (inr last) = absurd (let e = last.limit in cc)

  -- these were the last
  same : (names : List Named) (sessions : List Session) (end : DriveAnswer) → (end ≡ ended.Done → ⊥) → Compares tells given job names sessions end
      → Compares tells given job (names ++ name ∷ []) sessions end
  same [] [] end going is = absurd (going is)
  same [] (x ∷ sessions) end going is = absurd is
  same (n ∷ names) [] end going is = is
  same (n ∷ names) (x ∷ sessions) end going (inl is) = inl (is.0, same names sessions end going is.1)
  same (n ∷ names) (x ∷ sessions) end going (inr last) = inr last

  -- whichever it was
  pub one_more : (names : List Named) (sessions : List Session) (last : DriveAnswer) (left : List Session) (end : DriveAnswer)
      → Compares tells given job names sessions last → GoesOn tells (may_of given name) job sessions last left end
      → Compares tells given job (names ++ name ∷ []) left end
  one_more names sessions last left end is (inl (done, inl adds)) =
      subst (λ (l : List Session). Compares tells given job (names ++ name ∷ []) l end) (sym adds.behind)
      (kept names sessions adds.session end adds.over adds.alone (subst (λ (e : DriveAnswer). Compares tells given job names sessions e) done is))
  one_more names sessions last left end is (inl (done, inr (none, memory))) =
      subst (λ (p : List Session × DriveAnswer). Compares tells given job (names ++ name ∷ []) p.0 p.1) (λ i. (sym none i, sym memory i))
      (short names sessions (subst (λ (e : DriveAnswer). Compares tells given job names sessions e) done is))
  one_more names sessions last left end is (inr (going, none, ends)) =
      subst (λ (p : List Session × DriveAnswer). Compares tells given job (names ++ name ∷ []) p.0 p.1) (λ i. (sym none i, sym ends i))
      (same names sessions last going is)

-- no session of a comparison is stopped
pub never_stopped : (tells : Type 0) (given : Chooses) (job : JobData) (names : List Named) (sessions : List Session) (end : DriveAnswer) → Compares tells given job names sessions end
    → (fault : ℕ) → end ≡ ended.Stopped fault → ⊥
never_stopped tells given job [] [] end is fault stop = absurd (let e : ended.Done ≡ ended.Stopped fault = sym is ∙ stop in cc)
never_stopped tells given job [] (x ∷ sessions) end is fault stop = is
never_stopped tells given job (n ∷ names) [] end is fault stop = absurd (let e : ended.Memory ≡ ended.Stopped fault = sym is ∙ stop in cc)
never_stopped tells given job (n ∷ names) (x ∷ sessions) end (inl is) fault stop = never_stopped tells given job names sessions end is.1 fault stop
never_stopped tells given job (n ∷ names) (x ∷ sessions) end (inr last) fault stop = absurd (let e : ended.CommandLimit ≡ ended.Stopped fault = sym last.limit ∙ stop in cc)
