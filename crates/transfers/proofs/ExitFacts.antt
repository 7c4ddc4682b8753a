-- What the copy of a track did, at each of its exits.
use Rattle.std.proofs.Common.{◌≡◌, inl, inr, ℕ, Bool, false, true, Ok, Err, IsOk, IsSome, refl, ◌∙◌, subst, arith}
use Rattle.mss_base.specs.Content.{content}
use Rattle.mss_base.specs.Counts.{Rises}
use Rattle.mss_base.specs.Sites.{OnlyReads, MayWrite}
use Rattle.mss_base.specs.declared.place.UnitNo.{UnitNo}
use Rattle.mss_base.specs.declared.site.Site.{Ghosts}
use Rattle.transfers.specs.declared.transfer.Transfer.{Transfer}
use Rattle.transfers.specs.Copies.{target, source, source_place, AddsAtMost, AddsCopy, IsBlock, IsReadable, CopiesTrack}
use Rattle.transfers.proofs.CopyFacts.{copy_moments, copied_next, copied_more, length-source}

never_err : (T : Type 0) {E : Type 0} (e : E) (P : Type 0) → IsOk {T = T} (Err e) → P
never_err T e P ok = absurd (let k : false ≡ true = ok in cc)

module _ {S : Type 0} (T : Type 0) {E : Type 0} (g : Ghosts S) (t : Transfer) (old : S)
    (whole : g.tells → (u : UnitNo) (b : ℕ) → IsBlock (content (g.told old) u b)) where
  -- the read failed
  pub unread : (e : E) (new : S) → IsSome (source_place t t.next) → OnlyReads g old new → Rises (g.faults old) (g.faults new)
      → ((but : UnitNo → Bool) → g.never_fails_but old but → IsReadable but t → IsOk {T = T} (Err e))
      → CopiesTrack {T = T} g t old new (Err e)
  unread e new asked reads rises works = record {
    blocks = λ yes_. record {
      logged = inl (reads.log yes_);
      moments = copy_moments t (g.told old) (g.told new) (whole yes_ (target t t.next).unit (target t t.next).block) (inl (reads.log yes_));
      written = tt;
      copied = tt;
      progress = tt;
    };
    devices = record { room = omega (arith, reads.room); written = omega (arith, reads.unwritten); later = reads.later; sound = reads.sound };
    wrote = tt;
    undone = inl (record { asked = asked; reads = reads });
    cause = record { later = reads.later; failed = rises; same = tt };
    only_reads_fail = λ but never. record { asked = asked; reads = reads };
    works = works;
  }

  -- the write failed
  pub unwritten : (e : E) (mid new : S) → OnlyReads g old mid → g.faults mid ≡ g.faults old
      → MayWrite g 1 mid new → Rises (g.writes mid) (g.writes new) → Rises (g.faults mid) (g.faults new)
      → ((but : UnitNo → Bool) → g.never_fails_but mid but → IsOk {T = T} (Err e))
      → (g.tells → AddsAtMost (target t t.next) (g.told old) (g.told new))
      → CopiesTrack {T = T} g t old new (Err e)
  unwritten e mid new reads same wrote rose rises works adds = record {
    blocks = λ yes_. record {
      logged = adds yes_;
      moments = copy_moments t (g.told old) (g.told new) (whole yes_ (target t t.next).unit (target t t.next).block) (adds yes_);
      written = tt;
      copied = tt;
      progress = tt;
    };
    devices = record {
      room = omega (arith, reads.room, wrote.room);
      written = omega (arith, reads.unwritten, wrote.written);
      later = omega (arith, reads.later, wrote.later);
      sound = λ but never. wrote.sound but (reads.sound but never);
    };
    wrote = tt;
    undone = inr (subst (λ (n : ℕ). Rises n (g.writes new)) reads.unwritten rose);
    cause = record { later = omega (arith, reads.later, wrote.later); failed = subst (λ (n : ℕ). Rises n (g.faults new)) same rises; same = tt };
    only_reads_fail = λ but never. never_err T e _ (works but (reads.sound but never));
    works = λ but never readable. works but (reads.sound but never);
  }

  -- both were done
  pub done : (x : T) (mid new : S) → OnlyReads g old mid → g.faults mid ≡ g.faults old
      → MayWrite g 1 mid new → Rises (g.writes mid) (g.writes new) → g.faults new ≡ g.faults mid
      → (g.tells → AddsCopy t (g.told old) (g.told new))
      → CopiesTrack {E = E} g t old new (Ok x)
  done x mid new reads same wrote rose still adds = record {
    blocks = λ yes_.
        let left : AddsAtMost (target t t.next) (g.told old) (g.told new) = inr (source t t.next (content (g.told old)), length-source t t.next (content (g.told old)) (whole yes_), adds yes_) in
        record {
          logged = left;
          moments = copy_moments t (g.told old) (g.told new) (whole yes_ (target t t.next).unit (target t t.next).block) left;
          written = adds yes_;
          copied = copied_next t (g.told old) (g.told new) (whole yes_) (adds yes_);
          progress = copied_more t (g.told old) (g.told new) (whole yes_) (adds yes_);
        };
    devices = record {
      room = omega (arith, reads.room, wrote.room);
      written = omega (arith, reads.unwritten, wrote.written);
      later = omega (arith, reads.later, wrote.later);
      sound = λ but never. wrote.sound but (reads.sound but never);
    };
    wrote = subst (λ (n : ℕ). Rises n (g.writes new)) reads.unwritten rose;
    undone = tt;
    cause = record { later = omega (arith, reads.later, wrote.later); failed = tt; same = still ∙ same };
    only_reads_fail = λ but never. tt;
    works = λ but never readable. refl;
  }
