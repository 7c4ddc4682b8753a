-- Each kind of step keeps the rule.
use Rattle.std.proofs.Common.{◌≡◌, ◌≢◌, ℕ, zero, suc, ◌+◌, ◌%◌, ◌^◌, ◌<◌, Bool, true, false, true≢false, cond, List, [], ◌∷◌, ◌++◌, length, set, eqb, eq-eqb, ne_eqb, refl, ap, sym, ◌∙◌, subst, arith, length-append, All, Contains, Option, Some, None}
use Rattle.std.specs.Prelude.{slice_index, slice_set, nat_eq}
use Rattle.std.specs.List.{AllByRecursion, IsDistinct}
use Rattle.std.proofs.lemmas.List.Elements.{All-nil, All-cons, All-head, All-tail, All-push, All-weaker, Contains-append_left, Contains-append_right}
use Rattle.std.proofs.lemmas.Map.Keys.{IsDistinct-cons}
use mathlib.Core.Option.{some, some-ne-none, some-injective}
use mathlib.Core.List.{IsPrefix}
use lib.ListN.{get_elem?}
use Rattle.atomic_table.specs.Table.{Allows, Splits, Joins, opening, keeps}
use Rattle.atomic_table.proofs.Lists.{set_again, at_longer, at_last}
use Rattle.ckd_plain.specs.History.{EntryData}
use Rattle.seen_book.specs.declared.rule.View.{View}
use Rattle.seen_book.specs.Entries.{entries_of}
use Rattle.seen_book.specs.Views.{spent, book_view, with_made, host_of, with_book, view_with_entry, without_book, book_of, with_pass}
use Rattle.seen_book.specs.Rule.{IsGone, hosts_of, Fits, Kept, Appended, Looked}
use Rattle.seen_book.proofs.Fronts.{prefix_self, prefix_same, prefix_more}
use Rattle.seen_book.proofs.Own.{own_grows, own_stays, own_none}
use Rattle.seen_book.proofs.Places.{set_there, fits_set, fits_split, fits_joined, other_before, joined_there}

off : {X : Type 0} → false ≡ true → X
off e = absurd (true≢false (sym e))

-- facts on lists that a view keeps
abbrev Old : List EntryData → List EntryData → Type 0
Old log old = IsPrefix old log

abbrev HostIn : List ℕ → EntryData → Type 0
HostIn made e = Contains made e.host

none_differ : IsDistinct nat_eq []
unfolding IsDistinct
none_differ = tt

fits_spent : (log : List EntryData) (made : List ℕ) (holder : ℕ) (owner : ℕ → Option ℕ) (k : ℕ)
    → Fits log made holder owner k spent
fits_spent log made holder owner k = record {
  holder_ = λ e. off e;
  seen_ = (log, refl);
  olds_ = All-nil (Old log);
  own = λ e. off e;
  taken_ = All-nil (IsGone owner log made);
  differ = none_differ;
}

-- ---- the rule holds at the start

pub begins : Kept (opening (0 ∷ []) [] (book_view [] []))
begins = record {
  log = [];
  made = [];
  holder = 0;
  owner = λ _. None;
  word = refl;
  hosts = All-nil (HostIn []);
  held = (book_view [] [], refl, refl);
  views = one;
}
  where
    first : Fits [] [] 0 (λ _. None) 0 (book_view [] [])
    first = record {
      holder_ = λ _. (refl, refl, refl);
      seen_ = prefix_self [];
      olds_ = All-nil (Old []);
      own = λ e. off e;
      taken_ = All-nil (IsGone (λ _. None) [] []);
      differ = none_differ;
    }

    one : (by : ℕ) (v : View) → get_elem? (book_view [] [] ∷ []) by ≡ some v → Fits [] [] 0 (λ _. None) by v
    one zero v e = subst (Fits [] [] 0 (λ _. None) 0) (some-injective _ _ e) first
    one (suc by) v e = absurd (some-ne-none v (sym e))

-- ---- a look

pub looks : (slots id : ℕ) (v : View) (c : List (ℕ × Unit {0})) → Allows {S = Unit {0}} Kept slots id (v, c) 0 (λ n. n) (λ found w. Looked v found w.0 × (w.1 ≡ c))
looks slots id v c s h count at fits =
    let mine = h.views id v at in (
      v,
      keeps,
      tt,
      record {
        log = h.log;
        made = h.made;
        holder = h.holder;
        owner = h.owner;
        word = ap (λ (ws : List ℕ). slice_set ws 0 (slice_index ws 0)) h.word;
        hosts = h.hosts;
        held = (h.held.0, subst (λ l. get_elem? l h.holder ≡ some h.held.0) (sym (set_again s.views id v at)) h.held.1, h.held.2);
        views = λ j u e. h.views j u (subst (λ l. get_elem? l j ≡ some u) (set_again s.views id v at) e);
      },
      (
        record {
          view = refl;
          log = h.log;
          length_ = sym (ap (λ (ws : List ℕ). slice_index ws 0) h.word);
          whole = λ holds. sym (mine.holder_ holds).1;
          seen_ = mine.seen_;
          olds_ = mine.olds_;
          own = λ hosted. (mine.own hosted).1;
          taken_ = All-weaker (IsGone h.owner h.log h.made) (λ (t : ℕ × List EntryData). entries_of t.0 h.log ≡ t.1) (λ t g. g.1) v.taken mine.taken_;
          differ = mine.differ;
        },
        refl,
      ),
    )

-- ---- an append

-- what the entry leaves of the passes that ended, and of the other views
after_entry : (log : List EntryData) (made : List ℕ) (holder : ℕ) (owner : ℕ → Option ℕ) (e : EntryData) (id : ℕ)
    → owner e.host ≡ Some id
    → (t : ℕ × List EntryData) → IsGone owner log made t → IsGone owner (log ++ e ∷ []) made t
after_entry log made holder owner e id is t gone =
    (gone.0, own_stays t.0 log e (λ (same : e.host ≡ t.0). absurd (cc (gone.0, is, ap owner same))) ∙ gone.1, gone.2)

other_after : (log : List EntryData) (made : List ℕ) (holder : ℕ) (owner : ℕ → Option ℕ) (e : EntryData) (id : ℕ)
    → owner e.host ≡ Some id → id ≡ holder
    → (j : ℕ) (u : View) → j ≢ id → Fits log made holder owner j u → Fits (log ++ e ∷ []) made holder owner j u
other_after log made holder owner e id is here j u apart f = record {
  holder_ = λ holds. absurd (apart ((f.holder_ holds).0 ∙ sym here));
  seen_ = prefix_more u.seen log (e ∷ []) f.seen_;
  olds_ = All-weaker (Old log) (Old (log ++ e ∷ [])) (λ old p. prefix_more old log (e ∷ []) p) u.olds f.olds_;
  own = λ hosted. let o = f.own hosted in (o.0, own_stays u.host log e (λ (same : e.host ≡ u.host). apart (cc (o.0, is, ap owner same))) ∙ o.1, o.2);
  taken_ = All-weaker (IsGone owner log made) (IsGone owner (log ++ e ∷ []) made) (after_entry log made holder owner e id is) u.taken f.taken_;
  differ = f.differ;
}

grown_after : (log : List EntryData) (made : List ℕ) (holder : ℕ) (owner : ℕ → Option ℕ) (e : EntryData) (id : ℕ) (v : View)
    → v.holds ≡ true → v.hosted ≡ true → v.host ≡ e.host
    → Fits log made holder owner id v → Fits (log ++ e ∷ []) made holder owner id (view_with_entry e v)
grown_after log made holder owner e id v holds hosted same f =
    let h = f.holder_ holds in
    let o = f.own hosted in
    let is : owner e.host ≡ Some id = subst (λ k. owner k ≡ Some id) same o.0 in
    let all : v.seen ++ e ∷ [] ≡ log ++ e ∷ [] = ap (λ w. w ++ e ∷ []) h.1 in record {
      holder_ = λ _. (h.0, all, h.2);
      seen_ = prefix_same (v.seen ++ e ∷ []) (log ++ e ∷ []) all;
      olds_ = All-weaker (Old log) (Old (log ++ e ∷ [])) (λ old p. prefix_more old log (e ∷ []) p) v.olds f.olds_;
      own = λ _. (o.0, own_grows v.host log e (sym same) ∙ ap (λ w. w ++ e ∷ []) o.1, o.2);
      taken_ = All-weaker (IsGone owner log made) (IsGone owner (log ++ e ∷ []) made) (after_entry log made holder owner e id is) v.taken f.taken_;
      differ = f.differ;
    }

pub appends : (e : EntryData) (slots id : ℕ) (v : View) (c : List (ℕ × Unit {0})) → v.holds ≡ true → v.hosted ≡ true
    → v.host ≡ e.host → length v.seen < 4096
    → Allows {S = Unit {0}} Kept slots id (v, c) 0 (λ n. (n + 1) % 2 ^ 64) (λ found w. Appended e v found w.0 × (w.1 ≡ c))
appends e slots id v c holds hosted same room s h count at fits =
    let mine = h.views id v at in
    let known = mine.holder_ holds in
    let o = mine.own hosted in
    let is : h.owner e.host ≡ Some id = subst (λ k. h.owner k ≡ Some id) same o.0 in
    let long : (length h.log + 1) % 2 ^ 64 ≡ length (h.log ++ e ∷ []) = omega (arith, length-append h.log (e ∷ []), ap length known.1, room) in
    let hosts = All-push (HostIn h.made) h.log e h.hosts (subst (Contains h.made) same o.2) in
    let written = set s.views id (view_with_entry e v) in
    let after = grown_after h.log h.made h.holder h.owner e id v holds hosted same mine in (
      view_with_entry e v,
      keeps,
      tt,
      record {
        log = h.log ++ e ∷ [];
        made = h.made;
        holder = h.holder;
        owner = h.owner;
        word = ap (λ (ws : List ℕ). slice_set ws 0 ((slice_index ws 0 + 1) % 2 ^ 64)) h.word ∙ ap (λ (n : ℕ). n ∷ []) long;
        hosts = hosts;
        held = (view_with_entry e v, subst (λ k. get_elem? written k ≡ some (view_with_entry e v)) known.0 (set_there s.views id v (view_with_entry e v) at), holds);
        views = fits_set (Fits (h.log ++ e ∷ []) h.made h.holder h.owner) s.views id (view_with_entry e v)
            (λ j u apart there. other_after h.log h.made h.holder h.owner e id is known.0 j u apart (h.views j u there))
            after;
      },
      (
        record {
          view = refl;
          length_ = ap (λ (ws : List ℕ). slice_index ws 0) h.word ∙ sym (ap length known.1);
          olds_ = subst (λ (l : List EntryData). All (Old l) v.olds) (sym known.1) mine.olds_;
          own = ap (λ (l : List EntryData). entries_of v.host (l ++ e ∷ [])) known.1 ∙ (after.own hosted).1;
          hosts = subst (λ (y : List EntryData × List ℕ). All (HostIn y.1) (y.0 ++ e ∷ [])) (λ i. (sym known.1 i, sym known.2 i)) hosts;
        },
        refl,
      ),
    )

-- ---- the book is joined into a host's seat

pub joins_book : (id : ℕ) (v : View) (other : ℕ) (w : View) → w.holds ≡ true → Joins {S = Unit {0}} Kept id v other w (with_book v w) spent
joins_book id v other w holds s h at apart there =
    let mine = h.views id v at in
    let theirs = h.views other w (other_before s.views id other (with_book v w) w apart there) in
    let known = theirs.holder_ holds in
    let both : Fits h.log h.made id h.owner id (with_book v w) = record {
      holder_ = λ _. (refl, known.1, known.2);
      seen_ = theirs.seen_;
      olds_ = All-cons (Old h.log) v.seen (w.seen ∷ []) mine.seen_ (All-cons (Old h.log) w.seen [] theirs.seen_ (All-nil (Old h.log)));
      own = mine.own;
      taken_ = theirs.taken_;
      differ = theirs.differ;
    } in
    let rest : (j : ℕ) (u : View) → j ≢ other → j ≢ id → get_elem? s.views j ≡ some u → Fits h.log h.made id h.owner j u =
    λ j u not_other not_id e. let f = h.views j u e in record {
      holder_ = λ held. absurd (not_other ((f.holder_ held).0 ∙ sym known.0));
      seen_ = f.seen_;
      olds_ = f.olds_;
      own = f.own;
      taken_ = f.taken_;
      differ = f.differ;
    } in
    record {
      log = h.log;
      made = h.made;
      holder = id;
      owner = h.owner;
      word = h.word;
      hosts = h.hosts;
      held = (with_book v w, joined_there s.views id other v (with_book v w) spent apart at, refl);
      views = fits_joined (Fits h.log h.made id h.owner) s.views id other (with_book v w) spent rest both
          (fits_spent h.log h.made id h.owner other);
    }

-- ---- the book is split off

pub splits_book : (id : ℕ) (v : View) → v.holds ≡ true → v.hosted ≡ true → Splits {S = Unit {0}} Kept id v (without_book v) (book_of v)
splits_book id v holds hosted s h at =
    let mine = h.views id v at in
    let known = mine.holder_ holds in
    let new = length (set s.views id (without_book v)) in
    record {
      log = h.log;
      made = h.made;
      holder = new;
      owner = h.owner;
      word = h.word;
      hosts = h.hosts;
      held = (book_of v, at_last (set s.views id (without_book v)) (book_of v) new refl, holds);
      views = fits_split (Fits h.log h.made new h.owner) s.views id (without_book v) (book_of v)
          (λ j u apart e. let f = h.views j u e in record {
            holder_ = λ held. absurd (apart ((f.holder_ held).0 ∙ sym known.0));
            seen_ = f.seen_;
            olds_ = f.olds_;
            own = f.own;
            taken_ = f.taken_;
            differ = f.differ;
          })
          (record {
            holder_ = λ e. off e;
            seen_ = mine.seen_;
            olds_ = All-nil (Old h.log);
            own = λ _. mine.own hosted;
            taken_ = All-nil (IsGone h.owner h.log h.made);
            differ = none_differ;
          })
          (record {
            holder_ = λ _. (refl, known.1, known.2);
            seen_ = mine.seen_;
            olds_ = All-nil (Old h.log);
            own = λ e. off e;
            taken_ = mine.taken_;
            differ = mine.differ;
          });
    }

-- ---- a host's seat is split off

-- the owners, where a host gets another
abbrev owner_with : (ℕ → Option ℕ) → ℕ → Option ℕ → ℕ → Option ℕ
owner_with owner host x k = cond (eqb k host) x (owner k)

with_here : (owner : ℕ → Option ℕ) (host : ℕ) (x : Option ℕ) → owner_with owner host x host ≡ x
with_here owner host x = ap (λ (b : Bool). cond b x (owner host)) (eq-eqb host host refl)

with_else : (owner : ℕ → Option ℕ) (host : ℕ) (x : Option ℕ) (k : ℕ) → k ≢ host → owner_with owner host x k ≡ owner k
with_else owner host x k ne = ap (λ (b : Bool). cond b x (owner k)) (ne_eqb k host ne)

made_gone : (log : List EntryData) (made : List ℕ) (owner : ℕ → Option ℕ) (host : ℕ) (x : Option ℕ) → (Contains made host → ⊥)
    → (t : ℕ × List EntryData) → IsGone owner log made t → IsGone (owner_with owner host x) log (made ++ host ∷ []) t
made_gone log made owner host x out t gone = (
  with_else owner host x t.0 (λ same. out (subst (Contains made) same gone.2)) ∙ gone.0,
  gone.1,
  Contains-append_left made (host ∷ []) t.0 gone.2,
)

made_own : (log : List EntryData) (made : List ℕ) (owner : ℕ → Option ℕ) (host : ℕ) (x : Option ℕ) (j : ℕ) (u : View)
    → (Contains made host → ⊥)
    → (owner u.host ≡ Some j) × (entries_of u.host log ≡ u.mine) × Contains made u.host
    → (owner_with owner host x u.host ≡ Some j) × (entries_of u.host log ≡ u.mine) × Contains (made ++ host ∷ []) u.host
made_own log made owner host x j u out o = (
  with_else owner host x u.host (λ same. out (subst (Contains made) same o.2)) ∙ o.0,
  o.1,
  Contains-append_left made (host ∷ []) u.host o.2,
)

pub splits_host : (host id : ℕ) (v : View) → v.holds ≡ true → (Contains v.made host → ⊥) → Splits {S = Unit {0}} Kept id v (with_made host v) (host_of host v)
splits_host host id v holds out s h at =
    let mine = h.views id v at in
    let known = mine.holder_ holds in
    let new = length (set s.views id (with_made host v)) in
    let fresh : Contains h.made host → ⊥ = λ has. out (subst (λ (m : List ℕ). Contains m host) (sym known.2) has) in
    let owner' = owner_with h.owner host (Some new) in
    let made' = h.made ++ host ∷ [] in
    let G = IsGone h.owner h.log h.made in
    let G' = IsGone owner' h.log made' in
    let gone : (ts : List (ℕ × List EntryData)) → All G ts → All G' ts =
    λ ts a. All-weaker G G' (made_gone h.log h.made h.owner host (Some new) fresh) ts a in
    let left = with_made host v in
    let right = host_of host v in
    let written = set s.views id left in
    let is_there = at_longer written (right ∷ []) id left (set_there s.views id v left at) in
    record {
      log = h.log;
      made = made';
      holder = h.holder;
      owner = owner';
      word = h.word;
      hosts = All-weaker (HostIn h.made) (HostIn made') (λ e has. Contains-append_left h.made (host ∷ []) e.host has) h.log h.hosts;
      held = (left, subst (λ k. get_elem? (written ++ right ∷ []) k ≡ some left) known.0 is_there, holds);
      views = fits_split (Fits h.log made' h.holder owner') s.views id (with_made host v) (host_of host v)
          (λ j u apart e. let f = h.views j u e in record {
            holder_ = λ held. absurd (apart ((f.holder_ held).0 ∙ sym known.0));
            seen_ = f.seen_;
            olds_ = f.olds_;
            own = λ hosted. made_own h.log h.made h.owner host (Some new) j u fresh (f.own hosted);
            taken_ = gone u.taken f.taken_;
            differ = f.differ;
          })
          (record {
            holder_ = λ _. (known.0, known.1, ap (λ m. m ++ host ∷ []) known.2);
            seen_ = mine.seen_;
            olds_ = mine.olds_;
            own = λ hosted. made_own h.log h.made h.owner host (Some new) id v fresh (mine.own hosted);
            taken_ = gone v.taken mine.taken_;
            differ = mine.differ;
          })
          (record {
            holder_ = λ e. off e;
            seen_ = mine.seen_;
            olds_ = All-nil (Old h.log);
            own = λ _. (
              with_here h.owner host (Some new),
              own_none h.made host h.log fresh h.hosts,
              Contains-append_right h.made (host ∷ []) host (0, omega arith, refl),
            );
            taken_ = All-nil (IsGone owner' h.log made');
            differ = none_differ;
          });
    }

-- ---- a host's seat is joined into the book's, for good

gone_more : (log : List EntryData) (made : List ℕ) (owner : ℕ → Option ℕ) (host : ℕ) (t : ℕ × List EntryData)
    → IsGone owner log made t
    → (b : Bool) → eqb t.0 host ≡ b → IsGone (owner_with owner host None) log made t
gone_more log made owner host t gone true is = (ap (λ (b : Bool). cond b None (owner t.0)) is, gone.1, gone.2)
gone_more log made owner host t gone false is = (ap (λ (b : Bool). cond b None (owner t.0)) is ∙ gone.0, gone.1, gone.2)

-- a host that still has a seat is none of those whose passes ended
gone_apart : (log : List EntryData) (made : List ℕ) (owner : ℕ → Option ℕ) (host seat : ℕ) → owner host ≡ Some seat
    → (ts : List (ℕ × List EntryData)) → All (IsGone owner log made) ts
    → AllByRecursion (λ y. nat_eq host y ≡ false) (hosts_of ts)
gone_apart log made owner host seat is [] all = tt
gone_apart log made owner host seat is (t ∷ ts) all =
    let gone = All-head (IsGone owner log made) t ts all in
    (ne_eqb host t.0 (λ same. absurd (cc (gone.0, is, ap owner same))), gone_apart log made owner host seat is ts (All-tail (IsGone owner log made) t ts all))

pub joins_pass : (id : ℕ) (v : View) (other : ℕ) (w : View) → v.holds ≡ true → w.hosted ≡ true → Joins {S = Unit {0}} Kept id v other w (with_pass v w) spent
joins_pass id v other w holds hosted s h at apart there =
    let mine = h.views id v at in
    let theirs = h.views other w (other_before s.views id other (with_pass v w) w apart there) in
    let known = mine.holder_ holds in
    let o = theirs.own hosted in
    let owner' = owner_with h.owner w.host None in
    let G = IsGone h.owner h.log h.made in
    let G' = IsGone owner' h.log h.made in
    let own : (j : ℕ) (u : View) → j ≢ other → Fits h.log h.made h.holder h.owner j u → u.hosted ≡ true
    → (owner' u.host ≡ Some j) × (entries_of u.host h.log ≡ u.mine) × Contains h.made u.host =
    λ j u not_other f hosted'. let o' = f.own hosted' in
    (with_else h.owner w.host None u.host (λ same. not_other (cc (o.0, o'.0, ap h.owner same))) ∙ o'.0, o'.1, o'.2) in
    let all : (ts : List (ℕ × List EntryData)) → All G ts → All G' ts =
    λ ts a. All-weaker G G' (λ t g. gone_more h.log h.made h.owner w.host t g (eqb t.0 w.host) refl) ts a in
    let both : Fits h.log h.made h.holder owner' id (with_pass v w) = record {
      holder_ = λ _. known;
      seen_ = mine.seen_;
      olds_ = All-cons (Old h.log) w.seen v.olds theirs.seen_ mine.olds_;
      own = own id v (λ same. apart (sym same)) mine;
      taken_ = All-cons G' (w.host, w.mine) v.taken (with_here h.owner w.host None, o.1, o.2) (all v.taken mine.taken_);
      differ = IsDistinct-cons nat_eq w.host (hosts_of v.taken) (gone_apart h.log h.made h.owner w.host other o.0 v.taken mine.taken_) mine.differ;
    } in
    let rest : (j : ℕ) (u : View) → j ≢ other → j ≢ id → get_elem? s.views j ≡ some u → Fits h.log h.made h.holder owner' j u =
    λ j u not_other not_id e. let f = h.views j u e in record {
      holder_ = f.holder_;
      seen_ = f.seen_;
      olds_ = f.olds_;
      own = own j u not_other f;
      taken_ = all u.taken f.taken_;
      differ = f.differ;
    } in
    let taken = with_pass v w in
    let at_id = joined_there s.views id other v taken spent apart at in
    record {
      log = h.log;
      made = h.made;
      holder = h.holder;
      owner = owner';
      word = h.word;
      hosts = h.hosts;
      held = (taken, subst (λ k. get_elem? (set (set s.views id taken) other spent) k ≡ some taken) known.0 at_id, holds);
      views = fits_joined (Fits h.log h.made h.holder owner') s.views id other taken spent rest both
          (fits_spent h.log h.made h.holder owner' other);
    }
