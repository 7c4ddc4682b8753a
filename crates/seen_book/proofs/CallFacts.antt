-- What the calls end with, from what their steps tell.
use Rattle.std.proofs.Common.{◌≡◌, ℕ, zero, suc, true, Some, List, [], ◌∷◌, ◌++◌, map, length, refl, ap, sym, ◌∙◌, subst, All}
use Rattle.std.specs.Prelude.{Contains, slice_get, nat_eq}
use Rattle.std.specs.List.{IsDistinct}
use mathlib.Core.List.{IsPrefix}
use Rattle.std.proofs.lemmas.List.Elements.{All-nil, All-cons, All-head, All-tail, All-push}
use Rattle.atomic_table.specs.Seated.{TableId}
use Rattle.ckd_plain.specs.History.{EntryData}
use Rattle.seen_book.specs.declared.rule.View.{View}
use Rattle.seen_book.specs.Entries.{entries_of}
use Rattle.seen_book.specs.Openings.{OpeningData, IsLegalFrom}
use Rattle.seen_book.specs.Views.{book_view, pass_view, with_book, view_with_entry, without_book, book_of}
use Rattle.seen_book.specs.Rule.{Appended, Looked, hosts_of}
use Rattle.seen_book.specs.Books.{IsOfOne, AreOfThese, IsBook, IsPass, PassData, Begins, Shows, AreNested, HaveOneEach, closing_view}
use Rattle.seen_book.proofs.Fronts.{prefixes_nest}
use Rattle.seen_book.proofs.BookFacts.{Knows, Sits, book_is, pass_is}

-- ---- the view after each step, by the parts of what was joined

-- the view of a pass that has the book
abbrev pub holding : ℕ → List EntryData → List EntryData → List EntryData → List ℕ → View
holding host seen mine log made = with_book (pass_view host seen mine) (book_view log made)

joined_is : (host : ℕ) (seen mine log : List EntryData) (made : List ℕ) (pass book joined : Knows)
    → pass ≡ (pass_view host seen mine, []) → book ≡ (book_view log made, []) → joined ≡ (with_book pass.0 book.0, pass.1)
    → joined ≡ (holding host seen mine log made, [])
joined_is host seen mine log made pass book joined p b e = e ∙ (λ i. (with_book (p i).0 (b i).0, (p i).1))

added_is : (v : View) (e : EntryData) (found : ℕ) (joined after : Knows) → joined ≡ (v, [])
    → Appended e joined.0 found after.0 → after.1 ≡ joined.1
    → (after ≡ (view_with_entry e v, [])) × Appended e v found (view_with_entry e v)
added_is v e found joined after is added same =
    let view : after.0 ≡ view_with_entry e v = added.view ∙ ap (λ (x : Knows). view_with_entry e x.0) is in
    let slots : after.1 ≡ [] = same ∙ ap (λ (x : Knows). x.1) is in
    ((λ i. (view i, slots i)), subst (λ (y : View × View). Appended e y.0 found y.1) (λ i. ((is i).0, view i)) added)

looked_is : (v : View) (found : ℕ) (joined after : Knows) → joined ≡ (v, []) → Looked joined.0 found after.0
    → after.1 ≡ joined.1
    → (after ≡ (v, [])) × Looked v found v
looked_is v found joined after is looked same =
    let view : after.0 ≡ v = looked.view ∙ ap (λ (x : Knows). x.0) is in
    let slots : after.1 ≡ [] = same ∙ ap (λ (x : Knows). x.1) is in
    ((λ i. (view i, slots i)), subst (λ (y : View × View). Looked y.0 found y.1) (λ i. ((is i).0, view i)) looked)

-- the history that was looked at is the holder's own list
whole_looked : (v : View) (found : ℕ) → Looked v found v → v.holds ≡ true
    → (length v.seen ≡ found) × All (λ old. IsPrefix old v.seen) v.olds × (v.hosted ≡ true → entries_of v.host v.seen ≡ v.mine)
    × All (λ (t : ℕ × List EntryData). entries_of t.0 v.seen ≡ t.1) v.taken
whole_looked v found looked holds =
    subst (λ (log : List EntryData). (length log ≡ found) × All (λ old. IsPrefix old log) v.olds × (v.hosted ≡ true → entries_of v.host log ≡ v.mine)
    × All (λ (t : ℕ × List EntryData). entries_of t.0 log ≡ t.1) v.taken) (looked.whole holds) (looked.length_, looked.olds_, looked.own, looked.taken_)

-- ---- append and see

-- book and pass after the book was joined and split off again: the pass has seen the whole history
pub record Ends (table : TableId) (opening : OpeningData) (hosts : List ℕ) (host : ℕ) (before log mine : List EntryData) (pass book : Sits) : Type 0 where
  pub book_ : IsBook table opening hosts book
  pub pass_ : IsPass table opening hosts host pass
  pub earlier : IsPrefix before log

pub append_ends : (table : TableId) (opening : OpeningData) (hosts : List ℕ) (host : ℕ) (p b j a pass book : Sits) (e : EntryData) (found : ℕ)
    → IsPass table opening hosts host p → IsBook table opening hosts b → host ≡ e.host
    → IsLegalFrom opening (b.me.0.seen ++ e ∷ [])
    → (j.table_id ≡ p.table_id) × (j.me ≡ (with_book p.me.0 b.me.0, p.me.1))
    → (a.table_id ≡ j.table_id) × (a.me.1 ≡ j.me.1) → Appended e j.me.0 found a.me.0
    → (pass.table_id ≡ a.table_id) × (pass.me ≡ (without_book a.me.0, a.me.1))
    → (book.table_id ≡ a.table_id) × (book.me ≡ (book_of a.me.0, []))
    → Ends table opening hosts host p.me.0.seen b.me.0.seen (p.me.0.mine ++ e ∷ []) pass book
append_ends table opening hosts host p b j a pass book e found ip ib same legal joined seat told splits split =
    let seen = p.me.0.seen in
    let mine = p.me.0.mine in
    let log = b.me.0.seen in
    let made = b.me.0.made in
    let is = joined_is host seen mine log made p.me b.me j.me ip.me ib.me joined.1 in
    let at = added_is (holding host seen mine log made) e found j.me a.me is told seat.1 in
    let known = at.1 in
    let here : a.table_id ≡ table = seat.0 ∙ (joined.0 ∙ ip.table_) in
    let entries : AreOfThese hosts (log ++ e ∷ []) = All-push (IsOfOne hosts) log e ib.entries (subst (Contains hosts) same ip.host_) in
    let pass_me : pass.me ≡ (pass_view host (log ++ e ∷ []) (mine ++ e ∷ []), []) = splits.1 ∙ ap (λ (x : Knows). (without_book x.0, x.1)) at.0 in
    let book_me : book.me ≡ (book_view (log ++ e ∷ []) made, []) = split.1 ∙ ap (λ (x : Knows). (book_of x.0, [])) at.0 in
    record {
      book_ = book_is table opening hosts book (log ++ e ∷ []) made (split.0 ∙ here) book_me legal ib.made_ known.hosts entries;
      pass_ = pass_is table opening hosts host pass (log ++ e ∷ []) (mine ++ e ∷ []) (splits.0 ∙ here) pass_me legal ip.host_ known.own entries;
      earlier = All-head (λ old. IsPrefix old log) seen (log ∷ []) known.olds_;
    }

pub see_ends : (table : TableId) (opening : OpeningData) (hosts : List ℕ) (host : ℕ) (p b j a pass book : Sits) (found : ℕ)
    → IsPass table opening hosts host p → IsBook table opening hosts b
    → (j.table_id ≡ p.table_id) × (j.me ≡ (with_book p.me.0 b.me.0, p.me.1))
    → (a.table_id ≡ j.table_id) × (a.me.1 ≡ j.me.1) → Looked j.me.0 found a.me.0
    → (pass.table_id ≡ a.table_id) × (pass.me ≡ (without_book a.me.0, a.me.1))
    → (book.table_id ≡ a.table_id) × (book.me ≡ (book_of a.me.0, []))
    → Ends table opening hosts host p.me.0.seen b.me.0.seen p.me.0.mine pass book
see_ends table opening hosts host p b j a pass book found ip ib joined seat told splits split =
    let seen = p.me.0.seen in
    let mine = p.me.0.mine in
    let log = b.me.0.seen in
    let made = b.me.0.made in
    let view = holding host seen mine log made in
    let is = joined_is host seen mine log made p.me b.me j.me ip.me ib.me joined.1 in
    let at = looked_is view found j.me a.me is told seat.1 in
    let known = whole_looked view found at.1 refl in
    let here : a.table_id ≡ table = seat.0 ∙ (joined.0 ∙ ip.table_) in
    let pass_me : pass.me ≡ (pass_view host log mine, []) = splits.1 ∙ ap (λ (x : Knows). (without_book x.0, x.1)) at.0 in
    let book_me : book.me ≡ (book_view log made, []) = split.1 ∙ ap (λ (x : Knows). (book_of x.0, [])) at.0 in
    record {
      book_ = book_is table opening hosts book log made (split.0 ∙ here) book_me ib.legal ib.made_ ib.kept ib.entries;
      pass_ = pass_is table opening hosts host pass log mine (splits.0 ∙ here) pass_me ib.legal ip.host_ (known.2 refl) ib.entries;
      earlier = All-head (λ old. IsPrefix old log) seen (log ∷ []) known.1;
    }

-- ---- look

pub look_ends : (table : TableId) (opening : OpeningData) (hosts : List ℕ) (host : ℕ) (p a : Sits) (found : ℕ)
    → IsPass table opening hosts host p → (a.table_id ≡ p.table_id) × (a.me.1 ≡ p.me.1) → Looked p.me.0 found a.me.0
    → (a.me ≡ p.me) × IsPass table opening hosts host a × Shows record { host = host; seen = p.me.0.seen; mine = p.me.0.mine } found
look_ends table opening hosts host p a found ip seat told =
    let seen = p.me.0.seen in
    let mine = p.me.0.mine in
    let at = looked_is (pass_view host seen mine) found p.me a.me ip.me told seat.1 in
    let l = at.1 in (
      at.0 ∙ sym ip.me,
      pass_is table opening hosts host a seen mine (seat.0 ∙ ip.table_) at.0 ip.legal ip.host_ ip.own ip.entries,
      (l.log, l.length_, (l.seen_, l.own refl)),
    )

-- ---- close

all_get : {X : Type 0} (P : X → Type 0) (xs : List X) (k : ℕ) (x : X) → All P xs → slice_get xs k ≡ Some x → P x
all_get P [] k x a e = absurd (cc e)
all_get P (y ∷ ys) zero x a e = subst P (cc e) (All-head P y ys a)
all_get P (y ∷ ys) (suc k) x a e = all_get P ys k x (All-tail P y ys a) e

begins_all : (log : List EntryData) (ps : List PassData) → All (λ old. IsPrefix old log) (map (λ (p : PassData). p.seen) ps)
    → All (λ (t : ℕ × List EntryData). entries_of t.0 log ≡ t.1) (map (λ (p : PassData). (p.host, p.mine)) ps)
    → All (Begins log) ps
begins_all log [] olds taken = All-nil (Begins log)
begins_all log (p ∷ ps) olds taken =
    let O : List EntryData → Type 0 = λ old. IsPrefix old log in
    let T : ℕ × List EntryData → Type 0 = λ t. entries_of t.0 log ≡ t.1 in
    let more = map (λ (p : PassData). p.seen) ps in
    let rest = map (λ (p : PassData). (p.host, p.mine)) ps in
    All-cons (Begins log) p ps (All-head O p.seen more olds, All-head T (p.host, p.mine) rest taken)
    (begins_all log ps (All-tail O p.seen more olds) (All-tail T (p.host, p.mine) rest taken))

-- beginnings of one history begin one another
pub nested : (log : List EntryData) (ps : List PassData) → All (Begins log) ps → AreNested ps
nested log ps a j k p q at_j at_k = prefixes_nest p.seen q.seen log (all_get (Begins log) ps j p a at_j).0 (all_get (Begins log) ps k q a at_k).0

taken_hosts : (ps : List PassData) → hosts_of (map (λ (p : PassData). (p.host, p.mine)) ps) ≡ map (λ (p : PassData). p.host) ps
taken_hosts [] = refl
taken_hosts (p ∷ ps) = ap (λ (hosts : List ℕ). p.host ∷ hosts) (taken_hosts ps)

pub close_ends : (log : List EntryData) (made : List ℕ) (ps : List PassData) (found : ℕ) (j a : Sits)
    → j.me ≡ (closing_view log made ps, []) → Looked j.me.0 found a.me.0 → a.me.1 ≡ j.me.1
    → (found ≡ length log) × All (Begins log) ps × HaveOneEach ps
close_ends log made ps found j a is told same =
    let view = closing_view log made ps in
    let looked = (looked_is view found j.me a.me is told same).1 in
    let known = whole_looked view found looked refl in
    (sym known.0, begins_all log ps known.1 known.3, subst (IsDistinct nat_eq) (taken_hosts ps) looked.differ)
