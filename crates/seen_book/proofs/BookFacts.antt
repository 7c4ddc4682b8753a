-- Books and passes, put together from their parts.
use Rattle.std.proofs.Common.{◌≡◌, ℕ, List, [], ◌∷◌, ◌++◌, refl, ap, sym, ◌∙◌, subst}
use Rattle.std.specs.Prelude.{nat_eq, Bool, true, false, Contains}
use Rattle.std.specs.List.{IsDistinct, list_any}
use Rattle.std.proofs.lemmas.Bool.{eqb-true}
use Rattle.std.proofs.lemmas.Cmp.{nat_eq_equiv}
use Rattle.std.proofs.lemmas.Map.Keys.{IsDistinct-push}
use Rattle.std.proofs.lemmas.Map.Views.{Contains-from_any}
use Rattle.std.proofs.lemmas.List.Elements.{All-nil, All-push}
use Rattle.atomic_table.specs.Seated.{TableId}
use Rattle.atomic_table.specs.declared.shared.Seat.{Seat}
use Rattle.ckd_plain.specs.History.{EntryData}
use Rattle.seen_book.specs.declared.rule.View.{View}
use Rattle.seen_book.specs.Entries.{entries_of}
use Rattle.seen_book.specs.Openings.{OpeningData, IsLegalFrom}
use Rattle.seen_book.specs.Views.{book_view, pass_view}
use Rattle.seen_book.specs.Books.{IsIn, AreOfThese, AreMade, IsBook, IsPass}

-- what a seat knows, with the slots that are out with it, of which there are none
abbrev pub Knows : Type 0
Knows = View × List (ℕ × Unit {0})

abbrev pub Sits : Type 0
Sits = Seat (Unit {0}) View

pub legal_empty : (opening : OpeningData) → IsLegalFrom opening []
legal_empty opening tells = tt

pub none_made : (hosts : List ℕ) → AreMade hosts []
unfolding IsDistinct
none_made hosts = (tt, All-nil (IsIn hosts))

differ_by : (made : List ℕ) (host : ℕ) → IsDistinct nat_eq made → (Contains made host → ⊥) → (b : Bool)
    → list_any (nat_eq host) made ≡ b → IsDistinct nat_eq (made ++ host ∷ [])
differ_by made host differ out true is = absurd (out (Contains-from_any (λ x y e. eqb-true x y e) host made is))
differ_by made host differ out false is = IsDistinct-push nat_eq_equiv made host differ is

-- a host that has no pass yet may get one
pub made_more : (hosts made : List ℕ) (host : ℕ) → AreMade hosts made → (Contains made host → ⊥) → Contains hosts host
    → AreMade hosts (made ++ host ∷ [])
made_more hosts made host so_far out has =
    (differ_by made host so_far.0 out (list_any (nat_eq host) made) refl, All-push (IsIn hosts) made host so_far.1 has)

pub book_is : (table : TableId) (opening : OpeningData) (hosts : List ℕ) (seat : Sits) (log : List EntryData) (made : List ℕ)
    → seat.table_id ≡ table → seat.me ≡ (book_view log made, []) → IsLegalFrom opening log → AreMade hosts made
    → AreOfThese made log → AreOfThese hosts log
    → IsBook table opening hosts seat
book_is table opening hosts seat log made here me legal made_ kept entries = record {
  table_ = here;
  me = me ∙ ap (λ (m : Knows). (book_view m.0.seen m.0.made, [])) (sym me);
  legal = subst (λ (m : Knows). IsLegalFrom opening m.0.seen) (sym me) legal;
  made_ = subst (λ (m : Knows). AreMade hosts m.0.made) (sym me) made_;
  kept = subst (λ (m : Knows). AreOfThese m.0.made m.0.seen) (sym me) kept;
  entries = subst (λ (m : Knows). AreOfThese hosts m.0.seen) (sym me) entries;
}

pub pass_is : (table : TableId) (opening : OpeningData) (hosts : List ℕ) (host : ℕ) (seat : Sits) (seen mine : List EntryData)
    → seat.table_id ≡ table → seat.me ≡ (pass_view host seen mine, []) → IsLegalFrom opening seen → Contains hosts host
    → entries_of host seen ≡ mine → AreOfThese hosts seen
    → IsPass table opening hosts host seat
pass_is table opening hosts host seat seen mine here me legal known own entries = record {
  table_ = here;
  me = me ∙ ap (λ (m : Knows). (pass_view host m.0.seen m.0.mine, [])) (sym me);
  legal = subst (λ (m : Knows). IsLegalFrom opening m.0.seen) (sym me) legal;
  host_ = known;
  own = subst (λ (m : Knows). entries_of host m.0.seen ≡ m.0.mine) (sym me) own;
  entries = subst (λ (m : Knows). AreOfThese hosts m.0.seen) (sym me) entries;
}
