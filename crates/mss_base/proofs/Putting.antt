-- How pieces put one behind the other make a text. Layers above cite these lemmas.
use Rattle.std.proofs.Common.{◌≡◌, ℕ, List, [], ◌++◌, Result, Ok, Err, refl, sym, ap, ◌∙◌, append_assoc}
use Rattle.std.proofs.lemmas.List.{append-nil}
use Rattle.mss_base.specs.Puts.{PutsFront, Puts}

-- nothing was put yet
pub puts_nothing : (old text : List ℕ) → PutsFront old old text
puts_nothing old text = record { front = []; rest = text; split = refl; put = sym (append-nil old) }

-- a front of the first of two texts
pub puts_stops : (old new a b : List ℕ) → PutsFront old new a → PutsFront old new (a ++ b)
puts_stops old new a b front = record {
  front = front.front;
  rest = front.rest ++ b;
  split = ap (λ l. l ++ b) front.split ∙ append_assoc front.front front.rest b;
  put = front.put;
}

-- what was put since `old` is a text that with the rest makes the whole: the invariant of a loop that puts pieces
pub record Part (old now rest whole : List ℕ) : Type 0 where
  pub done : List ℕ
  pub split : whole ≡ done ++ rest
  pub put : now ≡ old ++ done

pub part_begins : (old whole : List ℕ) → Part old old whole whole
part_begins old whole = record { done = []; split = refl; put = sym (append-nil old) }

-- the next piece was put
pub part_goes_on : (old now new piece rest whole : List ℕ) → Part old now (piece ++ rest) whole → new ≡ now ++ piece → Part old new rest whole
part_goes_on old now new piece rest whole part put = record {
  done = part.done ++ piece;
  split = part.split ∙ sym (append_assoc part.done piece rest);
  put = put ∙ ap (λ n. n ++ piece) part.put ∙ append_assoc old part.done piece;
}

-- of the next piece a front was put
pub part_stops : (old now new piece rest whole : List ℕ) → Part old now (piece ++ rest) whole → PutsFront now new piece → PutsFront old new whole
part_stops old now new piece rest whole part front = record {
  front = part.done ++ front.front;
  rest = front.rest ++ rest;
  split = part.split ∙ ap (λ l. part.done ++ (l ++ rest)) front.split ∙ ap (λ l. part.done ++ l) (append_assoc front.front front.rest rest)
      ∙ sym (append_assoc part.done front.front (front.rest ++ rest));
  put = front.put ∙ ap (λ n. n ++ front.front) part.put ∙ append_assoc old part.done front.front;
}

-- no piece is left
pub part_ends : (old now whole : List ℕ) → Part old now [] whole → now ≡ old ++ whole
part_ends old now whole part = part.put ∙ ap (λ l. old ++ l) (sym (append-nil part.done) ∙ sym part.split)

-- a text was put, and the call under way puts the next one
pub puts_after : {T E : Type 0} (r : Result T E) (old mid new a b : List ℕ) → mid ≡ old ++ a → Puts r mid new b → Puts r old new (a ++ b)
puts_after (Ok _) old mid new a b first then = then ∙ ap (λ m. m ++ b) first ∙ append_assoc old a b
puts_after (Err _) old mid new a b first then = record {
  front = a ++ then.front;
  rest = then.rest;
  split = ap (λ l. a ++ l) then.split ∙ sym (append_assoc a then.front then.rest);
  put = then.put ∙ ap (λ m. m ++ then.front) first ∙ append_assoc old a then.front;
}
