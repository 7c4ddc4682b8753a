-- What a call put into a sink.
use Rattle.std.specs.Prelude.{◌≡◌, ℕ, List, ◌++◌, Result, Ok, Err}

-- a front of the text was put
pub record PutsFront (old new text : List ℕ) : Type 0 where
  pub front : List ℕ
  pub rest : List ℕ
  pub split : text ≡ front ++ rest
  pub put : new ≡ old ++ front

-- the text was put, or after an error a front of it
abbrev pub Puts : {T E : Type 0} → Result T E → List ℕ → List ℕ → List ℕ → Type 0
Puts (Ok _) old new text = new ≡ old ++ text
Puts (Err _) old new text = PutsFront old new text
