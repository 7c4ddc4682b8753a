-- Lines that wait to be put.
use Rattle.std.specs.Prelude.{◌≡◌, ℕ, List, ◌++◌}

-- of the bytes that waited a front was put, and the others wait now
pub record PutsWaiting (told waiting told_now waiting_now : List ℕ) : Type 0 where
  pub front : List ℕ
  pub split : waiting ≡ front ++ waiting_now
  pub put : told_now ≡ told ++ front
