-- Three texts that are put one behind the other.
use Rattle.std.proofs.Common.{◌≡◌, ℕ, List, ◌++◌, Ok, Err}
use Rattle.mss_base.specs.Puts.{PutsFront}
use Rattle.mss_base.proofs.Putting.{puts_after, puts_stops}

pub put_two : (old mid new a b : List ℕ) → mid ≡ old ++ a → new ≡ mid ++ b → new ≡ old ++ (a ++ b)
put_two old mid new a b first second = puts_after {T = Unit {0}} {E = Unit {0}} (Ok tt) old mid new a b first second

pub stops_first : (old new a b c : List ℕ) → PutsFront old new a → PutsFront old new (a ++ b ++ c)
stops_first old new a b c front = puts_stops old new (a ++ b) c (puts_stops old new a b front)

pub stops_second : (old mid new a b c : List ℕ) → mid ≡ old ++ a → PutsFront mid new b → PutsFront old new (a ++ b ++ c)
stops_second old mid new a b c first front = puts_stops old new (a ++ b) c (puts_after {T = Unit {0}} {E = Unit {0}} (Err tt) old mid new a b first front)
