-- The bytes of a writer that are known.
use Rattle.std.proofs.Common.{◌≡◌, ℕ, List, ◌++◌, take, drop, Option, None, Some, sym, ◌∙◌, ap, take-append-drop}
use Rattle.std.specs.Io.KnownBytes.{Appends, append_known}
use Rattle.mss_base.specs.Puts.{PutsFront}
use Rattle.mss_files.specs.Output.{AppendsFront, IsKnown, known_bytes}

pub still_known : (o : Option (List ℕ)) (bytes : List ℕ) → IsKnown o → IsKnown (append_known o bytes)
still_known None bytes some = some
still_known (Some x) bytes some = some

put_all : (old new : Option (List ℕ)) (bytes : List ℕ) → IsKnown old → Appends old new bytes → known_bytes new ≡ known_bytes old ++ bytes
put_all None new bytes some appended = absurd some
put_all (Some x) None bytes some appended = absurd appended
put_all (Some x) (Some y) bytes some appended = appended

-- a put that failed
pub puts_front : (seen old new : Option (List ℕ)) (bytes : List ℕ) → old ≡ seen → IsKnown old
    → AppendsFront old new bytes → PutsFront (known_bytes seen) (known_bytes new) bytes
puts_front seen old new bytes is some front = record {
  front = take front.0 bytes;
  rest = drop front.0 bytes;
  split = sym (take-append-drop front.0 bytes);
  put = put_all old new (take front.0 bytes) some front.1 ∙ ap (λ (o : Option (List ℕ)). known_bytes o ++ take front.0 bytes) is;
}
