-- A text written piece after piece.
use mathlib.Core.Path.{◌≡◌, ◌∙◌}
use mathlib.Core.List.{List, ◌++◌}
use Prim.Native.Nat.{ℕ}
use Rattle.laws.specs.Lent.{Written}
use Rattle.laws.proofs.Writes.{and_then as bytes_and_then, room_next}
use Rattle.listing.specs.declared.text.Writer.{Writer}
use Rattle.listing.specs.Writer.{HasRoom, Writes}

module _ {old between : Writer} {first : List ℕ} (f : Writes old first between) where
  -- and then for the next
  pub room_for_next : (second : List ℕ) → HasRoom old (first ++ second) → HasRoom between second
  room_for_next second h = room_next f.written second h

  -- a piece and the next are the two as one
  pub and_then : {new : Writer} {second : List ℕ} → Writes between second new → Writes old (first ++ second) new
  and_then s =
      record { same_reference = s.same_reference ∙ f.same_reference; written = bytes_and_then f.written s.written }

-- what a new writer wrote stands in the text from the first place on
pub from_start : {w new : Writer} {text piece after : List ℕ} {next : ℕ} → w.text.now ≡ text → w.len ≡ 0 → Writes w piece new
    → after ≡ new.text.now → next ≡ new.len → Written text 0 piece after next
from_start t z f a n = rw (a, n) (rw (t, z) at f.written)
