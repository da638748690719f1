-- A buffer written piece after piece, from a place on: `sets l i v` is list l with the elements of v from place i on.
use Prim.Native.Nat.{ℕ, suc, ◌+◌, ◌<◌, ◌≤◌}
use mathlib.Core.Path.{◌≡◌, sym, ◌∙◌}
use mathlib.Core.List.{List, [], ◌∷◌, ◌++◌, append_assoc}
use native.Mathlib.Omega.{arith}
use native.Mathlib.Numerals.{add-one}
use lib.ListN.{length, get_or, drop, set, length-append}
use lib.Seq.{sets, sets-eq, set-append_seam, drop-cons}
use Rattle.laws.specs.Lent.{in_front, Written}

module _ {A : Type 0} where
  -- one piece after another is the two as one
  pub sets_append : (l : List A) (i : ℕ) (v w : List A) → sets (sets l i v) (i + length v) w ≡ sets l i (v ++ w)
  sets_append l i [] w = let e : i + 0 ≡ i = omega arith in rw e
  sets_append l i (a ∷ v) w =
      let e : i + suc (length v) ≡ suc i + length v = omega arith in
      rw e (sets_append (set l i a) (suc i) v w)

-- where a buffer has room for two pieces it has for the first
pub room_first : {room : ℕ} (at : ℕ) (first second : List ℕ) → at + length (first ++ second) ≤ room → at + length first ≤ room
room_first at first second h = omega (arith, h, length-append first second)

module _ {before between first : List ℕ} {at next : ℕ} (f : Written before at first between next) where
  -- and then for the next
  pub room_next : {room : ℕ} (second : List ℕ) → at + length (first ++ second) ≤ room → next + length second ≤ room
  room_next second h = omega (arith, h, f.place, length-append first second)

  -- a piece and the next are the two as one
  pub and_then : {after second : List ℕ} {last : ℕ} → Written between next second after last → Written before at (first ++ second) after last
  and_then {after} {second} s =
      record {
        place = omega (arith, f.place, s.place, length-append first second);
        bytes = s.bytes ∙ rw (f.bytes, f.place) (sets_append before at first second);
      }

-- a piece written from the first place on stands in front
pub in_front_lem : {before piece after : List ℕ} {next : ℕ} → Written before 0 piece after next → length piece ≤ length before → after ≡ in_front piece before
in_front_lem {before} {piece} w h =
    let e : 0 + length piece ≡ length piece = omega arith in
    w.bytes ∙ sets-eq piece before 0 (omega arith) ∙ rw e

-- an element written after a piece in front stands in front with it, and the rest is as it was
pub in_front_more : (piece buffer : List ℕ) (i : ℕ) → length piece < length buffer
    → set (in_front piece buffer) (length piece) i ≡ in_front (piece ++ (i ∷ [])) buffer
in_front_more piece buffer i room =
    let one : length (piece ++ (i ∷ [])) ≡ suc (length piece) = length-append piece (i ∷ []) ∙ add-one (length piece) in
    let later = drop (suc (length piece)) buffer in
    rw (drop-cons buffer (length piece) 0 room, one)
    (set-append_seam piece (get_or buffer (length piece) 0) later i ∙ sym (append_assoc piece (i ∷ []) later))
