-- The laws of the lines of the entries: line after line, and how long they are.
use Prim.Native.Nat.{ℕ, ◌+◌, ◌<◌, ◌≤◌}
use mathlib.Core.Path.{◌≡◌, refl, sym, ap, ◌∙◌}
use mathlib.Core.List.{List, [], ◌∷◌, ◌++◌, append_assoc, append-nil}
use native.Mathlib.Numerals.{add-one}
use lib.ListN.{length, get_or, take, drop, take-append-drop}
use lib.Seq.{take-suc}
use Rattle.laws.proofs.Writes.{room_first}
use Rattle.listing.specs.Listing.{entry_line, entry_lines}
use Rattle.listing.specs.Room.{room}

lines_append : (ps qs : List ℕ) → entry_lines (ps ++ qs) ≡ entry_lines ps ++ entry_lines qs
unfolding entry_lines
lines_append [] qs = refl
lines_append (p ∷ ps) qs =
    rw (lines_append ps qs) (sym (append_assoc (entry_line p) (entry_lines ps) (entry_lines qs)))

-- one line more
pub lines_more : (ps : List ℕ) (k : ℕ) → k < length ps → entry_lines (take (k + 1) ps) ≡ entry_lines (take k ps) ++ entry_line (get_or ps k 0)
unfolding entry_lines
lines_more ps k h =
    let one : take (k + 1) ps ≡ take k ps ++ (get_or ps k 0 ∷ []) = rw (add-one k) (take-suc ps k 0 h) in
    ap entry_lines one ∙ lines_append (take k ps) (get_or ps k 0 ∷ []) ∙ rw (append-nil (entry_line (get_or ps k 0)))

-- where there is room for the lines there is for the first of them
pub lines_room : (at : ℕ) (ps : List ℕ) (k : ℕ) → at + length (entry_lines ps) ≤ room → at + length (entry_lines (take k ps)) ≤ room
lines_room at ps k h =
    let e : entry_lines ps ≡ entry_lines (take k ps) ++ entry_lines (drop k ps) =
    ap entry_lines (sym (take-append-drop k ps)) ∙ lines_append (take k ps) (drop k ps) in
    room_first at (entry_lines (take k ps)) (entry_lines (drop k ps)) (rw e at h)
