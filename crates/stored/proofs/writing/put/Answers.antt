-- `put` meets its contract.
use Prim.Native.Nat.{ℕ, ◌+◌, ◌≤◌}
use mathlib.Core.Path.{◌≡◌}
use mathlib.Core.List.{List, append_assoc}
use native.Mathlib.Omega.{arith}
use lib.ListN.{length}
use lib.Seq.{sets, sets-eq}
use borrow.Rule.Slice.PartMut.{put_mid}
use Rattle.std.proofs.lemmas.List.{drop-drop}
use Rattle.stored.proofs.writing.put.Goals as goal

-- what is copied over a part is set there
copied : (l : List ℕ) {copy piece : List ℕ} (at k : ℕ) → copy ≡ piece → k ≡ length piece → at + length piece ≤ length l
    → put_mid at k l copy ≡ sets l at piece
copied l {copy} {piece} at k e d h = rw (e, d, sets-eq piece l at h, append_assoc, drop-drop (length piece) at l)

pub returns : goal.returns
returns c =
    record { place = omega arith; bytes = copied c.args.buffer.now c.args.at _ c.copy_from_slice.ensures.after (omega arith) c.requires }
