-- `Writer::put` meets its contract.
use Prim.Native.Nat.{ℕ, ◌+◌, ◌-◌, ◌≤◌}
use mathlib.Core.Path.{◌≡◌, refl}
use mathlib.Core.List.{List, append_assoc}
use native.Mathlib.Omega.{arith}
use borrow.Author.Rules.{rules}
use borrow.Rule.Slice.PartMut.{put_mid, Post-is}
use lib.ListN.{length}
use lib.Seq.{sets, sets-eq}
use Rattle.listing.proofs.text.Writer.put.Goals as goal

-- the part of a text that becomes a word
put_mid-sets : (text word part : List ℕ) (at : ℕ) → part ≡ word → at + length word ≤ length text
    → put_mid at (at + length word - at) text part ≡ sets text at word
put_mid-sets text word part at e h =
    rw (e, Post-is at (at + length word) text (omega arith), sets-eq word text at h, append_assoc)

pub returns : goal.returns
returns c =
    record {
      same_reference = refl;
      written = record {
        place = refl;
        bytes = put_mid-sets c.args.self.now.text.now _ _ _ c.copy_from_slice.ensures.after (search rules);
      };
    }
