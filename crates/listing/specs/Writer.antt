-- What the functions that write a lent text promise of it.
use Rattle.std.specs.Prelude.{ℕ, ◌≡◌, ◌+◌, ◌≤◌, List, length}
use Rattle.laws.specs.Lent.{Written}
use Rattle.listing.specs.Room.{room}
use Rattle.listing.specs.declared.text.Writer.{Writer}

-- a piece fits after what is written
abbrev pub HasRoom : Writer → List ℕ → Type 0
HasRoom w piece = w.len + length piece ≤ room

-- the piece is written after what was, and the text is the same one
pub record Writes (old : Writer) (piece : List ℕ) (new : Writer) : Type 0 where
  pub same_reference : new.text.ghost_name ≡ old.text.ghost_name
  pub written : Written old.text.now old.len piece new.text.now new.len
