-- Lent buffers, for the crates that fill one: what a call leaves in a buffer that it fills from the front, and what functions that fill one
-- piece after piece promise.
use Rattle.std.specs.Prelude.{ℕ, ◌+◌, ◌≡◌, List, ◌++◌, length, drop}
use Rattle.std.proofs.lemmas.List.Edits.{sets}

-- a piece stands at the front of the buffer, and the other bytes keep their values
abbrev pub in_front : List ℕ → List ℕ → List ℕ
in_front piece buffer = piece ++ drop (length piece) buffer

-- a piece is written from a place on, the other bytes keep their values, and the next place is the one after the piece
pub record Written (before : List ℕ) (at : ℕ) (piece after : List ℕ) (next : ℕ) : Type 0 where
  pub place : next ≡ at + length piece
  pub bytes : after ≡ sets before at piece
