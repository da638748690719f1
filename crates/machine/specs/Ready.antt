-- What the loop of a run knows of a process of a well-formed table (`Ready`), and what a private function of a step asks (`OtherLine`).
use Rattle.std.specs.Prelude.{ℕ, ◌≤◌, ◌≡◌, true}
use Rattle.laws.specs.Tests.{within}
use Rattle.fields.specs.Numbers.{slots, first_line, last_line}
use Rattle.table.specs.declared.Core.{Core}
use Rattle.tokens.specs.Count.{Count}

-- a process count that a table may have, and a core at one of the ten lines, whose index names a slot, or none by 0
pub record Ready (n : ℕ) (c : Core) : Type 0 where
  pub count : Count n
  pub index : c.index ≤ slots
  pub line : within first_line last_line c.line ≡ true

-- a core at none of the lines that are called by themselves: those that read a cell, take the next token, or may wait
pub record OtherLine (c : Core) : Type 0 where
  pub not_2 : c.line ≡ 2 → ⊥
  pub not_4 : c.line ≡ 4 → ⊥
  pub not_6 : c.line ≡ 6 → ⊥
  pub not_7 : c.line ≡ 7 → ⊥
