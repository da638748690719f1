-- What a row keeps of the tokens that it saw, by the line and the mark of its step.
use Prim.Native.Nat.{ℕ}
use mathlib.Core.Path.{◌≡◌}
use borrow.Author.Tests.{eq-eqb, ne_eqb}
use lib.Dec.{eqb}
use Rattle.laws.proofs.Tests.{by_answer}
use Rattle.machine.specs.Lines.{kept_by}

module _ {A : Type 0} (line mark : ℕ) (read cleared kept : A) where
  -- line 2 reads,
  pub kept_read : line ≡ 2 → kept_by line mark read cleared kept ≡ read
  kept_read e = rw (eq-eqb line 2 e)

  -- line 4 clears where it moves,
  pub kept_cleared : line ≡ 4 → mark ≡ 1 → kept_by line mark read cleared kept ≡ cleared
  kept_cleared e h = rw (e, h)

  -- and keeps what there was where it is refused; so does every other line, and every step at another line than 2 that does not move
  pub kept_refused : line ≡ 4 → (mark ≡ 1 → ⊥) → kept_by line mark read cleared kept ≡ kept
  kept_refused e h = rw (e, ne_eqb mark 1 h)

  pub kept_other : (line ≡ 2 → ⊥) → (line ≡ 4 → ⊥) → kept_by line mark read cleared kept ≡ kept
  kept_other e h = by_answer (eqb mark 1) (λ m. rw (ne_eqb line 2 e, ne_eqb line 4 h, m)) (λ m. rw (ne_eqb line 2 e, ne_eqb line 4 h, m))

  pub kept_still : (line ≡ 2 → ⊥) → mark ≡ 0 → kept_by line mark read cleared kept ≡ kept
  kept_still e h = rw (ne_eqb line 2 e, h)
