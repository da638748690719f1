-- A step, line by line: at a line that is known it is that line's step, and what holds of each line's step holds of the step.
use Prim.Native.Nat.{ℕ, suc, ◌≤◌}
use mathlib.Core.Path.{◌≡◌, refl, ap}
use mathlib.Core.Bool.{cond}
use native.Mathlib.Omega.{arith}
use borrow.Author.Tests.{eqb-true, eqb-false}
use lib.Dec.{eqb}
use lib.IntN.{ℤ}
use Rattle.laws.proofs.Tests.{by_test, up_to_next}
use Rattle.table.specs.declared.Core.{Core}
use Rattle.machine.specs.Lines.{waits, line1, line2, line3, line4, line5, line6, line7, line8, line9, line10, line_step, any_line}
use Rattle.machine.specs.declared.Seen.{Seen}
use Rattle.machine.specs.declared.Went.{Went}

-- at a line that is known
pub at_line : (algorithm n i : ℕ) (next : ℤ) (s : Seen) (c : Core) {k : ℕ} → c.line ≡ k
    → any_line algorithm n i next s c ≡ line_step k algorithm n i next s c
unfolding any_line
at_line algorithm n i next s c e = ap (λ (k : ℕ). line_step k algorithm n i next s c) e

-- a core at none of the lines 1 to k
abbrev pub OffLines : Core → ℕ → Type 0
OffLines c k = (j : ℕ) → 1 ≤ j → j ≤ k → c.line ≡ j → ⊥

-- P holds of each line's step of a core at that line, and of waiting, which is the step at any other line
pub record EachLine (algorithm n i : ℕ) (next : ℤ) (s : Seen) (c : Core) (P : Went → Type 0) : Type 0 where
  pub at1 : c.line ≡ 1 → P (line1 s c)
  pub at2 : c.line ≡ 2 → P (line2 n s c)
  pub at3 : c.line ≡ 3 → P (line3 s c)
  pub at4 : c.line ≡ 4 → P (line4 algorithm next s c)
  pub at5 : c.line ≡ 5 → P (line5 n i s c)
  pub at6 : c.line ≡ 6 → P (line6 s c)
  pub at7 : c.line ≡ 7 → P (line7 algorithm n i s c)
  pub at8 : c.line ≡ 8 → P (line8 c)
  pub at9 : c.line ≡ 9 → P (line9 s c)
  pub at10 : c.line ≡ 10 → P (line10 s c)
  pub elsewhere : OffLines c 10 → P (waits s c)

-- the one case analysis over the lines
pub by_line : (algorithm n i : ℕ) (next : ℤ) (s : Seen) (c : Core) (P : Went → Type 0) → EachLine algorithm n i next s c P
    → P (any_line algorithm n i next s c)
unfolding any_line line_step
by_line algorithm n i next s c P each =
    test 0 (λ j low high. omega arith) each.at1
    (λ off. test 1 off each.at2
    (λ off. test 2 off each.at3
    (λ off. test 3 off each.at4
    (λ off. test 4 off each.at5
    (λ off. test 5 off each.at6
    (λ off. test 6 off each.at7
    (λ off. test 7 off each.at8
    (λ off. test 8 off each.at9
    (λ off. test 9 off each.at10
    each.elsewhere)))))))))
  where
    test : (k : ℕ) → OffLines c k → {a b : Went} → (c.line ≡ suc k → P a) → (OffLines c (suc k) → P b)
        → P (cond (eqb c.line (suc k)) a b)
    test k off f g =
        by_test P (eqb c.line (suc k)) (λ e. f (eqb-true c.line (suc k) e))
        (λ e. g (up_to_next (λ j. c.line ≡ j → ⊥) k off (eqb-false c.line (suc k) e)))

-- a core at none of the lines waits
pub at_no_line : (algorithm n i : ℕ) (next : ℤ) (s : Seen) (c : Core) → OffLines c 10
    → any_line algorithm n i next s c ≡ waits s c
at_no_line algorithm n i next s c off =
    by_line algorithm n i next s c (λ (a : Went). a ≡ waits s c)
    (record {
      at1 = λ e. absurd (off 1 (omega arith) (omega arith) e);
      at2 = λ e. absurd (off 2 (omega arith) (omega arith) e);
      at3 = λ e. absurd (off 3 (omega arith) (omega arith) e);
      at4 = λ e. absurd (off 4 (omega arith) (omega arith) e);
      at5 = λ e. absurd (off 5 (omega arith) (omega arith) e);
      at6 = λ e. absurd (off 6 (omega arith) (omega arith) e);
      at7 = λ e. absurd (off 7 (omega arith) (omega arith) e);
      at8 = λ e. absurd (off 8 (omega arith) (omega arith) e);
      at9 = λ e. absurd (off 9 (omega arith) (omega arith) e);
      at10 = λ e. absurd (off 10 (omega arith) (omega arith) e);
      elsewhere = λ _. refl;
    })
