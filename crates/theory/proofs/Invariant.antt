-- The invariant of the unbounded machine, clause by clause: what each process is sure of by its own line, what two know of each other, and
-- that there are no gaps between the tokens above X. Source 002's Theorems 1, 2 and 3 and mutual exclusion follow from it.
use Prim.Native.Nat.{ℕ, suc, ◌+◌, ◌≤◌, ◌<◌, max}
use mathlib.Core.Path.{◌≡◌, refl, subst}
use mathlib.Core.Bool.{false, true≢false}
use native.Mathlib.Omega.{arith}
use Rattle.theory.proofs.Counting.{Process, below, sum, largest, Has}
use Rattle.theory.proofs.Tokens.{Token, none, IsHeld}
use Rattle.theory.proofs.Remainders.{Near}
use Rattle.theory.proofs.Model.{Place, at1, at2, at3, at4, at5, at6, at7, at8, at9, at10, Row, State, fresh, is_choosing}

-- How far a process has come with the others, by its place: four numbers, so that what two processes know of each other is linear.
pub record Progress : Type 0 where
  -- it has read the cell of each process below this,
  pub read : ℕ
  -- has seen each below this not choosing, at line 6,
  pub cleared : ℕ
  -- has passed each below this, at line 7,
  pub passed : ℕ
  -- and, with line 8 still to do, has seen each below this not choosing
  pub due : ℕ

-- n + 1: each process is below it
abbrev pub past_all : ℕ → ℕ
past_all others = suc (suc others)

abbrev progress : ℕ → Place → Progress
progress others at1 = record { read = 0; cleared = 0; passed = 0; due = 0 }
progress others (at2 j) = record { read = j; cleared = 0; passed = 0; due = 0 }
progress others at3 = record { read = past_all others; cleared = 0; passed = 0; due = 0 }
progress others at4 = record { read = past_all others; cleared = 0; passed = 0; due = 0 }
progress others at5 = record { read = 0; cleared = 0; passed = 0; due = 0 }
progress others (at6 j) = record { read = 0; cleared = j; passed = j; due = j }
progress others (at7 j) = record { read = 0; cleared = suc j; passed = j; due = suc j }
progress others at8 = record { read = 0; cleared = past_all others; passed = past_all others; due = past_all others }
progress others at9 = record { read = 0; cleared = past_all others; passed = past_all others; due = 0 }
progress others at10 = record { read = 0; cleared = past_all others; passed = past_all others; due = 0 }

abbrev pub read_below : ℕ → Place → ℕ
read_below others place = (progress others place).read

abbrev pub cleared_below : ℕ → Place → ℕ
cleared_below others place = (progress others place).cleared

abbrev pub passed_below : ℕ → Place → ℕ
passed_below others place = (progress others place).passed

abbrev pub due_below : ℕ → Place → ℕ
due_below others place = (progress others place).due

-- What process i, which holds t, knows of process j, which holds u and has v in its cell of i. i saw those below `cleared` not choosing and
-- passed those below `passed`; j has read the cells below `read`.
pub record Knows (i cleared passed t j read u v : ℕ) : Type 0 where
  -- j was not choosing when i looked, so if it has read its cell of i since then, it has seen i's token there
  pub seen : j < cleared → i < read → v ≡ t
  -- i passed j, so it goes before j: its token is below j's, or they are equal and i < j
  pub goes_before : j < passed → IsHeld u → t < u + below i j

abbrev pub KnowsOf : ℕ → ℕ → Row → ℕ → Row → Type 0
KnowsOf others i a j b =
    Knows i (cleared_below others a.place) (passed_below others a.place) a.token j (read_below others b.place) b.token
    (b.cell i)

-- How many may still do line 8 while j chooses: those that have seen j not choosing and have line 8 still to do. Any other waits for j at
-- line 6 (Observation 2 of source 002).
abbrev pub due_over : ℕ → (ℕ → Row) → ℕ → ℕ
due_over others row j = sum (λ k. below j (due_below others (row k).place)) (suc others)

-- What a process is sure of by its line. X is x; its token is t, and its pivot is p.

-- at line 1: it holds no token, and has read no cell
pub record Idle (t : Token) (cell : ℕ → Token) : Type 0 where
  pub no_token : t ≡ none
  pub nothing_read : (k : ℕ) → cell k ≡ none

-- at lines 2 and 3: no cell is left far behind by X; even when all those that are due have done line 8, X is at most n - 1 above it
pub record Reads (others x due : ℕ) (t : Token) (cell : ℕ → Token) : Type 0 where
  pub no_token : t ≡ none
  pub not_far_behind : (k : ℕ) → IsHeld (cell k) → x + due ≤ cell k + others

-- at line 2, with its index
pub record ReadsCell (others x due j : ℕ) (t : Token) (cell : ℕ → Token) : Type 0 where
  pub index : Process (suc others) j
  pub reads : Reads others x due t cell

-- at line 4: X may have risen since it was read as the pivot, but not above the largest of the pivot and the cells; and the cells cluster
-- around the pivot
pub record Chooses (others x : ℕ) (t p : Token) (cell : ℕ → Token) : Type 0 where
  pub no_token : t ≡ none
  pub has_pivot : IsHeld p
  pub pivot_behind_x : p ≤ x
  pub x_not_beyond : x ≤ max p (largest cell (suc others))
  pub around_pivot : (k : ℕ) → IsHeld (cell k) → Near others p (cell k)

-- at lines 5 to 8: its token is at least X
pub record Holds (x : ℕ) (t : Token) (cell : ℕ → Token) : Type 0 where
  pub at_least_x : x ≤ t
  pub nothing_read : (k : ℕ) → cell k ≡ none

-- at lines 6 and 7, with its index
pub record Waits (others i x j : ℕ) (t : Token) (cell : ℕ → Token) : Type 0 where
  pub index : Process (suc others) j
  pub other : ¬ (j ≡ i)
  pub token : Holds x t cell

-- at lines 9 and 10: its token is X
pub record Inside (x : ℕ) (t : Token) (cell : ℕ → Token) : Type 0 where
  pub is_x : t ≡ x
  pub nothing_read : (k : ℕ) → cell k ≡ none

abbrev pub Own : (others i x due : ℕ) (t p : Token) (cell : ℕ → Token) → Place → Type 0
Own others i x due t p cell at1 = Idle t cell
Own others i x due t p cell (at2 j) = ReadsCell others x due j t cell
Own others i x due t p cell at3 = Reads others x due t cell
Own others i x due t p cell at4 = Chooses others x t p cell
Own others i x due t p cell at5 = Holds x t cell
Own others i x due t p cell (at6 j) = Waits others i x j t cell
Own others i x due t p cell (at7 j) = Waits others i x j t cell
Own others i x due t p cell at8 = Holds x t cell
Own others i x due t p cell at9 = Inside x t cell
Own others i x due t p cell at10 = Inside x t cell

abbrev pub OwnOf : ℕ → ℕ → ℕ → ℕ → Row → Type 0
OwnOf others i x due r = Own others i x due r.token r.pivot r.cell r.place

-- no gap: every token above X up to v is held by some process
abbrev pub NoGap : ℕ → ℕ → (ℕ → Row) → Token → Type 0
NoGap others x row v = (a : ℕ) → x < a → a ≤ v → Has (λ k. (row k).token) (suc others) a

-- The clauses.
pub record Invariant (others : ℕ) (s : State) : Type 0 where
  -- X is a token, from the beginning
  pub begun : IsHeld s.x
  -- each process is sure of what its line says: its token is at least X, or is X; its cells cluster around its pivot
  pub own : (i : ℕ) → Process (suc others) i → OwnOf others i s.x (due_over others s.row i) (s.row i)
  -- each knows of each other that it has seen its token, or comes after it
  pub knows : (i j : ℕ) → Process (suc others) i → Process (suc others) j → ¬ (i ≡ j) → KnowsOf others i (s.row i) j (s.row j)
  -- there is no gap from X up to a token, nor up to a read cell
  pub no_gap_to_token : (i : ℕ) → Process (suc others) i → NoGap others s.x s.row (s.row i).token
  pub no_gap_to_cell : (i k : ℕ) → Process (suc others) i → NoGap others s.x s.row ((s.row i).cell k)

-- what it says of a process at a place that is known
pub own_at : (others : ℕ) (s : State) → Invariant others s → (i : ℕ) → Process (suc others) i → (p : Place) → (s.row i).place ≡ p
    → Own others i s.x (due_over others s.row i) (s.row i).token (s.row i).pivot (s.row i).cell p
own_at others s inv i process p e =
    subst (Own others i s.x (due_over others s.row i) (s.row i).token (s.row i).pivot (s.row i).cell) e (inv.own i process)

-- a token that is held is at least X: at each place
own_at_least_x : (others i x due : ℕ) (t p : Token) (cell : ℕ → Token) (place : Place) → Own others i x due t p cell place → IsHeld t
    → x ≤ t
own_at_least_x others i x due t p cell at1 o l = absurd (omega (arith, o.no_token))
own_at_least_x others i x due t p cell (at2 j) o l = absurd (omega (arith, o.reads.no_token))
own_at_least_x others i x due t p cell at3 o l = absurd (omega (arith, o.no_token))
own_at_least_x others i x due t p cell at4 o l = absurd (omega (arith, o.no_token))
own_at_least_x others i x due t p cell at5 o l = o.at_least_x
own_at_least_x others i x due t p cell (at6 j) o l = o.token.at_least_x
own_at_least_x others i x due t p cell (at7 j) o l = o.token.at_least_x
own_at_least_x others i x due t p cell at8 o l = o.at_least_x
own_at_least_x others i x due t p cell at9 o l = omega (arith, o.is_x)
own_at_least_x others i x due t p cell at10 o l = omega (arith, o.is_x)

-- and so of every process
pub held_at_least_x : (others : ℕ) (s : State) → Invariant others s → (i : ℕ) → Process (suc others) i → IsHeld (s.row i).token
    → s.x ≤ (s.row i).token
held_at_least_x others s inv i process =
    own_at_least_x others i s.x (due_over others s.row i) (s.row i).token (s.row i).pivot (s.row i).cell (s.row i).place
    (inv.own i process)

-- a process that was passed was seen not choosing
pub passed_cleared : (others : ℕ) (place : Place) → passed_below others place ≤ cleared_below others place
passed_cleared others at1 = omega arith
passed_cleared others (at2 j) = omega arith
passed_cleared others at3 = omega arith
passed_cleared others at4 = omega arith
passed_cleared others at5 = omega arith
passed_cleared others (at6 j) = omega arith
passed_cleared others (at7 j) = omega arith
passed_cleared others at8 = omega arith
passed_cleared others at9 = omega arith
passed_cleared others at10 = omega arith

-- a process that is not choosing has read no cell
pub not_choosing_none_read : (others : ℕ) (place : Place) → is_choosing place ≡ false → read_below others place ≡ 0
not_choosing_none_read others at1 e = refl
not_choosing_none_read others (at2 j) e = absurd (true≢false e)
not_choosing_none_read others at3 e = absurd (true≢false e)
not_choosing_none_read others at4 e = absurd (true≢false e)
not_choosing_none_read others at5 e = refl
not_choosing_none_read others (at6 j) e = refl
not_choosing_none_read others (at7 j) e = refl
not_choosing_none_read others at8 e = refl
not_choosing_none_read others at9 e = refl
not_choosing_none_read others at10 e = refl

-- the fresh state has it
pub fresh_invariant : (others : ℕ) → Invariant others fresh
fresh_invariant others =
    record {
      begun = omega arith;
      own = λ i _. record { no_token = refl; nothing_read = λ _. refl };
      knows = omega arith;
      no_gap_to_token = λ i _ a l m. absurd (omega arith);
      no_gap_to_cell = λ i k _ a l m. absurd (omega arith);
    }
