-- The bounded machine for ever: after every schedule, with no word of the unbounded machine and its limit of tokens.
use Rattle.std.specs.Prelude.{ℕ, ◌-◌, ◌≤◌, ◌≡◌, true, false, List, ◌-ℤ◌}
use Rattle.fields.specs.Numbers.{bounded, is_none, modulus_of}
use Rattle.fields.specs.Refusals.{no_refusal}
use Rattle.fields.specs.Rules.{count_ok}
use Rattle.table.specs.WellFormed.{row_of}
use Rattle.table.specs.Fresh.{fresh_table}
use Rattle.table.specs.declared.Table.{Table}
use Rattle.tokens.specs.Tokens.{remainder}
use Rattle.machine.specs.Step.{step_of}
use Rattle.machine.specs.Run.{course_of}
use Rattle.demands.specs.Agreement.{at_most_one}

-- process i of n holds a token
pub record Holds (n : ℕ) (t : Table) (i : ℕ) : Type 0 where
  pub low : 1 ≤ i
  pub high : i ≤ n
  pub token : is_none (row_of t i).core.token ≡ false

-- how far the token of j is ahead of the token of i, going round modulo 2n - 1
abbrev pub ahead_of : ℕ → Table → ℕ → ℕ → ℕ
ahead_of n t i j = remainder ((row_of t j).core.token -ℤ (row_of t i).core.token) (modulus_of n)

-- the held tokens lie together: from the token of some process on, going round, none is more than `reach` ahead
pub record OneArc (reach n : ℕ) (t : Table) : Type 0 where
  pub from : ℕ
  pub holds : Holds n t from
  pub all : (j : ℕ) → Holds n t j → ahead_of n t from j ≤ reach

-- so it is where a process holds a token
abbrev pub HeldTogether : ℕ → ℕ → Table → Type 0
HeldTogether reach n t = (i : ℕ) → Holds n t i → OneArc reach n t

-- After every schedule at most one process stands at lines 8 to 10; the held tokens lie together, on n numbers one after the other; and the
-- machine goes on: it refuses no byte but 0 and those above n. (A course ends at the first byte that is refused, so the table is the one
-- after the bytes that are taken.)
abbrev pub BoundedForEver : Type 0
BoundedForEver =
    (n : ℕ) → count_ok n ≡ true → (schedule : List ℕ)
    → let t = (course_of (fresh_table bounded n) schedule).table in
    (at_most_one t ≡ true)
    × HeldTogether (n - 1) n t
    × ((i : ℕ) → 1 ≤ i → i ≤ n → (step_of t i).stop ≡ no_refusal)
