-- Document 01, "One step of process i": "A passage without waits takes 3n + 5 steps."
use Rattle.std.specs.Prelude.{ℕ, ◌+◌, ◌*◌, ◌-◌, ◌%◌, ◌≤◌, ◌≡◌, true, cond, eqb, pos, replicate}
use mathlib.Core.List.{List, [], ◌∷◌, ◌++◌, map, flatten}
use Rattle.fields.specs.Numbers.{slots, unbounded, modulus_of}
use Rattle.fields.specs.Refusals.{no_refusal}
use Rattle.fields.specs.Rules.{algorithm_ok, count_ok}
use Rattle.table.specs.Fresh.{fresh_row, fresh_table}
use Rattle.table.specs.declared.Table.{Table}
use Rattle.courses.specs.Course.{Turn}
use Rattle.machine.specs.Run.{course_of, answer_of}
use Rattle.machine.specs.declared.Ran.{Ran}

-- the lines of a passage, step by step: line 2 for each of n processes, lines 6 and 7 for each of the n - 1 others
abbrev pub passage_lines : ℕ → List ℕ
passage_lines n = 1 ∷ replicate n 2 ++ (3 ∷ 4 ∷ 5 ∷ flatten (replicate (n - 1) (6 ∷ 7 ∷ [])) ++ (8 ∷ 9 ∷ 10 ∷ []))

-- a step of process i at a line, which changes the table
abbrev pub moves_from : ℕ → ℕ → Turn
moves_from i line = record { process = i; line = line; mark = 1 }

-- a fresh table, but that X is the token that was taken: 1, and on the bounded machine its remainder
abbrev pub left_behind : ℕ → ℕ → Table
left_behind algorithm n = record {
  algorithm = algorithm;
  n = n;
  x = pos (cond (eqb algorithm unbounded) 1 (1 % modulus_of n));
  rows = replicate slots fresh_row;
}

-- every one of "3n + 5 steps" moves, and one is the entry
abbrev pub passage_length : ℕ → ℕ
passage_length n = 3 * n + 5

abbrev pub passage_answer : ℕ → ℕ → Ran
passage_answer algorithm n = record {
  table = left_behind algorithm n;
  moved = passage_length n;
  waited = 0;
  entries = 1;
  waiting = 0;
  place = passage_length n;
  stop = no_refusal;
}

-- A process alone, whichever it is, on either machine, from a fresh table. None of the steps but the first begins at line 1, so that no
-- fewer make a passage.
abbrev pub PassageAlone : Type 0
PassageAlone =
    (algorithm n i : ℕ) → algorithm_ok algorithm ≡ true → count_ok n ≡ true → 1 ≤ i → i ≤ n
    → let c = course_of (fresh_table algorithm n) (replicate (passage_length n) i) in
    (c.turns ≡ map (moves_from i) (passage_lines n)) × (answer_of c ≡ passage_answer algorithm n)
