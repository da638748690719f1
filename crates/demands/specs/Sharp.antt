-- Demand 3 is not empty, and false of lines 7 to 10; the bounded machine built modulo 2n - 2 lets two processes in together; held tokens do
-- not lie on n - 1 numbers one after the other: a schedule of two or three processes for each.
use Rattle.std.specs.Prelude.{ℕ, ◌≡◌, false, replicate}
use mathlib.Core.List.{List, [], ◌∷◌, ◌++◌, flatten}
use Rattle.laws.specs.Tests.{within, how_many}
use Rattle.fields.specs.Numbers.{slots, unbounded, bounded}
use Rattle.fields.specs.Refusals.{no_refusal}
use Rattle.table.specs.WellFormed.{row_of}
use Rattle.table.specs.Fresh.{fresh_table}
use Rattle.table.specs.declared.Table.{Table}
use Rattle.machine.specs.Run.{course_of}
use Rattle.theory.proofs.Tokens.{Machine, machine_modulo}
use Rattle.theory.proofs.Model.{State, fresh, step, at8}
use Rattle.demands.specs.Agreement.{meets}
use Rattle.demands.specs.ForEver.{HeldTogether}

-- the table after a schedule
abbrev pub after : ℕ → ℕ → List ℕ → Table
after algorithm n schedule = (course_of (fresh_table algorithm n) schedule).table

-- Process 1 of two enters, leaves and takes its second token.
abbrev pub second_token : List ℕ
second_token = replicate 16 1

-- Not empty: the unbounded machine accepts these bytes, and a bounded table that has had none of them does not meet demand 3's words.
abbrev pub NotEmpty : Type 0
NotEmpty =
    ((course_of (fresh_table unbounded 2) second_token).stop ≡ no_refusal)
    × (meets 2 (after unbounded 2 second_token) (after bounded 2 []) ≡ false)

-- Not modulo 2n - 2. The theory writes the bounded machine over its modulus (`crates/theory/proofs`), and a step of the one modulo 2n - 1
-- is document 01's (`step_seen`). The state after the steps of a schedule, n being `suc others`:
unfoldable pub state_after : ℕ → Machine → State → List ℕ → State
state_after others m s [] = s
state_after others m s (i ∷ later) = state_after others m (step others m s i) later

-- Two processes, so modulo 2. Process 2 takes token 1. Process 1 sees it, and X = 0, but has no token yet when process 2 passes it. A token
-- n - 1 above the pivot shifts to what one n - 1 below it does: process 1 takes 1 again, and comes to line 8 too.
abbrev pub both_pass : List ℕ
both_pass = replicate 7 2 ++ replicate 4 1 ++ (2 ∷ []) ++ replicate 4 1

abbrev pub NotModuloOneLess : Type 0
NotModuloOneLess =
    let s = state_after 1 (machine_modulo 2 1) fresh both_pass in
    ((s.row 1).place ≡ at8) × ((s.row 2).place ≡ at8)

-- Not lines 7 to 10: after seven bytes each, both of two processes stand at line 7.
abbrev pub seven_each : List ℕ
seven_each = flatten (replicate 7 (1 ∷ 2 ∷ []))

abbrev pub TwoAtLine7 : Type 0
TwoAtLine7 =
    let t = after bounded 2 seven_each in
    how_many (λ i. within 7 10 (row_of t i).core.line) slots ≡ 2

-- Not n - 2: three processes hold the tokens 1, 2 and 3, modulo 5, and from none of the three on are all at most 1 ahead.
abbrev pub six_each : List ℕ
six_each = replicate 6 1 ++ replicate 6 2 ++ replicate 6 3

abbrev pub three_tokens : Table
three_tokens = after bounded 3 six_each

abbrev pub NotNearer : Type 0
NotNearer = HeldTogether 1 3 three_tokens → ⊥
