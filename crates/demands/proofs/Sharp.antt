-- The schedules of Sharp, computed: each to the whole table, from which what is said of it is read off.
use Prim.Native.Nat.{ℕ, ◌-◌, ◌≤◌}
use mathlib.Core.Path.{◌≡◌, refl, ap, subst}
use mathlib.Core.List.{◌∷◌}
use native.Mathlib.Omega.{arith}
use lib.IntN.{ℤ, pos}
use lib.ListN.{replicate}
use Rattle.laws.specs.Tests.{within, every, how_many}
use Rattle.laws.proofs.Tests.{up_to_next}
use Rattle.fields.specs.Numbers.{slots, unbounded, bounded}
use Rattle.fields.specs.Refusals.{no_refusal}
use Rattle.table.specs.WellFormed.{row_of}
use Rattle.table.specs.Fresh.{fresh_core, fresh_row, fresh_table}
use Rattle.table.specs.declared.Row.{Row}
use Rattle.table.specs.declared.Table.{Table}
use Rattle.tokens.specs.Tokens.{remainder}
use Rattle.machine.specs.Setters.{with_line, with_index, with_choosing, with_token}
use Rattle.courses.specs.Course.{Course, course_on}
use Rattle.machine.specs.Run.{course_of}
use Rattle.theory.proofs.Counting.{largest}
use Rattle.theory.proofs.Tokens.{shifted, next_bounded, before_bounded}
use Rattle.demands.specs.Agreement.{f, is_remainder, row_agrees, row_at_agrees, agree, meets}
use Rattle.demands.specs.ForEver.{Holds, ahead_of, OneArc, HeldTogether}
use Rattle.demands.specs.Sharp.{after, second_token, NotEmpty, state_after, NotModuloOneLess, seven_each, TwoAtLine7, six_each}
use Rattle.demands.specs.Sharp.{three_tokens, NotNearer}
use Rattle.demands.proofs.Computed.{unread, fresh_plain, plainly}

-- a row that has just taken a token
abbrev holding : ℤ → Row
holding token = unread (with_line 5 (with_choosing 1 (with_token token fresh_core)))

abbrev second : Table
second = record { algorithm = unbounded; n = 2; x = pos 1; rows = holding (pos 2) ∷ replicate (slots - 1) fresh_row }

is_second : after unbounded 2 second_token ≡ second
unfolding plainly
is_second = ap (λ (c : Course Table). c.table) (fresh_plain unbounded 2 second_token refl refl refl)

accepted : (course_of (fresh_table unbounded 2) second_token).stop ≡ no_refusal
unfolding plainly
accepted = ap (λ (c : Course Table). c.stop) (fresh_plain unbounded 2 second_token refl refl refl)

pub not_empty : NotEmpty
unfolding course_on f is_remainder row_agrees row_at_agrees every agree meets
not_empty = (accepted, ap (λ (t : Table). meets 2 t (fresh_table bounded 2)) is_second)

pub not_modulo_one_less : NotModuloOneLess
unfolding largest shifted next_bounded before_bounded state_after
not_modulo_one_less = (refl, refl)

-- process 1 of two at line 7 to look at process 2, and the other way round
abbrev looking : Table
looking = record { algorithm = bounded; n = 2; x = pos 0; rows = row 2 ∷ row 1 ∷ replicate (slots - 2) fresh_row }
  where
    row : ℕ → Row
    row index = unread (with_line 7 (with_index index (with_token (pos 1) fresh_core)))

are_looking : after bounded 2 seven_each ≡ looking
unfolding plainly
are_looking = ap (λ (c : Course Table). c.table) (fresh_plain bounded 2 seven_each refl refl refl)

pub two_at_line_7 : TwoAtLine7
unfolding how_many
two_at_line_7 = ap (λ (t : Table). how_many (λ i. within 7 10 (row_of t i).core.line) slots) are_looking

abbrev three : Table
three = record {
  algorithm = bounded;
  n = 3;
  x = pos 0;
  rows = holding (pos 1) ∷ holding (pos 2) ∷ holding (pos 3) ∷ replicate (slots - 3) fresh_row;
}

is_three : three_tokens ≡ three
unfolding plainly
is_three = ap (λ (c : Course Table). c.table) (fresh_plain bounded 3 six_each refl refl refl)

-- the first and the last hold theirs, and one of them is more than 1 ahead of each
pub not_nearer : NotNearer
unfolding remainder
not_nearer near = no_arc (subst (HeldTogether 1 3) is_three near 1 first)
  where
    Apart : ℕ → Type 0
    Apart from = ((j : ℕ) → Holds 3 three j → ahead_of 3 three from j ≤ 1) → ⊥

    first : Holds 3 three 1
    first = record { low = omega arith; high = omega arith; token = refl }

    last : Holds 3 three 3
    last = record { low = omega arith; high = omega arith; token = refl }

    apart : (from : ℕ) → 1 ≤ from → from ≤ 3 → Apart from
    apart =
        up_to_next Apart 2
        (up_to_next Apart 1
        (up_to_next Apart 0 (λ from low high. absurd (omega arith)) (λ near. omega (arith, near 3 last)))
        (λ near. omega (arith, near 1 first)))
        (λ near. omega (arith, near 1 first))

    no_arc : OneArc 1 3 three → ⊥
    no_arc arc = apart arc.from arc.holds.low arc.holds.high arc.all
