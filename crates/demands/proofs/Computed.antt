-- How runs are computed: what the definitions unfold to, and a course from a fresh table without the tests of its tables.
use Prim.Native.Nat.{ℕ}
use mathlib.Core.Path.{◌≡◌, refl}
use mathlib.Core.Bool.{Bool, true, ◌&&◌}
use mathlib.Core.List.{List, [], ◌∷◌, flatten}
use Rattle.laws.specs.Tests.{within, every, how_many}
use Rattle.laws.proofs.Tests.{and_halves}
use Rattle.fields.specs.Numbers.{limit_of}
use Rattle.fields.specs.Rules.{algorithm_ok, count_ok, line_ok, index_ok, choosing_ok, token_ok, pivot_ok, may_hold, cell_ok}
use Rattle.table.specs.WellFormed.{row_of, cell_rule, cells_ok, core_ok, row_ok, row_rule, rows_ok, well_formed}
use Rattle.table.specs.Fresh.{all_none, fresh_table}
use Rattle.table.specs.Sized.{Sized}
use Rattle.table.specs.declared.Core.{Core}
use Rattle.table.specs.declared.Row.{Row}
use Rattle.table.specs.declared.Table.{Table}
use Rattle.table.proofs.WellFormed.{fresh_well_formed, fresh_sized}
use Rattle.tokens.specs.Tokens.{remainder, largest, next_ub, shifted, shifted_cell, next_b, before_ub, before_b, next_token, goes_before}
use Rattle.machine.specs.Lines.{next_other, goes_on, line2, line4, line5, line6, line7, line_step, any_line, cells_after, advance_of}
use Rattle.machine.specs.Step.{taken_of, step_of}
use Rattle.courses.specs.Course.{Machine, Course, course_on, those}
use Rattle.machine.specs.Run.{course_of, run_refusal, run_of, buffer_of}
use Rattle.machine.proofs.Steps.{step_taken, step_machine, step_well_formed, step_sized}

-- a row with this core, and no token in its read cells
abbrev pub unread : Core → Row
unread c = record { core = c; cells = all_none }

-- whether each byte is the number of one of n processes
unfoldable pub numbers : ℕ → List ℕ → Bool
numbers n [] = true
numbers n (i ∷ later) = within 1 n i && numbers n later

-- the machine whose steps test neither the table nor the process number
abbrev untested : Machine Table
untested = record {
  after = λ t i. (taken_of t i).table;
  mark = λ t i. (taken_of t i).mark;
  stop = λ t i. (taken_of t i).stop;
  line = λ t i. (row_of t i).core.line;
}

-- Its course. Of process numbers, from a well-formed table, it is the course itself (`is_plain`): the table stays well formed, so that no step
-- needs to test it.
abbrev pub plain : Table → List ℕ → Course Table
plain = course_on untested

is_plain : (t : Table) (schedule : List ℕ) → well_formed t ≡ true → Sized t → numbers t.n schedule ≡ true
    → course_of t schedule ≡ plain t schedule
unfolding numbers course_on
is_plain t [] formed sized each = refl
is_plain t (i ∷ later) formed sized each =
    let halves = and_halves (within 1 t.n i) (numbers t.n later) each in
    let onward = is_plain (step_of t i).table later (step_well_formed t i formed sized) (step_sized t i sized)
    (rw (step_machine t i).1 halves.1) in
    rw (onward, step_taken t i formed halves.0)

-- a fresh table is well formed
pub fresh_plain : (algorithm n : ℕ) (schedule : List ℕ) → algorithm_ok algorithm ≡ true → count_ok n ≡ true → numbers n schedule ≡ true
    → course_of (fresh_table algorithm n) schedule ≡ plain (fresh_table algorithm n) schedule
fresh_plain algorithm n schedule known count =
    is_plain (fresh_table algorithm n) schedule (fresh_well_formed algorithm n known count) (fresh_sized algorithm n)

-- What the definitions compute by. To unfold one of these names is to unfold the list under it.

unfoldable pub rules : Unit {0}
unfolding every how_many limit_of line_ok index_ok choosing_ok token_ok pivot_ok may_hold cell_ok
    cell_rule cells_ok core_ok row_ok row_rule rows_ok well_formed
rules = tt

unfoldable pub tokens : Unit {0}
unfolding remainder largest next_ub shifted shifted_cell next_b before_ub before_b next_token goes_before
tokens = tt

-- a step of a table that is known to be well formed
taken : Unit {0}
unfolding tokens next_other goes_on line2 line4 line5 line6 line7 line_step any_line cells_after advance_of taken_of
taken = tt

unfoldable pub steps : Unit {0}
unfolding rules taken step_of
steps = tt

-- what is counted of a course
counts : Unit {0}
unfolding those how_many
counts = tt

unfoldable pub runs : Unit {0}
unfolding steps counts course_on run_refusal run_of buffer_of
runs = tt

-- and where it is a plain one
unfoldable pub plainly : Unit {0}
unfolding taken counts flatten numbers course_on
plainly = tt
