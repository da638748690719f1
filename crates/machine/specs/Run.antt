-- Document 01, "A run": the steps of a schedule one after another, of the bakery's tables, and the answer of `run`. What a course is, and
-- what is counted of it, is said over any machine in `crates/courses/specs/Course.antt`.
use Rattle.std.specs.Prelude.{ℕ, Bool, cond, List, leb, eqb, length}
use Rattle.laws.specs.Tests.{within, how_many}
use Rattle.laws.specs.Lent.{in_front}
use Rattle.fields.specs.Numbers.{slots, line_of_entry, schedule_limit}
use Rattle.fields.specs.Refusals.{Stop, no_refusal, not_well_formed, schedule_too_long, entries_too_short, is_accepted}
use Rattle.table.specs.WellFormed.{row_of, well_formed}
use Rattle.courses.specs.Course.{Machine, Turn, Course, turn_on, course_on, those, moved_in, waited_in, processes_of}
use Rattle.table.specs.declared.Table.{Table}
use Rattle.machine.specs.Step.{step_of}
use Rattle.machine.specs.declared.Ran.{Ran}

-- both machines as one, since a table says which it is of: the steps are "the steps of demand 2"
abbrev pub tables : Machine Table
tables = record {
  after = λ t i. (step_of t i).table;
  mark = λ t i. (step_of t i).mark;
  stop = λ t i. (step_of t i).stop;
  line = λ t i. (row_of t i).core.line;
}

abbrev pub turn_of : Table → ℕ → Turn
turn_of = turn_on tables

-- "A run does the steps of demand 2 one after another."
abbrev pub course_of : Table → List ℕ → Course Table
course_of = course_on tables

-- "Entries is the count of line 8 steps taken"
abbrev pub is_entry : Turn → Bool
is_entry u = eqb u.line line_of_entry

abbrev pub entries_in : List Turn → ℕ
entries_in us = length (those is_entry us)

-- "The process number of each entry", "in order"
abbrev pub entered_in : List Turn → List ℕ
entered_in us = processes_of (those is_entry us)

-- whether row i is one of the "rows at line 6 or 7"
abbrev pub is_waiting : Table → ℕ → Bool
is_waiting t i = within 6 7 (row_of t i).core.line

-- "waiting is the number of rows at line 6 or 7 in the last table"
abbrev pub waiting_of : Table → ℕ
waiting_of t = how_many (is_waiting t) slots

-- The answer of a run whose bytes are looked at. "the place (from 0) of the refused byte or the schedule's length" is the number of bytes
-- taken.
abbrev pub answer_of : Course Table → Ran
answer_of c = record {
  table = c.table;
  moved = moved_in c.turns;
  waited = waited_in c.turns;
  entries = entries_in c.turns;
  waiting = waiting_of c.table;
  place = length c.turns;
  stop = c.stop;
}

-- "3, 6 and 7 of run return it with all counts and the place 0"
abbrev pub refused_run : Table → Stop → Ran
refused_run t stop = record { table = t; moved = 0; waited = 0; entries = 0; waiting = 0; place = 0; stop = stop }

-- "Run: 3, 6, 7, then 4 or 5 byte by byte": what refuses the run as a whole
unfoldable pub run_refusal : Table → List ℕ → List ℕ → Stop
run_refusal t schedule buffer =
    cond (well_formed t)
    (cond (leb (length schedule) schedule_limit)
    (cond (leb (length schedule) (length buffer)) no_refusal entries_too_short)
    schedule_too_long)
    not_well_formed

-- the answer of `run`
unfoldable pub run_of : Table → List ℕ → List ℕ → Ran
run_of t schedule buffer =
    let stop = run_refusal t schedule buffer in
    cond (is_accepted stop) (answer_of (course_of t schedule)) (refused_run t stop)

-- What the lent buffer holds after `run`: the process numbers are "written to the front of the lent entry buffer, in order; its other bytes
-- keep their values". On 3, 6 and 7 it is "untouched".
unfoldable pub buffer_of : Table → List ℕ → List ℕ → List ℕ
buffer_of t schedule buffer =
    cond (is_accepted (run_refusal t schedule buffer)) (in_front (entered_in (course_of t schedule).turns) buffer) buffer
