-- How long the lines can be, so that there is room for them.
use Prim.Native.Nat.{ℕ, suc, ◌+◌, ◌*◌, ◌^◌, ◌<◌, ◌≤◌}
use Prim.Native.String.{String}
use mathlib.Core.Path.{◌≡◌}
use mathlib.Core.List.{List, [], ◌∷◌}
use native.Mathlib.Omega.{arith}
use lib.ListN.{length, length-append}
use Rattle.laws.proofs.Tests.{by_test}
use Rattle.fields.specs.Numbers.{slots}
use Rattle.fields.specs.Refusals.{Stop, no_refusal, is_accepted, stop_number_of}
use Rattle.fields.proofs.Stops.{accepted_none, stop_number_most}
use Rattle.table.specs.declared.Table.{Table}
use Rattle.machine.specs.Step.{step_of}
use Rattle.machine.proofs.Steps.{step_machine, step_process}
use Rattle.courses.specs.Course.{Turn, Course, course_on, those, processes_of}
use Rattle.machine.specs.Run.{turn_of, course_of, is_entry, entered_in}
use Rattle.machine.specs.declared.Ran.{Ran}
use Rattle.listing.specs.Text.{ascii, numbered, line_feed, numbered_line}
use Rattle.listing.specs.Listing.{refused_line, bakery_line, entry_line, entry_lines, counts_line}
use Rattle.listing.specs.Room.{entry_room}
use Rattle.listing.proofs.Decimals.{decimal_short}

-- a word and a number of at most k digits
numbered_short : (word : String) (n k : ℕ) → 1 ≤ k → n < 10 ^ k → length (numbered word n) ≤ length (ascii word) + k
unfolding numbered
numbered_short word n k some h = simp length-append (omega (arith, decimal_short k n some h))

-- a byte has three digits at most, and a count that a machine word holds twenty
byte_short : (word : String) (n : ℕ) → n < 256 → length (numbered word n) ≤ length (ascii word) + 3
byte_short word n h = numbered_short word n 3 (omega arith) (omega arith)

count_short : (word : String) (n : ℕ) → n < 2 ^ 64 → length (numbered word n) ≤ length (ascii word) + 20
count_short word n h = numbered_short word n 20 (omega arith) (omega (arith, h))

byte_line : (word : String) (n : ℕ) → n < 256 → length (numbered_line word n) ≤ length (ascii word) + 4
unfolding numbered_line line_feed ascii
byte_line word n h = simp length-append (omega (arith, byte_short word n h))

stop_line : (word : String) (stop : Stop) → length (numbered_line word (stop_number_of stop)) ≤ length (ascii word) + 4
stop_line word stop = byte_line word (stop_number_of stop) (omega (arith, stop_number_most stop))

pub refused_short : (stop : Stop) → length (refused_line stop) ≤ 12
unfolding refused_line ascii
refused_short stop = stop_line "refused " stop

pub bakery_short : (algorithm n : ℕ) → algorithm < 256 → n < 256 → length (bakery_line algorithm n) ≤ 15
unfolding bakery_line ascii
bakery_short algorithm n a b = simp length-append (omega (arith, byte_short "bakery " algorithm a, byte_line " " n b))

pub counts_short : (r : Ran) → r.moved < 2 ^ 64 → r.waited < 2 ^ 64 → r.entries < 2 ^ 64 → r.waiting < 2 ^ 64 → length (counts_line r) ≤ 122
unfolding counts_line ascii
counts_short r m w e q =
    simp length-append
    (omega (
      arith,
      count_short "moved " r.moved m,
      count_short " waited " r.waited w,
      count_short " entries " r.entries e,
      count_short " waiting " r.waiting q,
      stop_line " stop " r.stop,
    ))

-- the lines of the entries: each byte of the schedule has one at most, of a process number of the table
pub lines_short : (t : Table) (s : List ℕ) → t.n ≤ slots → length (entry_lines (entered_in (course_of t s).turns)) ≤ length s * entry_room
unfolding course_on those entry_lines entry_line ascii
lines_short t [] most = omega arith
lines_short t (i ∷ s) most =
    by_test (λ (c : Course Table). length (entry_lines (entered_in c.turns)) ≤ suc (length s) * entry_room) (is_accepted (step_of t i).stop)
    (λ taken. one (accepted_none (step_of t i).stop taken) (lines_short (step_of t i).table s (rw (step_machine t i).1 most)))
    (λ _. omega arith)
  where
    later : List Turn
    later = (course_of (step_of t i).table s).turns

    one : (step_of t i).stop ≡ no_refusal → length (entry_lines (entered_in later)) ≤ length s * entry_room
        → length (entry_lines (entered_in (turn_of t i ∷ later))) ≤ suc (length s) * entry_room
    one stop h =
        by_test (λ (l : List Turn). length (entry_lines (processes_of l)) ≤ suc (length s) * entry_room) (is_entry (turn_of t i))
        (λ _.
        let process = (step_process t i stop).2 in
        let line : length (entry_line i) ≤ 10 = byte_line "entry " i (omega (arith, process, most)) in
        omega (arith, line, h, length-append (entry_line i) (entry_lines (entered_in later))))
        (λ _. omega (arith, h))
