-- Document 01, "The entry lister": what it prints for the bytes of its standard input.
use Rattle.std.specs.Prelude.{ℕ, cond, List, [], ◌∷◌, ◌++◌, leb, length, get_or, drop}
use Rattle.fields.specs.Numbers.{schedule_limit}
use Rattle.fields.specs.Refusals.{Stop, no_refusal, schedule_too_long, form_too_short, is_accepted, stop_number_of}
use Rattle.table.specs.Fresh.{fresh_of}
use Rattle.table.specs.declared.Table.{Table}
use Rattle.courses.specs.Course.{Course}
use Rattle.machine.specs.Run.{course_of, entered_in, answer_of}
use Rattle.machine.specs.declared.Ran.{Ran}
use Rattle.listing.specs.Text.{numbered, numbered_line}

-- "algorithm byte, n byte, schedule"
abbrev pub algorithm_in : List ℕ → ℕ
algorithm_in input = get_or input 0 0

abbrev pub count_in : List ℕ → ℕ
count_in input = get_or input 1 0

abbrev pub schedule_in : List ℕ → List ℕ
schedule_in input = drop 2 input

-- "It refuses 9 (fewer than two bytes), 1, 2, 6 in that order": 1 and 2 are those of fresh
unfoldable pub lister_refusal : List ℕ → Stop
lister_refusal input =
    let started = (fresh_of (algorithm_in input) (count_in input)).stop in
    cond (leb 2 (length input))
    (cond (is_accepted started)
    (cond (leb (length (schedule_in input)) schedule_limit) no_refusal schedule_too_long)
    started)
    form_too_short

-- "printing only the line `refused N`"
unfoldable pub refused_line : Stop → List ℕ
refused_line stop = numbered_line "refused " (stop_number_of stop)

-- "`bakery A n`": "A is the algorithm, n the process count"
unfoldable pub bakery_line : ℕ → ℕ → List ℕ
bakery_line algorithm n = numbered "bakery " algorithm ++ numbered_line " " n

-- "one line `entry P` for each entry in order": "P a process number"
unfoldable pub entry_line : ℕ → List ℕ
entry_line process = numbered_line "entry " process

unfoldable pub entry_lines : List ℕ → List ℕ
entry_lines [] = []
entry_lines (process ∷ later) = entry_line process ++ entry_lines later

-- "the last line gives the run's moved, waited, entries, waiting and stop number"
unfoldable pub counts_line : Ran → List ℕ
counts_line r =
    numbered "moved " r.moved ++ numbered " waited " r.waited ++ numbered " entries " r.entries
    ++ numbered " waiting " r.waiting ++ numbered_line " stop " (stop_number_of r.stop)

-- the three parts, of the fresh table t and the course of its run
unfoldable pub report : Table → Course Table → List ℕ
report t c = bakery_line t.algorithm t.n ++ entry_lines (entered_in c.turns) ++ counts_line (answer_of c)

-- "Otherwise it starts fresh and prints"
unfoldable pub listing_of : List ℕ → List ℕ
listing_of input =
    let stop = lister_refusal input in
    let t = (fresh_of (algorithm_in input) (count_in input)).table in
    cond (is_accepted stop) (report t (course_of t (schedule_in input))) (refused_line stop)
