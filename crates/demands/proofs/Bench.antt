-- The bench cases of document 01 hold: the definitions compute to the paper's numbers.
use Prim.Native.Nat.{ℕ, ◌-◌}
use mathlib.Core.Path.{◌≡◌, refl, ap, ◌∙◌}
use mathlib.Core.Bool.{true}
use mathlib.Core.List.{List, ◌∷◌, [], ◌++◌}
use native.Mathlib.Omega.{arith}
use borrow.Author.Tests.{le-leb}
use lib.Dec.{leb, leb-zero}
use lib.IntN.{ℤ, pos}
use lib.ListN.{length, replicate, length-replicate}
use Rattle.laws.specs.Tests.{every, how_many}
use Rattle.laws.specs.Lent.{in_front}
use Rattle.laws.proofs.Tests.{◌and◌, within_low, within_high, every_at}
use Rattle.fields.specs.Numbers.{slots, unbounded, bounded, token_limit, schedule_limit}
use Rattle.fields.specs.Refusals.{no_refusal}
use Rattle.fields.specs.Rules.{algorithm_ok, count_ok}
use Rattle.table.specs.WellFormed.{row_of, well_formed}
use Rattle.table.specs.Fresh.{fresh_core, all_none, fresh_row, fresh_table}
use Rattle.table.specs.declared.Row.{Row}
use Rattle.table.specs.declared.Table.{Table}
use Rattle.table.proofs.WellFormed.{fresh_well_formed}
use Rattle.machine.specs.Setters.{with_line, with_index, with_token}
use Rattle.machine.specs.Lines.{line4, line_step, any_line, cells_after, advance_of}
use Rattle.machine.specs.Step.{taken_of, step_of}
use Rattle.courses.specs.Course.{Course, course_on, those}
use Rattle.machine.specs.Run.{entered_in, answer_of, run_refusal, run_of, buffer_of}
use Rattle.machine.specs.declared.Stepped.{Stepped}
use Rattle.machine.specs.declared.Ran.{Ran}
use Rattle.machine.proofs.Steps.{step_taken}
use Rattle.machine.proofs.Runs.{run_answer, run_buffer}
use Rattle.demands.specs.Bench.{OnBoth, ForEachCount, lent_for, ran, Entered, StepWaits, at_line4, alternating, three_ones, bench_cases}
use Rattle.demands.specs.Bench.{AllHold}
use Rattle.demands.specs.Bench as cases
use Rattle.demands.proofs.Computed.{unread, numbers, plain, fresh_plain, rules, tokens, steps, runs, plainly}

-- A run of process numbers from a fresh table is not refused, and comes to what its plain course gives.
module _ (algorithm n : ℕ) (schedule : List ℕ) (known : algorithm_ok algorithm ≡ true) (count : count_ok n ≡ true)
    (each : numbers n schedule ≡ true) (short : leb (length schedule) schedule_limit ≡ true) where
  accepted : run_refusal (fresh_table algorithm n) schedule (lent_for schedule) ≡ no_refusal
  unfolding run_refusal
  accepted =
      let lent : length (lent_for schedule) ≡ length schedule = length-replicate (length schedule) 0 in
      rw (fresh_well_formed algorithm n known count, short, lent, le-leb (length schedule) (length schedule) (omega arith))

  fresh_run : ran (fresh_table algorithm n) schedule ≡ answer_of (plain (fresh_table algorithm n) schedule)
  fresh_run = run_answer _ _ _ accepted ∙ ap answer_of (fresh_plain algorithm n schedule known count each)

  fresh_entries : buffer_of (fresh_table algorithm n) schedule (lent_for schedule)
      ≡ in_front (entered_in (plain (fresh_table algorithm n) schedule).turns) (lent_for schedule)
  fresh_entries =
      run_buffer _ _ _ accepted
      ∙ ap (λ (c : Course Table). in_front (entered_in c.turns) (lent_for schedule)) (fresh_plain algorithm n schedule known count each)

alone : cases.Alone
unfolding plainly
alone =
    let b = fresh_run bounded 1 (replicate 8 1) refl refl refl refl in
    let u = fresh_run unbounded 1 (replicate 8 1) refl refl refl refl in
    ((ap (λ (r : Ran). r.entries) b, ap (λ (r : Ran). r.table.x) b), (ap (λ (r : Ran). r.entries) u, ap (λ (r : Ran). r.table.x) u))

two_seen : cases.TwoSeen
unfolding steps
two_seen = ((refl, refl, refl), (refl, refl, refl))

none_seen : OnBoth cases.NoneSeen
unfolding steps
none_seen = ((refl, refl, refl), (refl, refl, refl))

round_the_end : cases.RoundTheEnd
unfolding tokens
round_the_end i j = (refl, refl)

farthest : cases.Farthest
unfolding tokens
farthest i j = (refl, refl)

same_token : OnBoth cases.SameToken
unfolding tokens
same_token = ((refl, refl), (refl, refl))

-- The long runs are computed once each, to the whole answer, and what a case names is read off it.

-- a table for two processes, and a row that is past the choice of its token
abbrev pair : ℕ → ℤ → Row → Row → Table
pair algorithm x first second =
    record { algorithm = algorithm; n = 2; x = x; rows = first ∷ second ∷ replicate (slots - 2) fresh_row }

abbrev row : ℕ → ℕ → ℤ → Row
row line index token = unread (with_line line (with_index index (with_token token fresh_core)))

-- both hold token 1, and process 2 waits for process 1
abbrev waiting : ℕ → Table
waiting algorithm = pair algorithm (pos 0) (row 6 2 (pos 1)) (row 7 1 (pos 1))

-- and process 1 has entered
abbrev inside : ℕ → Table
inside algorithm = pair algorithm (pos 1) (row 9 0 (pos 1)) (row 7 1 (pos 1))

-- the runs of that case
record Answers (algorithm : ℕ) : Type 0 where
  first : ran (fresh_table algorithm 2) alternating
      ≡ record { table = waiting algorithm; moved = 13; waited = 1; entries = 0; waiting = 2; place = 14; stop = no_refusal }
  later : ran (waiting algorithm) three_ones
      ≡ record { table = inside algorithm; moved = 3; waited = 0; entries = 1; waiting = 1; place = 3; stop = no_refusal }
  whole : ran (fresh_table algorithm 2) (alternating ++ three_ones)
      ≡ record { table = inside algorithm; moved = 16; waited = 1; entries = 1; waiting = 1; place = 17; stop = no_refusal }
  enters : Entered (waiting algorithm) three_ones (1 ∷ [])
  enters_in_all : Entered (fresh_table algorithm 2) (alternating ++ three_ones) (1 ∷ [])

read_off : (algorithm : ℕ) → Answers algorithm → cases.LowerFirst algorithm
read_off algorithm a =
    rw (a.first, a.later, a.whole) (refl, refl, refl, refl, refl, a.enters, refl, refl, refl, a.enters_in_all, refl, refl)

lower_first : OnBoth cases.LowerFirst
unfolding plainly runs
lower_first = (
  read_off unbounded (record {
    first = fresh_run unbounded 2 alternating refl refl refl refl;
    later = refl;
    whole = fresh_run unbounded 2 (alternating ++ three_ones) refl refl refl refl;
    enters = refl;
    enters_in_all = fresh_entries unbounded 2 (alternating ++ three_ones) refl refl refl refl;
  }),
  read_off bounded (record {
    first = fresh_run bounded 2 alternating refl refl refl refl;
    later = refl;
    whole = fresh_run bounded 2 (alternating ++ three_ones) refl refl refl refl;
    enters = refl;
    enters_in_all = fresh_entries bounded 2 (alternating ++ three_ones) refl refl refl refl;
  }),
)

-- process 1 holds token 0, and process 2 waits for it
abbrev zero_held : Table
zero_held = pair bounded (pos 2) (row 6 2 (pos 0)) (row 7 1 (pos 1))

zero_held_lem : ran (fresh_table bounded 2) (replicate 28 1 ++ replicate 8 2)
    ≡ record { table = zero_held; moved = 35; waited = 1; entries = 2; waiting = 2; place = 36; stop = no_refusal }
unfolding plainly
zero_held_lem = fresh_run bounded 2 (replicate 28 1 ++ replicate 8 2) refl refl refl refl

second_waits : StepWaits zero_held 2
unfolding steps
second_waits = refl

token_zero : cases.TokenZero
token_zero = rw zero_held_lem (refl, refl, refl, second_waits, refl, refl, refl)

no_such_process : OnBoth cases.NoSuchProcess
unfolding runs
no_such_process = (((refl, refl), (refl, refl)), ((refl, refl), (refl, refl)))

-- process 1 of an unbounded table at line 4, no token seen; well formed for every n, since it is for each of the sixteen
abbrev picking : ℤ → ℕ → Table
picking pivot n = at_line4 unbounded n pivot all_none

below_limit : every (λ (n : ℕ). well_formed (picking (pos 999_999) n)) slots ≡ true
unfolding rules
below_limit = refl

at_limit : every (λ (n : ℕ). well_formed (picking (pos token_limit) n)) slots ≡ true
unfolding rules
at_limit = refl

last_token : ForEachCount cases.LastToken
unfolding tokens line4 line_step any_line cells_after advance_of taken_of
last_token n ok =
    let below = taken (pos 999_999) below_limit in
    let token = ap (λ (s : Stepped). (row_of s.table 1).core.token) below in
    ((refl, ap (λ (s : Stepped). s.stop) below, token), taken (pos token_limit) at_limit)
  where
    taken : (pivot : ℤ) → every (λ (m : ℕ). well_formed (picking pivot m)) slots ≡ true
        → step_of (picking pivot n) 1 ≡ taken_of (picking pivot n) 1
    taken pivot each =
        let some = within_low 1 slots n ok in
        let most = within_high 1 slots n ok in
        let formed = every_at (λ (m : ℕ). well_formed (picking pivot m)) n slots some most each in
        step_taken (picking pivot n) 1 formed (le-leb 1 n some)

empty_schedule : OnBoth (λ algorithm. ForEachCount (cases.EmptySchedule algorithm))
unfolding how_many course_on those run_refusal run_of
empty_schedule = (empty unbounded refl, empty bounded refl)
  where
    empty : (algorithm : ℕ) → algorithm_ok algorithm ≡ true → ForEachCount (cases.EmptySchedule algorithm)
    empty algorithm known n ok buffer = rw (fresh_well_formed algorithm n known ok, leb-zero (length buffer))

-- The list.

pub bench : AllHold bench_cases
bench =
    alone
    and two_seen
    and none_seen
    and round_the_end
    and farthest
    and same_token
    and lower_first
    and token_zero
    and no_such_process
    and last_token
    and empty_schedule
    and tt
