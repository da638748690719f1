-- Demand 3, proved: the two machines side by side, a byte at a time, then over a schedule, and over runs.
use Prim.Native.Nat.{ℕ, ◌-◌, ◌≤◌}
use mathlib.Core.Path.{◌≡◌, refl, sym, ap, subst, ◌∙◌}
use mathlib.Core.Bool.{true}
use mathlib.Core.List.{List, [], ◌∷◌}
use native.Mathlib.Omega.{arith}
use lib.ListN.{length, take}
use lib.Seq.{take-length}
use Rattle.laws.specs.Tests.{within}
use Rattle.laws.proofs.Tests.{by_test, and_both, many_same}
use Rattle.fields.specs.Numbers.{slots, unbounded, bounded}
use Rattle.fields.specs.Refusals.{no_refusal, is_accepted}
use Rattle.fields.proofs.Stops.{accepted_none}
use Rattle.fields.specs.Rules.{count_ok}
use Rattle.table.specs.WellFormed.{row_of}
use Rattle.table.specs.Fresh.{fresh_table}
use Rattle.table.specs.declared.Table.{Table}
use Rattle.machine.specs.Step.{step_of}
use Rattle.machine.proofs.Steps.{step_process}
use Rattle.courses.specs.Course.{Course, begun_by, course_on, moved_in, waited_in}
use Rattle.courses.proofs.Courses.{course_first, all_taken}
use Rattle.machine.specs.Run.{tables, turn_of, course_of, entries_in, entered_in, is_waiting, waiting_of, answer_of, run_refusal, run_of, buffer_of}
use Rattle.machine.specs.declared.Ran.{Ran}
use Rattle.machine.proofs.Runs.{run_not_refused, run_answer, run_buffer}
use Rattle.theory.proofs.Theorems.{mutual_exclusion}
use Rattle.demands.specs.Agreement.{meets}
use Rattle.demands.specs.SideBySide.{Demand3, taken_in, UntilRefused, SameCounts, Alike, Piece, RunsMeet, InRuns}
use Rattle.demands.proofs.Views.{view}
use Rattle.demands.proofs.From1.{fresh_view}
use Rattle.demands.proofs.StepViews.{StepSeen, step_seen}
use Rattle.demands.proofs.Agreement.{line_view, agree_view, at_most_one_view}
use Rattle.demands.proofs.Tables.{TableFor, fresh_table_for, step_table_for, in_table}
use Rattle.demands.proofs.Mirrors.{Mirrors, fresh_mirrors, mirror_accepts, mirror_mark, mirror_step, mirror_at_most_one}

-- The unbounded table u and the bounded one b, for n processes, after the same bytes: b mirrors what u shows.
record Beside (n : ℕ) (u b : Table) : Type 0 where
  table : TableFor unbounded n u
  mirrors : Mirrors n b (view u)

fresh_beside : (n : ℕ) → count_ok n ≡ true → Beside n (fresh_table unbounded n) (fresh_table bounded n)
fresh_beside n c =
    record {
      table = fresh_table_for unbounded n refl c;
      mirrors = subst (Mirrors n (fresh_table bounded n)) (sym (fresh_view unbounded n)) (fresh_mirrors n c);
    }

module _ (n : ℕ) (u b : Table) (beside : Beside n u b) where
  -- demand 3's words hold of the two
  beside_meets : meets n u b ≡ true
  unfolding meets
  beside_meets =
      let m = beside.mirrors in
      and_both
      (and_both
      (agree_view n u b beside.table m.table m.state.shows)
      (at_most_one_view n u beside.table (mutual_exclusion (n - 1) (view u) m.state.invariant)))
      (mirror_at_most_one n b (view u) m)

  -- their rows are at the same lines
  same_line : (i : ℕ) → 1 ≤ i → i ≤ slots → (row_of b i).core.line ≡ (row_of u i).core.line
  same_line = line_view n u b beside.table beside.mirrors.table beside.mirrors.state.shows

  -- so as many wait
  same_waiting : waiting_of b ≡ waiting_of u
  same_waiting = many_same (is_waiting b) (is_waiting u) slots (λ i low high. ap (within 6 7) (same_line i low high))

  -- A byte that the unbounded machine takes.
  module _ (i : ℕ) (taken : (step_of u i).stop ≡ no_refusal) where
    low : 1 ≤ i
    low = (step_process u i taken).1

    high : i ≤ n
    high = omega (arith, beside.table.count, (step_process u i taken).2)

    seen : StepSeen unbounded n u i
    seen = step_seen u i beside.table taken

    -- the bounded one takes it
    also_taken : (step_of b i).stop ≡ no_refusal
    also_taken = mirror_accepts n b (view u) beside.mirrors i low high

    -- with the same turn: the same process, line and mark
    same_turn : turn_of b i ≡ turn_of u i
    same_turn =
        let mark = mirror_mark n b (view u) beside.mirrors i low high ∙ sym seen.mark in
        λ at. record { process = i; line = same_line i low (in_table beside.table high) at; mark = mark at }

    -- and the tables after it are beside each other again
    step_beside : Beside n (step_of u i).table (step_of b i).table
    step_beside =
        record {
          table = step_table_for u i beside.table;
          mirrors = subst (Mirrors n (step_of b i).table) (sym seen.table) (mirror_step n b (view u) beside.mirrors i low high);
        }

-- The courses of both over the same bytes.
record Courses (n : ℕ) (u b : Course Table) : Type 0 where
  stop : b.stop ≡ no_refusal
  turns : b.turns ≡ u.turns
  last : Beside n u.table b.table

-- over the bytes until the unbounded machine refuses one
courses_until : (n : ℕ) (u b : Table) (schedule : List ℕ) → Beside n u b
    → Courses n (course_of u schedule) (course_of b (taken_in (course_of u schedule) schedule))
unfolding course_on
courses_until n u b [] beside = record { stop = refl; turns = refl; last = beside }
courses_until n u b (i ∷ later) beside =
    by_test (λ (c : Course Table). Courses n c (course_of b (taken_in c (i ∷ later)))) (is_accepted (step_of u i).stop)
    (λ t.
    let taken = accepted_none (step_of u i).stop t in
    let next = (step_of u i).table in
    let rest = courses_until n next (step_of b i).table later (step_beside n u b beside i taken) in
    subst (Courses n (begun_by (turn_of u i ∷ []) (course_of next later)))
    (sym (course_first tables b i (taken_in (course_of next later) later) (also_taken n u b beside i taken)))
    (record { stop = rest.stop; turns = λ at. same_turn n u b beside i taken at ∷ rest.turns at; last = rest.last }))
    (λ _. record { stop = refl; turns = refl; last = beside })

-- and over all bytes where it refuses none
courses : (n : ℕ) (u b : Table) (schedule : List ℕ) → Beside n u b → (course_of u schedule).stop ≡ no_refusal
    → Courses n (course_of u schedule) (course_of b schedule)
courses n u b schedule beside accepted =
    let all : taken_in (course_of u schedule) schedule ≡ schedule =
    ap (λ (k : ℕ). take k schedule) (all_taken tables u schedule accepted) ∙ take-length schedule in
    subst (λ (bytes : List ℕ). Courses n (course_of u schedule) (course_of b bytes)) all (courses_until n u b schedule beside)

pub demand_3 : Demand3
demand_3 n c schedule accepted =
    let both = courses n _ _ schedule (fresh_beside n c) accepted in
    (both.stop, beside_meets n _ _ both.last)

pub until_refused : UntilRefused
until_refused n c schedule =
    let both = courses_until n _ _ schedule (fresh_beside n c) in
    (both.stop, beside_meets n _ _ both.last)

-- Both count alike.
same_counts : (n : ℕ) (u b : Course Table) → Courses n u b → u.stop ≡ no_refusal → SameCounts (answer_of u) (answer_of b)
same_counts n u b both accepted =
    record {
      moved = ap moved_in both.turns;
      waited = ap waited_in both.turns;
      entries = ap entries_in both.turns;
      waiting = same_waiting n u.table b.table both.last;
      place = ap length both.turns;
      stop = both.stop ∙ sym accepted;
    }

pub alike : Alike
alike n c schedule accepted =
    let both = courses n _ _ schedule (fresh_beside n c) accepted in
    (both.turns, same_counts n _ _ both accepted, ap entered_in both.turns)

-- A run of each, from tables beside each other.
module _ (n : ℕ) (u b : Table) (beside : Beside n u b) (p : Piece) (stop : (run_of u p.schedule p.buffer).stop ≡ no_refusal) where
  accepted : run_refusal u p.schedule p.buffer ≡ no_refusal
  accepted = run_not_refused u p.schedule p.buffer stop

  also_accepted : run_refusal b p.schedule p.buffer ≡ no_refusal
  unfolding run_refusal
  also_accepted = rw beside.mirrors.table.formed (rw beside.table.formed at accepted)

  answer : run_of u p.schedule p.buffer ≡ answer_of (course_of u p.schedule)
  answer = run_answer u p.schedule p.buffer accepted

  also_answer : run_of b p.schedule p.buffer ≡ answer_of (course_of b p.schedule)
  also_answer = run_answer b p.schedule p.buffer also_accepted

  none_refused : (course_of u p.schedule).stop ≡ no_refusal
  none_refused = ap (λ (r : Ran). r.stop) (sym answer) ∙ stop

  both_run : Courses n (course_of u p.schedule) (course_of b p.schedule)
  both_run = courses n u b p.schedule beside none_refused

  run_tables : Beside n (run_of u p.schedule p.buffer).table (run_of b p.schedule p.buffer).table
  run_tables = rw (answer, also_answer) both_run.last

  run_counts : SameCounts (run_of u p.schedule p.buffer) (run_of b p.schedule p.buffer)
  run_counts = rw (answer, also_answer) (same_counts n _ _ both_run none_refused)

  run_buffers : buffer_of b p.schedule p.buffer ≡ buffer_of u p.schedule p.buffer
  run_buffers =
      run_buffer b p.schedule p.buffer also_accepted
      ∙ rw both_run.turns (sym (run_buffer u p.schedule p.buffer accepted))

-- and so run after run
runs_meet : (n : ℕ) (u b : Table) → Beside n u b → (pieces : List Piece) → RunsMeet n u b pieces
runs_meet n u b beside [] = tt
runs_meet n u b beside (p ∷ later) =
    λ stop.
    let tables = run_tables n u b beside p stop in (
      beside_meets n _ _ tables,
      run_counts n u b beside p stop,
      run_buffers n u b beside p stop,
      runs_meet n (run_of u p.schedule p.buffer).table (run_of b p.schedule p.buffer).table tables later,
    )

pub in_runs : InRuns
in_runs n c = runs_meet n _ _ (fresh_beside n c)
