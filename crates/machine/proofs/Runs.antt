-- The laws of a run, which the layers above cite.
use Prim.Native.Nat.{ℕ, ◌+◌, ◌≤◌}
use mathlib.Core.Path.{◌≡◌, sym, ap, ◌∙◌}
use mathlib.Core.Bool.{true}
use mathlib.Core.List.{List, [], ◌∷◌, ◌++◌}
use mathlib.Core.Logic.{⊎_elim}
use native.Mathlib.Omega.{arith}
use borrow.Author.Tests.{le-leb, leb-true}
use lib.Dec.{leb}
use lib.ListN.{length, length-append}
use Rattle.laws.specs.Lent.{in_front}
use Rattle.laws.proofs.Tests.{by_test, by_answer}
use Rattle.fields.specs.Numbers.{schedule_limit}
use Rattle.fields.specs.Refusals.{Stop, no_refusal, is_accepted}
use Rattle.fields.proofs.Stops.{accepted_none, refused_some, some_refused}
use Rattle.table.specs.WellFormed.{well_formed}
use Rattle.table.specs.Sized.{Sized}
use Rattle.table.specs.declared.Table.{Table}
use Rattle.courses.specs.Course.{Course, begun_by, course_on, those, changed, moved_in, unchanged}
use Rattle.courses.proofs.Counts.{count_append, count_most}
use Rattle.courses.proofs.Courses.{course_append, course_goes_on, processes_in_turn, taken_most, course_keeps}
use Rattle.machine.specs.Step.{step_of}
use Rattle.machine.specs.Run.{tables, course_of, is_entry, entered_in, waiting_of, answer_of, run_refusal, run_of, buffer_of}
use Rattle.machine.specs.declared.Ran.{Ran}
use Rattle.machine.proofs.Steps.{step_sized, step_mark, step_unmarked, step_refused}
use Rattle.machine.proofs.Going.{Whole, lawful}

module _ (t : Table) (s b : List ℕ) where
  -- A run of a well-formed table is not refused as a whole, where the schedule is not too long and the buffer is not too short.
  pub run_accepted : well_formed t ≡ true → length s ≤ schedule_limit → length s ≤ length b → run_refusal t s b ≡ no_refusal
  unfolding run_refusal
  run_accepted w short room = rw (w, le-leb (length s) schedule_limit short, le-leb (length s) (length b) room)

  -- A run that answers stop number 0 was not.
  pub run_not_refused : (run_of t s b).stop ≡ no_refusal → run_refusal t s b ≡ no_refusal
  unfolding run_of
  run_not_refused =
      by_test (λ (r : Ran). r.stop ≡ no_refusal → run_refusal t s b ≡ no_refusal) (is_accepted (run_refusal t s b))
      (λ e _. accepted_none (run_refusal t s b) e) (λ _ e. e)

  -- Then it answers what its course gives, and its entries stand in front of the buffer.
  module _ (accepted : run_refusal t s b ≡ no_refusal) where
    pub run_answer : run_of t s b ≡ answer_of (course_of t s)
    unfolding run_of
    run_answer = rw accepted

    pub run_buffer : buffer_of t s b ≡ in_front (entered_in (course_of t s).turns) b
    unfolding buffer_of
    run_buffer = rw accepted

  -- A run that is not refused as a whole has a buffer that is not shorter than its schedule.
  accepted_room : run_refusal t s b ≡ no_refusal → length s ≤ length b
  unfolding run_refusal
  accepted_room =
      let Room : Stop → Type 0 = λ stop. stop ≡ no_refusal → length s ≤ length b in
      by_test Room (well_formed t)
      (λ _. by_test Room (leb (length s) schedule_limit)
      (λ _. by_test Room (leb (length s) (length b)) (λ room _. leb-true _ _ room) (λ _ e. cc))
      (λ _ e. cc))
      (λ _ e. cc)

  -- So no run answers more entries than its buffer has bytes: what a caller needs to know to take them off its front.
  pub entries_within : (run_of t s b).entries ≤ length b
  unfolding run_of
  entries_within =
      by_test (λ (r : Ran). r.entries ≤ length b) (is_accepted (run_refusal t s b))
      (λ accepted. omega (arith, count_most is_entry (course_of t s).turns, taken_most tables t s, accepted_room (accepted_none _ accepted)))
      (λ _. omega arith)

-- A step of a well-formed table is a run of one byte.
module _ (t : Table) (i : ℕ) where
  abbrev one : Course Table
  one = course_of t (i ∷ [])

  pub one_table : one.table ≡ (step_of t i).table
  unfolding course_on
  one_table =
      by_answer (is_accepted (step_of t i).stop) (λ e. rw e)
      (λ e. rw e (sym (step_unmarked t i (step_refused t i (refused_some (step_of t i).stop e)))))

  pub one_stop : one.stop ≡ (step_of t i).stop
  unfolding course_on
  one_stop = by_answer (is_accepted (step_of t i).stop) (λ e. rw e (sym (accepted_none (step_of t i).stop e))) (λ e. rw e)

  pub one_mark : moved_in one.turns ≡ (step_of t i).mark
  unfolding course_on those
  one_mark =
      by_answer (is_accepted (step_of t i).stop)
      (λ e. rw e (⊎_elim (λ m. rw m) (λ m. rw m) (step_mark t i)))
      (λ e. rw e (sym (step_refused t i (refused_some (step_of t i).stop e))))

-- The last table of a course is well formed, and sized, if the first one is.
pub course_well_formed : (t : Table) (s : List ℕ) → well_formed t ≡ true → Sized t → well_formed (course_of t s).table ≡ true
course_well_formed t s w z = (course_keeps tables Whole lawful.keeps t s (record { formed = w; sized = z })).formed

pub course_sized : (t : Table) (s : List ℕ) → Sized t → Sized (course_of t s).table
course_sized = course_keeps tables Sized (λ t i _. step_sized t i)

-- So the next run, from the last table of one, is not refused as a whole either, where its schedule and its buffer are right.
pub next_accepted : (t : Table) (s b later next : List ℕ) → well_formed t ≡ true → Sized t → run_refusal t s b ≡ no_refusal
    → length later ≤ schedule_limit → length later ≤ length next → run_refusal (run_of t s b).table later next ≡ no_refusal
next_accepted t s b later next w z accepted short room =
    let last : (run_of t s b).table ≡ (course_of t s).table = ap (λ (r : Ran). r.table) (run_answer t s b accepted) in
    rw last (run_accepted (course_of t s).table later next (course_well_formed t s w z) short room)

-- One run after another: the counts are added, and the table and what is waiting in it are the last one's.
abbrev pub afterwards : Ran → Ran → Ran
afterwards a b = record {
  table = b.table;
  moved = a.moved + b.moved;
  waited = a.waited + b.waited;
  entries = a.entries + b.entries;
  waiting = b.waiting;
  place = a.place + b.place;
  stop = b.stop;
}

answer_begun : (c d : Course Table) → answer_of (begun_by c.turns d) ≡ afterwards (answer_of c) (answer_of d)
answer_begun c d =
    λ at. record {
      table = d.table;
      moved = count_append changed c.turns d.turns at;
      waited = count_append unchanged c.turns d.turns at;
      entries = count_append is_entry c.turns d.turns at;
      waiting = waiting_of d.table;
      place = length-append c.turns d.turns at;
      stop = d.stop;
    }

-- A schedule followed by another, each run with a buffer of its own: the run over both is the two runs one after the other, so that a
-- longer schedule is several runs, each from the last one's table. If a byte of the first is refused, the run over both ends there.
module _ (t : Table) (s later buffer first : List ℕ) (both : run_refusal t (s ++ later) buffer ≡ no_refusal)
    (one : run_refusal t s first ≡ no_refusal) where
  answer : run_of t s first ≡ answer_of (course_of t s)
  answer = run_answer t s first one

  pub run_stopped : ((run_of t s first).stop ≡ no_refusal → ⊥) → run_of t (s ++ later) buffer ≡ run_of t s first
  run_stopped stopped =
      let stop : (course_of t s).stop ≡ no_refusal → ⊥ = λ q. stopped (ap (λ (r : Ran). r.stop) answer ∙ q) in
      run_answer t (s ++ later) buffer both ∙ ap answer_of (course_append tables t s later ∙ rw (some_refused _ stop)) ∙ sym answer

  module _ (going : (run_of t s first).stop ≡ no_refusal) where
    stop : (course_of t s).stop ≡ no_refusal
    stop = ap (λ (r : Ran). r.stop) (sym answer) ∙ going

    last : (run_of t s first).table ≡ (course_of t s).table
    last = ap (λ (r : Ran). r.table) answer

    pub run_append : (second : List ℕ) → run_refusal (run_of t s first).table later second ≡ no_refusal
        → run_of t (s ++ later) buffer ≡ afterwards (run_of t s first) (run_of (run_of t s first).table later second)
    run_append second two =
        let d = course_of (course_of t s).table later in
        let b : run_of (run_of t s first).table later second ≡ answer_of d = run_answer _ later second two ∙ rw last in
        run_answer t (s ++ later) buffer both ∙ ap answer_of (course_goes_on tables t s later stop) ∙ answer_begun (course_of t s) d
        ∙ sym (λ at. afterwards (answer at) (b at))

    -- and in the buffer the entries of the first stand before those of the second
    pub run_append_buffer : buffer_of t (s ++ later) buffer
        ≡ in_front (entered_in (course_of t s).turns ++ entered_in (course_of (run_of t s first).table later).turns) buffer
    run_append_buffer = run_buffer t (s ++ later) buffer both ∙ rw (last, processes_in_turn tables t s later stop is_entry)
