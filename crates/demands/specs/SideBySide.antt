-- Demand 3 of the order: "For every process count from 1 to 16 and every schedule, however long, start both machines fresh and give them
-- the same bytes. Until the unbounded one refuses a byte, after every byte all rows agree in line, index and choosing flag; X and every
-- token, pivot and read cell of the bounded table is the unbounded one's remainder modulo 2n - 1, with -1 for -1; and at most one process
-- stands at lines 8 to 10." What these words say of two tables is `meets`, in Agreement.
use Rattle.std.specs.Prelude.{ℕ, ◌≡◌, true, List, [], ◌∷◌, length, take}
use Rattle.fields.specs.Numbers.{unbounded, bounded}
use Rattle.fields.specs.Refusals.{no_refusal}
use Rattle.fields.specs.Rules.{count_ok}
use Rattle.table.specs.Fresh.{fresh_table}
use Rattle.table.specs.declared.Table.{Table}
use Rattle.courses.specs.Course.{Course}
use Rattle.machine.specs.Run.{course_of, entered_in, answer_of, run_of, buffer_of}
use Rattle.machine.specs.declared.Ran.{Ran}
use Rattle.demands.specs.Agreement.{meets}

-- Said of every schedule that the unbounded machine accepts, so after every byte of one.
abbrev pub Demand3 : Type 0
Demand3 =
    (n : ℕ) → count_ok n ≡ true → (schedule : List ℕ)
    → let u = course_of (fresh_table unbounded n) schedule in
    let b = course_of (fresh_table bounded n) schedule in
    u.stop ≡ no_refusal → (b.stop ≡ no_refusal) × (meets n u.table b.table ≡ true)

-- the bytes of a schedule that its course takes: those before one that is refused
abbrev pub taken_in : Course Table → List ℕ → List ℕ
taken_in c schedule = take (length c.turns) schedule

-- "Until the unbounded one refuses a byte": of every schedule, and the bytes before the one that the unbounded machine refuses.
abbrev pub UntilRefused : Type 0
UntilRefused =
    (n : ℕ) → count_ok n ≡ true → (schedule : List ℕ)
    → let u = course_of (fresh_table unbounded n) schedule in
    let b = course_of (fresh_table bounded n) (taken_in u schedule) in
    (b.stop ≡ no_refusal) × (meets n u.table b.table ≡ true)

-- two answers are the same but for the table
pub record SameCounts (u b : Ran) : Type 0 where
  pub moved : b.moved ≡ u.moved
  pub waited : b.waited ≡ u.waited
  pub entries : b.entries ≡ u.entries
  pub waiting : b.waiting ≡ u.waiting
  pub place : b.place ≡ u.place
  pub stop : b.stop ≡ u.stop

-- Both machines move, wait and enter alike: byte by byte the same process at the same line with the same mark, which is what a turn is; the
-- same counts; the same entry list.
abbrev pub Alike : Type 0
Alike =
    (n : ℕ) → count_ok n ≡ true → (schedule : List ℕ)
    → let u = course_of (fresh_table unbounded n) schedule in
    let b = course_of (fresh_table bounded n) schedule in
    u.stop ≡ no_refusal
    → (b.turns ≡ u.turns) × SameCounts (answer_of u) (answer_of b) × (entered_in b.turns ≡ entered_in u.turns)

-- "a longer schedule there is several runs, each from the last one's table": a piece of it, with the buffer lent for its run
pub record Piece : Type 0 where
  pub schedule : List ℕ
  pub buffer : List ℕ

-- Both machines run each piece, from the tables u and b on. As long as the unbounded machine's run answers stop number 0, and so has at
-- most 60,000 bytes (refusal 6) and a buffer as long (refusal 7): demand 3 is met after it, and both runs have the same counts, stop number
-- and entry list. (A run that stops at a byte is, up to that byte, a run over the bytes before it, which are a piece too.)
abbrev pub RunsMeet : ℕ → Table → Table → List Piece → Type 0
RunsMeet n u b [] = Unit
RunsMeet n u b (p ∷ later) =
    let ranU = run_of u p.schedule p.buffer in
    let ranB = run_of b p.schedule p.buffer in
    ranU.stop ≡ no_refusal
    → (meets n ranU.table ranB.table ≡ true)
    × SameCounts ranU ranB
    × (buffer_of b p.schedule p.buffer ≡ buffer_of u p.schedule p.buffer)
    × RunsMeet n ranU.table ranB.table later

-- Demand 3 of schedules of any length, cut into runs.
abbrev pub InRuns : Type 0
InRuns = (n : ℕ) → count_ok n ≡ true → (pieces : List Piece) → RunsMeet n (fresh_table unbounded n) (fresh_table bounded n) pieces
