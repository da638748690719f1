-- Document 01, "Bench cases": those marked [P], "proved as a single list under one statement about the definitions". The statement is
-- `AllHold bench_cases`, at the end.
use Rattle.std.specs.Prelude.{ℕ, ◌+◌, ◌-◌, ◌≡◌, true, false, ℤ, pos, length, replicate}
use mathlib.Core.List.{List, [], ◌∷◌, ◌++◌, flatten}
use Rattle.laws.specs.Lent.{in_front}
use Rattle.fields.specs.Numbers.{slots, unbounded, bounded, none, token_limit}
use Rattle.fields.specs.Refusals.{no_refusal, bad_process_number, above_token_limit}
use Rattle.fields.specs.Rules.{count_ok}
use Rattle.table.specs.WellFormed.{row_of}
use Rattle.table.specs.Fresh.{fresh_core, all_none, fresh_row, fresh_table}
use Rattle.table.specs.declared.Table.{Table}
use Rattle.tokens.specs.Tokens.{next_token, goes_before}
use Rattle.machine.specs.Setters.{with_line, with_choosing, with_pivot}
use Rattle.machine.specs.Step.{refused_step, step_of}
use Rattle.machine.specs.Run.{run_of, buffer_of}
use Rattle.machine.specs.declared.Ran.{Ran}

-- The words that the cases are written in.

-- "where no machine is named, the case holds for both"
abbrev pub OnBoth : (ℕ → Type 0) → Type 0
OnBoth case = case unbounded × case bounded

-- for each n that a table may have: "n is 1 to 16"
abbrev pub ForEachCount : (ℕ → Type 0) → Type 0
ForEachCount case = (n : ℕ) → count_ok n ≡ true → case n

-- a run, and for it a buffer that is as long as the schedule and holds 0, the number of no process
abbrev pub lent_for : List ℕ → List ℕ
lent_for schedule = replicate (length schedule) 0

abbrev pub ran : Table → List ℕ → Ran
ran t schedule = run_of t schedule (lent_for schedule)

-- the entries of that run, in order, are those of these processes: it writes their numbers to the buffer, and nothing else
abbrev pub Entered : Table → List ℕ → List ℕ → Type 0
Entered t schedule processes = buffer_of t schedule (lent_for schedule) ≡ in_front processes (lent_for schedule)

-- "A step that waits changes nothing."
abbrev pub StepWaits : Table → ℕ → Type 0
StepWaits t i = step_of t i ≡ record { table = t; mark = 0; stop = no_refusal }

-- a fresh table, but that process 1 stands at line 4, with these read cells, and took X for its pivot
abbrev pub at_line4 : ℕ → ℕ → ℤ → List ℤ → Table
at_line4 algorithm n pivot cells =
    record {
      algorithm = algorithm;
      n = n;
      x = pivot;
      rows = record { core = with_line 4 (with_choosing 1 (with_pivot pivot fresh_core)); cells = cells } ∷ replicate (slots - 1) fresh_row;
    }

-- the next token by its formula, and in the step of line 4 that takes it
abbrev pub Gives : ℕ → ℕ → ℤ → List ℤ → ℤ → Type 0
Gives algorithm n pivot cells token =
    let s = step_of (at_line4 algorithm n pivot cells) 1 in
    (next_token algorithm n pivot cells ≡ token) × (s.stop ≡ no_refusal) × ((row_of s.table 1).core.token ≡ token)

-- The cases, in the order of the paper. "Schedules start from a fresh table".

-- "n = 1, eight bytes of 1: one entry; X ends 0 bounded, 1 unbounded."
abbrev pub Alone : Type 0
Alone = EndsWith bounded (pos 0) × EndsWith unbounded (pos 1)
  where
    EndsWith : ℕ → ℤ → Type 0
    EndsWith algorithm x =
        let r = ran (fresh_table algorithm 1) (replicate 8 1) in
        (r.entries ≡ 1) × (r.table.x ≡ x)

-- "Bounded n = 3, pivot 4, cells 0 and 4: next token 1. Unbounded, pivot 4, cells 5 and 4: 6."
abbrev pub TwoSeen : Type 0
TwoSeen = Gives bounded 3 (pos 4) (seen (pos 0) (pos 4)) (pos 1) × Gives unbounded 3 (pos 4) (seen (pos 5) (pos 4)) (pos 6)
  where
    -- by process 1 of three, in the cells of processes 2 and 3
    seen : ℤ → ℤ → List ℤ
    seen v w = none ∷ v ∷ w ∷ replicate (slots - 3) none

-- "n = 2, pivot 0, no tokens seen: 1 in both."
abbrev pub NoneSeen : ℕ → Type 0
NoneSeen algorithm = Gives algorithm 2 (pos 0) all_none (pos 1)

-- "Bounded n = 3: token 4 goes before 0; 0 does not go before 4." Whichever processes hold them.
abbrev pub RoundTheEnd : Type 0
RoundTheEnd = (i j : ℕ) → (goes_before bounded 3 i (pos 4) j (pos 0) ≡ true) × (goes_before bounded 3 i (pos 0) j (pos 4) ≡ false)

-- "Bounded n = 16: token 0 goes before 15 and not before 16." Whichever processes hold them.
abbrev pub Farthest : Type 0
Farthest = (i j : ℕ) → (goes_before bounded 16 i (pos 0) j (pos 15) ≡ true) × (goes_before bounded 16 i (pos 0) j (pos 16) ≡ false)

-- "n = 2, both tokens 1: process 1 goes before 2, and not 2 before 1."
abbrev pub SameToken : ℕ → Type 0
SameToken algorithm = (goes_before algorithm 2 1 (pos 1) 2 (pos 1) ≡ true) × (goes_before algorithm 2 2 (pos 1) 1 (pos 1) ≡ false)

-- "bytes 1 2 six times, then 2 2"
abbrev pub alternating : List ℕ
alternating = flatten (replicate 6 (1 ∷ 2 ∷ [])) ++ replicate 2 2

-- "Then 1 1 1"
abbrev pub three_ones : List ℕ
three_ones = replicate 3 1

-- "n = 2, bytes 1 2 six times, then 2 2: moved 13, waited 1, entries 0, waiting 2. Then 1 1 1: entry 1; in all moved 16, waited 1."
-- In all: over a run of each schedule, the second from the first one's last table, and over one run of both.
abbrev pub LowerFirst : ℕ → Type 0
LowerFirst algorithm =
    let t = fresh_table algorithm 2 in
    let r = ran t alternating in
    let later = ran r.table three_ones in
    let whole = ran t (alternating ++ three_ones) in
    (r.moved ≡ 13)
    × (r.waited ≡ 1)
    × (r.entries ≡ 0)
    × (r.waiting ≡ 2)
    × (later.entries ≡ 1)
    × Entered r.table three_ones (1 ∷ [])
    × (r.moved + later.moved ≡ 16)
    × (r.waited + later.waited ≡ 1)
    × (whole.entries ≡ 1)
    × Entered t (alternating ++ three_ones) (1 ∷ [])
    × (whole.moved ≡ 16)
    × (whole.waited ≡ 1)

-- "Bounded n = 2, 28 times 1, then 8 times 2: process 1 holds token 0, process 2 token 1 and waits at line 7; moved 35, waited 1,
-- entries 2."
abbrev pub TokenZero : Type 0
TokenZero =
    let r = ran (fresh_table bounded 2) (replicate 28 1 ++ replicate 8 2) in
    ((row_of r.table 1).core.token ≡ pos 0)
    × ((row_of r.table 2).core.token ≡ pos 1)
    × ((row_of r.table 2).core.line ≡ 7)
    × StepWaits r.table 2
    × (r.moved ≡ 35)
    × (r.waited ≡ 1)
    × (r.entries ≡ 2)

-- "n = 2: a schedule of the one byte 0, and one of the one byte 3, are refused 4 at place 0."
abbrev pub NoSuchProcess : ℕ → Type 0
NoSuchProcess algorithm = Refused 0 × Refused 3
  where
    Refused : ℕ → Type 0
    Refused byte =
        let r = ran (fresh_table algorithm 2) (byte ∷ []) in
        (r.stop ≡ bad_process_number) × (r.place ≡ 0)

-- "Unbounded, cells -1: pivot 999,999 gives 1,000,000; pivot 1,000,000 is refused 5."
abbrev pub LastToken : ℕ → Type 0
LastToken n =
    let atLimit = at_line4 unbounded n (pos token_limit) all_none in
    Gives unbounded n (pos 999_999) all_none (pos token_limit) × (step_of atLimit 1 ≡ refused_step atLimit above_token_limit)

-- "Empty schedule from a fresh table: all counts and the place 0, table kept." Whatever buffer is lent.
abbrev pub EmptySchedule : ℕ → ℕ → Type 0
EmptySchedule algorithm n =
    let t = fresh_table algorithm n in
    (buffer : List ℕ)
    → run_of t [] buffer ≡ record { table = t; moved = 0; waited = 0; entries = 0; waiting = 0; place = 0; stop = no_refusal }

-- the list
abbrev pub bench_cases : List (Type 0)
bench_cases =
    Alone
    ∷ TwoSeen
    ∷ OnBoth NoneSeen
    ∷ RoundTheEnd
    ∷ Farthest
    ∷ OnBoth SameToken
    ∷ OnBoth LowerFirst
    ∷ TokenZero
    ∷ OnBoth NoSuchProcess
    ∷ ForEachCount LastToken
    ∷ OnBoth (λ algorithm. ForEachCount (EmptySchedule algorithm))
    ∷ []

-- each case of a list holds
abbrev pub AllHold : List (Type 0) → Type 0
AllHold [] = Unit
AllHold (case ∷ cases) = case × AllHold cases
