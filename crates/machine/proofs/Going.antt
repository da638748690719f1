-- The loop of a run of tables: what it asks of their steps, the answer where it ends, and each byte, refused, taken or waiting, with its row
-- taken out and put back.
use Prim.Native.Nat.{ℕ, ◌+◌, ◌-◌, ◌<◌, ◌≤◌}
use mathlib.Core.Path.{◌≡◌, refl, sym, ap, ◌∙◌, subst}
use mathlib.Core.Bool.{true, cond}
use mathlib.Core.List.{List}
use native.Mathlib.Omega.{arith}
use borrow.Author.Tests.{ne_eqb}
use lib.Dec.{eqb}
use lib.IntN.{ℤ}
use lib.ListN.{length, get_or, set}
use Rattle.laws.specs.Tests.{within}
use Rattle.fields.specs.Numbers.{line_of_entry}
use Rattle.fields.specs.Refusals.{Stop, no_refusal}
use Rattle.courses.specs.Course.{Course}
use Rattle.courses.proofs.Going.{Lawful, Reached, Going, takes, stops}
use Rattle.table.specs.WellFormed.{no_row, well_formed}
use Rattle.table.specs.Sized.{Sized}
use Rattle.table.specs.declared.Row.{Row}
use Rattle.table.specs.declared.Table.{Table}
use Rattle.machine.specs.Lines.{Advanced, advance_of}
use Rattle.machine.specs.Step.{seen_in, step_of}
use Rattle.machine.specs.Run.{tables, is_entry, course_of, waiting_of, answer_of}
use Rattle.machine.specs.Ended.{ended_run}
use Rattle.machine.specs.declared.Seen.{Seen}
use Rattle.machine.specs.declared.Stepped.{Stepped}
use Rattle.machine.specs.declared.Ran.{Ran}
use Rattle.machine.proofs.Arms.{Takes}
use Rattle.machine.proofs.Steps.{step_taken, out_and_back, step_mark, step_unmarked, step_well_formed, step_sized}

-- a table that is well formed, and has all its rows and cells
pub record Whole (t : Table) : Type 0 where
  pub formed : well_formed t ≡ true
  pub sized : Sized t

-- so is the table after a step of one
pub lawful : Lawful tables Whole
lawful =
    record {
      keeps = λ t i _ w. record { formed = step_well_formed t i w.formed w.sized; sized = step_sized t i w.sized };
      marks = step_mark;
    }

-- what `ended` makes of the loop's counts is the answer of the course to which the loop has come
pub answered : {c : Course Table} {b₀ b : List ℕ} {t : Table} {moved entered k : ℕ} {stop : Stop} {answer : Ran}
    → Reached c is_entry b₀ b t moved entered k stop → answer ≡ ended_run t moved entered k stop → answer ≡ answer_of c
answered r e =
    e
    ∙ (λ at. record {
      table = r.table at;
      moved = r.moves at;
      waited = r.waits at;
      entries = r.lists at;
      waiting = waiting_of (r.table at);
      place = r.place at;
      stop = r.ended at;
    })

-- What the loop knows of its next byte, the number of a process: its row is at place p, the row at that one's index at place q, and what is
-- seen is read there.
pub record AtByte (s b₀ b : List ℕ) (t₀ t : Table) (moved entered k p q : ℕ) (seen : Seen) : Type 0 where
  pub going : Going tables is_entry Whole s b₀ t₀ b t moved entered k
  pub more : k < length s
  pub room : length s ≤ length b₀
  pub number : within 1 t.n (get_or s k 0) ≡ true
  pub own : p ≡ get_or s k 0 - 1
  pub other : q ≡ (get_or t.rows p no_row).core.index - 1
  pub sees : seen ≡ seen_in t.x (get_or t.rows q no_row).core

-- The row is taken out, advanced and put back.
module _ {s b₀ b : List ℕ} {t₀ t : Table} {moved entered k p q : ℕ} {seen : Seen} (at : AtByte s b₀ b t₀ t moved entered k p q seen) where
  abbrev own_row : Row
  own_row = get_or t.rows p no_row

  abbrev advanced : Advanced
  advanced = advance_of t.algorithm t.n (get_or s k 0) seen own_row

  abbrev put_at : ℤ → Row → Table
  put_at x left = record { algorithm = t.algorithm; n = t.n; x = x; rows = set t.rows p left }

  stepped : step_of t (get_or s k 0) ≡ record { table = put_at advanced.x advanced.row; mark = advanced.mark; stop = advanced.stop }
  stepped =
      step_taken t (get_or s k 0) at.going.holds.formed at.number
      ∙ out_and_back t (get_or s k 0) at.own at.other at.sees refl

  -- the byte is refused
  pub byte_stops : {stop : Stop} → advanced.stop ≡ stop → (stop ≡ no_refusal → ⊥) → Reached (course_of t₀ s) is_entry b₀ b t moved entered k stop
  byte_stops e refused = stops at.going at.more (ap (λ (r : Stepped). r.stop) stepped ∙ e) refused

  -- or it is taken
  module _ {left : Row} {x : ℤ} {mark : ℕ} (taken : Takes advanced left x mark) where
    goes : let entry = eqb own_row.core.line line_of_entry in
        Going tables is_entry Whole s b₀ t₀ (cond entry (set b entered (get_or s k 0)) b) (step_of t (get_or s k 0)).table
        (moved + (step_of t (get_or s k 0)).mark) (entered + cond entry 1 0) (k + 1)
    goes =
        subst
        (λ (place : ℕ).
        let entry = eqb (get_or t.rows place no_row).core.line line_of_entry in
        Going tables is_entry Whole s b₀ t₀ (cond entry (set b entered (get_or s k 0)) b) (step_of t (get_or s k 0)).table
        (moved + (step_of t (get_or s k 0)).mark) (entered + cond entry 1 0) (k + 1))
        (sym at.own)
        (takes at.going lawful at.more at.room (ap (λ (r : Stepped). r.stop) stepped ∙ taken.stop))

    -- and is the entry where it stands at line 8
    pub byte_taken : let entry = eqb own_row.core.line line_of_entry in
        Going tables is_entry Whole s b₀ t₀ (cond entry (set b entered (get_or s k 0)) b) (put_at x left) (moved + mark)
        (entered + cond entry 1 0) (k + 1)
    byte_taken = rw (← taken.x, ← taken.mark, ← taken.row) (rw stepped at goes)

  none_listed : entered + 0 ≡ entered
  none_listed = omega arith

  -- away from line 8 X stays, and nothing is listed
  module _ (off : own_row.core.line ≡ line_of_entry → ⊥) {left : Row} where
    pub byte_passed : {mark : ℕ} → Takes advanced left seen.x mark
        → Going tables is_entry Whole s b₀ t₀ b (put_at t.x left) (moved + mark) entered (k + 1)
    byte_passed taken =
        rw (ne_eqb own_row.core.line line_of_entry off, none_listed, ap (λ (u : Seen). u.x) at.sees) at (byte_taken taken)

    -- where it waits the table stays as it is
    pub byte_waits : Takes advanced left seen.x 0 → Going tables is_entry Whole s b₀ t₀ b t moved entered (k + 1)
    byte_waits taken =
        let unmarked : (step_of t (get_or s k 0)).mark ≡ 0 = ap (λ (r : Stepped). r.mark) stepped ∙ taken.mark in
        let none_moved : moved + 0 ≡ moved = omega arith in
        rw (
          step_unmarked t (get_or s k 0) unmarked,
          unmarked,
          ne_eqb own_row.core.line line_of_entry off,
          none_moved,
          none_listed,
        ) at (goes taken)
