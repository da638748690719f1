-- The arms of a step: line 2 reads a cell; line 4 gives the cells up, or is refused; lines 6 and 7 may wait; the others change the core alone,
-- and line 8 X. Of each: with what the line did, the row, X and the mark of a step that is taken.
use Prim.Native.Nat.{ℕ, ◌-◌}
use mathlib.Core.Path.{◌≡◌, refl, sym, ap, ◌∙◌}
use mathlib.Core.List.{List}
use mathlib.Core.Logic.{⊎_elim}
use native.Mathlib.Omega.{arith}
use lib.IntN.{ℤ}
use lib.ListN.{set}
use Rattle.fields.specs.Refusals.{no_refusal}
use Rattle.table.specs.Fresh.{all_none}
use Rattle.table.specs.declared.Row.{Row}
use Rattle.tokens.specs.Tokens.{next_token}
use Rattle.machine.specs.Ready.{Ready}
use Rattle.machine.specs.Lines.{Advanced, line2, line4, line_step, any_line, cells_after, advance_of}
use Rattle.machine.specs.declared.Seen.{Seen}
use Rattle.machine.specs.declared.Went.{Went}
use Rattle.machine.proofs.ByLine.{at_line}
use Rattle.machine.proofs.KeptBy.{kept_read, kept_cleared, kept_refused, kept_other}
use Rattle.machine.proofs.Marks.{advance_marked}
use Rattle.machine.proofs.Only.{only_8_writes, only_4_refuses, only_6_and_7_wait}

-- what comes of a step, by its line and what the row keeps
abbrev pub leaves : Went → List ℤ → Advanced
leaves w cells = record { row = record { core = w.core; cells = cells }; x = w.x; mark = w.mark; stop = w.stop }

-- a step that is taken, with the row, X and the mark that it leaves
pub record Takes (a : Advanced) (left : Row) (shared : ℤ) (moved : ℕ) : Type 0 where
  pub row : a.row ≡ left
  pub x : a.x ≡ shared
  pub mark : a.mark ≡ moved
  pub stop : a.stop ≡ no_refusal

module _ (algorithm n i : ℕ) (s : Seen) (r : Row) where
  abbrev next : ℤ
  next = next_token algorithm n r.core.pivot r.cells

  -- w is what the line did
  abbrev Did : Went → Type 0
  Did w = w ≡ any_line algorithm n i next s r.core

  module _ {w : Went} where
    leaves_row : {cells : List ℤ} → Did w → cells_after s r.core w.mark r.cells ≡ cells
        → advance_of algorithm n i s r ≡ leaves w cells
    unfolding advance_of
    leaves_row did kept = rw (← did) (ap (leaves w) kept)

    takes_step : {cells : List ℤ} {x : ℤ} {mark : ℕ} → advance_of algorithm n i s r ≡ leaves w cells → w.x ≡ x → w.mark ≡ mark
        → w.stop ≡ no_refusal → Takes (advance_of algorithm n i s r) (record { core = w.core; cells = cells }) x mark
    takes_step e x mark stop =
        record {
          row = ap (λ (a : Advanced). a.row) e;
          x = ap (λ (a : Advanced). a.x) e ∙ x;
          mark = ap (λ (a : Advanced). a.mark) e ∙ mark;
          stop = ap (λ (a : Advanced). a.stop) e ∙ stop;
        }

    -- a step that is not refused, neither at line 8 nor at the lines that wait
    moves_on : {cells : List ℤ} → Did w → Ready n r.core
        → (r.core.line ≡ 8 → ⊥) → (r.core.line ≡ 6 → ⊥) → (r.core.line ≡ 7 → ⊥)
        → w.stop ≡ no_refusal → advance_of algorithm n i s r ≡ leaves w cells
        → Takes (advance_of algorithm n i s r) (record { core = w.core; cells = cells }) s.x 1
    moves_on did ready not-8 not_6 not_7 stop e =
        takes_step e (rw did (only_8_writes algorithm n i next s r.core not-8))
        (rw did (only_6_and_7_wait algorithm n i next s r.core ready.line not_6 not_7 (rw did at stop))) stop

    -- line 2
    module _ (e : r.core.line ≡ 2) (went : w ≡ line2 n s r.core) where
      at_2 : Did w
      unfolding line_step
      at_2 = went ∙ sym (at_line algorithm n i next s r.core {k = 2} e)

      pub reads_cell : advance_of algorithm n i s r ≡ leaves w (set r.cells (r.core.index - 1) s.token)
      unfolding cells_after
      reads_cell = leaves_row at_2 (kept_read r.core.line w.mark _ _ _ e)

      pub takes_read : Ready n r.core
          → Takes (advance_of algorithm n i s r) (record { core = w.core; cells = set r.cells (r.core.index - 1) s.token }) s.x 1
      takes_read ready =
          let stop : w.stop ≡ no_refusal = rw at_2 (only_4_refuses algorithm n i next s r.core (λ q. absurd (omega (arith, e, q)))) in
          moves_on at_2 ready (omega (arith, e)) (omega (arith, e)) (omega (arith, e)) stop reads_cell

    -- line 4
    module _ (e : r.core.line ≡ 4) (went : w ≡ line4 algorithm next s r.core) where
      at_4 : Did w
      unfolding line_step
      at_4 = went ∙ sym (at_line algorithm n i next s r.core {k = 4} e)

      pub gives_cells_up : w.mark ≡ 1 → advance_of algorithm n i s r ≡ leaves w all_none
      unfolding cells_after
      gives_cells_up moved = leaves_row at_4 (kept_cleared r.core.line w.mark _ _ _ e moved)

      pub is_refused : (w.mark ≡ 1 → ⊥) → advance_of algorithm n i s r ≡ leaves w r.cells
      unfolding cells_after
      is_refused still = leaves_row at_4 (kept_refused r.core.line w.mark _ _ _ e still)

      pub takes_token : Ready n r.core → w.stop ≡ no_refusal
          → Takes (advance_of algorithm n i s r) (record { core = w.core; cells = all_none }) s.x 1
      takes_token ready stop =
          let mark : w.mark ≡ 1 = rw at_4
          (only_6_and_7_wait algorithm n i next s r.core ready.line (omega (arith, e)) (omega (arith, e)) (rw at_4 at stop)) in
          moves_on at_4 ready (omega (arith, e)) (omega (arith, e)) (omega (arith, e)) stop (gives_cells_up mark)

      pub stop_of_4 : (advance_of algorithm n i s r).stop ≡ w.stop
      unfolding advance_of
      stop_of_4 = ap (λ (v : Went). v.stop) (sym at_4)

    -- every other line
    module _ (not_2 : r.core.line ≡ 2 → ⊥) (not_4 : r.core.line ≡ 4 → ⊥)
        (did : (next : ℤ) → w ≡ any_line algorithm n i next s r.core) where
      pub changes_core : advance_of algorithm n i s r ≡ leaves w r.cells
      unfolding cells_after
      changes_core = leaves_row (did next) (kept_other r.core.line w.mark _ _ _ not_2 not_4)

      accepted : w.stop ≡ no_refusal
      accepted = rw (did next) (only_4_refuses algorithm n i next s r.core (λ q. absurd (not_4 q)))

      -- lines 6 and 7
      pub takes_6_or_7 : (r.core.line ≡ 8 → ⊥) → {mark : ℕ} → w.mark ≡ mark
          → Takes (advance_of algorithm n i s r) (record { core = w.core; cells = r.cells }) s.x mark
      takes_6_or_7 not-8 mark = takes_step changes_core (rw (did next) (only_8_writes algorithm n i next s r.core not-8)) mark accepted

      pub takes_still : (r.core.line ≡ 8 → ⊥) → (w.mark ≡ 1 → ⊥)
          → Takes (advance_of algorithm n i s r) (record { core = w.core; cells = r.cells }) s.x 0
      takes_still not-8 unmoved =
          let mark : (advance_of algorithm n i s r).mark ≡ w.mark = ap (λ (a : Advanced). a.mark) changes_core in
          takes_6_or_7 not-8
          (⊎_elim (λ still. sym mark ∙ still.mark) (λ moved. absurd (unmoved (sym mark ∙ moved.mark))) (advance_marked s r algorithm n i))

      -- the lines that are no arm's of their own
      pub takes_other : Ready n r.core → (r.core.line ≡ 6 → ⊥) → (r.core.line ≡ 7 → ⊥)
          → Takes (advance_of algorithm n i s r) (record { core = w.core; cells = r.cells }) w.x 1
      takes_other ready not_6 not_7 =
          takes_step changes_core refl
          (rw (did next) (only_6_and_7_wait algorithm n i next s r.core ready.line not_6 not_7 (rw (did next) at accepted))) accepted
