-- A step of document 01, over the process's own row and what it sees, leaves what the theory's step leaves: the core as its line does, and
-- the cells.
use Prim.Native.Nat.{ℕ, ◌-◌, ◌≤◌}
use mathlib.Core.Path.{◌≡◌, refl}
use mathlib.Core.Bool.{Bool, true, false, cond, not, ◌&&◌}
use native.Mathlib.Omega.{arith}
use borrow.Author.Tests.{lt-leb}
use lib.Dec.{eqb}
use lib.IntN.{ℤ, pos}
use lib.ListN.{length, set}
use Rattle.laws.proofs.Tests.{within_low, within_high}
use Rattle.fields.specs.Numbers.{slots, none, top_of}
use Rattle.fields.specs.Refusals.{no_refusal}
use Rattle.fields.specs.Rules.{index_ok, pivot_ok, may_hold, cell_ok}
use Rattle.table.specs.WellFormed.{cell_rule}
use Rattle.table.specs.Fresh.{all_none}
use Rattle.table.specs.declared.Core.{Core}
use Rattle.table.specs.declared.Row.{Row}
use Rattle.table.proofs.WellFormed.{RowRules, is_none_lem, line_range}
use Rattle.tokens.specs.Tokens.{next_token}
use Rattle.machine.specs.Lines.{kept_by, cells_after, any_line, advance_of}
use Rattle.machine.specs.Step.{seen_in}
use Rattle.theory.proofs.Model.{Place, at2, at6, at7, State, goes, goes_on}
use Rattle.demands.proofs.Views.{token_of, place_of, cells_view, row_view, machine_of}
use Rattle.demands.proofs.From1.{from1_set_view, each_cell, all_none_view}
use Rattle.demands.proofs.RowFacts.{each_line, FromNone, cell_from_none}
use Rattle.demands.proofs.TokenViews.{CellsFor, next_token_view}
use Rattle.demands.proofs.CoreViews.{Shows, can_move, after, left, Follows, core_view_lem}

-- a cell of no process is -1
cell_above : (limit : ℕ) (may : Bool) (v : ℤ) → cell_ok (pos limit) (may && false) v ≡ true → v ≡ none
unfolding cell_ok
cell_above limit true v ok = is_none_lem v ok
cell_above limit false v ok = is_none_lem v ok

module _ (algorithm n i : ℕ) (s : State) (x : ℤ) (other : Core) (r : Row) (some : 1 ≤ n) (most : n ≤ slots)
    (wide : length r.cells ≡ slots) (shows : Shows n i s x other r.core (cells_view r.cells))
    (rules : RowRules (top_of algorithm n) n i r) where
  abbrev index : ℕ
  index = r.core.index

  -- line 2 reads the token of the process that the index names
  cell_read : index_ok n i 2 index ≡ true
      → cells_view (set r.cells (index - 1) other.token) ≡ (after algorithm n i s (at2 index)).cell
  unfolding index_ok
  cell_read names =
      let low = within_low 1 n index names in
      let high = within_high 1 n index names in
      rw (shows.own, (shows.named low high).token) (from1_set_view none token_of r.cells index other.token low (omega arith))

  -- the cells of the row are those of the state; every line but 2 and 4 keeps them
  cells_kept : cells_view r.cells ≡ (s.row i).cell
  cells_kept = rw shows.own

  -- the cells after the step: line 4 gives them up, and lines 6 and 7 keep them whether they move or wait
  cells_view_lem : let place = (row_view r).place in
      cells_view (cells_after (seen_in x other) r.core (cond (can_move algorithm n i s place) 1 0) r.cells)
      ≡ (left algorithm n i s place).cell
  unfolding cells_after
  cells_view_lem =
      each_line
      (λ (line : ℕ). index_ok n i line index ≡ true
      → let place = place_of line index in
      let read = set r.cells (index - 1) other.token in
      cells_view (kept_by line (cond (can_move algorithm n i s place) 1 0) read all_none r.cells) ≡ (left algorithm n i s place).cell)
      (λ _. cells_kept)
      cell_read
      (λ _. cells_kept)
      (λ _. all_none_view)
      (λ _. cells_kept)
      (λ _. either_way (can_move algorithm n i s (at6 index)) (at7 index))
      (λ _. either_way (can_move algorithm n i s (at7 index)) (goes_on _ i index))
      (λ _. cells_kept)
      (λ _. cells_kept)
      (λ _. cells_kept)
      r.core.line (line_range n i r.core.line rules.core.line) rules.core.index
    where
      either_way : (moves : Bool) (to : Place)
          → cells_view (cond (eqb (cond moves 1 0) 1 && false) all_none r.cells) ≡ (cond moves (goes to (s.row i)) (s.row i)).cell
      either_way true to = cells_kept
      either_way false to = cells_kept

  -- at line 4 the cells are such as the next token asks for
  cells_known : r.core.line ≡ 4 → CellsFor n r.cells
  unfolding cell_rule may_hold
  cells_known e =
      record {
        wide = omega arith;
        least = λ j. each_cell FromNone r wide refl j (λ low high. cell_from_none _ _ _ (rules.cells j low high));
        above = λ j out. each_cell (λ (v : ℤ). v ≡ none) r wide refl j
            (λ low high. cell_above _ (not (eqb j i)) _ (rw (e, lt-leb j n out) at (rules.cells j low high)));
      }

  next_view : r.core.line ≡ 4
      → token_of (next_token algorithm n r.core.pivot r.cells)
      ≡ (machine_of algorithm (n - 1)).next (token_of r.core.pivot) (cells_view r.cells)
  unfolding pivot_ok
  next_view e = next_token_view algorithm n some r.core.pivot r.cells (rw e at rules.core.pivot) (cells_known e)

  -- the step
  pub advance_view : let a = advance_of algorithm n i (seen_in x other) r in
      a.stop ≡ no_refusal → Follows algorithm n i s (row_view r).place (row_view a.row) a.x a.mark
  unfolding advance_of any_line
  advance_view accepted =
      let next = next_token algorithm n r.core.pivot r.cells in
      let core = core_view_lem algorithm n i s next x other r.core (cells_view r.cells) some shows rules.core next_view accepted in
      record { row = rw (core.marked, cells_view_lem) core.row; written = core.written; marked = core.marked }
