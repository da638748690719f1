-- One step keeps the rules of the process's own row, and of X.
use Prim.Native.Nat.{ℕ, ◌+◌, ◌-◌, ◌≤◌}
use mathlib.Core.Path.{◌≡◌, refl, sym, ◌∙◌, subst}
use mathlib.Core.List.{List}
use mathlib.Core.Bool.{Bool, true, false, not, ◌&&◌}
use native.Mathlib.Omega.{arith}
use native.Mathlib.Decide.{ℕ_discrete}
use borrow.Author.Tests.{le-leb, lt-ltb, ne_eqb, ltb-true}
use lib.Dec.{leb, ltb, eqb}
use lib.IntN.{ℤ, pos}
use lib.Signed.{le_z}
use lib.ListN.{length, get_or, set, length-set, length-replicate, get_or-replicate}
use lib.Seq.{get_or-set_same, get_or-set_other}
use Rattle.laws.specs.Tests.{withinℤ}
use Rattle.laws.proofs.Tests.{by_test, and_halves, within_low, within_high}
use Rattle.fields.specs.Numbers.{slots, none, limit_of, top_of}
use Rattle.fields.specs.Rules.{x_ok, index_ok, token_ok, pivot_ok, may_hold, cell_ok}
use Rattle.table.specs.WellFormed.{cell_of, cell_rule}
use Rattle.table.specs.declared.Row.{Row}
use Rattle.table.proofs.WellFormed.{RowRules, is_none_lem}
use Rattle.tokens.specs.Tokens.{next_token}
use Rattle.tokens.specs.Answers.{is_above_limit}
use Rattle.tokens.proofs.NextToken.{next_token_ok}
use Rattle.machine.specs.Lines.{Advanced, waits, line1, line2, line3, line4, line5, line6, line7, line8, line9, line10}
use Rattle.machine.specs.Lines.{any_line, cells_after, advance_of}
use Rattle.machine.specs.declared.Seen.{Seen}
use Rattle.machine.specs.declared.Went.{Went}
use Rattle.machine.proofs.ByLine.{by_line}
use Rattle.machine.proofs.KeptBy.{kept_read, kept_cleared, kept_other, kept_still}
use Rattle.machine.proofs.CoreKeeps.{core_keeps}

-- What the step of row i sees: a token that the rules allow, where the index names a process, and its own where it names i; and X.
pub record Sees (algorithm n i : ℕ) (s : Seen) (r : Row) : Type 0 where
  pub token : 1 ≤ r.core.index → r.core.index ≤ n → withinℤ none (top_of algorithm n) s.token ≡ true
  pub own : r.core.index ≡ i → s.token ≡ r.core.token
  pub x : x_ok (top_of algorithm n) s.x ≡ true

-- What it leaves: a row that keeps its rules and has all its cells, and an X that keeps its rule.
pub record Kept (algorithm n i : ℕ) (a : Advanced) : Type 0 where
  pub rules : RowRules (top_of algorithm n) n i a.row
  pub cells : length a.row.cells ≡ slots
  pub x : x_ok (top_of algorithm n) a.x ≡ true

-- a cell with nothing seen suits every rule of a cell
cell_none : (limit : ℕ) (may : Bool) (v : ℤ) → v ≡ none → cell_ok (pos limit) may v ≡ true
unfolding cell_ok
cell_none limit true v e = rw e
cell_none limit false v e = rw e

-- and a cell that may hold no token has nothing seen
cell_empty : (limit : ℕ) (v : ℤ) → cell_ok (pos limit) false v ≡ true → v ≡ none
unfolding cell_ok
cell_empty limit v e = is_none_lem v e

-- a cell that suits its rule suits one whose first test lets it hold more
cell_more : (limit : ℕ) (v : ℤ) (may more other member : Bool) → (may ≡ true → more ≡ true)
    → cell_ok (pos limit) (may && other && member) v ≡ true → cell_ok (pos limit) (more && other && member) v ≡ true
unfolding cell_ok
cell_more limit v true more other member f e = rw (f refl) e
cell_more limit v false more other member f e = cell_none limit (more && other && member) v (is_none_lem v e)

-- The step of row i, a row of one of the processes that keeps its rules.
module _ {algorithm n i : ℕ} {s : Seen} {r : Row} (some : 1 ≤ n) (most : n ≤ slots) (process : i ≤ n)
    (rules : RowRules (top_of algorithm n) n i r) (cells : length r.cells ≡ slots) (sees : Sees algorithm n i s r) where
  -- each cell of a list keeps its rule at a line and an index
  abbrev CellsOk : ℕ → ℕ → List ℤ → Type 0
  CellsOk line index kept =
      (j : ℕ) → 1 ≤ j → j ≤ slots → cell_ok (top_of algorithm n) (may_hold n i line index j) (get_or kept (j - 1) (pos 0)) ≡ true

  -- those of the row do at its line, and at a line that is known they compute
  cells_at : {k : ℕ} → r.core.line ≡ k → CellsOk k r.core.index r.cells
  unfolding cell_rule
  cells_at e j l h =
      subst (λ (k : ℕ). cell_ok (top_of algorithm n) (may_hold n i k r.core.index j) (cell_of r j) ≡ true) e (rules.cells j l h)

  -- what the row keeps, and what it asks of the cells after a step
  abbrev after : Went → List ℤ
  after w = cells_after s r.core w.mark r.cells

  abbrev Ok : Went → Type 0
  Ok w = CellsOk w.core.line w.core.index (after w)

  -- away from lines 2 to 4 no cell holds a token, and none does after the step, which keeps the cells
  away : {k : ℕ} → r.core.line ≡ k → ((j : ℕ) → may_hold n i k r.core.index j ≡ false) → (k ≡ 2 → ⊥) → (k ≡ 4 → ⊥) → (w : Went) → Ok w
  unfolding cells_after
  away e off not_2 not_4 w j l h =
      rw (kept_other r.core.line w.mark _ _ _ (λ q. not_2 (sym e ∙ q)) (λ q. not_4 (sym e ∙ q)))
      (cell_none (limit_of algorithm n) (may_hold n i w.core.line w.core.index j) (cell_of r j)
      (cell_empty (limit_of algorithm n) (cell_of r j) (rw (off j) at (cells_at e j l h))))

  -- line 2: the index names a process
  module _ (e : r.core.line ≡ 2) where
    index_ok_lem : index_ok n i 2 r.core.index ≡ true
    index_ok_lem = subst (λ (k : ℕ). index_ok n i k r.core.index ≡ true) e rules.core.index

    index_low : 1 ≤ r.core.index
    unfolding index_ok
    index_low = within_low 1 n r.core.index index_ok_lem

    index_high : r.core.index ≤ n
    unfolding index_ok
    index_high = within_high 1 n r.core.index index_ok_lem

    no_token_lem : r.core.token ≡ none
    unfolding token_ok
    no_token_lem = is_none_lem _ (subst (λ (k : ℕ). token_ok (top_of algorithm n) k r.core.token ≡ true) e rules.core.token)

    -- the token that is read suits its cell: the row's own is none, and another may be held
    read_ok : (may : Bool) → ((r.core.index ≡ i → ⊥) → may ≡ true) → Dec (r.core.index ≡ i)
        → cell_ok (top_of algorithm n) may s.token ≡ true
    unfolding cell_ok
    read_ok may held (yes own) = cell_none (limit_of algorithm n) may s.token (sees.own own ∙ no_token_lem)
    read_ok may held (no other) = rw (held other) (sees.token index_low index_high)

    -- cells that keep their rule at the next line and index keep it with the token that is read
    read_keeps : (line index : ℕ) → ((r.core.index ≡ i → ⊥) → may_hold n i line index r.core.index ≡ true)
        → CellsOk line index r.cells → (mark : ℕ) → CellsOk line index (cells_after s r.core mark r.cells)
    unfolding cells_after
    read_keeps line index held next mark j l h = rw (kept_read r.core.line mark _ _ _ e) (by_cell (ℕ_discrete j r.core.index))
      where
        by_cell : Dec (j ≡ r.core.index)
            → cell_ok (top_of algorithm n) (may_hold n i line index j) (get_or (set r.cells (r.core.index - 1) s.token) (j - 1) (pos 0))
            ≡ true
        by_cell (yes p) =
            rw (p, get_or-set_same r.cells (r.core.index - 1) s.token (pos 0) (omega (arith, index_low, index_high)))
            (read_ok (may_hold n i line index r.core.index) held (ℕ_discrete r.core.index i))
        by_cell (no p) =
            rw (get_or-set_other r.cells (r.core.index - 1) (j - 1) s.token (pos 0) (λ q. p (omega (arith, index_low))))
            (next j l h)

    -- a cell that may hold a token still may when the index is one more, and at line 3
    line2_keeps : Ok (line2 n s r.core)
    unfolding line2 may_hold
    line2_keeps =
        let j = r.core.index in
        let held : (j ≡ i → ⊥) → (not (eqb j i) && leb j n) ≡ true = λ o. rw (ne_eqb j i o) (le-leb j n index_high) in
        by_test Ok (eqb j n)
        (λ t. read_keeps 3 0 held
        (λ k l h. cell_more _ (cell_of r k) (ltb k j) true (not (eqb k i)) (leb k n) (λ _. refl) (cells_at e k l h)) 1)
        (λ t. subst (λ (k : ℕ). CellsOk k (j + 1) (cells_after s r.core 1 r.cells)) (sym e)
        (read_keeps 2 (j + 1) (λ o. rw (lt-ltb j (j + 1) (omega arith)) (held o))
        (λ k l h. cell_more _ (cell_of r k) (ltb k j) (ltb k (j + 1)) (not (eqb k i)) (leb k n)
        (λ u. lt-ltb k (j + 1) (omega (arith, ltb-true k j u))) (cells_at e k l h)) 1))

  -- line 3: the same cells may hold a token at line 4
  line3_keeps : r.core.line ≡ 3 → Ok (line3 s r.core)
  unfolding cells_after may_hold
  line3_keeps e j l h = rw (kept_other r.core.line 1 _ _ _ (omega (arith, e)) (omega (arith, e))) (cells_at e j l h)

  -- a step that does not move, at any line but 2
  still_keeps : (r.core.line ≡ 2 → ⊥) → Ok (waits s r.core)
  unfolding cells_after
  still_keeps not_2 j l h = rw (kept_still r.core.line 0 _ _ _ not_2 refl) (cells_at refl j l h)

  -- line 4 gives the cells up, or is refused and keeps them
  line4_keeps : (next : ℤ) → r.core.line ≡ 4 → Ok (line4 algorithm next s r.core)
  unfolding line4 cells_after
  line4_keeps next e =
      by_test Ok (is_above_limit algorithm next)
      (λ _. still_keeps (omega (arith, e)))
      (λ _ j l h. rw (kept_cleared r.core.line 1 _ _ _ e refl)
      (cell_none (limit_of algorithm n) _ _ (get_or-replicate slots (j - 1) none (pos 0) (omega arith))))

  -- the cells after the step, whatever the line
  cells_keep : (next : ℤ) → Ok (any_line algorithm n i next s r.core)
  unfolding may_hold
  cells_keep next =
      by_line algorithm n i next s r.core Ok
      (record {
        at1 = λ e. away e (λ _. refl) (omega arith) (omega arith) (line1 s r.core);
        at2 = line2_keeps;
        at3 = line3_keeps;
        at4 = line4_keeps next;
        at5 = λ e. away e (λ _. refl) (omega arith) (omega arith) (line5 n i s r.core);
        at6 = λ e. away e (λ _. refl) (omega arith) (omega arith) (line6 s r.core);
        at7 = λ e. away e (λ _. refl) (omega arith) (omega arith) (line7 algorithm n i s r.core);
        at8 = λ e. away e (λ _. refl) (omega arith) (omega arith) (line8 r.core);
        at9 = λ e. away e (λ _. refl) (omega arith) (omega arith) (line9 s r.core);
        at10 = λ e. away e (λ _. refl) (omega arith) (omega arith) (line10 s r.core);
        elsewhere = λ off. still_keeps (off 2 (omega arith) (omega arith));
      })

  -- and how many they are
  cells_length_lem : (mark : ℕ) → length (cells_after s r.core mark r.cells) ≡ slots
  unfolding cells_after
  cells_length_lem mark =
      by_test (λ (kept : List ℤ). length kept ≡ slots) (eqb r.core.line 2)
      (λ _. length-set r.cells (r.core.index - 1) s.token ∙ cells)
      (λ _. by_test (λ (kept : List ℤ). length kept ≡ slots) (eqb mark 1 && eqb r.core.line 4)
      (λ _. length-replicate slots none)
      (λ _. cells))

  -- the next token keeps the rule of tokens, where line 4 takes it
  next_ok : r.core.line ≡ 4
      → let next = next_token algorithm n r.core.pivot r.cells in
      is_above_limit algorithm next ≡ false → withinℤ (pos 0) (top_of algorithm n) next ≡ true
  unfolding pivot_ok
  next_ok e =
      let pivot = subst (λ (k : ℕ). pivot_ok (top_of algorithm n) k r.core.pivot ≡ true) e rules.core.pivot in
      next_token_ok r.core.pivot r.cells algorithm n some
      (and_halves (le_z (pos 0) r.core.pivot) (le_z r.core.pivot (top_of algorithm n)) pivot).0

  -- the row and X after the step
  pub advance_keeps : Kept algorithm n i (advance_of algorithm n i s r)
  unfolding advance_of cell_rule
  advance_keeps =
      let next = next_token algorithm n r.core.pivot r.cells in
      let core = core_keeps algorithm n i next s r.core some process rules.core sees.x next_ok in
      record { rules = record { core = core.rules; cells = cells_keep next }; cells = cells_length_lem _; x = core.x }
