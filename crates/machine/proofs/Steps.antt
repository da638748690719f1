-- The laws of a step of a table, which the layers above cite.
use Prim.Native.Nat.{ℕ, ◌-◌, ◌≤◌}
use mathlib.Core.Path.{◌≡◌, refl, sym, ap, ◌∙◌}
use mathlib.Core.Bool.{true, false}
use mathlib.Core.Logic.{◌⊎◌, inl, inr, ⊎_elim}
use native.Mathlib.Omega.{arith}
use native.Mathlib.Decide.{ℕ_discrete}
use lib.ListN.{length, get_or, set, length-set}
use lib.Seq.{get_or-set_same, get_or-set_other, set-get_or}
use Rattle.laws.specs.Tests.{within}
use Rattle.laws.proofs.Tests.{by_test, within_low, within_high}
use Rattle.fields.specs.Numbers.{slots, limit_of, top_of}
use Rattle.fields.specs.Refusals.{Stop, no_refusal, not_well_formed, bad_process_number}
use Rattle.table.specs.WellFormed.{no_row, row_of, well_formed}
use Rattle.table.specs.Sized.{Sized}
use Rattle.table.specs.declared.Row.{Row}
use Rattle.table.specs.declared.Table.{Table}
use Rattle.table.proofs.WellFormed.{TableRules, RowRules, table_rules, well_formed_lem, token_range}
use Rattle.machine.specs.Lines.{Advanced, advance_of}
use Rattle.machine.specs.declared.Seen.{Seen}
use Rattle.machine.proofs.RowKeeps.{Sees, Kept, advance_keeps}
use Rattle.machine.proofs.Marks.{Still, Moved, Marked, advance_marked}
use Rattle.machine.specs.Step.{seen_in, seen_of, put_back, refused_step, taken_of, step_of}
use Rattle.machine.specs.declared.Stepped.{Stepped}

-- A step is refused, or it is the step of one of the processes of a well-formed table.
by_case : (t : Table) (i : ℕ) (P : Stepped → Type 0)
    → ((stop : Stop) → (stop ≡ no_refusal → ⊥) → P (refused_step t stop))
    → (well_formed t ≡ true → 1 ≤ i → i ≤ t.n → P (taken_of t i))
    → P (step_of t i)
unfolding step_of
by_case t i P refused taken =
    by_test P (well_formed t)
    (λ w. by_test P (within 1 t.n i)
    (λ b. taken w (within_low 1 t.n i b) (within_high 1 t.n i b))
    (λ _. refused bad_process_number (λ q. cc)))
    (λ _. refused not_well_formed (λ q. cc))

-- The two cases of a well-formed table: the number of one of its processes, and any other.
module _ (t : Table) (i : ℕ) (w : well_formed t ≡ true) where
  pub step_taken : within 1 t.n i ≡ true → step_of t i ≡ taken_of t i
  unfolding step_of
  step_taken p = rw (w, p)

  pub step_bad_number : within 1 t.n i ≡ false → step_of t i ≡ refused_step t bad_process_number
  unfolding step_of
  step_bad_number p = rw (w, p)

-- the step of process i, over its own row
abbrev advanced : Table → ℕ → Advanced
advanced t i = advance_of t.algorithm t.n i (seen_of t i) (row_of t i)

-- A row is taken out of a table, advanced and put back, over plain values: p is the place of process i, q that of the process at its index,
-- s what is seen there, and a what comes of the row. `step` does it, and so does whoever takes byte after byte of a schedule.
pub out_and_back : (t : Table) (i : ℕ) {p q : ℕ} {s : Seen} {a : Advanced} → p ≡ i - 1
    → q ≡ (get_or t.rows p no_row).core.index - 1
    → s ≡ seen_in t.x (get_or t.rows q no_row).core
    → a ≡ advance_of t.algorithm t.n i s (get_or t.rows p no_row)
    → taken_of t i
    ≡ record {
      table = record { algorithm = t.algorithm; n = t.n; x = a.x; rows = set t.rows p a.row };
      mark = a.mark;
      stop = a.stop;
    }
unfolding taken_of
out_and_back t i own other seen advanced = rw (advanced, seen, other, own)

-- The rows after row i is put back: row i is the one that was put, and the others are as they were.
module _ (t : Table) (i : ℕ) (a : Advanced) (low : 1 ≤ i) where
  row_put : i ≤ length t.rows → row_of (put_back t i a) i ≡ a.row
  row_put high = get_or-set_same t.rows (i - 1) a.row no_row (omega arith)

  row_other : (j : ℕ) → 1 ≤ j → (j ≡ i → ⊥) → row_of (put_back t i a) j ≡ row_of t j
  row_other j l o = get_or-set_other t.rows (i - 1) (j - 1) a.row no_row (λ q. o (omega arith))

  -- so that what holds of the row put and of each row before holds of each row after
  each_row : (P : ℕ → Row → Type 0) → i ≤ length t.rows → P i a.row
      → (j : ℕ) → 1 ≤ j → P j (row_of t j) → P j (row_of (put_back t i a) j)
  each_row P high put j l kept = by_number (ℕ_discrete j i)
    where
      by_number : Dec (j ≡ i) → P j (row_of (put_back t i a) j)
      by_number (yes q) = rw (q, row_put high) put
      by_number (no o) = rw (row_other j l o) kept

-- what a process of a well-formed table sees
sees : (t : Table) (i : ℕ) → well_formed t ≡ true → Sees t.algorithm t.n i (seen_of t i) (row_of t i)
sees t i w =
    let rules = table_rules t w in
    record {
      token = λ l h. token_range (limit_of t.algorithm t.n) _ _ (rules.rows (row_of t i).core.index l (omega arith)).core.token;
      own = λ q. rw q;
      x = rules.x;
    }

-- The step of a process of a well-formed table keeps the rules of the table, and its sizes.
module _ (t : Table) (i : ℕ) (w : well_formed t ≡ true) (z : Sized t) (low : 1 ≤ i) (high : i ≤ t.n) where
  kept : Kept t.algorithm t.n i (advanced t i)
  kept =
      let rules = table_rules t w in
      advance_keeps rules.some rules.most high (rules.rows i low (omega arith)) (z.cells i low (omega arith)) (sees t i w)

  taken_well_formed : well_formed (taken_of t i).table ≡ true
  unfolding taken_of
  taken_well_formed =
      let rules = table_rules t w in
      well_formed_lem _
      (record {
        algorithm = rules.algorithm;
        some = rules.some;
        most = rules.most;
        x = kept.x;
        rows = λ j l h. each_row t i (advanced t i) low (RowRules (top_of t.algorithm t.n) t.n) (omega arith) kept.rules j l
            (rules.rows j l h);
      })

  taken_sized : Sized (taken_of t i).table
  unfolding taken_of
  taken_sized =
      let rules = table_rules t w in
      record {
        rows = length-set t.rows (i - 1) (advanced t i).row ∙ z.rows;
        cells = λ j l h. each_row t i (advanced t i) low (λ _ (r : Row). length r.cells ≡ slots) (omega arith) kept.cells j l
            (z.cells j l h);
      }

module _ (t : Table) (i : ℕ) where
  -- a step keeps the machine
  pub step_machine : ((step_of t i).table.algorithm ≡ t.algorithm) × ((step_of t i).table.n ≡ t.n)
  unfolding taken_of
  step_machine =
      by_case t i (λ (u : Stepped). (u.table.algorithm ≡ t.algorithm) × (u.table.n ≡ t.n))
      (λ _ _. (refl, refl)) (λ _ _ _. (refl, refl))

  -- the rules of the table
  pub step_well_formed : well_formed t ≡ true → Sized t → well_formed (step_of t i).table ≡ true
  step_well_formed w z =
      by_case t i (λ (u : Stepped). well_formed u.table ≡ true) (λ _ _. w) (λ _. taken_well_formed t i w z)

  -- and its sizes
  pub step_sized : Sized t → Sized (step_of t i).table
  step_sized z = by_case t i (λ (u : Stepped). Sized u.table) (λ _ _. z) (λ w. taken_sized t i w z)

  -- what the mark says of the row says it of the table
  marked : Marked (seen_of t i) (row_of t i) (advanced t i)
  marked = advance_marked (seen_of t i) (row_of t i) t.algorithm t.n i

  pub step_mark : ((step_of t i).mark ≡ 0) ⊎ ((step_of t i).mark ≡ 1)
  unfolding taken_of
  step_mark =
      by_case t i (λ (u : Stepped). (u.mark ≡ 0) ⊎ (u.mark ≡ 1)) (λ _ _. inl refl)
      (λ _ _ _. ⊎_elim (λ s. inl s.mark) (λ m. inr m.mark) marked)

  pub step_mark_most : (step_of t i).mark ≤ 1
  step_mark_most = ⊎_elim (λ e. omega (arith, e)) (λ e. omega (arith, e)) step_mark

  -- "1 if the table changed and 0 if not"
  pub step_unmarked : (step_of t i).mark ≡ 0 → (step_of t i).table ≡ t
  unfolding taken_of
  step_unmarked =
      by_case t i (λ (u : Stepped). u.mark ≡ 0 → u.table ≡ t) (λ _ _ _. refl)
      (λ _ _ _ e. ⊎_elim put_still (λ m. absurd (omega (arith, m.mark, e))) marked)
    where
      put_still : Still (seen_of t i) (row_of t i) (advanced t i) → put_back t i (advanced t i) ≡ t
      put_still s =
          let rows : set t.rows (i - 1) (advanced t i).row ≡ t.rows = rw s.row (set-get_or t.rows (i - 1) no_row) in
          λ at. record { algorithm = t.algorithm; n = t.n; x = s.x at; rows = rows at }

  pub step_marked : Sized t → (step_of t i).mark ≡ 1 → (step_of t i).table ≡ t → ⊥
  unfolding taken_of
  step_marked z =
      by_case t i (λ (u : Stepped). u.mark ≡ 1 → u.table ≡ t → ⊥) (λ _ _ e _. omega arith)
      (λ w l h e q. ⊎_elim (λ s. omega (arith, s.mark)) (put_moved (table_rules t w) l h q) marked)
    where
      put_moved : TableRules t → 1 ≤ i → i ≤ t.n → put_back t i (advanced t i) ≡ t → Moved (row_of t i) (advanced t i) → ⊥
      put_moved rules l h q m =
          let put = row_put t i (advanced t i) l (omega arith) in
          let same : (advanced t i).row ≡ row_of t i = sym put ∙ ap (λ (u : Table). row_of u i) q in
          m.apart (ap (λ (r : Row). r.core.line) same) (ap (λ (r : Row). r.core.index) same)

  -- a refused step changes nothing
  pub step_refused : ((step_of t i).stop ≡ no_refusal → ⊥) → (step_of t i).mark ≡ 0
  unfolding taken_of
  step_refused =
      by_case t i (λ (u : Stepped). (u.stop ≡ no_refusal → ⊥) → u.mark ≡ 0) (λ _ _ _. refl)
      (λ _ _ _ f. ⊎_elim (λ s. s.mark) (λ m. absurd (f m.stop)) marked)

  -- and one that is not refused is the step of a process of a well-formed table
  pub step_process : (step_of t i).stop ≡ no_refusal → (well_formed t ≡ true) × (1 ≤ i) × (i ≤ t.n)
  step_process =
      by_case t i (λ (u : Stepped). u.stop ≡ no_refusal → (well_formed t ≡ true) × (1 ≤ i) × (i ≤ t.n))
      (λ _ f e. absurd (f e)) (λ w l h _. (w, l, h))
