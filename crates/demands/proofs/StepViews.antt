-- A step of document 01 is the theory's step, seen through the view of the table; and the bounded machine refuses no step of a process.
use Prim.Native.Nat.{ℕ, ◌-◌, ◌≤◌}
use mathlib.Core.Path.{◌≡◌, refl, sym, ap, ◌∙◌, subst, fun_ext}
use mathlib.Core.Bool.{Bool, true, false, cond, not}
use native.Mathlib.Omega.{arith}
use borrow.Author.Tests.{eqb-true}
use lib.Dec.{eqb}
use lib.IntN.{ℤ}
use lib.ListN as list
use Rattle.laws.proofs.Tests.{by_test, within_yes}
use Rattle.fields.specs.Numbers.{slots, bounded}
use Rattle.fields.specs.Refusals.{no_refusal}
use Rattle.table.specs.WellFormed.{row_of, well_formed}
use Rattle.table.specs.Fresh.{fresh_row}
use Rattle.table.specs.Sized.{Sized}
use Rattle.table.specs.declared.Core.{Core}
use Rattle.table.specs.declared.Row.{Row}
use Rattle.table.specs.declared.Table.{Table}
use Rattle.table.proofs.WellFormed.{table_rules}
use Rattle.machine.specs.Lines.{advance_of}
use Rattle.machine.specs.Step.{seen_of, taken_of, step_of}
use Rattle.machine.specs.declared.Stepped.{Stepped}
use Rattle.machine.proofs.Only.{only_4_refuses}
use Rattle.machine.proofs.Steps.{step_taken, step_process}
use Rattle.theory.proofs.Tokens.{Token}
use Rattle.theory.proofs.Model.{Place, State, is_choosing, set, put, moves, step}
use Rattle.theory.proofs.Model as model
use Rattle.demands.proofs.Views.{token_of, cells_view, row_view, view, machine_of}
use Rattle.demands.proofs.From1.{from1_set_view, row_from1}
use Rattle.demands.proofs.RowFacts.{token_from_none}
use Rattle.demands.proofs.Tables.{TableFor}
use Rattle.demands.proofs.CoreViews.{choosing_view, ShowsOther, Shows, Follows}
use Rattle.demands.proofs.RowViews.{advance_view}

-- to put what is there changes nothing, so a choice of what is put is a choice of states
put_same : (s : State) (i : ℕ) → put s i s.x (s.row i) ≡ s
put_same s i = ap (λ (row : ℕ → model.Row). record { x = s.x; row = row }) (fun_ext each)
  where
    each : (k : ℕ) → set s.row i (s.row i) k ≡ s.row k
    each k = by_test (λ (r : model.Row). r ≡ s.row k) (eqb k i) (λ e. ap s.row (sym (eqb-true k i e))) (λ _. refl)

put_choice : (s : State) (i : ℕ) (moves : Bool) (x : Token) (r : model.Row)
    → put s i (cond moves x s.x) (cond moves r (s.row i)) ≡ cond moves (put s i x r) s
put_choice s i true x r = refl
put_choice s i false x r = put_same s i

-- the view of a table in which a row and X are put back
view_put : (t : Table) (i : ℕ) (x : ℤ) (r : Row) → Sized t → 1 ≤ i → i ≤ slots
    → view (record { algorithm = t.algorithm; n = t.n; x = x; rows = list.set t.rows (i - 1) r })
    ≡ put (view t) i (token_of x) (row_view r)
view_put t i x r z low high =
    ap (λ (row : ℕ → model.Row). record { x = token_of x; row = row })
    (from1_set_view fresh_row row_view t.rows i r low (omega (arith, z.rows)))

-- The step of process i of a table, and its mark, are those of the theory's machine.
pub record StepSeen (algorithm n : ℕ) (t : Table) (i : ℕ) : Type 0 where
  pub table : view (step_of t i).table ≡ step (n - 1) (machine_of algorithm (n - 1)) (view t) i
  pub mark : (step_of t i).mark ≡ cond (moves (machine_of algorithm (n - 1)) (view t) i) 1 0

-- A step that is not refused, of a table that is well formed.
module _ (t : Table) (i : ℕ) (w : well_formed t ≡ true) (z : Sized t) (accepted : (step_of t i).stop ≡ no_refusal) where
  -- it is the step of a process
  low : 1 ≤ i
  low = (step_process t i accepted).1

  high : i ≤ t.n
  high = (step_process t i accepted).2

  taken : step_of t i ≡ taken_of t i
  taken = step_taken t i w (within_yes 1 t.n i low high)

  -- what it sees is in the view
  within_slots : {j : ℕ} → j ≤ t.n → j ≤ slots
  within_slots h = omega (arith, (table_rules t w).most)

  row_view_lem : (j : ℕ) → 1 ≤ j → j ≤ t.n → (view t).row j ≡ row_view (row_of t j)
  row_view_lem j l h = ap row_view (sym (row_from1 t z j l (within_slots h)))

  -- the core of the row of the process that the index names
  abbrev other : Core
  other = (row_of t (row_of t i).core.index).core

  shown : Shows t.n i (view t) t.x other (row_of t i).core (cells_view (row_of t i).cells)
  shown = record { own = row_view_lem i low high; shared = refl; named = named (row_of t i).core.index }
    where
      named : (j : ℕ) → 1 ≤ j → j ≤ t.n → ShowsOther (view t) j (row_of t j).core
      named j l h =
          let rules = ((table_rules t w).rows j l (within_slots h)).core in
          record {
            token = ap (λ (r : model.Row). r.token) (row_view_lem j l h);
            least = token_from_none _ _ _ rules.token;
            choosing = ap (λ (r : model.Row). not (is_choosing r.place)) (row_view_lem j l h) ∙ choosing_view rules;
          }

  -- so it leaves what the theory's step leaves, at the place that the row shows
  abbrev FollowsAt : Place → Type 0
  FollowsAt place =
      let a = advance_of t.algorithm t.n i (seen_of t i) (row_of t i) in
      Follows t.algorithm t.n i (view t) place (row_view a.row) a.x a.mark

  followed : FollowsAt ((view t).row i).place
  unfolding taken_of
  followed =
      let rules = table_rules t w in
      subst FollowsAt (ap (λ (r : model.Row). r.place) (sym shown.own))
      (advance_view t.algorithm t.n i (view t) t.x other (row_of t i) rules.some rules.most
      (z.cells i low (within_slots high)) shown (rules.rows i low (within_slots high))
      (ap (λ (u : Stepped). u.stop) (sym taken) ∙ accepted))

  step_view : view (step_of t i).table ≡ step (t.n - 1) (machine_of t.algorithm (t.n - 1)) (view t) i
  unfolding taken_of
  step_view =
      let a = advance_of t.algorithm t.n i (seen_of t i) (row_of t i) in
      ap (λ (u : Stepped). view u.table) taken
      ∙ view_put t i a.x a.row z low (within_slots high)
      ∙ (λ at. put (view t) i (followed.written at) (followed.row at))
      ∙ put_choice (view t) i (moves (machine_of t.algorithm (t.n - 1)) (view t) i) _ _

  mark_view : (step_of t i).mark ≡ cond (moves (machine_of t.algorithm (t.n - 1)) (view t) i) 1 0
  unfolding taken_of
  mark_view = ap (λ (u : Stepped). u.mark) taken ∙ followed.marked

-- The theorem: seen through the view, a step that is not refused is the step of the theory's machine of that algorithm, for that many
-- processes, and its mark is 1 just where that machine moves.
pub step_seen : {algorithm n : ℕ} (t : Table) (i : ℕ) → TableFor algorithm n t → (step_of t i).stop ≡ no_refusal → StepSeen algorithm n t i
step_seen {algorithm} t i for accepted =
    subst (λ (n : ℕ). StepSeen algorithm n t i) for.count
    (subst (λ (a : ℕ). StepSeen a t.n t i) for.machine
    (record { table = step_view t i for.formed for.sized accepted; mark = mark_view t i for.formed for.sized accepted }))

-- The bounded machine refuses no step of a process: line 4 alone refuses, and that a token of the unbounded one.
pub bounded_accepts : {n : ℕ} (t : Table) (i : ℕ) → TableFor bounded n t → 1 ≤ i → i ≤ n → (step_of t i).stop ≡ no_refusal
unfolding taken_of advance_of
bounded_accepts t i for low high =
    ap (λ (u : Stepped). u.stop) (step_taken t i for.formed (within_yes 1 t.n i low (omega (arith, for.count))))
    ∙ rw for.machine (only_4_refuses bounded t.n i _ (seen_of t i) (row_of t i).core (λ _. refl))
