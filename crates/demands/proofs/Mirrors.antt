-- A bounded table beside the theory: it shows, on remainders, what the theory's unbounded machine has come to over the same bytes. That
-- machine has no limit of tokens, so this holds for ever.
use Prim.Native.Nat.{ℕ, suc, ◌-◌, ◌≤◌}
use mathlib.Core.Path.{◌≡◌, refl, sym, ap, subst, ◌∙◌}
use mathlib.Core.Bool.{Bool, true, cond}
use mathlib.Core.List.{List}
use native.Mathlib.Omega.{arith}
use Rattle.fields.specs.Numbers.{bounded}
use Rattle.fields.specs.Refusals.{no_refusal}
use Rattle.fields.specs.Rules.{count_ok}
use Rattle.table.specs.Fresh.{fresh_table}
use Rattle.table.specs.declared.Table.{Table}
use Rattle.machine.specs.Step.{step_of}
use Rattle.machine.proofs.Steps.{step_process}
use Rattle.courses.proofs.Courses.{Keeps, course_keeps}
use Rattle.machine.specs.Run.{tables, course_of}
use Rattle.theory.proofs.Counting.{Process}
use Rattle.theory.proofs.Tokens.{unbounded_machine}
use Rattle.theory.proofs.Model.{State, fresh, moves, step}
use Rattle.theory.proofs.Mirrors.{moves_alike, step_mirrors, bounded_exclusion}
use Rattle.theory.proofs.Mirrors as theory
use Rattle.demands.specs.Agreement.{at_most_one}
use Rattle.demands.proofs.Views.{view}
use Rattle.demands.proofs.From1.{fresh_view}
use Rattle.demands.proofs.Tables.{TableFor, fresh_table_for, step_table_for}
use Rattle.demands.proofs.StepViews.{StepSeen, step_seen, bounded_accepts}
use Rattle.demands.proofs.Agreement.{at_most_one_view}

-- the bounded table b for n processes shows the remainders of the unbounded machine's state s
pub record Mirrors (n : ℕ) (b : Table) (s : State) : Type 0 where
  pub table : TableFor bounded n b
  pub state : theory.Mirrors (n - 1) (view b) s

-- as the fresh table does of the fresh state
pub fresh_mirrors : (n : ℕ) → count_ok n ≡ true → Mirrors n (fresh_table bounded n) fresh
fresh_mirrors n c =
    record {
      table = fresh_table_for bounded n refl c;
      state = subst (λ (shown : State). theory.Mirrors (n - 1) shown fresh) (sym (fresh_view bounded n)) (theory.fresh_mirrors (n - 1));
    }

-- Both take a step of process i.
module _ (n : ℕ) (b : Table) (s : State) (m : Mirrors n b s) (i : ℕ) (low : 1 ≤ i) (high : i ≤ n) where
  process : Process (suc (n - 1)) i
  process = record { low = low; high = omega arith }

  -- the table's is not refused,
  pub mirror_accepts : (step_of b i).stop ≡ no_refusal
  mirror_accepts = bounded_accepts b i m.table low high

  seen : StepSeen bounded n b i
  seen = step_seen b i m.table mirror_accepts

  -- has the mark of the state's,
  pub mirror_mark : (step_of b i).mark ≡ cond (moves (unbounded_machine (n - 1)) s i) 1 0
  mirror_mark = seen.mark ∙ ap (λ (can : Bool). cond can 1 0) (moves_alike (n - 1) (view b) s m.state i process)

  -- and leaves a table that shows what the state's leaves
  pub mirror_step : Mirrors n (step_of b i).table (step (n - 1) (unbounded_machine (n - 1)) s i)
  mirror_step =
      let next = step (n - 1) (unbounded_machine (n - 1)) s i in
      let mirrored = step_mirrors (n - 1) (view b) s m.state i process in
      record {
        table = step_table_for b i m.table;
        state = subst (λ (shown : State). theory.Mirrors (n - 1) shown next) (sym seen.table) mirrored;
      }

-- At such a table at most one process stands at lines 8 to 10.
pub mirror_at_most_one : (n : ℕ) (b : Table) (s : State) → Mirrors n b s → at_most_one b ≡ true
mirror_at_most_one n b s m = at_most_one_view n b m.table (bounded_exclusion (n - 1) (view b) s m.state)

-- a table that shows some state
pub record Mirror (n : ℕ) (b : Table) : Type 0 where
  pub state : State
  pub mirrors : Mirrors n b state

-- a step that is taken keeps it so,
mirror_keeps : (n : ℕ) → Keeps tables (Mirror n)
mirror_keeps n b i taken m =
    let (formed, low, high) = step_process b i taken in
    record {
      state = step (n - 1) (unbounded_machine (n - 1)) m.state i;
      mirrors = mirror_step n b m.state m.mirrors i low (omega (arith, m.mirrors.table.count, high));
    }

-- and so does every schedule
pub mirror_course : (n : ℕ) (b : Table) (schedule : List ℕ) → Mirror n b → Mirror n (course_of b schedule).table
mirror_course n = course_keeps tables (Mirror n) (mirror_keeps n)
