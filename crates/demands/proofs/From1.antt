-- Laws of `from1`: elements counted from 1, looked up and put anew. So the rows and cells of a table are those of its view, and the view of
-- a fresh table is the fresh state.
use Prim.Native.Nat.{ℕ, zero, suc, ◌-◌, ◌<◌, ◌≤◌}
use mathlib.Core.Path.{◌≡◌, refl, sym, ap, ◌∙◌, subst, fun_ext}
use mathlib.Core.List.{List, [], ◌∷◌, map}
use native.Mathlib.Omega.{arith}
use borrow.Author.Tests.{eq-eqb, ne_eqb}
use lib.Dec.{eqb}
use lib.IntN.{ℤ}
use lib.ListN.{length, get_or, replicate, get_or-eq_default, get_or-map}
use lib.ListN as list
use lib.Seq.{get_or-set_same, get_or-set_other}
use Rattle.laws.proofs.Tests.{by_order, by_equality, of_choice}
use Rattle.fields.specs.Numbers.{slots, none}
use Rattle.table.specs.WellFormed.{row_of, cell_of}
use Rattle.table.specs.Fresh.{all_none, fresh_row, fresh_table}
use Rattle.table.specs.Sized.{Sized}
use Rattle.table.specs.declared.Row.{Row}
use Rattle.table.specs.declared.Table.{Table}
use Rattle.theory.proofs.Tokens.{Token}
use Rattle.theory.proofs.Tokens as theory
use Rattle.theory.proofs.Model.{at1, set, fresh}
use Rattle.theory.proofs.Model as model
use Rattle.demands.proofs.Views.{token_of, from1, cells_view, row_view, view}

-- within a list it does not matter what stands for what is past its end
whatever_past : {A : Type 0} (d e : A) (l : List A) (k : ℕ) → k < length l → get_or l k d ≡ get_or l k e
whatever_past d e [] k within = absurd (omega arith)
whatever_past d e (a ∷ l) zero within = refl
whatever_past d e (a ∷ l) (suc k) within = whatever_past d e l k (omega arith)

module _ {A : Type 0} (d : A) where
  -- within the list it is the element, whatever stands for what is past its end
  from1_within : (past : A) (l : List A) (k : ℕ) → 1 ≤ k → k ≤ length l → get_or l (k - 1) past ≡ from1 d l k
  from1_within past l zero low high = absurd (omega arith)
  from1_within past l (suc k) low high = let off : suc k - 1 ≡ k = omega arith in rw off (whatever_past past d l k high)

  -- and past the end it is d
  from1_past : (l : List A) (k : ℕ) → length l < k → from1 d l k ≡ d
  from1_past l zero past = refl
  from1_past l (suc k) past = get_or-eq_default l d (omega arith)

  -- as it is everywhere in copies of d
  from1_copies : (many k : ℕ) → from1 d (replicate many d) k ≡ d
  from1_copies many zero = refl
  from1_copies zero (suc k) = refl
  from1_copies (suc many) (suc zero) = refl
  from1_copies (suc many) (suc (suc k)) = from1_copies many (suc k)

  -- an element put anew is the function set there
  from1_set : (l : List A) (k : ℕ) (a : A) → 1 ≤ k → k ≤ length l → from1 d (list.set l (k - 1) a) ≡ set (from1 d l) k a
  from1_set l k a low high = fun_ext each
    where
      each : (j : ℕ) → from1 d (list.set l (k - 1) a) j ≡ set (from1 d l) k a j
      each zero = rw (ne_eqb 0 k (omega arith))
      each (suc j) =
          by_equality (suc j) k
          (λ same.
          let here : k - 1 ≡ j = omega arith in
          rw (eq-eqb (suc j) k same, here) (get_or-set_same l j a d (omega arith)))
          (λ other. rw (ne_eqb (suc j) k other) (get_or-set_other l (k - 1) j a d (λ here. other (omega arith))))

  -- and so it is through a view f of the elements
  pub from1_set_view : {B : Type 0} (f : A → B) (l : List A) (k : ℕ) (a : A) → 1 ≤ k → k ≤ length l
      → (λ j. f (from1 d (list.set l (k - 1) a) j)) ≡ set (λ j. f (from1 d l j)) k (f a)
  from1_set_view f l k a low high =
      fun_ext (λ j. ap (λ (at : ℕ → A). f (at j)) (from1_set l k a low high) ∙ of_choice f (eqb j k) a (from1 d l j))

-- an element of a list that f was mapped over
pub from1_map : {A : Type 0} (d : A) (f : A → A) → f d ≡ d → (l : List A) (k : ℕ) → from1 d (map f l) k ≡ f (from1 d l k)
from1_map d f keeps l zero = sym keeps
from1_map d f keeps l (suc k) = ap (get_or (map f l) k) (sym keeps) ∙ get_or-map f l k d

-- row i of a table and cell j of a row, as document 01's definitions look them up
pub row_from1 : (t : Table) → Sized t → (i : ℕ) → 1 ≤ i → i ≤ slots → row_of t i ≡ from1 fresh_row t.rows i
row_from1 t z i low high = from1_within fresh_row _ t.rows i low (omega (arith, z.rows))

pub cell_from1 : (r : Row) → length r.cells ≡ slots → (j : ℕ) → 1 ≤ j → j ≤ slots → cell_of r j ≡ from1 none r.cells j
cell_from1 r wide j low high = from1_within none _ r.cells j low (omega arith)

-- what holds of -1 and of each cell of a row holds wherever a cell is looked up
pub each_cell : (P : ℤ → Type 0) (r : Row) → length r.cells ≡ slots → P none
    → (j : ℕ) → (1 ≤ j → j ≤ slots → P (cell_of r j)) → P (from1 none r.cells j)
each_cell P r wide nothing zero cell = nothing
each_cell P r wide nothing (suc j) cell =
    by_order (suc j) slots
    (λ high. subst P (cell_from1 r wide (suc j) (omega arith) high) (cell (omega arith) high))
    (λ past. subst P (sym (from1_past none r.cells (suc j) (omega arith))) nothing)

-- the view of cells that are all -1, and of a fresh table
pub all_none_view : cells_view all_none ≡ (λ _. theory.none)
all_none_view = fun_ext (λ j. ap token_of (from1_copies none slots j))

pub fresh_view : (algorithm n : ℕ) → view (fresh_table algorithm n) ≡ fresh
fresh_view algorithm n = ap (λ (row : ℕ → model.Row). record { x = fresh.x; row = row }) (fun_ext each)
  where
    each : (i : ℕ) → row_view (from1 fresh_row (replicate slots fresh_row) i) ≡ fresh.row i
    each i =
        ap row_view (from1_copies fresh_row slots i)
        ∙ ap (λ (cell : ℕ → Token). record { place = at1; token = theory.none; pivot = theory.none; cell = cell }) all_none_view
