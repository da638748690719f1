-- The model: n processes, each at one of the ten lines of source 002's Figure 2, and one step of one of them. A step is as small as
-- document 01's: line 2 reads one token at a time.
use Prim.Native.Nat.{ℕ, suc}
use mathlib.Core.Bool.{Bool, true, false, cond, not, ◌||◌}
use lib.Dec.{leb, eqb}
use Rattle.theory.proofs.Tokens.{Token, none, held, Machine}

-- where a process stands: its line, with the index where the line has one
pub data Place : Type 0 where
  at1 : Place
  at2 : ℕ → Place
  at3 at4 at5 : Place
  at6 at7 : ℕ → Place
  at8 at9 at10 : Place

-- one process. What it reads it keeps until line 4: in cell k the token of process k (source 002's S), and X as the pivot
pub record Row : Type 0 where
  pub place : Place
  pub token : Token
  pub pivot : Token
  pub cell : ℕ → Token

pub record State : Type 0 where
  pub x : Token
  pub row : ℕ → Row

-- in the beginning X is 0, and each process is at line 1 with no token
abbrev pub fresh : State
fresh = record { x = held 0; row = λ _. record { place = at1; token = none; pivot = none; cell = λ _. none } }

-- the choosing flag, which source 002 calls gettoken: set at lines 2 to 5
abbrev pub is_choosing : Place → Bool
is_choosing at1 = false
is_choosing (at2 j) = true
is_choosing at3 = true
is_choosing at4 = true
is_choosing at5 = true
is_choosing (at6 j) = false
is_choosing (at7 j) = false
is_choosing at8 = false
is_choosing at9 = false
is_choosing at10 = false

-- a function with the value a at i, and a state with row i and X put anew
abbrev pub set : {A : Type 0} → (ℕ → A) → ℕ → A → ℕ → A
set f i a k = cond (eqb k i) a (f k)

abbrev pub put : State → ℕ → Token → Row → State
put s i x r = record { x = x; row = set s.row i r }

-- the row at another place, and else as it was
abbrev pub goes : Place → Row → Row
goes p r = record { place = p; token = r.token; pivot = r.pivot; cell = r.cell }

-- where a process stands after it has read cell j of n
abbrev pub after_cell : ℕ → ℕ → Place
after_cell n j = cond (eqb j n) at3 (at2 (suc j))

-- the next number above j that is not i
abbrev pub next_other : ℕ → ℕ → ℕ
next_other i j = cond (eqb (suc j) i) (suc (suc j)) (suc j)

-- where process i of n goes on after j: to line 6 for that number, or to line 8 if no process has it
abbrev pub goes_on : ℕ → ℕ → ℕ → Place
goes_on n i j = cond (leb (next_other i j) n) (at6 (next_other i j)) at8

-- whether process i passes process j at line 7, by the tokens of both
abbrev pub passes : Machine → ℕ → Token → ℕ → Token → Bool
passes m i t j u = eqb u none || m.goes_before i t j u

-- whether the step of process i, standing at a place, moves; else it waits, at line 6 or 7
abbrev pub moves_at : Machine → State → ℕ → Place → Bool
moves_at m s i at1 = true
moves_at m s i (at2 j) = true
moves_at m s i at3 = true
moves_at m s i at4 = true
moves_at m s i at5 = true
moves_at m s i (at6 j) = not (is_choosing (s.row j).place)
moves_at m s i (at7 j) = passes m i (s.row i).token j (s.row j).token
moves_at m s i at8 = true
moves_at m s i at9 = true
moves_at m s i at10 = true

abbrev pub moves : Machine → State → ℕ → Bool
moves m s i = moves_at m s i (s.row i).place

-- the row of process i after the step, if it moves: lines 1 to 10
abbrev pub row_after : ℕ → Machine → State → ℕ → Place → Row
row_after others m s i at1 = goes (at2 1) (s.row i)
row_after others m s i (at2 j) = record {
  place = after_cell (suc others) j;
  token = (s.row i).token;
  pivot = (s.row i).pivot;
  cell = set (s.row i).cell j (s.row j).token;
}
row_after others m s i at3 = record { place = at4; token = (s.row i).token; pivot = s.x; cell = (s.row i).cell }
row_after others m s i at4 = record { place = at5; token = m.next (s.row i).pivot (s.row i).cell; pivot = none; cell = λ _. none }
row_after others m s i at5 = goes (goes_on (suc others) i 0) (s.row i)
row_after others m s i (at6 j) = goes (at7 j) (s.row i)
row_after others m s i (at7 j) = goes (goes_on (suc others) i j) (s.row i)
row_after others m s i at8 = goes at9 (s.row i)
row_after others m s i at9 = goes at10 (s.row i)
row_after others m s i at10 = record { place = at1; token = none; pivot = (s.row i).pivot; cell = (s.row i).cell }

-- X after it: line 8 writes the token there
abbrev pub x_after : State → ℕ → Place → Token
x_after s i at1 = s.x
x_after s i (at2 j) = s.x
x_after s i at3 = s.x
x_after s i at4 = s.x
x_after s i at5 = s.x
x_after s i (at6 j) = s.x
x_after s i (at7 j) = s.x
x_after s i at8 = (s.row i).token
x_after s i at9 = s.x
x_after s i at10 = s.x

-- the state after it
abbrev pub moved : ℕ → Machine → State → ℕ → State
moved others m s i = put s i (x_after s i (s.row i).place) (row_after others m s i (s.row i).place)

-- one step of process i
abbrev pub step : ℕ → Machine → State → ℕ → State
step others m s i = cond (moves m s i) (moved others m s i) s
