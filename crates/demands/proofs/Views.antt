-- The view of a table of document 01 as a state of the theory. Here alone the sixteen rows of sixteen cells become rows and cells for every
-- number.
use Prim.Native.Nat.{ℕ, zero, suc}
use mathlib.Core.Bool.{cond}
use mathlib.Core.List.{List}
use lib.Dec.{eqb}
use lib.IntN.{ℤ, pos, negsuc}
use lib.ListN.{get_or}
use Rattle.fields.specs.Numbers.{unbounded, none}
use Rattle.table.specs.Fresh.{fresh_row}
use Rattle.table.specs.declared.Core.{Core}
use Rattle.table.specs.declared.Row.{Row}
use Rattle.table.specs.declared.Table.{Table}
use Rattle.theory.proofs.Tokens.{Token, held, Machine, unbounded_machine, bounded_machine}
use Rattle.theory.proofs.Tokens as theory
use Rattle.theory.proofs.Model.{Place, at1, at2, at3, at4, at5, at6, at7, at8, at9, at10, State}
use Rattle.theory.proofs.Model as model

-- -1 is none; no other number of a table is below 0
abbrev pub token_of : ℤ → Token
token_of (pos v) = held v
token_of (negsuc _) = theory.none

-- a line, with the index where the line has one; no well-formed row stands at a line other than 1 to 10
abbrev pub place_of : ℕ → ℕ → Place
place_of line index =
    cond (eqb line 2) (at2 index)
    (cond (eqb line 3) at3
    (cond (eqb line 4) at4
    (cond (eqb line 5) at5
    (cond (eqb line 6) (at6 index)
    (cond (eqb line 7) (at7 index)
    (cond (eqb line 8) at8
    (cond (eqb line 9) at9
    (cond (eqb line 10) at10
    at1))))))))

-- the element k of a list, counted from 1, and d where there is none
abbrev pub from1 : {A : Type 0} → A → List A → ℕ → A
from1 d l zero = d
from1 d l (suc k) = get_or l k d

-- What the read cells of a row show; what a core shows, beside cells that show this; a row; a table.
abbrev pub cells_view : List ℤ → ℕ → Token
cells_view cells j = token_of (from1 none cells j)

abbrev pub core_view : Core → (ℕ → Token) → model.Row
core_view c cell = record {
  place = place_of c.line c.index;
  token = token_of c.token;
  pivot = token_of c.pivot;
  cell = cell;
}

abbrev pub row_view : Row → model.Row
row_view r = core_view r.core (cells_view r.cells)

abbrev pub view : Table → State
view t = record { x = token_of t.x; row = λ i. row_view (from1 fresh_row t.rows i) }

-- the theory's machine of an algorithm, for `suc others` processes
abbrev pub machine_of : ℕ → ℕ → Machine
machine_of algorithm others = cond (eqb algorithm unbounded) (unbounded_machine others) (bounded_machine others)
