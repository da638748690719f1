-- Document 01, "A run", over any machine: the steps of a schedule one after another, and what is counted of them. A crate that runs tables
-- of its own kind says what their machine is, and at which line it has its entry.
use Rattle.std.specs.Prelude.{ℕ, Bool, cond, List, [], ◌∷◌, ◌++◌, map, eqb, length}
use Rattle.fields.specs.Refusals.{Stop, no_refusal, is_accepted}

-- A machine over tables T: the table after a step of process i, the mark and the stop number of the step, and the line at which process i
-- stands. (The theory's `Machine` is another: the next token, and who goes before.)
pub record Machine (T : Type 0) : Type 0 where
  pub after : T → ℕ → T
  pub mark : T → ℕ → ℕ
  pub stop : T → ℕ → Stop
  pub line : T → ℕ → ℕ

-- A byte that is taken: the process, the line at which it stood, and the mark of its step.
pub record Turn : Type 0 where
  pub process : ℕ
  pub line : ℕ
  pub mark : ℕ

-- What comes of a schedule: its bytes that are taken, in order, the last table, and the stop number.
pub record Course (T : Type 0) : Type 0 where
  pub turns : List Turn
  pub table : T
  pub stop : Stop

-- a course that is nothing but its table: no byte is taken
abbrev pub stands_at : {T : Type 0} → T → Stop → Course T
stands_at t stop = record { turns = []; table = t; stop = stop }

-- a course begun by some turns
abbrev pub begun_by : {T : Type 0} → List Turn → Course T → Course T
begun_by turns c = record { turns = turns ++ c.turns; table = c.table; stop = c.stop }

module _ {T : Type 0} (m : Machine T) where
  -- the turn of process i, where its step is taken
  abbrev pub turn_on : T → ℕ → Turn
  turn_on t i = record { process = i; line = m.line t i; mark = m.mark t i }

  -- "The run takes them in order and stops at the first byte refused." "4 and 5 of run keep the steps and entries before that byte."
  unfoldable pub course_on : T → List ℕ → Course T
  course_on t [] = stands_at t no_refusal
  course_on t (i ∷ later) =
      cond (is_accepted (m.stop t i)) (begun_by (turn_on t i ∷ []) (course_on (m.after t i) later)) (stands_at t (m.stop t i))

-- The turns of which f holds.
unfoldable pub those : (Turn → Bool) → List Turn → List Turn
those f [] = []
those f (u ∷ us) = cond (f u) (u ∷ those f us) (those f us)

-- the process of each turn, in order
abbrev pub processes_of : List Turn → List ℕ
processes_of us = map (λ (u : Turn). u.process) us

-- "Moved is the count of taken bytes whose step changed the table"
abbrev pub changed : Turn → Bool
changed u = eqb u.mark 1

abbrev pub moved_in : List Turn → ℕ
moved_in us = length (those changed us)

-- "waited of those that did not"
abbrev pub unchanged : Turn → Bool
unchanged u = eqb u.mark 0

abbrev pub waited_in : List Turn → ℕ
waited_in us = length (those unchanged us)
