-- Document 01, "One step of process i": line by line, over the core of the process's row, what the step sees of the others, and the next
-- token, which line 4 alone asks for; and what the row keeps of the tokens that it saw.
use Rattle.std.specs.Prelude.{ℕ, ◌+◌, ◌-◌, Bool, cond, ◌&&◌, ◌||◌, List, leb, eqb, ℤ, set}
use Rattle.fields.specs.Numbers.{none, is_none}
use Rattle.fields.specs.Refusals.{Stop, no_refusal, above_token_limit}
use Rattle.table.specs.Fresh.{all_none}
use Rattle.table.specs.declared.Core.{Core}
use Rattle.table.specs.declared.Row.{Row}
use Rattle.tokens.specs.Tokens.{next_token, goes_before}
use Rattle.tokens.specs.Answers.{is_above_limit}
use Rattle.machine.specs.Setters.{with_line, with_index, with_choosing, with_token, with_pivot}
use Rattle.machine.specs.declared.Seen.{Seen}
use Rattle.machine.specs.declared.Went.{Went}

-- What a step answers: "a mark that is 1 if the table changed and 0 if not, and a stop number, 0 if none".

-- the core changed, X too where it is written. That the mark is 1 just where the table changed is said by the laws `step_marked` and
-- `step_unmarked` (`crates/machine/proofs/Steps.antt`).
abbrev pub moves : ℤ → Core → Went
moves x c = record { core = c; x = x; mark = 1; stop = no_refusal }

-- "A step that waits changes nothing."
abbrev pub waits : Seen → Core → Went
waits s c = record { core = c; x = s.x; mark = 0; stop = no_refusal }

-- a step that is refused changes nothing either
abbrev pub refuses : Stop → Seen → Core → Went
refuses stop s c = record { core = c; x = s.x; mark = 0; stop = stop }

-- "the next larger number other than i"; after 0, "the smallest number other than i"
unfoldable pub next_other : ℕ → ℕ → ℕ
next_other i j = cond (eqb (j + 1) i) (j + 2) (j + 1)

-- "the index becomes" that number "and line 6, or, if there is none, index 0 and line 8"
unfoldable pub goes_on : ℕ → ℕ → ℕ → Core → Core
goes_on n i j c =
    cond (leb (next_other i j) n) (with_line 6 (with_index (next_other i j) c)) (with_line 8 (with_index 0 c))

-- 1: "choosing becomes 1, index 1, line 2."
abbrev pub line1 : Seen → Core → Went
line1 s c = moves s.x (with_line 2 (with_index 1 (with_choosing 1 c)))

-- 2, index j: "read cell j takes token j", which is in `cells_after`. "Then index j + 1, or, if j = n, index 0 and line 3."
unfoldable pub line2 : ℕ → Seen → Core → Went
line2 n s c =
    cond (eqb c.index n) (moves s.x (with_line 3 (with_index 0 c))) (moves s.x (with_index (c.index + 1) c))

-- 3: "pivot takes X; line 4."
abbrev pub line3 : Seen → Core → Went
line3 s c = moves s.x (with_line 4 (with_pivot s.x c))

-- 4: "token takes the next token (below); pivot and read cells become -1; line 5.", the cells in `cells_after`
unfoldable pub line4 : ℕ → ℤ → Seen → Core → Went
line4 algorithm next s c =
    cond (is_above_limit algorithm next) (refuses above_token_limit s c)
    (moves s.x (with_line 5 (with_pivot none (with_token next c))))

-- 5: "choosing becomes 0. Index becomes the smallest number other than i and line 6; if n = 1, index 0 and line 8."
unfoldable pub line5 : ℕ → ℕ → Seen → Core → Went
line5 n i s c = moves s.x (goes_on n i 0 (with_choosing 0 c))

-- 6, index j: "if choosing j is 0, line 7 with the same index; else the step waits."
unfoldable pub line6 : Seen → Core → Went
line6 s c = cond (eqb s.choosing 0) (moves s.x (with_line 7 c)) (waits s c)

-- "token j is -1 or i goes before j"
abbrev pub passes : ℕ → ℕ → ℕ → Seen → Core → Bool
passes algorithm n i s c = is_none s.token || goes_before algorithm n i c.token c.index s.token

-- 7, index j: "if token j is -1 or i goes before j, the index becomes the next larger number other than i and line 6, or, if there is
-- none, index 0 and line 8; else the step waits."
unfoldable pub line7 : ℕ → ℕ → ℕ → Seen → Core → Went
line7 algorithm n i s c = cond (passes algorithm n i s c) (moves s.x (goes_on n i c.index c)) (waits s c)

-- 8: "X takes the token; line 9. This step is the entry."
abbrev pub line8 : Core → Went
line8 c = moves c.token (with_line 9 c)

-- 9: "line 10."
abbrev pub line9 : Seen → Core → Went
line9 s c = moves s.x (with_line 10 c)

-- 10: "token becomes -1; line 1."
abbrev pub line10 : Seen → Core → Went
line10 s c = moves s.x (with_line 1 (with_token none c))

-- "What a step does is decided by the line, 1 to 10". No well-formed row stands at another; there the step waits.
unfoldable pub line_step : ℕ → ℕ → ℕ → ℕ → ℤ → Seen → Core → Went
line_step line algorithm n i next s c =
    cond (eqb line 1) (line1 s c)
    (cond (eqb line 2) (line2 n s c)
    (cond (eqb line 3) (line3 s c)
    (cond (eqb line 4) (line4 algorithm next s c)
    (cond (eqb line 5) (line5 n i s c)
    (cond (eqb line 6) (line6 s c)
    (cond (eqb line 7) (line7 algorithm n i s c)
    (cond (eqb line 8) (line8 c)
    (cond (eqb line 9) (line9 s c)
    (cond (eqb line 10) (line10 s c)
    (waits s c))))))))))

-- The line's part of a step of process i of a machine: c is the core of its row, it sees s, and what it saw gives it this next token.
unfoldable pub any_line : ℕ → ℕ → ℕ → ℤ → Seen → Core → Went
any_line algorithm n i next s c = line_step c.line algorithm n i next s c

-- What a row keeps of the tokens that it saw, after a step from a line, by its mark: line 2 reads one more, line 4 gives them up, unless it
-- is refused.
abbrev pub kept_by : {A : Type 0} → ℕ → ℕ → A → A → A → A
kept_by line mark read cleared kept = cond (eqb line 2) read (cond (eqb mark 1 && eqb line 4) cleared kept)

-- 2, index j: "read cell j takes token j"; 4: "read cells become -1"; process numbers start at 1
unfoldable pub cells_after : Seen → Core → ℕ → List ℤ → List ℤ
cells_after s c mark cells = kept_by c.line mark (set cells (c.index - 1) s.token) all_none cells

-- What comes of a step: its own row, X, the mark and the stop number.
pub record Advanced : Type 0 where
  pub row : Row
  pub x : ℤ
  pub mark : ℕ
  pub stop : Stop

-- The step of process i of a machine, its row being r, where it sees s.
unfoldable pub advance_of : ℕ → ℕ → ℕ → Seen → Row → Advanced
advance_of algorithm n i s r =
    let w = any_line algorithm n i (next_token algorithm n r.core.pivot r.cells) s r.core in
    let row : Row = record { core = w.core; cells = cells_after s r.core w.mark r.cells } in
    record { row = row; x = w.x; mark = w.mark; stop = w.stop }
