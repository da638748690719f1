-- A passage without waits, proved: the steps of a process alone, from its last ones back to its first, since what is left of the passage is
-- what each step goes on with.
use Prim.Native.Nat.{ℕ, zero, suc, ◌+◌, ◌*◌, ◌-◌, ◌%◌, ◌<◌, ◌≤◌}
use mathlib.Core.Path.{◌≡◌, refl, sym, ap, subst, ◌∙◌}
use mathlib.Core.Bool.{Bool, true, false, cond, ◌&&◌}
use mathlib.Core.List.{List, [], ◌∷◌, ◌++◌, map, flatten}
use native.Mathlib.Omega.{arith}
use native.Mathlib.Nat.{mod-eq_of_lt, add-mod_right}
use native.Mathlib.Numerals.{add-one}
use borrow.Author.Tests.{le-leb, lt-leb, eq-eqb, ne_eqb}
use lib.Dec.{eqb}
use lib.IntN.{ℤ, pos, ◌+ℤ◌, ◌-ℤ◌}
use lib.Signed.{lt_z}
use lib.ListN.{length, set, replicate, length-append, length-replicate, length-map, get_or-replicate}
use lib.Seq.{get_or-set_same, get_or-set_other, set-get_or, set-set}
use Rattle.laws.specs.Tests.{within, how_many}
use Rattle.laws.proofs.Tests.{by_equality, and_both, within_high, within_yes}
use Rattle.fields.specs.Numbers.{slots, none, unbounded, modulus_of, token_limit}
use Rattle.fields.specs.Refusals.{no_refusal}
use Rattle.fields.specs.Rules.{algorithm_ok, count_ok}
use Rattle.table.specs.WellFormed.{row_of, no_row}
use Rattle.table.specs.Fresh.{fresh_core, all_none, fresh_row, fresh_table}
use Rattle.table.specs.declared.Core.{Core}
use Rattle.table.specs.declared.Row.{Row}
use Rattle.table.specs.declared.Table.{Table}
use Rattle.tokens.specs.Tokens.{remainder, largest, shifted, shifted_cell, next_ub, next_b, next_token}
use Rattle.tokens.specs.Answers.{is_above_limit}
use Rattle.machine.specs.Setters.{with_line, with_index, with_choosing, with_token, with_pivot}
use Rattle.machine.specs.Lines.{moves, next_other, goes_on, line2, line4, line5, line6, line7, line_step, any_line, cells_after, advance_of}
use Rattle.machine.specs.Step.{seen_in, taken_of}
use Rattle.machine.proofs.Arms.{leaves}
use Rattle.courses.specs.Course.{Course, stands_at, course_on, those, moved_in, waited_in}
use Rattle.machine.specs.Run.{course_of, entries_in, answer_of}
use Rattle.demands.specs.Passage.{passage_lines, moves_from, left_behind, passage_length, passage_answer, PassageAlone}
use Rattle.demands.proofs.Computed.{unread, numbers, plain, fresh_plain}
use Rattle.demands.proofs.TokenViews.{difference_round, sum_first}

-- a list of copies of a, with a put anew
set_copy : {A : Type 0} (a : A) (many k : ℕ) → k < many → set (replicate many a) k a ≡ replicate many a
set_copy a many k inside =
    ap (set (replicate many a) k) (sym (get_or-replicate many k a a inside)) ∙ set-get_or (replicate many a) k a

-- The token after 0 where none is seen: 1, and on the bounded machine its remainder.
in_the_middle : (n : ℕ) → 1 ≤ n → shifted n (pos 0) (pos 0) ≡ n - 1
unfolding shifted remainder
in_the_middle n some =
    let sum : 0 + (n - 1) + 0 ≡ n - 1 = omega arith in
    rw sum (mod-eq_of_lt (omega arith))

first_b : (n : ℕ) → 1 ≤ n → next_b n (pos 0) all_none ≡ pos (1 % modulus_of n)
unfolding next_b largest shifted_cell
first_b n some =
    let m = modulus_of n in
    let round : n - 1 + 0 + 2 + (m - n) ≡ 1 + m = omega arith in
    ap (λ (middle : ℕ). pos (remainder (pos middle +ℤ pos 0 -ℤ pos n +ℤ pos 2) m)) (in_the_middle n some)
    ∙ ap (λ (z : ℤ). pos (remainder z m)) (sum_first (n - 1 + 0) n 2)
    ∙ ap pos (difference_round (n - 1 + 0 + 2) n m (omega arith) ∙ rw round (add-mod_right 1 m))

first_token : (algorithm n : ℕ) → 1 ≤ n → next_token algorithm n (pos 0) all_none ≡ (left_behind algorithm n).x
unfolding next_token next_ub largest
first_token algorithm n some = by_machine (eqb algorithm unbounded)
  where
    by_machine : (ub : Bool) → cond ub (next_ub (pos 0) all_none) (next_b n (pos 0) all_none) ≡ pos (cond ub 1 (1 % modulus_of n))
    by_machine true = refl
    by_machine false = first_b n some

-- Process i alone.
module _ (algorithm n i : ℕ) (low : 1 ≤ i) (high : i ≤ n) (most : n ≤ slots) where
  -- the fresh table, but for X and the core of row i
  abbrev standing : ℤ → Core → Table
  standing x c = record { algorithm = algorithm; n = n; x = x; rows = set (replicate slots fresh_row) (i - 1) (unread c) }

  own : (x : ℤ) (c : Core) → row_of (standing x c) i ≡ unread c
  own x c = get_or-set_same (replicate slots fresh_row) (i - 1) (unread c) no_row (omega (arith, length-replicate slots fresh_row))

  other : (x : ℤ) (c : Core) (j : ℕ) → 1 ≤ j → j ≤ n → (j ≡ i → ⊥) → row_of (standing x c) j ≡ fresh_row
  other x c j l h apart =
      get_or-set_other (replicate slots fresh_row) (i - 1) (j - 1) (unread c) no_row (λ e. apart (omega arith))
      ∙ get_or-replicate slots (j - 1) fresh_row no_row (omega arith)

  all_fresh : (x : ℤ) → standing x fresh_core ≡ record { algorithm = algorithm; n = n; x = x; rows = replicate slots fresh_row }
  all_fresh x =
      ap (λ (rows : List Row). record { algorithm = algorithm; n = n; x = x; rows = rows })
      (set_copy fresh_row slots (i - 1) (omega arith))

  -- a step of process i that moves, and after which its cells hold no token either
  abbrev Moves : ℤ → ℤ → Core → Core → Type 0
  Moves x y c d = advance_of algorithm n i (seen_in x (row_of (standing x c) c.index).core) (unread c) ≡ leaves (moves y d) all_none

  taken : (x y : ℤ) (c d : Core) → Moves x y c d → taken_of (standing x c) i ≡ record { table = standing y d; mark = 1; stop = no_refusal }
  unfolding taken_of
  taken x y c d e = rw (own x c, e, set-set (replicate slots fresh_row) (i - 1) (unread c) (unread d))

  -- from a table on, its steps at these lines all move, and end the passage
  abbrev Walks : Table → List ℕ → Type 0
  Walks t lines =
      plain t (replicate (length lines) i) ≡ record { turns = map (moves_from i) lines; table = left_behind algorithm n; stop = no_refusal }

  walk : (x y : ℤ) (c d : Core) (lines : List ℕ) → Moves x y c d → Walks (standing y d) lines → Walks (standing x c) (c.line ∷ lines)
  unfolding course_on
  walk x y c d lines e later = rw (taken x y c d e, ap (λ (r : Row). r.core.line) (own x c), later)

  -- the token that it takes, which is not above the limit
  abbrev token : ℤ
  token = next_token algorithm n (pos 0) all_none

  not_above : is_above_limit algorithm token ≡ false
  unfolding next_token next_ub largest
  not_above = by_machine (eqb algorithm unbounded)
    where
      by_machine : (ub : Bool) → (ub && lt_z (pos token_limit) (cond ub (next_ub (pos 0) all_none) (next_b n (pos 0) all_none))) ≡ false
      by_machine true = refl
      by_machine false = refl

  -- its core while it holds the token, and before, while it is choosing
  abbrev holding : ℕ → ℕ → Core
  holding line index = with_line line (with_index index (with_token token fresh_core))

  abbrev choosing : ℕ → ℕ → ℤ → Core
  choosing line index pivot = with_line line (with_index index (with_choosing 1 (with_pivot pivot fresh_core)))

  -- lines 8 to 10
  ends : Walks (standing token fresh_core) []
  unfolding course_on
  ends =
      ap (λ (t : Table). stands_at t no_refusal) (all_fresh token)
      ∙ ap (λ (x : ℤ). stands_at (record { algorithm = algorithm; n = n; x = x; rows = replicate slots fresh_row }) no_refusal)
      (first_token algorithm n (omega arith))

  from_line_8 : Walks (standing (pos 0) (holding 8 0)) (8 ∷ 9 ∷ 10 ∷ [])
  unfolding line_step any_line cells_after advance_of
  from_line_8 =
      walk (pos 0) token (holding 8 0) (holding 9 0) (9 ∷ 10 ∷ []) refl
      (walk token token (holding 9 0) (holding 10 0) (10 ∷ []) refl
      (walk token token (holding 10 0) fresh_core [] refl ends))

  -- lines 6 and 7, for each of k others
  abbrev looks : ℕ → List ℕ
  looks k = flatten (replicate k (6 ∷ 7 ∷ [])) ++ (8 ∷ 9 ∷ 10 ∷ [])

  -- after j, on to another process, to look at it and to go on, or, if there is none, to line 8
  to_next : (j next line index : ℕ) (lines : List ℕ) → next_other i j ≡ next → 1 ≤ next → next ≤ n → (next ≡ i → ⊥)
      → Walks (standing (pos 0) (goes_on n i next (holding 7 next))) lines
      → Walks (standing (pos 0) (goes_on n i j (holding line index))) (6 ∷ 7 ∷ lines)
  unfolding goes_on line_step any_line line6 line7 cells_after advance_of
  to_next j next line index lines is l h apart later =
      rw (is, le-leb next n h)
      (walk (pos 0) (pos 0) (holding 6 next) (holding 7 next) (7 ∷ lines) (rw (other (pos 0) (holding 6 next) next l h apart))
      (walk (pos 0) (pos 0) (holding 7 next) (goes_on n i next (holding 7 next)) lines
      (rw (other (pos 0) (holding 7 next) next l h apart)) later))

  to_line_8 : (j line index : ℕ) → n < next_other i j → Walks (standing (pos 0) (goes_on n i j (holding line index))) (8 ∷ 9 ∷ 10 ∷ [])
  unfolding goes_on
  to_line_8 j line index none_left = rw (lt-leb (next_other i j) n none_left) from_line_8

  -- the next other number, where the next number is i and where it is not
  skips : (j : ℕ) → suc j ≡ i → next_other i j ≡ suc (suc j)
  unfolding next_other
  skips j same = let two : j + 2 ≡ suc (suc j) = omega arith in rw (add-one j, two, eq-eqb (suc j) i same)

  steps : (j : ℕ) → (suc j ≡ i → ⊥) → next_other i j ≡ suc j
  unfolding next_other
  steps j apart = rw (add-one j, ne_eqb (suc j) i apart)

  -- k others are above j: all above it but i, or, where j is above i, all above it
  data Left : ℕ → ℕ → Type 0 where
    with_own : {k j : ℕ} → j < i → suc (j + k) ≡ n → Left k j
    past_own : {k j : ℕ} → i ≤ j → j + k ≡ n → Left k j

  looks_at_others : (k j line index : ℕ) → Left k j → Walks (standing (pos 0) (goes_on n i j (holding line index))) (looks k)
  unfolding flatten
  looks_at_others zero j line index (with_own less count) =
      let own_next : suc j ≡ i = omega arith in
      to_line_8 j line index (rw (skips j own_next) (omega arith))
  looks_at_others zero j line index (past_own more count) =
      to_line_8 j line index (rw (steps j (λ e. omega arith)) (omega arith))
  looks_at_others (suc k) j line index (with_own less count) =
      by_equality (suc j) i
      (λ same. to_next j (suc (suc j)) line index (looks k) (skips j same) (omega arith) (omega arith) (λ e. omega arith)
      (looks_at_others k (suc (suc j)) 7 (suc (suc j)) (past_own (omega arith) (omega arith))))
      (λ apart. to_next j (suc j) line index (looks k) (steps j apart) (omega arith) (omega arith) apart
      (looks_at_others k (suc j) 7 (suc j) (with_own (omega arith) (omega arith))))
  looks_at_others (suc k) j line index (past_own more count) =
      to_next j (suc j) line index (looks k) (steps j (λ e. omega arith)) (omega arith) (omega arith) (λ e. omega arith)
      (looks_at_others k (suc j) 7 (suc j) (past_own (omega arith) (omega arith)))

  -- lines 3 to 5
  abbrev after_reading : List ℕ
  after_reading = 3 ∷ 4 ∷ 5 ∷ looks (n - 1)

  takes_token : Walks (standing (pos 0) (choosing 3 0 none)) after_reading
  unfolding line_step any_line line4 line5 cells_after advance_of
  takes_token =
      walk (pos 0) (pos 0) (choosing 3 0 none) (choosing 4 0 (pos 0)) (4 ∷ 5 ∷ looks (n - 1)) refl
      (walk (pos 0) (pos 0) (choosing 4 0 (pos 0)) (with_choosing 1 (holding 5 0)) (5 ∷ looks (n - 1)) (rw not_above)
      (walk (pos 0) (pos 0) (with_choosing 1 (holding 5 0)) (goes_on n i 0 (holding 5 0)) (looks (n - 1)) refl
      (looks_at_others (n - 1) 0 5 0 (with_own (omega arith) (omega arith)))))

  -- line 2: no process has a token, nor has i itself, so the cells stay as they are
  none_seen : (c : Core) (j : ℕ) → c.token ≡ none → 1 ≤ j → j ≤ n → (row_of (standing (pos 0) c) j).core.token ≡ none
  none_seen c j own-none l h =
      by_equality j i
      (λ same. rw (same, own (pos 0) c) own-none)
      (λ apart. rw (other (pos 0) c j l h apart))

  reads_none : (j : ℕ) → 1 ≤ j → j ≤ n → set all_none (j - 1) (row_of (standing (pos 0) (choosing 2 j none)) j).core.token ≡ all_none
  reads_none j l h = rw (none_seen (choosing 2 j none) j refl l h) (set_copy none slots (j - 1) (omega arith))

  reads : (k j : ℕ) → 1 ≤ j → j + k ≡ n → Walks (standing (pos 0) (choosing 2 j none)) (replicate (suc k) 2 ++ after_reading)
  unfolding line_step any_line line2 cells_after advance_of
  reads zero j l count =
      walk (pos 0) (pos 0) (choosing 2 j none) (choosing 3 0 none) after_reading
      (rw (reads_none j l (omega arith), eq-eqb j n (omega arith)))
      takes_token
  reads (suc k) j l count =
      walk (pos 0) (pos 0) (choosing 2 j none) (choosing 2 (suc j) none) (replicate (suc k) 2 ++ after_reading)
      (rw (reads_none j l (omega arith), ne_eqb j n (omega arith), add-one j))
      (reads k (suc j) (omega arith) (omega arith))

  -- and line 1
  passes_alone : Walks (fresh_table algorithm n) (passage_lines n)
  unfolding line_step any_line cells_after advance_of
  passes_alone =
      let count : suc (n - 1) ≡ n = omega arith in
      subst (λ (t : Table). Walks t (passage_lines n)) (all_fresh (pos 0))
      (walk (pos 0) (pos 0) fresh_core (choosing 2 1 none) (replicate n 2 ++ after_reading) refl
      (subst (λ (k : ℕ). Walks (standing (pos 0) (choosing 2 1 none)) (replicate k 2 ++ after_reading)) count
      (reads (n - 1) 1 (omega arith) (omega arith))))

-- The lines are 3n + 5 in number,
looks_length : (k : ℕ) → length {A = ℕ} (flatten (replicate k (6 ∷ 7 ∷ []))) ≡ 2 * k
unfolding flatten
looks_length zero = refl
looks_length (suc k) = omega (arith, looks_length k)

lines_length : (n : ℕ) → 1 ≤ n → length (passage_lines n) ≡ passage_length n
lines_length n some = simp (length-append, length-replicate, looks_length) (omega arith)

-- every step at them moves, and one of them is an entry.
all_moved : (i : ℕ) (lines : List ℕ) → moved_in (map (moves_from i) lines) ≡ length lines
unfolding those
all_moved i [] = refl
all_moved i (line ∷ lines) = ap suc (all_moved i lines)

none_waited : (i : ℕ) (lines : List ℕ) → waited_in (map (moves_from i) lines) ≡ 0
unfolding those
none_waited i [] = refl
none_waited i (line ∷ lines) = none_waited i lines

entries_at : ℕ → List ℕ → ℕ
entries_at i lines = entries_in (map (moves_from i) lines)

no_entry_reading : (i k : ℕ) (lines : List ℕ) → entries_at i (replicate k 2 ++ lines) ≡ entries_at i lines
unfolding entries_at those
no_entry_reading i zero lines = refl
no_entry_reading i (suc k) lines = no_entry_reading i k lines

no_entry_looking : (i k : ℕ) (lines : List ℕ) → entries_at i (flatten (replicate k (6 ∷ 7 ∷ [])) ++ lines) ≡ entries_at i lines
unfolding entries_at those flatten
no_entry_looking i zero lines = refl
no_entry_looking i (suc k) lines = no_entry_looking i k lines

one_entry : (i n : ℕ) → entries_in (map (moves_from i) (passage_lines n)) ≡ 1
unfolding entries_at those
one_entry i n =
    no_entry_reading i n (3 ∷ 4 ∷ 5 ∷ flatten (replicate (n - 1) (6 ∷ 7 ∷ [])) ++ (8 ∷ 9 ∷ 10 ∷ []))
    ∙ no_entry_looking i (n - 1) (8 ∷ 9 ∷ 10 ∷ [])

-- each byte is the number of a process
same_numbers : (n i k : ℕ) → within 1 n i ≡ true → numbers n (replicate k i) ≡ true
unfolding numbers
same_numbers n i zero inside = refl
same_numbers n i (suc k) inside = and_both inside (same_numbers n i k inside)

-- the whole, and what is counted of it
module _ (algorithm n i : ℕ) (known : algorithm_ok algorithm ≡ true) (count : count_ok n ≡ true) (low : 1 ≤ i) (high : i ≤ n) where
  abbrev passage : Course Table
  passage = record { turns = map (moves_from i) (passage_lines n); table = left_behind algorithm n; stop = no_refusal }

  many : length (passage_lines n) ≡ passage_length n
  many = lines_length n (omega arith)

  passage_course : course_of (fresh_table algorithm n) (replicate (passage_length n) i) ≡ passage
  passage_course =
      fresh_plain algorithm n (replicate (passage_length n) i) known count (same_numbers n i (passage_length n) (within_yes 1 n i low high))
      ∙ ap (λ (k : ℕ). plain (fresh_table algorithm n) (replicate k i)) (sym many)
      ∙ passes_alone algorithm n i low high (within_high 1 slots n count)

  passage_answer_lem : answer_of passage ≡ passage_answer algorithm n
  unfolding how_many
  passage_answer_lem = λ at. record {
    table = left_behind algorithm n;
    moved = (all_moved i (passage_lines n) ∙ many) at;
    waited = none_waited i (passage_lines n) at;
    entries = one_entry i n at;
    waiting = 0;
    place = (length-map (passage_lines n) (moves_from i) ∙ many) at;
    stop = no_refusal;
  }

pub passage_alone : PassageAlone
passage_alone algorithm n i known count low high =
    let course = passage_course algorithm n i known count low high in
    (ap (λ (c : Course Table). c.turns) course, ap answer_of course ∙ passage_answer_lem algorithm n i known count low high)
