-- A step of document 01, over the core of the process's row and what it sees, leaves what the theory's step leaves, but for the cells: line
-- by line.
use Prim.Native.Nat.{ℕ, suc, ◌+◌, ◌-◌, ◌≤◌}
use mathlib.Core.Path.{◌≡◌, refl, sym, ◌∙◌}
use mathlib.Core.Bool.{Bool, true, false, cond, not, ◌||◌, ◌&&◌}
use native.Mathlib.Omega.{arith}
use native.Mathlib.Numerals.{add-one}
use borrow.Author.Tests.{leb-true, eq-eqb, eqb-true}
use lib.Dec.{leb, eqb, eqb-suc-zero}
use lib.IntN.{ℤ, pos, negsuc}
use Rattle.laws.specs.Tests.{within, withinℤ}
use Rattle.laws.proofs.Tests.{by_answer, and_halves, within_low, within_high}
use Rattle.fields.specs.Numbers.{is_none, top_of}
use Rattle.fields.specs.Refusals.{no_refusal, above_token_limit}
use Rattle.fields.specs.Rules.{index_ok, choosing_ok, token_ok}
use Rattle.table.specs.declared.Core.{Core}
use Rattle.table.proofs.WellFormed.{CoreRules, line_range}
use Rattle.tokens.specs.Tokens.{goes_before}
use Rattle.tokens.specs.Answers.{is_above_limit}
use Rattle.machine.specs.Setters.{with_line, with_index, with_choosing}
use Rattle.machine.specs.Lines.{next_other, goes_on, passes, line2, line4, line5, line6, line7, line_step, any_line}
use Rattle.machine.specs.Step.{seen_in}
use Rattle.theory.proofs.Tokens.{Token}
use Rattle.theory.proofs.Model.{Place, at1, at2, at3, at4, at5, at6, at7, at8, at9, at10, State, is_choosing, goes, moves_at}
use Rattle.theory.proofs.Model.{row_after, x_after}
use Rattle.theory.proofs.Model as model
use Rattle.demands.proofs.Views.{token_of, place_of, core_view, machine_of}
use Rattle.demands.proofs.RowFacts.{each_line, FromNone}
use Rattle.demands.proofs.TokenViews.{goes_before_view}

-- the choosing flag of a core that keeps its rules is 0 just where the theory's process is not choosing
pub choosing_view : {top : ℤ} {n i : ℕ} {c : Core} → CoreRules top n i c
    → not (is_choosing (place_of c.line c.index)) ≡ eqb c.choosing 0
unfolding choosing_ok
choosing_view {top} {n} {i} {c} rules =
    each_line (λ (line : ℕ). choosing_ok line c.choosing ≡ true → not (is_choosing (place_of line c.index)) ≡ eqb c.choosing 0)
    sym flag flag flag flag sym sym sym sym sym
    c.line (line_range n i c.line rules.line) rules.choosing
  where
    flag : eqb c.choosing 1 ≡ true → false ≡ eqb c.choosing 0
    flag is_set = rw (eqb-true c.choosing 1 is_set)

-- whether process i, which holds v, passes process j, which has the token w
passes_view : (algorithm n i j : ℕ) (v w : ℤ) → 1 ≤ n → withinℤ (pos 0) (top_of algorithm n) v ≡ true → FromNone w
    → (is_none w || goes_before algorithm n i v j w) ≡ model.passes (machine_of algorithm (n - 1)) i (token_of v) j (token_of w)
passes_view algorithm n i j v (pos b) some range least = rw (eqb-suc-zero b) (goes_before_view algorithm n some i v j b range)
passes_view algorithm n i j v (negsuc a) some range least = rw (eq-eqb a 0 (omega (arith, leb-true a 0 least)))

-- where process i goes on after process j
next_other_view : (i j : ℕ) → next_other i j ≡ model.next_other i j
unfolding next_other
next_other_view i j = let two : j + 2 ≡ suc (suc j) = omega arith in rw (add-one j, two)

goes_on_view : (n i j : ℕ) (c : Core) (cell : ℕ → Token) → core_view (goes_on n i j c) cell ≡ goes (model.goes_on n i j) (core_view c cell)
unfolding goes_on
goes_on_view n i j c cell = rw (next_other_view i j) (by_room (leb (model.next_other i j) n))
  where
    by_room : (room : Bool) → core_view (cond room (with_line 6 (with_index (model.next_other i j) c)) (with_line 8 (with_index 0 c))) cell
        ≡ goes (cond room (at6 (model.next_other i j)) at8) (core_view c cell)
    by_room true = refl
    by_room false = refl

-- Process j of a state of the theory is what a step sees of it, the core of its row.
pub record ShowsOther (s : State) (j : ℕ) (other : Core) : Type 0 where
  pub token : (s.row j).token ≡ token_of other.token
  pub least : FromNone other.token
  pub choosing : not (is_choosing (s.row j).place) ≡ eqb other.choosing 0

-- Row i of the state, whose cells show these tokens, X, and the process that the index names are what the step of the core c sees.
pub record Shows (n i : ℕ) (s : State) (x : ℤ) (other c : Core) (cell : ℕ → Token) : Type 0 where
  pub own : s.row i ≡ core_view c cell
  pub shared : s.x ≡ token_of x
  pub named : 1 ≤ c.index → c.index ≤ n → ShowsOther s c.index other

module _ (algorithm n i : ℕ) (s : State) where
  -- whether the theory's step of process i moves, standing at a place, and the row that it then leaves
  abbrev pub can_move : Place → Bool
  can_move place = moves_at (machine_of algorithm (n - 1)) s i place

  abbrev pub after : Place → model.Row
  after place = row_after (n - 1) (machine_of algorithm (n - 1)) s i place

  -- the row that it leaves, whether it moves or waits
  abbrev pub left : Place → model.Row
  left place = cond (can_move place) (after place) (s.row i)

  -- a row, as it is shown, X and a mark are what that step leaves
  pub record Follows (place : Place) (shown : model.Row) (x : ℤ) (mark : ℕ) : Type 0 where
    pub row : shown ≡ left place
    pub written : token_of x ≡ cond (can_move place) (x_after s i place) s.x
    pub marked : mark ≡ cond (can_move place) 1 0

  module _ (next x : ℤ) (other c : Core) (cell : ℕ → Token) (some : 1 ≤ n) (shows : Shows n i s x other c cell) where
    -- where the step moves and does not write X, and where it waits
    moved : (place : Place) {shown : model.Row} → can_move place ≡ true → x_after s i place ≡ s.x → shown ≡ after place
        → Follows place shown x 1
    moved place can kept row = record { row = rw can row; written = rw (can, kept, shows.shared); marked = rw can }

    waited : (place : Place) {shown : model.Row} → can_move place ≡ false → shown ≡ s.row i → Follows place shown x 0
    waited place cannot row = record { row = rw cannot row; written = rw (cannot, shows.shared); marked = rw cannot }

    count : suc (n - 1) ≡ n
    count = omega arith

    -- the rules of the core at a line that is known: there they compute
    abbrev RulesAt : ℕ → Type 0
    RulesAt line = CoreRules (top_of algorithm n) n i (with_line line c)

    -- what a line leaves of the core, beside the cells that the theory's step leaves at that place, is what that step leaves
    abbrev LineFollows : ℕ → Type 0
    LineFollows line =
        let went = line_step line algorithm n i next (seen_in x other) c in
        let place = place_of line c.index in
        Follows place (core_view went.core (left place).cell) went.x went.mark

    line2_view : c.line ≡ 2 → LineFollows 2
    unfolding line_step line2
    line2_view e =
        by_answer (eqb c.index n)
        (λ last. rw last (moved (at2 c.index) refl refl (rw (shows.own, count, last))))
        (λ more. rw (more, e) (moved (at2 c.index) refl refl (rw (shows.own, count, more, add-one c.index))))

    -- line 4: the next token is the theory's
    abbrev NextShown : Type 0
    NextShown = token_of next ≡ (machine_of algorithm (n - 1)).next (token_of c.pivot) cell

    line4_view : NextShown → (line_step 4 algorithm n i next (seen_in x other) c).stop ≡ no_refusal → LineFollows 4
    unfolding line_step line4
    line4_view token accepted =
        by_answer (is_above_limit algorithm next)
        (λ above. let stopped : above_token_limit ≡ no_refusal = rw above at accepted in cc)
        (λ below. rw below (moved at4 refl refl (rw (shows.own, token))))

    -- lines 6 and 7: the index names a process
    shows_other : (within 1 n c.index && not (eqb c.index i)) ≡ true → ShowsOther s c.index other
    shows_other names =
        let range = (and_halves (within 1 n c.index) (not (eqb c.index i)) names).0 in
        shows.named (within_low 1 n c.index range) (within_high 1 n c.index range)

    line6_view : RulesAt 6 → LineFollows 6
    unfolding line_step line6 index_ok
    line6_view rules =
        let j = c.index in
        let choosing = (shows_other rules.index).choosing in
        by_answer (eqb other.choosing 0)
        (λ e. let can = choosing ∙ e in rw e (moved (at6 j) can refl (rw (can, shows.own))))
        (λ e. let cannot = choosing ∙ e in rw e (waited (at6 j) cannot (rw (cannot, shows.own))))

    -- at line 7 it moves just where it passes
    can_pass : RulesAt 7 → can_move (at7 c.index) ≡ passes algorithm n i (seen_in x other) c
    unfolding index_ok token_ok
    can_pass rules =
        let shown = shows_other rules.index in
        rw (shows.own, shown.token)
        (sym (passes_view algorithm n i c.index c.token other.token some rules.token shown.least))

    line7_view : RulesAt 7 → LineFollows 7
    unfolding line_step line7
    line7_view rules =
        let j = c.index in
        by_answer (passes algorithm n i (seen_in x other) c)
        (λ e. let can = can_pass rules ∙ e in rw e (moved (at7 j) can refl (rw (can, count, shows.own) (goes_on_view n i j c cell))))
        (λ e. let cannot = can_pass rules ∙ e in rw e (waited (at7 j) cannot (rw (cannot, shows.own))))

    -- the step, whatever the line
    pub core_view_lem : CoreRules (top_of algorithm n) n i c → (c.line ≡ 4 → NextShown)
        → (any_line algorithm n i next (seen_in x other) c).stop ≡ no_refusal → LineFollows c.line
    unfolding any_line line_step line5
    core_view_lem rules token =
        each_line
        (λ (line : ℕ). c.line ≡ line → RulesAt line → (line_step line algorithm n i next (seen_in x other) c).stop ≡ no_refusal
        → LineFollows line)
        (λ _ _ _. moved at1 refl refl (rw shows.own))
        (λ e _ _. line2_view e)
        (λ _ _ _. moved at3 refl refl (rw (shows.own, shows.shared)))
        (λ e _. line4_view (token e))
        (λ _ _ _. moved at5 refl refl (rw (count, shows.own) (goes_on_view n i 0 (with_choosing 0 c) cell)))
        (λ _ rules _. line6_view rules)
        (λ _ rules _. line7_view rules)
        (λ _ _ _. record { row = rw shows.own; written = rw shows.own; marked = refl })
        (λ _ _ _. moved at9 refl refl (rw shows.own))
        (λ _ _ _. moved at10 refl refl (rw shows.own))
        c.line (line_range n i c.line rules.line) refl rules
