-- What the mark of a step says: 0 that nothing changed, 1 that the line or the index did.
use Prim.Native.Nat.{ℕ}
use mathlib.Core.Path.{◌≡◌, refl, sym}
use mathlib.Core.Logic.{◌⊎◌, inl, inr, ⊎_elim}
use native.Mathlib.Omega.{arith}
use lib.Dec.{leb, eqb}
use lib.IntN.{ℤ}
use Rattle.laws.proofs.Tests.{by_test}
use Rattle.fields.specs.Refusals.{Stop, no_refusal, above_token_limit}
use Rattle.table.specs.declared.Core.{Core}
use Rattle.table.specs.declared.Row.{Row}
use Rattle.tokens.specs.Tokens.{next_token}
use Rattle.tokens.specs.Answers.{is_above_limit}
use Rattle.machine.specs.Setters.{with_choosing}
use Rattle.machine.specs.Lines.{Advanced, moves, refuses, next_other, goes_on, passes, any_line, line2, line4, line5, line6, line7}
use Rattle.machine.specs.Lines.{cells_after, advance_of}
use Rattle.machine.specs.declared.Seen.{Seen}
use Rattle.machine.specs.declared.Went.{Went}
use Rattle.machine.proofs.ByLine.{by_line}
use Rattle.machine.proofs.KeptBy.{kept_still}

-- a line that waits or refuses, which line 2 never does
record StillCore (s : Seen) (c : Core) (w : Went) : Type 0 where
  mark : w.mark ≡ 0
  core : w.core ≡ c
  x : w.x ≡ s.x
  not_2 : c.line ≡ 2 → ⊥

-- a line that moves: every one goes to another line, or at line 2 to another index
record MovedCore (c : Core) (w : Went) : Type 0 where
  mark : w.mark ≡ 1
  stop : w.stop ≡ no_refusal
  apart : w.core.line ≡ c.line → w.core.index ≡ c.index → ⊥

-- a line does one or the other
abbrev MarkedCore : Seen → Core → Went → Type 0
MarkedCore s c w = StillCore s c w ⊎ MovedCore c w

module _ (s : Seen) (c : Core) where
  still : (stop : Stop) → (c.line ≡ 2 → ⊥) → MarkedCore s c (refuses stop s c)
  still stop not_2 = inl (record { mark = refl; core = refl; x = refl; not_2 = not_2 })

  moved : {x : ℤ} {next : Core} → (next.line ≡ c.line → next.index ≡ c.index → ⊥) → MarkedCore s c (moves x next)
  moved f = inr (record { mark = refl; stop = refl; apart = f })

  -- it goes on to line 6 or 8
  goes_on_marked : (n i j : ℕ) (from : Core) → (c.line ≡ 6 → ⊥) → (c.line ≡ 8 → ⊥) → MarkedCore s c (moves s.x (goes_on n i j from))
  unfolding goes_on
  goes_on_marked n i j from f g =
      by_test (λ (next : Core). MarkedCore s c (moves s.x next)) (leb (next_other i j) n)
      (λ _. moved (λ q _. f (sym q)))
      (λ _. moved (λ q _. g (sym q)))

  line_marked : (algorithm n i : ℕ) (next : ℤ) → MarkedCore s c (any_line algorithm n i next s c)
  unfolding line2 line4 line5 line6 line7
  line_marked algorithm n i next =
      by_line algorithm n i next s c (MarkedCore s c)
      (record {
        at1 = λ e. moved (λ q _. omega arith);
        at2 = λ e. by_test (MarkedCore s c) (eqb c.index n)
            (λ _. moved (λ q _. omega arith))
            (λ _. moved (λ _ q. omega arith));
        at3 = λ e. moved (λ q _. omega arith);
        at4 = λ e. by_test (MarkedCore s c) (is_above_limit algorithm next)
            (λ _. still above_token_limit (omega arith))
            (λ _. moved (λ q _. omega arith));
        at5 = λ e. goes_on_marked n i 0 (with_choosing 0 c) (omega arith) (omega arith);
        at6 = λ e. by_test (MarkedCore s c) (eqb s.choosing 0)
            (λ _. moved (λ q _. omega arith))
            (λ _. still no_refusal (omega arith));
        at7 = λ e. by_test (MarkedCore s c) (passes algorithm n i s c)
            (λ _. goes_on_marked n i c.index c (omega arith) (omega arith))
            (λ _. still no_refusal (omega arith));
        at8 = λ e. moved (λ q _. omega arith);
        at9 = λ e. moved (λ q _. omega arith);
        at10 = λ e. moved (λ q _. omega arith);
        elsewhere = λ off. still no_refusal (off 2 (omega arith) (omega arith));
      })

-- The same of a step of a row: where its line does not move, the row keeps its cells.
pub record Still (s : Seen) (r : Row) (a : Advanced) : Type 0 where
  pub mark : a.mark ≡ 0
  pub row : a.row ≡ r
  pub x : a.x ≡ s.x

pub record Moved (r : Row) (a : Advanced) : Type 0 where
  pub mark : a.mark ≡ 1
  pub stop : a.stop ≡ no_refusal
  pub apart : a.row.core.line ≡ r.core.line → a.row.core.index ≡ r.core.index → ⊥

abbrev pub Marked : Seen → Row → Advanced → Type 0
Marked s r a = Still s r a ⊎ Moved r a

pub advance_marked : (s : Seen) (r : Row) (algorithm n i : ℕ) → Marked s r (advance_of algorithm n i s r)
unfolding advance_of cells_after
advance_marked s r algorithm n i =
    ⊎_elim
    (λ still. inl (record { mark = still.mark; row = λ at. record { core = still.core at; cells = kept still at }; x = still.x }))
    (λ moved. inr (record { mark = moved.mark; stop = moved.stop; apart = moved.apart }))
    (line_marked s r.core algorithm n i (next_token algorithm n r.core.pivot r.cells))
  where
    kept : {w : Went} → StillCore s r.core w → cells_after s r.core w.mark r.cells ≡ r.cells
    kept {w} still = kept_still r.core.line w.mark _ _ _ still.not_2 still.mark
