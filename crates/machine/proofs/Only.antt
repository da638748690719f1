-- Which lines do what: line 8 alone writes X; line 4 alone refuses, where the next token is above the limit; lines 6 and 7 alone wait.
use Prim.Native.Nat.{ℕ}
use mathlib.Core.Path.{◌≡◌, refl, sym, ◌∙◌}
use mathlib.Core.Bool.{true, false, true≢false}
use lib.Dec.{eqb}
use lib.IntN.{ℤ}
use Rattle.laws.specs.Tests.{within}
use Rattle.laws.proofs.Tests.{by_test, within_low, within_high}
use Rattle.fields.specs.Numbers.{first_line, last_line}
use Rattle.fields.specs.Refusals.{no_refusal, above_token_limit}
use Rattle.table.specs.declared.Core.{Core}
use Rattle.tokens.specs.Answers.{is_above_limit}
use Rattle.machine.specs.Lines.{moves, waits, refuses, passes, any_line, line2, line4, line5, line6, line7}
use Rattle.machine.specs.declared.Seen.{Seen}
use Rattle.machine.specs.declared.Went.{Went}
use Rattle.machine.proofs.ByLine.{by_line}

module _ (algorithm n i : ℕ) (next : ℤ) (s : Seen) (c : Core) where
  -- what a line does to X, the stop number and the mark
  record Does (w : Went) : Type 0 where
    x : (c.line ≡ 8 → ⊥) → w.x ≡ s.x
    stop : (c.line ≡ 4 → is_above_limit algorithm next ≡ false) → w.stop ≡ no_refusal
    mark : within first_line last_line c.line ≡ true → (c.line ≡ 6 → ⊥) → (c.line ≡ 7 → ⊥) → w.stop ≡ no_refusal → w.mark ≡ 1

  moved : {to : Core} → Does (moves s.x to)
  moved = record { x = λ _. refl; stop = λ _. refl; mark = λ _ _ _ _. refl }

  does : Does (any_line algorithm n i next s c)
  unfolding line2 line4 line5 line6 line7
  does =
      by_line algorithm n i next s c Does
      (record {
        at1 = λ _. moved;
        at2 = λ _. by_test Does (eqb c.index n) (λ _. moved) (λ _. moved);
        at3 = λ _. moved;
        at4 = λ e. by_test Does (is_above_limit algorithm next)
            (λ above. refused (λ below. true≢false (sym above ∙ below e)))
            (λ _. moved);
        at5 = λ _. moved;
        at6 = λ e. by_test Does (eqb s.choosing 0) (λ _. moved) (λ _. waiting (λ _ not_6 _. not_6 e));
        at7 = λ e. by_test Does (passes algorithm n i s c) (λ _. moved) (λ _. waiting (λ _ _ not_7. not_7 e));
        at8 = λ e. record { x = λ not-8. absurd (not-8 e); stop = λ _. refl; mark = λ _ _ _ _. refl };
        at9 = λ _. moved;
        at10 = λ _. moved;
        elsewhere = λ off. waiting (λ range _ _.
            off c.line (within_low first_line last_line c.line range) (within_high first_line last_line c.line range) refl);
      })
    where
      waiting : (within first_line last_line c.line ≡ true → (c.line ≡ 6 → ⊥) → (c.line ≡ 7 → ⊥) → ⊥) → Does (waits s c)
      waiting never = record { x = λ _. refl; stop = λ _. refl; mark = λ range not_6 not_7 _. absurd (never range not_6 not_7) }

      refused : ((c.line ≡ 4 → is_above_limit algorithm next ≡ false) → ⊥) → Does (refuses above_token_limit s c)
      refused above = record { x = λ _. refl; stop = λ below. absurd (above below); mark = λ _ _ _ e. cc }

  pub only_8_writes : (c.line ≡ 8 → ⊥) → (any_line algorithm n i next s c).x ≡ s.x
  only_8_writes = does.x

  pub only_4_refuses : (c.line ≡ 4 → is_above_limit algorithm next ≡ false) → (any_line algorithm n i next s c).stop ≡ no_refusal
  only_4_refuses = does.stop

  pub only_6_and_7_wait : within first_line last_line c.line ≡ true → (c.line ≡ 6 → ⊥) → (c.line ≡ 7 → ⊥)
      → (any_line algorithm n i next s c).stop ≡ no_refusal → (any_line algorithm n i next s c).mark ≡ 1
  only_6_and_7_wait = does.mark
