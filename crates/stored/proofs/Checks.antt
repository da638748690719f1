-- The checks of a form: a list of them has no fault just where every one holds; and the first fault of checks one after another is the
-- first part's, or, where that has none, the next part's.
use Prim.Native.Nat.{ℕ, zero, suc, ◌-◌, ◌≤◌}
use mathlib.Core.Path.{◌≡◌, refl, sym, ap, ◌∙◌}
use mathlib.Core.Bool.{true, false}
use mathlib.Core.List.{List, [], ◌∷◌, ◌++◌}
use mathlib.Core.Logic.{⊎_elim}
use native.Mathlib.Omega.{arith}
use native.Mathlib.Nat.{eq-or-lt_of_le}
use Rattle.std.specs.Prelude.{Result, Ok, Err, IsErrAnd}
use Rattle.std.specs.Result.{result_and}
use Rattle.laws.specs.InTurn.{in_turn}
use Rattle.laws.proofs.Tests.{up_to_next}
use Rattle.stored.specs.Reading.{Check, check, first_fault}
use Rattle.stored.specs.declared.Found.{Found}

-- every check of a list holds
abbrev pub Hold : List Check → Type 0
Hold [] = Unit {0}
Hold (check holds fault place ∷ later) = (holds ≡ true) × Hold later

pub hold_no_fault : (checks : List Check) → Hold checks → first_fault checks ≡ Ok tt
unfolding first_fault
hold_no_fault [] h = refl
hold_no_fault (check holds fault place ∷ later) h = rw h.0 (hold_no_fault later h.1)

pub no_fault_hold : (checks : List Check) → first_fault checks ≡ Ok tt → Hold checks
unfolding first_fault
no_fault_hold [] e = tt
no_fault_hold (check true fault place ∷ later) e = (refl, no_fault_hold later e)
no_fault_hold (check false fault place ∷ later) e = let never : ◌≡◌ {A = ℕ} 0 1 = cc in absurd (omega arith)

-- Checks followed by others.
both_hold : (first second : List Check) → Hold first → Hold second → Hold (first ++ second)
both_hold [] second f g = g
both_hold (check holds fault place ∷ later) second f g = (f.0, both_hold later second f.1 g)

halves_hold : (first second : List Check) → Hold (first ++ second) → Hold first × Hold second
halves_hold [] second h = (tt, h)
halves_hold (check holds fault place ∷ later) second h =
    let halves = halves_hold later second h.1 in
    ((h.0, halves.0), halves.1)

-- Those of pieces in turn.
module _ (f : ℕ → List Check) where
  pub turn_holds : (k : ℕ) → Hold (in_turn f k) → (i : ℕ) → 1 ≤ i → i ≤ k → Hold (f i)
  unfolding in_turn
  turn_holds zero h = λ i low high. absurd (omega arith)
  turn_holds (suc k) h =
      let halves = halves_hold (in_turn f k) (f (suc k)) h in
      up_to_next (λ i. Hold (f i)) k (turn_holds k halves.0) halves.1

  pub turns_hold : (k : ℕ) → ((i : ℕ) → 1 ≤ i → i ≤ k → Hold (f i)) → Hold (in_turn f k)
  unfolding in_turn
  turns_hold zero h = tt
  turns_hold (suc k) h =
      both_hold (in_turn f k) (f (suc k)) (turns_hold k (λ i low high. h i low (omega arith))) (h (suc k) (omega arith) (omega arith))

-- checks followed by others: the search goes on where it has found nothing
first_append : (a b : List Check) → first_fault (a ++ b) ≡ result_and (first_fault a) (first_fault b)
unfolding first_fault
first_append [] b = refl
first_append (check true f p ∷ a) b = first_append a b
first_append (check false f p ∷ a) b = refl

module _ (a b : List Check) where
  -- a fault of the first part is the fault of both
  pub found_first : {found : Found} → Err found ≡ first_fault a → Err found ≡ first_fault (a ++ b)
  found_first e = sym (first_append a b ∙ rw (sym e))

  -- where the first part has none, it is the second part's
  pub found_next : {r : Result (Unit {0}) Found} → Ok tt ≡ first_fault a → r ≡ first_fault b → r ≡ first_fault (a ++ b)
  found_next none e = e ∙ sym (first_append a b ∙ rw (sym none))

-- The checks of 1 to n in turn, of which those before i have no fault.
module _ (f : ℕ → List Check) where
  -- nor have those up to i where its own have none
  pub none_more : (i : ℕ) → 1 ≤ i → Ok tt ≡ first_fault (in_turn f (i - 1)) → Ok tt ≡ first_fault (f i)
      → Ok tt ≡ first_fault (in_turn f i)
  unfolding in_turn
  none_more zero low none e = absurd (omega arith)
  none_more (suc k) low none e =
      let off : suc k - 1 ≡ k = omega arith in
      found_next (in_turn f k) (f (suc k)) (rw off at none) e

  -- and a fault of its own is the fault of all
  pub found_at : (i n : ℕ) {found : Found} → 1 ≤ i → i ≤ n → Ok tt ≡ first_fault (in_turn f (i - 1)) → Err found ≡ first_fault (f i)
      → Err found ≡ first_fault (in_turn f n)
  unfolding in_turn
  found_at i zero low high none e = absurd (omega arith)
  found_at i (suc n) low high none e =
      ⊎_elim
      (λ q. let off : i - 1 ≡ n = omega arith in found_next (in_turn f n) (f (suc n)) (rw off at none) (rw q at e))
      (λ l. found_first (in_turn f n) (f (suc n)) (found_at i n low (omega arith) none e))
      (eq-or-lt_of_le high)

-- what a `?` hands on
pub handed_on : {r : Result (Unit {0}) Found} {found : Found} → IsErrAnd r (λ e. e ≡ found) → r ≡ Err found
handed_on {r = Ok done} h = absurd h
handed_on {r = Err e} h = ap Err h
