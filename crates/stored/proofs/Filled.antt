-- Lists of sixteen that are filled from the front: `filled f k rest` has f 1 to f k, and then rest.
use Prim.Native.Nat.{ℕ, suc, ◌+◌, ◌-◌, ◌*◌, ◌<◌, ◌≤◌}
use mathlib.Core.Path.{◌≡◌, refl, ap, ◌∙◌}
use mathlib.Core.List.{List, [], ◌∷◌, ◌++◌, append_assoc}
use native.Mathlib.Omega.{arith}
use lib.ListN.{length, get_or, replicate, set, length-append, length-replicate, get_or-replicate}
use lib.Seq.{set_at}
use Rattle.laws.specs.InTurn.{in_turn}
use Rattle.laws.proofs.InTurn.{turn_more, turn_length}
use Rattle.laws.proofs.Standing.{stands_itself, stands_first, first_stands, second_stands, turn_stands}
use Rattle.fields.specs.Numbers.{slots}
use Rattle.stored.specs.Fields.{filled}

-- Its elements.
module _ {A : Type 0} (f : ℕ → A) (k : ℕ) (rest : A) where
  abbrev those : List A
  those = in_turn (λ i. f i ∷ []) k

  abbrev others : List A
  others = replicate (slots - k) rest

  those_length : length those ≡ k
  those_length = omega (arith, turn_length (λ i. f i ∷ []) 1 (λ _. refl) k)

  pub filled_length : k ≤ slots → length (filled f k rest) ≡ slots
  unfolding filled
  filled_length h = length-append those others ∙ omega (arith, those_length, length-replicate (slots - k) rest)

  module _ (d : A) where
    pub filled_first : (i : ℕ) → 1 ≤ i → i ≤ k → get_or (filled f k rest) (i - 1) d ≡ f i
    unfolding filled
    filled_first i low high =
        let stand = first_stands those others (stands_itself {d = d} (filled f k rest)) in
        let place : 0 + 1 * (i - 1) ≡ i - 1 = omega arith in
        rw place at (stands_first (f i) [] (turn_stands (λ i. f i ∷ []) 1 (λ _. refl) k stand i low high))

    pub filled_after : (i : ℕ) → k < i → i ≤ slots → get_or (filled f k rest) (i - 1) d ≡ rest
    unfolding filled
    filled_after i low high =
        let stand = second_stands those others (stands_itself {d = d} (filled f k rest)) in
        let place : 0 + length those + (i - 1 - k) ≡ i - 1 = omega (arith, those_length) in
        (rw place at (stand.each (i - 1 - k) (omega (arith, length-replicate (slots - k) rest))))
        ∙ get_or-replicate (slots - k) (i - 1 - k) rest d (omega arith)

-- A loop that fills it: nothing at first, and then one element more each time.
module _ {A : Type 0} (f : ℕ → A) (rest : A) where
  pub filled_none : filled f 0 rest ≡ replicate slots rest
  unfolding filled in_turn
  filled_none = refl

  pub filled_more : (k : ℕ) → k < slots → set (filled f k rest) k (f (k + 1)) ≡ filled f (k + 1) rest
  unfolding filled
  filled_more k h =
      let front = those f k rest in
      let left : slots - k ≡ suc (slots - (k + 1)) = omega arith in
      ap (λ m. set (front ++ replicate m rest) k (f (k + 1))) left
      ∙ set_at front rest (others f (k + 1) rest) (f (k + 1)) k (those_length f k rest)
      ∙ rw (turn_more (λ i. f i ∷ []) k, append_assoc front (f (k + 1) ∷ []) (others f (k + 1) rest))
