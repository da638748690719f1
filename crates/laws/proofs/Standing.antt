-- A piece that stands in a list from a place on: what a writer leaves there, and what a reader finds there.
use Prim.Native.Nat.{ℕ, zero, suc, ◌+◌, ◌-◌, ◌*◌, ◌<◌, ◌≤◌}
use mathlib.Core.Path.{◌≡◌, sym, ◌∙◌}
use mathlib.Core.List.{List, [], ◌∷◌, ◌++◌}
use native.Mathlib.Omega.{arith}
use native.Mathlib.Nat.{le_of_suc-le-suc}
use native.Mathlib.Decide.{dec_lt}
use lib.ListN.{length, get_or, get_or-append, length-append}
use lib.Seq.{ext_get_or, get_or-append-add}
use Rattle.laws.proofs.Tests.{up_to_next}
use Rattle.laws.specs.InTurn.{in_turn}
use Rattle.laws.proofs.InTurn.{turn_length}

-- each element of the piece is in s, at its place; d is what a list gives past its end
pub record Stands {A : Type 0} (d : A) (s : List A) (at : ℕ) (piece : List A) : Type 0 where
  pub each : (k : ℕ) → k < length piece → get_or s (at + k) d ≡ get_or piece k d

-- The same of a piece that is written out, as an equation for each element; the piece is what is left from its place k on.
abbrev pub Listed : {A : Type 0} → A → List A → ℕ → ℕ → List A → Type 0
Listed d s at k [] = Unit {0}
Listed d s at k (a ∷ later) = (get_or s (at + k) d ≡ a) × Listed d s at (suc k) later

listed_at : {A : Type 0} (d : A) (s : List A) (at k : ℕ) (piece : List A) → Listed d s at k piece
    → (j : ℕ) → j < length piece → get_or s (at + (k + j)) d ≡ get_or piece j d
listed_at d s at k [] h j l = absurd (omega arith)
listed_at d s at k (a ∷ later) h zero l = let e : k + 0 ≡ k = omega arith in rw e h.0
listed_at d s at k (a ∷ later) h (suc j) l =
    let e : k + suc j ≡ suc k + j = omega arith in
    rw e (listed_at d s at (suc k) later h.1 j (le_of_suc-le-suc l))

module _ {A : Type 0} {d : A} where
  -- A list stands in itself; and what stands in a list from its start on, and is as long, is that list.
  pub stands_itself : (s : List A) → Stands d s 0 s
  stands_itself s = record { each = λ k l. let e : 0 + k ≡ k = omega arith in rw e }

  pub stands_whole : (s piece : List A) → length s ≡ length piece → Stands d s 0 piece → piece ≡ s
  stands_whole s piece e h =
      ext_get_or d piece s (sym e) (λ k l. let off : 0 + k ≡ k = omega arith in sym (rw off at (h.each k l)))

  module _ {s : List A} {at : ℕ} where
    -- A piece by its elements: the first is at the place itself.
    pub stands_first : (a : A) (later : List A) → Stands d s at (a ∷ later) → get_or s at d ≡ a
    stands_first a later h = let e : at + 0 ≡ at = omega arith in rw e at (h.each 0 (omega arith))

    pub listed_stand : (a : A) (later : List A) → get_or s at d ≡ a → Listed d s at 1 later → Stands d s at (a ∷ later)
    listed_stand a later first rest = record { each = each }
      where
        each : (k : ℕ) → k < suc (length later) → get_or s (at + k) d ≡ get_or (a ∷ later) k d
        each zero l = let e : at + 0 ≡ at = omega arith in rw e first
        each (suc k) l = let e : suc k ≡ 1 + k = omega arith in rw e (listed_at d s at 1 later rest k (le_of_suc-le-suc l))

    -- A piece followed by another.
    module _ (a b : List A) where
      pub first_stands : Stands d s at (a ++ b) → Stands d s at a
      first_stands h = record { each = λ k l. h.each k (omega (arith, length-append a b)) ∙ get_or-append a b d k l }

      pub second_stands : Stands d s at (a ++ b) → Stands d s (at + length a) b
      second_stands h = record { each = each }
        where
          each : (k : ℕ) → k < length b → get_or s (at + length a + k) d ≡ get_or b k d
          each k l =
              let place : at + length a + k ≡ at + (length a + k) = omega arith in
              rw place (h.each (length a + k) (omega (arith, length-append a b)) ∙ get_or-append-add a b k d)

      pub both_stand : Stands d s at a → Stands d s (at + length a) b → Stands d s at (a ++ b)
      both_stand f g = record { each = λ k l. by_place k l (dec_lt k (length a)) }
        where
          by_place : (k : ℕ) → k < length (a ++ b) → Dec (k < length a) → get_or s (at + k) d ≡ get_or (a ++ b) k d
          by_place k l (yes p) = f.each k p ∙ sym (get_or-append a b d k p)
          by_place k l (no p) =
              let j = k - length a in
              let within : k ≡ length a + j = omega arith in
              let place : at + (length a + j) ≡ at + length a + j = omega arith in
              rw within (rw place (g.each j (omega (arith, length-append a b))) ∙ sym (get_or-append-add a b j d))

    -- Pieces of one length in turn.
    module _ (f : ℕ → List A) (m : ℕ) (each : (i : ℕ) → length (f i) ≡ m) where
      pub turn_stands : (k : ℕ) → Stands d s at (in_turn f k) → (i : ℕ) → 1 ≤ i → i ≤ k → Stands d s (at + m * (i - 1)) (f i)
      unfolding in_turn
      turn_stands zero h = λ i low high. absurd (omega arith)
      turn_stands (suc k) h =
          let off : suc k - 1 ≡ k = omega arith in
          up_to_next (λ i. Stands d s (at + m * (i - 1)) (f i)) k (turn_stands k (first_stands (in_turn f k) (f (suc k)) h))
          (rw (off, ← turn_length f m each k) (second_stands (in_turn f k) (f (suc k)) h))

      pub turns_stand : (k : ℕ) → ((i : ℕ) → 1 ≤ i → i ≤ k → Stands d s (at + m * (i - 1)) (f i)) → Stands d s at (in_turn f k)
      unfolding in_turn
      turns_stand zero h = record { each = λ k l. absurd (omega arith) }
      turns_stand (suc k) h =
          let off : suc k - 1 ≡ k = omega arith in
          both_stand (in_turn f k) (f (suc k)) (turns_stand k (λ i low high. h i low (omega arith)))
          (rw (turn_length f m each k) (rw off at (h (suc k) (omega arith) (omega arith))))
