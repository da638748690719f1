-- The laws of the counts over the turns of a course: what comes of turns after other turns, and of one turn more.
use Prim.Native.Nat.{ℕ, suc, ◌+◌, ◌≤◌, ◌<◌}
use mathlib.Core.Path.{◌≡◌, refl, sym, ap, ◌∙◌}
use mathlib.Core.Bool.{Bool, true, false, cond}
use mathlib.Core.List.{List, [], ◌∷◌, ◌++◌, append-nil, map-append}
use mathlib.Core.Logic.{◌⊎◌, ⊎_elim}
use native.Mathlib.Omega.{arith}
use lib.ListN.{length, set, length-append, length-map}
use Rattle.laws.specs.Lent.{in_front}
use Rattle.laws.proofs.Tests.{by_test, of_choice}
use Rattle.laws.proofs.Writes.{in_front_more}
use Rattle.courses.specs.Course.{Turn, those, changed, moved_in, waited_in, processes_of}

-- The turns of which f holds, how many they are, and their processes.
module _ (f : Turn → Bool) where
  those_append : (us vs : List Turn) → those f (us ++ vs) ≡ those f us ++ those f vs
  unfolding those
  those_append [] vs = refl
  those_append (u ∷ us) vs =
      rw (those_append us vs) (sym (of_choice (λ (l : List Turn). l ++ those f vs) (f u) (u ∷ those f us) (those f us)))

  pub count_append : (us vs : List Turn) → length (those f (us ++ vs)) ≡ length (those f us) + length (those f vs)
  count_append us vs = rw (those_append us vs) (length-append (those f us) (those f vs))

  pub processes_append : (us vs : List Turn) → processes_of (those f (us ++ vs)) ≡ processes_of (those f us) ++ processes_of (those f vs)
  processes_append us vs = rw (those_append us vs) (map-append (λ (u : Turn). u.process) (those f us) (those f vs))

  pub count_most : (us : List Turn) → length (those f us) ≤ length us
  unfolding those
  count_most [] = omega arith
  count_most (u ∷ us) =
      by_test (λ (l : List Turn). length l ≤ suc (length us)) (f u)
      (λ _. omega (arith, count_most us)) (λ _. omega (arith, count_most us))

  pub processes_count : (us : List Turn) → length (processes_of (those f us)) ≡ length (those f us)
  processes_count us = length-map (those f us) (λ (u : Turn). u.process)

  -- One turn more.
  module _ (u : Turn) (us : List Turn) where
    pub count_more : length (those f (us ++ (u ∷ []))) ≡ length (those f us) + cond (f u) 1 0
    unfolding those
    count_more = count_append us (u ∷ []) ∙ ap (λ (k : ℕ). length (those f us) + k) (of_choice length (f u) (u ∷ []) [])

    processes_more : processes_of (those f (us ++ (u ∷ []))) ≡ processes_of (those f us) ++ cond (f u) (u.process ∷ []) []
    unfolding those
    processes_more =
        processes_append us (u ∷ [])
        ∙ ap (λ (l : List ℕ). processes_of (those f us) ++ l) (of_choice processes_of (f u) (u ∷ []) [])

    -- Its process is written to the buffer after those before it, where f holds of it.
    pub noted : (buffer : List ℕ) → length (those f us) < length buffer
        → let front = in_front (processes_of (those f us)) buffer in
        cond (f u) (set front (length (those f us)) u.process) front ≡ in_front (processes_of (those f (us ++ (u ∷ [])))) buffer
    noted buffer room =
        rw processes_more
        (by_bool (f u)
        (rw (← processes_count us) (in_front_more (processes_of (those f us)) buffer u.process (rw (processes_count us) room))))
      where
        before : List ℕ
        before = processes_of (those f us)

        by_bool : (b : Bool)
            → set (in_front before buffer) (length (those f us)) u.process ≡ in_front (before ++ (u.process ∷ [])) buffer
            → cond b (set (in_front before buffer) (length (those f us)) u.process) (in_front before buffer)
            ≡ in_front (before ++ cond b (u.process ∷ []) []) buffer
        by_bool true e = e
        by_bool false e = rw (append-nil before)

-- no turn
pub counts_none : moved_in [] + waited_in [] ≡ length {A = Turn} []
unfolding those
counts_none = refl

-- One turn more, whose mark is 0 or 1.
module _ (u : Turn) (us : List Turn) (mark : (u.mark ≡ 0) ⊎ (u.mark ≡ 1)) where
  pub counts_first : moved_in us + waited_in us ≡ length us → moved_in (u ∷ us) + waited_in (u ∷ us) ≡ length (u ∷ us)
  unfolding those
  counts_first e = ⊎_elim (λ m. rw m (omega (arith, e))) (λ m. rw m (omega (arith, e))) mark

  pub moved_more : moved_in (us ++ (u ∷ [])) ≡ moved_in us + u.mark
  moved_more = count_more changed u us ∙ ⊎_elim (λ m. rw m) (λ m. rw m) mark
